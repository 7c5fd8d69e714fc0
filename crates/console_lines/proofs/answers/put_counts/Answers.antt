-- `console_lines::answers::put_counts` meets its contract.
use Rattle.console.proofs.Fills.{puts_more}
use Rattle.console_lines.proofs.Below.{put_as}
use Rattle.console_lines.proofs.answers.put_counts.Goals as goal

pub returns : goal.returns
returns c = puts_more (put_as _ c.from.ensures c.put_hex.ensures) (put_as _ c.from-2.ensures c.put_hex-2.ensures)
