-- `console_lines::answers::put_unreadable` meets its contract.
use Rattle.console.proofs.Fills.{puts_more}
use Rattle.console_lines.proofs.answers.put_unreadable.Goals as goal

pub returns : goal.returns
returns c = puts_more c.put_decimal.ensures c.put.ensures
