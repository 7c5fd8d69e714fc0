-- `console_lines::answers::put_plain` meets its contract.
use Rattle.console.proofs.Fills.{puts_more}
use Rattle.console_lines.proofs.answers.put_plain.Goals as goal

pub returns : goal.returns
returns c = puts_more c.put_answer.ensures c.put.ensures
