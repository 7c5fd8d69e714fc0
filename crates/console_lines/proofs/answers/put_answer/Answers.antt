-- `console_lines::answers::put_answer` meets its contract.
use Rattle.std.proofs.Common.{◌∙◌}
use Rattle.console.proofs.Fills.{puts_more, puts_of}
use Rattle.console_lines.specs.Lines.{answer_text}
use Rattle.console_lines.proofs.Below.{put_as}
use Rattle.console_lines.proofs.answers.put_answer.Goals as goal

pub returns-in-Ok : goal.returns-in-Ok
returns-in-Ok c = puts_more c.put.ensures (puts_of answer_text c.in-Ok.is c.put_given.ensures)

pub returns-in-Err : goal.returns-in-Err
returns-in-Err c = puts_more c.put.ensures (puts_of answer_text c.in-Err.is (put_as _ (c.from.ensures ∙ c.code.ensures) c.put_hex.ensures))
