-- `console_lines::answers::put_given` meets its contract.
use Rattle.console.proofs.Fills.{puts_none, puts_of}
use Rattle.console_lines.specs.Lines.{given_text}
use Rattle.console_lines.proofs.answers.put_given.Goals as goal

pub returns-in-Nothing : goal.returns-in-Nothing
returns-in-Nothing c = puts_of given_text c.in-Nothing.is (puts_none _ _)
