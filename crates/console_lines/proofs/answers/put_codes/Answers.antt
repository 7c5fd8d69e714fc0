-- `console_lines::answers::put_codes` meets its contract.
use Rattle.console.proofs.Fills.{puts_none, puts_same, puts_more}
use Rattle.console_lines.specs.Lines.{codes_below}
use Rattle.console_lines.proofs.Below.{code_more, all_codes}
use Rattle.console_lines.proofs.answers.put_codes.Goals as goal

pub loop-code-init : goal.loop-code-init
unfolding codes_below
loop-code-init c = puts_none _ _

pub loop-code-preserved : goal.loop-code-preserved
loop-code-preserved c = let l = c.loop-code in puts_same (code_more _ l.code-index) (puts_more l.invariant c.put_code.ensures)

pub returns : goal.returns
returns c = let l = c.loop-code in puts_same (all_codes _ l.code-index l.auto.code-index-end c.loop-code-test.false) l.invariant
