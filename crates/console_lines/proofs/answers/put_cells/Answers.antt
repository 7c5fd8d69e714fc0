-- `console_lines::answers::put_cells` meets its contract.
use Rattle.console.proofs.Fills.{puts_none, puts_same, puts_more}
use Rattle.console_lines.specs.Lines.{cells_from}
use Rattle.console_lines.proofs.Below.{part_more, all_of_part}
use Rattle.console_lines.proofs.answers.put_cells.Goals as goal

pub loop-k-init : goal.loop-k-init
unfolding cells_from
loop-k-init c = puts_none _ _

pub loop-k-preserved : goal.loop-k-preserved
loop-k-preserved c = let l = c.loop-k in puts_same (part_more c.args.first _ l.k) (puts_more l.invariant c.put_cell.ensures)

pub returns : goal.returns
returns c = let l = c.loop-k in puts_same (all_of_part c.args.first _ l.k l.auto.k-end c.loop-k-test.false) l.invariant
