use Rattle.console.specs.Filling.{Adds}
use Rattle.console_lines.specs.Lines.{cells_from}
use Rattle.console_lines.proofs.answers.put_cells.Given as goal

abbrev pub invariant-loop-k : goal.invariant-loop-k
invariant-loop-k l = Adds (cells_from l.first l.k l.part) l.initial.out l.out
