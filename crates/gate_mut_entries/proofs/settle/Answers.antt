-- Where a mark or what is in flight changes, the three are stored.
use mathlib.Core.Path.{sym, ◌∙◌}
use Rattle.vcpu_entries.proofs.Moves.{settled_kept, settled_stored}
use Rattle.gate_mut_entries.proofs.settle.Goals as goal

pub returns-in-Some : goal.returns-in-Some
returns-in-Some c = settled_stored c.args.presentation c.args.v.now c.in-Some.marks (sym c.in-Some.is ∙ c.marks_after.ensures)

pub returns-in_default : goal.returns-in_default
returns-in_default c = settled_kept c.args.presentation c.args.v.now (sym c.in_default.is ∙ c.marks_after.ensures)
