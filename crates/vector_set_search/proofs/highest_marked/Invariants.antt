use Rattle.vector_set_search.proofs.Turns.{Left}
use Rattle.vector_set_search.proofs.highest_marked.Given as goal

abbrev pub invariant-loop-left : goal.invariant-loop-left
invariant-loop-left l = Left l.marks l.s l.left l.number

abbrev pub decreases-loop-left : goal.decreases-loop-left
decreases-loop-left l = l.left
