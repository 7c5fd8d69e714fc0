use mathlib.Core.Path.{◌≡◌}
use Rattle.vector_set.specs.Bits.{bits}
use Rattle.vector_set.specs.Summaries.{holds}
use Rattle.vector_set_search.proofs.summary_of.Given as goal

abbrev pub invariant-loop-k : goal.invariant-loop-k
invariant-loop-k l = l.marks ≡ bits (holds l.fn.s) 0 l.k
