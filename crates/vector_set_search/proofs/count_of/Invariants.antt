use mathlib.Core.Path.{◌≡◌}
use Prim.Native.Nat.{◌*◌}
use Rattle.vector_set.specs.Sets.{count_below}
use Rattle.vector_set_search.proofs.count_of.Given as goal

abbrev pub invariant-loop-pair : goal.invariant-loop-pair
invariant-loop-pair l = l.members ≡ count_below l.s (64 * l.pair)
