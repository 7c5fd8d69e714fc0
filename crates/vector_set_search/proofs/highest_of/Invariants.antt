use mathlib.Core.Path.{◌≡◌}
use mathlib.Core.Bool.{false}
use Prim.Native.Nat.{ℕ, ◌*◌, ◌≤◌, ◌<◌}
use Rattle.vector_set.specs.Sets.{has}
use Rattle.vector_set_search.proofs.highest_of.Given as goal

abbrev pub invariant-loop-k : goal.invariant-loop-k
invariant-loop-k l = (w : ℕ) → w < 256 → 32 * l.k ≤ w → has l.s w ≡ false
