-- The bytes below i are the set's.
use mathlib.Core.Path.{◌≡◌}
use Prim.Native.Nat.{ℕ, ◌*◌, ◌<◌}
use lib.ListN.{length, get_or}
use Rattle.vector_set.specs.Bits.{bits}
use Rattle.vector_set.specs.Sets.{has}
use Rattle.hand_back.proofs.write_set.Given as goal

abbrev pub invariant-loop-i : goal.invariant-loop-i
invariant-loop-i l = record {
  long : length l.d ≡ 32;
  filled : (j : ℕ) → j < l.i → get_or l.d j 0 ≡ bits (has l.fn.s) (8 * j) 8;
}
