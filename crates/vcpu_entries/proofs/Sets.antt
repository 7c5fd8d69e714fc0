-- A level mark that moves with its vector: the set is that of the definitions.
-- Assumes nothing.
use mathlib.Core.Path.{◌≡◌, sym}
use mathlib.Core.Bool.{true, false, or_comm, or-false, and-true, and-false}
use mathlib.Core.List.{List}
use Prim.Native.Nat.{ℕ}
use lib.Dec.{eqb}
use Rattle.vector_set.specs.Sets.{has, insert}
use Rattle.vector_set.proofs.Laws.{Words, collect_ext, collect_is}
use Rattle.model.specs.Events.{gains}

pub gains_in : (x : ℕ) (s t : List ℕ) → has s x ≡ true → insert x t ≡ gains x s t
unfolding insert
gains_in x s t h = collect_ext _ _ (λ v l. rw (h, and-true (eqb v x)) (or_comm (eqb v x) (has t v)))

pub gains_out : (x : ℕ) (s t : List ℕ) → has s x ≡ false → Words t → t ≡ gains x s t
gains_out x s t h w = collect_is _ t w (λ v l. rw (h, and-false (eqb v x)) (sym (or-false (has t v))))
