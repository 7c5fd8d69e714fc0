-- What a closure that changes nothing gave at each index of an array that it made. Assumes nothing.
use Rattle.std.proofs.Common.{◌≡◌, refl, subst, arith, ℕ, zero, suc, ◌+◌, ◌<◌, ◌≤◌, List, get_or, sym, Bool, true, false}
use Rattle.std.specs.Fn.{Mut, Called}
use Rattle.std.specs.Array.{IsFromFnResultFrom}
use lib.Dec.{eqb}
use borrow.Author.Tests.{eqb-true, eqb-false}

module _ {F : Type 0} (g : Mut F (ℕ × Unit {0}) ℕ) (f : F) (P : ℕ → ℕ → Type 0)
    (step : (i y : ℕ) (q : F) → Called g f (i, tt) y q → P i y × (q ≡ f)) (ys : List ℕ) where
  pub made_at : (i n k : ℕ) → IsFromFnResultFrom g f ys i n → i ≤ k → k < i + n → P k (get_or ys k 0)
  made_at i zero k made l h = let z : ⊥ = omega arith in absurd z
  made_at i (suc n) k made l h =
      go (eqb i k) refl (λ d. made_at (i + 1) n k (subst (λ q. IsFromFnResultFrom g q ys (i + 1) n) here.1 made.4) (omega arith) (omega arith))
    where
      here : P i made.1 × (made.0 ≡ f)
      here = step i made.1 made.0 made.3

      go : (b : Bool) → eqb i k ≡ b → ((i ≡ k → ⊥) → P k (get_or ys k 0)) → P k (get_or ys k 0)
      go true e later = subst (λ j. P j (get_or ys j 0)) (eqb-true i k e) (subst (P i) (sym (made.2.1 0)) here.0)
      go false e later = later (eqb-false i k e)
