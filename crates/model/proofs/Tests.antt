-- Laws of tests that compute, for the claims' proofs.
-- Assumes nothing.
use mathlib.Core.Path.{◌≡◌, refl}
use mathlib.Core.Bool.{Bool, true, false, not}
use Prim.Native.Nat.{ℕ, ◌<◌}
use native.Mathlib.Omega.{arith}
use lib.Dec.{leb, ltb, eqb}
use borrow.Author.Tests.{leb-true, leb-false, lt-ltb, le-ltb, eq-eqb, ne_eqb}

pub eqb_above : (x a : ℕ) → a < x → eqb x a ≡ false
eqb_above x a h = ne_eqb x a (λ (q : x ≡ a). omega arith)

pub eqb_below : (x a : ℕ) → x < a → eqb x a ≡ false
eqb_below x a h = ne_eqb x a (λ (q : x ≡ a). omega arith)

-- a test and its opposite
pub ltb_leb : (a b : ℕ) → ltb a b ≡ not (leb b a)
ltb_leb a b = pick (leb b a) refl
  where
    pick : (t : Bool) → leb b a ≡ t → ltb a b ≡ not t
    pick true e = le-ltb a b (leb-true b a e)
    pick false e = lt-ltb a b (leb-false b a e)

pub zero_leb : (k : ℕ) → eqb k 0 ≡ not (leb 1 k)
zero_leb k = pick (leb 1 k) refl
  where
    pick : (t : Bool) → leb 1 k ≡ t → eqb k 0 ≡ not t
    pick true e = eqb_above k 0 (leb-true 1 k e)
    pick false e = let h = leb-false 1 k e in eq-eqb k 0 (omega arith)
