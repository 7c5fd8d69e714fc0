-- How numbers go on along a word, by digit, base and bound.
-- Assumes nothing.
use mathlib.Core.Path.{◌≡◌, refl, ◌∙◌}
use mathlib.Core.Bool.{Bool, true, false, cond}
use mathlib.Core.List.{List, [], ◌∷◌}
use Prim.Native.Nat.{ℕ, ◌+◌, ◌*◌, ◌^◌, ◌≤◌, ◌<◌}
use native.Mathlib.Numerals.{add-one}
use native.Mathlib.Nat.{le-mul_of_pos_right}
use native.Mathlib.Omega.{arith}
use lib.Dec.{ltb}
use lib.ListN.{length, get_or, drop}
use lib.Seq.{drop-cons}
use borrow.Author.Tests.{lt-ltb, le-ltb}
use Rattle.std.specs.Prelude.{Option, Some, None}
use Rattle.std.specs.Option.{option_and_then}
use Rattle.trace.specs.Numbers.{digit, digits_from, digits_of}

chosen : (t : Bool) {x : Option ℕ} → x ≡ None → cond t x None ≡ None
chosen true e = e
chosen false e = refl

-- a value that is too large stays so
too_large : (base v : ℕ) (s : List ℕ) → 0 < base → 2 ^ 64 ≤ v → digits_from base v s ≡ None
unfolding digits_from
too_large base v [] p h = rw (le-ltb v (2 ^ 64) h)
too_large base v (b ∷ s) p h = go (digit b) λ d. too_large base (v * base + d) s p (omega (arith, le-mul_of_pos_right v p))
  where
    go : (n : Option ℕ) → ((d : ℕ) → digits_from base (v * base + d) s ≡ None)
        → option_and_then (λ d. cond (ltb d base) (digits_from base (v * base + d) s) None) n ≡ None
    go None f = refl
    go (Some d) f = chosen (ltb d base) (f d)

module _ (base v : ℕ) (s : List ℕ) (i : ℕ) (h : i < length s) where
  module _ (d : ℕ) (e : digit (get_or s i 0) ≡ Some d) where
    digits_more : d < base → digits_from base v (drop i s) ≡ digits_from base (v * base + d) (drop (i + 1) s)
    unfolding digits_from
    digits_more l = rw (add-one, drop-cons s i 0 h, e, lt-ltb d base l)

    pub digits_over : 0 < base → d < base → 2 ^ 64 ≤ v * base + d → digits_from base v (drop i s) ≡ None
    digits_over p l o = digits_more l ∙ too_large base (v * base + d) (drop (i + 1) s) p o

pub digits_some : (base : ℕ) (s : List ℕ) → 0 < length s → digits_of base s ≡ digits_from base 0 s
unfolding digits_of
digits_some base [] h = let z : ⊥ = omega arith in absurd z
digits_some base (b ∷ s) h = refl
