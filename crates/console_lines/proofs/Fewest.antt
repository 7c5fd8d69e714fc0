-- The digits that `io` writes are the numeral.
-- Assumes nothing.
use mathlib.Core.Path.{◌≡◌, refl, ap, ◌∙◌, subst}
use mathlib.Core.Bool.{Bool, true, false, cond}
use mathlib.Core.List.{List, [], ◌∷◌, ◌++◌}
use Prim.Native.Nat.{ℕ, zero, suc, ◌-◌, ◌*◌, ◌/◌, ◌%◌, ◌^◌, ◌≤◌, ◌<◌}
use native.Mathlib.Nat.{one-le-pow, pow-zero, pow-succ', mul_comm, le-mul_of_pos_right, div-lt_iff_lt-mul, le-div_iff_mul-le}
use native.Mathlib.Omega.{arith}
use lib.Dec.{ltb, lit<}
use lib.ListN.{take}
use borrow.Author.Tests.{ltb-true, ltb-false}
use Rattle.io.specs.Digits.{hex_digit_ascii, last_digits, IsDigitCount}
use Rattle.console_lines.specs.Numerals.{numeral}

pow_one : (b : ℕ) → b ^ 1 ≡ b
pow_one b = let z : b ^ 0 ≡ 1 = pow-zero b in pow-succ' b 0 ∙ ap (λ (m : ℕ). b * m) z ∙ omega arith

-- a number below the base is one digit
one_digit : (b k n : ℕ) → 0 < b → n < b → IsDigitCount b 1 n k → last_digits b k n ≡ hex_digit_ascii (n % b) ∷ []
one_digit b zero n p h f = absurd (omega (arith, f.0))
one_digit b (suc zero) n p h f = refl
one_digit b (suc (suc k)) n p h f =
    let e : suc (suc k) - 1 ≡ suc k = omega arith in
    let l : b ^ suc k ≤ n = subst (λ (m : ℕ). b ^ m ≤ n) e (f.2 (omega arith)) in
    let g : b ^ suc k ≡ b * b ^ k = pow-succ' b k in
    let q : b ≤ b * b ^ k = le-mul_of_pos_right b (one-le-pow k b p) in absurd (omega (arith, l, g, h, q))

-- of a number that is not, the last digit stands behind those of the rest
fewest_rest : (b k n : ℕ) → 0 < b → IsDigitCount b 1 n (suc (suc k)) → IsDigitCount b 1 (n / b) (suc k)
fewest_rest b k n p f =
    let u : n < b ^ suc k * b = subst (λ (m : ℕ). n < m) (pow-succ' b (suc k) ∙ mul_comm b (b ^ suc k)) f.1 in (
      omega arith,
      (div-lt_iff_lt-mul p).1 u,
      λ more.
          let e : suc (suc k) - 1 ≡ suc k = omega arith in
          let g : suc k ≡ suc (suc k - 1) = omega (arith, more) in
          let l : b ^ suc k ≤ n = subst (λ (m : ℕ). b ^ m ≤ n) e (f.2 (omega arith)) in
          let w : b ^ suc k ≡ b ^ (suc k - 1) * b = ap (λ (m : ℕ). b ^ m) g ∙ pow-succ' b (suc k - 1) ∙ mul_comm b (b ^ (suc k - 1)) in
          (le-div_iff_mul-le p).1 (subst (λ (m : ℕ). m ≤ n) w l),
    )

-- and it has such a rest
two_digits : (b k n : ℕ) → 0 < b → b ≤ n → IsDigitCount b 1 n k → 1 < k
two_digits b zero n p h f = absurd (omega (arith, f.0))
two_digits b (suc zero) n p h f = let e : b ^ 1 ≡ b = pow_one b in absurd (omega (arith, f.1, e, h))
two_digits b (suc (suc k)) n p h f = omega arith

module _ (b more n : ℕ) (p : 0 < b) (h : n < b ^ suc (suc more))
    (rest : (m : ℕ) → IsDigitCount b 1 (n / b) m → n / b < b ^ suc more → last_digits b m (n / b) ≡ numeral b more (n / b)) where
  split : (k : ℕ) → 1 < k → IsDigitCount b 1 n k → last_digits b k n ≡ numeral b more (n / b) ++ hex_digit_ascii (n % b) ∷ []
  split zero l f = absurd (omega (arith, l))
  split (suc zero) l f = absurd (omega (arith, l))
  split (suc (suc m)) l f =
      let u : n < b ^ suc more * b = subst (λ (x : ℕ). n < x) (pow-succ' b (suc more) ∙ mul_comm b (b ^ suc more)) h in
      ap (λ (s : List ℕ). s ++ hex_digit_ascii (n % b) ∷ []) (rest (suc m) (fewest_rest b m n p f) ((div-lt_iff_lt-mul p).1 u))

  by_size : (k : ℕ) → IsDigitCount b 1 n k → (t : Bool) → ltb n b ≡ t
      → last_digits b k n ≡ cond t (hex_digit_ascii (n % b) ∷ []) (numeral b more (n / b) ++ hex_digit_ascii (n % b) ∷ [])
  by_size k f true e = one_digit b k n p (ltb-true n b e) f
  by_size k f false e = split k (two_digits b k n p (ltb-false n b e) f) f

numeral_is : (b more k n : ℕ) → 0 < b → IsDigitCount b 1 n k → n < b ^ suc more → last_digits b k n ≡ numeral b more n
unfolding numeral
numeral_is b zero k n p f h = let e : b ^ 1 ≡ b = pow_one b in one_digit b k n p (omega (arith, h, e)) f
numeral_is b (suc more) k n p f h = by_size b more n p h (λ m g u. numeral_is b more m (n / b) p g u) k f (ltb n b) refl

-- what `io::hex` and `io::decimal` write
module _ (k n : ℕ) (text : List ℕ) (h : n < 2 ^ 64) where
  pub hex_is : IsDigitCount 16 1 n k → take k text ≡ last_digits 16 k n → take k text ≡ numeral 16 19 n
  hex_is f e = e ∙ numeral_is 16 19 k n (lit< tt) f (omega (arith, h))

  pub decimal_is : IsDigitCount 10 1 n k → take k text ≡ last_digits 10 k n → take k text ≡ numeral 10 19 n
  decimal_is f e = e ∙ numeral_is 10 19 k n (lit< tt) f (omega (arith, h))
