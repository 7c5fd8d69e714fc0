-- A number that is printed as `0x` and its hexadecimal digits, as `io::hex` writes them, is read back.
-- Assumes nothing.
use mathlib.Core.Path.{◌≡◌, refl, sym, ap, ◌∙◌}
use mathlib.Core.Bool.{Bool, true, false, cond}
use mathlib.Core.List.{List, [], ◌∷◌, ◌++◌, append_assoc, append-nil}
use Prim.Native.Nat.{ℕ, zero, suc, ◌+◌, ◌*◌, ◌/◌, ◌%◌, ◌^◌, ◌≤◌, ◌<◌}
use native.Mathlib.Nat.{pow-succ', mul_left_comm}
use native.Mathlib.Omega.{arith}
use lib.Dec.{ltb}
use Rattle.std.proofs.lemmas.Bool.Decides.{nat_tests}
use borrow.Author.Tests.{lt-ltb, ltb-true, ltb-false}
use Rattle.io.specs.Digits.{hex_digit_ascii, last_digits}
use Rattle.std.specs.Prelude.{Some}
use Rattle.trace.specs.Numbers.{digit, digits_from, digits_of, is_hex, number_of}

decimal_glyph : (d : ℕ) → d < 10 → digit (48 + d) ≡ Some d
unfolding digit
decimal_glyph d h = grind (arith, nat_tests)

letter_glyph : (d : ℕ) → 10 ≤ d → d < 16 → digit (87 + d) ≡ Some d
unfolding digit
letter_glyph d l h = grind (arith, nat_tests)

digit_glyph : (d : ℕ) → d < 16 → digit (hex_digit_ascii d) ≡ Some d
digit_glyph d h = go (ltb d 10) refl
  where
    go : (t : Bool) → ltb d 10 ≡ t → digit (cond t (48 + d) (87 + d)) ≡ Some d
    go true e = decimal_glyph d (ltb-true d 10 e)
    go false e = letter_glyph d (ltb-false d 10 e) h

times : (v k : ℕ) → v * 16 ^ suc k ≡ 16 * (v * 16 ^ k)
times v k = rw pow-succ' (mul_left_comm v 16 (16 ^ k))

-- k digits of n after the value v
digits_read : (k n v : ℕ) (s : List ℕ) → n < 16 ^ k → digits_from 16 v (last_digits 16 k n ++ s) ≡ digits_from 16 (v * 16 ^ k + n) s
unfolding digits_from
digits_read zero n v s h = let e : v ≡ v * 16 ^ 0 + n = omega arith in ap (λ (x : ℕ). digits_from 16 x s) e
digits_read (suc k) n v s h =
    let g : n % 16 < 16 = omega arith in
    let e : (v * 16 ^ k + n / 16) * 16 + n % 16 ≡ v * 16 ^ suc k + n = omega (arith, times v k) in
    rw append_assoc
    (digits_read k (n / 16) v (hex_digit_ascii (n % 16) ∷ s) (omega arith)
    ∙ rw (digit_glyph (n % 16) g, lt-ltb (n % 16) 16 g, e))

some_digit : (s : List ℕ) (b : ℕ) → digits_of 16 (s ++ b ∷ []) ≡ digits_from 16 0 (s ++ b ∷ [])
unfolding digits_of
some_digit [] b = refl
some_digit (x ∷ s) b = refl

pub reads_back : (k n : ℕ) → n < 16 ^ suc k → n < 2 ^ 64 → number_of (48 ∷ 120 ∷ last_digits 16 (suc k) n) ≡ Some n
unfolding number_of is_hex digits_from
reads_back k n h f =
    let e : 0 * 16 ^ suc k + n ≡ n = omega arith in
    some_digit (last_digits 16 k (n / 16)) (hex_digit_ascii (n % 16))
    ∙ ap (digits_from 16 0) (sym (append-nil (last_digits 16 (suc k) n)))
    ∙ digits_read (suc k) n 0 [] h
    ∙ rw (e, lt-ltb n (2 ^ 64) f)
