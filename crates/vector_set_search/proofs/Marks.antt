-- The byte of marks as code makes it: one bit made anew, and one bit more.
-- Assumes nothing.
use mathlib.Core.Path.{◌≡◌, refl, sym, ap, ap₂, ◌∙◌}
use mathlib.Core.Bool.{Bool, true, false, cond, not, ◌&&◌, ◌||◌}
use Prim.Native.Nat.{ℕ, zero, suc, ◌+◌, ◌-◌, ◌*◌, ◌%◌, ◌^◌, ◌<◌}
use native.Mathlib.Omega.{arith}
use native.Mathlib.Nat.{pow-succ'}
use lib.Dec.{eqb}
use lib.Bits.{bit_and, bit_or, and_lt, or_lt, or_shifted_r}
use lib.Pow.{pow-lt, shl_exact, ones_sub-lt}
use mir.Val.{bool_byte}
use Rattle.vector_set.specs.Bits.{one, bit_at, bits}
use Rattle.vector_set.proofs.BitLaws.{bits_unique, bits_lt, bit_zero, bit_and_lem, bit_or_lem, bit_not, bit_pow}

-- a truth value shifted to bit k of a byte
pub shifted : (t : Bool) (k : ℕ) → k < 8 → bool_byte t * 2 ^ k % 2 ^ 8 ≡ one t * 2 ^ k
shifted true k l = shl_exact {a = 1} 1 k 8 (omega arith) (omega arith)
shifted false k l = shl_exact {a = 0} 1 k 8 (omega arith) (omega arith)

-- ---- one bit made anew
bit_one : (t : Bool) (k j : ℕ) → bit_at (one t * 2 ^ k) j ≡ (t && eqb j k)
bit_one true k j = let e : 1 * 2 ^ k ≡ 2 ^ k = omega arith in ap (λ (x : ℕ). bit_at x j) e ∙ bit_pow k j
bit_one false k j = let e : 0 * 2 ^ k ≡ 0 = omega arith in ap (λ (x : ℕ). bit_at x j) e ∙ bit_zero j

chosen : (p q t : Bool) → ((q && not p) || (t && p)) ≡ cond p t q
chosen true true true = refl
chosen true true false = refl
chosen true false true = refl
chosen true false false = refl
chosen false true true = refl
chosen false true false = refl
chosen false false true = refl
chosen false false false = refl

pub bit_anew : (x k y : ℕ) (t : Bool) → x < 2 ^ 8 → k < 8 → y ≡ one t * 2 ^ k
    → bit_or (bit_and x ((2 ^ 8 - 1) - (1 * 2 ^ k) % 2 ^ 8)) y ≡ bits (λ j. cond (eqb j k) t (bit_at x j)) 0 8
bit_anew x k y t lx lk h =
    let e : (1 * 2 ^ k) % 2 ^ 8 ≡ 2 ^ k = shifted true k lk ∙ omega arith in
    ap₂ (λ (y z : ℕ). bit_or (bit_and x ((2 ^ 8 - 1) - y)) z) e h
    ∙ bits_unique (λ j. cond (eqb j k) t (bit_at x j)) 0 8 (bit_or kept new) (or_lt 8 kept new (and_lt 8 x rest lx (ones_sub-lt 8 (2 ^ k))) (new_lt t))
    (λ j l. bit_or_lem kept new j
    ∙ ap₂ (λ (p q : Bool). p || q)
    (bit_and_lem x rest j ∙ ap (λ (p : Bool). bit_at x j && p) (bit_not 8 (2 ^ k) j (pow-lt lk) l ∙ ap not (bit_pow k j))) (bit_one t k j)
    ∙ chosen (eqb j k) (bit_at x j) t ∙ ap (λ (i : ℕ). cond (eqb i k) t (bit_at x i)) (omega arith))
  where
    rest : ℕ
    rest = (2 ^ 8 - 1) - 2 ^ k

    kept : ℕ
    kept = bit_and x rest

    new : ℕ
    new = one t * 2 ^ k

    new_lt : (b : Bool) → one b * 2 ^ k < 2 ^ 8
    new_lt true = omega (arith, pow-lt {i = k} {j = 8} lk)
    new_lt false = omega arith

-- ---- bits side by side
last_bit : (h : ℕ → Bool) (k n : ℕ) → bits h k (suc n) ≡ one (h (k + n)) * 2 ^ n + bits h k n
unfolding bits
last_bit h k zero = let e : k + 0 ≡ k = omega arith in rw e (omega arith)
last_bit h k (suc n) =
    let e : k + suc n ≡ suc k + n = omega arith in
    let p : 2 ^ suc n ≡ 2 * 2 ^ n = pow-succ' 2 n in
    rw (last_bit h (suc k) n, e, p) (omega arith)

-- one more bit
pub bit_more : (h : ℕ → Bool) (n : ℕ) → bit_or (bits h 0 n) (one (h n) * 2 ^ n) ≡ bits h 0 (suc n)
bit_more h n =
    or_shifted_r (one (h n)) n (bits h 0 n) (bits_lt h 0 n)
    ∙ ap (λ (i : ℕ). one (h i) * 2 ^ n + bits h 0 n) (omega arith) ∙ sym (last_bit h 0 n)
