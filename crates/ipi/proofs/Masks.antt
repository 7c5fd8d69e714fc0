-- Targets as 32 bits: one vCPU, none, all but some, and a logical destination. Assumes nothing.
use mathlib.Core.Path.{◌≡◌, refl, sym, ap, ◌∙◌}
use mathlib.Core.Bool.{Bool, true, false, not, ◌&&◌}
use Prim.Native.Nat.{ℕ, ◌+◌, ◌-◌, ◌*◌, ◌/◌, ◌%◌, ◌^◌, ◌<◌, ◌≤◌}
use native.Mathlib.Omega.{arith}
use lib.Dec.{eqb, ltb}
use lib.Pow.{pow-lt, shl_exact, ones_sub-lt}
use borrow.Author.Tests.{ne_eqb, ltb-true, ltb-false}
use Rattle.std.specs.Prelude.{Option, None, Some, unwrap_or, SomeIff}
use Rattle.vector_set.specs.Bits.{bit_at, bits}
use Rattle.vector_set.proofs.BitLaws.{bits_unique, bits_bit, bits_lt, bit_zero, bit_pow, bit_not, bit_above, bit_mod, bit_low, bit_high}
use Rattle.model.specs.declared.Target.TheVariants.{Logical}
use Rattle.model.specs.Ipi.{hits}

-- a number with the bits of f
is_mask : (f : ℕ → Bool) (x : ℕ) → x < 2 ^ 32 → ((b : ℕ) → b < 32 → bit_at x b ≡ f b) → x ≡ bits f 0 32
is_mask f x l h = bits_unique f 0 32 x l (λ b r. let z : 0 + b ≡ b = omega arith in rw z (h b r))

pub mask_bit : (f : ℕ → Bool) (b : ℕ) → b < 32 → bit_at (bits f 0 32) b ≡ f b
mask_bit f b l = let z : 0 + b ≡ b = omega arith in rw z at (bits_bit f 0 32 b l)

pub mask_alone : (k : ℕ) → k < 32 → (1 * 2 ^ k) % 2 ^ 32 ≡ bits (λ j. eqb j k) 0 32
mask_alone k l =
    let e : (1 * 2 ^ k) % 2 ^ 32 ≡ 2 ^ k = shl_exact {a = 1} 1 k 32 (omega arith) (omega arith) ∙ omega arith in
    e ∙ is_mask (λ j. eqb j k) (2 ^ k) (pow-lt l) (λ b r. bit_pow k b)

pub mask_none : (f : ℕ → Bool) → ((b : ℕ) → b < 32 → f b ≡ false) → 0 ≡ bits f 0 32
mask_none f h = is_mask f 0 (omega arith) (λ b r. bit_zero b ∙ sym (h b r))

-- a shift that may have no place
pub mask_shift : (k : ℕ) (o : Option ℕ) → SomeIff o (k < 32) ((1 * 2 ^ k) % 2 ^ 32) → unwrap_or o 0 ≡ bits (λ j. eqb j k) 0 32
mask_shift k None h = mask_none _ (λ b l. ne_eqb b k (λ (q : b ≡ k). h (omega (arith, l, q))))
mask_shift k (Some x) h = h.1 ∙ mask_alone k h.0

pub mask_not : (f : ℕ → Bool) → (2 ^ 32 - 1) - bits f 0 32 ≡ bits (λ j. not (f j)) 0 32
mask_not f =
    is_mask (λ j. not (f j)) ((2 ^ 32 - 1) - bits f 0 32) (ones_sub-lt 32 (bits f 0 32))
    (λ b r. bit_not 32 (bits f 0 32) b (bits_lt f 0 32) r ∙ ap not (mask_bit f b r))

pub mask_all : 0xFFFFFFFF ≡ bits (λ j. true) 0 32
unfolding bits
mask_all = refl

-- ---- a logical destination: its cluster has the vCPUs 0 to 15, or 16 to 31, or none of these
module _ (d : ℕ) where
  abbrev wanted : ℕ → Bool
  wanted b = eqb (d / 2 ^ 16) (b / 16) && bit_at d (b % 16)

  low_bit : d / 2 ^ 16 ≡ 0 → (b : ℕ) → b < 32 → (t : Bool) → ltb b 16 ≡ t → bit_at d b ≡ wanted b
  low_bit e b l true q =
      let m = ltb-true b 16 q in
      let x : b / 16 ≡ 0 = omega arith in
      let y : b % 16 ≡ b = omega arith in
      rw (e, x, y)
  low_bit e b l false q =
      let m = ltb-false b 16 q in
      let x : b / 16 ≡ 1 = omega arith in
      rw (e, x) (bit_above 16 d b (omega arith) m)

  abbrev raised : ℕ
  raised = (d % 2 ^ 16) * 2 ^ 16 + 0

  high_bit : d / 2 ^ 16 ≡ 1 → (b : ℕ) → b < 32 → (t : Bool) → ltb b 16 ≡ t → bit_at raised b ≡ wanted b
  high_bit e b l true q =
      let m = ltb-true b 16 q in
      let x : b / 16 ≡ 0 = omega arith in
      rw (e, x) (bit_low 16 (d % 2 ^ 16) 0 b (omega arith) m ∙ bit_zero b)
  high_bit e b l false q =
      let m = ltb-false b 16 q in
      let x : b / 16 ≡ 1 = omega arith in
      let y : b % 16 ≡ b - 16 = omega arith in
      let z : b ≡ 16 + (b - 16) = omega arith in
      rw (e, x, y) (ap (bit_at raised) z ∙ bit_high 16 (d % 2 ^ 16) 0 (b - 16) (omega arith) ∙ bit_mod 16 d (b - 16) (omega arith))

  no_bit : 2 ≤ d / 2 ^ 16 → (b : ℕ) → b < 32 → wanted b ≡ false
  no_bit h b l = rw (ne_eqb (d / 2 ^ 16) (b / 16) (λ (q : d / 2 ^ 16 ≡ b / 16). omega arith))

  pub mask_low : d / 65536 ≡ 0 → d < 2 ^ 32 → d ≡ bits (hits (Logical d) 0) 0 32
  unfolding hits
  mask_low e l = is_mask wanted d l (λ b r. low_bit e b r (ltb b 16) refl)

  pub mask_high : d / 65536 ≡ 1 → ((d % 65536) * 2 ^ 16) % 2 ^ 32 ≡ bits (hits (Logical d) 0) 0 32
  unfolding hits
  mask_high e =
      let s : ((d % 65536) * 2 ^ 16) % 2 ^ 32 ≡ raised = omega arith in
      s ∙ is_mask wanted raised (omega arith) (λ b r. high_bit e b r (ltb b 16) refl)

  pub mask_far : 2 ≤ d / 65536 → 0 ≡ bits (hits (Logical d) 0) 0 32
  unfolding hits
  mask_far h = mask_none wanted (no_bit h)
