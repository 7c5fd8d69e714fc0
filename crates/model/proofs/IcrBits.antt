-- The ICR's bits: what the reserved ones refuse, and that 14 and 15 play no part in delivery.
-- Assumes nothing.
use mathlib.Core.Path.{◌≡◌, refl, sym, ap, ◌∙◌}
use mathlib.Core.Bool.{Bool, true, false, ◌&&◌, ◌||◌, and-false, or-false}
use Prim.Native.Nat.{ℕ, zero, suc, ◌+◌, ◌*◌, ◌-◌, ◌/◌, ◌%◌, ◌^◌, ◌<◌, ◌≤◌}
use native.Mathlib.Nat.{pow-succ', div-one, mod-lt}
use native.Mathlib.Omega.{arith}
use lib.Dec.{leb, eqb}
use lib.Bits.{bit_or}
use lib.Pow.{pow_pos}
use borrow.Author.Tests.{eqb-true, leb-true}
use Rattle.vector_set.specs.Bits.{bit_at}
use Rattle.vector_set.proofs.BitLaws.{clash, number_ext, bit_mod, bit_shr, bit_zero, bit_or_lem, bit_pow}
use Rattle.model.specs.Registers.{within}
use Rattle.model.specs.Ipi.{icr_vector, icr_type, icr_shorthand, icr_destination, icr_reserved_clear, icr_is_fixed, icr_is_nmi, icr_legal, icr_item, icr_target}
use Rattle.model.specs.Demand2.{is_reserved, is14_or15, EqualBut14And15, SameDelivery}
use Rattle.model.proofs.Tests.{eqb_above, eqb_below}

-- ---- the fields of two values
-- w bits from bit k on
field_same : (x y k w : ℕ) → ((b : ℕ) → b < w → bit_at x (k + b) ≡ bit_at y (k + b)) → x / 2 ^ k % 2 ^ w ≡ y / 2 ^ k % 2 ^ w
field_same x y k w h =
    number_ext w (x / 2 ^ k % 2 ^ w) (y / 2 ^ k % 2 ^ w) (mod-lt _ (pow_pos w)) (mod-lt _ (pow_pos w))
    (λ b l. bit_mod w (x / 2 ^ k) b l ∙ bit_shr x k b ∙ h b l ∙ sym (bit_mod w (y / 2 ^ k) b l ∙ bit_shr y k b))

-- below bit 14
field_below : (x y : ℕ) → EqualBut14And15 x y → (k w : ℕ) → k + w ≤ 14 → x / 2 ^ k % 2 ^ w ≡ y / 2 ^ k % 2 ^ w
field_below x y e k w l =
    field_same x y k w (λ b h. e (k + b) (rw (eqb_below (k + b) 14 (omega arith), eqb_below (k + b) 15 (omega arith))))

-- from bit 16 on
field_above : (x y : ℕ) → EqualBut14And15 x y → (k w : ℕ) → 16 ≤ k → x / 2 ^ k % 2 ^ w ≡ y / 2 ^ k % 2 ^ w
field_above x y e k w l =
    field_same x y k w (λ b h. e (k + b) (rw (eqb_above (k + b) 14 (omega arith), eqb_above (k + b) 15 (omega arith))))

below_pow : (n : ℕ) → n < 2 ^ n
below_pow zero = omega arith
below_pow (suc n) =
    let h = below_pow n in
    let p : 2 ^ suc n ≡ 2 * 2 ^ n = pow-succ' 2 n in
    omega arith

destination_same : (x y : ℕ) → EqualBut14And15 x y → icr_destination x ≡ icr_destination y
destination_same x y e =
    let h = below_pow (x + y) in
    number_ext (x + y) (x / 2 ^ 32) (y / 2 ^ 32) (omega arith) (omega arith)
    (λ b l. bit_shr x 32 b ∙ e (32 + b) (rw (eqb_above (32 + b) 14 (omega arith), eqb_above (32 + b) 15 (omega arith))) ∙ sym (bit_shr y 32 b))

vector_same : (x y : ℕ) → EqualBut14And15 x y → icr_vector x ≡ icr_vector y
vector_same x y e = rw (div-one x, div-one y) at (field_below x y e 0 8 (omega arith))

pub same_delivery_lem : (x y : ℕ) → EqualBut14And15 x y → SameDelivery x y
unfolding icr_legal icr_reserved_clear icr_is_fixed icr_is_nmi icr_item icr_target
same_delivery_lem x y e =
    let v = vector_same x y e in
    let t : icr_type x ≡ icr_type y = field_below x y e 8 3 (omega arith) in
    let a : x / 2 ^ 11 % 2 ≡ y / 2 ^ 11 % 2 = field_below x y e 11 1 (omega arith) in
    let b : x / 2 ^ 12 % 4 ≡ y / 2 ^ 12 % 4 = field_below x y e 12 2 (omega arith) in
    let c : x / 2 ^ 16 % 4 ≡ y / 2 ^ 16 % 4 = field_above x y e 16 2 (omega arith) in
    let s : icr_shorthand x ≡ icr_shorthand y = field_above x y e 18 2 (omega arith) in
    let r : x / 2 ^ 20 % 2 ^ 12 ≡ y / 2 ^ 20 % 2 ^ 12 = field_above x y e 20 12 (omega arith) in
    let d = destination_same x y e in
    record { legal = rw (v, t, b, c, s, r); item = rw (v, t); target = rw (a, s, d) }

-- to set either bit is such a difference
pub set_apart_lem : (x b : ℕ) → is14_or15 b ≡ true → EqualBut14And15 x (bit_or x (2 ^ b))
set_apart_lem x b h k n = sym (bit_or_lem x (2 ^ b) k ∙ rw (bit_pow, apart (eqb k b) refl, or-false))
  where
    apart : (t : Bool) → eqb k b ≡ t → t ≡ false
    apart false e = refl
    apart true e = let f : is14_or15 k ≡ true = rw (eqb-true k b e) h in clash (cc)

-- ---- the reserved bits
-- a field that has a bit is not 0
field_set : (x k w j : ℕ) → k ≤ j → j < k + w → bit_at x j ≡ true → eqb (x / 2 ^ k % 2 ^ w) 0 ≡ false
field_set x k w j l u h = pick (eqb (x / 2 ^ k % 2 ^ w) 0) refl
  where
    pick : (b : Bool) → eqb (x / 2 ^ k % 2 ^ w) 0 ≡ b → b ≡ false
    pick false z = refl
    pick true z =
        let s : k + (j - k) ≡ j = omega arith in
        let f : bit_at x j ≡ false =
        ap (λ (i : ℕ). bit_at x i) (sym s) ∙ sym (bit_mod w (x / 2 ^ k) (j - k) (omega arith) ∙ bit_shr x k (j - k))
        ∙ ap (λ (n : ℕ). bit_at n (j - k)) (eqb-true _ 0 z) ∙ bit_zero (j - k) in
        clash (cc)

between : (a b k : ℕ) → within a b k ≡ true → (a ≤ k) × (k ≤ b)
between a b k h = pick (leb a k) (leb k b) refl refl h
  where
    pick : (p q : Bool) → leb a k ≡ p → leb k b ≡ q → (p && q) ≡ true → (a ≤ k) × (k ≤ b)
    pick true true e f g = (leb-true a k e, leb-true k b f)
    pick true false e f g = clash (cc)
    pick false q e f g = clash (cc)

pub reserved : (x k : ℕ) → is_reserved k ≡ true → bit_at x k ≡ true → icr_legal x ≡ false
unfolding icr_legal icr_reserved_clear
reserved x k r h = pick (within 12 13 k) (within 16 17 k) (within 20 31 k) refl refl refl r
  where
    fits : (a b w : ℕ) → a + w ≡ suc b → within a b k ≡ true → eqb (x / 2 ^ a % 2 ^ w) 0 ≡ false
    fits a b w e i = let l = between a b k i in field_set x a w k l.0 (omega arith) h

    pick : (p q s : Bool) → within 12 13 k ≡ p → within 16 17 k ≡ q → within 20 31 k ≡ s → (p || q || s) ≡ true
        → (eqb (x / 2 ^ 12 % 4) 0 && eqb (x / 2 ^ 16 % 4) 0 && eqb (x / 2 ^ 20 % 2 ^ 12) 0 && (icr_is_fixed x || icr_is_nmi x)) ≡ false
    pick true q s e f g t = rw (fits 12 13 2 (omega arith) e)
    pick false true s e f g t = rw (fits 16 17 2 (omega arith) f, and-false)
    pick false false true e f g t = rw (fits 20 31 12 (omega arith) g, and-false)
    pick false false false e f g t = clash (cc)
