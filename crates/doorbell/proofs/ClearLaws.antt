-- Laws of bytes with some of their bits cleared: a byte that was kept, zeroed or masked is the byte that the definition says.
-- Assumes nothing.
use mathlib.Core.Path.{◌≡◌, refl, sym, ap, ◌∙◌}
use mathlib.Core.Bool.{Bool, true, false, not, ◌&&◌, ◌||◌, and-true, and-false}
use mathlib.Core.List.{List}
use Prim.Native.Nat.{ℕ, zero, suc, ◌+◌, ◌*◌, ◌<◌}
use native.Mathlib.Omega.{arith}
use lib.ListN.{length, get_or}
use lib.Bits.{bit_and, and_le_r}
use Rattle.vector_set.specs.Bits.{bit_at}
use Rattle.vector_set.proofs.BitLaws.{bit_and_lem, bit_zero}
use Rattle.doorbell.specs.Clear.{clearing}
use Rattle.doorbell.proofs.Bytes.{mapped, is_mapped}

-- y is what clearing leaves of byte j, which was x
pub record Cleared (g : ℕ → Bool) (j x y : ℕ) : Type 0 where
  pub small : y < 256
  pub bit : (b : ℕ) → b < 8 → bit_at y b ≡ (bit_at x b && not (g (8 * j + b)))

pub cleared_at : (g : ℕ → Bool) (p : List ℕ) (j : ℕ) → j < length p → Cleared g j (get_or p j 0) (get_or (clearing g p) j 0)
cleared_at g p j h =
    let m = mapped (λ k b. b && not (g k)) p in record { small = m.small j h; bit = m.bit j h }

pub clearing_length : (g : ℕ → Bool) (p : List ℕ) → length (clearing g p) ≡ length p
clearing_length g p = (mapped (λ k b. b && not (g k)) p).long

pub is_clearing : (g : ℕ → Bool) (p q : List ℕ) → length q ≡ length p → ((j : ℕ) → j < length p → Cleared g j (get_or p j 0) (get_or q j 0)) → q ≡ clearing g p
is_clearing g p q l h =
    is_mapped (λ k b. b && not (g k)) p q
    (record { long = l; small = λ j i. (h j i).small; bit = λ j i b r. (h j i).bit b r })

-- ---- a byte that is kept, zeroed, masked
pub keeps : (g : ℕ → Bool) (j x : ℕ) → x < 256 → ((b : ℕ) → b < 8 → g (8 * j + b) ≡ false) → Cleared g j x x
keeps g j x h n =
    record { small = h; bit = λ b l. sym (and-true (bit_at x b)) ∙ ap (λ (t : Bool). bit_at x b && not t) (sym (n b l)) }

pub zeroes : (g : ℕ → Bool) (j x : ℕ) → ((b : ℕ) → b < 8 → g (8 * j + b) ≡ true) → Cleared g j x 0
zeroes g j x n =
    record {
      small = omega arith;
      bit = λ b l. bit_zero b ∙ sym (and-false (bit_at x b)) ∙ ap (λ (t : Bool). bit_at x b && not t) (sym (n b l));
    }

pub masks : (g : ℕ → Bool) (j x m : ℕ) → m < 256 → ((b : ℕ) → b < 8 → bit_at m b ≡ not (g (8 * j + b))) → Cleared g j x (bit_and x m)
masks g j x m h n =
    record {
      small = omega (arith, and_le_r x m);
      bit = λ b l. bit_and_lem x m b ∙ ap (λ (t : Bool). bit_at x b && t) (n b l);
    }

-- what holds of 0 to 7 holds below 8
pub each8 : (P : ℕ → Type 0) → P 0 → P 1 → P 2 → P 3 → P 4 → P 5 → P 6 → P 7 → (b : ℕ) → b < 8 → P b
each8 P p0 p1 p2 p3 p4 p5 p6 p7 zero h = p0
each8 P p0 p1 p2 p3 p4 p5 p6 p7 (suc zero) h = p1
each8 P p0 p1 p2 p3 p4 p5 p6 p7 (suc (suc zero)) h = p2
each8 P p0 p1 p2 p3 p4 p5 p6 p7 (suc (suc (suc zero))) h = p3
each8 P p0 p1 p2 p3 p4 p5 p6 p7 (suc (suc (suc (suc zero)))) h = p4
each8 P p0 p1 p2 p3 p4 p5 p6 p7 (suc (suc (suc (suc (suc zero))))) h = p5
each8 P p0 p1 p2 p3 p4 p5 p6 p7 (suc (suc (suc (suc (suc (suc zero)))))) h = p6
each8 P p0 p1 p2 p3 p4 p5 p6 p7 (suc (suc (suc (suc (suc (suc (suc zero))))))) h = p7
each8 P p0 p1 p2 p3 p4 p5 p6 p7 (suc (suc (suc (suc (suc (suc (suc (suc b)))))))) h = let z : ⊥ = omega arith in absurd z

-- ---- clearing twice, and clearing the same bits by another name
and_not_or : (a b c : Bool) → (a && not b && not c) ≡ (a && not (b || c))
and_not_or true true c = refl
and_not_or true false c = refl
and_not_or false b c = refl

pub clearing_twice : (g h : ℕ → Bool) (p : List ℕ) → clearing h (clearing g p) ≡ clearing (λ k. g k || h k) p
clearing_twice g h p =
    is_clearing (λ k. g k || h k) p (clearing h (clearing g p))
    (clearing_length h (clearing g p) ∙ clearing_length g p)
    (λ j l.
    let n : j < length (clearing g p) = omega (arith, clearing_length g p) in
    let c = cleared_at g p j l in
    let d = cleared_at h (clearing g p) j n in
    record {
      small = d.small;
      bit = λ b r. d.bit b r ∙ ap (λ (t : Bool). t && not (h (8 * j + b))) (c.bit b r)
          ∙ and_not_or (bit_at (get_or p j 0) b) (g (8 * j + b)) (h (8 * j + b));
    })

pub clearing_ext : (g h : ℕ → Bool) (p : List ℕ) → ((k : ℕ) → g k ≡ h k) → clearing g p ≡ clearing h p
clearing_ext g h p e =
    is_clearing h p (clearing g p) (clearing_length g p)
    (λ j l.
    let c = cleared_at g p j l in
    record { small = c.small; bit = λ b r. c.bit b r ∙ ap (λ (t : Bool). bit_at (get_or p j 0) b && not t) (e (8 * j + b)) })
