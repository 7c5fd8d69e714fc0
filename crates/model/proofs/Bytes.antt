-- Laws of bytes by their bits, and of a part of them replaced: the bytes that `bytes_from`, `map_bits` and `written` make.
-- Assumes nothing.
use mathlib.Core.Path.{◌≡◌, refl, sym, ap, ◌∙◌}
use mathlib.Core.Bool.{Bool}
use mathlib.Core.List.{List, ◌++◌, append_assoc}
use Prim.Native.Nat.{ℕ, zero, suc, ◌+◌, ◌*◌, ◌-◌, ◌/◌, ◌%◌, ◌<◌, ◌≤◌}
use native.Mathlib.Omega.{arith}
use native.Mathlib.Nat.{not-suc-le-zero, le_of_suc-le-suc}
use lib.ListN.{length, get_or, take, drop, length-append, length-drop, get_or-append}
use lib.Seq.{get_or-append-add, get_or-drop, get_or-take, length-take-le, drop-drop}
use Rattle.vector_set.specs.Bits.{bit_at, bits}
use Rattle.vector_set.proofs.BitLaws.{bits_bit}
use Rattle.model.specs.Doorbell.{bit_of, bytes_from, map_bits, written}

-- ---- a bit of bytes is a bit of a byte
pub bit_of_byte : (p : List ℕ) (j b : ℕ) → b < 8 → bit_of p (8 * j + b) ≡ bit_at (get_or p j 0) b
unfolding bit_of
bit_of_byte p j b h =
    let d : (8 * j + b) / 8 ≡ j = omega arith in
    let m : (8 * j + b) % 8 ≡ b = omega arith in
    rw (d, m)

-- ---- bytes made from their bits
pub bytes_from_at : (f : ℕ → Bool) (j n i : ℕ) → i < n → get_or (bytes_from f j n) i 0 ≡ bits f (8 * (j + i)) 8
unfolding bytes_from
bytes_from_at f j zero i h = absurd (not-suc-le-zero h)
bytes_from_at f j (suc n) zero h = let e : j + 0 ≡ j = omega arith in rw e
bytes_from_at f j (suc n) (suc i) h =
    let e : j + suc i ≡ suc j + i = omega arith in rw e (bytes_from_at f (suc j) n i (le_of_suc-le-suc h))

pub bytes_from_length : (f : ℕ → Bool) (j n : ℕ) → length (bytes_from f j n) ≡ n
unfolding bytes_from
bytes_from_length f j zero = refl
bytes_from_length f j (suc n) = ap suc (bytes_from_length f (suc j) n)

pub bytes_from_bit : (f : ℕ → Bool) (n k : ℕ) → k < 8 * n → bit_of (bytes_from f 0 n) k ≡ f k
unfolding bit_of
bytes_from_bit f n k h =
    let j : k / 8 < n = omega arith in
    let e : 8 * (0 + k / 8) + k % 8 ≡ k = omega arith in
    rw (bytes_from_at f 0 n (k / 8) j, bits_bit f (8 * (0 + k / 8)) 8 (k % 8) (omega arith), e)

-- ---- bytes with their bits changed
pub map_bits_length : (f : ℕ → Bool → Bool) (p : List ℕ) → length (map_bits f p) ≡ length p
unfolding map_bits
map_bits_length f p = bytes_from_length (λ k. f k (bit_of p k)) 0 (length p)

pub map_bits_bit : (f : ℕ → Bool → Bool) (p : List ℕ) (k : ℕ) → k < 8 * length p → bit_of (map_bits f p) k ≡ f k (bit_of p k)
unfolding map_bits
map_bits_bit f p k h = bytes_from_bit (λ k. f k (bit_of p k)) (length p) k h

-- ---- a part in the middle, replaced by another that is as long
abbrev pub spliced : List ℕ → ℕ → ℕ → List ℕ → List ℕ
spliced xs a k ys = take a xs ++ (ys ++ drop k (drop a xs))

module _ (xs : List ℕ) (a k : ℕ) (ys : List ℕ) (inside : a + k ≤ length xs) (long : length ys ≡ k) where
  before : length (take a xs) ≡ a
  before = length-take-le a xs (omega arith)

  pub spliced_length : length (spliced xs a k ys) ≡ length xs
  spliced_length = simp (length-append, length-drop, before, long) (omega arith)

  pub spliced_before : (j : ℕ) → j < a → get_or (spliced xs a k ys) j 0 ≡ get_or xs j 0
  spliced_before j h = get_or-append (take a xs) (ys ++ drop k (drop a xs)) 0 j (omega (arith, before)) ∙ get_or-take a xs j 0 h

  past : (i : ℕ) → get_or (spliced xs a k ys) (a + i) 0 ≡ get_or (ys ++ drop k (drop a xs)) i 0
  past i =
      ap (λ (n : ℕ). get_or (spliced xs a k ys) (n + i) 0) (sym before) ∙ get_or-append-add (take a xs) (ys ++ drop k (drop a xs)) i 0

  pub spliced_in : (i : ℕ) → i < k → get_or (spliced xs a k ys) (a + i) 0 ≡ get_or ys i 0
  spliced_in i h = past i ∙ get_or-append ys (drop k (drop a xs)) 0 i (omega arith)

  pub spliced_after : (j : ℕ) → a + k ≤ j → get_or (spliced xs a k ys) j 0 ≡ get_or xs j 0
  spliced_after j h =
      let e : j ≡ a + (k + (j - (a + k))) = omega arith in
      ap (λ (n : ℕ). get_or (spliced xs a k ys) n 0) e
      ∙ past (k + (j - (a + k)))
      ∙ ap (λ (n : ℕ). get_or (ys ++ drop k (drop a xs)) (n + (j - (a + k))) 0) (sym long)
      ∙ get_or-append-add ys (drop k (drop a xs)) (j - (a + k)) 0
      ∙ get_or-drop k (drop a xs) (j - (a + k)) 0
      ∙ get_or-drop a xs (k + (j - (a + k))) 0
      ∙ ap (λ (n : ℕ). get_or xs n 0) (sym e)

-- a hand-back writes such a part
pub written_is : (l : ℕ) (bytes p : List ℕ) → written l bytes p ≡ spliced p (64 * l) 64 bytes
unfolding written
written_is l bytes p = rw (drop-drop 64 (64 * l) p) (append_assoc (take (64 * l) p) bytes (drop (64 * l + 64) p))
