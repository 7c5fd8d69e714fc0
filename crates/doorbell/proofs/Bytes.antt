-- Laws of bytes by their bits: the bytes that `bytes_from` and `map_bits` make, byte by byte and bit by bit; a stretch of a list that was replaced.
-- Assumes nothing.
use mathlib.Core.Path.{◌≡◌, refl, sym, ap, ◌∙◌}
use mathlib.Core.Bool.{Bool, true, false}
use mathlib.Core.List.{List}
use mathlib.Core.Logic.{◌⊎◌, inl, inr, ⊎_elim}
use Prim.Native.Nat.{ℕ, ◌+◌, ◌*◌, ◌<◌, ◌≤◌}
use native.Mathlib.Omega.{arith}
use native.Mathlib.Nat.{eq-or-lt_of_le}
use lib.Dec.{ltb}
use lib.ListN.{length, get_or}
use lib.Seq.{ext_get_or}
use borrow.Author.Tests.{ltb-true, ltb-false}
use Rattle.vector_set.specs.Bits.{bit_at, bits}
use Rattle.vector_set.proofs.BitLaws.{bits_bit, bits_lt, bits_unique}
use Rattle.model.specs.Doorbell.{bit_of, bytes_from, map_bits}
pub use Rattle.model.proofs.Bytes.{bit_of_byte, bytes_from_at, bytes_from_length, spliced, spliced_length, spliced_before, spliced_in, spliced_after}

-- where an index stands beside another
pub split : (j n : ℕ) → (j < n) ⊎ (n ≤ j)
split j n = go (ltb j n) refl
  where
    go : (b : Bool) → ltb j n ≡ b → (j < n) ⊎ (n ≤ j)
    go true e = inl (ltb-true j n e)
    go false e = inr (ltb-false j n e)

pub place : (j n : ℕ) → (j < n) ⊎ ((j ≡ n) ⊎ (n < j))
place j n =
    ⊎_elim inl (λ h. inr (⊎_elim (λ (q : n ≡ j). inl (sym q)) (λ (q : n < j). inr q) (eq-or-lt_of_le h))) (split j n)

-- ---- bytes made from their bits
-- q has n bytes, and bit 8 j + b of them is f (8 j + b)
pub record Made (f : ℕ → Bool) (n : ℕ) (q : List ℕ) : Type 0 where
  pub long : length q ≡ n
  pub small : (j : ℕ) → j < n → get_or q j 0 < 256
  pub bit : (j : ℕ) → j < n → (b : ℕ) → b < 8 → bit_at (get_or q j 0) b ≡ f (8 * j + b)

pub made : (f : ℕ → Bool) (n : ℕ) → Made f n (bytes_from f 0 n)
made f n =
    record {
      long = bytes_from_length f 0 n;
      small = λ j h. rw (bytes_from_at f 0 n j h) (bits_lt f (8 * (0 + j)) 8);
      bit = λ j h b l. let e : 8 * (0 + j) + b ≡ 8 * j + b = omega arith in
          ap (λ (x : ℕ). bit_at x b) (bytes_from_at f 0 n j h) ∙ bits_bit f (8 * (0 + j)) 8 b l ∙ ap f e;
    }

pub is_made : (f : ℕ → Bool) (n : ℕ) (q : List ℕ) → Made f n q → q ≡ bytes_from f 0 n
is_made f n q m =
    ext_get_or 0 q (bytes_from f 0 n) (m.long ∙ sym (bytes_from_length f 0 n)) (λ j l. byte j (omega (arith, m.long)))
  where
    byte : (j : ℕ) → j < n → get_or q j 0 ≡ get_or (bytes_from f 0 n) j 0
    byte j h =
        let e : 8 * (0 + j) ≡ 8 * j = omega arith in
        bits_unique f (8 * j) 8 (get_or q j 0) (m.small j h) (m.bit j h)
        ∙ ap (λ (k : ℕ). bits f k 8) (sym e) ∙ sym (bytes_from_at f 0 n j h)

-- ---- bytes with their bits changed
-- q is as long as p, and each of its bits k is f k of that bit of p
pub record Mapped (f : ℕ → Bool → Bool) (p q : List ℕ) : Type 0 where
  pub long : length q ≡ length p
  pub small : (j : ℕ) → j < length p → get_or q j 0 < 256
  pub bit : (j : ℕ) → j < length p → (b : ℕ) → b < 8 → bit_at (get_or q j 0) b ≡ f (8 * j + b) (bit_at (get_or p j 0) b)

pub mapped : (f : ℕ → Bool → Bool) (p : List ℕ) → Mapped f p (map_bits f p)
unfolding map_bits
mapped f p =
    let m = made (λ k. f k (bit_of p k)) (length p) in
    record {
      long = m.long;
      small = m.small;
      bit = λ j h b l. m.bit j h b l ∙ ap (f (8 * j + b)) (bit_of_byte p j b l);
    }

pub is_mapped : (f : ℕ → Bool → Bool) (p q : List ℕ) → Mapped f p q → q ≡ map_bits f p
unfolding map_bits
is_mapped f p q m =
    is_made (λ k. f k (bit_of p k)) (length p) q
    (record {
      long = m.long;
      small = m.small;
      bit = λ j h b l. m.bit j h b l ∙ ap (f (8 * j + b)) (sym (bit_of_byte p j b l));
    })
