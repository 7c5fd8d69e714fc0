-- Laws of bytes by their bits: a word is four bytes.
-- Assumes nothing.
use mathlib.Core.Path.{◌≡◌, sym}
use mathlib.Core.Bool.{Bool}
use mathlib.Core.List.{List}
use Prim.Native.Nat.{ℕ, zero, suc, ◌+◌, ◌*◌, ◌^◌, ◌<◌}
use native.Mathlib.Omega.{arith}
use native.Mathlib.Nat.{pow-succ', mul_assoc}
use lib.ListN.{get_or}
use Rattle.vector_set.specs.Bits.{bits}
use Rattle.vector_set.proofs.BitLaws.{bits_unique}
use Rattle.model.specs.Doorbell.{bit_of}
use Rattle.model.proofs.Bytes.{bit_of_byte}

-- a byte is made from its bits
pub byte_bits : (p : List ℕ) (j : ℕ) → get_or p j 0 < 256 → get_or p j 0 ≡ bits (bit_of p) (8 * j) 8
byte_bits p j h = bits_unique (bit_of p) (8 * j) 8 (get_or p j 0) h (λ b l. sym (bit_of_byte p j b l))

-- the lowest m bits, and those above them
pub bits_add : (f : ℕ → Bool) (k m n : ℕ) → bits f k (m + n) ≡ bits f k m + 2 ^ m * bits f (k + m) n
unfolding bits
bits_add f k zero n =
    let e : 0 + n ≡ n = omega arith in
    let d : k + 0 ≡ k = omega arith in rw (e, d) (omega arith)
bits_add f k (suc m) n =
    let e : suc m + n ≡ suc (m + n) = omega arith in
    let d : k + suc m ≡ suc k + m = omega arith in
    let p : 2 ^ suc m ≡ 2 * 2 ^ m = pow-succ' 2 m in
    let a : 2 * 2 ^ m * bits f (suc k + m) n ≡ 2 * (2 ^ m * bits f (suc k + m) n) = mul_assoc 2 (2 ^ m) (bits f (suc k + m) n) in
    rw (e, d, p, a, bits_add f (suc k) m n) (omega arith)

-- a word of 32 bits is made from four bytes, the lowest first
pub word_bytes : (p : List ℕ) (j : ℕ) → ((i : ℕ) → get_or p i 0 < 256)
    → bits (bit_of p) (8 * j) 32 ≡ get_or p j 0 + 256 * get_or p (j + 1) 0 + 65536 * (get_or p (j + 2) 0 + 256 * get_or p (j + 3) 0)
word_bytes p j s =
    let f = bit_of p in
    let e1 : 8 * j + 8 ≡ 8 * (j + 1) = omega arith in
    let e2 : 8 * (j + 1) + 8 ≡ 8 * (j + 2) = omega arith in
    let e3 : 8 * (j + 2) + 8 ≡ 8 * (j + 3) = omega arith in
    let a : bits f (8 * j) 32 ≡ bits f (8 * j) 8 + 256 * bits f (8 * j + 8) 24 = bits_add f (8 * j) 8 24 in
    let b : bits f (8 * (j + 1)) 24 ≡ bits f (8 * (j + 1)) 8 + 256 * bits f (8 * (j + 1) + 8) 16 = bits_add f (8 * (j + 1)) 8 16 in
    let c : bits f (8 * (j + 2)) 16 ≡ bits f (8 * (j + 2)) 8 + 256 * bits f (8 * (j + 2) + 8) 8 = bits_add f (8 * (j + 2)) 8 8 in
    rw (byte_bits p j (s j), byte_bits p (j + 1) (s (j + 1)), byte_bits p (j + 2) (s (j + 2)), byte_bits p (j + 3) (s (j + 3)))
    (omega (arith, rw e1 at a, rw e2 at b, rw e3 at c))
