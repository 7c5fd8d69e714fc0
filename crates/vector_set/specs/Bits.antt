-- Numbers by their bits. Bit 0 is the lowest.
-- Assumes nothing.
use Rattle.std.specs.Prelude.{Bool, true, false, ℕ, zero, suc, ◌+◌, ◌*◌, ◌/◌, ◌%◌, ◌^◌, eqb}

abbrev pub one : Bool → ℕ
one true = 1
one false = 0

-- bit b of the number x
abbrev pub bit_at : ℕ → ℕ → Bool
bit_at x b = eqb (x / 2 ^ b % 2) 1

-- the number of n bits whose bit b is f (k + b)
unfoldable pub bits : (ℕ → Bool) → ℕ → ℕ → ℕ
bits f k zero = 0
bits f k (suc n) = one (f k) + 2 * bits f (suc k) n
