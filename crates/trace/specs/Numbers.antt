-- Numbers as a trace writes them: one or more decimal digits, or behind `0x` one or more hexadecimal ones, capital or small. Zeros may stand in
-- front; the number is below 2^64.
-- Assumes nothing.
use Rattle.std.specs.Prelude.{Bool, cond, ◌&&◌, List, [], ◌∷◌, ℕ, ◌+◌, ◌-◌, ◌*◌, ◌^◌, eqb, leb, ltb, get_or, drop, Option, Some, None}
use Rattle.std.specs.Option.{option_and_then}

abbrev pub within : ℕ → ℕ → ℕ → Bool
within low high b = leb low b && leb b high

-- the value of a byte as a digit: `0` to `9`, `A` to `F`, `a` to `f`; any other byte is a digit of no base here
unfoldable pub digit : ℕ → Option ℕ
digit b =
    cond (within 48 57 b) (Some (b - 48))
    (cond (within 65 70 b) (Some (b - 65 + 10))
    (cond (within 97 102 b) (Some (b - 97 + 10)) None))

-- digits of a base after those that gave the value v; only the bases 10 and 16 occur (`number_of`), and no digit is above 15
unfoldable pub digits_from : ℕ → ℕ → List ℕ → Option ℕ
digits_from base v [] = cond (ltb v (2 ^ 64)) (Some v) None
digits_from base v (b ∷ s) = option_and_then (λ d. cond (ltb d base) (digits_from base (v * base + d) s) None) (digit b)

unfoldable pub digits_of : ℕ → List ℕ → Option ℕ
digits_of base [] = None
digits_of base (b ∷ s) = digits_from base 0 (b ∷ s)

-- the word begins with `0x`
unfoldable pub is_hex : List ℕ → Bool
is_hex w = eqb (get_or w 0 0) 48 && eqb (get_or w 1 0) 120

unfoldable pub number_of : List ℕ → Option ℕ
number_of w = cond (is_hex w) (digits_of 16 (drop 2 w)) (digits_of 10 w)

-- a number that is at most `most`
unfoldable pub up_to : ℕ → Option ℕ → Option ℕ
up_to most (Some v) = cond (leb v most) (Some v) None
up_to most None = None

-- the most that a number of 32 bits is
abbrev pub max32 : ℕ
max32 = 0xFFFF_FFFF
