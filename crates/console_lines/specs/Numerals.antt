-- Numbers as they are printed: the fewest digits, hexadecimal ones behind `0x` and in small letters.
-- Assumes nothing.
use Rattle.std.specs.Prelude.{cond, List, [], ◌∷◌, ◌++◌, ℕ, zero, suc, ◌/◌, ◌%◌, ltb}
use Rattle.io.specs.Digits.{hex_digit_ascii}
use Rattle.trace.specs.Words.{ascii}

-- the digits of n in base b, without zeros in front: at most one more of them than the second number
unfoldable pub numeral : ℕ → ℕ → ℕ → List ℕ
numeral b zero n = hex_digit_ascii (n % b) ∷ []
numeral b (suc more) n = cond (ltb n b) (hex_digit_ascii (n % b) ∷ []) (numeral b more (n / b) ++ hex_digit_ascii (n % b) ∷ [])

-- a name, then a number of 64 bits
unfoldable pub in_hex : List ℕ → ℕ → List ℕ
in_hex name n = name ++ ascii "0x" ++ numeral 16 19 n

unfoldable pub in_decimal : List ℕ → ℕ → List ℕ
in_decimal name n = name ++ numeral 10 19 n
