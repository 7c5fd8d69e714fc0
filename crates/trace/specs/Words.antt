-- The words of a line: what stands between spaces.
-- Assumes nothing.
use Rattle.std.specs.Prelude.{Bool, true, false, cond, ◌&&◌, List, [], ◌∷◌, ◌++◌, ℕ, suc, eqb, Option, None}
use Prim.Native.Char.{code}
use Prim.Native.String.{String, [] as []ˢ, ◌∷◌ as ◌∷ˢ◌}
use Rattle.trace.specs.Numbers.{number_of, up_to}

-- the bytes of a text of ASCII characters
abbrev pub ascii : String → List ℕ
ascii []ˢ = []
ascii (c ∷ˢ s) = code c ∷ ascii s

abbrev pub is_space : ℕ → Bool
is_space b = eqb b 32

-- how many spaces a text begins with
unfoldable pub spaces : List ℕ → ℕ
spaces [] = 0
spaces (b ∷ s) = cond (is_space b) (suc (spaces s)) 0

-- a word that ends, with those that follow it: no word is empty
unfoldable pub ending : List ℕ → List (List ℕ) → List (List ℕ)
ending [] ws = ws
ending (b ∷ w) ws = (b ∷ w) ∷ ws

-- the words of a text after the bytes w of a word that has begun
unfoldable pub words_after : List ℕ → List ℕ → List (List ℕ)
words_after w [] = ending w []
words_after w (b ∷ s) = cond (is_space b) (ending w (words_after [] s)) (words_after (w ++ b ∷ []) s)

unfoldable pub words : List ℕ → List (List ℕ)
words s = words_after [] s

unfoldable pub rest : List (List ℕ) → List (List ℕ)
rest [] = []
rest (w ∷ ws) = ws

unfoldable pub same : List ℕ → List ℕ → Bool
same [] [] = true
same [] (y ∷ b) = false
same (x ∷ a) [] = false
same (x ∷ a) (y ∷ b) = eqb x y && same a b

-- the first word as a number of at most `most`
unfoldable pub first : ℕ → List (List ℕ) → Option ℕ
first most [] = None
first most (w ∷ ws) = up_to most (number_of w)
