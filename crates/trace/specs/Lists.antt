-- The values of a list, as the last words of a line tell them: at most 1,024 numbers of 32 bits.
-- Assumes nothing.
use Rattle.std.specs.Prelude.{◌≡◌, Bool, true, false, cond, ◌&&◌, List, [], ◌∷◌, map, ℕ, ◌≤◌, leb, length, take, Option, Some, None}
use Rattle.trace.specs.Numbers.{max32, number_of}

-- the most entries of a list
abbrev pub max_list : ℕ
max_list = 1024

-- a number of 32 bits
unfoldable pub is_value : Option ℕ → Bool
is_value (Some v) = leb v max32
is_value None = false

unfoldable pub are_values : List (List ℕ) → Bool
are_values [] = true
are_values (w ∷ ws) = is_value (number_of w) && are_values ws

-- how many values the words are, where each is one and there are not too many
unfoldable pub count_of : List (List ℕ) → Option ℕ
count_of ws = cond (leb (length ws) max_list && are_values ws) (Some (length ws)) None

-- the first n entries are the numbers of the words, in order
abbrev pub Holds : List (List ℕ) → ℕ → List ℕ → Type 0
Holds ws n vs = map number_of ws ≡ map Some (take n vs)

abbrev pub ListIs : List (List ℕ) → Option ℕ → List ℕ → Type 0
ListIs ws (Some n) vs = (n ≤ max_list) × Holds ws n vs
ListIs ws None vs = Unit
