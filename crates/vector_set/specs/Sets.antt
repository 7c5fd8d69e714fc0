-- Sets of vectors 0 to 255: eight words of 32 bits, the lowest vectors first (clauses 2.7 and 2.17 of docs/SPECIFICATION.md).
-- A set is said by its members: `collect f` is the set of the v with f v, and `has s v` says whether v is a member of s.
-- Assumes nothing.
use Rattle.std.specs.Prelude.{◌≡◌, Bool, true, false, cond, not, ◌&&◌, ◌||◌, List, [], ◌∷◌, ℕ, zero, suc, ◌+◌, ◌*◌, ◌/◌, ◌%◌, ◌^◌, ◌<◌, eqb, leb, length, get_or, is_none}
use Rattle.std.specs.Prelude.{Option, None, Some}
use Rattle.vector_set.specs.Bits.{one, bit_at, bits}

-- v is a member of s: bit v mod 32 of word v div 32 (2.7, 2.17)
unfoldable pub has : List ℕ → ℕ → Bool
has s v = bit_at (get_or s (v / 32) 0) (v % 32)

-- the n words from word k on of the set of the v with f v
unfoldable pub words : (ℕ → Bool) → ℕ → ℕ → List ℕ
words f k zero = []
words f k (suc n) = bits f (32 * k) 32 ∷ words f (suc k) n

-- the set of the v below 256 with f v
unfoldable pub collect : (ℕ → Bool) → List ℕ
collect f = words f 0 8

unfoldable pub empty : List ℕ
empty = collect (λ v. false)

unfoldable pub full : List ℕ
full = collect (λ v. true)

unfoldable pub insert : ℕ → List ℕ → List ℕ
insert x s = collect (λ v. eqb v x || has s v)

unfoldable pub remove : ℕ → List ℕ → List ℕ
remove x s = collect (λ v. not (eqb v x) && has s v)

unfoldable pub union : List ℕ → List ℕ → List ℕ
union s t = collect (λ v. has s v || has t v)

unfoldable pub difference : List ℕ → List ℕ → List ℕ
difference s t = collect (λ v. has s v && not (has t v))

unfoldable pub intersection : List ℕ → List ℕ → List ℕ
intersection s t = collect (λ v. has s v && has t v)

-- a vector that a notice, an IPI or the page may name (4.13, 7.9)
abbrev pub is_vector : ℕ → Bool
is_vector v = leb 31 v && leb v 255

-- the members from x on
unfoldable pub from : ℕ → List ℕ → List ℕ
from x s = collect (λ v. leb x v && has s v)

-- the highest member below n
unfoldable pub highest_below : List ℕ → ℕ → Option ℕ
highest_below s zero = None
highest_below s (suc n) = let r = highest_below s n in cond (has s n) (Some n) r

-- the highest member, or none (2.17)
unfoldable pub highest : List ℕ → Option ℕ
highest s = highest_below s 256

-- how many members there are below n
unfoldable pub count_below : List ℕ → ℕ → ℕ
count_below s zero = 0
count_below s (suc n) = one (has s n) + count_below s n

-- the number of members
unfoldable pub count : List ℕ → ℕ
count s = count_below s 256

-- there is no member
unfoldable pub is_empty : List ℕ → Bool
is_empty s = is_none (highest s)

-- the members 32 k to 32 k + 31 as a number, the lowest in bit 0 (6.14)
unfoldable pub word_of : List ℕ → ℕ → ℕ
word_of s k = bits (λ v. has s v) (32 * k) 32

-- a set as an array holds it: eight words of 32 bits
pub record Words (s : List ℕ) : Type 0 where
  pub eight : length s ≡ 8
  pub small : (i : ℕ) → i < 8 → get_or s i 0 < 2 ^ 32
