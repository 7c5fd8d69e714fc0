-- A search for a set's highest member (2.17): how many words it reads, what is claimed of answer and number (13.67 to 13.69),
-- worked cases (14.72). Word k of a set has the vectors 32 k to 32 k + 31; word 7 is the top one.
-- Assumes nothing.
use Rattle.std.specs.Prelude.{◌≡◌, true, false, List, [], ◌∷◌, map, ℕ, ◌+◌, ◌-◌, ◌*◌, ◌/◌, ◌<◌, ◌≤◌, get_or}
use Rattle.std.specs.Prelude.{Option, None, Some}
use Rattle.vector_set.specs.Bits.{bit_at}
use Rattle.vector_set.specs.Sets.{has, highest, Words}

-- how many words there are from word 7 down to that of the answer, which counts too; without an answer all eight (2.17)
abbrev pub words_down_to : Option ℕ → ℕ
words_down_to None = 8
words_down_to (Some v) = 8 - v / 32

-- how many words a search of s reads (2.17)
unfoldable pub words_read : List ℕ → ℕ
words_read s = words_down_to (highest s)

-- ---- what is claimed
-- word k is one of the topmost m (13.68, 13.69)
abbrev pub InTop : ℕ → ℕ → Type 0
InTop m k = 8 ≤ k + m

-- every word above word k is 0 (13.68)
abbrev pub ZeroAbove : List ℕ → ℕ → Type 0
ZeroAbove s k = (j : ℕ) → k < j → j < 8 → get_or s j 0 ≡ 0

-- s and t have the same members in the topmost m words (13.69)
abbrev pub SameTop : ℕ → List ℕ → List ℕ → Type 0
SameTop m s t = (v : ℕ) → v < 256 → InTop m (v / 32) → has t v ≡ has s v

pub record SearchClaims : Type 0 where
  -- vector 32 k + b is a member exactly if bit b of word k is set (2.17, 13.67)
  pub member_by_bit : (s : List ℕ) (k b : ℕ) → b < 32 → has s (32 * k + b) ≡ bit_at (get_or s k 0) b
  -- an answer is a member, and no member is above it (13.67)
  pub is_highest : (s : List ℕ) (v : ℕ) → highest s ≡ Some v → (v < 256) × (has s v ≡ true) × ((w : ℕ) → w < 256 → v < w → has s w ≡ false)
  -- without an answer there is no member (13.67)
  pub none_is_empty : (s : List ℕ) → highest s ≡ None → (w : ℕ) → w < 256 → has s w ≡ false
  -- at most eight words are read (13.68)
  pub at_most_eight : (s : List ℕ) → words_read s ≤ 8
  -- exactly one, where word 7 is not 0 (13.68)
  pub top_word_alone : (s : List ℕ) → Words s → (get_or s 7 0 ≡ 0 → ⊥) → words_read s ≡ 1
  -- a word is read where every word above it is 0, and nowhere else (13.68)
  pub read_if_zero_above : (s : List ℕ) (k : ℕ) → k < 8 → ZeroAbove s k → InTop (words_read s) k
  pub zero_above_if_read : (s : List ℕ) (k : ℕ) → Words s → k < 8 → InTop (words_read s) k → ZeroAbove s k
  -- the words read determine answer and number: what the others hold changes neither (13.69)
  pub words_read_suffice : (s t : List ℕ) → SameTop (words_read s) s t → (highest t ≡ highest s) × (words_read t ≡ words_read s)
  -- fewer of the topmost words do not determine the answer: some set has the same members there, and another answer (13.69)
  pub fewer_do_not_suffice : (s : List ℕ) (m : ℕ) → m < words_read s → (t : List ℕ) × Words t × SameTop m s t × (highest t ≡ highest s → ⊥)

-- ---- worked cases
-- no member; 0; 31; 32; 0x62; 0x80; 0xAD; 0xDF; 0xE0; 31, 0x41 and 0x5F; all (14.72)
abbrev pub searched_sets : List (List ℕ)
searched_sets =
    (0 ∷ 0 ∷ 0 ∷ 0 ∷ 0 ∷ 0 ∷ 0 ∷ 0 ∷ [])
    ∷ (1 ∷ 0 ∷ 0 ∷ 0 ∷ 0 ∷ 0 ∷ 0 ∷ 0 ∷ [])
    ∷ (0x8000_0000 ∷ 0 ∷ 0 ∷ 0 ∷ 0 ∷ 0 ∷ 0 ∷ 0 ∷ [])
    ∷ (0 ∷ 1 ∷ 0 ∷ 0 ∷ 0 ∷ 0 ∷ 0 ∷ 0 ∷ [])
    ∷ (0 ∷ 0 ∷ 0 ∷ 4 ∷ 0 ∷ 0 ∷ 0 ∷ 0 ∷ [])
    ∷ (0 ∷ 0 ∷ 0 ∷ 0 ∷ 1 ∷ 0 ∷ 0 ∷ 0 ∷ [])
    ∷ (0 ∷ 0 ∷ 0 ∷ 0 ∷ 0 ∷ 0x2000 ∷ 0 ∷ 0 ∷ [])
    ∷ (0 ∷ 0 ∷ 0 ∷ 0 ∷ 0 ∷ 0 ∷ 0x8000_0000 ∷ 0 ∷ [])
    ∷ (0 ∷ 0 ∷ 0 ∷ 0 ∷ 0 ∷ 0 ∷ 0 ∷ 1 ∷ [])
    ∷ (0x8000_0000 ∷ 0 ∷ 0x8000_0002 ∷ 0 ∷ 0 ∷ 0 ∷ 0 ∷ 0 ∷ [])
    ∷ (0xFFFF_FFFF ∷ 0xFFFF_FFFF ∷ 0xFFFF_FFFF ∷ 0xFFFF_FFFF ∷ 0xFFFF_FFFF ∷ 0xFFFF_FFFF ∷ 0xFFFF_FFFF ∷ 0xFFFF_FFFF ∷ [])
    ∷ []

-- the answers and the numbers (14.72)
pub record WorkedSearch : Type 0 where
  pub answers :
      map highest searched_sets
      ≡ (None ∷ Some 0 ∷ Some 31 ∷ Some 32 ∷ Some 0x62 ∷ Some 0x80 ∷ Some 0xAD ∷ Some 0xDF ∷ Some 0xE0 ∷ Some 0x5F ∷ Some 0xFF ∷ [])
  pub numbers : map words_read searched_sets ≡ (8 ∷ 8 ∷ 8 ∷ 7 ∷ 5 ∷ 4 ∷ 3 ∷ 2 ∷ 1 ∷ 6 ∷ 1 ∷ [])
