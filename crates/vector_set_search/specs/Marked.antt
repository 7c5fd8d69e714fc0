-- A search for the highest member in the words that a byte marks (2.20): how many words it reads, what is claimed of answer and number (13.75),
-- worked cases (14.82). Bit k of the byte is for word k, that of the vectors 32 k to 32 k + 31; word 7 is the top one.
-- Assumes nothing.
use Rattle.std.specs.Prelude.{◌≡◌, Bool, true, false, not, ◌&&◌, List, [], ◌∷◌, ℕ, zero, suc, ◌+◌, ◌/◌, ◌^◌, ◌<◌, ◌≤◌, eqb, leb}
use Rattle.std.specs.Prelude.{Option, None, Some}
use Rattle.std.specs.Int.Count.{ones}
use Rattle.vector_set.specs.Bits.{one, bit_at}
use Rattle.vector_set.specs.Sets.{has, highest, Words}
use Rattle.vector_set.specs.Summaries.{summary_of, in_marked}
use Rattle.vector_set_search.specs.Search.{words_read}

-- the highest member of s in a word that b marks, or none (2.20)
abbrev pub highest_marked : ℕ → List ℕ → Option ℕ
highest_marked b s = highest (in_marked b s)

-- how many marked words there are from word 7 down to that of the answer, which counts too; without an answer all marked words (2.20)
abbrev pub marked_down_to : ℕ → Option ℕ → ℕ
marked_down_to b None = ones b
marked_down_to b (Some v) = ones (b / 2 ^ (v / 32))

-- how many words a search of s reads that looks at the words that b marks alone, the highest first (2.20)
unfoldable pub marked_read : ℕ → List ℕ → ℕ
marked_read b s = marked_down_to b (highest_marked b s)

-- ---- what is claimed
-- the lowest word that a search looks at, where it is marked: that of the answer; without an answer word 0 (13.75)
abbrev pub lowest_read : Option ℕ → ℕ
lowest_read None = 0
lowest_read (Some v) = v / 32

-- word k is read in a search of s over the words that b marks: it is marked, and not below that of the answer (13.75)
abbrev pub is_read : ℕ → List ℕ → ℕ → Bool
is_read b s k = bit_at b k && leb (lowest_read (highest_marked b s)) k

-- how many of the words below word n are so (13.75)
unfoldable pub words_with : (ℕ → Bool) → ℕ → ℕ
words_with f zero = 0
words_with f (suc n) = one (f n) + words_with f n

-- s and t have the same members in the words with f (13.75)
abbrev pub SameIn : (ℕ → Bool) → List ℕ → List ℕ → Type 0
SameIn f s t = (v : ℕ) → v < 256 → f (v / 32) ≡ true → has t v ≡ has s v

-- (13.75)
pub record MarkedClaims : Type 0 where
  -- an answer is a member in a marked word, and no member of a marked word is above it
  pub isHighestMarked :
      (b : ℕ) (s : List ℕ) (v : ℕ)
      → highest_marked b s ≡ Some v
      → (v < 256) × (bit_at b (v / 32) ≡ true) × (has s v ≡ true) × ((w : ℕ) → w < 256 → v < w → bit_at b (w / 32) ≡ true → has s w ≡ false)
  -- without an answer no marked word has a member
  pub none_in_marked : (b : ℕ) (s : List ℕ) → highest_marked b s ≡ None → (w : ℕ) → w < 256 → bit_at b (w / 32) ≡ true → has s w ≡ false
  -- at most as many words are read as are marked
  pub at_most_marked : (b : ℕ) (s : List ℕ) → marked_read b s ≤ ones b
  -- no answer and no word read, where none is marked
  pub none_marked : (s : List ℕ) → (highest_marked 0 s ≡ None) × (marked_read 0 s ≡ 0)
  -- with a set's own summary: its highest member, in the one word that is read; none is read where there is no member
  pub by_summary : (s : List ℕ) → highest_marked (summary_of s) s ≡ highest s
  pub by_summary_one : (s : List ℕ) (v : ℕ) → Words s → highest s ≡ Some v → marked_read (summary_of s) s ≡ 1
  pub by_summary_none : (s : List ℕ) → Words s → highest s ≡ None → marked_read (summary_of s) s ≡ 0
  -- where all words are marked, it is the search of the whole set
  pub all_marked : (s : List ℕ) → (highest_marked 255 s ≡ highest s) × (marked_read 255 s ≡ words_read s)
  -- what a word holds that is not read changes neither answer nor number; so it is with an unmarked one
  pub read_suffice : (b : ℕ) (s t : List ℕ) → SameIn (is_read b s) s t → (highest_marked b t ≡ highest_marked b s) × (marked_read b t ≡ marked_read b s)
  pub unmarked_apart : (b : ℕ) (s t : List ℕ) → SameIn (bit_at b) s t → (highest_marked b t ≡ highest_marked b s) × (marked_read b t ≡ marked_read b s)
  -- each word that is read is needed: some set has the same members in all others, and another answer
  pub eachReadNeeded :
      (b : ℕ) (s : List ℕ) (k : ℕ)
      → k < 8
      → is_read b s k ≡ true
      → (t : List ℕ) × Words t × SameIn (λ j. not (eqb j k)) s t × (highest_marked b t ≡ highest_marked b s → ⊥)
  -- the number counts the words that are read, each once and no other
  pub counts_read : (b : ℕ) (s : List ℕ) → b < 256 → marked_read b s ≡ words_with (is_read b s) 8

-- ---- worked cases
-- a search of s over the words that b marks gives this answer and reads so many words (14.82)
abbrev pub Gives : ℕ → List ℕ → Option ℕ → ℕ → Type 0
Gives b s o n = (highest_marked b s ≡ o) × (marked_read b s ≡ n)

-- no member; 31, 0x41, 0x5F and 0xAD, in the words 0, 2 and 5 (14.82)
abbrev pub no_members : List ℕ
no_members = 0 ∷ 0 ∷ 0 ∷ 0 ∷ 0 ∷ 0 ∷ 0 ∷ 0 ∷ []

abbrev pub four_members : List ℕ
four_members = 0x8000_0000 ∷ 0 ∷ 0x8000_0002 ∷ 0 ∷ 0 ∷ 0x2000 ∷ 0 ∷ 0 ∷ []

-- (14.82)
pub record WorkedMarked : Type 0 where
  -- the empty set: no word marked, all, the top one
  pub empty_none : Gives 0 no_members None 0
  pub empty_all : Gives 0xFF no_members None 8
  pub empty_top : Gives 0x80 no_members None 1
  -- four members: the summary; no word marked, those that hold something, all
  pub own_summary : summary_of four_members ≡ 0x25
  pub none_marked : Gives 0 four_members None 0
  pub summary : Gives 0x25 four_members (Some 0xAD) 1
  pub all : Gives 0xFF four_members (Some 0xAD) 3
  -- the byte is untrue: word 7 is marked too and is empty; just the words that are empty are marked
  pub top_empty : Gives 0xA5 four_members (Some 0xAD) 2
  pub only_empty : Gives 0xDA four_members None 5
  -- word 5 has a member and is not marked, nor is word 2 in the second case; in the third, empty words above word 2 are
  pub left_out : Gives 0x05 four_members (Some 0x5F) 1
  pub left_out_two : Gives 0x03 four_members (Some 31) 2
  pub between : Gives 0x5C four_members (Some 0x5F) 4
