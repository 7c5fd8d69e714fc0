-- The summary of a set, a byte with a bit for each word: set where the word, for word k that of the vectors 32 k to 32 k + 31, has a member (2.19); and
-- what is seen of a set by a byte that marks words (2.20).
-- Assumes nothing.
use Rattle.std.specs.Prelude.{Bool, cond, not, ◌&&◌, List, ℕ, ◌/◌, eqb, get_or}
use Rattle.vector_set.specs.Bits.{bit_at, bits}
use Rattle.vector_set.specs.Sets.{has, collect}

-- word k of s is not 0: one of its vectors is a member (2.17, 2.19)
abbrev pub holds : List ℕ → ℕ → Bool
holds s k = not (eqb (get_or s k 0) 0)

-- the summary of s (2.19)
unfoldable pub summary_of : List ℕ → ℕ
summary_of s = bits (holds s) 0 8

-- the members of s in words that the byte b marks (2.20)
unfoldable pub in_marked : ℕ → List ℕ → List ℕ
in_marked b s = collect (λ v. bit_at b (v / 32) && has s v)

-- the byte b once vectors of f have changed and the set is s: it is made anew for the words in which f has a vector, and stays for the others (2.21)
unfoldable pub remade : (ℕ → Bool) → List ℕ → ℕ → ℕ
remade f s b = bits (λ k. cond (holds (collect f) k) (holds s k) (bit_at b k)) 0 8
