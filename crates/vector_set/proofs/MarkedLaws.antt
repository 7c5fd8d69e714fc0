-- The words that a byte marks: the members in them, word by word, and how many there are from a word on.
-- Assumes nothing.
use mathlib.Core.Path.{◌≡◌, sym, ap, ap₂, ◌∙◌}
use mathlib.Core.Bool.{Bool, true, false, ◌&&◌}
use mathlib.Core.List.{List}
use Prim.Native.Nat.{ℕ, suc, ◌+◌, ◌-◌, ◌*◌, ◌/◌, ◌%◌, ◌^◌, ◌<◌, ◌≤◌}
use native.Mathlib.Omega.{arith}
use native.Mathlib.Nat.{mod-lt}
use lib.ListN.{get_or}
use lib.Pow.{pow_pos, split, shr-shr, field}
use lib.Count.{ones, ones_step, ones_cat}
use Rattle.vector_set.specs.Bits.{one, bit_at}
use Rattle.vector_set.specs.Sets.{has}
use Rattle.vector_set.specs.Summaries.{in_marked}
use Rattle.vector_set.proofs.BitLaws.{bit_number, number_ext}
use Rattle.vector_set.proofs.Laws.{Words, has_collect, has_word, collect_words}

-- ---- the members in marked words
pub has_marked : (b : ℕ) (s : List ℕ) (v : ℕ) → v < 256 → has (in_marked b s) v ≡ (bit_at b (v / 32) && has s v)
unfolding in_marked
has_marked b s v l = has_collect (λ v. bit_at b (v / 32) && has s v) v l

pub words_marked : (b : ℕ) (s : List ℕ) → Words (in_marked b s)
unfolding in_marked
words_marked b s = collect_words (λ v. bit_at b (v / 32) && has s v)

pub has_in : (b : ℕ) (s : List ℕ) (v : ℕ) → v < 256 → bit_at b (v / 32) ≡ true → has (in_marked b s) v ≡ has s v
has_in b s v l m = has_marked b s v l ∙ ap (λ (t : Bool). t && has s v) m

pub has_out : (b : ℕ) (s : List ℕ) (v : ℕ) → v < 256 → bit_at b (v / 32) ≡ false → has (in_marked b s) v ≡ false
has_out b s v l m = has_marked b s v l ∙ ap (λ (t : Bool). t && has s v) m

-- a marked word is that of the set
pub word_in : (b : ℕ) (s : List ℕ) (k : ℕ) → Words s → k < 8 → bit_at b k ≡ true → get_or (in_marked b s) k 0 ≡ get_or s k 0
word_in b s k w l m =
    number_ext 32 (get_or (in_marked b s) k 0) (get_or s k 0) ((words_marked b s).small k l) (w.small k l)
    (λ j r. let d : (32 * k + j) / 32 ≡ k = omega arith in
    sym (has_word (in_marked b s) k j r) ∙ has_in b s (32 * k + j) (omega arith) (ap (bit_at b) d ∙ m) ∙ has_word s k j r)

-- ---- how many words are marked
-- word k, and those above it
pub ones_from : (b k : ℕ) → ones (b / 2 ^ k) ≡ one (bit_at b k) + ones (b / 2 ^ suc k)
ones_from b k =
    ones_step (b / 2 ^ k) ∙ ap₂ (λ (x y : ℕ). x + ones y) (sym (bit_number b k)) (shr-shr b k 1 ∙ ap (λ (j : ℕ). b / 2 ^ j) (omega arith))

-- those from word n on, and those from word k on and below n
pub ones_between : (b k n : ℕ) → k ≤ n → ones (b / 2 ^ k) ≡ ones (b / 2 ^ n) + ones (b % 2 ^ n / 2 ^ k)
ones_between b k n l =
    let x = b / 2 ^ k in
    let d = n - k in
    let high : x / 2 ^ d ≡ b / 2 ^ n = shr-shr b k d ∙ ap (λ (j : ℕ). b / 2 ^ j) (omega arith) in
    let low : x % 2 ^ d ≡ b % 2 ^ n / 2 ^ k = sym (field b d k) ∙ ap (λ (j : ℕ). b % 2 ^ j / 2 ^ k) (omega arith) in
    ap ones (sym (split x d)) ∙ ones_cat d (x / 2 ^ d) (x % 2 ^ d) (mod-lt x (pow_pos d)) ∙ ap₂ (λ (y z : ℕ). ones y + ones z) high low
