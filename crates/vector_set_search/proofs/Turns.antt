-- A turn of the search over marked words: what is left of the marks is the byte below some bit, and the words from there on have no member that counts.
-- Assumes nothing.
use mathlib.Core.Path.{◌≡◌, refl, sym, ap, ◌∙◌}
use mathlib.Core.Bool.{Bool, true, false}
use mathlib.Core.List.{List}
use Rattle.std.specs.Prelude.{Option, None, Some}
use Prim.Native.Nat.{ℕ, suc, ◌+◌, ◌-◌, ◌*◌, ◌/◌, ◌%◌, ◌^◌, ◌<◌, ◌≤◌}
use native.Mathlib.Omega.{arith}
use native.Mathlib.Nat.{mod-lt, mod-eq_of_lt, div-one, div-eq_of_lt, pow-succ'}
use lib.Dec.{ltb}
use lib.ListN.{get_or}
use lib.Pow.{pow_pos, pow_mono, mod-mod-pow, mod-pow-add}
use lib.Count.{ones, ones-ones}
use borrow.Author.Tests.{ltb-true, ltb-false}
use Rattle.vector_set.specs.Bits.{one, bit_at}
use Rattle.vector_set.specs.Sets.{has, highest, Words}
use Rattle.vector_set.specs.Summaries.{in_marked}
use Rattle.vector_set.proofs.BitLaws.{bit_number, bit_mod, bit_above, bit_top, bit_zero}
use Rattle.vector_set.proofs.Laws.{highest_no}
use Rattle.vector_set.proofs.WordLaws.{highest_word, zero_word}
use Rattle.vector_set.proofs.MarkedLaws.{has_out, word_in, ones_from, ones_between}
use Rattle.vector_set_search.specs.Marked.{marked_down_to, marked_read}

-- how many marked words there are from word 7 down to word k
abbrev pub marked_from : ℕ → ℕ → ℕ
marked_from b k = ones (b / 2 ^ k)

-- no word from word n on has a member that counts
abbrev pub NoneFrom : ℕ → List ℕ → ℕ → Type 0
NoneFrom b s n = (w : ℕ) → w < 256 → 32 * n ≤ w → has (in_marked b s) w ≡ false

-- before a turn: the words from some n on are dealt with
pub record Left (b : ℕ) (s : List ℕ) (left read : ℕ) : Type 0 where
  pub n : ℕ
  pub few : n ≤ 8
  pub rest : left ≡ b % 2 ^ n
  pub number : read ≡ marked_from b n
  pub none_from : NoneFrom b s n

-- in a turn: word k is the next one that is marked
pub record Turn (b : ℕ) (s : List ℕ) (left read k : ℕ) : Type 0 where
  pub small : k < 8
  pub fits : 2 ^ k ≤ left
  pub marked : bit_at b k ≡ true
  pub rest : left - 2 ^ k ≡ b % 2 ^ k
  pub number : read + 1 ≡ marked_from b k
  pub none_above : NoneFrom b s (suc k)

-- ---- by the answer
pub reads_marked : (b : ℕ) (s : List ℕ) (o : Option ℕ) → highest (in_marked b s) ≡ o → marked_read b s ≡ marked_down_to b o
unfolding marked_read
reads_marked b s o e = ap (marked_down_to b) e

-- all marked words are those from word 0 on
pub from_zero : (b : ℕ) → marked_from b 0 ≡ ones b
from_zero b = ap ones (div-one b)

-- ---- the turns
ones_zero : ones 0 ≡ 0
ones_zero = ones-ones 0

pub start : (b : ℕ) (s : List ℕ) (left read : ℕ) → b < 256 → left ≡ b → read ≡ 0 → Left b s left read
start b s left read l e z =
    record {
      n = 8;
      few = omega arith;
      rest = e ∙ sym (mod-eq_of_lt l);
      number = z ∙ sym (ap ones (div-eq_of_lt l) ∙ ones_zero);
      none_from = λ w m g. let z : ⊥ = omega arith in absurd z;
    }

-- bit j is the highest of what is left below bit n: j is below n, and nothing is marked between
top_below : (b n j : ℕ) → 2 ^ j ≤ b % 2 ^ n → j < n
top_below b n j lo = go (ltb j n) refl
  where
    go : (t : Bool) → ltb j n ≡ t → j < n
    go true p = ltb-true j n p
    go false p = let z : ⊥ = omega (arith, pow_mono {i = n} {j = j} (ltb-false j n p), mod-lt b (pow_pos n)) in absurd z

top_cut : (b n j : ℕ) → j < n → b % 2 ^ n < 2 ^ suc j → b % 2 ^ suc j ≡ b % 2 ^ n
top_cut b n j l hi =
    let e : n ≡ (n - suc j) + suc j = omega arith in
    sym (mod-mod-pow b (n - suc j) (suc j)) ∙ ap (λ (i : ℕ). b % 2 ^ i % 2 ^ suc j) (sym e) ∙ mod-eq_of_lt hi

top_marked : (b n j : ℕ) → j < n → 2 ^ j ≤ b % 2 ^ n → b % 2 ^ n < 2 ^ suc j → bit_at b j ≡ true
top_marked b n j l lo hi = sym (bit_mod n b j l) ∙ bit_top j (b % 2 ^ n) lo hi

top_rest : (b n j : ℕ) → j < n → 2 ^ j ≤ b % 2 ^ n → b % 2 ^ n < 2 ^ suc j → b % 2 ^ n - 2 ^ j ≡ b % 2 ^ j
top_rest b n j l lo hi =
    let e : b % 2 ^ suc j ≡ b / 2 ^ j % 2 ^ 1 * 2 ^ j + b % 2 ^ j = ap (λ (i : ℕ). b % 2 ^ i) (omega arith) ∙ mod-pow-add b 1 j in
    let o : b / 2 ^ j % 2 ≡ 1 = sym (bit_number b j) ∙ ap one (top_marked b n j l lo hi) in
    let c = top_cut b n j l hi in
    let f : b % 2 ^ suc j ≡ 1 * 2 ^ j + b % 2 ^ j = e ∙ ap (λ (x : ℕ). x * 2 ^ j + b % 2 ^ j) o in
    omega arith

top_number : (b n j : ℕ) → j < n → 2 ^ j ≤ b % 2 ^ n → b % 2 ^ n < 2 ^ suc j → marked_from b n + 1 ≡ marked_from b j
top_number b n j l lo hi =
    let o : one (bit_at b j) ≡ 1 = ap one (top_marked b n j l lo hi) in
    let z : ones (b % 2 ^ n / 2 ^ suc j) ≡ 0 = ap ones (div-eq_of_lt hi) ∙ ones_zero in
    omega (arith, ones_from b j, ones_between b (suc j) n l)

top_none : (b : ℕ) (s : List ℕ) (n j : ℕ) → b % 2 ^ n < 2 ^ suc j → NoneFrom b s n → NoneFrom b s (suc j)
top_none b s n j hi h w m g = go (ltb w (32 * n)) refl
  where
    go : (t : Bool) → ltb w (32 * n) ≡ t → has (in_marked b s) w ≡ false
    go false p = h w m (ltb-false w (32 * n) p)
    go true p =
        let k : w < 32 * n = ltb-true w (32 * n) p in
        has_out b s w m (sym (bit_mod n b (w / 32) (omega arith)) ∙ bit_above (suc j) (b % 2 ^ n) (w / 32) hi (omega arith))

pub turn : (b : ℕ) (s : List ℕ) (left read j : ℕ) → Left b s left read → 2 ^ j ≤ left → left < 2 * 2 ^ j → Turn b s left read j
turn b s left read j h lo hi =
    let n = h.n in
    let few : n ≤ 8 = h.few in
    let r : left ≡ b % 2 ^ n = h.rest in
    let p : 2 ^ suc j ≡ 2 * 2 ^ j = pow-succ' 2 j in
    let o : 2 ^ j ≤ b % 2 ^ n = omega arith in
    let i : b % 2 ^ n < 2 ^ suc j = omega arith in
    let k : j < n = top_below b n j o in
    record {
      small = omega arith;
      fits = lo;
      marked = top_marked b n j k o i;
      rest = ap (λ (x : ℕ). x - 2 ^ j) r ∙ top_rest b n j k o i;
      number = ap (λ (x : ℕ). x + 1) h.number ∙ top_number b n j k o i;
      none_above = top_none b s n j i h.none_from;
    }

-- word k is not 0: its highest member is the answer
pub found : (b : ℕ) (s : List ℕ) (left read k j : ℕ) → Words s → Turn b s left read k → j < 32 → 2 ^ j ≤ get_or s k 0 → get_or s k 0 < 2 * 2 ^ j
    → highest (in_marked b s) ≡ Some (32 * k + j)
found b s left read k j ws t l lo hi =
    let e : get_or (in_marked b s) k 0 ≡ get_or s k 0 = word_in b s k ws t.small t.marked in
    highest_word (in_marked b s) k j t.small l (omega (arith, e)) (omega (arith, e)) t.none_above

-- word k is 0: the turns go on below it
pub passed : (b : ℕ) (s : List ℕ) (left read k : ℕ) → Words s → Turn b s left read k → get_or s k 0 ≡ 0 → Left b s (left - 2 ^ k) (read + 1)
passed b s left read k ws t z =
    let small : k < 8 = t.small in
    record {
      n = k;
      few = omega arith;
      rest = t.rest;
      number = t.number;
      none_from = zero_word (in_marked b s) k (word_in b s k ws t.small t.marked ∙ z) t.none_above;
    }

-- nothing is left: no marked word has a member
pub nothing_left : (b : ℕ) (s : List ℕ) (left read : ℕ) → Left b s left read → left ≡ 0 → (highest (in_marked b s) ≡ None) × (read ≡ marked_read b s)
nothing_left b s left read h z =
    let n = h.n in
    let r : b % 2 ^ n ≡ 0 = sym h.rest ∙ z in
    let no : highest (in_marked b s) ≡ None = highest_no (in_marked b s) (λ w m. go n r h.none_from w m (ltb w (32 * n)) refl) in
    let o : ones (b % 2 ^ n / 2 ^ 0) ≡ 0 = ap (λ (x : ℕ). ones (x / 2 ^ 0)) r ∙ ones_zero in
    (no, omega (arith, h.number, from_zero b, ones_between b 0 n (omega arith), reads_marked b s None no))
  where
    go : (n : ℕ) → b % 2 ^ n ≡ 0 → NoneFrom b s n → (w : ℕ) → w < 256 → (t : Bool) → ltb w (32 * n) ≡ t → has (in_marked b s) w ≡ false
    go n r f w m false p = f w m (ltb-false w (32 * n) p)
    go n r f w m true p =
        let k : w < 32 * n = ltb-true w (32 * n) p in
        has_out b s w m (sym (bit_mod n b (w / 32) (omega arith)) ∙ ap (λ (x : ℕ). bit_at x (w / 32)) r ∙ bit_zero (w / 32))
