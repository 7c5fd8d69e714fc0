-- What is claimed of a search (13.67 to 13.69), and its worked cases (14.72), proved.
-- Assumes nothing.
use mathlib.Core.Path.{◌≡◌, refl, sym, ap, ◌∙◌}
use mathlib.Core.Bool.{Bool, true, false}
use mathlib.Core.List.{List}
use Rattle.std.specs.Prelude.{Option, None, Some}
use Prim.Native.Nat.{ℕ, ◌+◌, ◌*◌, ◌/◌, ◌<◌, ◌≤◌}
use native.Mathlib.Omega.{arith}
use lib.Dec.{eqb, ltb}
use lib.ListN.{get_or}
use borrow.Author.Tests.{ltb-true, ltb-false, ne_eqb}
use Rattle.vector_set.specs.Sets.{has, empty, insert, highest, highest_below, Words}
use Rattle.vector_set.proofs.BitLaws.{number_ext, bit_zero}
use Rattle.vector_set.proofs.Laws.{words_empty, words_insert, has_word, has_empty, has_insert, clash}
use Rattle.vector_set.proofs.Laws.{highest_has, highest_above, highest_none, highest_is, highest_no}
use Rattle.vector_set.proofs.WordLaws.{no_member}
use Rattle.vector_set_search.specs.Search.{words_down_to, words_read, InTop, ZeroAbove, SameTop, SearchClaims, WorkedSearch}

-- ---- by the answer
pub reads : (s : List ℕ) (o : Option ℕ) → highest s ≡ o → words_read s ≡ words_down_to o
unfolding words_read
reads s o e = ap words_down_to e

at_most_eight_lem : (s : List ℕ) → words_read s ≤ 8
at_most_eight_lem s = go (highest s) refl
  where
    go : (o : Option ℕ) → highest s ≡ o → words_read s ≤ 8
    go None e = omega (arith, reads s None e)
    go (Some v) e = let l : v < 256 = (highest_has s v e).1 in omega (arith, reads s (Some v) e)

-- ---- a word without members is 0
pub is_zero : (s : List ℕ) (k : ℕ) → Words s → k < 8 → ((v : ℕ) → v < 256 → v / 32 ≡ k → has s v ≡ false) → get_or s k 0 ≡ 0
is_zero s k w l h =
    number_ext 32 (get_or s k 0) 0 (w.small k l) (omega arith)
    (λ b r. sym (has_word s k b r) ∙ h (32 * k + b) (omega arith) (omega arith) ∙ sym (bit_zero b))

zero_above : (s : List ℕ) (k : ℕ) → Words s → ((v : ℕ) → v < 256 → k < v / 32 → has s v ≡ false) → ZeroAbove s k
zero_above s k w h j g l = is_zero s j w l (λ v m d. h v m (omega arith))

-- ---- which words are read
read_if_zero_above_lem : (s : List ℕ) (k : ℕ) → k < 8 → ZeroAbove s k → InTop (words_read s) k
read_if_zero_above_lem s k l h = go (highest s) refl
  where
    go : (o : Option ℕ) → highest s ≡ o → InTop (words_read s) k
    go None e = omega (arith, reads s None e)
    go (Some v) e = by_word (ltb k (v / 32)) refl
      where
        m : (has s v ≡ true) × (v < 256)
        m = highest_has s v e

        by_word : (b : Bool) → ltb k (v / 32) ≡ b → InTop (words_read s) k
        by_word true p =
            let y : has s v ≡ true = m.0 in
            let i : v < 256 = m.1 in
            let n : has s v ≡ false = no_member s v (h (v / 32) (ltb-true k (v / 32) p) (omega arith)) in
            clash (cc)
        by_word false p = let g : v / 32 ≤ k = ltb-false k (v / 32) p in omega (arith, reads s (Some v) e)

zero_above_if_read_lem : (s : List ℕ) (k : ℕ) → Words s → k < 8 → InTop (words_read s) k → ZeroAbove s k
zero_above_if_read_lem s k w l r = zero_above s k w (go (highest s) refl)
  where
    go : (o : Option ℕ) → highest s ≡ o → (v : ℕ) → v < 256 → k < v / 32 → has s v ≡ false
    go None e = λ v m g. highest_none s e v m
    go (Some u) e = λ v m g. highest_above s u e v m (omega (arith, reads s (Some u) e))

-- the top word is read, and no other where it is not 0
top_word_alone_lem : (s : List ℕ) → Words s → (get_or s 7 0 ≡ 0 → ⊥) → words_read s ≡ 1
top_word_alone_lem s w h = go (ltb 1 (words_read s)) refl
  where
    first : InTop (words_read s) 7
    first = read_if_zero_above_lem s 7 (omega arith) (λ j g l. let z : ⊥ = omega arith in absurd z)

    go : (b : Bool) → ltb 1 (words_read s) ≡ b → words_read s ≡ 1
    go true p =
        let two : 1 < words_read s = ltb-true 1 (words_read s) p in
        absurd (h (zero_above_if_read_lem s 6 w (omega arith) (omega arith) 7 (omega arith) (omega arith)))
    go false p = let most : words_read s ≤ 1 = ltb-false 1 (words_read s) p in let r : 8 ≤ 7 + words_read s = first in omega arith

-- ---- two sets with the same topmost words
same_answer : (s t : List ℕ) → SameTop (words_read s) s t → highest t ≡ highest s
same_answer s t h = go (highest s) refl
  where
    go : (o : Option ℕ) → highest s ≡ o → highest t ≡ o
    go None e = highest_no t (λ w m. h w m (omega (arith, reads s None e)) ∙ highest_none s e w m)
    go (Some v) e =
        let m = highest_has s v e in
        highest_is t v m.1 (h v m.1 (omega (arith, reads s (Some v) e)) ∙ m.0)
        (λ w l g. h w l (omega (arith, reads s (Some v) e)) ∙ highest_above s v e w l g)

suffice : (s t : List ℕ) → SameTop (words_read s) s t → (highest t ≡ highest s) × (words_read t ≡ words_read s)
suffice s t h = let e = same_answer s t h in (e, reads t _ e ∙ sym (reads s _ refl))

-- the other set is {0} where s is empty, and empty where s has a member
fewer_do_not : (s : List ℕ) (m : ℕ) → m < words_read s → (t : List ℕ) × Words t × SameTop m s t × (highest t ≡ highest s → ⊥)
fewer_do_not s m l = go (highest s) refl
  where
    go : (o : Option ℕ) → highest s ≡ o → (t : List ℕ) × Words t × SameTop m s t × (highest t ≡ highest s → ⊥)
    go None e = (insert 0 empty, words_insert 0 empty, same, other)
      where
        same : SameTop m s (insert 0 empty)
        same v k g =
            let r = reads s None e in
            let d : eqb v 0 ≡ false = ne_eqb v 0 (omega arith) in
            has_insert 0 empty v k ∙ rw (d, has_empty v k) (sym (highest_none s e v k))

        other : highest (insert 0 empty) ≡ highest s → ⊥
        other q =
            let y : has (insert 0 empty) 0 ≡ true = has_insert 0 empty 0 (omega arith) in
            let n : has (insert 0 empty) 0 ≡ false = highest_none (insert 0 empty) (q ∙ e) 0 (omega arith) in
            clash (cc)
    go (Some v) e = (empty, words_empty, same, other)
      where
        same : SameTop m s empty
        same w k g = has_empty w k ∙ sym (highest_above s v e w k (omega (arith, reads s (Some v) e)))

        other : highest empty ≡ highest s → ⊥
        other q =
            let y : (has empty v ≡ true) × (v < 256) = highest_has empty v (q ∙ e) in
            let n : has empty v ≡ false = has_empty v y.1 in
            let x : has empty v ≡ true = y.0 in
            clash (cc)

-- ---- the claims
pub search_claims : SearchClaims
search_claims =
    record {
      member_by_bit = has_word;
      is_highest = λ s v e. ((highest_has s v e).1, (highest_has s v e).0, highest_above s v e);
      none_is_empty = highest_none;
      at_most_eight = at_most_eight_lem;
      top_word_alone = top_word_alone_lem;
      read_if_zero_above = read_if_zero_above_lem;
      zero_above_if_read = zero_above_if_read_lem;
      words_read_suffice = suffice;
      fewer_do_not_suffice = fewer_do_not;
    }

pub worked_search : WorkedSearch
unfolding words_read highest highest_below has
worked_search = record { answers = refl; numbers = refl }
