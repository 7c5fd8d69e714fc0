-- What is claimed of a search over marked words (13.75), and its worked cases (14.82), proved.
-- Assumes nothing.
use mathlib.Core.Path.{◌≡◌, refl, sym, ap, ap₂, ◌∙◌, subst}
use mathlib.Core.Bool.{Bool, true, false, cond, not, ◌&&◌, and-true, and-false}
use mathlib.Core.List.{List, [], ◌∷◌}
use Rattle.std.specs.Prelude.{Option, None, Some}
use Prim.Native.Nat.{ℕ, zero, suc, ◌+◌, ◌-◌, ◌*◌, ◌/◌, ◌^◌, ◌<◌, ◌≤◌}
use native.Mathlib.Omega.{arith}
use native.Mathlib.Nat.{div-eq_of_lt}
use lib.Dec.{eqb, leb, ltb}
use lib.ListN.{get_or}
use lib.Pow.{shr_le, ones_split, ones_lt, high}
use lib.Count.{ones, ones-ones}
use borrow.Author.Tests.{eqb-true, eqb-false, eq-eqb, leb-true, leb-false, le-leb, lt-leb, ltb-true, ltb-false}
use Rattle.vector_set.specs.Bits.{one, bit_at, bits}
use Rattle.vector_set.specs.Sets.{has, words, collect, highest, highest_below, Words}
use Rattle.vector_set.specs.Summaries.{holds, summary_of, in_marked}
use Rattle.vector_set.proofs.BitLaws.{clash, number_ext, bits_bit, bits_lt, bit_zero, bit_shr, bit_above}
use Rattle.vector_set.proofs.Laws.{has_collect, collect_words, highest_has, highest_above, highest_none, highest_is, highest_no}
use Rattle.vector_set.proofs.WordLaws.{no_member}
use Rattle.vector_set.proofs.MarkedLaws.{has_marked, has_in, has_out, ones_from, ones_between}
use Rattle.vector_set_search.specs.Search.{words_read}
use Rattle.vector_set_search.specs.Marked.{highest_marked, marked_down_to, marked_read, lowest_read, is_read, words_with, SameIn, MarkedClaims}
use Rattle.vector_set_search.specs.Marked.{Gives, no_members, four_members, WorkedMarked}
use Rattle.vector_set_search.proofs.Searched.{reads, is_zero}
use Rattle.vector_set_search.proofs.Turns.{marked_from, reads_marked, from_zero}

-- ---- the answer
both : (p q : Bool) → (p && q) ≡ true → (p ≡ true) × (q ≡ true)
both true q e = (refl, e)
both false q e = clash (cc)

is_highest_marked : (b : ℕ) (s : List ℕ) (v : ℕ) → highest_marked b s ≡ Some v
    → (v < 256) × (bit_at b (v / 32) ≡ true) × (has s v ≡ true) × ((w : ℕ) → w < 256 → v < w → bit_at b (w / 32) ≡ true → has s w ≡ false)
is_highest_marked b s v e =
    let h = highest_has (in_marked b s) v e in
    let m = both (bit_at b (v / 32)) (has s v) (sym (has_marked b s v h.1) ∙ h.0) in
    (h.1, m.0, m.1, λ w l g k. sym (has_in b s w l k) ∙ highest_above (in_marked b s) v e w l g)

none_in_marked_lem : (b : ℕ) (s : List ℕ) → highest_marked b s ≡ None → (w : ℕ) → w < 256 → bit_at b (w / 32) ≡ true → has s w ≡ false
none_in_marked_lem b s e w l k = sym (has_in b s w l k) ∙ highest_none (in_marked b s) e w l

-- ---- the number
all_from : (b k : ℕ) → marked_from b k ≤ ones b
all_from b k = omega (arith, from_zero b, ones_between b 0 k (omega arith))

at_most_marked_lem : (b : ℕ) (s : List ℕ) → marked_read b s ≤ ones b
at_most_marked_lem b s = go (highest_marked b s) refl
  where
    go : (o : Option ℕ) → highest_marked b s ≡ o → marked_read b s ≤ ones b
    go None e = omega (arith, reads_marked b s None e)
    go (Some v) e = subst (λ (n : ℕ). n ≤ ones b) (sym (reads_marked b s (Some v) e)) (all_from b _)

none_marked_lem : (s : List ℕ) → (highest_marked 0 s ≡ None) × (marked_read 0 s ≡ 0)
none_marked_lem s =
    let e : highest_marked 0 s ≡ None = highest_no (in_marked 0 s) (λ w l. has_out 0 s w l (bit_zero (w / 32))) in
    (e, omega (arith, reads_marked 0 s None e, ones-ones 0))

-- ---- where all words are marked
same_highest : (s t : List ℕ) → ((v : ℕ) → v < 256 → has t v ≡ has s v) → highest t ≡ highest s
same_highest s t h = go (highest s) refl
  where
    go : (o : Option ℕ) → highest s ≡ o → highest t ≡ o
    go None e = highest_no t (λ w l. h w l ∙ highest_none s e w l)
    go (Some v) e =
        let m = highest_has s v e in
        highest_is t v m.1 (h v m.1 ∙ m.0) (λ w l g. h w l ∙ highest_above s v e w l g)

each_marked : (k : ℕ) → k < 8 → bit_at 255 k ≡ true
unfolding bits
each_marked k l = bits_bit (λ j. true) 0 8 k l

ones_down : (k : ℕ) → k < 8 → marked_from 255 k ≡ 8 - k
ones_down k l =
    let e : 8 ≡ (8 - k) + k = omega arith in
    let d : 255 ≡ (2 ^ (8 - k) - 1) * 2 ^ k + (2 ^ k - 1) = ap (λ (j : ℕ). 2 ^ j - 1) e ∙ ones_split (8 - k) k in
    ap (λ (x : ℕ). ones (x / 2 ^ k)) d ∙ ap ones (high (2 ^ (8 - k) - 1) k (ones_lt k)) ∙ ones-ones (8 - k)

all_marked_lem : (s : List ℕ) → (highest_marked 255 s ≡ highest s) × (marked_read 255 s ≡ words_read s)
all_marked_lem s = (same, go (highest s) refl)
  where
    same : highest_marked 255 s ≡ highest s
    same = same_highest s (in_marked 255 s) (λ v l. has_in 255 s v l (each_marked (v / 32) (omega arith)))

    go : (o : Option ℕ) → highest s ≡ o → marked_read 255 s ≡ words_read s
    go None e = omega (arith, reads_marked 255 s None (same ∙ e), ones-ones 8, reads s None e)
    go (Some v) e =
        let l : v < 256 = (highest_has s v e).1 in
        omega (arith, reads_marked 255 s (Some v) (same ∙ e), ones_down (v / 32) (omega arith), reads s (Some v) e)

-- ---- with the set's own summary
summary_bit : (s : List ℕ) (k : ℕ) → k < 8 → bit_at (summary_of s) k ≡ holds s k
unfolding summary_of
summary_bit s k l = bits_bit (holds s) 0 8 k l ∙ ap (holds s) (omega arith)

summary_lt : (s : List ℕ) → summary_of s < 2 ^ 8
unfolding summary_of
summary_lt s = bits_lt (holds s) 0 8

-- a word with a member is not 0
member_holds : (s : List ℕ) (v : ℕ) → has s v ≡ true → holds s (v / 32) ≡ true
member_holds s v h = go (eqb (get_or s (v / 32) 0) 0) refl
  where
    go : (t : Bool) → eqb (get_or s (v / 32) 0) 0 ≡ t → not t ≡ true
    go false p = refl
    go true p = let n : has s v ≡ false = no_member s v (eqb-true (get_or s (v / 32) 0) 0 p) in clash (cc)

by_summary_lem : (s : List ℕ) → highest_marked (summary_of s) s ≡ highest s
by_summary_lem s =
    same_highest s (in_marked (summary_of s) s)
    (λ v l. has_marked (summary_of s) s v l ∙ ap (λ (t : Bool). t && has s v) (summary_bit s (v / 32) (omega arith)) ∙ go v (has s v) refl)
  where
    go : (v : ℕ) (t : Bool) → has s v ≡ t → (holds s (v / 32) && t) ≡ t
    go v true h = ap (λ (x : Bool). x && true) (member_holds s v h)
    go v false h = and-false (holds s (v / 32))

-- no bit of the summary from bit n on, where the words from word n on have no member
summary_above : (s : List ℕ) (n : ℕ) → Words s → ((v : ℕ) → v < 256 → n ≤ v / 32 → has s v ≡ false) → summary_of s / 2 ^ n ≡ 0
summary_above s n w h =
    number_ext 8 (summary_of s / 2 ^ n) 0 (omega (arith, shr_le (summary_of s) n, summary_lt s)) (omega arith)
    (λ j l. bit_shr (summary_of s) n j ∙ go (n + j) (omega arith) (ltb (n + j) 8) refl ∙ sym (bit_zero j))
  where
    go : (k : ℕ) → n ≤ k → (t : Bool) → ltb k 8 ≡ t → bit_at (summary_of s) k ≡ false
    go k g false p = bit_above 8 (summary_of s) k (summary_lt s) (ltb-false k 8 p)
    go k g true p =
        let l = ltb-true k 8 p in
        let z : get_or s k 0 ≡ 0 = is_zero s k w l (λ v m d. h v m (omega arith)) in
        summary_bit s k l ∙ ap (λ (x : ℕ). not (eqb x 0)) z

by_summary_one_lem : (s : List ℕ) (v : ℕ) → Words s → highest s ≡ Some v → marked_read (summary_of s) s ≡ 1
by_summary_one_lem s v w e =
    let h = highest_has s v e in
    let l : v < 256 = h.1 in
    let o : one (bit_at (summary_of s) (v / 32)) ≡ 1 = ap one (summary_bit s (v / 32) (omega arith) ∙ member_holds s v h.0) in
    let z : summary_of s / 2 ^ suc (v / 32) ≡ 0 = summary_above s (suc (v / 32)) w (λ u m g. highest_above s v e u m (omega arith)) in
    let n : ones (summary_of s / 2 ^ suc (v / 32)) ≡ 0 = ap ones z ∙ ones-ones 0 in
    omega (arith, reads_marked (summary_of s) s (Some v) (by_summary_lem s ∙ e), ones_from (summary_of s) (v / 32))

by_summary_none_lem : (s : List ℕ) → Words s → highest s ≡ None → marked_read (summary_of s) s ≡ 0
by_summary_none_lem s w e =
    let z : marked_from (summary_of s) 0 ≡ 0 = ap ones (summary_above s 0 w (λ v l g. highest_none s e v l)) ∙ ones-ones 0 in
    omega (arith, reads_marked (summary_of s) s None (by_summary_lem s ∙ e), from_zero (summary_of s))

-- ---- the words that are read
read_suffice_lem : (b : ℕ) (s t : List ℕ) → SameIn (is_read b s) s t → (highest_marked b t ≡ highest_marked b s) × (marked_read b t ≡ marked_read b s)
read_suffice_lem b s t h = let e = go (highest_marked b s) refl in (e, reads_marked b t _ e ∙ sym (reads_marked b s _ refl))
  where
    same : (v : ℕ) → v < 256 → lowest_read (highest_marked b s) ≤ v / 32 → has (in_marked b t) v ≡ has (in_marked b s) v
    same v l g = by (bit_at b (v / 32)) refl
      where
        by : (m : Bool) → bit_at b (v / 32) ≡ m → has (in_marked b t) v ≡ has (in_marked b s) v
        by false p = has_out b t v l p ∙ sym (has_out b s v l p)
        by true p =
            has_in b t v l p ∙ h v l (ap₂ (λ (x y : Bool). x && y) p (le-leb (lowest_read (highest_marked b s)) (v / 32) g)) ∙ sym (has_in b s v l p)

    go : (o : Option ℕ) → highest_marked b s ≡ o → highest_marked b t ≡ o
    go None e =
        let d : lowest_read (highest_marked b s) ≡ 0 = ap lowest_read e in
        highest_no (in_marked b t) (λ w l. same w l (omega arith) ∙ highest_none (in_marked b s) e w l)
    go (Some v) e =
        let d : lowest_read (highest_marked b s) ≡ v / 32 = ap lowest_read e in
        let m = highest_has (in_marked b s) v e in
        highest_is (in_marked b t) v m.1 (same v m.1 (omega arith) ∙ m.0) (λ w l g. same w l (omega arith) ∙ highest_above (in_marked b s) v e w l g)

unmarked_apart_lem : (b : ℕ) (s t : List ℕ) → SameIn (bit_at b) s t → (highest_marked b t ≡ highest_marked b s) × (marked_read b t ≡ marked_read b s)
unmarked_apart_lem b s t h = read_suffice_lem b s t (λ v l r. h v l (both (bit_at b (v / 32)) _ r).0)

-- s with all of word k, or nothing of it
abbrev refilled : Bool → ℕ → List ℕ → List ℕ
refilled x k s = collect (λ w. cond (eqb (w / 32) k) x (has s w))

refilled_same : (x : Bool) (k : ℕ) (s : List ℕ) → SameIn (λ j. not (eqb j k)) s (refilled x k s)
refilled_same x k s v l n = has_collect (λ w. cond (eqb (w / 32) k) x (has s w)) v l ∙ go (eqb (v / 32) k) n
  where
    go : (t : Bool) → not t ≡ true → cond t x (has s v) ≡ has s v
    go false q = refl
    go true q = clash (cc)

refilled_there : (x : Bool) (k : ℕ) (s : List ℕ) (v : ℕ) → v < 256 → v / 32 ≡ k → has (refilled x k s) v ≡ x
refilled_there x k s v l d =
    has_collect (λ w. cond (eqb (w / 32) k) x (has s w)) v l ∙ ap (λ (t : Bool). cond t x (has s v)) (eq-eqb (v / 32) k d)

-- a set that differs in word k alone, with another answer
abbrev Other : ℕ → List ℕ → ℕ → Type 0
Other b s k = (t : List ℕ) × Words t × SameIn (λ j. not (eqb j k)) s t × (highest_marked b t ≡ highest_marked b s → ⊥)

each_read_needed : (b : ℕ) (s : List ℕ) (k : ℕ) → k < 8 → is_read b s k ≡ true → Other b s k
each_read_needed b s k l r = go (highest_marked b s) refl
  where
    m : bit_at b k ≡ true
    m = (both (bit_at b k) _ r).0

    g : lowest_read (highest_marked b s) ≤ k
    g = leb-true _ k (both (bit_at b k) _ r).1

    with_all : ((highest_marked b (refilled true k s) ≡ highest_marked b s) → has (refilled true k s) (32 * k) ≡ false) → Other b s k
    with_all h = (
      refilled true k s,
      collect_words _,
      refilled_same true k s,
      λ q.
          let y = refilled_there true k s (32 * k) (omega arith) (omega arith) in
          let n = h q in
          clash (cc),
    )

    go : (o : Option ℕ) → highest_marked b s ≡ o → Other b s k
    go None e = with_all (λ q. none_in_marked_lem b (refilled true k s) (q ∙ e) (32 * k) (omega arith) (ap (bit_at b) (omega arith) ∙ m))
    go (Some v) e = by (eqb (v / 32) k) refl
      where
        d : lowest_read (highest_marked b s) ≡ v / 32
        d = ap lowest_read e

        by : (t : Bool) → eqb (v / 32) k ≡ t → Other b s k
        by true p = (
          refilled false k s,
          collect_words _,
          refilled_same false k s,
          λ q.
              let h = is_highest_marked b (refilled false k s) v (q ∙ e) in
              let y : has (refilled false k s) v ≡ true = h.2 in
              let n = refilled_there false k s v h.0 (eqb-true (v / 32) k p) in
              clash (cc),
        )
        by false p =
            let u : v / 32 ≡ k → ⊥ = eqb-false (v / 32) k p in
            with_all (λ q. (is_highest_marked b (refilled true k s) v (q ∙ e)).3 (32 * k) (omega arith) (omega (arith, g, d)) (ap (bit_at b) (omega arith) ∙ m))

-- ---- how many they are
none_below : (b m n : ℕ) → n ≤ m → words_with (λ k. bit_at b k && leb m k) n ≡ 0
unfolding words_with
none_below b m zero l = refl
none_below b m (suc n) l =
    let o : one (bit_at b n && leb m n) ≡ 0 = ap (λ (t : Bool). one (bit_at b n && t)) (lt-leb m n l) ∙ ap one (and-false (bit_at b n)) in
    omega (arith, none_below b m n (omega arith))

counted : (b m n : ℕ) → m ≤ n → words_with (λ k. bit_at b k && leb m k) n + marked_from b n ≡ marked_from b m
unfolding words_with
counted b m zero l = let e : m ≡ 0 = omega arith in omega (arith, ap (marked_from b) e)
counted b m (suc n) l = go (leb m n) refl (λ g. counted b m n g)
  where
    go : (t : Bool) → leb m n ≡ t → (m ≤ n → words_with (λ k. bit_at b k && leb m k) n + marked_from b n ≡ marked_from b m)
        → one (bit_at b n && leb m n) + words_with (λ k. bit_at b k && leb m k) n + marked_from b (suc n) ≡ marked_from b m
    go true p ih =
        let o : one (bit_at b n && leb m n) ≡ one (bit_at b n) = ap (λ (t : Bool). one (bit_at b n && t)) p ∙ ap one (and-true (bit_at b n)) in
        omega (arith, ih (leb-true m n p), ones_from b n)
    go false p ih =
        let g : n < m = leb-false m n p in
        let e : m ≡ suc n = omega arith in
        omega (arith, none_below b m (suc n) (omega arith), ap (marked_from b) e)

counts_read_lem : (b : ℕ) (s : List ℕ) → b < 256 → marked_read b s ≡ words_with (is_read b s) 8
counts_read_lem b s l = go (highest_marked b s) refl
  where
    m : ℕ
    m = lowest_read (highest_marked b s)

    above : marked_from b 8 ≡ 0
    above = ap ones (div-eq_of_lt l) ∙ ones-ones 0

    go : (o : Option ℕ) → highest_marked b s ≡ o → marked_read b s ≡ words_with (is_read b s) 8
    go None e =
        let d : m ≡ 0 = ap lowest_read e in
        omega (arith, reads_marked b s None e, from_zero b, ap (marked_from b) d, counted b m 8 (omega arith), above)
    go (Some v) e =
        let d : m ≡ v / 32 = ap lowest_read e in
        let k : v < 256 = (highest_has (in_marked b s) v e).1 in
        omega (arith, reads_marked b s (Some v) e, ap (marked_from b) d, counted b m 8 (omega arith), above)

-- ---- the claims
pub marked_claims : MarkedClaims
marked_claims =
    record {
      isHighestMarked = is_highest_marked;
      none_in_marked = none_in_marked_lem;
      at_most_marked = at_most_marked_lem;
      none_marked = none_marked_lem;
      by_summary = by_summary_lem;
      by_summary_one = by_summary_one_lem;
      by_summary_none = by_summary_none_lem;
      all_marked = all_marked_lem;
      read_suffice = read_suffice_lem;
      unmarked_apart = unmarked_apart_lem;
      eachReadNeeded = each_read_needed;
      counts_read = counts_read_lem;
    }

-- ---- the worked cases, each by the words that are left of the set
case : (b : ℕ) (s t : List ℕ) (o : Option ℕ) (n : ℕ) → in_marked b s ≡ t → highest t ≡ o → marked_down_to b o ≡ n → Gives b s o n
case b s t o n e f g = let h = ap highest e ∙ f in (h, reads_marked b s o h ∙ g)

pub worked_marked : WorkedMarked
unfolding summary_of in_marked collect words bits has highest highest_below ones
worked_marked =
    record {
      empty_none = case 0 no_members no_members None 0 refl refl refl;
      empty_all = case 0xFF no_members no_members None 8 refl refl refl;
      empty_top = case 0x80 no_members no_members None 1 refl refl refl;
      own_summary = refl;
      none_marked = case 0 four_members no_members None 0 refl refl refl;
      summary = case 0x25 four_members four_members (Some 0xAD) 1 refl refl refl;
      all = case 0xFF four_members four_members (Some 0xAD) 3 refl refl refl;
      top_empty = case 0xA5 four_members four_members (Some 0xAD) 2 refl refl refl;
      only_empty = case 0xDA four_members no_members None 5 refl refl refl;
      left_out = case 0x05 four_members (0x8000_0000 ∷ 0 ∷ 0x8000_0002 ∷ 0 ∷ 0 ∷ 0 ∷ 0 ∷ 0 ∷ []) (Some 0x5F) 1 refl refl refl;
      left_out_two = case 0x03 four_members (0x8000_0000 ∷ 0 ∷ 0 ∷ 0 ∷ 0 ∷ 0 ∷ 0 ∷ 0 ∷ []) (Some 31) 2 refl refl refl;
      between = case 0x5C four_members (0 ∷ 0 ∷ 0x8000_0002 ∷ 0 ∷ 0 ∷ 0 ∷ 0 ∷ 0 ∷ []) (Some 0x5F) 4 refl refl refl;
    }
