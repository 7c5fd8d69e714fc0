-- The admitted part of a descriptor by the answers to the tests that the reader makes. Assumes nothing.
use mathlib.Core.Path.{◌≡◌, refl, sym, ap, ap₂, ◌∙◌}
use mathlib.Core.Bool.{Bool, true, false, cond, not, ◌&&◌, and-false, and_assoc}
use mathlib.Core.List.{List}
use Rattle.std.specs.Prelude.{Option, None, Some}
use Prim.Native.Nat.{ℕ, ◌-◌, ◌/◌, ◌%◌, ◌^◌, ◌<◌}
use native.Mathlib.Omega.{arith}
use native.Mathlib.Nat.{mod-eq_of_lt}
use lib.Dec.{leb, eqb}
use lib.Bits.{bit_and, and_mask}
use lib.ListN.{get_or, set}
use lib.Seq.{set-get_or}
use borrow.Author.Tests.{le-leb, eqb-true}
use Rattle.vector_set.specs.Sets.{has, collect, remove, intersection, from}
use Rattle.vector_set.proofs.Laws.{Words, has_collect, has_from, has_intersection, collect_ext, collect_words}
use Rattle.vector_set.proofs.WordLaws.{one_shl, remove_word}
use Rattle.model.specs.Doorbell.{bit_of, level_bit, many_bit, is_vector, is_level, admits_level, admits_edge}
use Rattle.descriptor.specs.Requests.{Asked, single_bit, level_of, requested_in}

module _ (a d : List ℕ) where
  -- whether the vector of bits 7:0 may be named
  abbrev named : Bool
  named = is_vector (get_or d 0 0) && has a (get_or d 0 0)

  pub level_is : {x y : Bool} → bit_of d level_bit ≡ x → named ≡ y → admits_level a d ≡ cond (x && y) (Some (get_or d 0 0)) None
  unfolding admits_level
  level_is p q =
      ap (λ (t : Bool). cond t (Some (get_or d 0 0)) None)
      (and_assoc (bit_of d level_bit) (is_vector (get_or d 0 0)) (has a (get_or d 0 0)) ∙ ap₂ ◌&&◌ p q)

  -- ---- bit 14 clear: at most the one vector
  pub one_at : (x y : Bool) → bit_of d many_bit ≡ false → bit_of d level_bit ≡ x → named ≡ y → (v : ℕ) → admits_edge a d v ≡ (not x && y && eqb v (get_or d 0 0))
  unfolding admits_edge
  one_at x y m p q v = rw (m, p) (go (eqb v (get_or d 0 0)) refl)
    where
      drop : (s t w : Bool) → (s && (t && false)) ≡ (w && false)
      drop s t w = ap (λ (u : Bool). s && u) (and-false t) ∙ and-false s ∙ sym (and-false w)

      swap : (s t : Bool) → (s && (t && true)) ≡ (t && s && true)
      swap true true = refl
      swap true false = refl
      swap false true = refl
      swap false false = refl

      go : (b : Bool) → eqb v (get_or d 0 0) ≡ b → (is_vector v && has a v && (not x && b)) ≡ (not x && y && b)
      go true e =
          let f : v ≡ get_or d 0 0 = eqb-true v (get_or d 0 0) e in
          ap (λ (k : ℕ). is_vector k && has a k && (not x && true)) f ∙ ap (λ (t : Bool). t && (not x && true)) q ∙ swap y (not x)
      go false e = drop (is_vector v && has a v) (not x) (not x && y)

  -- ---- bit 14 set: the marked ones
  many_at : (l : Option ℕ) → l ≡ admits_level a d → bit_of d many_bit ≡ true → (v : ℕ) → v < 256
      → admits_edge a d v ≡ (not (is_level l v) && has (from 31 (intersection (collect (bit_of d)) a)) v)
  unfolding admits_edge
  many_at l e m v h =
      rw (
        m,
        ← e,
        le-leb v 255 (omega arith),
        has_from 31 (intersection (collect (bit_of d)) a) v h,
        has_intersection (collect (bit_of d)) a v h,
        has_collect (bit_of d) v h,
      )
      (swap (leb 31 v) (has a v) (bit_of d v) (is_level l v))
    where
      swap : (p q r s : Bool) → (p && true && q && (r && not s)) ≡ (not s && (p && (r && q)))
      swap true true true true = refl
      swap true true true false = refl
      swap true true false true = refl
      swap true true false false = refl
      swap true false true true = refl
      swap true false true false = refl
      swap true false false true = refl
      swap true false false false = refl
      swap false q r true = refl
      swap false q r false = refl

  pub many_is : (l : Option ℕ) → l ≡ admits_level a d → bit_of d many_bit ≡ true
      → collect (admits_edge a d) ≡ collect (λ v. not (is_level l v) && has (from 31 (intersection (collect (bit_of d)) a)) v)
  many_is l e m =
      collect_ext (admits_edge a d) (λ v. not (is_level l v) && has (from 31 (intersection (collect (bit_of d)) a)) v)
      (λ v h. many_at l e m v h)

  -- the members of a set from 31 on are those of that set
  many_none : None ≡ admits_level a d → bit_of d many_bit ≡ true → collect (admits_edge a d) ≡ from 31 (intersection (collect (bit_of d)) a)
  unfolding from
  many_none e m =
      many_is None e m
      ∙ collect_ext (λ v. has (from 31 (intersection (collect (bit_of d)) a)) v) (λ v. leb 31 v && has (intersection (collect (bit_of d)) a) v)
      (λ v h. has_from 31 (intersection (collect (bit_of d)) a) v h)

  many_some : (x : ℕ) → Some x ≡ admits_level a d → bit_of d many_bit ≡ true
      → collect (admits_edge a d) ≡ remove x (from 31 (intersection (collect (bit_of d)) a))
  unfolding remove
  many_some x e m = many_is (Some x) e m

  -- ---- the word of the single vector with the level-sensitive one cleared
  abbrev pub marked : List ℕ
  marked = from 31 (intersection (collect (bit_of d)) a)

  abbrev pub cleared : ℕ → List ℕ
  cleared l = set marked (get_or d 0 0 / 32) (bit_and (get_or marked (get_or d 0 0 / 32) 0) (2 ^ 32 - 1 - l))

  words_marked : Words marked
  unfolding from
  words_marked = collect_words _

  module _ (small : get_or d 0 0 < 256) (m : bit_of d many_bit ≡ true) where
    keeps : cleared 0 ≡ marked
    keeps =
        let k = get_or d 0 0 / 32 in
        ap (set marked k) (and_mask (get_or marked k 0) 32 ∙ mod-eq_of_lt (words_marked.small k (omega arith))) ∙ set-get_or marked k 0

    removes : cleared (2 ^ (get_or d 0 0 % 32)) ≡ remove (get_or d 0 0) marked
    removes = rw (one_shl (get_or d 0 0 % 32) (omega arith)) at (remove_word marked (get_or d 0 0) words_marked small)

    marks_left : cleared (level_of a d) ≡ collect (admits_edge a d)
    unfolding level_of single_bit
    marks_left = go (bit_of d level_bit) named refl refl
      where
        go : (x y : Bool) → bit_of d level_bit ≡ x → named ≡ y → cleared (cond x (cond y (2 ^ (get_or d 0 0 % 32)) 0) 0) ≡ collect (admits_edge a d)
        go true true p q = removes ∙ sym (many_some (get_or d 0 0) (sym (level_is p q)) m)
        go true false p q = keeps ∙ sym (many_none (sym (level_is p q)) m)
        go false y p q = keeps ∙ sym (many_none (sym (level_is p q)) m)

  -- the same in terms of what the request was
  module _ (r : Asked) (e : r ≡ requested_in a d) (small : get_or d 0 0 < 256) where
    pub marks_are : (s : List ℕ) → s ≡ marked → bit_of d many_bit ≡ true
        → set s r.posting.word (bit_and (get_or s r.posting.word 0) (2 ^ 32 - 1 - r.level)) ≡ collect (admits_edge a d)
    unfolding requested_in
    marks_are s f m = rw (e, f) (marks_left small m)
