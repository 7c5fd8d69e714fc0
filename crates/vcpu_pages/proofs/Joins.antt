-- A word of a set with at most one more vector in it, and what is counted of that vector and of further ones. Assumes nothing.
use mathlib.Core.Path.{◌≡◌, refl, sym, ap, ap₂, ◌∙◌}
use mathlib.Core.Bool.{Bool, true, false, cond, not, ◌&&◌, ◌||◌, and-true, and-false, or_assoc, or_comm}
use mathlib.Core.List.{List}
use Prim.Native.Nat.{ℕ, ◌+◌, ◌/◌, ◌%◌, ◌^◌, ◌<◌}
use native.Mathlib.Omega.{arith}
use lib.Bits.{bit_or, or_zero_r}
use lib.Dec.{eqb}
use lib.ListN.{get_or, set}
use lib.Seq.{set-get_or}
use borrow.Author.Tests.{eq-eqb, ne_eqb}
use Rattle.vector_set.specs.Bits.{one}
use Rattle.vector_set.specs.Sets.{has, collect, insert, union, difference, intersection, count}
use Rattle.vector_set.proofs.BitLaws.{clash}
use Rattle.vector_set.proofs.Laws.{Words, has_collect, has_difference, has_intersection, collect_ext, collect_is}
use Rattle.vector_set.proofs.Counts.{count_sum, count_single}
use Rattle.vector_set.proofs.WordLaws.{one_shl, insert_word}
use Rattle.ipi.specs.Posts.{counts_of}
use Rattle.ipi.proofs.Singles.{single_meets, single_adds, none_meets, none_adds}

-- ---- Bool answers: p a further vector, q the one vector, r pending before
new_apart : (p q r : Bool) → (p && q) ≡ false → one ((p || q) && not r) ≡ one (p && not (q || r)) + one (q && not r)
new_apart true true r e = clash (ap one (sym e))
new_apart true false true e = refl
new_apart true false false e = refl
new_apart false true true e = refl
new_apart false true false e = refl
new_apart false false r e = refl

merged_apart : (p q r : Bool) → (p && q) ≡ false → one ((p || q) && r) ≡ one (p && (q || r)) + one (q && r)
merged_apart true true r e = clash (ap one (sym e))
merged_apart true false true e = refl
merged_apart true false false e = refl
merged_apart false true true e = refl
merged_apart false true false e = refl
merged_apart false false r e = refl

-- ---- what a posting of the NMI, if n, and of the machine check, if m, counts of them where they were pending, if b and c
abbrev pub new_marks : Bool → Bool → Bool → Bool → ℕ
new_marks n m b c = one (n && not b) + one (m && not c)

abbrev pub old_marks : Bool → Bool → Bool → Bool → ℕ
old_marks n m b c = one (n && b) + one (m && c)

-- ---- the vector x, if t, added to the set s by its word
module _ (s : List ℕ) (ws : Words s) (x : ℕ) (small : x < 256) where
  abbrev pub wider : Bool → List ℕ
  wider t = set s (x / 32) (bit_or (get_or s (x / 32) 0) (cond t (2 ^ (x % 32)) 0))

  -- g says which vector that is
  pub wider_is : (t : Bool) (g : ℕ → Bool) → ((y : ℕ) → y < 256 → g y ≡ (t && eqb y x)) → wider t ≡ collect (λ y. g y || has s y)
  unfolding insert
  wider_is true g h =
      ap (λ (b : ℕ). set s (x / 32) (bit_or (get_or s (x / 32) 0) b)) (sym (one_shl (x % 32) (omega arith))) ∙ insert_word s x ws small
      ∙ collect_ext (λ y. eqb y x || has s y) (λ y. g y || has s y) (λ y l. ap (λ (b : Bool). b || has s y) (sym (h y l)))
  wider_is false g h =
      ap (set s (x / 32)) (or_zero_r (get_or s (x / 32) 0)) ∙ set-get_or s (x / 32) 0
      ∙ collect_is (λ y. g y || has s y) s ws (λ y l. sym (ap (λ (b : Bool). b || has s y) (h y l)))

  -- what a posting of it and of these counts
  pub counts_are : (t n m b c : Bool)
      → counts_of (record { nmi = n; machine_check = m; word = x / 32; bits = cond t (2 ^ (x % 32)) 0 }) (get_or s (x / 32) 0) b c
      ≡ record { new = new_marks n m b c + one (t && not (has s x)); merged = old_marks n m b c + one (t && has s x) }
  unfolding counts_of has
  counts_are true n m b c =
      ap₂ (λ (p q : Bool). record { new = new_marks n m b c + one p; merged = old_marks n m b c + one q })
      (single_adds (x % 32) (get_or s (x / 32) 0) (omega arith) (ws.small (x / 32) (omega arith))) (single_meets (x % 32) (get_or s (x / 32) 0))
  counts_are false n m b c =
      ap₂ (λ (p q : Bool). record { new = new_marks n m b c + one p; merged = old_marks n m b c + one q })
      (none_adds (get_or s (x / 32) 0)) (none_meets (get_or s (x / 32) 0))

  module _ (t : Bool) (g : ℕ → Bool) (h : (y : ℕ) → y < 256 → g y ≡ (t && eqb y x)) where
    -- it is counted where f holds of whether it was pending
    pub counted : (f : Bool → Bool) → count (collect (λ y. g y && f (has s y))) ≡ one (t && f (has s x))
    counted f =
        count_single (collect (λ y. g y && f (has s y))) x small
        (λ y l n. has_collect (λ y. g y && f (has s y)) y l
        ∙ ap (λ (b : Bool). b && f (has s y)) (h y l ∙ ap (λ (b : Bool). t && b) (ne_eqb y x n) ∙ and-false t))
        ∙ ap one (has_collect (λ y. g y && f (has s y)) x small
        ∙ ap (λ (b : Bool). b && f (has s x)) (h x small ∙ ap (λ (b : Bool). t && b) (eq-eqb x x refl) ∙ and-true t))

    has_wider : (y : ℕ) → y < 256 → has (wider t) y ≡ (g y || has s y)
    has_wider y l = ap (λ (z : List ℕ). has z y) (wider_is t g h) ∙ has_collect (λ y. g y || has s y) y l

    -- ---- with the vectors of e, of which it is none
    module _ (e : List ℕ) (apart : (y : ℕ) → y < 256 → (has e y && g y) ≡ false) where
      pub union_is : union (wider t) e ≡ collect (λ y. has e y || g y || has s y)
      unfolding union
      union_is =
          collect_ext (λ y. has (wider t) y || has e y) (λ y. has e y || g y || has s y)
          (λ y l. ap (λ (b : Bool). b || has e y) (has_wider y l) ∙ or_comm (g y || has s y) (has e y) ∙ sym (or_assoc (has e y) (g y) (has s y)))

      pub more_new : one (t && not (has s x)) + count (difference e (wider t)) ≡ count (collect (λ y. (has e y || g y) && not (has s y)))
      more_new =
          let c = counted not in
          let d = count_sum (difference e (wider t)) (collect (λ y. g y && not (has s y))) (collect (λ y. (has e y || g y) && not (has s y)))
          (λ y l. ap one (has_collect (λ y. (has e y || g y) && not (has s y)) y l) ∙ new_apart (has e y) (g y) (has s y) (apart y l)
          ∙ ap₂ (λ (a b : Bool). one a + one b)
          (sym (has_difference e (wider t) y l ∙ ap (λ (b : Bool). has e y && not b) (has_wider y l)))
          (sym (has_collect (λ y. g y && not (has s y)) y l))) in
          omega arith

      pub more_merged : one (t && has s x) + count (intersection e (wider t)) ≡ count (collect (λ y. (has e y || g y) && has s y))
      more_merged =
          let c = counted (λ b. b) in
          let d = count_sum (intersection e (wider t)) (collect (λ y. g y && has s y)) (collect (λ y. (has e y || g y) && has s y))
          (λ y l. ap one (has_collect (λ y. (has e y || g y) && has s y) y l) ∙ merged_apart (has e y) (g y) (has s y) (apart y l)
          ∙ ap₂ (λ (a b : Bool). one a + one b)
          (sym (has_intersection e (wider t) y l ∙ ap (λ (b : Bool). has e y && b) (has_wider y l)))
          (sym (has_collect (λ y. g y && has s y) y l))) in
          omega arith
