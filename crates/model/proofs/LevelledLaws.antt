-- A set of vectors 31 to 255 and its level-sensitive part, after each change of them.
-- Assumes nothing.
use mathlib.Core.Path.{◌≡◌, refl, sym, ◌∙◌}
use mathlib.Core.Bool.{Bool, true, false, not, ◌&&◌, ◌||◌, and-false, or-true}
use mathlib.Core.List.{List}
use Prim.Native.Nat.{ℕ, ◌<◌, ◌≤◌}
use native.Mathlib.Omega.{arith}
use lib.Dec.{eqb, leb}
use borrow.Author.Tests.{leb-true, leb-false}
use Rattle.model.specs.Events.{gains}
use Rattle.model.specs.Reached.{Levelled}
use Rattle.vector_set.specs.Sets.{has, collect, empty, insert, remove}
use Rattle.vector_set.proofs.Laws.{clash, has_collect, collect_words}
use Rattle.model.proofs.Tests.{eqb_below}

-- ---- sets by their members
pub levelled : (f g : ℕ → Bool) → ((x : ℕ) → x < 31 → f x ≡ false) → ((x : ℕ) → x < 256 → g x ≡ true → f x ≡ true) → Levelled (collect f) (collect g)
levelled f g low sub =
    record {
      words = collect_words f;
      level_words = collect_words g;
      vectors = λ x h. has_collect f x (omega arith) ∙ low x h;
      within = λ x h e. has_collect f x h ∙ sub x h (sym (has_collect g x h) ∙ e);
    }

pub levelled_empty : Levelled empty empty
unfolding empty
levelled_empty = levelled (λ x. false) (λ x. false) (λ x h. refl) (λ x h e. e)

-- it has no vector below 31
pub levelled_low : (s t : List ℕ) → Levelled s t → (x : ℕ) → has s x ≡ true → 31 ≤ x
levelled_low s t l x m = pick (leb 31 x) refl
  where
    pick : (b : Bool) → leb 31 x ≡ b → 31 ≤ x
    pick true p = leb-true 31 x p
    pick false p = let n = l.vectors x (leb-false 31 x p) in clash (cc)

pub levelled_remove : (x : ℕ) (s t : List ℕ) → Levelled s t → Levelled (remove x s) (remove x t)
unfolding remove
levelled_remove x s t l =
    levelled (λ v. not (eqb v x) && has s v) (λ v. not (eqb v x) && has t v)
    (λ v h. rw (l.vectors v h) (and-false (not (eqb v x))))
    (λ v h. sub (not (eqb v x)) (l.within v h))
  where
    sub : (b : Bool) {c d : Bool} → (d ≡ true → c ≡ true) → (b && d) ≡ true → (b && c) ≡ true
    sub true h e = h e
    sub false h e = e

pub levelled_insert : (x : ℕ) (s t : List ℕ) → 31 ≤ x → Levelled s t → Levelled (insert x s) t
unfolding insert
levelled_insert x s t g l =
    record {
      words = collect_words (λ v. eqb v x || has s v);
      level_words = l.level_words;
      vectors = λ v h. has_collect (λ v. eqb v x || has s v) v (omega arith) ∙ rw (eqb_below v x (omega arith)) (l.vectors v h);
      within = λ v h e. has_collect (λ v. eqb v x || has s v) v h ∙ rw (l.within v h e) (or-true (eqb v x));
    }

-- x joins s, and its level-sensitive part if u has it
pub levelled_gains : (x : ℕ) (u s t : List ℕ) → 31 ≤ x → Levelled s t → Levelled (insert x s) (gains x u t)
unfolding insert
levelled_gains x u s t g l =
    levelled (λ v. eqb v x || has s v) (λ v. has t v || (eqb v x && has u x))
    (λ v h. rw (eqb_below v x (omega arith)) (l.vectors v h))
    (λ v h. sub (has t v) (eqb v x) (has u x) (l.within v h))
  where
    sub : (d b e : Bool) {c : Bool} → (d ≡ true → c ≡ true) → (d || (b && e)) ≡ true → (b || c) ≡ true
    sub d true e h p = refl
    sub true false e h p = h refl
    sub false false e h p = clash (cc)
