-- How many members sets have together.
-- Assumes nothing.
use mathlib.Core.Path.{◌≡◌, refl, sym, ap, ◌∙◌}
use mathlib.Core.Bool.{Bool, true, false, not, ◌&&◌, ◌||◌, or-false}
use mathlib.Core.List.{List}
use Prim.Native.Nat.{ℕ, zero, suc, ◌+◌, ◌<◌}
use native.Mathlib.Nat.{not-suc-le-zero}
use native.Mathlib.Omega.{arith}
use lib.Dec.{eqb}
use borrow.Author.Tests.{eqb-true, eqb-false, eq-eqb, ne_eqb}
use Rattle.vector_set.specs.Bits.{one}
use Rattle.vector_set.specs.Sets.{has, collect, count_below, count}
use Rattle.vector_set.proofs.Laws.{has_collect}

-- two sets with no member in common
below_sum : (s t u : List ℕ) (n : ℕ) → ((v : ℕ) → v < n → one (has u v) ≡ one (has s v) + one (has t v)) → count_below u n ≡ count_below s n + count_below t n
unfolding count_below
below_sum s t u zero h = omega arith
below_sum s t u (suc n) h =
    let a = h n (omega arith) in
    let b = below_sum s t u n (λ v l. h v (omega arith)) in
    omega arith

pub count_sum : (s t u : List ℕ) → ((v : ℕ) → v < 256 → one (has u v) ≡ one (has s v) + one (has t v)) → count u ≡ count s + count t
unfolding count
count_sum s t u h = below_sum s t u 256 h

-- no member, and at most the one member x
below_zero : (s : List ℕ) (n : ℕ) → ((v : ℕ) → v < n → has s v ≡ false) → count_below s n ≡ 0
unfolding count_below
below_zero s zero h = refl
below_zero s (suc n) h =
    let a : one (has s n) ≡ 0 = ap one (h n (omega arith)) in
    let b = below_zero s n (λ v l. h v (omega arith)) in
    omega arith

pub count_zero : (s : List ℕ) → ((v : ℕ) → v < 256 → has s v ≡ false) → count s ≡ 0
unfolding count
count_zero s h = below_zero s 256 h

below_single : (s : List ℕ) (x n : ℕ) → x < n → ((v : ℕ) → v < n → (v ≡ x → ⊥) → has s v ≡ false) → count_below s n ≡ one (has s x)
unfolding count_below
below_single s x zero l h = absurd (not-suc-le-zero l)
below_single s x (suc n) l h = go (eqb x n) refl (λ m. below_single s x n m (λ v k g. h v (omega arith) g))
  where
    go : (b : Bool) → eqb x n ≡ b → (x < n → count_below s n ≡ one (has s x)) → one (has s n) + count_below s n ≡ one (has s x)
    go true e ih =
        let d : x ≡ n = eqb-true x n e in
        let z = below_zero s n (λ v k. h v (omega arith) (λ (q : v ≡ x). omega arith)) in
        rw (d, z) (omega arith)
    go false e ih =
        let d : x ≡ n → ⊥ = eqb-false x n e in
        let a : one (has s n) ≡ 0 = ap one (h n (omega arith) (λ (q : n ≡ x). d (sym q))) in
        let b = ih (omega arith) in
        omega arith

pub count_single : (s : List ℕ) (x : ℕ) → x < 256 → ((v : ℕ) → v < 256 → (v ≡ x → ⊥) → has s v ≡ false) → count s ≡ one (has s x)
unfolding count
count_single s x l h = below_single s x 256 l h

-- the members with g and those without
pub count_split : (f g : ℕ → Bool) → count (collect f) ≡ count (collect (λ v. f v && g v)) + count (collect (λ v. f v && not (g v)))
count_split f g =
    count_sum (collect (λ v. f v && g v)) (collect (λ v. f v && not (g v))) (collect f)
    (λ v l. rw (has_collect (λ v. f v && g v) v l, has_collect (λ v. f v && not (g v)) v l, has_collect f v l) (pick (f v) (g v)))
  where
    pick : (a b : Bool) → one a ≡ one (a && b) + one (a && not b)
    pick true true = refl
    pick true false = refl
    pick false b = refl

-- with a member more
pub count_with : (f : ℕ → Bool) (x : ℕ) → x < 256 → f x ≡ false → count (collect (λ v. f v || eqb v x)) ≡ count (collect f) + 1
count_with f x h e =
    count_sum (collect f) (collect (λ v. eqb v x)) (collect (λ v. f v || eqb v x))
    (λ v l. rw (has_collect f v l, has_collect (λ v. eqb v x) v l, has_collect (λ v. f v || eqb v x) v l) (pick v (eqb v x) refl))
    ∙ ap (λ (n : ℕ). count (collect f) + n) alone
  where
    pick : (v : ℕ) (b : Bool) → eqb v x ≡ b → one (f v || b) ≡ one (f v) + one b
    pick v true q = rw (ap f (eqb-true v x q) ∙ e)
    pick v false q = rw (or-false (f v)) (omega arith)

    alone : count (collect (λ v. eqb v x)) ≡ 1
    alone =
        count_single (collect (λ v. eqb v x)) x h (λ v l n. has_collect (λ v. eqb v x) v l ∙ ne_eqb v x n)
        ∙ ap one (has_collect (λ v. eqb v x) x h ∙ eq-eqb x x refl)
