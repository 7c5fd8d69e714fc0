-- The laws of sets: `has_collect` (the members of what was collected) and `set_ext` (two sets with the same members are the same words) serve all others.
-- Assumes nothing.
use mathlib.Core.Path.{◌≡◌, refl, sym, ap, ◌∙◌, subst}
use mathlib.Core.Bool.{Bool, true, false, cond, not, ◌&&◌, ◌||◌}
use mathlib.Core.List.{List}
use Rattle.std.specs.Prelude.{Option, None, Some, is_none}
use Prim.Native.Nat.{ℕ, zero, suc, ◌+◌, ◌*◌, ◌/◌, ◌%◌, ◌<◌, ◌≤◌}
use native.Mathlib.Omega.{arith}
use native.Mathlib.Nat.{not-suc-le-zero, le_of_suc-le-suc}
use lib.Dec.{eqb, leb}
use lib.ListN.{length, get_or}
use lib.Seq.{ext_get_or}
use borrow.Author.Tests.{eqb-true, eqb-false}
use Rattle.vector_set.specs.Bits.{bit_at, bits}
pub use Rattle.vector_set.specs.Sets.{Words}
pub use Rattle.vector_set.proofs.BitLaws.{clash, one_eqb, one_le, bits_at, bits_bit, bits_lt, bits_ext, number_ext, bits_unique}
use Rattle.vector_set.specs.Sets.{has, words, collect, empty, full, insert, remove, difference, intersection, from, highest_below}
use Rattle.vector_set.specs.Sets.{highest, count_below, count, is_empty, word_of}

pub words_at : (f : ℕ → Bool) (k n i : ℕ) → i < n → get_or (words f k n) i 0 ≡ bits f (32 * (k + i)) 32
unfolding words
words_at f k zero i h = absurd (not-suc-le-zero h)
words_at f k (suc n) zero h = let e : k + 0 ≡ k = omega arith in rw e
words_at f k (suc n) (suc i) h =
    let e : k + suc i ≡ suc k + i = omega arith in rw e (words_at f (suc k) n i (le_of_suc-le-suc h))

-- ---- a set by its members
pub has_collect : (f : ℕ → Bool) (v : ℕ) → v < 256 → has (collect f) v ≡ f v
unfolding has collect
has_collect f v h =
    let i : v / 32 < 8 = omega arith in
    let b : v % 32 < 32 = omega arith in
    let e : 32 * (0 + v / 32) + v % 32 ≡ v = omega arith in
    rw (words_at f 0 8 (v / 32) i, bits_at f (32 * (0 + v / 32)) 32 (v % 32) b, e) (one_eqb (f v))

-- ---- two sets are equal by their members
words_ext : (f g : ℕ → Bool) (k n : ℕ) → ((v : ℕ) → v < 32 * (k + n) → f v ≡ g v) → words f k n ≡ words g k n
unfolding words
words_ext f g k zero h = refl
words_ext f g k (suc n) h =
    let w = bits_ext f g (32 * k) 32 (λ b l. h (32 * k + b) (omega arith)) in
    let t = words_ext f g (suc k) n (λ v l. h v (omega arith)) in
    rw (w, t)

pub collect_ext : (f g : ℕ → Bool) → ((v : ℕ) → v < 256 → f v ≡ g v) → collect f ≡ collect g
unfolding collect
collect_ext f g h = words_ext f g 0 8 h

-- bit b of word k is the member 32 k + b
pub has_word : (s : List ℕ) (k b : ℕ) → b < 32 → has s (32 * k + b) ≡ bit_at (get_or s k 0) b
unfolding has
has_word s k b l =
    let d : (32 * k + b) / 32 ≡ k = omega arith in
    let m : (32 * k + b) % 32 ≡ b = omega arith in
    rw (d, m)

-- the word of a set is the word that is stored
pub word_of_word : (s : List ℕ) → Words s → (k : ℕ) → k < 8 → word_of s k ≡ get_or s k 0
unfolding word_of
word_of_word s w k l =
    sym (bits_unique (λ v. has s v) (32 * k) 32 (get_or s k 0) (w.small k l) (λ b r. sym (has_word s k b r)))

pub set_ext : (s t : List ℕ) → Words s → Words t → ((v : ℕ) → v < 256 → has s v ≡ has t v) → s ≡ t
set_ext s t ws wt h =
    ext_get_or 0 s t (ws.eight ∙ sym wt.eight)
    (λ i l. word i (omega arith))
  where
    word : (i : ℕ) → i < 8 → get_or s i 0 ≡ get_or t i 0
    word i l =
        number_ext 32 (get_or s i 0) (get_or t i 0) (ws.small i l) (wt.small i l)
        (λ b r. sym (has_word s i b r) ∙ h (32 * i + b) (omega arith) ∙ has_word t i b r)

words_words : (f : ℕ → Bool) (k n : ℕ) → length (words f k n) ≡ n
unfolding words
words_words f k zero = refl
words_words f k (suc n) = ap suc (words_words f (suc k) n)

pub collect_words : (f : ℕ → Bool) → Words (collect f)
unfolding collect
collect_words f = record { eight = words_words f 0 8; small = λ i l. rw (words_at f 0 8 i l) (bits_lt f (32 * (0 + i)) 32) }

-- ---- the members of each set
pub has_empty : (v : ℕ) → v < 256 → has empty v ≡ false
unfolding empty
has_empty v h = has_collect (λ v. false) v h

pub has_full : (v : ℕ) → v < 256 → has full v ≡ true
unfolding full
has_full v h = has_collect (λ v. true) v h

pub has_insert : (x : ℕ) (s : List ℕ) (v : ℕ) → v < 256 → has (insert x s) v ≡ (eqb v x || has s v)
unfolding insert
has_insert x s v h = has_collect (λ v. eqb v x || has s v) v h

pub has_remove : (x : ℕ) (s : List ℕ) (v : ℕ) → v < 256 → has (remove x s) v ≡ (not (eqb v x) && has s v)
unfolding remove
has_remove x s v h = has_collect (λ v. not (eqb v x) && has s v) v h

pub has_difference : (s t : List ℕ) (v : ℕ) → v < 256 → has (difference s t) v ≡ (has s v && not (has t v))
unfolding difference
has_difference s t v h = has_collect (λ v. has s v && not (has t v)) v h

pub has_intersection : (s t : List ℕ) (v : ℕ) → v < 256 → has (intersection s t) v ≡ (has s v && has t v)
unfolding intersection
has_intersection s t v h = has_collect (λ v. has s v && has t v) v h

pub has_from : (x : ℕ) (s : List ℕ) (v : ℕ) → v < 256 → has (from x s) v ≡ (leb x v && has s v)
unfolding from
has_from x s v h = has_collect (λ v. leb x v && has s v) v h

-- ---- each set is eight words
pub words_empty : Words empty
unfolding empty
words_empty = collect_words (λ v. false)

pub words_insert : (x : ℕ) (s : List ℕ) → Words (insert x s)
unfolding insert
words_insert x s = collect_words (λ v. eqb v x || has s v)

pub words_remove : (x : ℕ) (s : List ℕ) → Words (remove x s)
unfolding remove
words_remove x s = collect_words (λ v. not (eqb v x) && has s v)

-- ---- a set that is said by its members
pub collect_is : (f : ℕ → Bool) (s : List ℕ) → Words s → ((v : ℕ) → v < 256 → has s v ≡ f v) → s ≡ collect f
collect_is f s w h = set_ext s (collect f) w (collect_words f) (λ v l. h v l ∙ sym (has_collect f v l))

-- ---- the highest member
-- what holds below n, and at n, holds below n + 1
step : (P : ℕ → Type 0) (n : ℕ) → P n → ((v : ℕ) → v < n → P v) → (v : ℕ) → v < suc n → P v
step P n p h v l = go (eqb v n) refl
  where
    go : (b : Bool) → eqb v n ≡ b → P v
    go true e = subst P (sym (eqb-true v n e)) p
    go false e = let d : v ≡ n → ⊥ = eqb-false v n e in h v (omega arith)

below_none : (s : List ℕ) (n : ℕ) → highest_below s n ≡ None → (v : ℕ) → v < n → has s v ≡ false
unfolding highest_below
below_none s zero e = λ v l. absurd (not-suc-le-zero l)
below_none s (suc n) e = go (has s n) refl e (λ q. below_none s n q)
  where
    go : (b : Bool) → has s n ≡ b → cond b (Some n) (highest_below s n) ≡ None → (highest_below s n ≡ None → (v : ℕ) → v < n → has s v ≡ false)
        → (v : ℕ) → v < suc n → has s v ≡ false
    go true p q ih = clash (cc)
    go false p q ih = step (λ (v : ℕ). has s v ≡ false) n p (ih q)

-- what is found is a member below n, and none between is
below_found : (s : List ℕ) (n v : ℕ) → highest_below s n ≡ Some v → (has s v ≡ true) × (v < n) × ((w : ℕ) → w < n → v < w → has s w ≡ false)
unfolding highest_below
below_found s zero v e = clash (cc)
below_found s (suc n) v e = go (has s n) refl e (λ q. below_found s n v q)
  where
    go : (b : Bool) → has s n ≡ b → cond b (Some n) (highest_below s n) ≡ Some v
        → (highest_below s n ≡ Some v → (has s v ≡ true) × (v < n) × ((w : ℕ) → w < n → v < w → has s w ≡ false))
        → (has s v ≡ true) × (v < suc n) × ((w : ℕ) → w < suc n → v < w → has s w ≡ false)
    go true p q ih = let d : n ≡ v = cc in (rw (← d) p, omega arith, λ w l g. let z : ⊥ = omega arith in absurd z)
    go false p q ih = let r = ih q in (r.0, omega arith, step (λ (w : ℕ). v < w → has s w ≡ false) n (λ g. p) r.2)

below_is : (s : List ℕ) (n v : ℕ) → v < n → has s v ≡ true → ((w : ℕ) → w < n → v < w → has s w ≡ false) → highest_below s n ≡ Some v
unfolding highest_below
below_is s zero v l p h = absurd (not-suc-le-zero l)
below_is s (suc n) v l p h = go (eqb v n) refl (λ m. below_is s n v m p (λ w k g. h w (omega arith) g))
  where
    go : (b : Bool) → eqb v n ≡ b → (v < n → highest_below s n ≡ Some v) → cond (has s n) (Some n) (highest_below s n) ≡ Some v
    go true e ih = let d : v ≡ n = eqb-true v n e in let t : has s n ≡ true = rw (← d) p in rw (t, d)
    go false e ih =
        let d : v ≡ n → ⊥ = eqb-false v n e in
        let t : has s n ≡ false = h n (omega arith) (omega arith) in
        rw t (ih (omega arith))

below_no : (s : List ℕ) (n : ℕ) → ((v : ℕ) → v < n → has s v ≡ false) → highest_below s n ≡ None
unfolding highest_below
below_no s zero h = refl
below_no s (suc n) h = let t : has s n ≡ false = h n (omega arith) in rw t (below_no s n (λ v l. h v (omega arith)))

-- the highest is a member
pub highest_has : (s : List ℕ) (v : ℕ) → highest s ≡ Some v → (has s v ≡ true) × (v < 256)
unfolding highest
highest_has s v e = let r = below_found s _ v e in let l : v < 256 = omega arith in (r.0, l)

-- no member is above the highest
pub highest_above : (s : List ℕ) (v : ℕ) → highest s ≡ Some v → (w : ℕ) → w < 256 → v < w → has s w ≡ false
unfolding highest
highest_above s v e w l g = (below_found s _ v e).2 w (omega arith) g

pub highest_none : (s : List ℕ) → highest s ≡ None → (v : ℕ) → v < 256 → has s v ≡ false
unfolding highest
highest_none s e v l = below_none s _ e v (omega arith)

-- a member with none above it is the highest
pub highest_is : (s : List ℕ) (v : ℕ) → v < 256 → has s v ≡ true → ((w : ℕ) → w < 256 → v < w → has s w ≡ false) → highest s ≡ Some v
unfolding highest
highest_is s v l p h = below_is s 256 v l p h

pub highest_no : (s : List ℕ) → ((v : ℕ) → v < 256 → has s v ≡ false) → highest s ≡ None
unfolding highest
highest_no s h = below_no s 256 h

-- ---- no member
pub is_empty_has : (s : List ℕ) → is_empty s ≡ true → (v : ℕ) → v < 256 → has s v ≡ false
unfolding is_empty
is_empty_has s e = go (highest s) refl e
  where
    go : (o : Option ℕ) → highest s ≡ o → is_none o ≡ true → (v : ℕ) → v < 256 → has s v ≡ false
    go None p q = highest_none s p
    go (Some w) p q = clash (cc)

-- ---- the number of members
pub below_le : (s : List ℕ) (n : ℕ) → count_below s n ≤ n
unfolding count_below
below_le s zero = omega arith
below_le s (suc n) = let a = below_le s n in let b = one_le (has s n) in omega arith

pub count_le : (s : List ℕ) → count s ≤ 256
unfolding count
count_le s = below_le s 256
