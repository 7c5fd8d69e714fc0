-- The laws of a set's summary (2.19 to 2.21): what a byte that is true leaves to see, and how it is kept where vectors come and go.
-- Assumes nothing.
use mathlib.Core.Path.{◌≡◌, refl, sym, ap, ◌∙◌}
use mathlib.Core.Bool.{Bool, true, false, cond, not, ◌&&◌, ◌||◌}
use mathlib.Core.List.{List}
use Rattle.std.specs.Prelude.{Some}
use Prim.Native.Nat.{ℕ, ◌+◌, ◌*◌, ◌/◌, ◌%◌, ◌^◌, ◌<◌}
use native.Mathlib.Omega.{arith}
use lib.Bits.{bit_or, or_lt}
use lib.Dec.{eqb}
use lib.ListN.{get_or}
use lib.Pow.{pow-lt}
use borrow.Author.Tests.{eq-eqb, eqb-true, ne_eqb}
use Rattle.vector_set.specs.Bits.{bit_at, bits}
use Rattle.vector_set.specs.Sets.{has, collect, empty, highest, Words}
use Rattle.vector_set.specs.Summaries.{holds, summary_of, in_marked, remade}
use Rattle.vector_set.proofs.BitLaws.{clash, bit_zero, bit_or_lem, bit_pow, bits_bit, bits_lt, bits_ext, bits_unique, number_ext}
use Rattle.vector_set.proofs.Laws.{has_collect, has_word, collect_words, collect_is, highest_has}

-- ---- words and members
-- a word without members is 0
no_word : (s : List ℕ) (k : ℕ) → Words s → k < 8 → ((v : ℕ) → v < 256 → v / 32 ≡ k → has s v ≡ false) → get_or s k 0 ≡ 0
no_word s k w l h =
    number_ext 32 (get_or s k 0) 0 (w.small k l) (omega arith)
    (λ b r. sym (has_word s k b r) ∙ h (32 * k + b) (omega arith) (omega arith) ∙ sym (bit_zero b))

pub none_held : (s : List ℕ) (k : ℕ) → Words s → k < 8 → ((v : ℕ) → v < 256 → v / 32 ≡ k → has s v ≡ false) → holds s k ≡ false
none_held s k w l h = ap (λ (x : ℕ). not (eqb x 0)) (no_word s k w l h)

-- a vector of a word that holds nothing is no member
pub not_held : (s : List ℕ) (v : ℕ) → holds s (v / 32) ≡ false → has s v ≡ false
unfolding has
not_held s v h = ap (λ (x : ℕ). bit_at x (v % 32)) (zero (eqb (get_or s (v / 32) 0) 0) refl h) ∙ bit_zero (v % 32)
  where
    zero : (b : Bool) → eqb (get_or s (v / 32) 0) 0 ≡ b → not b ≡ false → get_or s (v / 32) 0 ≡ 0
    zero true e q = eqb-true (get_or s (v / 32) 0) 0 e
    zero false e q = clash (cc)

pub member_held : (s : List ℕ) (v : ℕ) → has s v ≡ true → holds s (v / 32) ≡ true
member_held s v h = pick (holds s (v / 32)) refl
  where
    pick : (b : Bool) → holds s (v / 32) ≡ b → b ≡ true
    pick true e = refl
    pick false e = let n = not_held s v e in clash (cc)

pub summary_byte : (s : List ℕ) → summary_of s < 2 ^ 8
unfolding summary_of
summary_byte s = bits_lt (holds s) 0 8

pub summary_bit : (s : List ℕ) (k : ℕ) → k < 8 → bit_at (summary_of s) k ≡ holds s k
unfolding summary_of
summary_bit s k l = bits_bit (holds s) 0 8 k l ∙ (let e : 0 + k ≡ k = omega arith in ap (holds s) e)

-- ---- what a marked word leaves to see
pub marked_has : (b : ℕ) (s : List ℕ) (v : ℕ) → highest (in_marked b s) ≡ Some v → (has s v ≡ true) × (v < 256)
unfolding in_marked
marked_has b s v e =
    let h = highest_has (collect (λ x. bit_at b (x / 32) && has s x)) v e in
    (pick (bit_at b (v / 32)) (has s v) (sym (has_collect (λ x. bit_at b (x / 32) && has s x) v h.1) ∙ h.0), h.1)
  where
    pick : (a c : Bool) → (a && c) ≡ true → c ≡ true
    pick true c q = q
    pick false c q = clash (cc)

-- the summary of a set marks every word that matters
pub summary_shows : (s : List ℕ) → Words s → in_marked (summary_of s) s ≡ s
unfolding in_marked
summary_shows s w = sym (collect_is (λ x. bit_at (summary_of s) (x / 32) && has s x) s w (λ v l. pick v l (has s v) refl))
  where
    pick : (v : ℕ) → v < 256 → (c : Bool) → has s v ≡ c → c ≡ (bit_at (summary_of s) (v / 32) && c)
    pick v l true e = sym (ap (λ (a : Bool). a && true) (summary_bit s (v / 32) (omega arith) ∙ member_held s v e))
    pick v l false e = or_false (bit_at (summary_of s) (v / 32))
      where
        or_false : (a : Bool) → false ≡ (a && false)
        or_false true = refl
        or_false false = refl

-- ---- a byte that is kept
-- word k of a set that is collected holds nothing: no vector of it was collected
uncollected : (f : ℕ → Bool) (k b : ℕ) → k < 8 → b < 32 → holds (collect f) k ≡ false → f (32 * k + b) ≡ false
uncollected f k b l r h =
    let d : (32 * k + b) / 32 ≡ k = omega arith in
    sym (has_collect f (32 * k + b) (omega arith)) ∙ not_held (collect f) (32 * k + b) (ap (holds (collect f)) d ∙ h)

-- t has what s has but for vectors of f: made anew for their words, the summary of s is that of t
pub remade_true : (f : ℕ → Bool) (s t : List ℕ) → Words s → Words t → ((v : ℕ) → v < 256 → f v ≡ false → has t v ≡ has s v)
    → remade f t (summary_of s) ≡ summary_of t
unfolding remade summary_of
remade_true f s t ws wt same = bits_ext _ (holds t) 0 8 (λ k l. rw (zero_add k) (pick k l (holds (collect f) k) refl))
  where
    zero_add : (k : ℕ) → 0 + k ≡ k
    zero_add k = omega arith

    word : (k : ℕ) → k < 8 → holds (collect f) k ≡ false → get_or s k 0 ≡ get_or t k 0
    word k l h =
        number_ext 32 (get_or s k 0) (get_or t k 0) (ws.small k l) (wt.small k l)
        (λ b r. sym (has_word s k b r) ∙ sym (same (32 * k + b) (omega arith) (uncollected f k b l r h)) ∙ has_word t k b r)

    pick : (k : ℕ) → k < 8 → (a : Bool) → holds (collect f) k ≡ a → cond a (holds t k) (bit_at (bits (holds s) 0 8) k) ≡ holds t k
    pick k l true e = refl
    pick k l false e = summary_bit s k l ∙ ap (λ (x : ℕ). not (eqb x 0)) (word k l e)

-- ---- as code keeps it
-- where the vectors of f are added the byte gains their summary
pub remade_joined : (f : ℕ → Bool) (s : List ℕ) (b : ℕ) → b < 2 ^ 8
    → remade f (collect (λ v. f v || has s v)) b ≡ bit_or b (summary_of (collect f))
unfolding remade
remade_joined f s b small = sym (bits_unique _ 0 8 (bit_or b (summary_of (collect f))) (or_lt 8 b (summary_of (collect f)) small (summary_byte (collect f))) each)
  where
    t : List ℕ
    t = collect (λ v. f v || has s v)

    -- a word with one of them holds something afterwards
    gained : (k : ℕ) → k < 8 → holds (collect f) k ≡ true → holds t k ≡ true
    gained k l h = go (holds t k) refl
      where
        go : (c : Bool) → holds t k ≡ c → c ≡ true
        go true e = refl
        go false e =
            let None : holds (collect f) k ≡ false =
            none_held (collect f) k (collect_words f) l (λ v m d. has_collect f v m ∙ left (f v) (has s v)
            (sym (has_collect (λ v. f v || has s v) v m) ∙ not_held t v (ap (holds t) d ∙ e))) in
            clash (cc)
          where
            left : (p q : Bool) → (p || q) ≡ false → p ≡ false
            left true q r = r
            left false q r = refl

    pick : (k : ℕ) → k < 8 → (c : Bool) → holds (collect f) k ≡ c → (bit_at b k || c) ≡ cond c (holds t k) (bit_at b k)
    pick k l true e = or_true (bit_at b k) ∙ sym (gained k l e)
      where
        or_true : (p : Bool) → (p || true) ≡ true
        or_true true = refl
        or_true false = refl
    pick k l false e = or_false (bit_at b k)
      where
        or_false : (p : Bool) → (p || false) ≡ p
        or_false true = refl
        or_false false = refl

    each : (k : ℕ) → k < 8 → bit_at (bit_or b (summary_of (collect f))) k ≡ cond (holds (collect f) (0 + k)) (holds t (0 + k)) (bit_at b (0 + k))
    each k l =
        let e : 0 + k ≡ k = omega arith in
        rw e (bit_or_lem b (summary_of (collect f)) k ∙ ap (λ (c : Bool). bit_at b k || c) (summary_bit (collect f) k l)
        ∙ pick k l (holds (collect f) k) refl)

-- one vector is in one word
pub single_held : (x k : ℕ) → x < 256 → k < 8 → holds (collect (λ y. eqb y x)) k ≡ eqb k (x / 32)
single_held x k l m = go (eqb k (x / 32)) refl
  where
    s : List ℕ
    s = collect (λ y. eqb y x)

    go : (c : Bool) → eqb k (x / 32) ≡ c → holds s k ≡ c
    go true e =
        ap (holds s) (eqb-true k (x / 32) e) ∙ member_held s x (has_collect (λ y. eqb y x) x l ∙ eq-eqb x x refl)
    go false e =
        none_held s k (collect_words (λ y. eqb y x)) m
        (λ v n d. has_collect (λ y. eqb y x) v n ∙ ne_eqb v x (λ (q : v ≡ x).
        let y : eqb k (x / 32) ≡ true = eq-eqb k (x / 32) (sym d ∙ ap (λ (z : ℕ). z / 32) q) in clash (cc)))

pub single_summary : (x : ℕ) → x < 256 → summary_of (collect (λ y. eqb y x)) ≡ 2 ^ (x / 32)
unfolding summary_of
single_summary x l = sym (bits_unique _ 0 8 (2 ^ (x / 32)) (pow-lt {i = x / 32} {j = 8} (omega arith)) each)
  where
    each : (k : ℕ) → k < 8 → bit_at (2 ^ (x / 32)) k ≡ holds (collect (λ y. eqb y x)) (0 + k)
    each k m = let e : 0 + k ≡ k = omega arith in rw e (bit_pow (x / 32) k ∙ sym (single_held x k l m))

-- of one vector, the byte is made anew for its word alone
pub remade_single : (x : ℕ) (t : List ℕ) (b : ℕ) → x < 256
    → remade (λ y. eqb y x) t b ≡ bits (λ j. cond (eqb j (x / 32)) (holds t j) (bit_at b j)) 0 8
unfolding remade
remade_single x t b l =
    bits_ext _ _ 0 8 (λ k m. let e : 0 + k ≡ k = omega arith in rw e (ap (λ (c : Bool). cond c (holds t k) (bit_at b k)) (single_held x k l m)))

-- by what that word holds
pub remade_word : (x : ℕ) (t : List ℕ) (b : ℕ) → x < 256
    → remade (λ y. eqb y x) t b ≡ bits (λ j. cond (eqb j (x / 32)) (holds t (x / 32)) (bit_at b j)) 0 8
remade_word x t b l = remade_single x t b l ∙ bits_ext _ _ 0 8 (λ k m. pick (0 + k) (eqb (0 + k) (x / 32)) refl)
  where
    pick : (k : ℕ) (c : Bool) → eqb k (x / 32) ≡ c → cond c (holds t k) (bit_at b k) ≡ cond c (holds t (x / 32)) (bit_at b k)
    pick k true e = ap (holds t) (eqb-true k (x / 32) e)
    pick k false e = refl

-- with no vector left no word is marked
pub remade_none : (b : ℕ) → remade (λ v. true) (collect (λ v. false)) b ≡ 0
unfolding remade
remade_none b = sym (bits_unique _ 0 8 0 (omega arith) (λ k l. let e : 0 + k ≡ k = omega arith in rw e (bit_zero k ∙ sym (each k l))))
  where
    each : (k : ℕ) → k < 8 → cond (holds (collect (λ v. true)) k) (holds (collect (λ v. false)) k) (bit_at b k) ≡ false
    each k l =
        let d : 32 * k / 32 ≡ k = omega arith in
        let h : holds (collect (λ v. true)) k ≡ true =
        sym (ap (holds (collect (λ v. true))) d) ∙ member_held (collect (λ v. true)) (32 * k) (has_collect (λ v. true) (32 * k) (omega arith)) in
        let n : holds (collect (λ v. false)) k ≡ false =
        none_held (collect (λ v. false)) k (collect_words (λ v. false)) l (λ v m q. has_collect (λ v. false) v m) in
        rw (h, n)

pub summary_empty : summary_of empty ≡ 0
unfolding summary_of empty
summary_empty =
    sym (bits_unique _ 0 8 0 (omega arith) (λ k l. let e : 0 + k ≡ k = omega arith in rw e (bit_zero k
    ∙ sym (none_held (collect (λ v. false)) k (collect_words (λ v. false)) l (λ v m q. has_collect (λ v. false) v m)))))
