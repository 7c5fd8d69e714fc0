-- A set by its eight words: what code that works on whole words gives, as sets of vectors.
-- Assumes nothing.
use mathlib.Core.Path.{◌≡◌, refl, sym, ap, ap₂, ◌∙◌}
use mathlib.Core.Bool.{Bool, true, false, not, ◌&&◌, ◌||◌, and_comm, or_comm}
use mathlib.Core.List.{List, [], ◌∷◌}
use Rattle.std.specs.Prelude.{Some}
use Prim.Native.Nat.{ℕ, zero, suc, ◌+◌, ◌-◌, ◌*◌, ◌/◌, ◌%◌, ◌^◌, ◌<◌, ◌≤◌}
use native.Mathlib.Omega.{arith}
use native.Mathlib.Nat.{mod-one, mod-lt, mod-eq_of_lt, pow-succ'}
use lib.Dec.{T as Holds, eqb, leb, ltb, lit<}
use lib.Bits.{bit_and, bit_or, and_lt, or_lt}
use lib.ListN.{get_or, set, length-set}
use lib.Seq.{ext_get_or, get_or-set_same, get_or-set_other}
use lib.Pow.{pow_pos, pow-lt, shl_exact, mod-pow-add, ones_sub-lt}
use lib.Count.{ones, ones_cat}
use mir.Syntax.{w32}
use mir.Val.{Val}
use denote.Laws.{Is}
use denote.Plain.{UInt}
use denote.Array.{Array}
use borrow.Author.Rules.{elem_Fits}
use borrow.Author.Tests.{ltb-true, ltb-false, eqb-true, eqb-false, eq-eqb, ne_eqb, le-leb, lt-leb}
use Rattle.vector_set.specs.Bits.{one, bit_at, bits}
use Rattle.vector_set.proofs.BitLaws.{bits_unique, bit_number, bit_above, bit_top, bit_zero, bit_and_lem, bit_or_lem, bit_not, bit_pow}
use Rattle.vector_set.specs.Sets.{has, words, collect, insert, remove, union, difference, intersection, from, highest, count_below}
use Rattle.vector_set.proofs.Laws.{Words, has_word, words_at, collect_words, collect_is, highest_is}

-- ---- arrays of the code
-- an array [u32; 8] of a parameter or of its fields (`c.well_formed`), or of a call's result (`.type_inv`), is eight words
pub array_words : (s : List ℕ) (vs : List Val) → Is (Array (UInt w32) 8) s vs → Words s
array_words s vs p = record { eight = p.1.0.1; small = λ i l. (elem_Fits w32 w32 s p.0 i p.1.1 tt).fits }

-- a constant index is below 8, as code asks that reads words one by one: `at tt`
pub at : {A : Type 0} {k : ℕ} → Holds (ltb k 8) → A → k < 8
at t c = lit< t

-- ---- word by word
-- g k, g (k + 1) and so on, n of them
abbrev pub upto : (ℕ → ℕ) → ℕ → ℕ → List ℕ
upto g k zero = []
upto g k (suc n) = g k ∷ upto g (suc k) n

upto_words : (g : ℕ → ℕ) (f : ℕ → Bool) (k n : ℕ) → ((i : ℕ) → i < k + n → g i ≡ bits f (32 * i) 32) → upto g k n ≡ words f k n
unfolding words
upto_words g f k zero h = refl
upto_words g f k (suc n) h = ap₂ (λ (x : ℕ) (xs : List ℕ). x ∷ xs) (h k (omega arith)) (upto_words g f (suc k) n (λ i l. h i (omega arith)))

-- eight words with the bits of f are the set of the v with f v
pub wordwise : (g : ℕ → ℕ) (f : ℕ → Bool) → ((k : ℕ) → k < 8 → g k < 2 ^ 32)
    → ((k b : ℕ) → k < 8 → b < 32 → bit_at (g k) b ≡ f (32 * k + b)) → upto g 0 8 ≡ collect f
unfolding collect
wordwise g f small h = upto_words g f 0 8 (λ k l. bits_unique f (32 * k) 32 (g k) (small k l) (λ b r. h k b l r))

-- an operation on the bits of two words, done on each pair of words
pub wordwise₂ : (op : ℕ → ℕ → ℕ) (o : Bool → Bool → Bool)
    → ((x y b : ℕ) → y < 2 ^ 32 → b < 32 → bit_at (op x y) b ≡ o (bit_at x b) (bit_at y b))
    → (s t r : List ℕ) → Words t → Words r → ((k : ℕ) → k < 8 → get_or r k 0 ≡ op (get_or s k 0) (get_or t k 0)) → r ≡ collect (λ v. o (has s v) (has t v))
unfolding has
wordwise₂ op o bit s t r wt wr each =
    collect_is (λ v. o (has s v) (has t v)) r wr
    (λ v l. ap (λ (x : ℕ). bit_at x (v % 32)) (each (v / 32) (omega arith))
    ∙ bit (get_or s (v / 32) 0) (get_or t (v / 32) 0) (v % 32) (wt.small (v / 32) (omega arith)) (omega arith))

-- ---- one word stored
eqb_same : (v b : ℕ) → b < 32 → eqb (32 * (v / 32) + b) v ≡ eqb b (v % 32)
eqb_same v b l = go (eqb b (v % 32)) refl
  where
    go : (t : Bool) → eqb b (v % 32) ≡ t → eqb (32 * (v / 32) + b) v ≡ t
    go true e = let d : b ≡ v % 32 = eqb-true b (v % 32) e in eq-eqb (32 * (v / 32) + b) v (omega arith)
    go false e = let d : b ≡ v % 32 → ⊥ = eqb-false b (v % 32) e in ne_eqb (32 * (v / 32) + b) v (λ (q : 32 * (v / 32) + b ≡ v). d (omega arith))

-- the word of the vector v changed at its bit only
pub word_changed : (o : Bool → Bool → Bool) → ((q : Bool) → o false q ≡ q) → (s : List ℕ) (v x : ℕ) → Words s → v < 256 → x < 2 ^ 32
    → ((b : ℕ) → b < 32 → bit_at x b ≡ o (eqb b (v % 32)) (bit_at (get_or s (v / 32) 0) b)) → set s (v / 32) x ≡ collect (λ w. o (eqb w v) (has s w))
unfolding collect
word_changed o keep s v x ws lv lx h =
    ext_get_or 0 (set s (v / 32) x) (collect f) (length-set s (v / 32) x ∙ ws.eight ∙ sym (collect_words f).eight)
    (λ i l. let m : i < 8 = omega (arith, length-set s (v / 32) x, ws.eight) in
    go i m (eqb i (v / 32)) refl ∙ sym (words_at f 0 8 i m ∙ ap (λ (k : ℕ). bits f (32 * k) 32) (omega arith)))
  where
    f : ℕ → Bool
    f w = o (eqb w v) (has s w)

    go : (i : ℕ) → i < 8 → (t : Bool) → eqb i (v / 32) ≡ t → get_or (set s (v / 32) x) i 0 ≡ bits f (32 * i) 32
    go i l true e =
        let d : i ≡ v / 32 = eqb-true i (v / 32) e in
        rw (d, get_or-set_same s (v / 32) x 0 (omega (arith, ws.eight)))
        (bits_unique f (32 * (v / 32)) 32 x lx (λ b r. h b r ∙ ap₂ o (sym (eqb_same v b r)) (sym (has_word s (v / 32) b r))))
    go i l false e =
        let d : i ≡ v / 32 → ⊥ = eqb-false i (v / 32) e in
        get_or-set_other s (v / 32) i x 0 d
        ∙ bits_unique f (32 * i) 32 (get_or s i 0) (ws.small i l)
        (λ b r. sym (ap₂ o (ne_eqb (32 * i + b) v (λ (q : 32 * i + b ≡ v). d (omega arith))) (has_word s i b r) ∙ keep (bit_at (get_or s i 0) b)))

-- `1 << b` of a word
pub one_shl : (b : ℕ) → b < 32 → (1 * 2 ^ b) % 2 ^ 32 ≡ 2 ^ b
one_shl b l = shl_exact {a = 1} 1 b 32 (omega arith) (omega arith) ∙ omega arith

-- ---- what the functions compute
pub insert_bit : (s : List ℕ) (v : ℕ) → Words s → v < 256 → set s (v / 32) (bit_or (get_or s (v / 32) 0) (2 ^ (v % 32))) ≡ insert v s
unfolding insert
insert_bit s v ws l =
    let m : v % 32 < 32 = omega arith in
    let x = get_or s (v / 32) 0 in
    word_changed (λ p q. p || q) (λ q. refl) s v (bit_or x (2 ^ (v % 32))) ws l
    (or_lt 32 x (2 ^ (v % 32)) (ws.small (v / 32) (omega arith)) (pow-lt m))
    (λ b r. bit_or_lem x (2 ^ (v % 32)) b ∙ ap (λ (t : Bool). bit_at x b || t) (bit_pow (v % 32) b) ∙ or_comm (bit_at x b) (eqb b (v % 32)))

pub remove_bit : (s : List ℕ) (v : ℕ) → Words s → v < 256 → set s (v / 32) (bit_and (get_or s (v / 32) 0) ((2 ^ 32 - 1) - 2 ^ (v % 32))) ≡ remove v s
unfolding remove
remove_bit s v ws l =
    let m : v % 32 < 32 = omega arith in
    let x = get_or s (v / 32) 0 in
    let n = 2 ^ 32 - 1 - 2 ^ (v % 32) in
    word_changed (λ p q. not p && q) (λ q. refl) s v (bit_and x n) ws l
    (and_lt 32 x n (ws.small (v / 32) (omega arith)) (ones_sub-lt 32 (2 ^ (v % 32))))
    (λ b r. bit_and_lem x n b
    ∙ ap (λ (t : Bool). bit_at x b && t) (bit_not 32 (2 ^ (v % 32)) b (pow-lt m) r ∙ ap not (bit_pow (v % 32) b))
    ∙ and_comm (bit_at x b) (not (eqb b (v % 32))))

-- the same, where the bit is shifted in place
pub insert_word : (s : List ℕ) (v : ℕ) → Words s → v < 256 → set s (v / 32) (bit_or (get_or s (v / 32) 0) ((1 * 2 ^ (v % 32)) % 2 ^ 32)) ≡ insert v s
insert_word s v ws l = rw (one_shl (v % 32) (omega arith)) (insert_bit s v ws l)

pub remove_word : (s : List ℕ) (v : ℕ) → Words s → v < 256
    → set s (v / 32) (bit_and (get_or s (v / 32) 0) ((2 ^ 32 - 1) - (1 * 2 ^ (v % 32)) % 2 ^ 32)) ≡ remove v s
remove_word s v ws l = rw (one_shl (v % 32) (omega arith)) (remove_bit s v ws l)

pub union_words : (s t r : List ℕ) → Words t → Words r → ((k : ℕ) → k < 8 → get_or r k 0 ≡ bit_or (get_or s k 0) (get_or t k 0)) → r ≡ union s t
unfolding union
union_words = wordwise₂ bit_or (λ p q. p || q) (λ x y b h l. bit_or_lem x y b)

pub intersection_words : (s t r : List ℕ) → Words t → Words r → ((k : ℕ) → k < 8 → get_or r k 0 ≡ bit_and (get_or s k 0) (get_or t k 0))
    → r ≡ intersection s t
unfolding intersection
intersection_words = wordwise₂ bit_and (λ p q. p && q) (λ x y b h l. bit_and_lem x y b)

pub difference_words : (s t r : List ℕ) → Words t → Words r → ((k : ℕ) → k < 8 → get_or r k 0 ≡ bit_and (get_or s k 0) ((2 ^ 32 - 1) - get_or t k 0))
    → r ≡ difference s t
unfolding difference
difference_words =
    wordwise₂ (λ x y. bit_and x ((2 ^ 32 - 1) - y)) (λ p q. p && not q)
    (λ x y b h l. bit_and_lem x ((2 ^ 32 - 1) - y) b ∙ ap (λ (t : Bool). bit_at x b && t) (bit_not 32 y b h l))

-- bit 31 of the lowest word and all of the others
abbrev pub from_lowest : List ℕ → ℕ → ℕ
from_lowest s zero = bit_and (get_or s 0 0) 0x8000_0000
from_lowest s (suc k) = get_or s (suc k) 0

pub from_lowest_words : (s : List ℕ) → Words s → upto (from_lowest s) 0 8 ≡ from 31 s
unfolding from
from_lowest_words s ws = wordwise (from_lowest s) (λ v. leb 31 v && has s v) small bit
  where
    small : (k : ℕ) → k < 8 → from_lowest s k < 2 ^ 32
    small zero l = and_lt 32 (get_or s 0 0) 0x8000_0000 (ws.small 0 l) (omega arith)
    small (suc k) l = ws.small (suc k) l

    last : (b : ℕ) → b < 32 → eqb b 31 ≡ leb 31 (32 * 0 + b)
    last b r = go (eqb b 31) refl
      where
        go : (t : Bool) → eqb b 31 ≡ t → t ≡ leb 31 (32 * 0 + b)
        go true e = let d : b ≡ 31 = eqb-true b 31 e in sym (le-leb 31 (32 * 0 + b) (omega arith))
        go false e = let d : b ≡ 31 → ⊥ = eqb-false b 31 e in sym (lt-leb 31 (32 * 0 + b) (omega arith))

    bit : (k b : ℕ) → k < 8 → b < 32 → bit_at (from_lowest s k) b ≡ (leb 31 (32 * k + b) && has s (32 * k + b))
    bit zero b l r =
        bit_and_lem (get_or s 0 0) (2 ^ 31) b
        ∙ ap₂ (λ (p q : Bool). p && q) (sym (has_word s 0 b r)) (bit_pow 31 b ∙ last b r)
        ∙ and_comm (has s (32 * 0 + b)) (leb 31 (32 * 0 + b))
    bit (suc k) b l r = sym (has_word s (suc k) b r) ∙ sym (rw (le-leb 31 (32 * suc k + b) (omega arith)))

-- ---- the highest member by words
-- the highest bit of a word that is not 0 has the highest member of the set, where the words above are 0
pub highest_word : (s : List ℕ) (k j : ℕ) → k < 8 → j < 32 → 2 ^ j ≤ get_or s k 0 → get_or s k 0 < 2 * 2 ^ j
    → ((w : ℕ) → w < 256 → 32 * suc k ≤ w → has s w ≡ false) → highest s ≡ Some (32 * k + j)
highest_word s k j l m low high above =
    highest_is s (32 * k + j) (omega arith) (has_word s k j m ∙ bit_top j (get_or s k 0) low top) none_above
  where
    top : get_or s k 0 < 2 ^ suc j
    top = let p : 2 ^ suc j ≡ 2 * 2 ^ j = pow-succ' 2 j in omega arith

    none_above : (w : ℕ) → w < 256 → 32 * k + j < w → has s w ≡ false
    none_above w lw g = go (ltb w (32 * suc k)) refl
      where
        go : (b : Bool) → ltb w (32 * suc k) ≡ b → has s w ≡ false
        go false p = above w lw (ltb-false w (32 * suc k) p)
        go true p =
            let q : w < 32 * suc k = ltb-true w (32 * suc k) p in
            let e : w ≡ 32 * k + (w - 32 * k) = omega arith in
            ap (has s) e ∙ has_word s k (w - 32 * k) (omega arith) ∙ bit_above (suc j) (get_or s k 0) (w - 32 * k) top (omega arith)

-- a word that is 0 has no member
pub no_member : (s : List ℕ) (v : ℕ) → get_or s (v / 32) 0 ≡ 0 → has s v ≡ false
no_member s v z =
    let e : v ≡ 32 * (v / 32) + v % 32 = omega arith in
    ap (has s) e ∙ has_word s (v / 32) (v % 32) (omega arith) ∙ ap (λ (x : ℕ). bit_at x (v % 32)) z ∙ bit_zero (v % 32)

-- nor have that word and those above it, where these have none
pub zero_word : (s : List ℕ) (k : ℕ) → get_or s k 0 ≡ 0 → ((w : ℕ) → w < 256 → 32 * suc k ≤ w → has s w ≡ false)
    → (w : ℕ) → w < 256 → 32 * k ≤ w → has s w ≡ false
zero_word s k z above w lw g = go (ltb w (32 * suc k)) refl
  where
    go : (b : Bool) → ltb w (32 * suc k) ≡ b → has s w ≡ false
    go false p = above w lw (ltb-false w (32 * suc k) p)
    go true p =
        let m : w < 32 * suc k = ltb-true w (32 * suc k) p in
        let d : w / 32 ≡ k = omega arith in
        no_member s w (ap (λ (j : ℕ). get_or s j 0) d ∙ z)

-- ---- the number of members by words
ones_digit : (y : ℕ) → y < 2 → ones y ≡ y
unfolding ones
ones_digit zero h = refl
ones_digit (suc zero) h = refl
ones_digit (suc (suc y)) h = let z : ⊥ = omega arith in absurd z

count_part : (s : List ℕ) (k n : ℕ) → n ≤ 32 → count_below s (32 * k + n) ≡ count_below s (32 * k) + ones (get_or s k 0 % 2 ^ n)
unfolding count_below
count_part s k zero l =
    let e : 32 * k + 0 ≡ 32 * k = omega arith in
    rw (e, mod-one, ones_digit 0 (omega arith)) (omega arith)
count_part s k (suc n) l =
    let x = get_or s k 0 in
    let e : 32 * k + suc n ≡ suc (32 * k + n) = omega arith in
    let o : one (has s (32 * k + n)) ≡ x / 2 ^ n % 2 = ap one (has_word s k n (omega arith)) ∙ bit_number x n in
    let d : x % 2 ^ suc n ≡ x / 2 ^ n % 2 * 2 ^ n + x % 2 ^ n = ap (λ (j : ℕ). x % 2 ^ j) (omega arith) ∙ mod-pow-add x 1 n in
    let c : ones (x % 2 ^ suc n) ≡ x / 2 ^ n % 2 + ones (x % 2 ^ n) =
    ap ones d ∙ ones_cat n (x / 2 ^ n % 2) (x % 2 ^ n) (mod-lt x (pow_pos n))
    ∙ ap (λ (y : ℕ). y + ones (x % 2 ^ n)) (ones_digit (x / 2 ^ n % 2) (omega arith)) in
    let r = count_part s k n (omega arith) in
    ap (count_below s) e ∙ omega arith

pub count_word : (s : List ℕ) (k : ℕ) → Words s → k < 8 → count_below s (32 * suc k) ≡ count_below s (32 * k) + ones (get_or s k 0)
count_word s k ws l =
    let e : 32 * suc k ≡ 32 * k + 32 = omega arith in
    ap (count_below s) e ∙ count_part s k 32 (omega arith) ∙ ap (λ (y : ℕ). count_below s (32 * k) + ones y) (mod-eq_of_lt (ws.small k l))
