-- The laws by which the bytes that code writes in a hand-back are the definition's.
-- Assumes nothing.
use mathlib.Core.Path.{◌≡◌, refl, sym, ap, ◌∙◌}
use mathlib.Core.Bool.{Bool, true, false, not, ◌&&◌, ◌||◌, and-true, or-false, and_assoc}
use mathlib.Core.List.{List, ◌++◌, append_assoc}
use mathlib.Core.Logic.{⊎_elim}
use Rattle.std.specs.Int.{to_le_bytes, w32}
use Rattle.std.specs.Prelude.{Option, None, Some, unwrap_or, is_none, is_some}
use Prim.Native.Nat.{ℕ, zero, suc, ◌+◌, ◌-◌, ◌*◌, ◌/◌, ◌%◌, ◌^◌, ◌<◌}
use native.Mathlib.Omega.{arith}
use lib.Dec.{leb, eqb}
use lib.ListN.{length, get_or, take, drop, set, length-set}
use lib.Seq.{get_or-set_same, get_or-set_other, drop-drop}
use lib.Bits.{and_mask}
use borrow.Author.Count.{below_more}
use borrow.Author.Tests.{lt-leb, le-leb, ne_eqb}
use Rattle.vector_set.specs.Bits.{one, bit_at, bits}
use Rattle.vector_set.proofs.BitLaws.{bit_and_lem, bit_shr, bits_unique, one_le}
use Rattle.vector_set.specs.Sets.{has, collect, difference, from, highest, is_empty}
use Rattle.vector_set.proofs.Laws.{has_difference, has_from, collect_ext, highest_has}
use Rattle.model.specs.Doorbell.{bytes_from, is_vector, handed_bit, serving_bit, descriptor_at, written}
use Rattle.model.proofs.Bytes.{bytes_from_length}
use Rattle.doorbell.proofs.Bytes.{place, made, is_made}
use Rattle.doorbell.proofs.ClearLaws.{each8}

-- ---- a byte of a set
bit_low : (y b : ℕ) → b < 8 → bit_at (y % 256) b ≡ bit_at y b
bit_low y b h =
    ap (λ (x : ℕ). bit_at x b) (sym (and_mask y 8)) ∙ bit_and_lem y 255 b
    ∙ ap (λ (t : Bool). bit_at y b && t) (each8 (λ b. bit_at 255 b ≡ true) refl refl refl refl refl refl refl refl b h)
    ∙ and-true (bit_at y b)

set_byte : (s : List ℕ) (i : ℕ) → get_or s (i / 4) 0 / 2 ^ (8 * (i % 4)) % 256 ≡ bits (has s) (8 * i) 8
unfolding has
set_byte s i =
    bits_unique (has s) (8 * i) 8 (get_or s (i / 4) 0 / 2 ^ (8 * (i % 4)) % 256) (omega arith)
    (λ b h.
    let d : (8 * i + b) / 32 ≡ i / 4 = omega arith in
    let m : (8 * i + b) % 32 ≡ 8 * (i % 4) + b = omega arith in
    bit_low (get_or s (i / 4) 0 / 2 ^ (8 * (i % 4))) b h ∙ bit_shr (get_or s (i / 4) 0) (8 * (i % 4)) b ∙ rw (d, m))

-- byte b of a word of four
low_byte : (n b : ℕ) {bytes : List ℕ} → bytes ≡ to_le_bytes w32 n → b < 4 → get_or bytes b 0 ≡ n / 2 ^ (8 * b) % 256
low_byte n zero e h = rw e (omega arith)
low_byte n (suc zero) e h = rw e (omega arith)
low_byte n (suc (suc zero)) e h = rw e (omega arith)
low_byte n (suc (suc (suc zero))) e h = rw e (omega arith)
low_byte n (suc (suc (suc (suc b)))) e h = let z : ⊥ = omega arith in absurd z

-- byte i written behind those before it
pub byte_filled : (s xs bytes : List ℕ) (j : ℕ) → bytes ≡ to_le_bytes w32 (get_or s (j / 4) 0) → j < length xs
    → ((i : ℕ) → i < j → get_or xs i 0 ≡ bits (has s) (8 * i) 8)
    → (i : ℕ) → i < j + 1 → get_or (set xs j (get_or bytes (j % 4) 0)) i 0 ≡ bits (has s) (8 * i) 8
byte_filled s xs bytes j e l before =
    let x = get_or bytes (j % 4) 0 in
    below_more (λ (i : ℕ). get_or (set xs j x) i 0 ≡ bits (has s) (8 * i) 8) j
    (λ i b. get_or-set_other xs j i x 0 (λ (q : i ≡ j). omega arith) ∙ before i b)
    (get_or-set_same xs j x 0 l ∙ low_byte (get_or s (j / 4) 0) (j % 4) e (omega arith) ∙ set_byte s j)

-- ---- the set of the vectors 31 to 255 of one set and not of another
pub edge_has : (s t : List ℕ) (v : ℕ) → v < 256 → has (from 31 (difference s t)) v ≡ (is_vector v && has s v && not (has t v))
edge_has s t v h =
    has_from 31 (difference s t) v h ∙ ap (λ (b : Bool). leb 31 v && b) (has_difference s t v h)
    ∙ sym (and_assoc (leb 31 v) (has s v) (not (has t v)))
    ∙ ap (λ (b : Bool). b && has s v && not (has t v)) (sym (and-true (leb 31 v)) ∙ ap (λ (b : Bool). leb 31 v && b) (sym (le-leb v 255 (omega arith))))

pub edge_set : (s t : List ℕ) → from 31 (difference s t) ≡ collect (λ v. is_vector v && has s v && not (has t v))
unfolding from
edge_set s t =
    collect_ext (λ v. leb 31 v && has (difference s t) v) (λ v. is_vector v && has s v && not (has t v))
    (λ v h. sym (has_from 31 (difference s t) v h) ∙ edge_has s t v h)

pub serving_bytes : (s t : List ℕ) → bytes_from (has (from 31 (difference s t))) 0 32 ≡ bytes_from (serving_bit s t) 0 32
unfolding serving_bit
serving_bytes s t =
    let m = made (has (from 31 (difference s t))) 32 in
    is_made (serving_bit s t) 32 (bytes_from (has (from 31 (difference s t))) 0 32)
    (record {
      long = m.long;
      small = m.small;
      bit = λ j l b r. m.bit j l b r ∙ edge_has s t (8 * j + b) (omega arith);
    })

-- as code makes them
pub serving_of : (s t : List ℕ) {d e w : List ℕ} → d ≡ difference s t → e ≡ from 31 d → w ≡ bytes_from (has e) 0 32 → w ≡ bytes_from (serving_bit s t) 0 32
serving_of s t a b c = c ∙ ap (λ (e : List ℕ). bytes_from (has e) 0 32) (b ∙ ap (from 31) a) ∙ serving_bytes s t

-- ---- the descriptor of what is pending
tail : (b : Bool) → b ≡ (b || false || false || false || false || false)
tail true = refl
tail false = refl

pub highest_small : (s : List ℕ) → unwrap_or (highest s) 0 < 256
highest_small s = go (highest s) refl
  where
    go : (o : Option ℕ) → highest s ≡ o → unwrap_or o 0 < 256
    go None e = omega arith
    go (Some v) e = (highest_has s v e).1

abbrev FlagBit : Bool → Bool → Bool → Bool → ℕ → Type 0
FlagBit x c y z b =
    bit_at (one x + 2 * one c + 4 * one y + 64 * one z) b
    ≡ (eqb (8 * 1 + b) 8 && x || eqb (8 * 1 + b) 9 && c || eqb (8 * 1 + b) 10 && y || eqb (8 * 1 + b) 14 && z)

flags_bit : (x c y z : Bool) (b : ℕ) → b < 8 → FlagBit x c y z b
flags_bit true true true true = each8 (FlagBit true true true true) refl refl refl refl refl refl refl refl
flags_bit true true true false = each8 (FlagBit true true true false) refl refl refl refl refl refl refl refl
flags_bit true true false true = each8 (FlagBit true true false true) refl refl refl refl refl refl refl refl
flags_bit true true false false = each8 (FlagBit true true false false) refl refl refl refl refl refl refl refl
flags_bit true false true true = each8 (FlagBit true false true true) refl refl refl refl refl refl refl refl
flags_bit true false true false = each8 (FlagBit true false true false) refl refl refl refl refl refl refl refl
flags_bit true false false true = each8 (FlagBit true false false true) refl refl refl refl refl refl refl refl
flags_bit true false false false = each8 (FlagBit true false false false) refl refl refl refl refl refl refl refl
flags_bit false true true true = each8 (FlagBit false true true true) refl refl refl refl refl refl refl refl
flags_bit false true true false = each8 (FlagBit false true true false) refl refl refl refl refl refl refl refl
flags_bit false true false true = each8 (FlagBit false true false true) refl refl refl refl refl refl refl refl
flags_bit false true false false = each8 (FlagBit false true false false) refl refl refl refl refl refl refl refl
flags_bit false false true true = each8 (FlagBit false false true true) refl refl refl refl refl refl refl refl
flags_bit false false true false = each8 (FlagBit false false true false) refl refl refl refl refl refl refl refl
flags_bit false false false true = each8 (FlagBit false false false true) refl refl refl refl refl refl refl refl
flags_bit false false false false = each8 (FlagBit false false false false) refl refl refl refl refl refl refl refl

module _ (irr level : List ℕ) (nmi mc : Bool) where
  abbrev top : ℕ
  top = unwrap_or (highest level) 0

  abbrev edge : List ℕ
  edge = from 31 (difference irr level)

  abbrev flags : ℕ
  flags = one nmi + 2 * one mc + 4 * one (not (is_empty level)) + 64 * one (not (is_empty edge))

  byte_0 : (b : ℕ) → b < 8 → bit_at top b ≡ handed_bit irr level nmi mc (8 * 0 + b)
  unfolding handed_bit
  byte_0 =
      each8 (λ b. bit_at top b ≡ handed_bit irr level nmi mc (8 * 0 + b)) (tail (bit_at top 0)) (tail (bit_at top 1)) (tail (bit_at top 2)) (tail (bit_at top 3))
      (tail (bit_at top 4)) (tail (bit_at top 5)) (tail (bit_at top 6)) (tail (bit_at top 7))

  byte_1 : (b : ℕ) → b < 8 → bit_at flags b ≡ handed_bit irr level nmi mc (8 * 1 + b)
  unfolding handed_bit
  byte_1 b h =
      rw (lt-leb (8 * 1 + b) 7 (omega arith), lt-leb 31 (8 * 1 + b) (omega arith), ← edge_set irr level)
      (flags_bit nmi mc (not (is_empty level)) (not (is_empty edge)) b h ∙ sym (or-false _))

  byte_j : (j b : ℕ) → 1 < j → j < 32 → b < 8 → has edge (8 * j + b) ≡ handed_bit irr level nmi mc (8 * j + b)
  unfolding handed_bit
  byte_j j b h l r =
      rw (
        lt-leb (8 * j + b) 7 (omega arith),
        ne_eqb (8 * j + b) 8 (λ (q : 8 * j + b ≡ 8). omega arith),
        ne_eqb (8 * j + b) 9 (λ (q : 8 * j + b ≡ 9). omega arith),
        ne_eqb (8 * j + b) 10 (λ (q : 8 * j + b ≡ 10). omega arith),
        ne_eqb (8 * j + b) 14 (λ (q : 8 * j + b ≡ 14). omega arith),
      )
      (edge_has irr level (8 * j + b) (omega arith))

  abbrev stored : List ℕ
  stored = set (set (bytes_from (has edge) 0 32) 0 top) 1 flags

  -- byte j is x, whose bits are those of the definition
  record Byte (j x : ℕ) : Type 0 where
    small : x < 256
    bit : (b : ℕ) → b < 8 → bit_at x b ≡ handed_bit irr level nmi mc (8 * j + b)

  byte : (j : ℕ) → j < 32 → Byte j (get_or stored j 0)
  byte j l =
      let m = made (has edge) 32 in
      ⊎_elim
      (λ (h : j < 1). let e : j ≡ 0 = omega arith in
      rw (
        e,
        get_or-set_other (set (bytes_from (has edge) 0 32) 0 top) 1 0 flags 0 (λ (q : 0 ≡ 1). omega arith),
        get_or-set_same (bytes_from (has edge) 0 32) 0 top 0 (omega (arith, m.long)),
      )
      (record { small = highest_small level; bit = byte_0 }))
      (⊎_elim
      (λ (e : j ≡ 1). rw (e, get_or-set_same (set (bytes_from (has edge) 0 32) 0 top) 1 flags 0 (simp length-set (omega (arith, m.long))))
      (record { small = omega (arith, one_le nmi, one_le mc, one_le (not (is_empty level)), one_le (not (is_empty edge))); bit = byte_1 }))
      (λ (h : 1 < j). rw (
        get_or-set_other (set (bytes_from (has edge) 0 32) 0 top) 1 j flags 0 (λ (q : j ≡ 1). omega arith),
        get_or-set_other (bytes_from (has edge) 0 32) 0 j top 0 (λ (q : j ≡ 0). omega arith),
      )
      (record { small = m.small j l; bit = λ b r. m.bit j l b r ∙ byte_j j b h l r })))
      (place j 1)

  pub pending_bytes : stored ≡ bytes_from (handed_bit irr level nmi mc) 0 32
  pending_bytes =
      is_made (handed_bit irr level nmi mc) 32 stored
      (record {
        long = simp length-set (bytes_from_length (has edge) 0 32);
        small = λ j l. (byte j l).small;
        bit = λ j l. (byte j l).bit;
      })

  some_is : is_some (highest level) ≡ not (is_empty level)
  unfolding is_empty
  some_is = go (highest level)
    where
      go : (o : Option ℕ) → is_some o ≡ not (is_none o)
      go None = refl
      go (Some v) = refl

  -- as code makes them
  pub pending_of : {d e w : List ℕ} {x y : ℕ} {o : Option ℕ} {p q : Bool} → d ≡ difference irr level → e ≡ from 31 d → w ≡ bytes_from (has e) 0 32
      → o ≡ highest level → x ≡ unwrap_or o 0 → p ≡ is_some o → q ≡ is_empty e → y ≡ one nmi + 2 * one mc + 4 * one p + 64 * one (not q)
      → set (set w 0 x) 1 y ≡ bytes_from (handed_bit irr level nmi mc) 0 32
  pending_of a b c f g h k m = cc (pending_bytes, some_is)

-- ---- the bytes back in the page
pub put_back : (l first : ℕ) (ys bytes p : List ℕ) → first ≡ descriptor_at l → ys ≡ bytes
    → take first p ++ (ys ++ drop (first + 64 - first) (drop first p)) ≡ written l bytes p
unfolding written
put_back l first ys bytes p e y =
    let k : first + 64 - first ≡ 64 = omega arith in
    rw (k, e, y, drop-drop 64 (64 * l) p) (sym (append_assoc (take (64 * l) p) bytes (drop (64 * l + 64) p)))
