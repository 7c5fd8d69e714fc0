-- The page after a notice as code leaves it: the descriptor replaced by what is left of it, and the announcing bit masked out.
-- Assumes nothing.
use mathlib.Core.Path.{◌≡◌, refl, sym, ap, ◌∙◌, subst}
use mathlib.Core.Bool.{Bool, true, false, cond, not, ◌&&◌, or-false, not-not}
use mathlib.Core.List.{List}
use mathlib.Core.Logic.{⊎_elim}
use Prim.Native.Nat.{ℕ, ◌+◌, ◌*◌, ◌-◌, ◌/◌, ◌%◌, ◌^◌, ◌<◌, ◌≤◌}
use native.Mathlib.Omega.{arith}
use native.Mathlib.Nat.{one-mul, mod-eq_of_lt}
use lib.Dec.{eqb}
use lib.ListN.{length, get_or, take, drop, set, length-set, length-drop}
use lib.Seq.{get_or-set_same, get_or-set_other, get_or-take, get_or-drop, length-take-le}
use lib.Bits.{bit_and}
use lib.Pow.{pow-lt}
use borrow.Author.Tests.{lt-leb, le-leb, lt-ltb, le-ltb, eq-eqb, ne_eqb, eqb-true, eqb-false}
use Rattle.vector_set.specs.Bits.{bit_at}
use Rattle.vector_set.proofs.BitLaws.{bit_not, bit_pow, mask_clear, mask_set}
use Rattle.model.specs.Doorbell.{bit_of, many_bit, announces, descriptor, descriptor_at, clears_bit, clears, noticed_page}
use Rattle.std.specs.Prelude.{Option, None, Some}
use Rattle.descriptor.specs.Requests.{Asked, requested_in}
use Rattle.doorbell.specs.Takes.{taken_from, taken_page}
use Rattle.doorbell.proofs.Bytes.{split, place, spliced, spliced_length, spliced_before, spliced_in, spliced_after}
use Rattle.doorbell.specs.Clear.{clearing}
use Rattle.doorbell.proofs.ClearLaws.{Cleared, cleared_at, clearing_length, is_clearing, keeps, masks}

eqb_same : (a b c d : ℕ) → (a ≡ b → c ≡ d) → (c ≡ d → a ≡ b) → eqb a b ≡ eqb c d
eqb_same a b c d f g = go (eqb a b) refl
  where
    go : (t : Bool) → eqb a b ≡ t → t ≡ eqb c d
    go true e = sym (eq-eqb c d (f (eqb-true a b e)))
    go false e = sym (ne_eqb c d (λ q. eqb-false a b e (g q)))

-- the announcing bit is bit L - 1 of byte 3
pub announces_is : (l : ℕ) (p : List ℕ) → 1 ≤ l → l ≤ 3 → announces l p ≡ bit_at (get_or p 3 0) (l - 1)
unfolding announces bit_of
announces_is l p a b =
    let d : (8 * 2 + (7 + l)) / 8 ≡ 3 = omega arith in
    let m : (8 * 2 + (7 + l)) % 8 ≡ l - 1 = omega arith in
    rw (d, m)

pub announced_by : (l : ℕ) (p : List ℕ) {m : ℕ} → (1 ≤ l) × (l ≤ 3) → m ≡ 2 ^ (l - 1) → (bit_and (get_or p 3 0) m ≡ 0 → ⊥) → announces l p ≡ true
announced_by l p guest e n =
    announces_is l p guest.0 guest.1 ∙ mask_set (l - 1) (get_or p 3 0) (λ q. n (ap (bit_and (get_or p 3 0)) e ∙ q))

pub unannounced_by : (l : ℕ) (p : List ℕ) {m : ℕ} → (1 ≤ l) × (l ≤ 3) → m ≡ 2 ^ (l - 1) → bit_and (get_or p 3 0) m ≡ 0 → announces l p ≡ false
unannounced_by l p guest e q =
    announces_is l p guest.0 guest.1 ∙ mask_clear (l - 1) (get_or p 3 0) (sym (ap (bit_and (get_or p 3 0)) e) ∙ q)

-- 1 shifted by L - 1 within a byte
pub mark_is : (l : ℕ) → l ≤ 3 → 1 * 2 ^ (l - 1) % 256 ≡ 2 ^ (l - 1)
mark_is l h =
    ap (λ (x : ℕ). x % 256) (one-mul (2 ^ (l - 1))) ∙ mod-eq_of_lt (pow-lt {i = l - 1} {j = 8} (omega arith))

module _ (l : ℕ) (many : Bool) (low : 1 ≤ l) (high : l ≤ 3) where
  -- ---- which bits of a byte are cleared
  clears_mark : (b : ℕ) → b < 8 → clears l many (8 * 3 + b) ≡ eqb b (l - 1)
  unfolding clears
  clears_mark b r =
      rw (lt-leb (8 * (64 * l)) (8 * 3 + b) (omega arith), or-false (eqb (8 * 3 + b) (8 * 2 + (7 + l))))
      (eqb_same (8 * 3 + b) (8 * 2 + (7 + l)) b (l - 1) (λ (q : 8 * 3 + b ≡ 8 * 2 + (7 + l)). omega arith) (λ (q : b ≡ l - 1). omega arith))

  clears_in : (i b : ℕ) → i < 32 → b < 8 → clears l many (8 * (64 * l + i) + b) ≡ clears_bit many (8 * i + b)
  unfolding clears
  clears_in i b h r =
      let e : 8 * (64 * l + i) + b - 8 * (64 * l) ≡ 8 * i + b = omega arith in
      rw (
        ne_eqb (8 * (64 * l + i) + b) (8 * 2 + (7 + l)) (λ (q : 8 * (64 * l + i) + b ≡ 8 * 2 + (7 + l)). omega arith),
        le-leb (8 * (64 * l)) (8 * (64 * l + i) + b) (omega arith),
        lt-ltb (8 * (64 * l + i) + b) (8 * (64 * l) + 256) (omega arith),
        e,
      )

  clears_before : (j b : ℕ) → (j ≡ 3 → ⊥) → j < 64 * l → b < 8 → clears l many (8 * j + b) ≡ false
  unfolding clears
  clears_before j b n h r =
      rw (
        ne_eqb (8 * j + b) (8 * 2 + (7 + l)) (λ (q : 8 * j + b ≡ 8 * 2 + (7 + l)). n (omega arith)),
        lt-leb (8 * (64 * l)) (8 * j + b) (omega arith),
      )

  clears_after : (j b : ℕ) → 64 * l + 32 ≤ j → b < 8 → clears l many (8 * j + b) ≡ false
  unfolding clears
  clears_after j b h r =
      rw (
        ne_eqb (8 * j + b) (8 * 2 + (7 + l)) (λ (q : 8 * j + b ≡ 8 * 2 + (7 + l)). omega arith),
        le-leb (8 * (64 * l)) (8 * j + b) (omega arith),
        le-ltb (8 * j + b) (8 * (64 * l) + 256) (omega arith),
      )

  -- ---- the page, byte by byte
  module _ (p : List ℕ) (long : 256 ≤ length p) (small : (j : ℕ) → get_or p j 0 < 256) where
    abbrev rest : List ℕ
    rest = clearing (clears_bit many) (take 32 (drop (64 * l) p))

    abbrev mask : ℕ
    mask = 255 - 2 ^ (l - 1)

    abbrev lent : List ℕ
    lent = spliced p (64 * l) 32 rest

    descriptor_length : length (take 32 (drop (64 * l) p)) ≡ 32
    descriptor_length = length-take-le 32 (drop (64 * l) p) (rw (length-drop (64 * l) p) (omega arith))

    rest_length : length rest ≡ 32
    rest_length = clearing_length (clears_bit many) (take 32 (drop (64 * l) p)) ∙ descriptor_length

    lent_length : length lent ≡ length p
    lent_length = spliced_length p (64 * l) 32 rest (omega arith) rest_length

    mark_byte : Cleared (clears l many) 3 (get_or p 3 0) (bit_and (get_or p 3 0) mask)
    mark_byte =
        masks (clears l many) 3 (get_or p 3 0) mask (omega arith)
        (λ b r.
        bit_not 8 (2 ^ (l - 1)) b (pow-lt {i = l - 1} {j = 8} (omega arith)) r ∙ ap not (bit_pow (l - 1) b ∙ sym (clears_mark b r)))

    kept : (j : ℕ) → ((b : ℕ) → b < 8 → clears l many (8 * j + b) ≡ false) → get_or lent j 0 ≡ get_or p j 0
        → Cleared (clears l many) j (get_or p j 0) (get_or lent j 0)
    kept j n e = subst (Cleared (clears l many) j (get_or p j 0)) (sym e) (keeps (clears l many) j (get_or p j 0) (small j) n)

    descriptor_byte : (i : ℕ) → i < 32 → Cleared (clears l many) (64 * l + i) (get_or p (64 * l + i) 0) (get_or lent (64 * l + i) 0)
    descriptor_byte i h =
        let c = cleared_at (clears_bit many) (take 32 (drop (64 * l) p)) i (omega (arith, descriptor_length)) in
        let e : get_or (take 32 (drop (64 * l) p)) i 0 ≡ get_or p (64 * l + i) 0 = get_or-take 32 (drop (64 * l) p) i 0 h ∙ get_or-drop (64 * l) p i 0 in
        let y : get_or lent (64 * l + i) 0 ≡ get_or rest i 0 = spliced_in p (64 * l) 32 rest (omega arith) rest_length i h in
        record {
          small = rw y c.small;
          bit = λ b r. ap (λ (x : ℕ). bit_at x b) y ∙ c.bit b r
              ∙ ap (λ (x : ℕ). bit_at x b && not (clears_bit many (8 * i + b))) e
              ∙ ap (λ (t : Bool). bit_at (get_or p (64 * l + i) 0) b && not t) (sym (clears_in i b h r));
        }

    other : (j : ℕ) → (j ≡ 3 → ⊥) → Cleared (clears l many) j (get_or p j 0) (get_or lent j 0)
    other j n =
        ⊎_elim
        (λ (h : j < 64 * l). kept j (λ b r. clears_before j b n h r) (spliced_before p (64 * l) 32 rest (omega arith) rest_length j h))
        (λ (h : 64 * l ≤ j). ⊎_elim
        (λ (i : j < 64 * l + 32).
        let e : 64 * l + (j - 64 * l) ≡ j = omega arith in
        subst (λ (k : ℕ). Cleared (clears l many) k (get_or p k 0) (get_or lent k 0)) e (descriptor_byte (j - 64 * l) (omega arith)))
        (λ (i : 64 * l + 32 ≤ j). kept j (λ b r. clears_after j b i r) (spliced_after p (64 * l) 32 rest (omega arith) rest_length j i))
        (split j (64 * l + 32)))
        (split j (64 * l))

    abbrev after : List ℕ
    after = set lent 3 (bit_and (get_or p 3 0) mask)

    away : (j : ℕ) → (j ≡ 3 → ⊥) → Cleared (clears l many) j (get_or p j 0) (get_or after j 0)
    away j n = subst (Cleared (clears l many) j (get_or p j 0)) (sym (get_or-set_other lent 3 j (bit_and (get_or p 3 0) mask) 0 n)) (other j n)

    byte : (j : ℕ) → Cleared (clears l many) j (get_or p j 0) (get_or after j 0)
    byte j =
        ⊎_elim
        (λ (h : j < 3). away j (λ (q : j ≡ 3). omega arith))
        (⊎_elim
        (λ (e : j ≡ 3).
        subst (λ (k : ℕ). Cleared (clears l many) k (get_or p k 0) (get_or after k 0)) (sym e)
        (subst (Cleared (clears l many) 3 (get_or p 3 0)) (sym (get_or-set_same lent 3 (bit_and (get_or p 3 0) mask) 0 (omega (arith, lent_length)))) mark_byte))
        (λ (h : 3 < j). away j (λ (q : j ≡ 3). omega arith)))
        (place j 3)

    pub page_is : set lent 3 (bit_and (get_or lent 3 0) mask) ≡ clearing (clears l many) p
    page_is =
        rw (spliced_before p (64 * l) 32 rest (omega arith) rest_length 3 (omega arith))
        (is_clearing (clears l many) p after
        (length-set lent 3 (bit_and (get_or p 3 0) mask) ∙ lent_length) (λ j h. byte j))

-- ---- the two ways out of taking what a page asks for
kept_either : (p : List ℕ) (b : Bool) → p ≡ cond b p p
kept_either p true = refl
kept_either p false = refl

module _ (l : ℕ) (a p : List ℕ) where
  pub unannounced : announces l p ≡ false → (◌≡◌ {A = Option Asked} None (taken_from l a p)) × (p ≡ taken_page l p)
  unfolding taken_from taken_page noticed_page
  unannounced n = (rw n, rw n (kept_either p (bit_of (descriptor l p) many_bit)))

module _ (l : ℕ) (a p : List ℕ) {r : Asked} where
  pub announced : announces l p ≡ true → r ≡ requested_in a (descriptor l p) → Some r ≡ taken_from l a p
  unfolding taken_from
  announced n e = rw (n, e)

  -- the page is cleared now, or once its marks are taken
  many_is : {b : Bool} → r ≡ requested_in a (descriptor l p) → not r.many ≡ b → bit_of (descriptor l p) many_bit ≡ not b
  unfolding requested_in
  many_is e f = sym (ap (λ (s : Asked). s.many) e) ∙ sym (not-not r.many) ∙ ap not f

  pub page_left : r ≡ requested_in a (descriptor l p) → not r.many ≡ false → p ≡ taken_page l p
  unfolding taken_page
  page_left e f = rw (many_is e f)

  pub page_cleared : {q : List ℕ} → r ≡ requested_in a (descriptor l p) → not r.many ≡ true → q ≡ noticed_page l p → q ≡ taken_page l p
  unfolding taken_page
  page_cleared e f g = rw (many_is e f) g

-- a page that announces work is cleared
pub noticed_is : (l : ℕ) (p : List ℕ) {q : List ℕ} → announces l p ≡ true → q ≡ clearing (clears l (bit_of (descriptor l p) many_bit)) p → q ≡ noticed_page l p
unfolding noticed_page
noticed_is l p n f = rw n f

-- the bytes that are lent are those of the descriptor
pub lent_is : (l first : ℕ) (p : List ℕ) {d : List ℕ} → first ≡ descriptor_at l → d ≡ take (first + 32 - first) (drop first p) → d ≡ descriptor l p
unfolding descriptor
lent_is l first p e f =
    let k : first + 32 - first ≡ 32 = omega arith in f ∙ rw k (ap (λ (n : ℕ). take 32 (drop n p)) e)

pub finish : (l first : ℕ) (p ys : List ℕ) {m : ℕ} → first ≡ descriptor_at l → m ≡ 2 ^ (l - 1) → (1 ≤ l) × (l ≤ 3) → 256 ≤ length p
    → ((j : ℕ) → get_or p j 0 < 256) → let d = take (first + 32 - first) (drop first p) in
    ys ≡ clearing (clears_bit (bit_of d many_bit)) d
    → let lent = spliced p first (first + 32 - first) ys in
    set lent 3 (bit_and (get_or lent 3 0) (255 - m)) ≡ clearing (clears l (bit_of (descriptor l p) many_bit)) p
unfolding descriptor
finish l first p ys e f guest long small y =
    let k : first + 32 - first ≡ 32 = omega arith in
    rw (y, k, e, f) (page_is l (bit_of (take 32 (drop (64 * l) p)) many_bit) guest.0 guest.1 p long small)
