-- The descriptor that a hand-back writes, read again by the notice rule.
-- Assumes nothing.
use mathlib.Core.Path.{◌≡◌, refl, sym, ap, ◌∙◌}
use mathlib.Core.Bool.{Bool, true, false, cond, not, ◌&&◌, ◌||◌, or-false, or-true, and-true, and-false}
use mathlib.Core.List.{List}
use Rattle.std.specs.Prelude.{unwrap_or, is_none}
use Rattle.std.specs.Prelude.{Option, None, Some}
use Prim.Native.Nat.{ℕ, ◌+◌, ◌*◌, ◌^◌, ◌<◌, ◌≤◌}
use native.Mathlib.Omega.{arith}
use lib.Dec.{leb, eqb}
use lib.ListN.{length, get_or, drop, length-append, length-take, length-drop, get_or-append}
use lib.Seq.{ext_get_or, get_or-take, get_or-drop}
use borrow.Author.Tests.{leb-true, leb-false, le-leb, lt-leb, eqb-true, eq-eqb, ne_eqb}
use Rattle.model.specs.declared.Vcpu.{Vcpu}
use Rattle.model.specs.Doorbell.{bit_of, bytes_from, map_bits, announcing_bit, announces, descriptor, vector_field, is_vector}
use Rattle.model.specs.Doorbell.{nmi_bit, machine_check_bit, level_bit, many_bit}
use Rattle.model.specs.Doorbell.{is_level, admits_mark, admits_level, admits_edge, admits, admitted, handed_bit, serving_bit, handed_bytes, written}
use Rattle.model.specs.Events.{handed}
use Rattle.model.specs.Demand2.{announce, pending_part}
use Rattle.model.specs.Reached.{Levelled}
use Rattle.model.proofs.Tests.{eqb_above, eqb_below}
use Rattle.model.proofs.LevelledLaws.{levelled_low}
use Rattle.model.proofs.Bytes.{bit_of_byte, bytes_from_at, bytes_from_length, bytes_from_bit}
use Rattle.model.proofs.Bytes.{map_bits_length, map_bits_bit, spliced_length, spliced_in, written_is}
use Rattle.vector_set.specs.Bits.{bit_at, bits}
use Rattle.vector_set.specs.Sets.{has, collect, full, difference, highest, is_empty}
use Rattle.vector_set.proofs.BitLaws.{bits_bit, bits_lt, bits_unique}
use Rattle.vector_set.proofs.Laws.{has_full, collect_ext, has_collect, highest_has, is_empty_has}

-- ---- the page
announced : (l : ℕ) (q : List ℕ) → 256 ≤ length q → l ≤ 3 → announces l (announce l q) ≡ true
unfolding announces announce
announced l q long small =
    map_bits_bit (λ k b. b || eqb k (announcing_bit l)) q (announcing_bit l) (omega arith)
    ∙ rw (eq-eqb (announcing_bit l) (announcing_bit l) refl) (or-true (bit_of q (announcing_bit l)))

pub handed_length : (v : Vcpu) → length (handed v) ≡ 64
unfolding handed handed_bytes
handed_length v = simp (length-append, bytes_from_length)

-- the first 32 bytes, by their bits
handed_at : Vcpu → ℕ → Bool
handed_at v = handed_bit v.irr v.irr_level v.nmi v.machine_check

handed_at_lem : (v : Vcpu) (j : ℕ) → j < 32 → get_or (handed v) j 0 ≡ bits (handed_at v) (8 * (0 + j)) 8
unfolding handed handed_bytes handed_at
handed_at_lem v j h =
    let f = handed_at v in
    let s = bytes_from (serving_bit v.isr v.isr_level) 0 32 in
    get_or-append (bytes_from f 0 32) s 0 j (omega (arith, bytes_from_length f 0 32)) ∙ bytes_from_at f 0 32 j h

module _ (l : ℕ) (v : Vcpu) (p : List ℕ) (low : 1 ≤ l) (high : l ≤ 3) (long : 256 ≤ length p) where
  -- the page after the hand-back
  abbrev after : List ℕ
  after = written l (handed v) p

  after_length : length after ≡ length p
  after_length = rw (written_is l (handed v) p) (spliced_length p (64 * l) 64 (handed v) (omega arith) (handed_length v))

  -- byte j of the descriptor
  after_at : (j : ℕ) → j < 32 → get_or after (64 * l + j) 0 ≡ bits (handed_at v) (8 * (0 + j)) 8
  after_at j h =
      rw (written_is l (handed v) p)
      (spliced_in p (64 * l) 64 (handed v) (omega arith) (handed_length v) j (omega arith) ∙ handed_at_lem v j h)

  set_bit : ℕ → Bool
  set_bit k = bit_of after k || eqb k (announcing_bit l)

  -- bit b of byte j of the descriptor
  bit_at_lem : (j b : ℕ) → j < 32 → b < 8 → set_bit (8 * (0 + (64 * l + j)) + b) ≡ handed_at v (8 * (0 + j) + b)
  unfolding set_bit
  bit_at_lem j b hj hb =
      let e : 8 * (0 + (64 * l + j)) + b ≡ 8 * (64 * l + j) + b = omega arith in
      rw (e, ne_eqb (8 * (64 * l + j) + b) (announcing_bit l) (λ (q : 8 * (64 * l + j) + b ≡ announcing_bit l). omega arith), or-false)
      (bit_of_byte after (64 * l + j) b hb
      ∙ ap (λ (x : ℕ). bit_at x b) (after_at j hj)
      ∙ bits_bit (handed_at v) (8 * (0 + j)) 8 b hb)

  announce_length : length (announce l after) ≡ length p
  unfolding announce
  announce_length = map_bits_length _ after ∙ after_length

  announce_at : (j : ℕ) → j < 32 → get_or (announce l after) (64 * l + j) 0 ≡ bits (handed_at v) (8 * (0 + j)) 8
  unfolding announce map_bits set_bit
  announce_at j h =
      bytes_from_at set_bit 0 (length after) (64 * l + j) (omega (arith, after_length))
      ∙ bits_unique (handed_at v) (8 * (0 + j)) 8 _ (bits_lt set_bit (8 * (0 + (64 * l + j))) 8)
      (λ b k. bits_bit set_bit (8 * (0 + (64 * l + j))) 8 b k ∙ bit_at_lem j b h k)

  descriptor_is : descriptor l (announce l after) ≡ bytes_from (handed_at v) 0 32
  unfolding descriptor
  descriptor_is =
      ext_get_or 0 (descriptor l (announce l after)) (bytes_from (handed_at v) 0 32) (size ∙ sym (bytes_from_length _ 0 32))
      (λ j h. byte j (omega (arith, size)))
    where
      size : length (descriptor l (announce l after)) ≡ 32
      size = simp (length-take, length-drop, announce_length) (omega arith)

      byte : (j : ℕ) → j < 32 → get_or (descriptor l (announce l after)) j 0 ≡ get_or (bytes_from (handed_at v) 0 32) j 0
      byte j h =
          get_or-take 32 (drop (64 * l) (announce l after)) j 0 h
          ∙ get_or-drop (64 * l) (announce l after) j 0
          ∙ announce_at j h
          ∙ sym (bytes_from_at (handed_at v) 0 32 j h)

-- ---- what the notice rule reads in it
module _ (v : Vcpu) (sound : Levelled v.irr v.irr_level) where
  abbrev d : List ℕ
  d = bytes_from (handed_at v) 0 32

  abbrev irr : ℕ → Bool
  irr x = has v.irr x

  abbrev level : ℕ → Bool
  level x = has v.irr_level x

  -- the edge part of P
  abbrev edges : List ℕ
  edges = collect (λ x. is_vector x && irr x && not (level x))

  bit : (k : ℕ) → k < 256 → bit_of d k ≡ handed_at v k
  bit k h = bytes_from_bit (handed_at v) 32 k h

  bit_nmi : bit_of d nmi_bit ≡ v.nmi
  unfolding handed_at handed_bit
  bit_nmi = bit 8 (omega arith) ∙ simp or-false

  bit_machine_check : bit_of d machine_check_bit ≡ v.machine_check
  unfolding handed_at handed_bit
  bit_machine_check = bit 9 (omega arith) ∙ simp or-false

  bit_level : bit_of d level_bit ≡ not (is_empty v.irr_level)
  unfolding handed_at handed_bit
  bit_level = bit 10 (omega arith) ∙ simp or-false

  bit_many : bit_of d many_bit ≡ not (is_empty edges)
  unfolding handed_at handed_bit
  bit_many = bit 14 (omega arith) ∙ simp or-false

  bit_vector : (x : ℕ) → 31 ≤ x → x < 256 → bit_of d x ≡ (irr x && not (level x))
  unfolding handed_at handed_bit
  bit_vector x g h =
      bit x h
      ∙ rw (
        lt-leb x 7 (omega arith),
        eqb_above x 8 (omega arith),
        eqb_above x 9 (omega arith),
        eqb_above x 10 (omega arith),
        eqb_above x 14 (omega arith),
        le-leb 31 x g,
        le-leb x 255 (omega arith),
      )

  bit_field : (b : ℕ) → b < 8 → handed_at v b ≡ bit_at (unwrap_or (highest v.irr_level) 0) b
  unfolding handed_at handed_bit
  bit_field b h =
      rw (
        le-leb b 7 (omega arith),
        eqb_below b 8 (omega arith),
        eqb_below b 9 (omega arith),
        eqb_below b 10 (omega arith),
        eqb_below b 14 (omega arith),
        lt-leb 31 b (omega arith),
      )
      (simp or-false)

  -- bits 7:0
  reads_field : vector_field d ≡ unwrap_or (highest v.irr_level) 0
  reads_field =
      bytes_from_at (handed_at v) 0 32 0 (omega arith)
      ∙ sym
      (bits_unique (handed_at v) 0 8 (unwrap_or (highest v.irr_level) 0) (small (highest v.irr_level) refl)
      (λ b h. let e : 0 + b ≡ b = omega arith in rw e (sym (bit_field b h))))
    where
      small : (o : Option ℕ) → highest v.irr_level ≡ o → unwrap_or o 0 < 2 ^ 8
      small None e = omega arith
      small (Some x) e = (highest_has v.irr_level x e).1

  -- the highest of PL is not below 31
  level_vector : (x : ℕ) → highest v.irr_level ≡ Some x → 31 ≤ x
  level_vector x e =
      let a = highest_has v.irr_level x e in
      levelled_low v.irr v.irr_level sound x (sound.within x a.1 a.0)

  -- an item with a mark
  reads_mark : (k x : ℕ) {b : Bool} → x < 256 → bit_of d k ≡ b → admits_mark k x full d ≡ b
  unfolding admits_mark
  reads_mark k x {b} h e = rw (e, has_full x h) (and-true b)

  reads_level : admits_level full d ≡ highest v.irr_level
  unfolding admits_level is_empty
  reads_level = rw (bit_level, reads_field) (pick (highest v.irr_level) refl)
    where
      pick : (o : Option ℕ) → highest v.irr_level ≡ o
          → cond (not (is_none o) && is_vector (unwrap_or o 0) && has full (unwrap_or o 0)) (Some (unwrap_or o 0)) None ≡ o
      pick None e = refl
      pick (Some x) e =
          let h : x < 256 = (highest_has v.irr_level x e).1 in
          rw (le-leb 31 x (level_vector x e), le-leb x 255 (omega arith), has_full x h)

  -- bit 14 is clear where no such bit is set
  none_marked_lem : (x : ℕ) → 31 ≤ x → x < 256 → is_empty edges ≡ true → (irr x && not (level x)) ≡ false
  none_marked_lem x g h e =
      rw (le-leb 31 x g, le-leb x 255 (omega arith)) at (sym (has_collect (λ x. is_vector x && irr x && not (level x)) x h) ∙ is_empty_has edges e x h)

  -- the highest of PL is not marked
  level_unmarked : (x : ℕ) (o : Option ℕ) → highest v.irr_level ≡ o → (irr x && not (level x) && not (is_level o x)) ≡ (irr x && not (level x))
  level_unmarked x None e = and-true (irr x && not (level x))
  level_unmarked x (Some y) e = pick (eqb x y) refl
    where
      pick : (b : Bool) → eqb x y ≡ b → (irr x && not (level x) && not b) ≡ (irr x && not (level x))
      pick false q = and-true (irr x && not (level x))
      pick true q =
          let m : level x ≡ true = rw (eqb-true x y q) (highest_has v.irr_level y e).0 in
          rw (m, and-false (irr x))

  -- with bits 10 and 14 clear, bits 7:0 are 0
  level_none : (x : ℕ) → 31 ≤ x → (o : Option ℕ) → (not (not (is_none o)) && eqb x (unwrap_or o 0)) ≡ false
  level_none x g None = eqb_above x 0 (omega arith)
  level_none x g (Some y) = refl

  high_edge : (x : ℕ) → 31 ≤ x → x < 256
      → cond (not (is_empty edges)) (irr x && not (level x) && not (is_level (highest v.irr_level) x))
      (not (not (is_none (highest v.irr_level))) && eqb x (unwrap_or (highest v.irr_level) 0))
      ≡ (irr x && not (level x))
  high_edge x g h = pick (is_empty edges) refl
    where
      pick : (b : Bool) → is_empty edges ≡ b
          → cond (not b) (irr x && not (level x) && not (is_level (highest v.irr_level) x))
          (not (not (is_none (highest v.irr_level))) && eqb x (unwrap_or (highest v.irr_level) 0))
          ≡ (irr x && not (level x))
      pick true e = level_none x g (highest v.irr_level) ∙ sym (none_marked_lem x g h e)
      pick false e = level_unmarked x (highest v.irr_level) refl

  reads_edge : (x : ℕ) → x < 256 → admits_edge full d x ≡ (irr x && not (level x))
  unfolding admits_edge is_empty
  reads_edge x h = rw (bit_many, reads_level, bit_level, reads_field) (pick (leb 31 x) refl)
    where
      pick : (b : Bool) → leb 31 x ≡ b
          → (b && leb x 255 && has full x
          && cond (not (is_empty edges)) (bit_of d x && not (is_level (highest v.irr_level) x))
          (not (not (is_none (highest v.irr_level))) && eqb x (unwrap_or (highest v.irr_level) 0)))
          ≡ (irr x && not (level x))
      pick false e = rw (sound.vectors x (leb-false 31 x e))
      pick true e =
          let g = leb-true 31 x e in
          rw (le-leb x 255 (omega arith), has_full x h, bit_vector x g h) (high_edge x g h)

  reads : admits full d ≡ pending_part v
  unfolding admits pending_part difference
  reads = rw (
    reads_mark nmi_bit 2 (omega arith) bit_nmi,
    reads_mark machine_check_bit 18 (omega arith) bit_machine_check,
    reads_level,
    collect_ext (admits_edge full d) (λ x. irr x && not (level x)) reads_edge,
  )

-- ---- the read-back of the page that a hand-back leaves, from any record whose P and PL keep the rules
pub read_back_lem : (l : ℕ) (v : Vcpu) (p : List ℕ) → Levelled v.irr v.irr_level → 1 ≤ l → l ≤ 3 → 256 ≤ length p
    → admitted l full (announce l (written l (handed v) p)) ≡ pending_part v
unfolding admitted
read_back_lem l v p s low high long =
    rw (announced l (written l (handed v) p) (omega (arith, after_length l v p low high long)) high, descriptor_is l v p low high long)
    (reads v s)
