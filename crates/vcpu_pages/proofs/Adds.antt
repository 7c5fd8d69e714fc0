-- What a descriptor asks for, added to a record and counted there, is what the model says of its admitted part. Assumes nothing.
use mathlib.Core.Path.{◌≡◌, refl, sym, ap, ap₂, ◌∙◌}
use mathlib.Core.Bool.{Bool, true, false, cond, not, ◌&&◌, ◌||◌, and-true, and-false, or-false, or_comm}
use mathlib.Core.List.{List}
use Rattle.std.specs.Prelude.{Option, None, Some}
use Prim.Native.Nat.{ℕ, ◌+◌, ◌/◌, ◌%◌, ◌^◌, ◌<◌}
use native.Mathlib.Omega.{arith}
use native.Mathlib.Nat.{add_assoc}
use lib.Bits.{bit_or}
use lib.Dec.{eqb}
use lib.ListN.{get_or, set}
use mir.Syntax.{w32}
use mir.Val.{Val}
use denote.Laws.{Is}
use denote.Plain.{UInt}
use denote.Array.{Array}
use Rattle.vector_set.specs.Bits.{one}
use Rattle.vector_set.specs.Sets.{has, collect, empty, difference, intersection, count}
use Rattle.vector_set.proofs.Laws.{Words, has_collect, has_empty, collect_words, collect_ext, collect_is}
use Rattle.vector_set.proofs.WordLaws.{array_words}
use Rattle.vector_set.proofs.Counts.{count_zero}
use Rattle.model.specs.declared.Item.TheVariants.{Vector}
use Rattle.model.specs.declared.Vcpu.{Vcpu}
use Rattle.model.specs.State.{with_irr_level, with_nmi, with_machine_check}
use Rattle.model.specs.Items.{item_count, mark_all}
use Rattle.model.specs.Doorbell.{bit_of, level_bit, many_bit, is_vector, is_level, in_part, no_part}
use Rattle.model.specs.Doorbell.{nmi_bit, machine_check_bit, admits_mark, admits_level, admits_edge, admits}
use Rattle.model.specs.Events.{noticed, items_new, items_merged}
use Rattle.model.specs.declared.Counts.{Counts}
use Rattle.ipi.specs.declared.Posting.{Posting}
use Rattle.ipi.specs.Posts.{summary_in, counts_of}
use Rattle.descriptor.specs.Requests.{Asked, single_bit, level_of, requested_in}
use Rattle.descriptor.proofs.Admits.{level_is, one_at}
use Rattle.vcpu.specs.Notices.{request_added, marks_added, marks_counted}
use Rattle.vcpu_pages.proofs.Marked.{posting_summary, both_summaries, put_is, none_joined}
use Rattle.vcpu_pages.proofs.Joins.{new_marks, old_marks, wider, wider_is, counts_are, counted, union_is, more_new, more_merged}

-- ---- the vectors of the admitted part, by the answers to the descriptor's tests
module _ (a d : List ℕ) where
  -- the vector of bits 7:0 may be named; it is also level-sensitive
  abbrev named : Bool
  named = is_vector (get_or d 0 0) && has a (get_or d 0 0)

  abbrev levelled : Bool
  levelled = bit_of d level_bit && named

  part_level : (y : ℕ) → is_level (admits_level a d) y ≡ (levelled && eqb y (get_or d 0 0))
  part_level y = ap (λ (o : Option ℕ). is_level o y) (level_is a d refl refl) ∙ go levelled
    where
      go : (b : Bool) → is_level (cond b (Some (get_or d 0 0)) None) y ≡ (b && eqb y (get_or d 0 0))
      go true = refl
      go false = refl

  -- bit 14 clear: that vector alone
  part_one : bit_of d many_bit ≡ false → (y : ℕ) → y < 256 → in_part (Vector y) (admits a d) ≡ (named && eqb y (get_or d 0 0))
  unfolding admits
  part_one m y l =
      ap₂ (λ (p q : Bool). p || q) (has_collect (admits_edge a d) y l ∙ one_at a d (bit_of d level_bit) named m refl refl y) (part_level y)
      ∙ join (bit_of d level_bit) named (eqb y (get_or d 0 0))
    where
      join : (p q r : Bool) → ((not p && q && r) || (p && q && r)) ≡ (q && r)
      join true q r = refl
      join false q r = or-false (q && r)

  -- bit 14 set: the level-sensitive one is no edge vector
  part_apart : bit_of d many_bit ≡ true → (y : ℕ) → y < 256 → (has (collect (admits_edge a d)) y && is_level (admits_level a d) y) ≡ false
  unfolding admits_edge
  part_apart m y l =
      ap (λ (b : Bool). b && is_level (admits_level a d) y) (has_collect (admits_edge a d) y l)
      ∙ rw m (never (is_vector y && has a y) (bit_of d y) (is_level (admits_level a d) y))
    where
      never : (p q r : Bool) → (p && (q && not r) && r) ≡ false
      never p q true = and-true (p && (q && false)) ∙ ap (λ (b : Bool). p && b) (and-false q) ∙ and-false p
      never p q false = and-false (p && (q && true))

  -- ---- the bits that are asked for
  level_bits : level_of a d ≡ cond levelled (2 ^ (get_or d 0 0 % 32)) 0
  unfolding level_of single_bit
  level_bits = go (bit_of d level_bit) named
    where
      go : (p q : Bool) → cond p (cond q (2 ^ (get_or d 0 0 % 32)) 0) 0 ≡ cond (p && q) (2 ^ (get_or d 0 0 % 32)) 0
      go true q = refl
      go false q = refl

  -- the NMI and the machine check
  abbrev nmi : Bool
  nmi = admits_mark nmi_bit 2 a d

  abbrev check : Bool
  check = admits_mark machine_check_bit 18 a d

  -- these, and the vector, if t
  abbrev asked : Bool → Posting
  asked t = record { nmi = nmi; machine_check = check; word = get_or d 0 0 / 32; bits = cond t (2 ^ (get_or d 0 0 % 32)) 0 }

  asks_one : bit_of d many_bit ≡ false → (requested_in a d).posting ≡ asked named
  unfolding requested_in single_bit
  asks_one m = rw m

  asks_many : bit_of d many_bit ≡ true → (requested_in a d).posting ≡ asked levelled
  unfolding requested_in
  asks_many m = rw (m, level_bits)

-- what the model counts of it
abbrev pub items : List ℕ → List ℕ → Vcpu → Counts
items a d v = record { new = items_new (admits a d) v; merged = items_merged (admits a d) v }

-- ---- on a record
-- the fields of the record v that a notice changes, as memory holds them
pub record Fits (v : Vcpu) : Type 0 where
  pub irr_words : Words v.irr
  pub level_words : Words v.irr_level
  pub byte : v.summary < 2 ^ 8

pub fits : (v : Vcpu) (xs ys : List Val) → Is (Array (UInt w32) 8) v.irr xs → Is (Array (UInt w32) 8) v.irr_level ys → v.summary < 2 ^ 8 → Fits v
fits v xs ys a b c = record { irr_words = array_words v.irr xs a; level_words = array_words v.irr_level ys b; byte = c }

module _ (a d : List ℕ) (v : Vcpu) (fit : Fits v) (small : get_or d 0 0 < 256) where
  abbrev x : ℕ
  x = get_or d 0 0

  abbrev edges : List ℕ
  edges = collect (admits_edge a d)

  level_set : set v.irr_level (x / 32) (bit_or (get_or v.irr_level (x / 32) 0) (level_of a d))
      ≡ collect (λ y. has v.irr_level y || is_level (admits_level a d) y)
  level_set =
      ap (λ (b : ℕ). set v.irr_level (x / 32) (bit_or (get_or v.irr_level (x / 32) 0) b)) (level_bits a d)
      ∙ wider_is v.irr_level fit.level_words x small (levelled a d) (λ y. is_level (admits_level a d) y) (λ y l. part_level a d y)
      ∙ collect_ext (λ y. is_level (admits_level a d) y || has v.irr_level y) (λ y. has v.irr_level y || is_level (admits_level a d) y)
      (λ y l. or_comm (is_level (admits_level a d) y) (has v.irr_level y))

  -- u has the vectors, and l is its PL
  abbrev sets : Vcpu → List ℕ → Vcpu
  sets u l = with_irr_level l (with_machine_check (v.machine_check || check a d) (with_nmi (v.nmi || nmi a d) u))

  abbrev marks_new : ℕ
  marks_new = new_marks (nmi a d) (check a d) v.nmi v.machine_check

  abbrev marks_old : ℕ
  marks_old = old_marks (nmi a d) (check a d) v.nmi v.machine_check

  abbrev totals : ℕ → ℕ → Counts
  totals n m = record { new = marks_new + n; merged = marks_old + m }

  -- bit 14 clear
  one_added : bit_of d many_bit ≡ false → request_added (asked a d (named a d)) (level_of a d) v ≡ noticed (admits a d) v
  unfolding noticed mark_all admits
  one_added m =
      ap₂ sets
      (put_is (λ y. in_part (Vector y) (admits a d)) v fit.byte
      (wider_is v.irr fit.irr_words x small (named a d) (λ y. in_part (Vector y) (admits a d)) (λ y l. part_one a d m y l))
      (ap (bit_or v.summary) (posting_summary (nmi a d) (check a d) x small (named a d) (λ y. in_part (Vector y) (admits a d)) (λ y l. part_one a d m y l))))
      level_set

  one_counts : bit_of d many_bit ≡ false → counts_of (asked a d (named a d)) (get_or v.irr (x / 32) 0) v.nmi v.machine_check ≡ items a d v
  unfolding items_new items_merged item_count admits
  one_counts m =
      counts_are v.irr fit.irr_words x small (named a d) (nmi a d) (check a d) v.nmi v.machine_check
      ∙ ap₂ totals
      (sym (counted v.irr fit.irr_words x small (named a d) (λ y. in_part (Vector y) (admits a d)) (λ y l. part_one a d m y l) not))
      (sym (counted v.irr fit.irr_words x small (named a d) (λ y. in_part (Vector y) (admits a d)) (λ y l. part_one a d m y l) (λ b. b)))

  -- bit 14 set
  many_added : bit_of d many_bit ≡ true → marks_added edges (request_added (asked a d (levelled a d)) (level_of a d) v) ≡ noticed (admits a d) v
  unfolding noticed mark_all admits
  many_added m =
      ap₂ sets
      (put_is (λ y. has edges y || is_level (admits_level a d) y) v fit.byte
      (union_is v.irr fit.irr_words x small (levelled a d) (λ y. is_level (admits_level a d) y) (λ y l. part_level a d y) edges (part_apart a d m))
      (both_summaries v.summary (summary_in (asked a d (levelled a d))) fit.byte (λ y. is_level (admits_level a d) y) edges (collect_words (admits_edge a d))
      (posting_summary (nmi a d) (check a d) x small (levelled a d) (λ y. is_level (admits_level a d) y) (λ y l. part_level a d y))))
      level_set

  -- P with the level-sensitive vector
  abbrev with_level : List ℕ
  with_level = wider v.irr fit.irr_words x small (levelled a d)

  many_counts : bit_of d many_bit ≡ true
      → marks_counted (counts_of (asked a d (levelled a d)) (get_or v.irr (x / 32) 0) v.nmi v.machine_check) edges with_level ≡ items a d v
  unfolding marks_counted items_new items_merged item_count admits
  many_counts m =
      ap (λ (c : Counts). marks_counted c edges with_level)
      (counts_are v.irr fit.irr_words x small (levelled a d) (nmi a d) (check a d) v.nmi v.machine_check)
      ∙ ap₂ (λ (p q : ℕ). record { new = p; merged = q })
      (add_assoc marks_new (one (levelled a d && not (has v.irr x))) (count (difference edges with_level)))
      (add_assoc marks_old (one (levelled a d && has v.irr x)) (count (intersection edges with_level)))
      ∙ ap₂ totals
      (more_new v.irr fit.irr_words x small (levelled a d) (λ y. is_level (admits_level a d) y) (λ y l. part_level a d y) edges (part_apart a d m))
      (more_merged v.irr fit.irr_words x small (levelled a d) (λ y. is_level (admits_level a d) y) (λ y l. part_level a d y) edges (part_apart a d m))

-- ---- by the request that was read
-- the record with it, and what is counted of it
abbrev pub added : Vcpu → Asked → Vcpu
added v r = request_added r.posting r.level v

abbrev pub counts : Vcpu → Asked → Counts
counts v r = counts_of r.posting (get_or v.irr r.posting.word 0) v.nmi v.machine_check

pub many_of : (a d : List ℕ) (r : Asked) → r ≡ requested_in a d → (b : Bool) → r.many ≡ b → bit_of d many_bit ≡ b
unfolding requested_in
many_of a d r is b e = sym (ap (λ (s : Asked). s.many) is) ∙ e

module _ (a d : List ℕ) (v : Vcpu) (fit : Fits v) (r : Asked) (is : r ≡ requested_in a d)
    (below : r.posting.word < 8) where
  small : get_or d 0 0 < 256
  unfolding requested_in
  small = let h : get_or d 0 0 / 32 < 8 = rw is at below in omega arith

  level_of_lem : r.level ≡ level_of a d
  unfolding requested_in
  level_of_lem = ap (λ (s : Asked). s.level) is

  pub one_is : r.many ≡ false → (added v r ≡ noticed (admits a d) v) × (counts v r ≡ items a d v)
  one_is e =
      let m = many_of a d r is false e in
      let p : r.posting ≡ asked a d (named a d) = ap (λ (s : Asked). s.posting) is ∙ asks_one a d m in (
        ap₂ (λ (q : Posting) (l : ℕ). request_added q l v) p level_of_lem ∙ one_added a d v fit small m,
        ap (λ (q : Posting). counts_of q (get_or v.irr q.word 0) v.nmi v.machine_check) p ∙ one_counts a d v fit small m,
      )

  pub many_is : r.many ≡ true → (e : List ℕ) → e ≡ collect (admits_edge a d)
      → (marks_added e (added v r) ≡ noticed (admits a d) v) × (marks_counted (counts v r) e (added v r).irr ≡ items a d v)
  many_is t e f =
      let m = many_of a d r is true t in
      let p : r.posting ≡ asked a d (levelled a d) = ap (λ (s : Asked). s.posting) is ∙ asks_many a d m in
      rw f (
        ap₂ (λ (q : Posting) (l : ℕ). marks_added (collect (admits_edge a d)) (request_added q l v)) p level_of_lem ∙ many_added a d v fit small m,
        ap (λ (q : Posting). marks_counted (counts_of q (get_or v.irr q.word 0) v.nmi v.machine_check) (collect (admits_edge a d))
            (request_added q r.level v).irr) p
            ∙ many_counts a d v fit small m,
      )

-- ---- nothing is asked for
module _ (v : Vcpu) (fit : Fits v) where
  none_at : (y : ℕ) → y < 256 → (has empty y || false) ≡ false
  none_at y l = ap (λ (b : Bool). b || false) (has_empty y l)

  none_added : noticed no_part v ≡ v
  unfolding noticed mark_all no_part
  none_added =
      ap₂ (λ (u : Vcpu) (l : List ℕ). with_irr_level l (with_machine_check (v.machine_check || false) (with_nmi (v.nmi || false) u)))
      (sym (put_is (λ y. has empty y || false) v fit.byte
      (collect_is (λ y. has empty y || false || has v.irr y) v.irr fit.irr_words (λ y l. ap (λ (b : Bool). b || has v.irr y) (sym (none_at y l))))
      (none_joined (λ y. has empty y || false) none_at v.summary)))
      (sym (collect_is (λ y. has v.irr_level y || false) v.irr_level fit.level_words (λ y l. sym (or-false (has v.irr_level y)))))
      ∙ ap₂ (λ (b c : Bool). with_machine_check c (with_nmi b v)) (or-false v.nmi) (or-false v.machine_check)

  none_counted : (f : Bool → Bool) → count (collect (λ y. (has empty y || false) && f (has v.irr y))) ≡ 0
  none_counted f =
      count_zero (collect (λ y. (has empty y || false) && f (has v.irr y)))
      (λ y l. has_collect (λ y. (has empty y || false) && f (has v.irr y)) y l
      ∙ ap (λ (b : Bool). b && f (has v.irr y)) (none_at y l))

  pub none_is : (v ≡ noticed no_part v) × (0 ≡ items_new no_part v) × (0 ≡ items_merged no_part v)
  unfolding items_new items_merged item_count no_part
  none_is = (sym none_added, omega (arith, none_counted not), omega (arith, none_counted (λ b. b)))
