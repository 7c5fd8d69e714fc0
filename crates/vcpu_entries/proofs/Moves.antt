-- What an entry stores in place makes the record of the definitions.
--     level_stored       the words of a vector in PL and SL: its level mark has moved (8.12)
--     vector_stored      its words in P and S, the summary and what is in flight, and then its level mark: the vector is presented (8.11, 8.14, 2.21)
--     settled_kept, settled_stored     marks and what is in flight, where none of them changes, and where they are stored (8.3, 8.15)
-- Assumes nothing.
use Rattle.std.specs.Prelude.{None, Some}
use mathlib.Core.Path.{◌≡◌, refl, sym, ap, ap₂, ◌∙◌}
use mathlib.Core.Bool.{Bool, true, false, cond, not, ◌&&◌, ◌||◌, or-false, and-false, and-true}
use mathlib.Core.List.{List}
use Prim.Native.Nat.{ℕ, ◌+◌, ◌-◌, ◌/◌, ◌%◌, ◌^◌, ◌<◌}
use native.Mathlib.Omega.{arith}
use lib.Bits.{bit_and, bit_or, and_lt, or_lt}
use lib.Dec.{eqb}
use lib.ListN.{get_or, set}
use lib.Pow.{pow-lt}
use lib.Seq.{get_or-set_same}
use borrow.Author.Tests.{eqb-true}
use Rattle.vector_set.specs.Bits.{bit_at, bits}
use Rattle.vector_set.specs.Sets.{has, insert, remove}
use Rattle.vector_set.specs.Summaries.{holds, remade}
use Rattle.vector_set.proofs.BitLaws.{clash, bit_and_lem, bit_or_lem, bit_pow, bits_ext}
use Rattle.vector_set.proofs.Laws.{Words}
use Rattle.vector_set.proofs.SummaryLaws.{remade_single}
use Rattle.vector_set.proofs.WordLaws.{word_changed, one_shl, insert_word, remove_word}
use Rattle.model.specs.declared.InFlight.{InFlight}
use Rattle.model.specs.declared.InFlight.TheVariants as flight
use Rattle.model.specs.declared.Item.TheVariants as item
use Rattle.model.specs.declared.Presentation.{Presentation}
use Rattle.model.specs.declared.Presentation.TheVariants.{Nothing, Nmi, MachineCheck, Vector, Window}
use Rattle.model.specs.declared.Vcpu.{Vcpu}
use Rattle.model.specs.State.{is_in_flight, with_nmi, with_machine_check, with_irr, with_isr, with_irr_level, with_isr_level, with_flight, with_summary}
use Rattle.model.specs.Codes.{presents}
use Rattle.model.specs.Items.{unmark}
use Rattle.model.specs.Requests.{forget}
use Rattle.model.specs.Events.{gains, present, entered}
use Rattle.vcpu_stages.specs.Stages.{marks_of, marks_change, marks_after, settled, bit_of, others_of, words_after, level_words_after}
use Rattle.vcpu_stages.specs.declared.words.Marks.{Marks}
use Rattle.vcpu_stages.specs.declared.words.Words.{Words as Stored}
use Rattle.vcpu_stages.specs.declared.words.LevelWords.{LevelWords}

-- ---- the word of x in a set: x leaves it, joins it, joins it with its mark
left_word : (s : List ℕ) (x : ℕ) → Words s → x < 256 → set s (x / 32) (bit_and (get_or s (x / 32) 0) (others_of x)) ≡ remove x s
left_word s x ws l =
    ap (λ (n : ℕ). set s (x / 32) (bit_and (get_or s (x / 32) 0) ((2 ^ 32 - 1) - n))) (sym (one_shl (x % 32) (omega arith))) ∙ remove_word s x ws l

joined_word : (s : List ℕ) (x : ℕ) → Words s → x < 256 → set s (x / 32) (bit_or (get_or s (x / 32) 0) (bit_of x)) ≡ insert x s
joined_word s x ws l =
    ap (λ (n : ℕ). set s (x / 32) (bit_or (get_or s (x / 32) 0) n)) (sym (one_shl (x % 32) (omega arith))) ∙ insert_word s x ws l

-- of the bits of a word one is asked for
one_bit : (p : List ℕ) (x b : ℕ) (t : Bool) → eqb b (x % 32) ≡ t → (bit_at (get_or p (x / 32) 0) b && t) ≡ (t && has p x)
unfolding has
one_bit p x b true e = and-true (bit_at (get_or p (x / 32) 0) b) ∙ ap (bit_at (get_or p (x / 32) 0)) (eqb-true b (x % 32) e)
one_bit p x b false e = and-false (bit_at (get_or p (x / 32) 0) b)

gained_word : (p s : List ℕ) (x : ℕ) → Words p → Words s → x < 256
    → set s (x / 32) (bit_or (get_or s (x / 32) 0) (bit_and (get_or p (x / 32) 0) (bit_of x))) ≡ gains x p s
gained_word p s x wp ws l =
    let m : x % 32 < 32 = omega arith in
    let in_set : x / 32 < 8 = omega arith in
    let y : ℕ = get_or p (x / 32) 0 in
    let z : ℕ = get_or s (x / 32) 0 in
    word_changed (λ a q. q || (a && has p x)) (λ q. or-false q) s x (bit_or z (bit_and y (bit_of x))) ws l
    (or_lt 32 z (bit_and y (bit_of x)) (ws.small (x / 32) in_set) (and_lt 32 y (bit_of x) (wp.small (x / 32) in_set) (pow-lt m)))
    (λ b r. bit_or_lem z (bit_and y (bit_of x)) b ∙ ap (λ (t : Bool). bit_at z b || t)
    (bit_and_lem y (bit_of x) b ∙ ap (λ (t : Bool). bit_at y b && t) (bit_pow (x % 32) b) ∙ one_bit p x b (eqb b (x % 32)) refl))

-- the summary, once x has left
left_summary : (s : List ℕ) (x b : ℕ) → Words s → x < 256
    → bits (λ j. cond (eqb j (x / 32)) (not (eqb (bit_and (get_or s (x / 32) 0) (others_of x)) 0)) (bit_at b j)) 0 8 ≡ remade (λ y. eqb y x) (remove x s) b
left_summary s x b ws l =
    bits_ext _ _ 0 8 (λ k m. pick (0 + k) (eqb (0 + k) (x / 32)) refl)
    ∙ ap (λ (t : List ℕ). bits (λ j. cond (eqb j (x / 32)) (holds t j) (bit_at b j)) 0 8) (left_word s x ws l) ∙ sym (remade_single x (remove x s) b l)
  where
    w : ℕ
    w = bit_and (get_or s (x / 32) 0) (others_of x)

    pick : (j : ℕ) (c : Bool) → eqb j (x / 32) ≡ c → cond c (not (eqb w 0)) (bit_at b j) ≡ cond c (holds (set s (x / 32) w) j) (bit_at b j)
    pick j true e =
        sym (ap (holds (set s (x / 32) w)) (eqb-true j (x / 32) e) ∙ ap (λ (y : ℕ). not (eqb y 0)) (get_or-set_same s (x / 32) w 0 (omega (arith, ws.eight))))
    pick j false e = refl

-- ---- the record
abbrev levelled : Vcpu → List ℕ → List ℕ → Vcpu
levelled v pl sl = with_isr_level sl (with_irr_level pl v)

pub level_stored : (x w : ℕ) (v : Vcpu) (r : LevelWords) → x < 256 → w ≡ x / 32 → Words v.irr_level → Words v.isr_level
    → r ≡ level_words_after x (get_or v.irr_level w 0) (get_or v.isr_level w 0)
    → levelled v (set v.irr_level w r.irr_level) (set v.isr_level w r.isr_level)
    ≡ levelled v (remove x v.irr_level) (gains x v.irr_level v.isr_level)
unfolding level_words_after
level_stored x w v r l e wp ws r-is =
    rw (r-is, e) (ap₂ (levelled v) (left_word v.irr_level x wp l) (gained_word v.irr_level v.isr_level x wp ws l))

abbrev taken : ℕ → Vcpu → List ℕ → List ℕ → ℕ → Vcpu
taken x v p s b = with_flight (flight.Vector x) (with_summary b (with_isr s (with_irr p v)))

same_taken : (x : ℕ) (v : Vcpu) (pl sl : List ℕ) {p q s t : List ℕ} {b c : ℕ} → p ≡ q → s ≡ t → b ≡ c
    → levelled (taken x v p s b) pl sl ≡ levelled (taken x v q t c) pl sl
same_taken x v pl sl d e f = rw (d, e, f)

pub vector_stored : (x w : ℕ) (v : Vcpu) (r : Stored) → x < 256 → w ≡ x / 32 → Words v.irr → Words v.isr
    → r ≡ words_after x (get_or v.irr w 0) (get_or v.isr w 0) v.summary
    → levelled (taken x v (set v.irr w r.irr) (set v.isr w r.isr) r.summary) (remove x v.irr_level)
    (gains x v.irr_level v.isr_level)
    ≡ entered (presents (item.Vector x)) (forget v)
unfolding words_after entered present unmark remove
vector_stored x w v r l e wp ws r-is =
    rw (r-is, e)
    (same_taken x v (remove x v.irr_level) (gains x v.irr_level v.isr_level) (left_word v.irr x wp l) (joined_word v.isr x ws l)
    (left_summary v.irr x v.summary wp l))

-- ---- marks and what is in flight
not_in_flight : (f : InFlight) → is_in_flight f ≡ false → flight.Nothing ≡ f
not_in_flight flight.Nothing e = refl
not_in_flight flight.Nmi e = clash (cc)
not_in_flight flight.MachineCheck e = clash (cc)
not_in_flight (flight.Vector x) e = clash (cc)

forgotten : (v : Vcpu) → is_in_flight v.flight ≡ false → forget v ≡ v
forgotten v e = ap (λ (f : InFlight). with_flight f v) (not_in_flight v.flight e)

settled_same : (p : Presentation) (v : Vcpu) → marks_change p v ≡ false → settled p v ≡ v
settled_same Nothing v e = forgotten v e
settled_same Nmi v e = clash (cc)
settled_same MachineCheck v e = clash (cc)
settled_same (Vector x) v e = forgotten v e
settled_same (Window x) v e = forgotten v e

-- what may be stored of them
none_of : (b : Bool) (r : Marks) → None ≡ cond b (Some r) None → b ≡ false
none_of true r e = clash (cc)
none_of false r e = refl

some_of : (b : Bool) (r s : Marks) → Some s ≡ cond b (Some r) None → s ≡ r
some_of true r s e = cc
some_of false r s e = clash (cc)

pub settled_kept : (p : Presentation) (v : Vcpu) → None ≡ marks_after p v → v ≡ settled p v
unfolding marks_after
settled_kept p v e = sym (settled_same p v (none_of (marks_change p v) (marks_of p v) e))

pub settled_stored : (p : Presentation) (v : Vcpu) (r : Marks) → Some r ≡ marks_after p v
    → with_flight r.flight (with_machine_check r.machine_check (with_nmi r.nmi v)) ≡ settled p v
unfolding marks_after
settled_stored p v r e =
    ap (λ (y : Marks). with_flight y.flight (with_machine_check y.machine_check (with_nmi y.nmi v)))
    (some_of (marks_change p v) (marks_of p v) r e)
