-- A posting makes its item pending. Assumes nothing.
use mathlib.Core.Path.{◌≡◌, refl, sym, ap, ap₂, ◌∙◌}
use mathlib.Core.Bool.{Bool, true, false, cond}
use mathlib.Core.List.{List}
use Prim.Native.Nat.{ℕ, ◌+◌, ◌/◌, ◌%◌, ◌^◌, ◌<◌}
use native.Mathlib.Omega.{arith}
use lib.Bits.{bit_or, or_zero_r, or_add_and, and_le_r}
use lib.Dec.{eqb}
use lib.ListN.{length, get_or, set, length-set}
use lib.Seq.{set-get_or, get_or-set_same, get_or-set_other}
use borrow.Author.Tests.{eqb-true, eqb-false, ne_eqb}
use lib.Pow.{pow-lt, pow_pos}
use mir.Val.{Val}
use denote.Laws.{Is}
use denote.Enum.Laws as EL
use Rattle.vector_set.proofs.Laws.{Words}
use Rattle.vector_set.specs.Sets.{insert}
use Rattle.vector_set.proofs.BitLaws.{bits_unique, bit_zero, bit_pow}
use Rattle.vector_set.proofs.WordLaws.{one_shl, insert_word}
use Rattle.vector_set.proofs.SummaryLaws.{remade_joined, single_summary}
use Rattle.model.specs.declared.Item.{Item}
use Rattle.model.specs.declared.Item.TheVariants.{Nmi, MachineCheck, Vector}
use Rattle.model.specs.declared.Vcpu.{Vcpu}
use Rattle.model.specs.State.{with_irr, with_summary}
use Rattle.model.specs.Items.{mark}
use Rattle.model.specs.Ipi.{icr_type, icr_vector, icr_item}
use Rattle.model.specs.contracts.Item as I
use Rattle.model.proofs.Item.TheLaws as I'
use mathlib.Core.Bool.{or-true, or-false, and-true, and-false}
use Rattle.ipi.specs.declared.Posting.{Posting}
use Rattle.ipi.specs.Posts.{posting_of, summary_in, word_in, mark_in, posted, Posted}

-- an item's vector is a byte
abbrev pub Byte : Item → Type 0
Byte Nmi = Unit {0}
Byte MachineCheck = Unit {0}
Byte (Vector x) = x < 256

pub byte_item : (y : Item) (vs : List Val) → Is I.the_row y vs → Byte y
byte_item Nmi vs is = tt
byte_item MachineCheck vs is = tt
byte_item (Vector x) vs is = (EL.owed I.the_type I'.the_laws (Vector x) vs is).0.1

pub byte_sent : (x : ℕ) → Byte (icr_item x)
unfolding icr_item
byte_sent x = pick (eqb (icr_type x) 4)
  where
    pick : (t : Bool) → Byte (cond t Nmi (Vector (icr_vector x)))
    pick true = tt
    pick false = omega arith

pub word_small : (y : Item) → Byte y → (posting_of y).word < 8
unfolding posting_of
word_small Nmi b = omega arith
word_small MachineCheck b = omega arith
word_small (Vector x) b = omega (arith, b)

-- a posting without bits marks no word, and one of a vector that of the vector
pub summary_none : (p : Posting) → p.bits ≡ 0 → summary_in p ≡ 0
unfolding summary_in
summary_none p e = sym (bits_unique _ 0 8 0 (omega arith) (λ k l. bit_zero k ∙ sym (rw e (and-false (eqb (0 + k) p.word)))))

pub summary_at : (p : Posting) → (p.bits ≡ 0 → ⊥) → p.word < 8 → summary_in p ≡ 2 ^ p.word
unfolding summary_in
summary_at p n l =
    sym (bits_unique _ 0 8 (2 ^ p.word) (pow-lt {i = p.word} {j = 8} l)
    (λ k m. let z : 0 + k ≡ k = omega arith in rw (z, ne_eqb p.bits 0 n, and-true (eqb k p.word)) (bit_pow p.word k)))

pow_some : (k : ℕ) → 2 ^ k ≡ 0 → ⊥
pow_some k e = let h = pow_pos k in omega (arith, e, h)

pub posted_is : (p : Posting) (v : Vcpu) → p.word < 8 → Words v.irr → v.summary < 2 ^ 8 → Posted p v (posted p v)
unfolding posting_of mark insert
posted_is p v l ws small y e = rw e (of y (rw e at l))
  where
    of : (y : Item) → (posting_of y).word < 8 → posted (posting_of y) v ≡ mark y v
    of Nmi l =
        rw (
          summary_none (posting_of Nmi) refl,
          or_zero_r v.summary,
          or_zero_r (get_or v.irr 0 0),
          set-get_or v.irr 0 0,
          or-true v.nmi,
          or-false v.machine_check,
        )
    of MachineCheck l =
        rw (
          summary_none (posting_of MachineCheck) refl,
          or_zero_r v.summary,
          or_zero_r (get_or v.irr 0 0),
          set-get_or v.irr 0 0,
          or-false v.nmi,
          or-true v.machine_check,
        )
    of (Vector x) l =
        let m : x < 256 = omega (arith, l) in
        rw (or-false v.nmi, or-false v.machine_check)
        (ap₂ (λ (b : ℕ) (xs : List ℕ). with_summary b (with_irr xs v))
        (ap (bit_or v.summary) (summary_at (posting_of (Vector x)) (pow_some (x % 32)) l ∙ sym (single_summary x m))
        ∙ sym (remade_joined (λ y. eqb y x) v.irr v.summary small))
        (ap (λ (y : ℕ). set v.irr (x / 32) (bit_or (get_or v.irr (x / 32) 0) y)) (sym (one_shl (x % 32) (omega arith)))
        ∙ insert_word v.irr x ws m))

-- no IPI posts a machine check: the word and the NMI's mark are all that it changes
pub sent_unchecked : (x : ℕ) → (posting_of (icr_item x)).machine_check ≡ false
unfolding icr_item posting_of
sent_unchecked x = pick (eqb (icr_type x) 4)
  where
    pick : (t : Bool) → (posting_of (cond t Nmi (Vector (icr_vector x)))).machine_check ≡ false
    pick true = refl
    pick false = refl

pub posted_sent : (p : Posting) (v : Vcpu) → p.machine_check ≡ false → mark_in p (word_in p v) ≡ posted p v
posted_sent p v e = rw (e, or-false v.machine_check)

-- a record's set is eight words if it is with what a posting adds
pub words_before : (p : Posting) (v : Vcpu) → Words (posted p v).irr → Words v.irr
words_before p v ws =
    record {
      eight = sym (length-set v.irr p.word (bit_or x p.bits)) ∙ ws.eight;
      small = λ i l. pick i l (eqb i p.word) refl;
    }
  where
    x : ℕ
    x = get_or v.irr p.word 0

    pick : (i : ℕ) → i < 8 → (t : Bool) → eqb i p.word ≡ t → get_or v.irr i 0 < 2 ^ 32
    pick i l true e =
        let d : i ≡ p.word = eqb-true i p.word e in
        let n : p.word < length v.irr = omega (arith, l, d, ws.eight, length-set v.irr p.word (bit_or x p.bits)) in
        let h = rw (d, get_or-set_same v.irr p.word (bit_or x p.bits) 0 n) at (ws.small i l) in
        rw d (omega (arith, h, or_add_and x p.bits, and_le_r x p.bits))
    pick i l false e = rw (get_or-set_other v.irr p.word i (bit_or x p.bits) 0 (eqb-false i p.word e)) at (ws.small i l)
