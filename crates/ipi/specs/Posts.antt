-- What items add to a record: bits of one word of the IRR, and the marks of the NMI and of the machine check. Assumes nothing.
use Rattle.std.specs.Prelude.{◌≡◌, Bool, true, false, cond, not, ◌&&◌, ◌||◌, ℕ, ◌+◌, ◌-◌, ◌/◌, ◌%◌, ◌^◌, eqb, get_or, set}
use Rattle.std.specs.Int.Bits.{bit_and, bit_or}
use Rattle.model.specs.declared.Item.{Item}
use Rattle.model.specs.declared.Item.TheVariants.{Nmi, MachineCheck, Vector}
use Rattle.model.specs.declared.Vcpu.{Vcpu}
use Rattle.model.specs.State.{with_irr, with_summary, with_nmi, with_machine_check}
use Rattle.model.specs.Items.{mark}
use Rattle.vector_set.specs.Bits.{one, bits}
use Rattle.ipi.specs.declared.Posting.{Posting}
use Rattle.model.specs.declared.Counts.{Counts}

-- what makes an item pending: the NMI and the machine check by their marks, a vector by its bit (4.42, 7.17)
unfoldable pub posting_of : Item → Posting
posting_of Nmi = record { nmi = true; machine_check = false; word = 0; bits = 0 }
posting_of MachineCheck = record { nmi = false; machine_check = true; word = 0; bits = 0 }
posting_of (Vector v) = record { nmi = false; machine_check = false; word = v / 32; bits = 2 ^ (v % 32) }

-- the summary of what it adds to the IRR: its word's bit, where it has bits (2.21)
unfoldable pub summary_in : Posting → ℕ
summary_in p = bits (λ k. eqb k p.word && not (eqb p.bits 0)) 0 8

-- a record with the posting's bits in its word, which is marked then, and with its marks
abbrev pub word_in : Posting → Vcpu → Vcpu
word_in p v = with_summary (bit_or v.summary (summary_in p)) (with_irr (set v.irr p.word (bit_or (get_or v.irr p.word 0) p.bits)) v)

abbrev pub mark_in : Posting → Vcpu → Vcpu
mark_in p v = with_nmi (v.nmi || p.nmi) v

abbrev pub machine_check_in : Posting → Vcpu → Vcpu
machine_check_in p v = with_machine_check (v.machine_check || p.machine_check) v

-- the record with what a posting adds to it
abbrev pub posted : Posting → Vcpu → Vcpu
posted p v = machine_check_in p (mark_in p (word_in p v))

-- where p is an item's posting, w is the record v with that item pending (4.27, 7.17)
abbrev pub Posted : Posting → Vcpu → Vcpu → Type 0
Posted p v w = (y : Item) → p ≡ posting_of y → w ≡ mark y v

-- ---- a record whose word and marks were x, b and c before
-- one of the posting's bits was clear in the word; one was set
abbrev pub adds_bit : Posting → ℕ → Bool
adds_bit p x = not (eqb (bit_and p.bits (2 ^ 32 - 1 - x)) 0)

abbrev pub meets_bit : Posting → ℕ → Bool
meets_bit p x = not (eqb (bit_and p.bits x) 0)

-- how many items of a posting, which has at most one bit, become pending, and how many were (4.29, 4.37)
unfoldable pub counts_of : Posting → ℕ → Bool → Bool → Counts
counts_of p x b c =
    record {
      new = one (p.nmi && not b) + one (p.machine_check && not c) + one (adds_bit p x);
      merged = one (p.nmi && b) + one (p.machine_check && c) + one (meets_bit p x);
    }

-- whether the one item of a posting, which is no machine check, becomes pending (7.20, 7.27)
unfoldable pub is_new : Posting → ℕ → Bool → Bool
is_new p x b = cond p.nmi (not b) (adds_bit p x)
