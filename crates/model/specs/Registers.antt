-- The register kinds, the registers' values and the EOI (section 6).
-- Assumes nothing.
use Rattle.std.specs.Prelude.{Bool, cond, ◌&&◌, ◌||◌, ℕ, ◌+◌, ◌*◌, ◌-◌, ◌/◌, ◌%◌, ◌^◌, leb, eqb, List}
use Rattle.std.specs.Prelude.{Option, None, Some, unwrap_or}
use Rattle.model.specs.declared.Kind.{Kind}
use Rattle.model.specs.declared.Kind.TheVariants as kind
use Rattle.model.specs.declared.Vcpu.{Vcpu}
use Rattle.model.specs.State.{with_isr, with_isr_level}
use Rattle.vector_set.specs.Sets.{has, union, remove, highest, word_of}

abbrev pub within : ℕ → ℕ → ℕ → Bool
within a b x = leb a x && leb x b

-- ---- the kinds
-- ID, PPR, LDR, ISR, TMR, IRR (6.3, 6.5, 6.7 to 6.10)
unfoldable pub is_read : ℕ → Bool
is_read r = eqb r 0x802 || eqb r 0x80A || eqb r 0x80D || within 0x810 0x817 r || within 0x818 0x81F r || within 0x820 0x827 r

-- EOI, self-IPI (6.6, 6.12)
unfoldable pub is_write : ℕ → Bool
is_write r = eqb r 0x80B || eqb r 0x83F

-- TPR, ICR (6.4, 6.11)
unfoldable pub is_both : ℕ → Bool
is_both r = eqb r 0x808 || eqb r 0x830

-- a register that is not listed has no kind, in the table or outside it (6.1, 6.2, 6.13)
unfoldable pub kind_of : ℕ → Kind
kind_of r = cond (is_read r) kind.Read (cond (is_write r) kind.Write (cond (is_both r) kind.Both kind.None))

-- ---- the values
-- the class of a vector (1.13)
abbrev pub class : ℕ → ℕ
class v = v / 16

-- PPR for the TPR and the highest vector in service (6.17, 6.18)
unfoldable pub ppr_of : ℕ → ℕ → ℕ
ppr_of tpr s = cond (leb (class s) (class tpr)) tpr (16 * class s)

-- PPR of a record (6.17, 6.19)
unfoldable pub ppr : Vcpu → ℕ
ppr v = ppr_of v.tpr (unwrap_or (highest v.isr) 0)

-- LDR of the vCPU i (6.16)
unfoldable pub ldr : ℕ → ℕ
ldr i = i / 16 * 65536 + 2 ^ (i % 16)

-- TMR: PL and SL together (6.9)
unfoldable pub tmr : Vcpu → List ℕ
tmr v = union v.irr_level v.isr_level

-- the value of a register of kind read or both, on the vCPU i (6.3 to 6.5, 6.7 to 6.11, 6.14, 6.20, 7.25)
unfoldable pub register_value : ℕ → Vcpu → ℕ → ℕ
register_value i v r =
    cond (eqb r 0x802) i
    (cond (eqb r 0x808) v.tpr
    (cond (eqb r 0x80A) (ppr v)
    (cond (eqb r 0x80D) (ldr i)
    (cond (eqb r 0x830) v.icr
    (cond (within 0x810 0x817 r) (word_of v.isr (r - 0x810))
    (cond (within 0x818 0x81F r) (word_of (tmr v) (r - 0x818))
    (cond (within 0x820 0x827 r) (word_of v.irr (r - 0x820)) 0)))))))

-- ---- EOI
-- the record once the highest vector in service, if there is one, is in service no more (6.25, 6.28)
unfoldable pub ended_at : Option ℕ → Vcpu → Vcpu
ended_at None v = v
ended_at (Some x) v = with_isr_level (remove x v.isr_level) (with_isr (remove x v.isr) v)

-- the record after an EOI (6.25)
unfoldable pub ended : Vcpu → Vcpu
ended v = ended_at (highest v.isr) v

-- the vector whose EOI the host is owed, or 0 (6.26 to 6.28)
unfoldable pub ended_level_at : Option ℕ → List ℕ → ℕ
ended_level_at None level = 0
ended_level_at (Some x) level = cond (has level x) x 0

-- the number that an EOI gives (6.26, 6.29)
unfoldable pub ended_level : Vcpu → ℕ
ended_level v = ended_level_at (highest v.isr) v.isr_level
