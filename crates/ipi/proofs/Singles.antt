-- A posting has one bit at most: whether a word has it, by its mask. Assumes nothing.
use mathlib.Core.Path.{◌≡◌, refl, ap, ◌∙◌}
use mathlib.Core.Bool.{Bool, true, false, not}
use Prim.Native.Nat.{ℕ, ◌-◌, ◌/◌, ◌%◌, ◌^◌, ◌<◌}
use native.Mathlib.Omega.{arith}
use lib.Bits.{bit_and, and_comm, and_zero_l}
use lib.Dec.{eqb}
use lib.ListN.{get_or}
use mir.Val.{bool_byte}
use Rattle.vector_set.specs.Bits.{one, bit_at}
use Rattle.vector_set.specs.Sets.{has}
use Rattle.vector_set.proofs.BitLaws.{bit_not, mask_test}
use Rattle.vector_set.proofs.Laws.{clash, Words}
use Rattle.model.specs.declared.Item.{Item}
use Rattle.model.specs.declared.Item.TheVariants.{Nmi, MachineCheck, Vector}
use Rattle.model.specs.declared.Vcpu.{Vcpu}
use Rattle.model.specs.Items.{is_machine_check, pending}
use Rattle.ipi.specs.Posts.{posting_of, is_new}
use Rattle.ipi.proofs.Marks.{Byte}

-- a test as a number of the code
pub byte_one : (b : Bool) → bool_byte b ≡ one b
byte_one true = refl
byte_one false = refl

-- ---- the bit j
-- a word has the bit
pub single_meets : (j x : ℕ) → not (eqb (bit_and (2 ^ j) x) 0) ≡ bit_at x j
single_meets j x = ap (λ (y : ℕ). not (eqb y 0)) (and_comm (2 ^ j) x) ∙ mask_test j x

-- a word has it not
pub single_adds : (j x : ℕ) → j < 32 → x < 2 ^ 32 → not (eqb (bit_and (2 ^ j) (2 ^ 32 - 1 - x)) 0) ≡ not (bit_at x j)
single_adds j x l h = single_meets j (2 ^ 32 - 1 - x) ∙ bit_not 32 x j h l

-- ---- no bit: nothing is added, nothing was there
pub none_meets : (x : ℕ) → not (eqb (bit_and 0 x) 0) ≡ false
none_meets x = ap (λ (y : ℕ). not (eqb y 0)) (and_zero_l x)

pub none_adds : (x : ℕ) → not (eqb (bit_and 0 (2 ^ 32 - 1 - x)) 0) ≡ false
none_adds x = none_meets (2 ^ 32 - 1 - x)

-- ---- the posting of an item that is sent makes it pending where it was not
pub new_is : (y : Item) (v : Vcpu) → is_machine_check y ≡ false → Byte y → Words v.irr
    → is_new (posting_of y) (get_or v.irr (posting_of y).word 0) v.nmi ≡ not (pending y v)
unfolding is_new posting_of has
new_is Nmi v n b ws = refl
new_is MachineCheck v n b ws = clash (cc)
new_is (Vector x) v n b ws = single_adds (x % 32) (get_or v.irr (x / 32) 0) (omega arith) (ws.small (x / 32) (omega (arith, b)))
