-- Worked cases of the machine check (14.59 to 14.69, 14.71), for what no claim says otherwise. L = 1, n = 2 and vCPU 0 unless said.
-- Assumes nothing.
use Rattle.std.specs.Prelude.{Ok, ◌≡◌, Bool, true, false, not, ◌&&◌, List, [], ◌∷◌, ℕ, set}
use Rattle.model.specs.declared.Phase.TheVariants.{Leaving}
use Rattle.model.specs.declared.InFlight.{InFlight}
use Rattle.model.specs.declared.InFlight.TheVariants as flight
use Rattle.model.specs.declared.Presentation.TheVariants as presentation
use Rattle.model.specs.declared.Item.{Item}
use Rattle.model.specs.declared.Item.TheVariants as item
use Rattle.model.specs.declared.Vcpu.{Vcpu}
use Rattle.model.specs.declared.Module.{Module}
use Rattle.vector_set.specs.Sets.{empty, full, remove}
use Rattle.model.specs.State.{vcpu_at, with_isr, with_nmi, with_machine_check, with_tpr, with_phase}
use Rattle.model.specs.Codes.{presented_result}
use Rattle.model.specs.Items.{InRange, pending}
use Rattle.model.specs.Events.{notice, call, non_delivery, hand_back, at, Event, next}
use Rattle.model.specs.Cases.{same_numbers, gives, counts, is_refused, fresh2, having, record0, singleton, with_pending}
use Rattle.model.specs.Cases.{zeros, announcing, on_page, result_on, every}
use Rattle.model.specs.Worked.{page_after, eoi, icr, reads, is_shown, answers_by, enters, told, irr_of}

-- the item is pending at vCPU 0
abbrev marked : Item → Module → Bool
marked y m = pending y (vcpu_at m 0)

-- bit 9, alone and with the NMI and 0x41
abbrev check_page : List ℕ
check_page = set announcing 65 0x02

abbrev three_page : List ℕ
three_page = set (set announcing 64 0x41) 65 0x03

-- the same with bit 14: 0x50 in bits 7:0, and the mark of 0x41
abbrev marked_page : List ℕ
marked_page = set (set (set announcing 64 0x50) 65 0x43) 72 0x02

-- equal answers
abbrev same : Bool → Bool → Bool
same true b = b
same false b = not b

-- whether the NMI and the machine check are pending, and which vectors are
abbrev pends : Bool → Bool → List ℕ → Module → Bool
pends n c s m = same n (marked item.Nmi m) && same c (marked item.MachineCheck m) && same_numbers (irr_of m 0) s

-- a record with its machine check pending
abbrev checked : Vcpu
checked = with_machine_check true record0

-- the module after a notice of it with the allowed set a
abbrev after_notice : List ℕ → Module
after_notice a = (on_page a check_page).after

-- both marks, the highest vector in service, and the highest TPR
abbrev busy : Module
busy = having (with_tpr 0xFF (with_isr (singleton 0xFF) (with_nmi true checked)))

-- an entry under everything that holds an item back, and one under nothing
abbrev held : Event
held = enters false true true

abbrev free : Event
free = enters true false false

abbrev shows : Item → Module → Event → Bool
shows y m e = answers_by (is_shown y) (result_on m e)

-- the machine check is in flight
abbrev is_check : InFlight → Bool
is_check flight.Nothing = false
is_check flight.Nmi = false
is_check flight.MachineCheck = true
is_check (flight.Vector v) = false

-- leaving with a machine check
abbrev goes : Module
goes = having (with_phase Leaving checked)

abbrev back : Event
back = at 0 (hand_back zeros true false)

abbrev allows : ℕ → Bool
allows c = gives 0 (result_on fresh2 (at 0 (call 4 c 0)))

abbrev refuses_call : ℕ → ℕ → ℕ → Bool
refuses_call op c x = is_refused 0x80000005 (result_on fresh2 (at 0 (call op c x)))

-- 18 is taken out of the set while its mark is set
abbrev taken_out : Module
taken_out = next (after_notice (singleton 18)) (at 0 (call 4 0x12 0))

-- 0x41 in service, and the machine check in flight
abbrev flying : Vcpu
flying = vcpu_at (next (having (with_isr (singleton 0x41) checked)) held) 0

unfoldable pub checks : List Bool
checks =
    -- 14.59: admitted, and admitted again; the page
    counts 1 0 (on_page (singleton 18) check_page).result
    ∷ marked item.MachineCheck (after_notice (singleton 18))
    ∷ not (marked item.Nmi (after_notice (singleton 18)))
    ∷ same_numbers (irr_of (after_notice (singleton 18)) 0) empty
    ∷ same_numbers (on_page (singleton 18) check_page).page zeros
    ∷ counts 0 1 (result_on (after_notice (singleton 18)) (at 0 (notice check_page)))
    -- 14.60: everything else allowed; and nothing announced
    ∷ counts 0 0 (on_page (remove 18 full) check_page).result
    ∷ not (marked item.MachineCheck (after_notice (remove 18 full)))
    ∷ same_numbers (on_page (remove 18 full) check_page).page zeros
    ∷ counts 0 0 (on_page full (set check_page 3 0)).result
    ∷ not (marked item.MachineCheck (on_page full (set check_page 3 0)).after)
    ∷ same_numbers (on_page full (set check_page 3 0)).page (set check_page 3 0)
    -- 14.61: three items, none and one of them pending; one of them allowed
    ∷ counts 3 0 (told record0 three_page).result
    ∷ pends true true (singleton 0x41) (told record0 three_page).after
    ∷ counts 2 1 (told checked three_page).result
    ∷ counts 1 0 (on_page (singleton 2) three_page).result
    ∷ pends true false empty (on_page (singleton 2) three_page).after
    ∷ counts 1 0 (on_page (singleton 18) three_page).result
    ∷ pends false true empty (on_page (singleton 18) three_page).after
    ∷ counts 1 0 (on_page (singleton 0x41) three_page).result
    ∷ pends false false (singleton 0x41) (on_page (singleton 0x41) three_page).after
    -- 14.62: 18 in bits 7:0, 18 with bit 10, and bit 18 under bit 14, which stays in the page
    ∷ counts 0 0 (told record0 (set announcing 64 18)).result
    ∷ not (marked item.MachineCheck (told record0 (set announcing 64 18)).after)
    ∷ counts 0 0 (told record0 (set (set announcing 64 18) 65 0x04)).result
    ∷ not (marked item.MachineCheck (told record0 (set (set announcing 64 18) 65 0x04)).after)
    ∷ counts 0 0 (told record0 (set (set announcing 65 0x40) 66 0x04)).result
    ∷ not (marked item.MachineCheck (told record0 (set (set announcing 65 0x40) 66 0x04)).after)
    ∷ same_numbers (told record0 (set (set announcing 65 0x40) 66 0x04)).page (set zeros 66 0x04)
    -- 14.63: presented before the NMI and held by nothing, and in flight; the NMI keeps its mark and comes next
    ∷ shows item.MachineCheck busy held
    ∷ is_check (vcpu_at (next busy held) 0).flight
    ∷ (marked item.Nmi (next busy held) && not (marked item.MachineCheck (next busy held)))
    ∷ shows item.Nmi (next busy held) free
    ∷ shows item.MachineCheck busy free
    ∷ shows item.MachineCheck (having (with_pending (singleton 0x41) checked)) (enters false false false)
    ∷ shows item.MachineCheck (having (with_pending (singleton 0x1F) checked)) free
    ∷ shows (item.Vector 0x1F) (next (having (with_pending (singleton 0x1F) checked)) free) free
    -- 14.64: returned and presented again; forgotten by a call
    ∷ gives 0 (result_on (next busy held) (at 0 non_delivery))
    ∷ shows item.MachineCheck (next (next busy held) (at 0 non_delivery)) held
    ∷ is_refused 4 (result_on (next (next busy held) (at 0 (call 0 0 0))) (at 0 non_delivery))
    -- 14.65: handed back, alone and with the NMI and 0x41
    ∷ gives 65537 (result_on goes back)
    ∷ same_numbers (page_after goes back) (set zeros 65 0x02)
    ∷ not (marked item.MachineCheck (next goes back))
    ∷ same_numbers (page_after (having (with_phase Leaving (with_nmi true (with_pending (singleton 0x41) checked)))) back) (set (set zeros 65 0x43) 72 0x02)
    -- 14.66: call 4
    ∷ allows 0x112
    ∷ allows 0x12
    ∷ refuses_call 4 0x111 0
    ∷ refuses_call 4 0x113 0
    ∷ refuses_call 4 0x11 0
    ∷ refuses_call 4 0x13 0
    ∷ refuses_call 4 0x312 0
    -- 14.67: 18 taken out of the set leaves the mark
    ∷ same_numbers (vcpu_at taken_out 0).allowed empty
    ∷ shows item.MachineCheck taken_out held
    -- 14.68: no IPI sends it
    ∷ refuses_call 3 0x830 0x4012
    ∷ refuses_call 3 0x830 0x44012
    ∷ refuses_call 3 0x83F 18
    ∷ not (pending item.MachineCheck (vcpu_at (next fresh2 (icr 0xC4400)) 1))
    -- 14.69: in flight it is in no register, and an EOI ends what is in service
    ∷ reads 0x40 0x80A flying
    ∷ reads 2 0x812 flying
    ∷ reads 0 0x810 flying
    ∷ reads 0 0x818 flying
    ∷ reads 0 0x820 flying
    ∷ gives 0 (result_on (having flying) eoi)
    ∷ same_numbers (vcpu_at (next (having flying) eoi) 0).isr empty
    -- 14.71: bit 14 with 0x50 in bits 7:0, which is cleared and not admitted
    ∷ counts 3 0 (told record0 marked_page).result
    ∷ pends true true (singleton 0x41) (told record0 marked_page).after
    ∷ same_numbers (told record0 marked_page).page zeros
    -- what the functions' answers present
    ∷ answers_by (is_shown item.Nmi) (presented_result (Ok presentation.Nmi))
    ∷ answers_by (is_shown item.MachineCheck) (presented_result (Ok presentation.MachineCheck))
    ∷ []

-- ---- all of them
pub record WorkedChecks : Type 0 where
  pub checks : every checks ≡ true
  -- a claim over the items in range is one over these
  pub nmi : InRange item.Nmi
  pub machine_check : InRange item.MachineCheck
