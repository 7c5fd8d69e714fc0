-- Further worked cases (14.21 to 14.40, 14.42, 14.43, 14.46 to 14.58), for what no claim says otherwise; those of the machine check stand in WorkedChecks.
-- Assumes nothing.
use Rattle.std.specs.Prelude.{◌≡◌, Bool, true, false, not, ◌&&◌, List, [], ◌∷◌, ℕ, zero, suc, ◌+◌, eqb, replicate, set}
use Rattle.model.specs.declared.Phase.TheVariants.{Leaving}
use Rattle.model.specs.declared.Item.{Item}
use Rattle.model.specs.declared.Item.TheVariants as item
use Rattle.model.specs.declared.Vcpu.{Vcpu}
use Rattle.model.specs.declared.Module.{Module}
use Rattle.vector_set.specs.Sets.{empty, full, insert}
use Rattle.model.specs.Items.{same_item}
use Rattle.model.specs.State.{has_left, vcpu_at, start, with_vcpu, with_allowed, with_isr, with_irr_level, with_isr_level, with_nmi, with_machine_check}
use Rattle.model.specs.State.{with_tpr, with_phase}
use Rattle.model.specs.Codes.{Answer, nothing, presents, window, Result, done, counted, answers, coded, refused}
use Rattle.model.specs.Registers.{kind_of}
use Rattle.model.specs.Causes.{is_kind_none, is_kind_read, is_kind_write}
use Rattle.model.specs.declared.Kind.{Kind}
use Rattle.vector_set.specs.Bits.{one}
use Rattle.model.specs.Events.{notice, call, entry, non_delivery, hand_back, at, Event, Out, step, next}
use Rattle.model.specs.Cases.{same_numbers, gives, counts, is_refused, is_nothing, fresh2, having, record0, singleton, with_pending}
use Rattle.model.specs.Cases.{zeros, announcing, byte64, on_page, result_on, level61, pending41, every, Starred}

-- ---- what the cases use
-- n bytes b from byte i on
abbrev pub filled : ℕ → ℕ → ℕ → List ℕ → List ℕ
filled i b zero p = p
filled i b (suc n) p = set (filled i b n p) (i + n) b

abbrev pub ones : List ℕ
ones = replicate 256 0xFF

abbrev pub page_after : Module → Event → List ℕ
page_after m e = (step m e).page

-- the record of case 14.24, leaving
abbrev mixed : Vcpu
mixed =
    with_phase Leaving
    (with_tpr 0x20
    (with_nmi true
    (with_isr_level (singleton 0x33)
    (with_isr (insert 0x33 (singleton 0x52)) (with_irr_level (singleton 0x61) (with_pending (insert 0x61 (singleton 0x41)) record0))))))

abbrev nested : Module
nested = having (with_isr_level (singleton 0x41) (with_isr (insert 0x61 (singleton 0x41)) record0))

abbrev pub eoi : Event
eoi = at 0 (call 3 0x80B 0)

-- an ICR write by vCPU 0, of 2 and of 18
abbrev pub icr : ℕ → Event
icr x = at 0 (call 3 0x830 x)

abbrev refuses : ℕ → Bool
refuses x = is_refused 0x80000005 (result_on fresh2 (icr x))

abbrev reaches_of18 : ℕ → ℕ → Bool
reaches_of18 mask x = gives mask (result_on (start 18 1) (icr x))

abbrev pub reads : ℕ → ℕ → Vcpu → Bool
reads x r v = gives x (result_on (having v) (at 0 (call 2 r 0)))

-- how many of the n registers from r on have a kind of which t holds
abbrev kinds : (Kind → Bool) → ℕ → ℕ → ℕ
kinds t r zero = 0
kinds t r (suc n) = one (t (kind_of (r + n))) + kinds t r n

abbrev pub is_shown : Item → Answer → Bool
is_shown x nothing = false
is_shown x (presents y) = same_item x y
is_shown x (window w) = false

abbrev pub is_window : ℕ → Answer → Bool
is_window v nothing = false
is_window v (presents y) = false
is_window v (window w) = eqb v w

-- the answer of an entry
abbrev pub answers_by : (Answer → Bool) → Result → Bool
answers_by t (done x) = false
answers_by t (counted a b) = false
answers_by t (answers a) = t a
answers_by t (coded z ks) = false
answers_by t (refused c) = false

abbrev pub enters : Bool → Bool → Bool → Event
enters iF sh bl = at 0 (entry iF sh bl)

abbrev nmi41 : Module
nmi41 = having (with_nmi true (with_pending (singleton 0x41) record0))

-- vCPU 0 sends the item y by x to vCPU 1: it is reached and given the item, and the ICR reads as it was written
abbrev arrives : Item → ℕ → Bool
arrives y x =
    gives 2 (result_on fresh2 (icr x))
    && answers_by (is_shown y) (result_on (next fresh2 (icr x)) (at 1 (entry true false false)))
    && gives x (result_on (next fresh2 (icr x)) (at 0 (call 2 0x830 0)))

-- vCPU 0 sends itself 0x41 with bit 15 set
abbrev self41 : Module
self41 = next fresh2 (icr 0x48041)

-- vCPU 1 sends itself 0xFF by the shorthand, with a destination of all ones in logical mode
abbrev self_ff : Event
self_ff = at 1 (call 3 0x830 0xFFFFFFFF000448FF)

-- the module of case 14.8 after an entry and a non-delivery
abbrev given61 : Module
given61 = next (next level61 (enters true false false)) (at 0 non_delivery)

-- the module of case 14.10 after the entry that presents
abbrev shown41 : Module
shown41 = next (pending41 0x3F) (enters true false false)

-- a notice of the NMI, allowed, and an NMI from vCPU 0 to the others
abbrev nmi_notice : Out
nmi_notice = on_page (singleton 2) (set announcing 65 0x01)

abbrev nmi_sent : Module
nmi_sent = next fresh2 (icr 0xC4400)

abbrev handed_record : Vcpu
handed_record = vcpu_at (next (having mixed) (at 0 (hand_back ones false true))) 0

-- ---- new and merged
-- vCPU 0, with everything allowed, after a notice
abbrev pub told : Vcpu → List ℕ → Out
told v p = step (having (with_allowed full v)) (at 0 (notice p))

-- the page of case 14.51: bit 14, the NMI, the marks of 0x41 and 0x52
abbrev many : List ℕ
many = set (set (set announcing 65 0x41) 72 0x02) 74 0x04

-- the page of case 14.52: 0x61, level-sensitive, and with bit 14 its mark
abbrev marked61 : List ℕ
marked61 = set (set (set announcing 64 0x61) 65 0x44) 76 0x02

abbrev edge61 : List ℕ
edge61 = set announcing 64 0x61

abbrev level61_page : List ℕ
level61_page = set (set announcing 64 0x61) 65 0x04

abbrev pending61 : Vcpu
pending61 = with_pending (singleton 0x61) record0

-- both vCPUs, with 0x41 and the NMI pending at vCPU 1 alone
abbrev at1 : Module
at1 = with_vcpu fresh2 1 (with_nmi true (with_pending (singleton 0x41) record0))

-- vCPU 0 with 0x41 in flight and 0x42 pending
abbrev merged42 : Module
merged42 = having (with_pending (singleton 0x42) (vcpu_at shown41 0))

-- an ICR write by vCPU 31
abbrev icr31 : ℕ → Event
icr31 x = at 31 (call 3 0x830 x)

-- a value with n 2 and 32 active records, which start does not give
abbrev crowded : Module
crowded = record { n = 2; vmpl = 1; registrations = 1; vcpus = replicate 32 record0 }

abbrev pub irr_of : Module → ℕ → List ℕ
irr_of m k = (vcpu_at m k).irr

unfoldable pub further : List Bool
further =
    -- 14.21, 14.22, 14.23: what a notice clears
    same_numbers (page_after fresh2 (at 0 (notice ones))) (filled 68 0 28 (set (set (set (set ones 3 0xFE) 64 0) 65 0xB8) 67 0x7F))
    ∷ same_numbers (page_after fresh2 (at 0 (notice (set ones 65 0xBF)))) (set (set (set ones 3 0xFE) 64 0) 65 0xB8)
    ∷ same_numbers (page_after (start 2 3) (at 0 (notice ones))) (filled 196 0 28 (set (set (set (set ones 3 0xFB) 192 0) 193 0xB8) 195 0x7F))
    -- 14.24: what a hand-back writes
    ∷ same_numbers (page_after (having mixed) (at 0 (hand_back ones false true)))
    (set (set (set (set (filled 64 0 64 ones) 64 0x61) 65 0x45) 72 0x02) 106 0x04)
    ∷ gives 73730 (result_on (having mixed) (at 0 (hand_back ones false true)))
    -- 14.25: PPR
    ∷ reads 0x40 0x80A (with_tpr 0x40 (with_isr (singleton 0x41) record0))
    ∷ reads 0x40 0x80A (with_tpr 0x3F (with_isr (singleton 0x41) record0))
    ∷ reads 0x2C 0x80A (with_tpr 0x2C record0)
    -- 14.26: EOI
    ∷ gives 0 (result_on nested eoi)
    ∷ gives 0x41 (result_on (next nested eoi) eoi)
    ∷ gives 0 (result_on (next (next nested eoi) eoi) eoi)
    -- 14.27: the words of ISR, TMR and IRR
    ∷ reads 0x80000000 0x811 (with_isr (singleton 0x3F) record0)
    ∷ reads 1 0x819 (with_isr_level (singleton 0xFF) (with_irr_level (singleton 0x20) record0))
    ∷ reads 0x80000000 0x81F (with_isr_level (singleton 0xFF) (with_irr_level (singleton 0x20) record0))
    ∷ reads 0 0x818 (with_isr_level (singleton 0xFF) (with_irr_level (singleton 0x20) record0))
    ∷ reads 1 0x827 (with_pending (singleton 0xE0) record0)
    -- 14.28: values that the ICR does not take
    ∷ refuses 0x5041
    ∷ refuses 0x6041
    ∷ refuses 0x14041
    ∷ refuses 0x24041
    ∷ refuses 0x104041
    ∷ refuses 0x80004041
    ∷ refuses 0x4141
    ∷ refuses 0x4241
    ∷ refuses 0x4341
    ∷ refuses 0x4541
    ∷ refuses 0x4641
    ∷ refuses 0x4741
    ∷ refuses 0x401E
    ∷ refuses 0x200000401E
    ∷ refuses 0x44400
    ∷ refuses 0x44441
    ∷ refuses 0x84400
    ∷ refuses 0x84441
    -- 14.29, 14.30: whom an IPI names where nothing is pending
    ∷ reaches_of18 0x3FFFE 0xC4400
    ∷ reaches_of18 0x00001 0x44041
    ∷ reaches_of18 0x3FFFF 0x84041
    ∷ reaches_of18 0x3FFFF 0xFFFFFFFF00004041
    ∷ reaches_of18 0x3FFFF 0xFFFFFFFF00004841
    ∷ reaches_of18 0x30000 0x0001000300004841
    ∷ reaches_of18 0x00006 0x0000000600004841
    ∷ reaches_of18 0x00020 0x0000000500004041
    ∷ reaches_of18 0x00000 0x0000001200004041
    -- 14.31: a self-IPI answers its caller's bit, and stores nothing in the ICR
    ∷ gives 2 (result_on fresh2 (at 1 (call 3 0x83F 0x41)))
    ∷ gives 0 (result_on (next fresh2 (at 1 (call 3 0x83F 0x41))) (at 1 (call 2 0x830 0)))
    -- 14.32: TPR and ICR read as written
    ∷ gives 0x2F (result_on (next fresh2 (at 0 (call 3 0x808 0x2F))) (at 0 (call 2 0x808 0)))
    ∷ gives 0x1200004041 (result_on (next fresh2 (icr 0x1200004041)) (at 0 (call 2 0x830 0)))
    -- 14.33: how many registers of each kind there are
    ∷ eqb (kinds is_kind_read 0x800 256) 27
    ∷ eqb (kinds is_kind_write 0x800 256) 2
    ∷ eqb (kinds is_kind_none 0x800 256) 225
    -- 14.34: window
    ∷ answers_by (is_window 0x41) (result_on (pending41 0x3F) (enters false false false))
    ∷ answers_by (is_window 0x41) (result_on (pending41 0x3F) (enters true true false))
    -- 14.35: the NMI before a vector, and held
    ∷ answers_by (is_shown item.Nmi) (result_on nmi41 (enters true false false))
    ∷ answers_by (is_shown (item.Vector 0x41)) (result_on (next nmi41 (enters true false false)) (enters true false false))
    ∷ answers_by (is_shown (item.Vector 0x41)) (result_on nmi41 (enters true false true))
    ∷ answers_by (is_window 0x41) (result_on nmi41 (enters true true false))
    -- 14.36: a level-sensitive vector comes back as one
    ∷ gives 0 (result_on (next level61 (enters true false false)) (at 0 non_delivery))
    ∷ gives 2 (result_on given61 (at 0 (call 2 0x823 0)))
    ∷ gives 0 (result_on given61 (at 0 (call 2 0x813 0)))
    ∷ gives 2 (result_on given61 (at 0 (call 2 0x81B 0)))
    ∷ gives 0x61 (result_on (next given61 (enters true false false)) eoi)
    -- 14.37: an NMI by a notice, returned
    ∷ counts 1 0 nmi_notice.result
    ∷ answers_by (is_shown item.Nmi) (result_on nmi_notice.after (enters false false false))
    ∷ answers_by (is_shown item.Nmi) (result_on (next (next nmi_notice.after (enters false false false)) (at 0 non_delivery)) (enters false false false))
    -- 14.38: an NMI by an IPI
    ∷ gives 2 (result_on fresh2 (icr 0xC4400))
    ∷ answers_by (is_shown item.Nmi) (result_on nmi_sent (at 1 (entry false false false)))
    ∷ is_nothing (result_on nmi_sent (enters true false false))
    -- 14.39: the record after a hand-back
    ∷ same_numbers handed_record.allowed empty
    ∷ same_numbers handed_record.irr empty
    ∷ same_numbers handed_record.isr empty
    ∷ same_numbers handed_record.irr_level empty
    ∷ same_numbers handed_record.isr_level empty
    ∷ not handed_record.nmi
    ∷ eqb handed_record.tpr 0x20
    ∷ has_left handed_record.phase
    -- 14.40: calls that give 0
    ∷ gives 0 (result_on fresh2 (at 0 (call 0 7 7)))
    ∷ gives 0 (result_on fresh2 (at 0 (call 1 0 7)))
    ∷ gives 0 (result_on fresh2 (at 0 (call 1 2 7)))
    -- 14.42: a presented vector is pending no more
    ∷ gives 0 (result_on shown41 (at 0 (call 2 0x822 0)))
    ∷ gives 2 (result_on shown41 (at 0 (call 2 0x812 0)))
    -- 14.43: an entry forgets what the one before it presented
    ∷ is_nothing (result_on shown41 (enters true false false))
    ∷ is_refused 4 (result_on (next shown41 (enters true false false)) (at 0 non_delivery))
    -- 14.46: bits 14 and 15 of the ICR, whichever way they stand
    ∷ arrives (item.Vector 0x41) 0x100000041
    ∷ arrives (item.Vector 0x41) 0x100004041
    ∷ arrives (item.Vector 0x41) 0x100008041
    ∷ arrives (item.Vector 0x41) 0x10000C041
    ∷ arrives item.Nmi 0x100000400
    ∷ arrives item.Nmi 0x100004400
    ∷ arrives item.Nmi 0x100008400
    ∷ arrives item.Nmi 0x10000C400
    -- 14.47: bit 15 makes no request level-sensitive
    ∷ gives 2 (result_on self41 (at 0 (call 2 0x822 0)))
    ∷ gives 0 (result_on self41 (at 0 (call 2 0x81A 0)))
    ∷ gives 0 (result_on (next self41 (enters true false false)) eoi)
    -- 14.48: other vectors, modes and callers
    ∷ gives 2 (result_on fresh2 self_ff)
    ∷ answers_by (is_shown (item.Vector 0xFF)) (result_on (next fresh2 self_ff) (at 1 (entry true false false)))
    ∷ arrives (item.Vector 0x1F) 0x10000401F
    ∷ arrives item.Nmi 0x200000C1E
    ∷ gives 2 (result_on fresh2 (icr 0xC4041))
    ∷ gives 3 (result_on fresh2 (icr 0xFFFFFFFF00004400))
    ∷ reaches_of18 0 0x2000004041
    ∷ reaches_of18 0 0xFF00004041
    -- 14.49: an ICR write forgets what an entry presented
    ∷ is_refused 4 (result_on (next shown41 (icr 0x100004041)) (at 0 non_delivery))
    -- 14.50: a superfluous notice, and one that announces nothing
    ∷ counts 0 1 (told (with_pending (singleton 0x41) record0) byte64).result
    ∷ same_numbers (irr_of (told (with_pending (singleton 0x41) record0) byte64).after 0) (singleton 0x41)
    ∷ same_numbers (told (with_pending (singleton 0x41) record0) byte64).page zeros
    ∷ counts 0 0 (told (with_pending (singleton 0x41) record0) (set byte64 3 0)).result
    -- 14.51: a notice of three items, of which none, two, the NMI alone and all are pending
    ∷ counts 3 0 (told record0 many).result
    ∷ counts 1 2 (told (with_nmi true (with_pending (singleton 0x41) record0)) many).result
    ∷ counts 2 1 (told (with_nmi true record0) many).result
    ∷ counts 0 3 (told (with_nmi true (with_pending (insert 0x52 (singleton 0x41)) record0)) many).result
    -- 14.52: a level-sensitive request for what is pending as edge, the other way round, and both at once
    ∷ counts 0 1 (told pending61 level61_page).result
    ∷ same_numbers (vcpu_at (told pending61 level61_page).after 0).irr_level (singleton 0x61)
    ∷ counts 0 1 (told (with_irr_level (singleton 0x61) pending61) edge61).result
    ∷ same_numbers (vcpu_at (told (with_irr_level (singleton 0x61) pending61) edge61).after 0).irr_level (singleton 0x61)
    ∷ counts 1 0 (told record0 marked61).result
    ∷ counts 0 1 (told pending61 marked61).result
    -- 14.53: what is in service, in flight or marked in PL alone was not pending
    ∷ counts 1 0 (told (with_isr (singleton 0x41) record0) byte64).result
    ∷ counts 1 0 (told (vcpu_at shown41 0) byte64).result
    ∷ counts 1 0 (told (with_irr_level (singleton 0x41) record0) byte64).result
    -- 14.54: whom an IPI names, and that it reaches the others too
    ∷ gives 1 (result_on at1 (icr 0x84041))
    ∷ same_numbers (irr_of (next at1 (icr 0x84041)) 0) (singleton 0x41)
    ∷ same_numbers (irr_of (next at1 (icr 0x84041)) 1) (singleton 0x41)
    ∷ gives 2 (result_on at1 (icr 0x100004042))
    ∷ gives 0 (result_on at1 (icr 0x100004400))
    ∷ gives 1 (result_on at1 (icr 0xFFFFFFFF00004400))
    ∷ gives 0 (result_on at1 (at 1 (call 3 0x83F 0x41)))
    ∷ gives 2 (result_on at1 (at 1 (call 3 0x83F 0x42)))
    ∷ gives 2 (result_on (with_vcpu fresh2 1 (with_isr (singleton 0x41) record0)) (icr 0x100004041))
    -- 14.55: an IPI whose targets all had the item stores the ICR and forgets what an entry presented
    ∷ gives 0 (result_on merged42 (icr 0x44042))
    ∷ gives 0x44042 (result_on (next merged42 (icr 0x44042)) (at 0 (call 2 0x830 0)))
    ∷ is_refused 4 (result_on (next merged42 (icr 0x44042)) (at 0 non_delivery))
    ∷ gives 0 (result_on merged42 (at 0 (call 3 0x83F 0x42)))
    ∷ gives 0 (result_on (next merged42 (at 0 (call 3 0x83F 0x42))) (at 0 (call 2 0x830 0)))
    ∷ is_refused 4 (result_on (next merged42 (at 0 (call 3 0x83F 0x42))) (at 0 non_delivery))
    -- 14.56: the most that a notice admits, where nothing is pending and where everything is; what it does not name stays pending
    ∷ counts 227 0 (told record0 ones).result
    ∷ counts 0 227 (told (with_nmi true (with_machine_check true (with_pending full record0))) ones).result
    ∷ same_numbers (irr_of (told (with_pending (singleton 0x52) record0) byte64).after 0) (insert 0x52 (singleton 0x41))
    ∷ (vcpu_at (told (with_nmi true record0) byte64).after 0).nmi
    -- 14.57: 32 vCPUs, and the last of them
    ∷ gives 0xFFFFFFFF (result_on (start 32 1) (icr31 0x84041))
    ∷ gives 0x7FFFFFFF (result_on (start 32 1) (icr31 0xC4041))
    ∷ gives 0x80000000 (result_on (start 32 1) (icr31 0x44041))
    ∷ gives 0x80000000 (result_on (start 32 1) (at 31 (call 3 0x83F 0x41)))
    ∷ gives 0x80000000 (result_on (start 32 1) (icr31 0x1F00004041))
    ∷ gives 0x80000000 (result_on (start 32 1) (icr31 0x0001800000004841))
    -- 14.58: places at n and above are not named, also where they hold active records
    ∷ gives 3 (result_on crowded (icr 0x84041))
    ∷ same_numbers (irr_of (next crowded (icr 0x84041)) 2) empty
    ∷ []

-- ---- all of them
pub record Worked : Type 0 where
  pub starred : Starred
  pub further : every further ≡ true
