-- Worked cases at the VMPLs 2 and 3, of the ID, of high vectors and a high TPR, of the words of registers that no other case reads, of a vector that comes
-- back where it was requested otherwise meanwhile, and of marks beside a level-sensitive vector that is not admitted (14.98 to 14.106).
-- Assumes nothing.
use Rattle.std.specs.Prelude.{◌≡◌, Bool, true, false, List, [], ◌∷◌, ℕ, zero, suc, ◌^◌, set}
use Rattle.model.specs.declared.Phase.TheVariants.{Leaving}
use Rattle.model.specs.declared.Target.TheVariants.{Logical}
use Rattle.model.specs.declared.Module.{Module}
use Rattle.model.specs.State.{vcpu_at, start, with_vcpu, with_allowed, with_isr, with_irr_level, with_isr_level, with_tpr, with_icr, with_phase}
use Rattle.model.specs.Events.{notice, call, non_delivery, hand_back, at, Out, step, next}
use Rattle.model.specs.Cases.{same_numbers, gives, counts, is_nothing, is_presented, fresh2, having, record0, singleton, with_pending, zeros, announcing}
use Rattle.model.specs.Cases.{byte64, on_page, pending_after, result_on, level61, every}
use Rattle.model.specs.Worked.{filled, ones, eoi, enters, reads}
use Rattle.model.specs.Registers.{ldr}
use Rattle.model.specs.Ipi.{hits}
use Rattle.vector_set.specs.Bits.{bits}
use Rattle.vector_set.specs.Sets.{empty, insert}

-- ---- the VMPLs 2 and 3
-- a fresh module of two vCPUs at the VMPL l, where vCPU 0 allows 0x41
abbrev allowing : ℕ → Module
allowing l = with_vcpu (start 2 l) 0 (with_allowed (singleton 0x41) record0)

-- vCPU 0 is told of 0x41 by the byte at a place, with this byte 3
abbrev told_at : ℕ → ℕ → ℕ → Out
told_at l b k = step (allowing l) (at 0 (notice (set (set zeros 3 b) k 0x41)))

-- vCPU 0 of a module at the VMPL l, leaving with 0x41 pending, 0x33 and 0xF1 in service and an ICR of all ones, is handed back with IF, on a page of ones
abbrev handed_at : ℕ → Out
handed_at l =
    step
    (with_vcpu (start 2 l) 0
    (with_phase Leaving (with_icr 0xFFFFFFFFFFFFFFFF (with_isr (insert 0xF1 (singleton 0x33)) (with_pending (singleton 0x41) record0)))))
    (at 0 (hand_back ones true false))

-- ---- an EOI
-- what an EOI gives with v alone in service, and the set t of level-sensitive vectors there
abbrev eoi_gives : ℕ → ℕ → List ℕ → Bool
eoi_gives x v t = gives x (result_on (having (with_isr_level t (with_isr (singleton v) record0))) eoi)

-- ---- a return
-- 0x41, presented as edge, is requested as level-sensitive while it is in flight, and comes back
abbrev returned41 : Module
returned41 =
    next
    (next (next (on_page (singleton 0x41) byte64).after (enters true false false)) (at 0 (notice (set byte64 65 0x04))))
    (at 0 non_delivery)

-- the other way round: 0x61, presented as level-sensitive, is requested as edge while it is in flight, and comes back
abbrev returned61 : Module
returned61 =
    next (next (next level61 (enters true false false)) (at 0 (notice (set announcing 64 0x61)))) (at 0 non_delivery)

-- ---- registers
-- 0x80, 0xA1, 0xC2 and 0xE3, which are in the words 4 to 7
abbrev high : List ℕ
high = insert 0x80 (insert 0xA1 (insert 0xC2 (singleton 0xE3)))

-- whom an IPI names in logical mode whose destination is the LDR of the vCPU k
abbrev by_ldr : ℕ → ℕ
by_ldr k = bits (λ j. hits (Logical (ldr k)) 0 j) 0 32

-- f at n numbers from k on
abbrev each : (ℕ → ℕ) → ℕ → ℕ → List ℕ
each f k zero = []
each f k (suc n) = f k ∷ each f (suc k) n

-- ---- marks
-- bits 10 and 14, the marks of 0x41 and 0x52, and this number in bits 7:0; 0x41 and 0x52 are allowed
abbrev beside : ℕ → Out
beside x = on_page (insert 0x52 (singleton 0x41)) (set (set (set (set announcing 64 x) 65 0x44) 72 0x02) 74 0x04)

unfoldable pub levels : List Bool
levels =
    -- 14.98: the ID
    gives 0 (result_on (start 18 1) (at 0 (call 2 0x802 0)))
    ∷ gives 1 (result_on fresh2 (at 1 (call 2 0x802 0)))
    ∷ gives 17 (result_on (start 18 1) (at 17 (call 2 0x802 0)))
    -- 14.99: a notice at the VMPLs 2 and 3, and what another level's bit or descriptor does
    ∷ counts 1 0 (told_at 2 0x02 128).result
    ∷ same_numbers (told_at 2 0x02 128).page zeros
    ∷ is_presented 0x41 (result_on (told_at 2 0x02 128).after (enters true false false))
    ∷ counts 0 0 (told_at 2 0x05 128).result
    ∷ counts 0 0 (told_at 2 0x07 192).result
    ∷ same_numbers (told_at 2 0x07 192).page (set (set zeros 3 0x05) 192 0x41)
    ∷ counts 1 0 (told_at 3 0x04 192).result
    ∷ same_numbers (told_at 3 0x04 192).page zeros
    ∷ is_presented 0x41 (result_on (told_at 3 0x04 192).after (enters true false false))
    ∷ counts 0 0 (told_at 3 0x03 192).result
    ∷ counts 0 0 (told_at 3 0x07 128).result
    -- 14.100: a hand-back there
    ∷ gives 131073 (handed_at 2).result
    ∷ same_numbers (handed_at 2).page (set (set (set (set (filled 128 0 64 ones) 129 0x40) 136 0x02) 166 0x08) 190 0x02)
    ∷ gives 196609 (handed_at 3).result
    ∷ same_numbers (handed_at 3).page (set (set (set (set (filled 192 0 64 ones) 193 0x40) 200 0x02) 230 0x08) 254 0x02)
    -- 14.101: high vectors at an EOI
    ∷ eoi_gives 0x80 0x80 (singleton 0x80)
    ∷ eoi_gives 0xF1 0xF1 (singleton 0xF1)
    ∷ eoi_gives 0xFF 0xFF (singleton 0xFF)
    ∷ eoi_gives 0 0xF1 (singleton 0xF0)
    -- 14.102: an edge vector comes back where it is level-sensitive by now: P, S, TMR; and the other way round
    ∷ gives 2 (result_on returned41 (at 0 (call 2 0x822 0)))
    ∷ gives 0 (result_on returned41 (at 0 (call 2 0x812 0)))
    ∷ gives 2 (result_on returned41 (at 0 (call 2 0x81A 0)))
    ∷ gives 2 (result_on returned61 (at 0 (call 2 0x823 0)))
    ∷ gives 0 (result_on returned61 (at 0 (call 2 0x813 0)))
    ∷ gives 2 (result_on returned61 (at 0 (call 2 0x81B 0)))
    -- 14.103: a level-sensitive vector that is not allowed, and one under 31, beside marks
    ∷ counts 2 0 (beside 0x61).result
    ∷ same_numbers (pending_after (beside 0x61)) (insert 0x52 (singleton 0x41))
    ∷ same_numbers (vcpu_at (beside 0x61).after 0).irr_level empty
    ∷ counts 2 0 (beside 30).result
    ∷ same_numbers (pending_after (beside 30)) (insert 0x52 (singleton 0x41))
    -- 14.104: a high vector as edge, alone; at a high TPR; a high TPR in a hand-back's number
    ∷ counts 1 0 (on_page (singleton 0xF1) (set announcing 64 0xF1)).result
    ∷ same_numbers (pending_after (on_page (singleton 0xF1) (set announcing 64 0xF1))) (singleton 0xF1)
    ∷ counts 1 0 (on_page (singleton 31) (set announcing 64 31)).result
    ∷ counts 1 0 (on_page (singleton 255) (set announcing 64 255)).result
    ∷ is_nothing (result_on (having (with_tpr 0xF0 (with_pending (singleton 0xF1) record0))) (enters true false false))
    ∷ is_presented 0xF1 (result_on (having (with_tpr 0xEF (with_pending (singleton 0xF1) record0))) (enters true false false))
    ∷ gives 130817 (result_on (having (with_phase Leaving (with_tpr 0xFF record0))) (at 0 (hand_back zeros true false)))
    -- 14.105: the words 4 to 7 of ISR, TMR and IRR, and word 1
    ∷ reads 1 0x814 (with_isr high record0)
    ∷ reads 2 0x815 (with_isr high record0)
    ∷ reads 4 0x816 (with_isr high record0)
    ∷ reads 8 0x817 (with_isr high record0)
    ∷ reads 1 0x81C (with_irr_level high record0)
    ∷ reads 2 0x81D (with_isr_level high record0)
    ∷ reads 4 0x81E (with_irr_level high record0)
    ∷ reads 1 0x824 (with_pending high record0)
    ∷ reads 2 0x825 (with_pending high record0)
    ∷ reads 4 0x826 (with_pending high record0)
    ∷ reads 8 0x821 (with_pending (singleton 0x23) record0)
    -- 14.106: the LDR, and that as a destination it names its own vCPU and no other
    ∷ gives 0x1 (result_on (start 32 1) (at 0 (call 2 0x80D 0)))
    ∷ gives 0x8000 (result_on (start 32 1) (at 15 (call 2 0x80D 0)))
    ∷ gives 0x10001 (result_on (start 32 1) (at 16 (call 2 0x80D 0)))
    ∷ gives 0x18000 (result_on (start 32 1) (at 31 (call 2 0x80D 0)))
    ∷ same_numbers (each by_ldr 0 32) (each (λ k. 2 ^ k) 0 32)
    -- PPR with the highest in service, of which the class alone counts
    ∷ reads 0x50 0x80A (with_tpr 0x3F (with_isr (insert 0x5F (singleton 0x41)) record0))
    ∷ reads 0xF0 0x80A (with_tpr 0xE9 (with_isr (singleton 0xFF) record0))
    ∷ []

pub record WorkedLevels : Type 0 where
  pub levels : every levels ≡ true
