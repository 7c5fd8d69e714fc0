-- Worked cases of the summary of P, of entries that look by it and of the question (14.83 to 14.91), in one list of computed checks.
-- L = 1, n = 2 and vCPU 0 unless said. Assumes nothing.
use Rattle.std.specs.Prelude.{◌≡◌, Bool, true, false, not, List, [], ◌∷◌, ℕ, eqb, set}
use Rattle.model.specs.declared.Phase.TheVariants.{Leaving, Left}
use Rattle.model.specs.declared.Item.TheVariants as item
use Rattle.model.specs.declared.Vcpu.{Vcpu}
use Rattle.model.specs.declared.Module.{Module}
use Rattle.model.specs.State.{vcpu_at, with_isr, with_nmi, with_machine_check, with_tpr, with_phase, with_summary}
use Rattle.model.specs.Events.{call, non_delivery, hand_back, at, Event, next, would_present}
use Rattle.model.specs.Cases.{same_numbers, counts, is_nothing, fresh2, having, record0, singleton, with_pending, zeros, announcing, byte64, result_on, every}
use Rattle.model.specs.Worked.{page_after, eoi, icr, reads, is_shown, answers_by, enters, told, irr_of}
use Rattle.model.specs.SummaryClaims.{offered}
use Rattle.vector_set.specs.Sets.{empty, insert}

-- the summary of the vCPU k is b
abbrev byte_at : ℕ → ℕ → Module → Bool
byte_at k b m = eqb (vcpu_at m k).summary b

-- vCPU 0 with the vectors of s pending
abbrev holding : List ℕ → Vcpu
holding s = with_pending s record0

-- the same with an untrue summary
abbrev untrue : ℕ → List ℕ → Vcpu
untrue b s = with_summary b (holding s)

-- a hand-back with IF
abbrev back : Event
back = at 0 (hand_back zeros true false)

-- an entry under nothing that holds an item back
abbrev free : Event
free = enters true false false

abbrev after : Vcpu → Module
after v = next (having v) free

abbrev shows : ℕ → Vcpu → Bool
shows x v = answers_by (is_shown (item.Vector x)) (result_on (having v) free)

-- 0x41 and 0x80, which are in words 2 and 4
abbrev two : List ℕ
two = insert 0x80 (singleton 0x41)

-- bit 14, with the marks of 0x41, 0x52 and 0x80
abbrev many : List ℕ
many = set (set (set (set announcing 65 0x40) 72 0x02) 74 0x04) 80 0x01

-- the question on vCPU 0
abbrev yes : Vcpu → Bool
yes v = would_present (having v) 0

abbrev no : Vcpu → Bool
no v = not (yes v)

unfoldable pub summaries : List Bool
summaries =
    -- 14.83: start, a notice of one vector, of many, of the NMI alone
    byte_at 0 0 fresh2
    ∷ byte_at 0 4 (told record0 byte64).after
    ∷ byte_at 0 0x14 (told record0 many).after
    ∷ byte_at 0 0x94 (told (holding (singleton 0xE0)) many).after
    ∷ byte_at 0 4 (told (holding (singleton 0x41)) (set announcing 65 0x01)).after
    -- 14.84: an IPI to all, a self-IPI
    ∷ byte_at 0 0x80 (next fresh2 (icr 0x840E0))
    ∷ byte_at 1 0x80 (next fresh2 (icr 0x840E0))
    ∷ byte_at 0 0x12 (next (having (holding (singleton 0x80))) (at 0 (call 3 0x83F 0x20)))
    -- 14.85: a presentation: the word's last vector, one of two in it, one of two words; then returned
    ∷ byte_at 0 0 (after (holding (singleton 0x41)))
    ∷ byte_at 0 4 (after (holding (insert 0x52 (singleton 0x41))))
    ∷ byte_at 0 4 (after (holding two))
    ∷ byte_at 0 0x14 (next (after (holding two)) (at 0 non_delivery))
    -- 14.86: a hand-back; with an untrue summary too it hands over all of P, as in 14.15
    ∷ byte_at 0 0 (next (having (with_phase Leaving (holding two))) back)
    ∷ byte_at 0 0 (next (having (with_phase Leaving (untrue 0xF0 (singleton 0x41)))) back)
    ∷ same_numbers (page_after (having (with_phase Leaving (untrue 0xF0 (singleton 0x41)))) back) (set (set zeros 65 0x40) 72 0x02)
    -- 14.87: a word with a vector that is not marked is not seen, whatever stands in the others
    ∷ is_nothing (result_on (having (untrue 0 (singleton 0x41))) free)
    ∷ no (untrue 0 (singleton 0x41))
    ∷ reads 2 0x822 (untrue 0 (singleton 0x41))
    ∷ shows 0x41 (untrue 4 two)
    ∷ byte_at 0 0 (after (untrue 4 two))
    ∷ same_numbers (irr_of (after (untrue 4 two)) 0) (singleton 0x80)
    -- 14.88: a marked word without one is passed over
    ∷ shows 0x41 (untrue 0xFF (singleton 0x41))
    ∷ byte_at 0 0xFB (after (untrue 0xFF (singleton 0x41)))
    -- 14.89: a notice marks the words of what it admits, pending before or not, and no other
    ∷ counts 0 1 (told (untrue 0 two) byte64).result
    ∷ byte_at 0 4 (told (untrue 0 two) byte64).after
    ∷ byte_at 0 0x24 (told (untrue 0x20 two) byte64).after
    ∷ byte_at 0 0x34 (told (untrue 0x20 (insert 0xE0 (singleton 0x41))) many).after
    -- so do an IPI and a non-delivery
    ∷ byte_at 0 0x24 (next (having (untrue 0x20 two)) (at 0 (call 3 0x83F 0x41)))
    ∷ byte_at 0 4 (next (after (untrue 4 two)) (at 0 non_delivery))
    -- 14.91: what is no vector, and what is not in P, leaves the summary: an NMI sent, presented and returned, a TPR write, an EOI
    ∷ byte_at 0 0 (next (having (untrue 0 (singleton 0x41))) (icr 0x4400))
    ∷ byte_at 0 0 (after (with_nmi true (untrue 0 (singleton 0x41))))
    ∷ byte_at 0 0 (next (after (with_nmi true (untrue 0 (singleton 0x41)))) (at 0 non_delivery))
    ∷ byte_at 0 0 (after (with_machine_check true (untrue 0 (singleton 0x41))))
    ∷ byte_at 0 0 (next (having (untrue 0 (singleton 0x41))) (at 0 (call 3 0x808 0x20)))
    ∷ byte_at 0 0 (next (having (with_isr (singleton 0x52) (untrue 0 (singleton 0x41)))) eoi)
    ∷ byte_at 0 0xFF (told (untrue 0xFF empty) (set announcing 65 0x03)).after
    -- 14.90: the question
    ∷ no record0
    ∷ yes (holding (singleton 0x41))
    ∷ yes (with_tpr 0x3F (holding (singleton 0x41)))
    ∷ no (with_tpr 0x40 (holding (singleton 0x41)))
    ∷ no (with_isr (singleton 0x45) (holding (singleton 0x41)))
    ∷ yes (with_tpr 0xFF (with_nmi true record0))
    ∷ yes (with_tpr 0xFF (with_machine_check true record0))
    ∷ no (with_phase Leaving (with_nmi true (holding two)))
    ∷ no (with_phase Left (with_machine_check true (holding two)))
    ∷ not (would_present (having (holding two)) 2)
    ∷ not (would_present (having (holding two)) 4294967295)
    -- with 0x41 in flight, and 0x41, 0x52 and 0x80 pending, the last of which is above it
    ∷ would_present (told (vcpu_at (after (holding (singleton 0x41))) 0) many).after 0
    -- what the claims compare with: the same record, and a set of its own
    ∷ is_shown (item.Vector 0x41) (offered (having (untrue 0 (singleton 0x41))) 0 true false false (singleton 0x41))
    ∷ []

-- (14.83 to 14.91)
pub record WorkedSummaries : Type 0 where
  pub summaries : every summaries ≡ true
