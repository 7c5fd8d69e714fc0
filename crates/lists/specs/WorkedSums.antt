-- Worked sums (14.92 to 14.95): of lists, the six numbers of an item on a vCPU.
-- Assumes nothing.
use Rattle.std.specs.Prelude.{◌≡◌, Bool, true, false, List, [], ◌∷◌, ℕ, set}
use Rattle.model.specs.declared.Item.{Item}
use Rattle.model.specs.declared.Item.TheVariants as item
use Rattle.model.specs.declared.Module.{Module}
use Rattle.model.specs.State.{vcpu_at, start}
use Rattle.model.specs.Codes.{nothing, presents, window, Result, done, counted, answers, coded, refused}
use Rattle.model.specs.Items.{pending}
use Rattle.model.specs.Events.{notice, call, non_delivery, hand_back, allow, at, Event, final}
use Rattle.model.specs.Cases.{same_numbers, zeros, announcing, byte64, every}
use Rattle.model.specs.Worked.{icr, enters}
use Rattle.lists.specs.Lists.{results, pages}
use Rattle.lists.specs.Ledger.{requests, ledger_of}
use Rattle.lists.specs.WorkedList.{same_results, same_pages, tells_of, story, pair, check_story, value_story}
use Rattle.vector_set.specs.Bits.{one}

-- of a list on the module m, for x on j: requests, returns, merged, presented, handed back, still pending
abbrev sums_of : Module → List Event → ℕ → Item → List ℕ → Bool
sums_of m es j x ns =
    let g = ledger_of m j x es in
    same_numbers
    (requests g ∷ g.returned ∷ g.waiting.merged ∷ g.presented ∷ g.waiting.handed_back ∷ one (pending x (vcpu_at (final m es) j)) ∷ [])
    ns

-- ---- an IPI that finds its vector pending (14.92): vCPU 0 sends 0x41 to vCPU 1, and again
abbrev twice : List Event
twice = icr 0x100004041 ∷ icr 0x100004041 ∷ []

unfoldable pub sent_twice : List Bool
sent_twice =
    same_results (results (start 2 1) twice) (done 2 ∷ done 0 ∷ [])
    ∷ sums_of (start 2 1) twice 1 (item.Vector 0x41) (2 ∷ 0 ∷ 1 ∷ 0 ∷ 0 ∷ 1 ∷ [])
    ∷ sums_of (start 2 1) twice 0 (item.Vector 0x41) (0 ∷ 0 ∷ 0 ∷ 0 ∷ 0 ∷ 0 ∷ [])
    ∷ []

-- ---- a vCPU that leaves with something in flight and much pending (14.93)
abbrev level_of : ℕ → Event
level_of v = at 0 (notice (set (set announcing 64 v) 65 0x04))

abbrev shows : ℕ → Result
shows v = answers (presents (item.Vector v))

abbrev departure : List Event
departure =
    at 0 (allow (0x141 ∷ 0x152 ∷ 0x161 ∷ 0x171 ∷ []) (9 ∷ 9 ∷ 9 ∷ 9 ∷ []))
    ∷ at 0 (notice byte64)
    ∷ enters true false false
    ∷ at 0 (notice byte64)
    ∷ at 0 non_delivery
    ∷ at 0 (hand_back zeros true false)
    ∷ enters true false false
    ∷ level_of 0x52
    ∷ level_of 0x61
    ∷ level_of 0x71
    ∷ at 0 (notice byte64)
    ∷ icr 0x44041
    ∷ enters true false false
    ∷ at 0 (call 1 1 0)
    ∷ at 0 non_delivery
    ∷ at 1 (call 3 0x830 0x84052)
    ∷ at 0 (hand_back [] true false)
    ∷ at 0 (hand_back zeros true false)
    ∷ at 0 (hand_back zeros true false)
    ∷ at 1 (call 3 0x83F 0x52)
    ∷ at 1 (notice byte64)
    ∷ []

unfoldable pub departed : List Bool
departed =
    same_results (results (start 2 1) departure)
    (coded 0 (0 ∷ 0 ∷ 0 ∷ 0 ∷ []) ∷ counted 1 0 ∷ shows 0x41 ∷ counted 1 0 ∷ done 0 ∷ refused 3 ∷ shows 0x41 ∷ counted 1 0 ∷ counted 1 0 ∷ counted 1 0
    ∷ counted 1 0 ∷ done 0 ∷ shows 0x71 ∷ done 0 ∷ refused 0x80000001 ∷ done 2 ∷ refused 2 ∷ done 65537 ∷ refused 7 ∷ done 0 ∷ counted 0 0 ∷ [])
    ∷ same_pages (pages (start 2 1) departure) (zeros ∷ [] ∷ set (set (set (set zeros 64 0x61) 65 0x44) 72 0x02) 104 0x02 ∷ zeros ∷ [])
    ∷ sums_of (start 2 1) departure 0 (item.Vector 0x41) (4 ∷ 1 ∷ 2 ∷ 2 ∷ 1 ∷ 0 ∷ [])
    ∷ sums_of (start 2 1) departure 0 (item.Vector 0x52) (1 ∷ 0 ∷ 0 ∷ 0 ∷ 1 ∷ 0 ∷ [])
    ∷ sums_of (start 2 1) departure 0 (item.Vector 0x61) (1 ∷ 0 ∷ 0 ∷ 0 ∷ 1 ∷ 0 ∷ [])
    ∷ sums_of (start 2 1) departure 0 (item.Vector 0x71) (1 ∷ 0 ∷ 0 ∷ 1 ∷ 0 ∷ 0 ∷ [])
    ∷ sums_of (start 2 1) departure 1 (item.Vector 0x52) (2 ∷ 0 ∷ 1 ∷ 0 ∷ 0 ∷ 1 ∷ [])
    ∷ sums_of (start 2 1) departure 1 (item.Vector 0x41) (0 ∷ 0 ∷ 0 ∷ 0 ∷ 0 ∷ 0 ∷ [])
    ∷ []

-- ---- requests by notice and by ICR, and a return, that are merged, among events that bring nothing (14.95)
abbrev from_one : ℕ → Event
from_one x = at 1 (call 3 0x830 x)

abbrev merge_story : List Event
merge_story =
    at 0 (allow (0x102 ∷ 0x141 ∷ 0x152 ∷ []) (9 ∷ 9 ∷ 9 ∷ []))
    ∷ at 0 (notice (set (set (set announcing 65 0x41) 72 0x02) 74 0x04))
    ∷ enters false false true
    ∷ at 0 (call 3 0x808 0x50)
    ∷ enters true false true
    ∷ at 0 (call 3 0x808 0)
    ∷ from_one 0x4400
    ∷ enters true false false
    ∷ at 0 (notice (set announcing 65 0x01))
    ∷ at 0 non_delivery
    ∷ from_one 0x100004841
    ∷ from_one 0xFFFFFFFF00004041
    ∷ from_one 0xC4041
    ∷ level_of 0x41
    ∷ at 0 (call 2 0x822 0)
    ∷ at 0 (call 3 0x80B 0)
    ∷ []

unfoldable pub merged_each : List Bool
merged_each =
    same_results (results (start 2 1) merge_story)
    (coded 0 (0 ∷ 0 ∷ 0 ∷ []) ∷ counted 3 0 ∷ answers (window 0x52) ∷ done 0 ∷ answers nothing ∷ done 0 ∷ done 0 ∷ answers (presents item.Nmi) ∷ counted 1 0
    ∷ done 0 ∷ done 0 ∷ done 2 ∷ done 0 ∷ counted 0 1 ∷ done 0x40002 ∷ done 0 ∷ [])
    ∷ sums_of (start 2 1) merge_story 0 item.Nmi (3 ∷ 1 ∷ 2 ∷ 1 ∷ 0 ∷ 1 ∷ [])
    ∷ tells_of (start 2 1) merge_story 0 item.Nmi (1 ∷ 2 ∷ 1 ∷ 1 ∷ [])
    ∷ sums_of (start 2 1) merge_story 0 (item.Vector 0x41) (5 ∷ 0 ∷ 4 ∷ 0 ∷ 0 ∷ 1 ∷ [])
    ∷ tells_of (start 2 1) merge_story 0 (item.Vector 0x41) (0 ∷ 2 ∷ 3 ∷ 0 ∷ [])
    ∷ sums_of (start 2 1) merge_story 0 (item.Vector 0x52) (1 ∷ 0 ∷ 0 ∷ 0 ∷ 0 ∷ 1 ∷ [])
    ∷ sums_of (start 2 1) merge_story 0 item.MachineCheck (0 ∷ 0 ∷ 0 ∷ 0 ∷ 0 ∷ 0 ∷ [])
    ∷ sums_of (start 2 1) merge_story 1 (item.Vector 0x41) (1 ∷ 0 ∷ 0 ∷ 0 ∷ 0 ∷ 1 ∷ [])
    ∷ sums_of (start 2 1) merge_story 1 item.Nmi (0 ∷ 0 ∷ 0 ∷ 0 ∷ 0 ∷ 0 ∷ [])
    ∷ []

-- ---- of the worked lists (14.94)
unfoldable pub summed : List Bool
summed =
    sums_of (start 1 1) story 0 (item.Vector 0x41) (2 ∷ 1 ∷ 0 ∷ 3 ∷ 0 ∷ 0 ∷ [])
    ∷ sums_of (start 2 1) pair 0 item.Nmi (2 ∷ 0 ∷ 1 ∷ 0 ∷ 1 ∷ 0 ∷ [])
    ∷ sums_of (start 2 1) pair 1 item.Nmi (1 ∷ 1 ∷ 0 ∷ 2 ∷ 0 ∷ 0 ∷ [])
    ∷ sums_of (start 2 1) pair 0 (item.Vector 0x41) (1 ∷ 0 ∷ 0 ∷ 0 ∷ 1 ∷ 0 ∷ [])
    ∷ sums_of (start 2 1) pair 1 (item.Vector 0x41) (2 ∷ 0 ∷ 1 ∷ 0 ∷ 1 ∷ 0 ∷ [])
    ∷ sums_of (start 1 1) check_story 0 item.MachineCheck (3 ∷ 1 ∷ 1 ∷ 2 ∷ 1 ∷ 0 ∷ [])
    ∷ sums_of (start 1 1) value_story 0 (item.Vector 0x41) (1 ∷ 1 ∷ 0 ∷ 2 ∷ 0 ∷ 0 ∷ [])
    ∷ sums_of (start 1 1) value_story 0 item.Nmi (1 ∷ 0 ∷ 0 ∷ 0 ∷ 1 ∷ 0 ∷ [])
    ∷ []

pub record WorkedSums : Type 0 where
  pub sent_twice : every sent_twice ≡ true
  pub departed : every departed ≡ true
  pub merged_each : every merged_each ≡ true
  pub summed : every summed ≡ true
