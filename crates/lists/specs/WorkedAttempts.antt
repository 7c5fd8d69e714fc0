-- A worked list of hand-backs that come too early, in time and twice (14.97).
-- Assumes nothing.
use Rattle.std.specs.Prelude.{◌≡◌, Bool, true, false, not, List, [], ◌∷◌, ℕ, replicate, set, take}
use Rattle.model.specs.State.{start}
use Rattle.model.specs.Codes.{done, refused}
use Rattle.model.specs.Events.{notice, call, hand_back, at, Bytes, Event}
use Rattle.model.specs.Cases.{zeros, byte64, every}
use Rattle.lists.specs.Lists.{results, pages}
use Rattle.lists.specs.WorkedList.{same_results, same_pages}
use Rattle.lists.specs.HandBacks.{hands_back_in}

abbrev short : Bytes
short = replicate 255 0

abbrev named41 : Bytes
named41 = set zeros 64 0x41

abbrev attempts : List Event
attempts =
    at 0 (hand_back zeros true false)
    ∷ at 0 (hand_back [] true false)
    ∷ at 0 (call 1 1 0)
    ∷ at 1 (hand_back zeros true false)
    ∷ at 0 (hand_back short true false)
    ∷ at 0 (hand_back zeros true false)
    ∷ at 0 (hand_back named41 true false)
    ∷ at 0 (hand_back [] true false)
    ∷ at 0 (notice byte64)
    ∷ at 0 (call 1 2 0)
    ∷ at 1 (call 1 0 0)
    ∷ at 0 (hand_back zeros true false)
    ∷ at 1 (hand_back zeros false true)
    ∷ at 1 (hand_back zeros false true)
    ∷ at 2 (hand_back [] true false)
    ∷ []

-- the first k events have an accepted hand-back of the vCPU j
abbrev handed_in : ℕ → ℕ → Bool
handed_in k j = hands_back_in j (start 2 1) (take k attempts)

unfoldable pub attempted : List Bool
attempted =
    same_results (results (start 2 1) attempts)
    (refused 3 ∷ refused 3 ∷ done 0 ∷ refused 3 ∷ refused 2 ∷ done 65537 ∷ refused 7 ∷ refused 7 ∷ refused 0x80000001 ∷ refused 0x80000001 ∷ done 0
    ∷ refused 7 ∷ done 65538 ∷ refused 7 ∷ refused 1 ∷ [])
    ∷ same_pages (pages (start 2 1) attempts) (zeros ∷ [] ∷ zeros ∷ short ∷ zeros ∷ named41 ∷ [] ∷ zeros ∷ zeros ∷ zeros ∷ [] ∷ [])
    ∷ not (handed_in 5 0)
    ∷ handed_in 6 0
    ∷ not (handed_in 12 1)
    ∷ handed_in 13 1
    ∷ not (handed_in 15 2)
    ∷ []

pub record WorkedAttempts : Type 0 where
  pub attempted : every attempted ≡ true
