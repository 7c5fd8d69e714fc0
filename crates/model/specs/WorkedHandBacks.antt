-- Worked cases of a hand-back that comes too early, in time and twice, and of the other events on a vCPU that has left (14.96).
-- Assumes nothing.
use Rattle.std.specs.Prelude.{◌≡◌, Bool, true, false, List, [], ◌∷◌, ℕ, eqb, replicate}
use Rattle.model.specs.declared.Phase.TheVariants.{Leaving}
use Rattle.model.specs.declared.Refusal.TheVariants.{StillActive, HasLeft}
use Rattle.model.specs.declared.Module.{Module}
use Rattle.model.specs.State.{with_phase, with_registrations}
use Rattle.model.specs.Codes.{code_of}
use Rattle.model.specs.Events.{Act, notice, call, entry, non_delivery, hand_back, allow, at, Bytes, next}
use Rattle.model.specs.Cases.{gives, is_refused, is_nothing, fresh2, having, record0, zeros, byte64, result_on, every}

-- vCPU 0 leaving, and after its hand-back
abbrev leaving0 : Module
leaving0 = having (with_phase Leaving record0)

abbrev left0 : Module
left0 = next leaving0 (at 0 (hand_back zeros true false))

-- the event of vCPU 0 is refused with c
abbrev refuses : Module → ℕ → Act Bytes → Bool
refuses m c a = is_refused c (result_on m (at 0 a))

abbrev short : Bytes
short = replicate 255 0

unfoldable pub hand_backs : List Bool
hand_backs =
    -- the two refusals by their names
    eqb (code_of StillActive) 3
    ∷ eqb (code_of HasLeft) 7
    -- too early, whatever the page
    ∷ refuses fresh2 3 (hand_back zeros true false)
    ∷ refuses fresh2 3 (hand_back short true false)
    ∷ refuses fresh2 3 (hand_back [] false true)
    -- and also where nobody is registered any more, though the vCPU is served as before
    ∷ refuses (with_registrations 0 fresh2) 3 (hand_back zeros true false)
    ∷ is_nothing (result_on (with_registrations 0 fresh2) (at 0 (entry true false false)))
    -- in time
    ∷ refuses leaving0 2 (hand_back short true false)
    ∷ gives 65537 (result_on leaving0 (at 0 (hand_back zeros true false)))
    ∷ gives 65537 (result_on leaving0 (at 0 (hand_back (replicate 257 0) true false)))
    -- twice, whatever the page
    ∷ refuses left0 7 (hand_back zeros true false)
    ∷ refuses left0 7 (hand_back zeros false true)
    ∷ refuses left0 7 (hand_back short true false)
    ∷ refuses left0 7 (hand_back [] false false)
    -- of no vCPU, and of the other one, which is active
    ∷ is_refused 1 (result_on left0 (at 2 (hand_back [] true false)))
    ∷ is_refused 3 (result_on left0 (at 1 (hand_back zeros true false)))
    -- any other event
    ∷ refuses left0 0x80000001 (notice byte64)
    ∷ refuses left0 0x80000001 (notice [])
    ∷ refuses left0 0x80000001 (call 5 0 0)
    ∷ refuses left0 0x80000001 (call 1 2 0)
    ∷ refuses left0 0x80000001 (entry true false false)
    ∷ refuses left0 0x80000001 non_delivery
    ∷ refuses left0 0x80000001 (allow [] [])
    ∷ refuses left0 0x80000001 (allow (replicate 257 0x141) [])
    ∷ []

pub record WorkedHandBacks : Type 0 where
  pub hand_backs : every hand_backs ≡ true
