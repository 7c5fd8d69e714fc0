-- What holds of every record of a module that events reach from what start gives (section 13).
-- Assumes nothing.
use Rattle.std.specs.Prelude.{◌≡◌, true, false, List, ℕ, ◌<◌}
use Rattle.model.specs.declared.InFlight.TheVariants as flight
use Rattle.model.specs.declared.Vcpu.{Vcpu}
use Rattle.model.specs.State.{is_active}
use Rattle.model.specs.Requests.{may_name}
use Rattle.vector_set.specs.Sets.{Words, has}
use Rattle.vector_set.specs.Summaries.{summary_of}

-- a set of vectors 31 to 255 and its level-sensitive part; eight words of 32 bits have no member above 255 (13.13)
pub record Levelled (s t : List ℕ) : Type 0 where
  pub words : Words s
  pub level_words : Words t
  pub vectors : (x : ℕ) → x < 31 → has s x ≡ false
  pub within : (x : ℕ) → x < 256 → has t x ≡ true → has s x ≡ true

-- the summary is true of P (2.19, 13.76)
abbrev pub Summarised : Vcpu → Type 0
Summarised v = v.summary ≡ summary_of v.irr

-- the rules on P, S, PL and SL, and the byte (13.13, 13.76)
pub record Ruled (v : Vcpu) : Type 0 where
  pub irr : Levelled v.irr v.irr_level
  pub isr : Levelled v.isr v.isr_level
  pub summary : Summarised v

-- a vector in flight is in service (13.15)
abbrev pub InService : Vcpu → Type 0
InService v = (x : ℕ) → v.flight ≡ flight.Vector x → has v.isr x ≡ true

-- what holds of each record: what a saved state is to be held to, `ruled` and `in_service` (02, A11), and what is true besides where events reach it.
-- `in_service` stays by the rest alone: of a vCPU that is leaving with its vector in flight a hand-back empties S (13.13 to 13.16, 13.76)
pub record Sound (v : Vcpu) : Type 0 where
  pub ruled : Ruled v
  pub in_service : InService v
  -- A holds 2, 18 and 31 to 255 alone
  pub words : Words v.allowed
  pub nameable : (x : ℕ) → x < 256 → has v.allowed x ≡ true → may_name x ≡ true
  -- where the vCPU is not active nothing is in flight
  pub inactive : is_active v.phase ≡ false → v.flight ≡ flight.Nothing
