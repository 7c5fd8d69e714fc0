-- What the functions below `entry_in` leave of the record that they are lent.
-- Assumes nothing.
use Rattle.std.specs.Prelude.{Bool, ℕ}
use Rattle.vector_set.specs.Sets.{remove}
use Rattle.model.specs.declared.Item.TheVariants as item
use Rattle.model.specs.declared.Presentation.{Presentation}
use Rattle.model.specs.declared.Vcpu.{Vcpu}
use Rattle.model.specs.State.{with_irr_level, with_isr_level}
use Rattle.model.specs.Codes.{Answered, presents, presented_result}
use Rattle.model.specs.Requests.{forget}
use Rattle.model.specs.Events.{gains, entered}
use Rattle.vcpu.specs.Records.{VcpuOut}
use Rattle.vcpu_stages.specs.Stages.{vector_offer}

-- the level mark of x goes from PL to SL (8.12)
abbrev pub level_moved : ℕ → Vcpu → Vcpu
level_moved x v = with_isr_level (gains x v.irr_level v.isr_level) (with_irr_level (remove x v.irr_level) v)

-- x is presented (8.11, 8.12, 8.14)
abbrev pub vector_shown : ℕ → Vcpu → Vcpu
vector_shown x v = entered (presents (item.Vector x)) (forget v)

-- what P decides is done (8.8 to 8.15)
abbrev pub vector_entered : Bool → Vcpu → Vcpu
vector_entered ready v = entered (vector_offer ready v) (forget v)

-- an entry's answer, and the record after it
abbrev pub entered_in : Answered Presentation → Vcpu → VcpuOut
entered_in r v = record { result = presented_result r; vcpu = v }
