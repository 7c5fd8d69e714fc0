-- `gate_entries::would_present` meets its contract: an unknown vCPU, or what an entry would answer on its record. Assumes nothing.
use Rattle.std.specs.Prelude.{is_some}
use mathlib.Core.Path.{ap, ◌∙◌}
use mathlib.Core.Bool.{true, false}
use Rattle.model.specs.declared.Vcpu.{Vcpu}
use Rattle.model.specs.Codes.{presented_by}
use Rattle.model.specs.Events.{entry, at, offer, vcpu_verdict, Out, would_present}
use Rattle.gate.proofs.Known.{found, unstepped}
use Rattle.vcpu.proofs.Steps.{below_32, records_32, record_is}
use Rattle.vcpu_stages.specs.Stages.{answered_on}
use Rattle.vcpu_entries.proofs.Asked.{asked}
use Rattle.gate_entries.proofs.would_present.Goals as goal

pub returns-in-Ok : goal.returns-in-Ok
returns-in-Ok c =
    let a = c.args in
    let i = c.in-Ok.i in
    let f = found a.m a.vcpu i c.in-Ok.ensures.value in
    c.would_present_vcpu.ensures
    ∙ ap (λ (v : Vcpu). is_some (presented_by (answered_on (vcpu_verdict 0 0 v (entry true false false)) (offer true false false v))))
    (record_is a.m i _ (below_32 a.m f.0) (records_32 a.m _ c.well_formed.0))
    ∙ asked a.m i f.0
    ∙ ap (would_present a.m) f.1

pub returns-in-Err : goal.returns-in-Err
unfolding would_present
returns-in-Err c =
    let a = c.args in
    ap (λ (o : Out). is_some (presented_by o.result)) (unstepped a.m (at a.vcpu (entry true false false)) c.in-Err.field-0 c.in-Err.ensures.value)
