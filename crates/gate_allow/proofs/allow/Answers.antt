-- An unknown vCPU, a list that is refused or changes nothing, or the set and what is in flight stored.
use Rattle.std.proofs.Common.{ap, ◌∙◌, ℕ, Ok, Err, Some, None}
use Rattle.model.specs.declared.Stepped.{Stepped}
use Rattle.model.specs.State.{with_vcpu}
use Rattle.model.specs.Events.{allow, at, listed_out}
use Rattle.vcpu.proofs.Steps.{records_32}
use Rattle.gate.proofs.Known.{unstepped}
use Rattle.vcpu_allow.proofs.ListSteps.{list_read}
use Rattle.gate_allow.proofs.allow.Goals as goal

pub returns-in-Err : goal.returns-in-Err
returns-in-Err c =
    let a = c.args in
    ap (λ (r : Stepped ℕ). listed_out r a.values.now a.codes.now) c.refused.ensures
    ∙ unstepped a.m (at a.vcpu (allow a.values.now a.codes.now)) c.in-Err.c c.in-Err.ensures.value

pub returns-in-Some : goal.returns-in-Some
unfolding with_vcpu
returns-in-Some c =
    let a = c.args in
    list_read a.m a.vcpu a.values.now a.codes.now c.in-Ok.i _ c.in-Ok.ensures.value (records_32 a.m _ c.well_formed.0)
    c.allow_values.result (Ok (Some c.in-Some.allowed)) c.allow_values.new.codes c.allow_values.ensures (c.in-Ok-allow_values.is ∙ ap (λ o. Ok o) c.in-Some.is)

pub returns-in_default : goal.returns-in_default
returns-in_default c =
    let a = c.args in
    list_read a.m a.vcpu a.values.now a.codes.now c.in-Ok.i _ c.in-Ok.ensures.value (records_32 a.m _ c.well_formed.0)
    c.allow_values.result (Ok None) c.allow_values.new.codes c.allow_values.ensures (c.in-Ok-allow_values.is ∙ ap (λ o. Ok o) c.in_default.is)

pub returns-in-Err-allow_values : goal.returns-in-Err-allow_values
returns-in-Err-allow_values c =
    let a = c.args in
    ap (λ (r : Stepped ℕ). listed_out r a.values.now c.allow_values.new.codes) c.refused-in-Err-allow_values.ensures
    ∙ list_read a.m a.vcpu a.values.now a.codes.now c.in-Ok.i _ c.in-Ok.ensures.value (records_32 a.m _ c.well_formed.0)
    c.allow_values.result (Err c.in-Err-allow_values.c) c.allow_values.new.codes c.allow_values.ensures c.in-Err-allow_values.is
