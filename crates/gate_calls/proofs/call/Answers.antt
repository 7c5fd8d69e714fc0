-- An unknown vCPU, a refusal, the step of the caller's record, or that step and the IPI.
use Rattle.std.proofs.Common.{ap, ◌∙◌, [], ℕ}
use Rattle.model.specs.declared.Stepped.{Stepped}
use Rattle.model.specs.State.{with_vcpu, with_registrations}
use Rattle.model.specs.Events.{call, at, out_of}
use Rattle.vcpu.proofs.Steps.{records_32}
use Rattle.gate.proofs.Known.{unstepped}
use Rattle.gate_calls.proofs.CallSteps.{call_refused, call_given, call_sent}
use Rattle.gate_calls.proofs.call.Goals as goal

pub returns-in-Err : goal.returns-in-Err
returns-in-Err c =
    let a = c.args in
    ap (λ (r : Stepped ℕ). out_of r []) c.refused.ensures ∙ unstepped a.m (at a.vcpu (call a.number a.ecx a.rdx)) c.in-Err.c c.in-Err.ensures.value

pub returns-in-Err-call_vcpu : goal.returns-in-Err-call_vcpu
returns-in-Err-call_vcpu c =
    let a = c.args in
    ap (λ (r : Stepped ℕ). out_of r []) c.refused-in-Err-call_vcpu.ensures
    ∙ call_refused a.m a.vcpu c.in-Ok.i c.in-Ok.ensures.value (records_32 a.m _ c.well_formed.0)
    a.number a.ecx a.rdx c.in-Err-call_vcpu.c c.in-Err-call_vcpu.ensures

pub returns-in-Gives : goal.returns-in-Gives
unfolding with_vcpu with_registrations
returns-in-Gives c =
    let a = c.args in
    call_given a.m a.vcpu c.in-Ok.i c.in-Ok.ensures.value (records_32 a.m _ c.well_formed.0)
    a.number a.ecx a.rdx c.in-Ok-call_vcpu.called c.in-Gives.value c.in-Gives.is c.in-Ok-call_vcpu.ensures

pub returns-in-Sends : goal.returns-in-Sends
unfolding with_vcpu with_registrations
returns-in-Sends c =
    let a = c.args in
    call_sent a.m a.vcpu c.in-Ok.i c.in-Ok.ensures.value (records_32 a.m _ c.well_formed.0)
    a.number a.ecx a.rdx c.in-Ok-call_vcpu.called c.in-Sends.icr c.in-Sends.is c.in-Ok-call_vcpu.ensures _ c.send-value.ensures
