-- An unknown vCPU, a refusal, the step of the caller's record, or that step and the IPI.
use Rattle.std.proofs.Common.{arith, ◌≡◌, ap, ◌∙◌, [], ℕ, Err}
use Rattle.model.specs.State.{with_vcpu, with_registrations}
use Rattle.model.specs.Codes.{Answered}
use Rattle.model.specs.Events.{call, at, out_of}
use Rattle.gate.proofs.Known.{unstepped}
use Rattle.gate_calls.proofs.CallSteps.{call_refused, call_given, call_sent}
use Rattle.gate_mut_calls.proofs.call_in.Goals as goal

pub returns-in_err-i : goal.returns-in_err-i
returns-in_err-i c =
    let a = c.args in
    let gone : c.from_residual.result ≡ Err c.in_err-i.field-0.0 = grind arith in
    ap (λ (r : Answered ℕ). out_of (record { answer = r; after = a.m.now }) []) gone
    ∙ unstepped a.m.now (at a.vcpu (call a.number a.ecx a.rdx)) c.in_err-i.field-0.0 c.in_err-i.ensures.value

pub returns-in_err-called : goal.returns-in_err-called
returns-in_err-called c =
    let a = c.args in
    let gone : c.from_residual-in_err-called.result ≡ Err c.in_err-called.field-0.0 = grind arith in
    ap (λ (r : Answered ℕ). out_of (record { answer = r; after = a.m.now }) []) gone
    ∙ call_refused a.m.now a.vcpu c.in_ok-i.i c.in_ok-i.ensures.value (omega arith)
    a.number a.ecx a.rdx c.in_err-called.field-0.0 c.in_err-called.ensures

pub returns-in-Gives : goal.returns-in-Gives
unfolding with_vcpu with_registrations
returns-in-Gives c =
    let a = c.args in
    call_given a.m.now a.vcpu c.in_ok-i.i c.in_ok-i.ensures.value (omega arith)
    a.number a.ecx a.rdx c.in_ok-called.called c.in-Gives.value c.in-Gives.is c.in_ok-called.ensures

pub returns-in-Sends : goal.returns-in-Sends
unfolding with_vcpu with_registrations
returns-in-Sends c =
    let a = c.args in
    call_sent a.m.now a.vcpu c.in_ok-i.i c.in_ok-i.ensures.value (omega arith)
    a.number a.ecx a.rdx c.in_ok-called.called c.in-Sends.icr c.in-Sends.is c.in_ok-called.ensures _ c.send.ensures
