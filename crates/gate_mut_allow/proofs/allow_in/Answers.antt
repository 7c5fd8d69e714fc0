-- An unknown vCPU, a list that is refused or changes nothing, or the set and what is in flight stored.
use Rattle.std.proofs.Common.{arith, ◌≡◌, ap, ◌∙◌, ℕ, ◌<◌, Ok, Err, Some, None}
use Rattle.model.specs.declared.Module.{Module}
use Rattle.model.specs.State.{with_vcpu}
use Rattle.model.specs.Codes.{Answered}
use Rattle.model.specs.Events.{allow, at, listed_out}
use Rattle.gate.proofs.Known.{unstepped}
use Rattle.gate_mut.proofs.InRow.{put_back}
use Rattle.vcpu_allow.proofs.ListSteps.{list_read}
use Rattle.gate_mut_allow.proofs.allow_in.Goals as goal

pub returns-in_err-i : goal.returns-in_err-i
returns-in_err-i c =
    let a = c.args in
    let gone : c.from_residual.result ≡ Err c.in_err-i.field-0.0 = grind arith in
    ap (λ (r : Answered ℕ). listed_out (record { answer = r; after = a.m.now }) a.values.now a.codes.now) gone
    ∙ unstepped a.m.now (at a.vcpu (allow a.values.now a.codes.now)) c.in_err-i.field-0.0 c.in_err-i.ensures.value

pub returns-in_err-allowed : goal.returns-in_err-allowed
unfolding with_vcpu
returns-in_err-allowed c =
    let a = c.args in
    let r = c.allow_values in
    let low : c.in_ok-i.i < 32 = c.in_ok-i.ensures.in_bounds in
    let gone : c.from_residual-in_err-allowed.result ≡ Err c.in_err-allowed.field-0.0 = grind arith in
    ap (λ (g : Module). listed_out (record { answer = c.from_residual-in_err-allowed.result; after = g }) a.values.now r.new.codes)
    (put_back a.m.now c.in_ok-i.i (omega (arith, low)))
    ∙ ap (λ (s : Answered ℕ). listed_out (record { answer = s; after = a.m.now }) a.values.now r.new.codes) gone
    ∙ list_read a.m.now a.vcpu a.values.now a.codes.now c.in_ok-i.i _ c.in_ok-i.ensures.value (omega arith)
    r.result (Err c.in_err-allowed.field-0.0) r.new.codes r.ensures c.in_err-allowed.was

pub returns-in-Some : goal.returns-in-Some
unfolding with_vcpu
returns-in-Some c =
    let a = c.args in
    let r = c.allow_values in
    list_read a.m.now a.vcpu a.values.now a.codes.now c.in_ok-i.i _ c.in_ok-i.ensures.value (omega arith)
    r.result (Ok (Some c.in-Some.allowed)) r.new.codes r.ensures (c.in_ok-allowed.was ∙ ap (λ o. Ok o) c.in-Some.is)

pub returns-in_default : goal.returns-in_default
unfolding with_vcpu
returns-in_default c =
    let a = c.args in
    let r = c.allow_values in
    let low : c.in_ok-i.i < 32 = c.in_ok-i.ensures.in_bounds in
    ap (λ (g : Module). listed_out (record { answer = Ok 0; after = g }) a.values.now r.new.codes) (put_back a.m.now c.in_ok-i.i (omega (arith, low)))
    ∙ list_read a.m.now a.vcpu a.values.now a.codes.now c.in_ok-i.i _ c.in_ok-i.ensures.value (omega arith)
    r.result (Ok None) r.new.codes r.ensures (c.in_ok-allowed.was ∙ ap (λ o. Ok o) c.in_default.is)
