-- `vcpu_entries::entry_vcpu` meets its contract, by what is answered. Assumes nothing.
use mathlib.Core.Path.{◌≡◌, refl, sym, ap, ◌∙◌}
use Rattle.model.specs.declared.Presentation.{Presentation}
use Rattle.std.specs.Prelude.{Err}
use native.Mathlib.Omega.{arith}
use Rattle.model.specs.Codes.{answers, answer_of}
use Rattle.model.specs.Requests.{forget}
use Rattle.model.specs.Events.{entered}
use Rattle.vcpu.specs.Records.{entered_vcpu}
use Rattle.vcpu_entries.proofs.Told.{entering, none_shown}
use Rattle.vcpu_entries.proofs.entry_vcpu.Goals as goal

pub returns-in_err-answer : goal.returns-in_err-answer
returns-in_err-answer c =
    let gone : c.from_residual.result ≡ Err c.in_err-answer.field-0.0 = grind arith in
    ap (entered_vcpu c.args.v) gone ∙ entering _ _ c.args.v _ _ c.in_err-answer.ensures refl

pub returns-in-Nmi : goal.returns-in-Nmi
returns-in-Nmi c =
    entering _ _ c.args.v _ _ c.in_ok-answer.ensures
    (c.present_nmi-vcpu.ensures ∙ ap (λ (p : Presentation). entered (answer_of p) (forget c.args.v)) (sym c.in-Nmi.is))

pub returns-in-MachineCheck : goal.returns-in-MachineCheck
returns-in-MachineCheck c =
    entering _ _ c.args.v _ _ c.in_ok-answer.ensures
    (c.present_machine_check-vcpu.ensures ∙ ap (λ (p : Presentation). entered (answer_of p) (forget c.args.v)) (sym c.in-MachineCheck.is))

pub returns-in-Vector : goal.returns-in-Vector
returns-in-Vector c =
    entering _ _ c.args.v _ _ (ap (λ (p : Presentation). answers (answer_of p)) (sym c.in-Vector.is) ∙ c.in_ok-answer.ensures) c.present_vector-vcpu.ensures

pub returns-in_default : goal.returns-in_default
returns-in_default c =
    let d = c.in_default in
    entering _ _ c.args.v _ _ c.in_ok-answer.ensures
    (c.with_flight-vcpu.ensures ∙ none_shown c.in_ok-answer.answer c.args.v d.not-Nmi d.not-MachineCheck d.not-Vector)
