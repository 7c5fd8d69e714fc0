-- P decides where no mark is presented; otherwise the answer is settled.
use Rattle.std.specs.Prelude.{Ok, Err}
use mathlib.Core.Path.{◌≡◌, sym, ap, ◌∙◌}
use native.Mathlib.Omega.{arith}
use Rattle.model.specs.declared.Presentation.{Presentation}
use Rattle.model.specs.Codes.{Answered}
use Rattle.gate_mut_entries.specs.Steps.{entered_in}
use Rattle.gate_mut_entries.proofs.StepLaws.{refusal_stands, mark_stands, vector_stands}
use Rattle.gate_mut_entries.proofs.enter.Goals as goal

pub returns-in_err-presentation : goal.returns-in_err-presentation
returns-in_err-presentation c =
    let a = c.args in
    let gone : c.from_residual.result ≡ Err c.in_err-presentation.field-0.0 = grind arith in
    ap (λ (r : Answered Presentation). entered_in r a.v.now) gone
    ∙ refusal_stands a.iflag a.shadow a.blocked a.v.now c.in_err-presentation.field-0.0 (sym c.in_err-presentation.was ∙ c.answer_before.ensures)

pub returns-in-Some : goal.returns-in-Some
returns-in-Some c =
    let a = c.args in
    mark_stands a.iflag a.shadow a.blocked a.v.now c.in-Some.presentation (sym (c.in_ok-presentation.was ∙ ap Ok c.in-Some.is) ∙ c.answer_before.ensures) _
    c.settle.ensures

pub returns : goal.returns
returns c =
    let a = c.args in
    vector_stands a.iflag a.shadow a.blocked a.v.now (sym (c.in_ok-presentation.was ∙ ap Ok c.in_default.is) ∙ c.answer_before.ensures) _ _
    c.enter_vector.ensures
