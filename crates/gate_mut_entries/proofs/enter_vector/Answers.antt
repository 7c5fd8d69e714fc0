-- P decides: a vector is presented, any other answer is settled.
use mathlib.Core.Path.{sym, ◌∙◌}
use Rattle.model.specs.declared.Presentation.TheVariants.{Vector}
use Rattle.gate_mut_entries.proofs.StepLaws.{no_vector, settles, offer_found, vector_leaves}
use Rattle.gate_mut_entries.proofs.enter_vector.Goals as goal

pub returns-in-Vector : goal.returns-in-Vector
returns-in-Vector c =
    let a = c.args in
    let said = sym c.in-Vector.is ∙ offer_found a.ready a.v.now c.candidate.result c.candidate.ensures c.answer_to-answer.result c.answer_to-answer.ensures in
    (said, c.present.ensures ∙ vector_leaves a.ready a.v.now (Vector c.in-Vector.x) said)

pub returns-in_default : goal.returns-in_default
returns-in_default c =
    let a = c.args in
    let p = c.answer_to-answer.result in
    let said = offer_found a.ready a.v.now c.candidate.result c.candidate.ensures p c.answer_to-answer.ensures in
    (said, c.settle.ensures ∙ settles p a.v.now (no_vector p c.in_default.not-Vector) ∙ vector_leaves a.ready a.v.now p said)
