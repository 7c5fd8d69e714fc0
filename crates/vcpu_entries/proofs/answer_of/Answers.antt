-- `vcpu_entries::answer_of` meets its contract: what is answered before P is looked at, or what P decides. Assumes nothing.
use mathlib.Core.Path.{◌≡◌, sym, ap, ◌∙◌}
use mathlib.Core.Bool.{not, ◌&&◌}
use Rattle.std.specs.Prelude.{Option, None, Some, Ok, Err}
use Prim.Native.Nat.{ℕ}
use native.Mathlib.Omega.{arith}
use Rattle.model.specs.Codes.{answers, answer_of, presented_result}
use Rattle.model.specs.Registers.{ppr}
use Rattle.model.specs.Events.{offer_highest}
use Rattle.vcpu_stages.specs.Stages.{shown, vector_offer}
use Rattle.vcpu_entries.proofs.Answered.{shown_means, by_before}
use Rattle.vcpu_entries.proofs.answer_of.Goals as goal

pub returns-in_err-presentation : goal.returns-in_err-presentation
returns-in_err-presentation c =
    let a = c.args in
    let gone : c.from_residual.result ≡ Err c.in_err-presentation.field-0.0 = grind arith in
    ap presented_result gone ∙ by_before a.iflag a.shadow a.blocked a.v _ (sym c.in_err-presentation.was ∙ c.answer_before.ensures)

pub returns-in-Some : goal.returns-in-Some
returns-in-Some c =
    let a = c.args in
    by_before a.iflag a.shadow a.blocked a.v (Ok (Some c.in-Some.presentation)) (sym (c.in_ok-presentation.was ∙ ap Ok c.in-Some.is) ∙ c.answer_before.ensures)

pub returns : goal.returns
unfolding vector_offer
returns c =
    let a = c.args in
    ap (λ p. answers (answer_of p))
    (c.answer_to.ensures ∙ ap (λ (o : Option ℕ). shown (offer_highest (a.iflag && not a.shadow) (ppr a.v) o)) c.candidate.ensures)
    ∙ ap answers (shown_means (vector_offer (a.iflag && not a.shadow) a.v))
    ∙ by_before a.iflag a.shadow a.blocked a.v (Ok None) (sym (c.in_ok-presentation.was ∙ ap Ok c.in_default.is) ∙ c.answer_before.ensures)
