-- The word is taken apart at its first `=`.
use Rattle.std.proofs.Common.{◌≡◌, sym, ◌∙◌, arith, None}
use Rattle.std.proofs.lemmas.Grind.{common_steps}
use Rattle.trace.specs.Pages.{cell}
use Rattle.trace.proofs.Cells.{cell_plain, cell_split, no_offset, no_value}
use Rattle.trace.proofs.pages.cell_of.Goals as goal

pub returns-in_err-equals-clause-value : goal.returns-in_err-equals-clause-value
returns-in_err-equals-clause-value c =
    let gone : c.from_residual.result ≡ None = grind arith in
    gone ∙ sym (cell_plain c.args.long c.args.word.now (sym c.in_err-equals.was ∙ c.place_of.ensures))

pub returns-in_err-offset-clause-value : goal.returns-in_err-offset-clause-value
returns-in_err-offset-clause-value c =
    let gone : c.from_residual-in_err-offset.result ≡ None = grind arith in
    gone ∙ sym (cell_split c.args.long c.args.word.now _ c.in_ok-equals.ensures ∙ no_offset _ _ _ (sym c.number_of.ensures ∙ c.in_err-offset.was))

pub returns-in_err-value-clause-value : goal.returns-in_err-value-clause-value
returns-in_err-value-clause-value c =
    let gone : c.from_residual-in_err-value.result ≡ None = grind arith in
    gone
    ∙ sym (cell_split c.args.long c.args.word.now _ c.in_ok-equals.ensures
    ∙ no_value _ _ _ _ (sym c.number_of.ensures ∙ c.in_ok-offset.was) (sym c.number_of-2.ensures ∙ c.in_err-value.was))

pub returns-then-value-le255-clause-value : goal.returns-then-value-le255-clause-value
unfolding cell
returns-then-value-le255-clause-value c =
    let e = cell_split c.args.long c.args.word.now _ c.in_ok-equals.ensures in grind (arith, common_steps, e)

pub returns-else-offset-long-clause-value : goal.returns-else-offset-long-clause-value
unfolding cell
returns-else-offset-long-clause-value c =
    let e = cell_split c.args.long c.args.word.now _ c.in_ok-equals.ensures in grind (arith, common_steps, e)
