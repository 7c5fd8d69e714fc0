-- The words that are left, told to the page as it is, are what all words tell to a page of zeros.
use Rattle.std.proofs.Common.{◌≡◌, sym, ◌∙◌, arith, None}
use Rattle.trace.proofs.Cells.{fill_byte, fill_none, fill_end}
use Rattle.trace.proofs.pages.fill.Goals as goal

pub returns-in_err-offset : goal.returns-in_err-offset
returns-in_err-offset c =
    let gone : c.from_residual.result ≡ None = grind arith in
    rw gone
    (c.loop-word.invariant ∙ fill_none c.args.long _ _ _ c.loop-word.page c.in-Some.ensures.steps (sym c.cell_of.ensures.value ∙ c.in_err-offset.was))

pub loop-word-preserved : goal.loop-word-preserved
loop-word-preserved c =
    c.loop-word.invariant
    ∙ fill_byte c.args.long _ _ _ c.loop-word.page c.in-Some.ensures.steps _ (sym c.cell_of.ensures.value ∙ c.in_ok-offset.was)

pub returns : goal.returns
returns c = c.loop-word.invariant ∙ fill_end c.args.long _ c.loop-word.page c.in-None.ensures.steps.0
