-- The words that were passed are the values so far, and the others are left.
use Rattle.std.proofs.Common.{◌≡◌, sym, ◌∙◌, arith, None}
use lib.ListN.{length-set}
use Rattle.trace.proofs.Listing.{one_more, no_more, too_many_lem, all_counted}
use Rattle.trace.proofs.lists.fill.Goals as goal

pub returns-in_err-value-clause-value : goal.returns-in_err-value-clause-value
returns-in_err-value-clause-value c =
    let l = c.loop-word in
    let gone : c.from_residual.result ≡ None = grind arith in
    gone ∙ no_more _ _ _ _ l.count l.values l.invariant.2 c.in-Some.ensures.steps (sym c.up_to.ensures.value ∙ c.in_err-value.was)

pub returns-then-count-eq-ROOM-clause-value : goal.returns-then-count-eq-ROOM-clause-value
returns-then-count-eq-ROOM-clause-value c =
    let l = c.loop-word in too_many_lem _ _ _ _ l.count l.values l.invariant.2 c.in-Some.ensures.steps c.if-count-eq-ROOM.true

pub loop-word-preserved : goal.loop-word-preserved
loop-word-preserved c =
    let l = c.loop-word in (
      omega arith,
      length-set l.values l.count _ ∙ l.invariant.1,
      one_more _ _ _ _ l.count l.values l.invariant.2 c.in-Some.ensures.steps _ (omega arith) (sym c.up_to.ensures.value ∙ c.in_ok-value.was),
    )

pub returns-clause-value : goal.returns-clause-value
returns-clause-value c =
    let l = c.loop-word in all_counted _ _ l.count l.values l.invariant.2 c.in-None.ensures.steps.0 l.invariant.0
