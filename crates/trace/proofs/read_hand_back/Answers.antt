-- The words behind the arguments tell the page.
use Rattle.std.proofs.Common.{refl, sym, ap, ◌∙◌, List, ℕ}
use Rattle.trace.specs.Words.{words}
use Rattle.trace.specs.Pages.{zeros, fill}
use Rattle.trace.proofs.Events.{rest_drop}
use Rattle.trace.proofs.read_hand_back.Goals as goal

pub returns-clause-page_is : goal.returns-clause-page_is
returns-clause-page_is c =
    let ws = words c.args.line.left.now in
    let e = rest_drop 3 ws _ _ (rest_drop 2 ws _ _ (rest_drop 1 ws _ _ (rest_drop 0 ws _ _ refl c.number32.ensures.others) c.flag.ensures.others) c.flag-2.ensures.others) c.number.ensures.others in
    (c.in_ok-length.ensures.upper_bound, sym (ap (λ (us : List (List ℕ)). fill c.in_ok-length.length us zeros) e) ∙ c.in_ok-fill.ensures)
