-- `doorbell::take_request` meets its contract: unannounced, or announced, by bit 14.
use mathlib.Core.Path.{ap, ◌∙◌}
use borrow.Author.Rules.{rules}
use Rattle.descriptor.specs.Requests.{requested_in}
use Rattle.doorbell.proofs.Notice.{announced_by, unannounced_by, lent_is, unannounced, announced, page_left, page_cleared}
use Rattle.doorbell.proofs.take_request.Goals as goal
use Rattle.doorbell.proofs.take_request.Goals.{then-not-requested, else-not-requested}

pub returns-then-page-announcing_bit-eq0 : goal.returns-then-page-announcing_bit-eq0
returns-then-page-announcing_bit-eq0 c =
    let v = c.args.vmpl in
    unannounced v.level c.args.allowed c.args.page.now
    (unannounced_by v.level c.args.page.now v.of_a_guest c.announcing_bit.ensures c.if-page-announcing_bit-eq0.true)

pub clear_page-requires : goal.clear_page-requires
clear_page-requires c =
    let v = c.args.vmpl in
    (c.requires, announced_by v.level c.args.page.now v.of_a_guest c.announcing_bit.ensures c.if-page-announcing_bit-eq0.false)

pub returns : goal.returns
returns c =
    let v = c.args.vmpl in
    let a = c.args.allowed in
    let p = c.args.page.now in
    let q = c.read_request-requested.ensures ∙ ap (requested_in a) (lent_is v.level c.descriptor_at-first.result p c.descriptor_at-first.ensures (search rules)) in (
      announced v.level a p (announced_by v.level p v.of_a_guest c.announcing_bit.ensures c.if-page-announcing_bit-eq0.false) q,
      elim c.if-not-requested.branch [
        | then-not-requested w ↦ w.page-is ∙ page_cleared v.level a p (c.requested.view_is ∙ q) w.if-not-requested.true w.clear_page.ensures
        | else-not-requested w ↦ w.page-is ∙ page_left v.level a p (c.requested.view_is ∙ q) w.if-not-requested.false
      ],
    )
