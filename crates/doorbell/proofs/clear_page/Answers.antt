-- `doorbell::clear_page` meets its contract: the page is that of `page_is`.
use borrow.Author.Rules.{rules}
use Rattle.doorbell.proofs.Notice.{noticed_is, finish}
use Rattle.doorbell.proofs.clear_page.Goals as goal

pub returns : goal.returns
returns c =
    let v = c.args.vmpl in
    let p = c.args.page.now in
    noticed_is v.level p c.requires.1
    (finish v.level c.descriptor_at-first.result p c.clear_descriptor.new.d c.descriptor_at-first.ensures c.announcing_bit.ensures v.of_a_guest
    c.requires.0 (λ j. search rules) c.clear_descriptor.ensures)
