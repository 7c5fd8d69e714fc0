-- `vcpu::items::post_item` meets its contract: the item's posting makes it pending. Assumes nothing.
use Rattle.ipi.proofs.Marks.{byte_item, word_small}
use Rattle.vcpu.proofs.items.post_item.Goals as goal

pub returns : goal.returns
returns c = c.post.ensures.1 c.args.item c.posting_of.ensures

pub post-requires : goal.post-requires
post-requires c = rw c.posting_of.ensures (word_small _ (byte_item c.args.item _ c.well_formed.1.0))
