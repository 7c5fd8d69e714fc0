-- The bytes lent are put back where the descriptor begins.
use Rattle.model.specs.Events.{handed}
use Rattle.hand_back.proofs.HandedLaws.{put_back}
use Rattle.hand_back.proofs.hand_over.Goals as goal

pub returns : goal.returns
returns c =
    put_back c.args.vmpl.level c.descriptor_at-first.result c.write_handed.new.bytes (handed c.args.v) c.args.page.now c.descriptor_at-first.ensures
    c.write_handed.ensures
