-- The set's bytes, the first two of them replaced.
use Rattle.hand_back.proofs.HandedLaws.{pending_of}
use Rattle.hand_back.proofs.write_pending.Goals as goal

pub returns : goal.returns
returns c =
    let v = c.args.v in
    pending_of v.irr v.irr_level v.nmi v.machine_check c.difference.ensures c.from_lowest-edge.ensures c.write_set.ensures
    c.highest_of-level.ensures.0 c.unwrap_or.ensures c.is_some.ensures c.is_empty.ensures c.flags.ensures
