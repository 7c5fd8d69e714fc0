-- Two halves of 32 bytes.
use mathlib.Core.Path.{ap₂}
use mathlib.Core.List.{◌++◌}
use Rattle.model.specs.Doorbell.{handed_bytes}
use Rattle.model.specs.Events.{handed}
use Rattle.hand_back.proofs.HandedLaws.{serving_of}
use Rattle.hand_back.proofs.write_handed.Goals as goal

pub returns : goal.returns
unfolding handed_bytes handed
returns c =
    let v = c.args.v in
    ap₂ ◌++◌ c.write_pending.ensures (serving_of v.isr v.isr_level c.difference.ensures c.from_lowest-serving.ensures c.write_set.ensures)
