-- `vcpu::notices::add_request` meets its contract: the posting, then the level marks in the same word. Assumes nothing.
use mathlib.Core.Path.{ap}
use Rattle.vcpu.specs.Notices.{level_in}
use Rattle.vcpu.proofs.notices.add_request.Goals as goal

pub returns : goal.returns
returns c = let a = c.args in ap (level_in a.posting a.level) c.post-w.ensures.0
