-- `vcpu::notices::mark_words` meets its contract. Assumes nothing.
use mathlib.Core.Path.{ap}
use lib.Bits.{bit_or}
use Rattle.vcpu.proofs.notices.mark_words.Goals as goal

pub returns : goal.returns
returns c = ap (bit_or c.args.summary) c.summary_of.ensures
