-- The table's 256 entries are those that the listed rule computes to: one test by computing.
use Rattle.std.proofs.Common.{refl}
use Rattle.model.specs.Registers.{kind_of, is_read, is_write, is_both}
use Rattle.requests.proofs.kinds.table.Goals as goal

pub returns : goal.returns
unfolding kind_of is_read is_write is_both
returns c = refl
