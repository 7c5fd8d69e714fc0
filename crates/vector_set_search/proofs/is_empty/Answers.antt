-- `vector_set_search::is_empty` meets its contract, by what `highest_of` finds. Assumes nothing.
use Rattle.std.proofs.Common.{rules}
use Rattle.vector_set.specs.Sets.{is_empty}
use Rattle.vector_set_search.proofs.is_empty.Goals as goal

pub returns : goal.returns
unfolding is_empty
returns c = search rules
