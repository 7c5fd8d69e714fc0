-- `vector_set_algebra::from_lowest` meets its contract: the lowest word keeps bit 31, the others stay. Assumes nothing.
use Rattle.vector_set.proofs.WordLaws.{array_words, from_lowest_words}
use Rattle.vector_set_algebra.proofs.from_lowest.Goals as goal

pub returns : goal.returns
returns c = from_lowest_words c.args.s (array_words c.args.s _ c.well_formed.0)
