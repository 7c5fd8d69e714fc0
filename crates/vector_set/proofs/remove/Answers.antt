-- The word of v loses the bit of v.
use Rattle.std.proofs.Common.{arith}
use Rattle.vector_set.proofs.WordLaws.{array_words, remove_bit}
use Rattle.vector_set.proofs.remove.Goals as goal

pub returns : goal.returns
returns c = rw (c.word_of.ensures, c.bit_of.ensures) (remove_bit c.args.s c.args.v (array_words c.args.s _ c.well_formed.0) (omega arith))
