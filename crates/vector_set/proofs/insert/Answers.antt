-- The word of v gains the bit of v.
use Rattle.std.proofs.Common.{arith}
use Rattle.vector_set.proofs.WordLaws.{array_words, insert_bit}
use Rattle.vector_set.proofs.insert.Goals as goal

pub returns : goal.returns
returns c = rw (c.word_of.ensures, c.bit_of.ensures) (insert_bit c.args.s c.args.v (array_words c.args.s _ c.well_formed.0) (omega arith))
