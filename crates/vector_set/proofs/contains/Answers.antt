-- The bit of v is tested in the word of v.
use Rattle.std.specs.Prelude.{◌/◌, ◌%◌}
use lib.ListN.{get_or}
use Rattle.vector_set.specs.Sets.{has}
use Rattle.vector_set.proofs.BitLaws.{mask_test}
use Rattle.vector_set.proofs.contains.Goals as goal

pub returns : goal.returns
unfolding has
returns c = rw (c.word_of.ensures, c.bit_of.ensures) (mask_test (c.args.v % 32) (get_or c.args.s (c.args.v / 32) 0))
