-- The definition computes to eight zeros.
use Rattle.std.proofs.Common.{refl}
use Rattle.vector_set.specs.Bits.{bits}
use Rattle.vector_set.specs.Sets.{empty, collect, words}
use Rattle.vector_set.proofs.no_vectors.Goals as goal

pub returns : goal.returns
unfolding empty collect words bits
returns c = refl
