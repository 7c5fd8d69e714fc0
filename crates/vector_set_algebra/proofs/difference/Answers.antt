-- Word by word. Assumes nothing.
use Rattle.std.proofs.Common.{rules}
use Rattle.vector_set.proofs.WordLaws.{array_words, difference_words}
use Rattle.vector_set_algebra.proofs.difference.Goals as goal

pub returns : goal.returns
returns c =
    difference_words c.args.a c.args.b c.by_words.result (array_words c.args.b _ c.well_formed.1.0) (array_words c.by_words.result _ c.by_words.type_inv)
    (λ k l. let e = c.by_words.ensures k l in search rules)
