-- `vector_set_search::with_word` meets its contract: bit k is cleared, and the word's mark put there. Assumes nothing.
use mathlib.Core.Bool.{not}
use native.Mathlib.Omega.{arith}
use lib.Dec.{eqb}
use Rattle.vector_set_search.proofs.Marks.{bit_anew}
use Rattle.vector_set_search.proofs.with_word.Goals as goal

pub returns : goal.returns
returns c =
    let start = c in
    bit_anew start.args.summary start.args.k c.mark_of.result (not (eqb start.args.word 0)) (omega arith) start.requires c.mark_of.ensures
