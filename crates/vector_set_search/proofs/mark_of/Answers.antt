-- `vector_set_search::mark_of` meets its contract: the word's test, shifted. Assumes nothing.
use mathlib.Core.Bool.{not}
use lib.Dec.{eqb}
use Rattle.vector_set_search.proofs.Marks.{shifted}
use Rattle.vector_set_search.proofs.mark_of.Goals as goal

pub returns : goal.returns
returns c = rw c.from.ensures (shifted (not (eqb c.args.word 0)) c.args.k c.requires)
