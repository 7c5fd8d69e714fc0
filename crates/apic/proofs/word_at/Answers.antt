-- The word that is stored is the number of its members.
use Rattle.std.proofs.Common.{sym, ◌∙◌}
use Rattle.vector_set.proofs.Laws.{word_of_word}
use Rattle.vector_set.proofs.WordLaws.{array_words}
use Rattle.apic.proofs.word_at.Goals as goal

pub returns : goal.returns
returns c = c.from.ensures ∙ sym (word_of_word c.args.s (array_words c.args.s _ c.well_formed.0) c.args.k c.requires)
