-- `vcpu_entries::gain` meets its contract, by whether the set has the vector. Assumes nothing.
use mathlib.Core.Path.{sym, ◌∙◌}
use Rattle.vector_set.proofs.WordLaws.{array_words}
use Rattle.vcpu_entries.proofs.Sets.{gains_in, gains_out}
use Rattle.vcpu_entries.proofs.gain.Goals as goal

pub returns-then-contains : goal.returns-then-contains
returns-then-contains c =
    let a = c.args in
    c.insert.ensures ∙ gains_in a.x a.s a.t (sym c.contains.ensures ∙ c.if-contains.true)

pub returns : goal.returns
returns c =
    let a = c.args in
    gains_out a.x a.s a.t (sym c.contains.ensures ∙ c.if-contains.false) (array_words a.t _ c.well_formed.1.1.0)
