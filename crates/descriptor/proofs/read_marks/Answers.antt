-- The level-sensitive vector is left out of the marked ones.
use borrow.Author.Rules.{rules}
use mathlib.Core.Path.{ap, ◌∙◌}
use mathlib.Core.List.{List}
use Prim.Native.Nat.{ℕ}
use Rattle.vector_set.specs.Sets.{from, intersection}
use Rattle.descriptor.proofs.Admits.{marks_are}
use Rattle.descriptor.proofs.read_marks.Goals as goal

pub returns : goal.returns
returns c =
    let a = c.args in
    marks_are a.allowed a.d.now _ (c.requested.view_is ∙ c.requires.1) (search rules) c.from_lowest-edge.result
    (c.from_lowest-edge.ensures
    ∙ ap (from 31) (c.intersection.ensures ∙ ap (λ (s : List ℕ). intersection s a.allowed) c.marks.ensures))
    c.requires.0
