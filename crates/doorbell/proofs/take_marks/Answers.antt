-- `doorbell::take_marks` meets its contract.
use mathlib.Core.Path.{sym, ap, ◌∙◌}
use mathlib.Core.List.{List}
use Prim.Native.Nat.{ℕ}
use Rattle.vector_set.specs.Sets.{collect}
use Rattle.model.specs.Doorbell.{bit_of, many_bit, admits_edge}
use Rattle.descriptor.specs.Requests.{requested_in}
use borrow.Author.Rules.{rules}
use Rattle.doorbell.proofs.Notice.{lent_is}
use Rattle.doorbell.proofs.take_marks.Goals as goal

pub read_marks-edge-requires : goal.read_marks-edge-requires
read_marks-edge-requires c =
    let e = lent_is c.args.vmpl.level c.descriptor_at-first.result c.args.page.now {d = c.unwrap.result.now} c.descriptor_at-first.ensures (search rules) in (
      ap (λ (x : List ℕ). bit_of x many_bit) e ∙ c.requires.2,
      c.requires.3 ∙ ap (requested_in c.args.allowed) (sym e),
    )

pub returns : goal.returns
returns c =
    let e = lent_is c.args.vmpl.level c.descriptor_at-first.result c.args.page.now {d = c.unwrap.result.now} c.descriptor_at-first.ensures (search rules) in (
      c.read_marks-edge.ensures ∙ ap (λ (x : List ℕ). collect (admits_edge c.args.allowed x)) e,
      c.clear_page.ensures,
    )
