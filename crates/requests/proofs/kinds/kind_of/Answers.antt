-- Outside the table nothing is listed, and in it the entry is what the listed rule gives for its number.
use Rattle.std.proofs.Common.{arith, ap, ◌∙◌, ◌-◌, List, get_or}
use Rattle.model.specs.Registers.{kind_of, is_read, is_write, is_both}
use Rattle.model.specs.declared.Kind.{Kind}
use Rattle.model.specs.declared.Kind.TheVariants.{None}
use Rattle.requests.proofs.Table.{at}
use Rattle.requests.proofs.kinds.kind_of.Goals as goal
use Rattle.requests.proofs.kinds.kind_of.Goals.{then-r-lt-FIRST-via-then-r-lt-FIRST, then-r-lt-FIRST-via-else-r-lt-FIRST+then-r-gt-LAST}

pub returns-then-r-lt-FIRST : goal.returns-then-r-lt-FIRST
unfolding kind_of is_read is_write is_both
returns-then-r-lt-FIRST c =
    elim c.then-r-lt-FIRST.branch [
      | then-r-lt-FIRST-via-then-r-lt-FIRST w ↦ grind (arith)
      | then-r-lt-FIRST-via-else-r-lt-FIRST+then-r-gt-LAST w ↦ grind (arith)
    ]

pub returns : goal.returns
returns c =
    ap (λ (t : List Kind). get_or t (c.args.r - 0x800) None) c.table-kinds.ensures
    ∙ at kind_of None 0x800 256 c.args.r c.if-r-lt-FIRST.false (omega arith)
