-- `console_lines::answers::put_cell` meets its contract.
use mathlib.Core.Bool.{Bool, cond}
use mathlib.Core.List.{[], ◌++◌}
use borrow.Author.Tests.{ne_eqb}
use Rattle.trace.specs.Words.{ascii}
use Rattle.console_lines.specs.Numerals.{in_hex}
use Rattle.console_lines.specs.Lines.{cell_text}
use Rattle.console.proofs.Fills.{puts_none, puts_of, puts_more}
use Rattle.console_lines.proofs.Below.{put_as}
use Rattle.console_lines.proofs.answers.put_cell.Goals as goal

pub returns-then-b-eq0 : goal.returns-then-b-eq0
returns-then-b-eq0 c = puts_of (cell_text _) c.if-b-eq0.true (puts_none _ _)

pub returns : goal.returns
returns c =
    let a = c.args in
    puts_of (λ (t : Bool). cond t [] (in_hex (ascii " ") a.offset ++ in_hex (ascii "=") a.b)) (ne_eqb a.b 0 c.if-b-eq0.false)
    (puts_more c.put_hex.ensures (put_as _ c.from.ensures c.put_hex-2.ensures))
