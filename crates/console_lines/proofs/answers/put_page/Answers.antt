-- `console_lines::answers::put_page` meets its contract.
use Rattle.std.proofs.Common.{rules, arith, ap, sym, ◌∙◌, length, length-append}
use Rattle.std.specs.Slice.Iter.{chunks_rest}
use Rattle.console.proofs.Fills.{puts_none, puts_same, puts_more}
use Rattle.console_lines.specs.Lines.{cells_below}
use Rattle.console_lines.proofs.Below.{all_cells, part_behind, rest_behind}
use Rattle.console_lines.proofs.answers.put_page.Goals as goal

pub loop-part-init : goal.loop-part-init
unfolding cells_below
loop-part-init c = record { size = search rules; long = search rules; rest = search rules; told = puts_none _ _ }

pub loop-part-preserved : goal.loop-part-preserved
loop-part-preserved c =
    let l = c.loop-part in
    let steps = c.in-Some.ensures.steps in
    let e = sym l.invariant.rest ∙ steps.1.0 in
    record {
      size = steps.0 ∙ l.invariant.size;
      long = omega (arith, ap length steps.1.0, length-append c.in-Some.part.now (chunks_rest c.next.new.self));
      rest = rest_behind l.first _ _ _ e;
      told = puts_same (part_behind l.first _ _ _ e) (puts_more l.invariant.told c.put_part.ensures);
    }

pub returns : goal.returns
returns c = let l = c.loop-part in puts_same (all_cells _ l.first (omega arith) (omega (arith, c.in-None.ensures.steps.1.0))) l.invariant.told
