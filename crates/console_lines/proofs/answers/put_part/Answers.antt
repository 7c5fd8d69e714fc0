-- `console_lines::answers::put_part` meets its contract.
use Rattle.std.proofs.Common.{◌≡◌, arith, rules, ap, ◌∙◌}
use Rattle.std.specs.Int.{w64, from_le_bytes}
use Rattle.std.proofs.lemmas.Nat.{le_bytes_8}
use Rattle.console.proofs.Fills.{puts_none, puts_same}
use Rattle.console_lines.proofs.Below.{no_cells}
use Rattle.console_lines.proofs.answers.put_part.Goals as goal

-- the number that eight bytes are is 0, so they are zeros
pub returns : goal.returns
returns c =
    let part = c.args.part.now in
    let eight = c.in-Some.ensures.cases in
    let zero : 0 ≡ c.from_le_bytes.result = omega arith in
    let number = zero ∙ c.from_le_bytes.ensures ∙ ap (from_le_bytes w64) eight.same in
    puts_same (no_cells c.args.first part (le_bytes_8 part 0 eight.long (search rules) number)) (puts_none _ _)
