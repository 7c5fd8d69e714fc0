-- `console_lines::output::put_decimal` meets its contract: the digits that `io::decimal` writes are the numeral.
use Rattle.console.proofs.Fills.{puts_more, puts_same}
use Rattle.console_lines.specs.Numerals.{in_decimal}
use Rattle.console_lines.proofs.Fewest.{decimal_is}
use Rattle.console_lines.proofs.output.put_decimal.Goals as goal

pub returns : goal.returns
unfolding in_decimal
returns c = puts_more c.put.ensures (puts_same (decimal_is _ _ _ c.ranges.n.fits c.decimal-k.ensures.len c.decimal-k.ensures.digits) c.put-2.ensures)
