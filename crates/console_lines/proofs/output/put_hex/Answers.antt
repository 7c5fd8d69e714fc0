-- `console_lines::output::put_hex` meets its contract: the digits that `io::hex` writes are the numeral.
use Rattle.console.proofs.Fills.{puts_more, puts_same}
use Rattle.console_lines.specs.Numerals.{in_hex}
use Rattle.console_lines.proofs.Fewest.{hex_is}
use Rattle.console_lines.proofs.output.put_hex.Goals as goal

pub returns : goal.returns
unfolding in_hex
returns c =
    puts_more (puts_more c.put.ensures c.put-2.ensures)
    (puts_same (hex_is _ _ _ c.ranges.n.fits c.hex-k.ensures.len c.hex-k.ensures.digits) c.put-3.ensures)
