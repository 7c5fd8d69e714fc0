-- The worked lines, by computation.
-- Assumes nothing.
use mathlib.Core.Path.{refl}
use Rattle.vector_set.specs.Sets.{has}
use Rattle.console_lines.specs.Numerals.{numeral, in_hex, in_decimal}
use Rattle.console_lines.specs.Lines.{cells_below, codes_below, members_below}
use Rattle.console_lines.specs.WorkedOutput.{WorkedOutput}

pub worked : WorkedOutput
unfolding numeral in_hex in_decimal cells_below codes_below members_below has
worked =
    record {
      unreadable = refl;
      started = refl;
      not_started = refl;
      notice = refl;
      entry = refl;
      codes = refl;
      asked = refl;
      members = refl;
      none = refl;
    }
