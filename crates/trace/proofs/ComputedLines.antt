-- The worked lines, computed.
-- Assumes nothing.
use mathlib.Core.Path.{◌≡◌, refl, sym, ap, ◌∙◌}
use mathlib.Core.List.{List, [], ◌∷◌, map}
use Prim.Native.Nat.{ℕ}
use lib.ListN.{take}
use Rattle.std.specs.Prelude.{Option, Some, None}
use Rattle.trace.specs.Numbers.{digit, digits_from, digits_of, is_hex, number_of, up_to}
use Rattle.trace.specs.Words.{spaces, ending, words_after, words, rest, same, first}
use Rattle.trace.specs.Lists.{is_value, are_values, count_of}
use Rattle.trace.specs.Pages.{fill}
use Rattle.trace.specs.Lines.{given, taking, only, paged, start, notice, call, entry, non_delivery, hand_back, allow, ask, name_in, named, spoken}
use Rattle.trace.specs.Lines.{is_comment, event_of}
use Rattle.trace.specs.WorkedLines.{WorkedLines}

-- a list of numbers is known by its values
abbrev value_in : Option ℕ → ℕ
value_in (Some v) = v
value_in None = 0

values_in : (vs : List ℕ) → map value_in (map Some vs) ≡ vs
values_in [] = refl
values_in (v ∷ vs) = ap (λ us. v ∷ us) (values_in vs)

pub worked_lines : WorkedLines
unfolding digit digits_from digits_of is_hex number_of up_to spaces ending words_after words rest same first is_value are_values count_of given taking only start call
    entry non_delivery fill paged notice hand_back allow ask name_in named spoken is_comment event_of
worked_lines =
    record {
      start = refl;
      call = refl;
      entry = refl;
      shadow = refl;
      blocked = refl;
      non_delivery = refl;
      allow = refl;
      bare = refl;
      largest = refl;
      unfilled = refl;
      too_long = refl;
      too_wide = refl;
      garbled = refl;
      values = λ vs h. sym (ap (map value_in) h.2 ∙ values_in (take 2 vs));
      notice = refl;
      hand_back = refl;
      shadowed = refl;
      ask = refl;
      ask_wide = refl;
      ask_too_wide = refl;
      ask_bare = refl;
      ask_twice = refl;
      state = refl;
    }
