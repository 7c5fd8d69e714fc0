-- The definitions compute: sets of a few vectors, written out.
-- Assumes nothing.
use mathlib.Core.Path.{◌≡◌, refl}
use mathlib.Core.Bool.{true, false}
use mathlib.Core.List.{List, [], ◌∷◌}
use Rattle.std.specs.Prelude.{None, Some}
use Prim.Native.Nat.{ℕ}
use Rattle.vector_set.specs.Bits.{bits}
use Rattle.vector_set.specs.Sets.{has, words, collect, empty, full, insert, remove, union, difference, intersection, from, highest_below}
use Rattle.vector_set.specs.Sets.{highest, count_below, count, is_empty, word_of}

-- {0x1E, 0x1F, 0x41}
three : List ℕ
three = 0xC000_0000 ∷ 0 ∷ 2 ∷ 0 ∷ 0 ∷ 0 ∷ 0 ∷ 0 ∷ []

member : has three 0x41 ≡ true
unfolding has three
member = refl

no_member : has three 0x40 ≡ false
unfolding has three
no_member = refl

inserted : insert 0x41 (insert 0x1E (insert 0x1F empty)) ≡ three
unfolding three insert empty collect words bits has
inserted = refl

removed : remove 0x41 three ≡ (0xC000_0000 ∷ 0 ∷ 0 ∷ 0 ∷ 0 ∷ 0 ∷ 0 ∷ 0 ∷ [])
unfolding three remove collect words bits has
removed = refl

from_lowest : from 31 three ≡ (0x8000_0000 ∷ 0 ∷ 2 ∷ 0 ∷ 0 ∷ 0 ∷ 0 ∷ 0 ∷ [])
unfolding three from collect words bits has
from_lowest = refl

joined : difference (union three (insert 0xFF empty)) (intersection three (insert 0x41 empty)) ≡ (0xC000_0000 ∷ 0 ∷ 0 ∷ 0 ∷ 0 ∷ 0 ∷ 0 ∷ 0x8000_0000 ∷ [])
unfolding three insert union difference intersection empty collect words bits has
joined = refl

highest_three : highest three ≡ Some 0x41
unfolding three highest highest_below has
highest_three = refl

highest_empty : highest empty ≡ None
unfolding empty collect words bits highest highest_below has
highest_empty = refl

count_three : count three ≡ 3
unfolding three count count_below has
count_three = refl

count_full : count full ≡ 256
unfolding full collect words bits count count_below has
count_full = refl

is_empty_lem : is_empty empty ≡ true
unfolding is_empty empty collect words bits highest highest_below has
is_empty_lem = refl

not_empty : is_empty three ≡ false
unfolding is_empty three highest highest_below has
not_empty = refl

word_two : word_of three 2 ≡ 2
unfolding word_of three bits has
word_two = refl
