-- A text that is put into bytes from a place on, as far as there is room.
-- Assumes nothing.
use Rattle.std.specs.Prelude.{◌≡◌, ℕ, ◌+◌, ◌-◌, List, length, take}
use Rattle.std.proofs.lemmas.List.Edits.{sets}
use Rattle.console.specs.declared.buffer.Buffer.{Buffer}

-- as much of the text as there is room for from place `at` on, of `room` places
unfoldable pub fitting : ℕ → ℕ → List ℕ → List ℕ
fitting room at text = take (room - at) text

-- the bytes with that much of the text from place `at` on; all others as before
unfoldable pub filled : ℕ → List ℕ → ℕ → List ℕ → List ℕ
filled room bytes at text = sets bytes at (fitting room at text)

-- the place behind it
unfoldable pub reached : ℕ → ℕ → List ℕ → ℕ
reached room at text = at + length (fitting room at text)

-- what a function that puts a text leaves: the bytes after it, and the place behind it
pub record Puts (room : ℕ) (text bytes : List ℕ) (at : ℕ) (after : List ℕ) (next : ℕ) : Type 0 where
  pub stored : after ≡ filled room bytes at text
  pub behind : next ≡ reached room at text

-- the same of a buffer, as it was and as it is then
abbrev pub Adds : {room : ℕ} → List ℕ → Buffer room → Buffer room → Type 0
Adds {room} text b after = Puts room text b.bytes b.len after.bytes after.len
