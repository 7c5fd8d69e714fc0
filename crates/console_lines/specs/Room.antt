-- A line that is put into a buffer with little in it stands there whole: the programs write the buffer before a line where it holds more.
-- Assumes nothing.
use Rattle.std.specs.Prelude.{◌≡◌, List, ◌++◌, ℕ, ◌+◌, ◌≤◌, ◌<◌, length, get_or, take, drop}
use Rattle.model.specs.declared.Module.{Module}
use Rattle.model.specs.Codes.{Answered}
use Rattle.trace.specs.declared.Event.{Event}
use Rattle.console.specs.declared.Answer.{Answer}
use Rattle.console.specs.Filling.{Puts}
use Rattle.console_lines.specs.Lines.{line_of, state_line}

-- put behind at most 16,384 bytes of a buffer of 65,536, the text stands there from its first byte to its last
abbrev pub Stands : List ℕ → Type 0
Stands text =
    (out after : List ℕ) (at next : ℕ) → length out ≡ 65536 → at ≤ 16384 → Puts 65536 text out at after next
    → (after ≡ take at out ++ text ++ drop (at + length text) out) × (next ≡ at + length text)

-- every line does: those of events with a page of at most 4,096 bytes and at most 1,024 codes, and those of any module's state
pub record LinesFit : Type 0 where
  pub event : (page codes : List ℕ) (number : ℕ) (e : Event) (a : Answered Answer) → length page ≤ 4096 → ((i : ℕ) → get_or page i 0 < 256)
      → length codes ≤ 1024 → Stands (line_of page codes number e a)
  pub state : (m : Module) (k : ℕ) → Stands (state_line m k)
