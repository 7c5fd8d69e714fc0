-- Where a program stands in its input: how a line is put together from what has been read, and the event of a line that has ended.
-- Assumes nothing.
use Rattle.std.specs.Prelude.{◌≡◌, ℕ, ◌+◌, ◌%◌, ◌^◌, Bool, true, false, cond, ◌&&◌, List, take, drop, nat_le, nat_lt}
use Rattle.trace.specs.Bytes.{index_of, slice}
use Rattle.trace.specs.declared.Event.{Event}
use Rattle.trace.specs.declared.Event.TheVariants.{Nothing}
use Rattle.trace.specs.Words.{words, rest}
use Rattle.trace.specs.Lines.{event_of, PageIs, ValuesAre}
use Rattle.console.specs.declared.buffer.Buffer.{Buffer}
use Rattle.console.specs.declared.Session.{Session}
use Rattle.console.specs.Filling.{reached, filled}

-- a line: its bytes, and how many are kept
abbrev pub Line : Type 0
Line = Buffer 65537

abbrev pub session : List ℕ → ℕ → ℕ → Line → Bool → ℕ → Bool → Session
session chunk from to line ended lines opened =
    record { chunk = chunk; from = from; to = to; line = line; ended = ended; lines = lines; «open» = opened }

-- nothing is kept, whatever the bytes are
abbrev pub emptied : Line → Line
emptied l = record { bytes = l.bytes; len = 0 }

-- the text is kept behind what is kept, as far as there is room
abbrev pub kept_behind : Line → List ℕ → Line
kept_behind l text = record { bytes = filled 65537 l.bytes l.len text; len = reached 65537 l.len text }

-- nothing is read, kept or counted, and the program goes on, whatever the bytes are
abbrev pub begun : List ℕ → List ℕ → Session
begun chunk bytes = session chunk 0 0 (record { bytes = bytes; len = 0 }) false 0 true

-- behind a line that has ended a new one begins
unfoldable pub renewed : Session → Session
renewed s = session s.chunk s.from s.to (cond s.ended (emptied s.line) s.line) false s.lines s.«open»

-- one line more, modulo 2^64
abbrev pub one_more : ℕ → ℕ
one_more n = (n + 1) % 2 ^ 64

-- the line has ended
abbrev pub ended : Session → Session
ended s = session s.chunk s.from s.to s.line true (one_more s.lines) s.«open»

-- some bytes of the chunk are not read yet
abbrev pub is_unread : Session → Bool
is_unread s = nat_lt s.from s.to && nat_le s.to 65536

-- how many bytes stand before the next newline, or before the end of what has been read
abbrev pub part_length : Session → ℕ
part_length s = index_of 10 (slice s.from s.to s.chunk)

-- these bytes
abbrev pub part : Session → List ℕ
part s = take (part_length s) (drop s.from s.chunk)

-- a newline ends the line
abbrev pub ends_here : Session → Bool
ends_here s = nat_lt (s.from + part_length s) s.to

-- the session has gone on to place n of the chunk, and has kept the bytes
abbrev pub gone_to : ℕ → Session → Session
gone_to n s = session s.chunk n s.to (kept_behind s.line (part s)) s.ended s.lines s.«open»

-- the bytes are kept, and the newline that ends them is passed
unfoldable pub kept_on : Session → Session
kept_on s = cond (ends_here s) (ended (gone_to (s.from + part_length s + 1) s)) (gone_to (s.from + part_length s) s)

-- going on in what has been read, which changes nothing but an ended line where all is read
unfoldable pub advanced : Session → Session
advanced s = cond (is_unread s) (kept_on (renewed s)) (renewed s)

-- the end of the input: it ends a line too, if some of one is kept
unfoldable pub closed : Session → Session
closed s =
    cond (nat_lt 0 s.line.len) (session s.chunk s.from s.to s.line true (one_more s.lines) false)
    (session s.chunk s.from s.to s.line s.ended s.lines false)

-- a line has ended, and is read
abbrev pub is_line : Session → Bool
is_line s = s.ended && nat_le s.line.len 65537

-- the bytes of the line that are kept
abbrev pub kept : Session → List ℕ
kept s = take s.line.len s.line.bytes

-- the event of the line that has ended: what `event_of` says of the bytes that are kept
unfoldable pub next_event : Session → Event
next_event s = cond (is_line s) (event_of (kept s)) Nothing

-- the words behind the event's name
abbrev pub behind_name : Session → List (List ℕ)
behind_name s = rest (words (kept s))

-- a line has its page and its values where it has them; where none has ended both stay as they are
pub record Beside (s : Session) (e : Event) (page values page' values' : List ℕ) : Type 0 where
  pub page_is : is_line s ≡ true → PageIs (behind_name s) e page'
  pub values_are : is_line s ≡ true → ValuesAre (behind_name s) e values'
  pub page_kept : is_line s ≡ false → page' ≡ page
  pub values_kept : is_line s ≡ false → values' ≡ values
