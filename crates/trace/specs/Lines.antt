-- A line of a trace: the event that it is, and the page or the list that it tells.
-- Assumes nothing.
use Rattle.std.specs.Prelude.{◌≡◌, Bool, cond, List, [], ◌∷◌, ℕ, ◌≤◌, eqb, ltb, length, get_or, drop, Option, Some, None}
use Rattle.trace.specs.declared.Name.{Name}
use Rattle.trace.specs.declared.Name.TheVariants as name
use Rattle.trace.specs.declared.Event.{Event}
use Rattle.trace.specs.declared.Event.TheVariants.{Nothing, Unreadable, Start, Notice, Call, Entry, NonDelivery, HandBack, Allow, Ask, State}
use Rattle.trace.specs.Numbers.{max32}
use Rattle.trace.specs.Words.{ascii, words, first, rest, same}
use Rattle.trace.specs.Pages.{fill, zeros}
use Rattle.trace.specs.Lists.{max_list, count_of, Holds}

-- ---- arguments
-- the limits beside `max32` and `max_list`: a number of 64 bits, a flag, the length of a page
abbrev pub max64 : ℕ
max64 = 0xFFFF_FFFF_FFFF_FFFF

abbrev pub max_flag : ℕ
max_flag = 1

abbrev pub max_length : ℕ
max_length = 4096

abbrev pub is_one : ℕ → Bool
is_one v = eqb v 1

-- an event of arguments, one for each limit, and of the words that follow them
abbrev pub Made : List ℕ → Type 0
Made [] = List (List ℕ) → Event
Made (m ∷ ms) = ℕ → Made ms

-- the event of a value, where there is one
unfoldable pub given : {T : Type 0} → Option T → (T → Event) → Event
given (Some v) f = f v
given None f = Unreadable

-- the event of a line whose first words are numbers up to the limits
unfoldable pub taking : (limits : List ℕ) → List (List ℕ) → Made limits → Event
taking [] ws f = f ws
taking (m ∷ ms) ws f = given (first m ws) λ v. taking ms (rest ws) (f v)

-- ---- what follows the name of an event
-- no word follows
unfoldable pub only : List (List ℕ) → Event → Event
only [] e = e
only (w ∷ ws) e = Unreadable

-- the words that follow are bytes of the page
unfoldable pub paged : Option (List ℕ) → Event → Event
paged (Some p) e = e
paged None e = Unreadable

-- `start N L`
unfoldable pub start : List (List ℕ) → Event
start ws = taking (max32 ∷ max32 ∷ []) ws λ n l us. only us (Start n l)

-- `notice VCPU LENGTH [OFFSET=BYTE ...]`
unfoldable pub notice : List (List ℕ) → Event
notice ws = taking (max32 ∷ max_length ∷ []) ws λ i long us. paged (fill long us zeros) (Notice i long)

-- `call VCPU CALL ECX RDX`
unfoldable pub call : List (List ℕ) → Event
call ws = taking (max32 ∷ max32 ∷ max32 ∷ max64 ∷ []) ws λ i c ecx rdx us. only us (Call i c ecx rdx)

-- `entry VCPU IF SHADOW BLOCKED`
unfoldable pub entry : List (List ℕ) → Event
entry ws = taking (max32 ∷ max_flag ∷ max_flag ∷ max_flag ∷ []) ws λ i f s b us. only us (Entry i (is_one f) (is_one s) (is_one b))

-- `nondelivery VCPU`
unfoldable pub non_delivery : List (List ℕ) → Event
non_delivery ws = taking (max32 ∷ []) ws λ i us. only us (NonDelivery i)

-- `handback VCPU IF SHADOW LENGTH [OFFSET=BYTE ...]`
unfoldable pub hand_back : List (List ℕ) → Event
hand_back ws =
    taking (max32 ∷ max_flag ∷ max_flag ∷ max_length ∷ []) ws λ i f s long us. paged (fill long us zeros) (HandBack i (is_one f) (is_one s) long)

-- `allow VCPU LENGTH FILL [ECX ...]`
unfoldable pub allow : List (List ℕ) → Event
allow ws = taking (max32 ∷ max_list ∷ max32 ∷ []) ws λ i long x us. given (count_of us) λ n. Allow i n long x

-- `ask VCPU`
unfoldable pub ask : List (List ℕ) → Event
ask ws = taking (max32 ∷ []) ws λ i us. only us (Ask i)

-- ---- lines
abbrev pub names : List (List ℕ × Name)
names =
    (ascii "start", name.Start)
    ∷ (ascii "notice", name.Notice)
    ∷ (ascii "call", name.Call)
    ∷ (ascii "entry", name.Entry)
    ∷ (ascii "nondelivery", name.NonDelivery)
    ∷ (ascii "handback", name.HandBack)
    ∷ (ascii "allow", name.Allow)
    ∷ (ascii "ask", name.Ask)
    ∷ (ascii "state", name.State)
    ∷ []

unfoldable pub name_in : List (List ℕ × Name) → List ℕ → Option Name
name_in [] w = None
name_in (n ∷ ns) w = cond (same w n.0) (Some n.1) (name_in ns w)

abbrev pub name_of : List ℕ → Option Name
name_of w = name_in names w

unfoldable pub named : Name → List (List ℕ) → Event
named name.Start ws = start ws
named name.Notice ws = notice ws
named name.Call ws = call ws
named name.Entry ws = entry ws
named name.NonDelivery ws = non_delivery ws
named name.HandBack ws = hand_back ws
named name.Allow ws = allow ws
named name.Ask ws = ask ws
named name.State ws = only ws State

-- a line without words is passed over; one whose first word is no name is unreadable
unfoldable pub spoken : List (List ℕ) → Event
spoken [] = Nothing
spoken (w ∷ ws) = given (name_of w) λ n. named n ws

-- the line begins with `#`
unfoldable pub is_comment : List ℕ → Bool
is_comment line = eqb (get_or line 0 0) 35

-- a line that begins with `#` is passed over; any other of more than 65,536 bytes is unreadable
unfoldable pub event_of : List ℕ → Event
event_of line =
    cond (is_comment line) Nothing
    (cond (ltb 65536 (length line)) Unreadable
    (spoken (words line)))

-- ---- the page of an event, after the words that follow its name: as long as the event says, with the bytes that the last words tell
abbrev pub PageIs : List (List ℕ) → Event → List ℕ → Type 0
PageIs ws Nothing p = Unit
PageIs ws Unreadable p = Unit
PageIs ws (Start n l) p = Unit
PageIs ws (Notice i long) p = (long ≤ 4096) × (fill long (drop 2 ws) zeros ≡ Some p)
PageIs ws (Call i c ecx rdx) p = Unit
PageIs ws (Entry i f s b) p = Unit
PageIs ws (NonDelivery i) p = Unit
PageIs ws (HandBack i f s long) p = (long ≤ 4096) × (fill long (drop 4 ws) zeros ≡ Some p)
PageIs ws (Allow i n long x) p = Unit
PageIs ws (Ask i) p = Unit
PageIs ws State p = Unit

-- ---- the values of an event's list, after the words that follow its name: the numbers of the words after the first three, in order;
-- neither of its lists is longer than 1,024
abbrev pub ValuesAre : List (List ℕ) → Event → List ℕ → Type 0
ValuesAre ws Nothing vs = Unit
ValuesAre ws Unreadable vs = Unit
ValuesAre ws (Start n l) vs = Unit
ValuesAre ws (Notice i long) vs = Unit
ValuesAre ws (Call i c ecx rdx) vs = Unit
ValuesAre ws (Entry i f s b) vs = Unit
ValuesAre ws (NonDelivery i) vs = Unit
ValuesAre ws (HandBack i f s long) vs = Unit
ValuesAre ws (Allow i n long x) vs = (long ≤ max_list) × (n ≤ max_list) × Holds (drop 3 ws) n vs
ValuesAre ws (Ask i) vs = Unit
ValuesAre ws State vs = Unit
