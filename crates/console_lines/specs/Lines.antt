-- The lines that the programs print, as docs/REPLAY.md has them.
-- Assumes nothing.
use Rattle.std.specs.Prelude.{Ok, Err, Bool, true, false, cond, ◌&&◌, List, [], ◌∷◌, ◌++◌, ℕ, zero, suc, ◌+◌, ◌-◌, eqb, ltb, length, get_or, take}
use Rattle.vector_set.specs.Sets.{has}
use Rattle.model.specs.declared.Refusal.{Refusal}
use Rattle.model.specs.declared.Counts.{Counts}
use Rattle.model.specs.declared.Presentation.{Presentation}
use Rattle.model.specs.declared.Presentation.TheVariants as presentation
use Rattle.model.specs.declared.Phase.{Phase}
use Rattle.model.specs.declared.Phase.TheVariants as phase
use Rattle.model.specs.declared.InFlight.{InFlight}
use Rattle.model.specs.declared.InFlight.TheVariants as flight
use Rattle.model.specs.declared.Vcpu.{Vcpu}
use Rattle.model.specs.declared.Module.{Module}
use Rattle.model.specs.Codes.{code_of, Answered}
use Rattle.model.specs.State.{vcpu_at}
use Rattle.trace.specs.declared.Event.{Event}
use Rattle.trace.specs.declared.Event.TheVariants as event
use Rattle.trace.specs.Words.{ascii}
use Rattle.console.specs.declared.Answer.{Answer}
use Rattle.console.specs.declared.Answer.TheVariants as answer
use Rattle.console_lines.specs.Numerals.{in_hex, in_decimal}

abbrev pub newline : List ℕ
newline = 10 ∷ []

-- ---- answers
abbrev pub refusal_text : Refusal → List ℕ
refusal_text r = in_hex (ascii " refused ") (code_of r)

abbrev pub number_text : ℕ → List ℕ
number_text v = in_hex (ascii " ok ") v

-- how many items are new, and how many were merged
abbrev pub counts_text : Counts → List ℕ
counts_text a = in_hex (ascii " ok ") a.new ++ in_hex (ascii " ") a.merged

abbrev pub presentation_text : Presentation → List ℕ
presentation_text presentation.Nothing = ascii " nothing"
presentation_text presentation.Nmi = ascii " nmi"
presentation_text presentation.MachineCheck = ascii " mc"
presentation_text (presentation.Vector v) = in_hex (ascii " vector ") v
presentation_text (presentation.Window v) = in_hex (ascii " window ") v

abbrev pub asked_text : Bool → List ℕ
asked_text true = ascii " yes"
asked_text false = ascii " no"

-- what an event gives that is not refused
abbrev pub given_text : Answer → List ℕ
given_text answer.Nothing = []
given_text (answer.Number v) = number_text v
given_text (answer.Counts a) = counts_text a
given_text (answer.Presentation p) = presentation_text p
given_text (answer.Asked b) = asked_text b

abbrev pub answer_text : Answered Answer → List ℕ
answer_text (Ok a) = given_text a
answer_text (Err r) = refusal_text r

-- ---- pages and codes
-- ` OFFSET=BYTE`, where the byte is not 0
abbrev pub cell_text : ℕ → ℕ → List ℕ
cell_text offset b = cond (eqb b 0) [] (in_hex (ascii " ") offset ++ in_hex (ascii "=") b)

-- the cells of the first bytes, lowest offset first
unfoldable pub cells_below : ℕ → List ℕ → List ℕ
cells_below zero page = []
cells_below (suc i) page = cells_below i page ++ cell_text i (get_or page i 0)

-- the same of a part, whose first byte has the offset `first`
unfoldable pub cells_from : ℕ → ℕ → List ℕ → List ℕ
cells_from first zero part = []
cells_from first (suc i) part = cells_from first i part ++ cell_text (first + i) (get_or part i 0)

abbrev pub part_text : ℕ → List ℕ → List ℕ
part_text first part = cells_from first (length part) part

abbrev pub page_text : List ℕ → List ℕ
page_text page = cells_below (length page) page

abbrev pub code_text : ℕ → List ℕ
code_text code = in_hex (ascii " ") code

-- the first codes, in order
unfoldable pub codes_below : ℕ → List ℕ → List ℕ
codes_below zero codes = []
codes_below (suc i) codes = codes_below i codes ++ code_text (get_or codes i 0)

abbrev pub codes_text : List ℕ → List ℕ
codes_text codes = codes_below (length codes) codes

-- ---- the line of an event
-- its name and its answer
abbrev pub plain_line : List ℕ → Answered Answer → List ℕ
plain_line name a = name ++ answer_text a ++ newline

-- start answers with the module, of which nothing is printed
abbrev pub start_line : Answered Answer → List ℕ
start_line (Ok answer.Nothing) = plain_line (ascii "start") (Ok answer.Nothing)
start_line (Ok (answer.Number v)) = ascii "start ok" ++ newline
start_line (Ok (answer.Counts a)) = plain_line (ascii "start") (Ok (answer.Counts a))
start_line (Ok (answer.Presentation p)) = plain_line (ascii "start") (Ok (answer.Presentation p))
start_line (Ok (answer.Asked b)) = plain_line (ascii "start") (Ok (answer.Asked b))
start_line (Err r) = plain_line (ascii "start") (Err r)

abbrev pub paged_line : List ℕ → Answered Answer → List ℕ → List ℕ
paged_line name a page = name ++ answer_text a ++ ascii " page" ++ page_text page ++ newline

abbrev pub listed_line : Answered Answer → List ℕ → List ℕ
listed_line a codes = ascii "allow" ++ answer_text a ++ ascii " codes" ++ codes_text codes ++ newline

abbrev pub unreadable_line : ℕ → List ℕ
unreadable_line number = in_decimal (ascii "error line ") number ++ newline

-- of a page and the second list of an event, the number of its line, the event and its answer
abbrev pub line_of : List ℕ → List ℕ → ℕ → Event → Answered Answer → List ℕ
line_of page codes number event.Nothing a = []
line_of page codes number event.Unreadable a = unreadable_line number
line_of page codes number (event.Start n l) a = start_line a
line_of page codes number (event.Notice i long) a = paged_line (ascii "notice") a (take long page)
line_of page codes number (event.Call i c ecx rdx) a = plain_line (ascii "call") a
line_of page codes number (event.Entry i f s b) a = plain_line (ascii "entry") a
line_of page codes number (event.NonDelivery i) a = plain_line (ascii "nondelivery") a
line_of page codes number (event.HandBack i f s long) a = paged_line (ascii "handback") a (take long page)
line_of page codes number (event.Allow i n long x) a = listed_line a (take long codes)
line_of page codes number (event.Ask i) a = plain_line (ascii "ask") a
line_of page codes number event.State a = []

-- ---- the lines of a module's state
-- a text has begun
abbrev pub begun : List ℕ → Bool
begun [] = false
begun (b ∷ s) = true

-- a member of a set, behind others or as the first
abbrev pub member_text : Bool → ℕ → List ℕ
member_text true v = in_hex (ascii ",") v
member_text false v = in_hex [] v

-- the members below v, lowest first
unfoldable pub members_below : ℕ → List ℕ → List ℕ
members_below zero s = []
members_below (suc v) s = members_below v s ++ cond (has s v) (member_text (begun (members_below v s)) v) []

abbrev pub members_text : List ℕ → List ℕ
members_text s = members_below 256 s

abbrev pub set_text : List ℕ → List ℕ → List ℕ
set_text name s = name ++ ascii "{" ++ members_text s ++ ascii "}"

abbrev pub phase_text : Phase → List ℕ
phase_text phase.Active = ascii " phase=active"
phase_text phase.Leaving = ascii " phase=leaving"
phase_text phase.Left = ascii " phase=left"

abbrev pub flight_text : InFlight → List ℕ
flight_text flight.Nothing = ascii " flight=nothing"
flight_text flight.Nmi = ascii " flight=nmi"
flight_text flight.MachineCheck = ascii " flight=mc"
flight_text (flight.Vector v) = in_hex (ascii " flight=") v

abbrev pub sets_text : Vcpu → List ℕ
sets_text v =
    set_text (ascii " allowed=") v.allowed
    ++ set_text (ascii " pending=") v.irr
    ++ set_text (ascii " service=") v.isr
    ++ set_text (ascii " pending_level=") v.irr_level
    ++ set_text (ascii " serving_level=") v.isr_level

-- a mark, as a number
abbrev pub bit : Bool → ℕ
bit b = cond b 1 0

abbrev pub vcpu_line : ℕ → Vcpu → List ℕ
vcpu_line i v =
    in_hex (ascii "vcpu ") i
    ++ phase_text v.phase
    ++ flight_text v.flight
    ++ in_hex (ascii " nmi=") (bit v.nmi)
    ++ in_hex (ascii " tpr=") v.tpr
    ++ in_hex (ascii " icr=") v.icr
    ++ sets_text v
    ++ in_hex (ascii " mc=") (bit v.machine_check)
    ++ in_hex (ascii " summary=") v.summary
    ++ newline

abbrev pub module_line : Module → List ℕ
module_line m = in_hex (ascii "module n=") m.n ++ in_hex (ascii " vmpl=") m.vmpl ++ in_hex (ascii " count=") m.registrations ++ newline

-- line 0 is the module's own, line i + 1 that of vCPU i: one for each vCPU below n
abbrev pub state_line : Module → ℕ → List ℕ
state_line m k =
    cond (eqb k 0) (module_line m)
    (cond (ltb (k - 1) 32 && ltb (k - 1) m.n) (vcpu_line (k - 1) (vcpu_at m (k - 1))) [])
