-- The number of each refusal, the verdict on an event, and what the functions' answers say (section 11).
-- Assumes nothing.
use Rattle.std.specs.Prelude.{Result as Fallible, Ok, Err, Bool, true, false, List, ℕ}
use Rattle.std.specs.Prelude.{Option, None, Some, unwrap_or}
use Rattle.model.specs.declared.Item.{Item}
use Rattle.model.specs.declared.Item.TheVariants as item
use Rattle.model.specs.declared.Refusal.{Refusal}
use Rattle.model.specs.declared.Refusal.TheVariants.{UnknownVcpu, ShortPage, StillActive, NothingInFlight, BadStart, NotActive}
use Rattle.model.specs.declared.Refusal.TheVariants.{UnknownCall, BadRegister, BadParameter, RegistrationsFull, NotRegistered, BadList, HasLeft}
use Rattle.model.specs.declared.Counts.{Counts}
use Rattle.model.specs.declared.Presentation.{Presentation}
use Rattle.model.specs.declared.Presentation.TheVariants as presentation

-- the table of codes (11.1 to 11.11, 11.21, 11.23)
abbrev pub code_of : Refusal → ℕ
code_of UnknownVcpu = 1
code_of ShortPage = 2
code_of StillActive = 3
code_of NothingInFlight = 4
code_of BadStart = 5
code_of NotActive = 0x80000001
code_of UnknownCall = 0x80000002
code_of BadRegister = 0x80000003
code_of BadParameter = 0x80000005
code_of RegistrationsFull = 0x80000007
code_of NotRegistered = 0x80001000
code_of BadList = 6
code_of HasLeft = 7

-- ---- whether an event is accepted: the first test that fails refuses
-- accepted, or refused for a cause (1.19)
pub data Verdict : Type 0 where
  accept : Verdict
  refuse : Refusal → Verdict

-- where the test fails the cause refuses; else the rest decides (11.12)
abbrev pub need : Bool → Refusal → Verdict → Verdict
need true c g = g
need false c g = refuse c

-- the code of a verdict on one value of a list: 0 if it is accepted (5.29)
abbrev pub verdict_code : Verdict → ℕ
verdict_code accept = 0
verdict_code (refuse c) = code_of c

-- ---- what an event gives
-- an entry's answer (8.4)
pub data Answer : Type 0 where
  nothing : Answer
  presents : Item → Answer
  window : ℕ → Answer

-- accepted with its number, a notice's two numbers, an entry's answer, a list's number and codes, or refused with its code: a refusal is told from an
-- accepted result of the same number (1.19, 11.20)
pub data Result : Type 0 where
  done : ℕ → Result
  -- how many of its items are new, and how many were merged (4.29, 4.37)
  counted : ℕ → ℕ → Result
  answers : Answer → Result
  -- a list's number, and the code of each of its values (5.29, 5.30)
  coded : ℕ → List ℕ → Result
  refused : ℕ → Result

-- what a function answers: an A, or why it refuses (13.9)
abbrev pub Answered : Type 0 → Type 0
Answered A = Fallible A Refusal

-- what a number says, of start, a guest call, a non-delivery or a hand-back (13.9)
abbrev pub result_of : Answered ℕ → Result
result_of (Ok x) = done x
result_of (Err c) = refused (code_of c)

-- what a notice's counts say (4.29, 4.37, 13.9)
abbrev pub admission_result : Answered Counts → Result
admission_result (Ok a) = counted a.new a.merged
admission_result (Err c) = refused (code_of c)

-- what an entry's presentation says (8.5)
abbrev pub answer_of : Presentation → Answer
answer_of presentation.Nothing = nothing
answer_of presentation.Nmi = presents item.Nmi
answer_of presentation.MachineCheck = presents item.MachineCheck
answer_of (presentation.Vector v) = presents (item.Vector v)
answer_of (presentation.Window v) = window v

-- the same of one that may be refused (8.5, 13.9)
abbrev pub presented_result : Answered Presentation → Result
presented_result (Ok p) = answers (answer_of p)
presented_result (Err c) = refused (code_of c)

-- what the answer to a list says, with the codes that it wrote (5.29, 5.30, 13.9)
abbrev pub list_result : Answered ℕ → List ℕ → Result
list_result (Ok x) ks = coded x ks
list_result (Err c) ks = refused (code_of c)

-- ---- what a result says
-- the event was accepted (12.23)
abbrev pub accepted : Result → Bool
accepted (done x) = true
accepted (counted a b) = true
accepted (answers a) = true
accepted (coded x ks) = true
accepted (refused c) = false

-- the code with which it refuses, if it does
abbrev pub refusal_of : Result → Option ℕ
refusal_of (done x) = None
refusal_of (counted a b) = None
refusal_of (answers a) = None
refusal_of (coded x ks) = None
refusal_of (refused c) = Some c

-- the code that it stands for in a list, 0 if it does not refuse (5.29, 13.71)
abbrev pub code_in : Result → ℕ
code_in r = unwrap_or (refusal_of r) 0

-- the item that an entry's answer presents
abbrev pub presented_in : Answer → Option Item
presented_in nothing = None
presented_in (presents y) = Some y
presented_in (window v) = None

-- the item that an event presented (12.23)
abbrev pub presented_by : Result → Option Item
presented_by (done x) = None
presented_by (counted a b) = None
presented_by (answers a) = presented_in a
presented_by (coded x ks) = None
presented_by (refused c) = None
