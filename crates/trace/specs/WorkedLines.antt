-- Worked lines: which word of a line is which argument, and which are the values of a list.
-- Assumes nothing.
use Rattle.std.specs.Prelude.{◌≡◌, true, false, List, [], ◌∷◌, ℕ, take}
use Rattle.trace.specs.declared.Event.TheVariants.{Unreadable, Start, Notice, Call, Entry, NonDelivery, HandBack, Allow, Ask, State}
use Rattle.trace.specs.Words.{ascii, words}
use Rattle.trace.specs.Lines.{event_of, ValuesAre}

pub record WorkedLines : Type 0 where
  pub start : event_of (ascii "start 2 1") ≡ Start 2 1
  pub call : event_of (ascii "call 1 3 0x808 4") ≡ Call 1 3 0x808 4
  pub entry : event_of (ascii "entry 2 1 0 0") ≡ Entry 2 true false false
  pub shadow : event_of (ascii "entry 2 0 1 0") ≡ Entry 2 false true false
  pub blocked : event_of (ascii "entry 2 0 0 1") ≡ Entry 2 false false true
  pub non_delivery : event_of (ascii "nondelivery 3") ≡ NonDelivery 3
  -- vCPU 1, two values, a second list of five entries 3
  pub allow : event_of (ascii "allow 1 5 3 0x141 0x52") ≡ Allow 1 2 5 3
  pub bare : event_of (ascii "allow 1 0 0") ≡ Allow 1 0 0 0
  pub largest : event_of (ascii "allow 0xffffffff 1024 0xffffffff 0xffffffff") ≡ Allow 0xFFFFFFFF 1 1024 0xFFFFFFFF
  pub unfilled : event_of (ascii "allow 1 5") ≡ Unreadable
  pub too_long : event_of (ascii "allow 1 1025 0") ≡ Unreadable
  pub too_wide : event_of (ascii "allow 1 1 0 0x141 0x100000000") ≡ Unreadable
  pub garbled : event_of (ascii "allow 1 1 0 0x141 x") ≡ Unreadable
  -- and the values that stand beside it, in the line's order
  pub values : (vs : List ℕ) → ValuesAre (words (ascii "1 5 3 0x141 0x52")) (Allow 1 2 5 3) vs → take 2 vs ≡ 0x141 ∷ 0x52 ∷ []
  pub notice : event_of (ascii "notice 1 256") ≡ Notice 1 256
  pub hand_back : event_of (ascii "handback 1 1 0 256") ≡ HandBack 1 true false 256
  pub shadowed : event_of (ascii "handback 1 0 1 256") ≡ HandBack 1 false true 256
  pub ask : event_of (ascii "ask 3") ≡ Ask 3
  pub ask_wide : event_of (ascii "ask 0xffffffff") ≡ Ask 0xFFFFFFFF
  pub ask_too_wide : event_of (ascii "ask 0x100000000") ≡ Unreadable
  pub ask_bare : event_of (ascii "ask") ≡ Unreadable
  pub ask_twice : event_of (ascii "ask 3 3") ≡ Unreadable
  pub state : event_of (ascii "state") ≡ State
