-- An entry as code goes about it: what it answers by the verdict, before it looks at P and then, and what it changes of a record (section 8).
-- Assumes nothing.
use Rattle.std.specs.Prelude.{Option, None, Some, Ok, Err, Bool, true, false, cond, not, ◌&&◌, ◌||◌, ℕ, ◌-◌, ◌/◌, ◌%◌, ◌^◌, eqb}
use Rattle.std.specs.Int.Bits.{bit_and, bit_or}
use Rattle.vector_set.specs.Bits.{bit_at, bits}
use Rattle.vector_set.specs.Sets.{highest}
use Rattle.vector_set.specs.Summaries.{in_marked}
use Rattle.model.specs.declared.InFlight.TheVariants as flight
use Rattle.model.specs.declared.Item.TheVariants as item
use Rattle.model.specs.declared.Presentation.{Presentation}
use Rattle.model.specs.declared.Presentation.TheVariants.{Nothing, Nmi, MachineCheck, Vector, Window}
use Rattle.model.specs.declared.Refusal.TheVariants.{NotActive}
use Rattle.model.specs.declared.Vcpu.{Vcpu}
use Rattle.model.specs.State.{is_active, is_in_flight, with_nmi, with_machine_check, with_flight}
use Rattle.model.specs.Codes.{code_of, Answered, Verdict, accept, refuse, Answer, nothing, presents, window, Result, answers, refused}
use Rattle.model.specs.Registers.{ppr}
use Rattle.model.specs.Events.{offer_highest}
use Rattle.vcpu_stages.specs.declared.words.Marks.{Marks}
use Rattle.vcpu_stages.specs.declared.words.Words.{Words}
use Rattle.vcpu_stages.specs.declared.words.LevelWords.{LevelWords}

-- ---- answers
-- the result of an entry, by the verdict on it
abbrev pub answered_on : Verdict → Answer → Result
answered_on accept a = answers a
answered_on (refuse c) a = refused (code_of c)

-- an answer as the functions give it
abbrev pub shown : Answer → Presentation
shown nothing = Nothing
shown (presents item.Nmi) = Nmi
shown (presents item.MachineCheck) = MachineCheck
shown (presents (item.Vector x)) = Vector x
shown (window x) = Window x

-- what an entry answers without a look at P; `None` where P decides (8.2, 8.6, 8.7, 8.17, 8.18)
unfoldable pub answer_before : Bool → Bool → Vcpu → Answered (Option Presentation)
answer_before sh bl v =
    cond (is_active v.phase) (Ok (cond v.machine_check (Some MachineCheck) (cond (v.nmi && not (sh || bl)) (Some Nmi) None))) (Err NotActive)

-- what P decides, once there is no mark to be presented (8.8 to 8.13, 8.20)
unfoldable pub vector_offer : Bool → Vcpu → Answer
vector_offer ready v = offer_highest ready (ppr v) (highest (in_marked v.summary v.irr))

-- an entry finds nothing to present and nothing to forget, without a look at P (8.24)
unfoldable pub rests_on : Vcpu → Bool
rests_on v = is_active v.phase && not (is_in_flight v.flight) && eqb v.summary 0 && not (v.nmi || v.machine_check)

-- ---- what is stored
-- the marks and what is in flight after an entry that presents no vector (8.3, 8.6, 8.14, 8.15, 8.17)
abbrev pub marks_of : Presentation → Vcpu → Marks
marks_of Nothing v = record { nmi = v.nmi; machine_check = v.machine_check; flight = flight.Nothing }
marks_of Nmi v = record { nmi = false; machine_check = v.machine_check; flight = flight.Nmi }
marks_of MachineCheck v = record { nmi = v.nmi; machine_check = false; flight = flight.MachineCheck }
marks_of (Vector x) v = record { nmi = v.nmi; machine_check = v.machine_check; flight = flight.Nothing }
marks_of (Window x) v = record { nmi = v.nmi; machine_check = v.machine_check; flight = flight.Nothing }

-- one of them changes: a mark is presented, or something was in flight
abbrev pub marks_change : Presentation → Vcpu → Bool
marks_change Nothing v = is_in_flight v.flight
marks_change Nmi v = true
marks_change MachineCheck v = true
marks_change (Vector x) v = is_in_flight v.flight
marks_change (Window x) v = is_in_flight v.flight

-- what is stored of them, if anything
unfoldable pub marks_after : Presentation → Vcpu → Option Marks
marks_after p v = cond (marks_change p v) (Some (marks_of p v)) None

-- the record with them
abbrev pub settled : Presentation → Vcpu → Vcpu
settled p v = with_flight (marks_of p v).flight (with_machine_check (marks_of p v).machine_check (with_nmi (marks_of p v).nmi v))

-- the bit of the vector x in its word, and all others
abbrev pub bit_of : ℕ → ℕ
bit_of x = 2 ^ (x % 32)

abbrev pub others_of : ℕ → ℕ
others_of x = (2 ^ 32 - 1) - bit_of x

-- the words of P and S, p and s, and the summary b, once x has left the one for the other (8.11, 2.21)
unfoldable pub words_after : ℕ → ℕ → ℕ → ℕ → Words
words_after x p s b =
    record {
      irr = bit_and p (others_of x);
      isr = bit_or s (bit_of x);
      summary = bits (λ j. cond (eqb j (x / 32)) (not (eqb (bit_and p (others_of x)) 0)) (bit_at b j)) 0 8;
    }

-- those of PL and SL, with its mark if it had one (8.12)
unfoldable pub level_words_after : ℕ → ℕ → ℕ → LevelWords
level_words_after x p s = record { irr_level = bit_and p (others_of x); isr_level = bit_or s (bit_and p (bit_of x)) }
