-- What an event with a page answers, apart from the step of its vCPU's record: the model's events, seen from the page.
-- Assumes nothing.
use Rattle.std.specs.Prelude.{Option, Ok, Err, Bool, List, ℕ}
use Rattle.model.specs.declared.Refusal.{Refusal}
use Rattle.model.specs.declared.Refusal.TheVariants.{NotActive, ShortPage}
use Rattle.model.specs.declared.Phase.{Phase}
use Rattle.model.specs.State.{is_active, is_leaving}
use Rattle.model.specs.Doorbell.{long_enough}
use Rattle.model.specs.Codes.{code_of, Answered, Verdict, accept, refuse, need, Result, done, refused}
use Rattle.model.specs.Events.{hand_back_refusal}
use Rattle.descriptor.specs.Requests.{Asked}

-- the verdict on an event with the page p: c unless the phase is right, and then the page's length (11.13, 11.17)
abbrev pub page_verdict : Bool → Refusal → List ℕ → Verdict
page_verdict right c p = need right c (need (long_enough p) ShortPage accept)

-- of a notice and of a hand-back, to a vCPU in the phase s (4.2, 10.2)
abbrev pub notice_verdict : Phase → List ℕ → Verdict
notice_verdict s p = page_verdict (is_active s) NotActive p

abbrev pub hand_back_verdict : Phase → List ℕ → Verdict
hand_back_verdict s p = page_verdict (is_leaving s) (hand_back_refusal s) p

-- ---- what a notice takes beside its marks, by the verdict, where the page gives s if it is accepted (4.20, 11.19)
unfoldable pub take_on : Verdict → Option Asked → Answered (Option Asked)
take_on (refuse c) s = Err c
take_on accept s = Ok s

-- ---- a hand-back, which is answered with n if it is accepted (10.12)
unfoldable pub hand_on : Verdict → ℕ → Result
hand_on (refuse c) n = refused (code_of c)
hand_on accept n = done n
