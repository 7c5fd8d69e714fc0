-- What an entry makes of a record, by what it answers; what the arms of a `match` tell of an answer.
--     after, entering      the record after an entry that gave a result; with it, the entry is that of the definitions
--     none_shown           the answer presents nothing
-- Assumes nothing.
use mathlib.Core.Path.{◌≡◌, refl, ap, ap₂, ◌∙◌}
use Prim.Native.Nat.{ℕ}
use Rattle.model.specs.declared.Presentation.{Presentation}
use Rattle.model.specs.declared.Presentation.TheVariants as shown
use Rattle.model.specs.declared.Vcpu.{Vcpu}
use Rattle.model.specs.Codes.{Verdict, accept, refuse, Answer, Result, done, counted, coded, answers, refused, answer_of}
use Rattle.model.specs.Requests.{forget}
use Rattle.model.specs.Events.{entered}
use Rattle.vcpu.specs.Records.{VcpuOut, entry_on}
use Rattle.vcpu_stages.specs.Stages.{answered_on}

-- a result and the record after it
abbrev pub out_of : Result → Vcpu → VcpuOut
out_of r v = record { result = r; vcpu = v }

-- the record after an entry that gave a result
abbrev pub after : Result → Vcpu → Vcpu
after (done x) v = v
after (counted x y) v = v
after (coded x ks) v = v
after (answers o) v = entered o (forget v)
after (refused c) v = v

-- the result r and the record w after it, where the verdict is g and the offer o
pub entering : (g : Verdict) (o : Answer) (v w : Vcpu) (r : Result) → r ≡ answered_on g o → w ≡ after r v → out_of r w ≡ entry_on g o v
unfolding entry_on
entering accept o v w r e h = ap₂ out_of e (h ∙ ap (λ (x : Result). after x v) e)
entering (refuse c) o v w r e h = ap₂ out_of e (h ∙ ap (λ (x : Result). after x v) e)

-- an answer that presents nothing
pub none_shown : (p : Presentation) (v : Vcpu) → (p ≡ shown.Nmi → ⊥) → (p ≡ shown.MachineCheck → ⊥) → ((x : ℕ) → p ≡ shown.Vector x → ⊥)
    → forget v ≡ entered (answer_of p) (forget v)
unfolding entered
none_shown shown.Nothing v n m x = refl
none_shown shown.Nmi v n m x = absurd (n refl)
none_shown shown.MachineCheck v n m x = absurd (m refl)
none_shown (shown.Vector k) v n m x = absurd (x k refl)
none_shown (shown.Window k) v n m x = refl
