-- An entry's answer, from what it is before P is looked at and from what P decides.
-- Assumes nothing.
use Rattle.std.specs.Prelude.{Option, None, Some, Ok, Err}
use mathlib.Core.Path.{◌≡◌, refl, sym, subst}
use mathlib.Core.Bool.{Bool, true, false, cond, not, ◌&&◌, ◌||◌}
use Rattle.model.specs.declared.Item.TheVariants as item
use Rattle.model.specs.declared.Presentation.{Presentation}
use Rattle.model.specs.declared.Presentation.TheVariants.{Nmi, MachineCheck}
use Rattle.model.specs.declared.Refusal.TheVariants.{NotActive}
use Rattle.model.specs.declared.Vcpu.{Vcpu}
use Rattle.model.specs.State.{is_active}
use Rattle.model.specs.Codes.{Answered, accept, need, Answer, nothing, presents, window, Result, answers, answer_of, presented_result}
use Rattle.model.specs.Events.{entry, vcpu_verdict, offer_with, offer}
use Rattle.vcpu_stages.specs.Stages.{answered_on, shown, answer_before, vector_offer}

-- an answer, as the functions give it, means itself
pub shown_means : (a : Answer) → answer_of (shown a) ≡ a
shown_means nothing = refl
shown_means (presents item.Nmi) = refl
shown_means (presents item.MachineCheck) = refl
shown_means (presents (item.Vector x)) = refl
shown_means (window x) = refl

module _ (iF sh bl : Bool) (v : Vcpu) where
  -- what an answer before P is looked at says of the entry's result x: that it is this one, or that P decides
  abbrev pub Decides : Answered (Option Presentation) → Result → Type 0
  Decides (Err c) x = presented_result (Err c) ≡ x
  Decides (Ok (Some p)) x = presented_result (Ok p) ≡ x
  Decides (Ok None) x = answers (vector_offer (iF && not sh) v) ≡ x

  pub by_before : (r : Answered (Option Presentation)) → r ≡ answer_before sh bl v
      → Decides r (answered_on (vcpu_verdict 0 0 v (entry iF sh bl)) (offer iF sh bl v))
  unfolding answer_before vcpu_verdict offer offer_with vector_offer
  by_before r e = subst (λ (s : Answered (Option Presentation)). Decides s (answered_on (vcpu_verdict 0 0 v (entry iF sh bl)) (offer iF sh bl v))) (sym e) (pick (is_active v.phase) v.machine_check (v.nmi && not (sh || bl)))
    where
      pick : (a m t : Bool)
          → Decides (cond a (Ok (cond m (Some MachineCheck) (cond t (Some Nmi) None))) (Err NotActive))
          (answered_on (need a NotActive accept) (cond m (presents item.MachineCheck) (cond t (presents item.Nmi) (vector_offer (iF && not sh) v))))
      pick false m t = refl
      pick true true t = refl
      pick true false true = refl
      pick true false false = refl
