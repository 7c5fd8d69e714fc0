-- The record with one set for each of its sets, which is the empty one. Assumes nothing.
use mathlib.Core.Path.{◌≡◌, sym, ap, ◌∙◌}
use mathlib.Core.Bool.{false}
use mathlib.Core.List.{List}
use Prim.Native.Nat.{ℕ}
use Rattle.model.specs.declared.Phase.TheVariants.{Left}
use Rattle.vector_set.specs.Sets.{empty}
use Rattle.model.specs.declared.Vcpu.{Vcpu}
use Rattle.model.specs.State.{with_allowed, with_irr, with_summary, with_isr, with_irr_level, with_isr_level, with_nmi, with_machine_check, with_phase}
use Rattle.model.specs.Events.{emptied}
use Rattle.model.proofs.ItemLaws.{unmark_all_is}

-- v as it is left, with s for each of its sets
abbrev pub left_with : List ℕ → Vcpu → Vcpu
left_with s v =
    with_phase Left (with_isr_level s (with_irr_level s (with_isr s (with_allowed s (with_nmi false (with_machine_check false (with_summary 0 (with_irr s v))))))))

pub left_is : (s : List ℕ) (v w : Vcpu) → w ≡ left_with s v → s ≡ empty → w ≡ emptied v
unfolding emptied
left_is s v w f e =
    f ∙ ap (λ (s : List ℕ). left_with s v) e
    ∙ ap (λ (u : Vcpu). with_phase Left (with_isr_level empty (with_irr_level empty (with_isr empty (with_allowed empty u))))) (sym (unmark_all_is v))
