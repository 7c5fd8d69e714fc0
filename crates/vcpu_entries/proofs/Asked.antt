-- The question on a module, from what an entry would answer on one record.
-- Assumes nothing.
use Rattle.std.specs.Prelude.{is_some}
use mathlib.Core.Path.{◌≡◌, refl, sym, ap, ◌∙◌}
use mathlib.Core.Bool.{Bool, true, false}
use Prim.Native.Nat.{ℕ, ◌<◌}
use Rattle.model.specs.declared.Vcpu.{Vcpu}
use Rattle.model.specs.declared.Module.{Module}
use Rattle.model.specs.State.{size, vcpu_at}
use Rattle.model.specs.Codes.{Verdict, accept, refuse, Answer, presented_by}
use Rattle.model.specs.Events.{entry, offer, vcpu_verdict, Out, would_present}
use Rattle.vcpu.specs.Records.{entry_on}
use Rattle.vcpu.proofs.Lift.{lift_entry}
use Rattle.vcpu_stages.specs.Stages.{answered_on}

-- whether an event presented anything
abbrev presents : Out → Bool
presents o = is_some (presented_by o.result)

by_verdict_lem : (g : Verdict) (o : Answer) (v : Vcpu) → is_some (presented_by (answered_on g o)) ≡ is_some (presented_by (entry_on g o v).result)
unfolding entry_on
by_verdict_lem accept o v = refl
by_verdict_lem (refuse c) o v = refl

pub asked : (m : Module) (i : ℕ) → i < size m
    → is_some (presented_by (answered_on (vcpu_verdict 0 0 (vcpu_at m i) (entry true false false)) (offer true false false (vcpu_at m i)))) ≡ would_present m i
unfolding would_present
asked m i h = by_verdict_lem (vcpu_verdict 0 0 (vcpu_at m i) (entry true false false)) _ (vcpu_at m i) ∙ ap presents (sym (lift_entry m i h true false false))
