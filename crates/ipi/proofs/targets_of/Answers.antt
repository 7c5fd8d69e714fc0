-- `ipi::targets_of` meets its contract: the target's case. Assumes nothing.
use mathlib.Core.Path.{◌≡◌, sym, ap, ◌∙◌}
use Prim.Native.Nat.{ℕ, ◌-◌, ◌^◌}
use Rattle.vector_set.specs.Bits.{bits}
use Rattle.model.specs.declared.Target.{Target}
use Rattle.model.specs.declared.Target.TheVariants.{Caller, All, Others, Physical, Logical}
use Rattle.model.specs.Ipi.{icr_target, hits}
use Rattle.ipi.proofs.Masks.{mask_not, mask_all}
use Rattle.ipi.proofs.targets_of.Goals as goal

-- the bits for the target that the value has
at : (x i r : ℕ) (t u : Target) → u ≡ icr_target x → u ≡ t → r ≡ bits (hits t i) 0 32 → r ≡ bits (hits (icr_target x) i) 0 32
at x i r t u e d h = h ∙ ap (λ (w : Target). bits (hits w i) 0 32) (sym d ∙ e)

pub returns-in-Caller : goal.returns-in-Caller
unfolding hits
returns-in-Caller c = at _ _ _ Caller _ c.target_of.ensures c.in-Caller.is c.bit_of.ensures

pub returns-in-All : goal.returns-in-All
unfolding hits
returns-in-All c = at _ _ _ All _ c.target_of.ensures c.in-All.is mask_all

pub returns-in-Others : goal.returns-in-Others
unfolding hits
returns-in-Others c =
    at _ _ _ Others _ c.target_of.ensures c.in-Others.is
    (ap (λ (y : ℕ). (2 ^ 32 - 1) - y) c.bit_of-in-Others.ensures ∙ mask_not _)

pub returns-in-Physical : goal.returns-in-Physical
unfolding hits
returns-in-Physical c =
    at _ _ _ (Physical c.in-Physical.d) _ c.target_of.ensures c.in-Physical.is
    c.bit_of-in-Physical.ensures

pub returns-in-Logical : goal.returns-in-Logical
unfolding hits
returns-in-Logical c =
    at _ _ _ (Logical c.in-Logical.d) _ c.target_of.ensures c.in-Logical.is
    c.logical_bits.ensures
