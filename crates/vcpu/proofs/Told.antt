-- What the arms of a `match` tell of a phase.
-- Assumes nothing.
use Rattle.std.proofs.Common.{◌≡◌, refl, false}
use Rattle.model.specs.declared.Phase.{Phase}
use Rattle.model.specs.declared.Phase.TheVariants.{Active, Leaving, Left}
use Rattle.model.specs.State.{is_active}

-- a phase that is not the first
pub not_active : (p : Phase) → (p ≡ Active → ⊥) → is_active p ≡ false
not_active Active n = absurd (n refl)
not_active Leaving n = refl
not_active Left n = refl
