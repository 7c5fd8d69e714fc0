-- What the type of a module says of each of its records: its sets are eight words each, and the summary of P is a byte.
--     Sized v          that of a record
--     of_record        of a record behind a reference (`c.fits-v`)
--     long, sized      of a module behind a reference (`c.fits-m`): it has 32 records, and each is sized
-- Assumes nothing.
use mathlib.Core.Path.{◌≡◌, subst}
use mathlib.Core.List.{List, [], ◌∷◌}
use Prim.Native.Nat.{ℕ, zero, suc, ◌^◌, ◌<◌}
use native.Mathlib.Nat.{le_of_suc-le-suc, not-suc-le-zero}
use native.Mathlib.Omega.{arith}
use lib.ListN.{length, get_or}
use mir.Val.{Val}
use denote.RattleType.{RattleType}
use denote.Laws.{Is}
use denote.Shadow.{shadow}
use denote.Array.{each}
use denote.Struct.Laws as laws
use borrow.Struct.Parts.{StructFacts}
use Rattle.vector_set.proofs.Laws.{Words}
use Rattle.vector_set.proofs.WordLaws.{array_words}
use Rattle.model.specs.declared.Vcpu.{Vcpu}
use Rattle.model.specs.declared.Module.{Module}
use Rattle.model.specs.contracts.Vcpu as records
use Rattle.model.specs.contracts.Module as modules
use Rattle.model.proofs.Vcpu.TheLaws as of_records
use Rattle.model.proofs.Module.TheLaws as of_modules
use Rattle.model.specs.State.{vcpu_at}
use Rattle.gate_mut.proofs.InRow.{unread, is_here}

-- what an array says of each element
element : (R : RattleType) (xs : List R.Denot) (us : List Val) (i : ℕ) (d : R.Denot) → i < length xs → shadow (each R.Denot R.own_val xs us)
    → (u : Val) × Is R (get_or xs i d) (u ∷ [])
element R [] us i d h p = absurd (not-suc-le-zero h)
element R (x ∷ xs) [] i d h p = absurd p
element R (x ∷ xs) (u ∷ us) zero d h p = (u, p.0)
element R (x ∷ xs) (u ∷ us) (suc i) d h p = element R xs us i d (le_of_suc-le-suc h) p.1

pub record Sized (v : Vcpu) : Type 0 where
  pub pending : Words v.irr
  pub in_service : Words v.isr
  pub pending_level : Words v.irr_level
  pub in_service_level : Words v.isr_level
  pub small : v.summary < 2 ^ 8

pub of_record : (v : Vcpu) → StructFacts records.the_type of_records.the_maybe v → Sized v
of_record v fits =
    record {
      pending = array_words _ _ fits.1.0;
      in_service = array_words _ _ fits.1.1.0;
      pending_level = array_words _ _ fits.1.1.1.0;
      in_service_level = array_words _ _ fits.1.1.1.1.0;
      small = fits.1.1.1.1.1.1.1.1.1.1.1.0.1;
    }

module _ (m : Module) (fits : StructFacts modules.the_type of_modules.the_maybe m) where
  pub long : length m.vcpus ≡ 32
  long = fits.1.1.1.0.1.0.1

  pub sized : (i : ℕ) → i < 32 → Sized (vcpu_at m i)
  sized i h =
      let there : i < length m.vcpus = omega (arith, long) in
      let e = element records.the_row m.vcpus fits.1.1.1.0.0 i unread there fits.1.1.1.0.1.1 in
      let f = laws.owed records.the_type of_records.the_laws (get_or m.vcpus i unread) _ e.1 in
      subst Sized (is_here m i there) (of_record (get_or m.vcpus i unread) f)
