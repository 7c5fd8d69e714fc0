-- The count by which the functions test a vCPU's number, and what `index_of` says of it.
-- Assumes nothing.
use Rattle.std.specs.Prelude.{Ok, Err}
use mathlib.Core.Path.{◌≡◌, refl, sym, ap, ◌∙◌}
use mathlib.Core.Bool.{Bool, true, false, cond}
use Prim.Native.Nat.{ℕ, ◌<◌, ◌≤◌}
use native.Mathlib.Omega.{arith}
use lib.Dec.{leb, ltb}
use borrow.Author.Tests.{leb-true, leb-false, ltb-true}
use Rattle.vector_set.proofs.BitLaws.{clash}
use Rattle.model.specs.declared.Module.{Module}
use Rattle.model.specs.declared.Refusal.{Refusal}
use Rattle.model.specs.declared.Refusal.TheVariants.{UnknownVcpu}
use Rattle.model.specs.State.{served_count, size, vcpu_at}
use Rattle.model.specs.Codes.{Answered, need}
use Rattle.model.specs.Events.{Event, page_of, verdict, vcpu_verdict, refusal, decided, step, index_in}

pub size_is : (m : Module) → served_count m.n m.vmpl ≡ size m
unfolding size
size_is m = refl

-- a vCPU that the test lets through or not
pub known : (m : Module) (i : ℕ) {r : Bool} → r ≡ leb (served_count m.n m.vmpl) i → r ≡ false → i < size m
known m i e f = omega (arith, leb-false _ i (sym e ∙ f), size_is m)

pub not_known : (m : Module) (i : ℕ) {r : Bool} → r ≡ leb (served_count m.n m.vmpl) i → r ≡ true → size m ≤ i
not_known m i e t = omega (arith, leb-true _ i (sym e ∙ t), size_is m)

-- the place is the vCPU's number
pub found : (m : Module) (i k : ℕ) → Ok k ≡ index_in m i → (k < size m) × (k ≡ i)
found m i k e = pick (ltb i (size m)) refl e
  where
    pick : (b : Bool) → ltb i (size m) ≡ b → ◌≡◌ {A = Answered ℕ} (Ok k) (cond b (Ok i) (Err UnknownVcpu)) → (k < size m) × (k ≡ i)
    pick true f g = let same : k ≡ i = cc in (rw same (ltb-true i (size m) f), same)
    pick false f g = clash (cc)

-- it has no place: an event of it is refused, and changes nothing
pub unstepped : (m : Module) (e : Event) (c : Refusal) → Err c ≡ index_in m e.vcpu → refusal c m (page_of e.act) ≡ step m e
unfolding step verdict
unstepped m e c f = pick (ltb e.vcpu (size m)) f
  where
    pick : (b : Bool) → ◌≡◌ {A = Answered ℕ} (Err c) (cond b (Ok e.vcpu) (Err UnknownVcpu))
        → refusal c m (page_of e.act) ≡ decided (need b UnknownVcpu (vcpu_verdict e.vcpu m.registrations (vcpu_at m e.vcpu) e.act)) m e
    pick true g = clash (cc)
    pick false g = let same : c ≡ UnknownVcpu = cc in ap (λ (d : Refusal). refusal d m (page_of e.act)) same
