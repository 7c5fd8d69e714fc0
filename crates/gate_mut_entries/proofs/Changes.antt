-- One record of a module changed (`changed_at`), from what the code has stored: for code that is lent the module and not the record.
--     changed_at         the record of a vCPU that the module has
--     changed_none       there is no such vCPU, and nothing is stored
--     changed_one        the record u is stored
--     changed_row        the record is changed by stores in a row
--     changed_then       it is stored, and the record changed once more
-- Assumes nothing.
use mathlib.Core.Path.{◌≡◌, refl, sym, ap, ◌∙◌}
use mathlib.Core.List.{List, ◌∷◌}
use mathlib.Core.Bool.{Bool, cond}
use Prim.Native.Nat.{ℕ, ◌<◌, ◌≤◌}
use lib.Dec.{ltb}
use lib.ListN.{length}
use borrow.Author.Tests.{lt-ltb, le-ltb}
use Rattle.model.specs.State.{size, vcpu_at, with_vcpu}
use Rattle.model.specs.declared.Module.{Module}
use Rattle.model.specs.declared.Vcpu.{Vcpu}
use Rattle.model.proofs.Stored.{size_put}
use Rattle.vcpu.proofs.Stores.{with_vcpus, get_put, put_put}
use Rattle.gate_mut.proofs.InRow.{row, changes, puts_row}

abbrev pub changed_at : ℕ → (Vcpu → Vcpu) → Module → Module
changed_at i f m = cond (ltb i (size m)) (with_vcpu m i (f (vcpu_at m i))) m

-- by what the test says
abbrev chosen : Module → ℕ → (Vcpu → Vcpu) → Bool → Module
chosen h i f c = cond c (with_vcpu h i (f (vcpu_at h i))) h

pub changed_none : (h : Module) (i : ℕ) (f : Vcpu → Vcpu) → size h ≤ i → h ≡ changed_at i f h
changed_none h i f over = ap (chosen h i f) (sym (le-ltb i (size h) over))

pub changed_one : (h : Module) (i : ℕ) (f : Vcpu → Vcpu) → i < size h → (u : Vcpu) → u ≡ f (vcpu_at h i) → with_vcpu h i u ≡ changed_at i f h
changed_one h i f l u e = ap (with_vcpu h i) e ∙ ap (chosen h i f) (sym (lt-ltb i (size h) l))

pub changed_then : (h : Module) (i : ℕ) (f g : Vcpu → Vcpu) → i < size h → i < length h.vcpus → (u : Vcpu) → f u ≡ g (vcpu_at h i)
    → changed_at i f (with_vcpu h i u) ≡ changed_at i g h
changed_then h i f g l there u e =
    ap (chosen (with_vcpu h i u) i f) (ap (ltb i) (size_put h i u) ∙ lt-ltb i (size h) l)
    ∙ ap (λ (v : Vcpu). with_vcpu (with_vcpu h i u) i (f v)) (get_put h i u there) ∙ put_put h i u (f u) ∙ changed_one h i g l (f u) e

pub changed_row : (h : Module) (i : ℕ) → i < size h → i < length h.vcpus → (f : Vcpu → Vcpu) (fs : List (Vcpu → Vcpu)) (g : Vcpu → Vcpu)
    → changes (f ∷ fs) (vcpu_at h i) ≡ g (vcpu_at h i) → with_vcpus h (row i (f ∷ fs) h.vcpus) ≡ changed_at i g h
changed_row h i l there f fs g e = puts_row h i there f fs _ refl ∙ changed_one h i g l _ e
