-- Stores in a row to one record of a module lent by `&mut`, each a change of what stands there: the module afterwards is the one with the record changed
-- once. They speak of modules and lists alone.
--     unread                       what an index past the end of the array would give: the default of the code's reads
--     row, changes                 the array after the stores fs to its record i; a record after the changes fs
--     row_is                       the array is the one with the record changed once
--     is_here                      the record that the code reads is the module's
--     put_back                     the record that is read, stored back, leaves the module
--     puts_read, puts_row          the module after stores in a row, by the record that is read, and by the module's
--     read_row                     the record that is read after them
--     long_put, other_put          after a store it has as many records, and any other record is as it was
-- Assumes nothing.
use mathlib.Core.Path.{◌≡◌, refl, ap, ◌∙◌}
use mathlib.Core.Bool.{false}
use mathlib.Core.List.{List, [], ◌∷◌}
use Prim.Native.Nat.{ℕ, zero, suc, ◌<◌}
use native.Mathlib.Nat.{le_of_suc-le-suc, not-suc-le-zero}
use lib.ListN.{length, get_or, set, length-set}
use lib.Seq.{get_or-set_same, get_or-set_other}
use Rattle.model.specs.declared.InFlight.TheVariants.{Nothing}
use Rattle.model.specs.declared.Phase.TheVariants.{Active}
use Rattle.model.specs.declared.Vcpu.{Vcpu}
use Rattle.model.specs.declared.Module.{Module}
use Rattle.model.specs.State.{vcpu, absent, vcpu_at, with_vcpu}
use Rattle.model.proofs.Stored.{with_vcpus, put_same}

abbrev pub unread : Vcpu
unread = vcpu [] [] [] [] [] false false 0 0 Active Nothing 0

-- an element that is there does not depend on the default
same_default : (l : List Vcpu) (i : ℕ) (d e : Vcpu) → i < length l → get_or l i d ≡ get_or l i e
same_default [] i d e h = absurd (not-suc-le-zero h)
same_default (v ∷ l) zero d e h = refl
same_default (v ∷ l) (suc i) d e h = same_default l i d e (le_of_suc-le-suc h)

-- a record stored to once more
set_set : (l : List Vcpu) (i : ℕ) (u v : Vcpu) → set (set l i u) i v ≡ set l i v
set_set [] i u v = refl
set_set (w ∷ l) zero u v = refl
set_set (w ∷ l) (suc i) u v = ap (λ (t : List Vcpu). w ∷ t) (set_set l i u v)

abbrev pub changes : List (Vcpu → Vcpu) → Vcpu → Vcpu
changes [] v = v
changes (f ∷ fs) v = changes fs (f v)

abbrev pub row : ℕ → List (Vcpu → Vcpu) → List Vcpu → List Vcpu
row i [] l = l
row i (f ∷ fs) l = row i fs (set l i (f (get_or l i unread)))

row_is : (l : List Vcpu) (i : ℕ) (f : Vcpu → Vcpu) (fs : List (Vcpu → Vcpu)) → i < length l → row i (f ∷ fs) l ≡ set l i (changes (f ∷ fs) (get_or l i unread))
row_is l i f [] h = refl
row_is l i f (g ∷ fs) h =
    let u : Vcpu = f (get_or l i unread) in
    row_is (set l i u) i g fs (rw length-set h)
    ∙ ap (λ (v : Vcpu). set (set l i u) i (changes (g ∷ fs) v)) (get_or-set_same l i u unread h)
    ∙ set_set l i u (changes (g ∷ fs) u)

module _ (m : Module) (i : ℕ) (there : i < length m.vcpus) where
  pub is_here : get_or m.vcpus i unread ≡ vcpu_at m i
  unfolding vcpu_at
  is_here = same_default m.vcpus i unread absent there

  -- the record that is read, stored back as it was
  pub put_back : with_vcpu m i (get_or m.vcpus i unread) ≡ m
  put_back = ap (with_vcpu m i) is_here ∙ put_same m i

  -- the changes f and fs leave the record v
  pub puts_read : (f : Vcpu → Vcpu) (fs : List (Vcpu → Vcpu)) (v : Vcpu) → changes (f ∷ fs) (get_or m.vcpus i unread) ≡ v
      → with_vcpus m (row i (f ∷ fs) m.vcpus) ≡ with_vcpu m i v
  unfolding with_vcpu
  puts_read f fs v e = ap (with_vcpus m) (row_is m.vcpus i f fs there ∙ ap (set m.vcpus i) e)

  pub puts_row : (f : Vcpu → Vcpu) (fs : List (Vcpu → Vcpu)) (v : Vcpu) → changes (f ∷ fs) (vcpu_at m i) ≡ v
      → with_vcpus m (row i (f ∷ fs) m.vcpus) ≡ with_vcpu m i v
  puts_row f fs v e = puts_read f fs v (ap (changes (f ∷ fs)) is_here ∙ e)

  pub read_row : (f : Vcpu → Vcpu) (fs : List (Vcpu → Vcpu)) → get_or (row i (f ∷ fs) m.vcpus) i unread ≡ changes (f ∷ fs) (get_or m.vcpus i unread)
  read_row f fs =
      ap (λ (l : List Vcpu). get_or l i unread) (row_is m.vcpus i f fs there)
      ∙ get_or-set_same m.vcpus i (changes (f ∷ fs) (get_or m.vcpus i unread)) unread there

pub long_put : (m : Module) (i : ℕ) (v : Vcpu) → length (with_vcpu m i v).vcpus ≡ length m.vcpus
unfolding with_vcpu
long_put m i v = length-set m.vcpus i v

pub other_put : (m : Module) (i : ℕ) (v : Vcpu) (j : ℕ) → (j ≡ i → ⊥) → vcpu_at (with_vcpu m i v) j ≡ vcpu_at m j
unfolding with_vcpu vcpu_at
other_put m i v j ne = get_or-set_other m.vcpus i j v absent ne
