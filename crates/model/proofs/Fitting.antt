-- What a call puts anywhere may stand there: a vector 31 to 255, in A also 2 and 18, which stand for the NMI and the machine check.
-- Assumes nothing.
use mathlib.Core.Path.{◌≡◌, refl}
use mathlib.Core.Bool.{Bool, true, false, cond, not, ◌&&◌, ◌||◌, and-eq-true_iff}
use Prim.Native.Nat.{ℕ, ◌≤◌, ◌%◌}
use lib.Dec.{leb, ltb, eqb}
use Rattle.model.specs.declared.Item.TheVariants as item
use Rattle.model.specs.declared.Kind.{Kind}
use Rattle.model.specs.declared.Kind.TheVariants as kind
use Rattle.model.specs.declared.Local.{Local}
use Rattle.model.specs.declared.Local.TheVariants as local
use Rattle.std.specs.Prelude.{Ok, Err}
use Rattle.model.specs.Requests.{Parsed}
use Rattle.model.specs.declared.Request.TheVariants as request
use Rattle.model.specs.Registers.{kind_of}
use Rattle.model.specs.Ipi.{icr_vector, icr_type, icr_shorthand, icr_is_fixed, icr_is_nmi, icr_reserved_clear, icr_legal, icr_item}
use Rattle.model.specs.Requests.{registration, read_by, write_value, write_by, may_name, nameable, permission, request_of}
use Rattle.model.specs.Items.{IsVector}
use Rattle.vector_set.specs.Bits.{bit_at}
use Rattle.vector_set.proofs.Laws.{clash}
use Rattle.vector_set.specs.Sets.{is_vector}
use Rattle.model.proofs.Allowed.{is_vector_lem}

-- ---- what the numbers of a call ask for
-- a call that puts a vector somewhere names one that may stand there
abbrev pub Fitting : Local → Type 0
Fitting local.Features = Unit {0}
Fitting local.Leave = Unit {0}
Fitting local.Release = Unit {0}
Fitting local.Register = Unit {0}
Fitting (local.Allow x) = may_name x ≡ true
Fitting (local.Disallow x) = Unit {0}
Fitting (local.Read r) = Unit {0}
Fitting (local.SetTpr x) = Unit {0}
Fitting local.Eoi = Unit {0}
Fitting (local.SelfIpi x) = 31 ≤ x

unfoldable pub FittingRequest : Parsed → Type 0
FittingRequest (Ok (request.Local o)) = Fitting o
FittingRequest (Ok (request.Icr x)) = IsVector (icr_item x)
FittingRequest (Err c) = Unit {0}

either : (b : Bool) (r s : Parsed) → (b ≡ true → FittingRequest r) → FittingRequest s → FittingRequest (cond b r s)
either true r s p q = p refl
either false r s p q = q

fitting_icr : (x : ℕ) → icr_legal x ≡ true → IsVector (icr_item x)
unfolding icr_legal icr_item icr_is_fixed icr_is_nmi
fitting_icr x e =
    pick (icr_reserved_clear x) (eqb (icr_type x) 0) (is_vector (icr_vector x)) (eqb (icr_type x) 4)
    (not (eqb (icr_shorthand x) 1 || eqb (icr_shorthand x) 2)) refl e
  where
    pick : (f z v n t : Bool) → is_vector (icr_vector x) ≡ v → (f && ((z && v) || (n && t))) ≡ true → IsVector (cond n item.Nmi (item.Vector (icr_vector x)))
    pick f z v true t p q = tt
    pick f z true false t p q = is_vector_lem (icr_vector x) p
    pick true true false false t p q = clash (cc)
    pick true false false false t p q = clash (cc)
    pick false z false false t p q = clash (cc)

fitting_value : (r x : ℕ) → FittingRequest (write_value r x)
unfolding write_value FittingRequest
fitting_value r x =
    either (eqb r 0x80B) _ _ (λ _. either (eqb x 0) _ _ (λ _. tt) tt)
    (either (eqb r 0x83F) _ _ (λ _. either (is_vector x) _ _ (is_vector_lem x) tt)
    (either (eqb r 0x808) _ _ (λ _. either (leb x 255) _ _ (λ _. tt) tt)
    (either (eqb r 0x830) _ _ (λ _. either (icr_legal x) _ _ (fitting_icr x) tt) tt)))

fitting_read : (k : Kind) (r : ℕ) → FittingRequest (read_by k r)
unfolding FittingRequest
fitting_read kind.None r = tt
fitting_read kind.Read r = tt
fitting_read kind.Write r = tt
fitting_read kind.Both r = tt

fitting_write : (k : Kind) (r x : ℕ) → FittingRequest (write_by k r x)
unfolding FittingRequest
fitting_write kind.None r x = tt
fitting_write kind.Read r x = tt
fitting_write kind.Write r x = fitting_value r x
fitting_write kind.Both r x = fitting_value r x

fitting_permission : (c : ℕ) → FittingRequest (permission c)
unfolding permission FittingRequest nameable
fitting_permission c =
    either (nameable c) _ _ (λ e. either (bit_at c 8) _ _ (λ _. ((and-eq-true_iff (may_name (c % 256)) (ltb c 512)).0 e).0) tt) tt

pub fitting_request : (op c x : ℕ) → FittingRequest (request_of op c x)
unfolding request_of registration FittingRequest
fitting_request op c x =
    either (eqb op 0) _ _ (λ _. tt)
    (either (eqb op 1) _ _ (λ _. either (eqb c 0) _ _ (λ _. tt) (either (eqb c 1) _ _ (λ _. tt) (either (eqb c 2) _ _ (λ _. tt) tt)))
    (either (eqb op 2) _ _ (λ _. fitting_read (kind_of c) c)
    (either (eqb op 3) _ _ (λ _. fitting_write (kind_of c) c x)
    (either (eqb op 4) _ _ (λ _. fitting_permission c) tt))))
