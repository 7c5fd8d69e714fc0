-- A module's record after one was stored and after an IPI, and the step of an event by its verdict: the laws on which all claims stand.
-- Assumes nothing.
use mathlib.Core.Path.{◌≡◌, refl, sym, ap, subst, ◌∙◌}
use mathlib.Core.Bool.{Bool, true, false, cond, ◌&&◌, and-false}
use mathlib.Core.List.{List, [], ◌∷◌}
use Prim.Native.Nat.{ℕ, zero, suc, ◌+◌, ◌<◌, ◌≤◌, zero-le}
use native.Mathlib.Omega.{arith}
use lib.Dec.{leb, ltb, eqb}
use lib.ListN.{length, get_or, set, length-set, get_or-eq_default}
use lib.Seq.{get_or-set_same, get_or-set_other, set-get_or}
use borrow.Author.Tests.{eqb-true, eqb-false, leb-true, ltb-true, ltb-false}
use Rattle.model.specs.declared.Phase.{Phase}
use Rattle.model.specs.declared.Phase.TheVariants.{Active, Leaving, Left}
use Rattle.model.specs.declared.Item.{Item}
use Rattle.model.specs.declared.Refusal.{Refusal}
use Rattle.model.specs.declared.Refusal.TheVariants.{UnknownVcpu, NotActive}
use Rattle.model.specs.declared.Target.{Target}
use Rattle.model.specs.declared.Vcpu.{Vcpu}
use Rattle.model.specs.declared.Module.{Module}
use Rattle.model.specs.State.{is_active, is_leaving, has_left, bare, absent, size, vcpu_at, with_vcpu, with_registrations}
use Rattle.model.specs.Codes.{Verdict, accept, refuse, need}
use Rattle.model.specs.Items.{mark}
use Rattle.model.specs.Ipi.{hits, reached, reach, map_from, sent}
use Rattle.model.specs.Events.{Act, notice, call, entry, non_delivery, hand_back, allow, Bytes, Event, page_of}
use Rattle.model.specs.Events.{vcpu_verdict, verdict, effect_of, Out, refusal, concluded, decided, step}
use Rattle.vector_set.proofs.Laws.{clash}

-- ---- a record after one was stored
-- what is shown of the record j after the record i became v: at i itself, and at any other
pub on_put : (m : Module) (i : ℕ) (v : Vcpu) (j : ℕ) → i < length m.vcpus → (P : ℕ → Bool → Vcpu → Vcpu → Type 0)
    → P i true (vcpu_at m i) v → P j false (vcpu_at m j) (vcpu_at m j) → P j (eqb j i) (vcpu_at m j) (vcpu_at (with_vcpu m i v) j)
unfolding vcpu_at with_vcpu
on_put m i v j h P yes' no' = pick (eqb j i) refl
  where
    pick : (b : Bool) → eqb j i ≡ b → P j b (vcpu_at m j) (vcpu_at (with_vcpu m i v) j)
    pick true e = rw (eqb-true j i e, get_or-set_same m.vcpus i v absent h) yes'
    pick false e = rw (get_or-set_other m.vcpus i j v absent (eqb-false j i e)) no'

-- at i itself
pub get_put : (m : Module) (i : ℕ) (v : Vcpu) → i < length m.vcpus → vcpu_at (with_vcpu m i v) i ≡ v
unfolding with_vcpu vcpu_at
get_put m i v l = get_or-set_same m.vcpus i v absent l

abbrev pub with_vcpus : Module → List Vcpu → Module
with_vcpus m l = record { n = m.n; vmpl = m.vmpl; registrations = m.registrations; vcpus = l }

-- a record stored back as it was
pub put_same : (m : Module) (i : ℕ) → with_vcpu m i (vcpu_at m i) ≡ m
unfolding with_vcpu vcpu_at
put_same m i = ap (with_vcpus m) (set-get_or m.vcpus i absent)

-- a record stored to once more
set_set : (l : List Vcpu) (i : ℕ) (u v : Vcpu) → set (set l i u) i v ≡ set l i v
set_set [] i u v = refl
set_set (w ∷ l) zero u v = refl
set_set (w ∷ l) (suc i) u v = ap (λ (t : List Vcpu). w ∷ t) (set_set l i u v)

pub put_put : (m : Module) (i : ℕ) (u v : Vcpu) → with_vcpu (with_vcpu m i u) i v ≡ with_vcpu m i v
unfolding with_vcpu
put_put m i u v = ap (with_vcpus m) (set_set m.vcpus i u v)

pub put_length : (m : Module) (i : ℕ) (v : Vcpu) → length (with_vcpu m i v).vcpus ≡ length m.vcpus
unfolding with_vcpu
put_length m i v = length-set m.vcpus i v

pub vcpu_at_count : (k : ℕ) (m : Module) (j : ℕ) → vcpu_at (with_registrations k m) j ≡ vcpu_at m j
unfolding vcpu_at with_registrations
vcpu_at_count k m j = refl

-- the record that was stored, with a count
pub stored_at : (m : Module) (i k : ℕ) (w : Vcpu) → i < length m.vcpus → vcpu_at (with_registrations k (with_vcpu m i w)) i ≡ w
stored_at m i k w l = vcpu_at_count k (with_vcpu m i w) i ∙ get_put m i w l

pub size_put : (m : Module) (i : ℕ) (v : Vcpu) → size (with_vcpu m i v) ≡ size m
unfolding size with_vcpu
size_put m i v = refl

pub size_count : (k : ℕ) (m : Module) → size (with_registrations k m) ≡ size m
unfolding size with_registrations
size_count k m = refl

pub size_le : (m : Module) → size m ≤ 32
unfolding size
size_le m = pick (leb m.n 32) (leb 1 m.vmpl) (leb m.vmpl 3) refl
  where
    pick : (a b c : Bool) → leb m.n 32 ≡ a → cond (a && b && c) m.n 0 ≤ 32
    pick true true true e = leb-true m.n 32 e
    pick true true false e = omega arith
    pick true false c e = omega arith
    pick false b c e = omega arith

-- the same count stored changes nothing
pub count_same : (m : Module) (i : ℕ) (v : Vcpu) → with_registrations m.registrations (with_vcpu m i v) ≡ with_vcpu m i v
unfolding with_registrations with_vcpu
count_same m i v = refl

-- ---- a record after an IPI
-- the record j of a list that is gone through from number k on: one that is there, or a default that stays as it is
pub map_from_at : (f : ℕ → Vcpu → Vcpu) (k : ℕ) (l : List Vcpu) (j : ℕ) (d : Vcpu) → (length l ≤ j → d ≡ f (k + j) d)
    → get_or (map_from f k l) j d ≡ f (k + j) (get_or l j d)
unfolding map_from
map_from_at f k [] j d h = h zero-le
map_from_at f k (v ∷ l) zero d h = let e : k + 0 ≡ k = omega arith in rw e
map_from_at f k (v ∷ l) (suc j) d h =
    let e : k + suc j ≡ suc k + j = omega arith in rw e (map_from_at f (suc k) l j d (λ q. rw e at (h (omega arith))))

reach_absent : (y : Item) (t : Target) (i n k : ℕ) → reach y t i n k absent ≡ absent
unfolding reach bare
reach_absent y t i n k = rw (and-false (ltb k n && hits t i k))

pub vcpu_at_sent : (y : Item) (t : Target) (i : ℕ) (m : Module) (j : ℕ) → vcpu_at (sent y t i m) j ≡ reach y t i (size m) j (vcpu_at m j)
unfolding vcpu_at sent
vcpu_at_sent y t i m j =
    let e : 0 + j ≡ j = omega arith in
    rw (map_from_at (reach y t i (size m)) 0 m.vcpus j absent (λ _. sym (reach_absent y t i (size m) (0 + j))), e)

-- what is shown of the record with the item marked and of the record as it was
pub by_reach : (y : Item) (t : Target) (i n k : ℕ) (v : Vcpu) (P : Vcpu → Type 0) → P (mark y v) → P v → P (reach y t i n k v)
unfolding reach
by_reach y t i n k v P marked same = pick (reached t i n k v.phase)
  where
    pick : (b : Bool) → P (cond b (mark y v) v)
    pick true = marked
    pick false = same

-- ---- the tests of a verdict
pub needed : (a : Bool) (c : Refusal) (g : Verdict) → need a c g ≡ accept → (a ≡ true) × (g ≡ accept)
needed true c g e = (refl, e)
needed false c g e = clash (cc)

-- what is chosen where all of them pass
pub taken : {A : Type 0} (a b : Bool) (p q : Refusal) (g : Verdict) (w v u : A) → need a p (need b q g) ≡ accept → (g ≡ accept → v ≡ u)
    → cond (a && b) v w ≡ u
taken true true p q g w v u e h = h e
taken true false p q g w v u e h = clash (cc)
taken false b p q g w v u e h = clash (cc)

pub left_alone : {A : Type 0} (a b : Bool) (p q c : Refusal) (g : Verdict) (w v : A) → need a p (need b q g) ≡ refuse c → (g ≡ refuse c → v ≡ w)
    → cond (a && b) v w ≡ w
left_alone true true p q c g w v e h = h e
left_alone true false p q c g w v e h = refl
left_alone false b p q c g w v e h = refl

pub all_three : {A : Type 0} (a b c : Bool) (p q r : Refusal) (w v : A) → need a p (need b q (need c r accept)) ≡ accept → cond (a && b && c) v w ≡ v
all_three true true true p q r w v e = refl
all_three true true false p q r w v e = clash (cc)
all_three true false c p q r w v e = clash (cc)
all_three false b c p q r w v e = clash (cc)

pub not_three : {A : Type 0} (a b c : Bool) (p q r d : Refusal) (w v : A) → need a p (need b q (need c r accept)) ≡ refuse d → cond (a && b && c) v w ≡ w
not_three true true true p q r d w v e = clash (cc)
not_three true true false p q r d w v e = refl
not_three true false c p q r d w v e = refl
not_three false b c p q r d w v e = refl

-- ---- the step, by the verdict
-- what is shown of a refusal and of what an accepted event gives is shown of the step
pub by_verdict_lem : (m : Module) (e : Event) (P : Out → Type 0) → ((c : Refusal) → verdict m e ≡ refuse c → P (refusal c m (page_of e.act)))
    → (verdict m e ≡ accept → P (concluded (effect_of m e) e.vcpu m)) → P (step m e)
unfolding step
by_verdict_lem m e P no' yes' = pick (verdict m e) refl
  where
    pick : (g : Verdict) → verdict m e ≡ g → P (decided g m e)
    pick accept h = yes' h
    pick (refuse c) h = no' c h

-- ---- what acceptance tells
pub record Known (m : Module) (i : ℕ) (t : Phase → Bool) : Type 0 where
  pub below : ltb i (size m) ≡ true
  pub phase : t (vcpu_at m i).phase ≡ true
  pub there : i < length m.vcpus

-- a record that is not there has left
in_range : (m : Module) (i : ℕ) (t : Phase → Bool) → t Left ≡ false → t (vcpu_at m i).phase ≡ true → i < length m.vcpus
unfolding vcpu_at bare
in_range m i t z h = pick (ltb i (length m.vcpus)) refl
  where
    pick : (b : Bool) → ltb i (length m.vcpus) ≡ b → i < length m.vcpus
    pick true e = ltb-true i (length m.vcpus) e
    pick false e =
        let d : get_or m.vcpus i absent ≡ absent = get_or-eq_default m.vcpus absent (ltb-false i (length m.vcpus) e) in
        let f : t absent.phase ≡ true = subst (λ (v : Vcpu). t v.phase ≡ true) d h in
        clash (cc)

-- an active vCPU below n
pub served_known : (m : Module) (i : ℕ) → ltb i (size m) ≡ true → is_active (vcpu_at m i).phase ≡ true → Known m i is_active
served_known m i e f = record { below = e; phase = f; there = in_range m i is_active refl f }

known : (m : Module) (i : ℕ) (t : Phase → Bool) → t Left ≡ false → (c : Refusal) (g : Verdict)
    → need (ltb i (size m)) UnknownVcpu (need (t (vcpu_at m i).phase) c g) ≡ accept → Known m i t
known m i t z c g h =
    let a = needed (ltb i (size m)) UnknownVcpu _ h in
    let b = needed (t (vcpu_at m i).phase) c g a.1 in
    record { below = a.0; phase = b.0; there = in_range m i t z b.0 }

-- the phase in which an act is served
abbrev pub served_in : Act Bytes → Phase → Bool
served_in (notice p) = is_active
served_in (call op c x) = is_active
served_in (entry iF sh bl) = is_active
served_in non_delivery = is_active
served_in (hand_back p iF sh) = is_leaving
served_in (allow cs q) = is_active

pub known_of : (m : Module) (i : ℕ) (a : Act Bytes) → verdict m (record { vcpu = i; act = a }) ≡ accept → Known m i (served_in a)
unfolding verdict vcpu_verdict
known_of m i (notice p) h = known m i is_active refl NotActive _ h
known_of m i (call op c x) h = known m i is_active refl NotActive _ h
known_of m i (entry iF sh bl) h = known m i is_active refl NotActive accept h
known_of m i non_delivery h = known m i is_active refl NotActive _ h
known_of m i (hand_back p iF sh) h = known m i is_leaving refl _ _ h
known_of m i (allow cs q) h = known m i is_active refl NotActive _ h

-- ---- a leaving vCPU is neither active nor has it left
pub leaving_inactive : (s : Phase) → is_leaving s ≡ true → (is_active s ≡ false) × (has_left s ≡ false)
leaving_inactive Active e = clash (cc)
leaving_inactive Leaving e = (refl, refl)
leaving_inactive Left e = clash (cc)
