-- What an event keeps, of every module value, beside what LeftAlone says: what is pending under a guest call, the members of PL under a request, the
-- record of a vCPU that is not active, and what stands at n and above.
-- Assumes nothing.
use mathlib.Core.Path.{◌≡◌, refl, sym, ap, ◌∙◌, subst}
use mathlib.Core.Bool.{Bool, true, false, cond, ◌&&◌, ◌||◌, or-true}
use mathlib.Core.List.{List}
use Rattle.std.specs.Prelude.{Option, None, Some}
use Prim.Native.Nat.{ℕ, ◌<◌, ◌≤◌, ◌-◌}
use native.Mathlib.Omega.{arith}
use lib.Dec.{ltb, eqb}
use borrow.Author.Tests.{le-ltb, ltb-true, ne_eqb}
use Rattle.model.specs.declared.Item.{Item}
use Rattle.model.specs.declared.Item.TheVariants as item
use Rattle.model.specs.declared.Target.{Target}
use Rattle.model.specs.declared.Local.{Local}
use Rattle.model.specs.declared.Local.TheVariants as local
use Rattle.std.specs.Prelude.{Ok, Err}
use Rattle.model.specs.Requests.{Parsed}
use Rattle.model.specs.declared.Request.TheVariants as request
use Rattle.model.specs.declared.Vcpu.{Vcpu}
use Rattle.model.specs.declared.Module.{Module}
use Rattle.model.specs.State.{is_active, size, vcpu_at, with_vcpu}
use Rattle.model.specs.Doorbell.{Part, is_level, admitted}
use Rattle.model.specs.Registers.{ended_at, ended}
use Rattle.model.specs.Ipi.{icr_type, icr_vector, icr_item, icr_target, hits, reach}
use Rattle.model.specs.Items.{InRange, is_machine_check, pending_in, pending, mark}
use Rattle.model.specs.Requests.{request_of, forget, leave_if, serve}
use Rattle.model.specs.Events.{Act, notice, call, entry, non_delivery, hand_back, allow, at, Bytes, Event, noticed, Reply, gives}
use Rattle.model.specs.Events.{sends, call_effect, effect, effect_of, store, deliver, concluded, next}
use Rattle.model.specs.Causes.{is_hand_back}
use Rattle.model.specs.Demand2.{is_request}
use Rattle.vector_set.specs.Sets.{has, highest}
use Rattle.vector_set.proofs.Laws.{clash, has_collect}
use Rattle.model.proofs.Stored.{on_put, by_reach, vcpu_at_count, vcpu_at_sent, size_put, size_count, by_verdict_lem, known_of, served_in}
use Rattle.model.proofs.ItemLaws.{pending_mark, rest_mark}
use Rattle.model.proofs.ListLaws.{after_each}

-- ---- what a guest call keeps: whatever is said of the marks, P and PL, and stays true where an item becomes pending
abbrev Said : Type 1
Said = Bool → Bool → List ℕ → List ℕ → Type 0

abbrev On : Said → Vcpu → Type 0
On Q v = Q v.nmi v.machine_check v.irr v.irr_level

-- no guest call makes a machine check pending (7.27)
abbrev Marks : Said → Type 0
Marks Q = (y : Item) → is_machine_check y ≡ false → (v : Vcpu) → On Q v → On Q (mark y v)

pub sent_item : (x : ℕ) → is_machine_check (icr_item x) ≡ false
unfolding icr_item
sent_item x = pick (eqb (icr_type x) 4)
  where
    pick : (b : Bool) → is_machine_check (cond b item.Nmi (item.Vector (icr_vector x))) ≡ false
    pick true = refl
    pick false = refl

kept_leave : (Q : Said) (b : Bool) (v : Vcpu) → On Q v → On Q (leave_if b v)
kept_leave Q true v h = h
kept_leave Q false v h = h

kept_ended : (Q : Said) (o : Option ℕ) (v : Vcpu) → On Q v → On Q (ended_at o v)
unfolding ended_at
kept_ended Q None v h = h
kept_ended Q (Some x) v h = h

kept_serve : (Q : Said) → Marks Q → (o : Local) (i k : ℕ) (v : Vcpu) → On Q v → On Q (serve o i k v).vcpu
unfolding serve ended
kept_serve Q s local.Features i k v h = h
kept_serve Q s local.Leave i k v h = kept_leave Q (eqb k 0) v h
kept_serve Q s local.Release i k v h = kept_leave Q (eqb (k - 1) 0) v h
kept_serve Q s local.Register i k v h = h
kept_serve Q s (local.Allow x) i k v h = h
kept_serve Q s (local.Disallow x) i k v h = h
kept_serve Q s (local.Read r) i k v h = h
kept_serve Q s (local.SetTpr x) i k v h = h
kept_serve Q s local.Eoi i k v h = kept_ended Q (highest v.isr) v h
kept_serve Q s (local.SelfIpi x) i k v h = s (item.Vector x) refl v h

kept_call : (Q : Said) → Marks Q → (r : Parsed) (i k : ℕ) (v : Vcpu) → On Q v → On Q (call_effect r i k v).vcpu
unfolding call_effect
kept_call Q s (Ok (request.Local o)) i k v h = kept_serve Q s o i k (forget v) h
kept_call Q s (Ok (request.Icr x)) i k v h = h
kept_call Q s (Err c) i k v h = h

kept_delivered : (Q : Said) → Marks Q → (r : Reply) (i : ℕ) (m : Module) (j : ℕ) → On Q (vcpu_at m j) → On Q (vcpu_at (deliver r i m) j)
kept_delivered Q s (gives r) i m j h = h
kept_delivered Q s (sends y) i m j h =
    subst (On Q) (sym (vcpu_at_sent (icr_item y) (icr_target y) i m j))
    (by_reach (icr_item y) (icr_target y) i (size m) j (vcpu_at m j) (On Q) (s (icr_item y) (sent_item y) (vcpu_at m j) h) h)

calls_keep : (Q : Said) → Marks Q → (m : Module) (i op c x j : ℕ) → On Q (vcpu_at m j) → On Q (vcpu_at (next m (at i (call op c x))) j)
unfolding concluded effect
calls_keep Q s m i op c x j h =
    let e = at i (call op c x) in
    by_verdict_lem m e (λ o. On Q (vcpu_at o.after j)) (λ r p. h)
    (λ p. kept_delivered Q s (effect_of m e).reply i _ j
    (rw (vcpu_at_count)
    (on_put m i (effect_of m e).vcpu j (known_of m i (call op c x) p).there (λ _ _ u v. On Q u → On Q v)
    (kept_call Q s (request_of op c x) i m.registrations (vcpu_at m i)) (λ q. q) h)))

-- the item y is pending
abbrev IsPending : Item → Said
IsPending y nmi mc irr pl = pending_in y nmi mc irr ≡ true

pending_marks : (y : Item) → InRange y → Marks (IsPending y)
pending_marks y r z n v h = pending_mark y r z v ∙ rw (h, or-true)

pub calls_keep_pending_lem : (m : Module) (i op c x j : ℕ) (y : Item) → InRange y → pending y (vcpu_at m j) ≡ true
    → pending y (vcpu_at (next m (at i (call op c x))) j) ≡ true
calls_keep_pending_lem m i op c x j y r h = calls_keep (IsPending y) (pending_marks y r) m i op c x j h

-- ---- a request takes no vector out of PL
-- x stays in PL from the record u to v
abbrev Stays : ℕ → Vcpu → Vcpu → Type 0
Stays x u v = has u.irr_level x ≡ true → has v.irr_level x ≡ true

-- x is in PL
abbrev InLevel : ℕ → Said
InLevel x nmi mc irr pl = has pl x ≡ true

in_level_marks : (x : ℕ) → Marks (InLevel x)
in_level_marks x y n v h = ap (λ (u : Vcpu). has u.irr_level x) (rest_mark y v) ∙ h

stays_noticed : (x : ℕ) → x < 256 → (a : Part) (v : Vcpu) → Stays x v (noticed a v)
unfolding noticed
stays_noticed x l a v h = has_collect (λ y. has v.irr_level y || is_level a.level y) x l ∙ rw h

stays_effect : (x : ℕ) → x < 256 → (l i k : ℕ) (v : Vcpu) (a : Act Bytes) → is_request a ≡ true → Stays x v (effect l i k v a).vcpu
unfolding effect
stays_effect x b l i k v (notice p) q = stays_noticed x b (admitted l v.allowed p) v
stays_effect x b l i k v (call op c y) q = kept_call (InLevel x) (in_level_marks x) (request_of op c y) i k v
stays_effect x b l i k v (entry iF sh bl) q = clash (cc)
stays_effect x b l i k v non_delivery q = clash (cc)
stays_effect x b l i k v (hand_back p iF sh) q = clash (cc)
stays_effect x b l i k v (allow cs p) q =
    after_each (On (InLevel x)) i k (λ c u. kept_call (InLevel x) (in_level_marks x) (request_of 4 c 0) i k u) _ _

pub keeps_level_lem : (m : Module) (e : Event) (j x : ℕ) → x < 256 → is_request e.act ≡ true → Stays x (vcpu_at m j) (vcpu_at (next m e) j)
unfolding concluded
keeps_level_lem m e j x b q =
    by_verdict_lem m e (λ o. Stays x (vcpu_at m j) (vcpu_at o.after j)) (λ c p h. h)
    (λ p h. kept_delivered (InLevel x) (in_level_marks x) (effect_of m e).reply e.vcpu _ j
    (rw (vcpu_at_count)
    (on_put m e.vcpu (effect_of m e).vcpu j (known_of m e.vcpu e.act p).there (λ _ _ u v. Stays x u v)
    (stays_effect x b m.vmpl e.vcpu m.registrations (vcpu_at m e.vcpu) e.act q) (λ r. r) h)))

-- ---- the record of a vCPU that is not active changes by its own hand-back alone
-- an event is served on its own vCPU in no such phase
own_phase : (a : Act Bytes) (v : Vcpu) {A : Type 0} → served_in a v.phase ≡ true → is_active v.phase ≡ false → (is_hand_back a && true) ≡ false → A
own_phase (notice p) v s h b = clash (cc)
own_phase (call op c x) v s h b = clash (cc)
own_phase (entry iF sh bl) v s h b = clash (cc)
own_phase non_delivery v s h b = clash (cc)
own_phase (hand_back p iF sh) v s h b = clash (cc)
own_phase (allow cs q) v s h b = clash (cc)

reach_inactive : (y : Item) (t : Target) (i n k : ℕ) (v : Vcpu) → is_active v.phase ≡ false → reach y t i n k v ≡ v
unfolding reach
reach_inactive y t i n k v h = pick (ltb k n && hits t i k) (is_active v.phase) h
  where
    pick : (a b : Bool) → b ≡ false → cond (a && b) (mark y v) v ≡ v
    pick true true e = clash (cc)
    pick true false e = refl
    pick false b e = refl

inactive_delivered : (r : Reply) (i : ℕ) (m : Module) (j : ℕ) → is_active (vcpu_at m j).phase ≡ false → vcpu_at (deliver r i m) j ≡ vcpu_at m j
inactive_delivered (gives r) i m j h = refl
inactive_delivered (sends y) i m j h =
    vcpu_at_sent (icr_item y) (icr_target y) i m j ∙ reach_inactive (icr_item y) (icr_target y) i (size m) j (vcpu_at m j) h

pub keeps_inactive_lem : (m : Module) (e : Event) (j : ℕ) → is_active (vcpu_at m j).phase ≡ false → (is_hand_back e.act && eqb j e.vcpu) ≡ false
    → vcpu_at (next m e) j ≡ vcpu_at m j
unfolding concluded
keeps_inactive_lem m e j h b =
    by_verdict_lem m e (λ o. vcpu_at o.after j ≡ vcpu_at m j) (λ c p. refl)
    (λ p. let k = known_of m e.vcpu e.act p in
    let s : vcpu_at (store (effect_of m e) e.vcpu m) j ≡ vcpu_at m j =
    (rw (vcpu_at_count)
    (on_put m e.vcpu (effect_of m e).vcpu j k.there (λ _ t u v. is_active u.phase ≡ false → (is_hand_back e.act && t) ≡ false → v ≡ u)
    (λ q r. own_phase e.act (vcpu_at m e.vcpu) k.phase q r) (λ q r. refl) h b)) in
    inactive_delivered (effect_of m e).reply e.vcpu _ j (ap (λ (v : Vcpu). is_active v.phase) s ∙ h) ∙ s)

-- ---- no event changes a place at n or above
beyond_delivered : (r : Reply) (i : ℕ) (m : Module) (j : ℕ) → size m ≤ j → vcpu_at (deliver r i m) j ≡ vcpu_at m j
unfolding reach
beyond_delivered (gives r) i m j h = refl
beyond_delivered (sends y) i m j h = vcpu_at_sent (icr_item y) (icr_target y) i m j ∙ rw (le-ltb j (size m) h)

pub keeps_beyond_lem : (m : Module) (e : Event) (j : ℕ) → size m ≤ j → vcpu_at (next m e) j ≡ vcpu_at m j
unfolding concluded
keeps_beyond_lem m e j h =
    by_verdict_lem m e (λ o. vcpu_at o.after j ≡ vcpu_at m j) (λ c p. refl)
    (λ p. let k = known_of m e.vcpu e.act p in
    let n : eqb j e.vcpu ≡ false = ne_eqb j e.vcpu (λ (q : j ≡ e.vcpu). above q (ltb-true e.vcpu (size m) k.below)) in
    let s : vcpu_at (store (effect_of m e) e.vcpu m) j ≡ vcpu_at m j =
    (rw (vcpu_at_count)
    (on_put m e.vcpu (effect_of m e).vcpu j k.there (λ _ t u v. t ≡ false → v ≡ u) (λ q. clash (cc)) (λ q. refl) n)) in
    beyond_delivered (effect_of m e).reply e.vcpu _ j
    (rw (size_count (effect_of m e).registrations (with_vcpu m e.vcpu (effect_of m e).vcpu), size_put m e.vcpu (effect_of m e).vcpu) h) ∙ s)
  where
    above : j ≡ e.vcpu → e.vcpu < size m → ⊥
    above q l = omega arith
