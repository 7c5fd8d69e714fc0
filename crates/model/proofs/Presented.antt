-- What an entry, a non-delivery and a hand-back leave pending, by item, of every module value.
-- Assumes nothing.
use mathlib.Core.Path.{◌≡◌, refl, sym, ap, ◌∙◌}
use mathlib.Core.Bool.{Bool, true, false, cond, not, ◌&&◌, ◌||◌}
use Rattle.std.specs.Prelude.{Option, None, Some}
use Prim.Native.Nat.{ℕ}
use lib.Dec.{leb}
use Rattle.vector_set.specs.Sets.{highest}
use Rattle.vector_set.specs.Summaries.{in_marked}
use Rattle.vector_set.proofs.Laws.{clash}
use Rattle.model.specs.declared.InFlight.TheVariants as flight
use Rattle.model.specs.declared.Item.{Item}
use Rattle.model.specs.declared.Item.TheVariants.{Nmi, MachineCheck, Vector}
use Rattle.model.specs.declared.Vcpu.{Vcpu}
use Rattle.model.specs.declared.Module.{Module}
use Rattle.model.specs.State.{vcpu_at}
use Rattle.model.specs.Codes.{Answer, nothing, presents, window, done, answers, presented_in}
use Rattle.model.specs.Items.{InRange, same_item, is_item, item_in_flight, pending}
use Rattle.model.specs.Registers.{class, ppr}
use Rattle.model.specs.Requests.{forget}
use Rattle.model.specs.Events.{entry, non_delivery, hand_back, at, Bytes, offer_highest, offer_with, offer, present, entered}
use Rattle.model.specs.Events.{give_back, undelivered, emptied}
use Rattle.model.specs.Events.{effect, concluded, step, next}
use Rattle.model.proofs.Stored.{stored_at, by_verdict_lem, known_of}
use Rattle.model.proofs.ItemLaws.{pending_mark, pending_unmark, pending_unmark_all}

-- ---- the record
pub pending_present : (x : Item) → InRange x → (y : Item) (v : Vcpu) → pending x (present y v) ≡ (not (same_item x y) && pending x v)
unfolding present
pending_present x r Nmi v = pending_unmark x r Nmi v
pending_present x r MachineCheck v = pending_unmark x r MachineCheck v
pending_present x r (Vector y) v = pending_unmark x r (Vector y) v

pub pending_give_back : (x : Item) → InRange x → (y : Item) (v : Vcpu) → pending x (give_back y v) ≡ (same_item x y || pending x v)
unfolding give_back
pending_give_back x r Nmi v = pending_mark x r Nmi v
pending_give_back x r MachineCheck v = pending_mark x r MachineCheck v
pending_give_back x r (Vector y) v = pending_mark x r (Vector y) v

pub pending_emptied : (x : Item) → InRange x → (v : Vcpu) → pending x (emptied v) ≡ false
unfolding emptied
pending_emptied x r v = pending_unmark_all x r v

pending_entered : (x : Item) → InRange x → (a : Answer) (v : Vcpu) → pending x (entered a (forget v)) ≡ (not (is_item x (presented_in a)) && pending x v)
unfolding entered
pending_entered x r nothing v = refl
pending_entered x r (presents y) v = pending_present x r y (forget v)
pending_entered x r (window w) v = refl

pending_undelivered : (x : Item) → InRange x → (o : Option Item) (v : Vcpu) → pending x (undelivered o v) ≡ (is_item x o || pending x v)
unfolding undelivered
pending_undelivered x r None v = refl
pending_undelivered x r (Some y) v = pending_give_back x r y v

-- ---- an entry
check_offered : (iF sh bl : Bool) (v : Vcpu) → is_item MachineCheck (presented_in (offer iF sh bl v)) ≡ v.machine_check
unfolding offer offer_with offer_highest
check_offered iF sh bl v = first v.machine_check
  where
    over : (a b : Bool) (x : ℕ) → is_item MachineCheck (presented_in (cond a nothing (cond b (presents (Vector x)) (window x)))) ≡ false
    over true b x = refl
    over false true x = refl
    over false false x = refl

    high : (o : Option ℕ) → is_item MachineCheck (presented_in (offer_highest (iF && not sh) (ppr v) o)) ≡ false
    high None = refl
    high (Some x) = over (leb (class x) (class (ppr v))) (iF && not sh) x

    second : (b : Bool)
        → is_item MachineCheck (presented_in (cond b (presents Nmi) (offer_highest (iF && not sh) (ppr v) (highest (in_marked v.summary v.irr))))) ≡ false
    second true = refl
    second false = high (highest (in_marked v.summary v.irr))

    first : (b : Bool)
        → is_item MachineCheck (presented_in (cond b (presents MachineCheck)
        (cond (v.nmi && not (sh || bl)) (presents Nmi) (offer_highest (iF && not sh) (ppr v) (highest (in_marked v.summary v.irr)))))) ≡ b
    first true = refl
    first false = second (v.nmi && not (sh || bl))

same_answer : {a b : Answer} → answers a ≡ answers b → a ≡ b
same_answer e = cc

pub machine_check_first_lem : (m : Module) (i : ℕ) (iF sh bl : Bool) (a : Answer) → (step m (at i (entry iF sh bl))).result ≡ answers a
    → is_item MachineCheck (presented_in a) ≡ pending MachineCheck (vcpu_at m i)
unfolding concluded effect
machine_check_first_lem m i iF sh bl a =
    by_verdict_lem m (at i (entry iF sh bl)) (λ o. o.result ≡ answers a → is_item MachineCheck (presented_in a) ≡ pending MachineCheck (vcpu_at m i))
    (λ c h e. clash (cc))
    (λ h e. ap (λ (z : Answer). is_item MachineCheck (presented_in z)) (sym (same_answer e)) ∙ check_offered iF sh bl (vcpu_at m i))

pub entry_pends_lem : (m : Module) (i : ℕ) (iF sh bl : Bool) (a : Answer) (x : Item) → InRange x → (step m (at i (entry iF sh bl))).result ≡ answers a
    → pending x (vcpu_at (next m (at i (entry iF sh bl))) i) ≡ (not (is_item x (presented_in a)) && pending x (vcpu_at m i))
unfolding concluded effect
entry_pends_lem m i iF sh bl a x r =
    let v = vcpu_at m i in
    by_verdict_lem m (at i (entry iF sh bl))
    (λ o. o.result ≡ answers a → pending x (vcpu_at o.after i) ≡ (not (is_item x (presented_in a)) && pending x v))
    (λ c h e. clash (cc))
    (λ h e. ap (pending x)
    (stored_at m i m.registrations (entered (offer iF sh bl v) (forget v)) (known_of m i (entry iF sh bl) h).there)
    ∙ pending_entered x r (offer iF sh bl v) v
    ∙ ap (λ (z : Answer). not (is_item x (presented_in z)) && pending x v) (same_answer e))

flight_entered : (a : Answer) (v : Vcpu) → item_in_flight (entered a (forget v)).flight ≡ presented_in a
unfolding entered
flight_entered nothing v = refl
flight_entered (presents Nmi) v = refl
flight_entered (presents MachineCheck) v = refl
flight_entered (presents (Vector x)) v = refl
flight_entered (window x) v = refl

pub entry_flight_lem : (m : Module) (i : ℕ) (iF sh bl : Bool) (a : Answer) → (step m (at i (entry iF sh bl))).result ≡ answers a
    → item_in_flight (vcpu_at (next m (at i (entry iF sh bl))) i).flight ≡ presented_in a
unfolding concluded effect
entry_flight_lem m i iF sh bl a =
    let v = vcpu_at m i in
    by_verdict_lem m (at i (entry iF sh bl)) (λ o. o.result ≡ answers a → item_in_flight (vcpu_at o.after i).flight ≡ presented_in a)
    (λ c h e. clash (cc))
    (λ h e. ap (λ (u : Vcpu). item_in_flight u.flight)
    (stored_at m i m.registrations (entered (offer iF sh bl v) (forget v)) (known_of m i (entry iF sh bl) h).there)
    ∙ flight_entered (offer iF sh bl v) v ∙ ap presented_in (same_answer e))

-- ---- a non-delivery
pub return_pends_lem : (m : Module) (i r : ℕ) (x : Item) → InRange x → (step m (at i non_delivery)).result ≡ done r
    → pending x (vcpu_at (next m (at i non_delivery)) i) ≡ (is_item x (item_in_flight (vcpu_at m i).flight) || pending x (vcpu_at m i))
unfolding concluded effect
return_pends_lem m i r x q =
    let v = vcpu_at m i in
    by_verdict_lem m (at i non_delivery) (λ o. o.result ≡ done r → pending x (vcpu_at o.after i) ≡ (is_item x (item_in_flight v.flight) || pending x v))
    (λ c h e. clash (cc))
    (λ h e. ap (pending x) (stored_at m i m.registrations (undelivered (item_in_flight v.flight) v) (known_of m i non_delivery h).there)
    ∙ pending_undelivered x q (item_in_flight v.flight) v)

flight_returned : (o : Option Item) (v : Vcpu) → (undelivered o v).flight ≡ flight.Nothing
unfolding undelivered
flight_returned None v = refl
flight_returned (Some y) v = refl

pub return_flight_lem : (m : Module) (i r : ℕ) → (step m (at i non_delivery)).result ≡ done r → (vcpu_at (next m (at i non_delivery)) i).flight ≡ flight.Nothing
unfolding concluded effect
return_flight_lem m i r =
    let v = vcpu_at m i in
    by_verdict_lem m (at i non_delivery) (λ o. o.result ≡ done r → (vcpu_at o.after i).flight ≡ flight.Nothing)
    (λ c h e. clash (cc))
    (λ h e. ap (λ (u : Vcpu). u.flight) (stored_at m i m.registrations (undelivered (item_in_flight v.flight) v) (known_of m i non_delivery h).there)
    ∙ flight_returned (item_in_flight v.flight) v)

-- ---- a hand-back
pub hand_back_empties_lem : (m : Module) (i r : ℕ) (p : Bytes) (iF sh : Bool) (x : Item) → InRange x → (step m (at i (hand_back p iF sh))).result ≡ done r
    → pending x (vcpu_at (next m (at i (hand_back p iF sh))) i) ≡ false
unfolding concluded effect
hand_back_empties_lem m i r p iF sh x q =
    by_verdict_lem m (at i (hand_back p iF sh)) (λ o. o.result ≡ done r → pending x (vcpu_at o.after i) ≡ false)
    (λ c h e. clash (cc))
    (λ h e. ap (pending x) (stored_at m i m.registrations (emptied (vcpu_at m i)) (known_of m i (hand_back p iF sh) h).there)
    ∙ pending_emptied x q (vcpu_at m i))
