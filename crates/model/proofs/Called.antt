-- What an accepted call leaves at its caller, of every module value: nothing in flight, and by call 4 one vector in A or out of it.
-- Assumes nothing.
use mathlib.Core.Path.{◌≡◌, refl, ap, ◌∙◌}
use mathlib.Core.Bool.{Bool, true, false, cond, not, ◌&&◌, ◌||◌}
use mathlib.Core.List.{List}
use Rattle.std.specs.Prelude.{Option, None, Some}
use Prim.Native.Nat.{ℕ, ◌<◌, ◌-◌, ◌%◌}
use lib.Dec.{ltb, eqb}
use Rattle.vector_set.specs.Bits.{bit_at}
use Rattle.vector_set.specs.Sets.{has, highest}
use Rattle.vector_set.proofs.Laws.{clash, has_insert, has_remove}
use Rattle.model.specs.declared.InFlight.TheVariants as flight
use Rattle.model.specs.declared.Item.{Item}
use Rattle.model.specs.declared.Item.TheVariants as item
use Rattle.model.specs.declared.Local.{Local}
use Rattle.model.specs.declared.Local.TheVariants as local
use Rattle.model.specs.declared.Refusal.TheVariants.{UnknownVcpu, NotActive}
use Rattle.std.specs.Prelude.{Ok, Err}
use Rattle.model.specs.Requests.{Parsed}
use Rattle.model.specs.declared.Request.TheVariants as request
use Rattle.model.specs.declared.Vcpu.{Vcpu}
use Rattle.model.specs.declared.Module.{Module}
use Rattle.model.specs.State.{is_active, size, vcpu_at}
use Rattle.model.specs.Codes.{accept, done}
use Rattle.model.specs.Items.{mark}
use Rattle.model.specs.Registers.{ended_at, ended}
use Rattle.model.specs.Ipi.{icr_item, icr_target}
use Rattle.model.specs.Requests.{bad, nameable, permission, request_of, forget, leave_if, serve, call_verdict}
use Rattle.model.specs.Events.{call, at, Reply, gives, sends, call_effect, vcpu_verdict, verdict, effect, effect_of, deliver, concluded, step, next}
use Rattle.model.proofs.Stored.{stored_at, by_reach, vcpu_at_sent, needed, by_verdict_lem, known_of}
use Rattle.model.proofs.ItemLaws.{rest_mark}

-- an IPI leaves what an item that becomes pending leaves
by_delivery : {A : Type 0} (f : Vcpu → A) → ((y : Item) (v : Vcpu) → f (mark y v) ≡ f v) → (r : Reply) (i : ℕ) (m : Module) (j : ℕ)
    → f (vcpu_at (deliver r i m) j) ≡ f (vcpu_at m j)
by_delivery f h (gives r) i m j = refl
by_delivery f h (sends y) i m j =
    ap f (vcpu_at_sent (icr_item y) (icr_target y) i m j)
    ∙ by_reach (icr_item y) (icr_target y) i (size m) j (vcpu_at m j) (λ u. f u ≡ f (vcpu_at m j)) (h (icr_item y) (vcpu_at m j)) refl

-- ---- after an accepted call nothing is in flight at the caller
flight_leave : (b : Bool) (v : Vcpu) → (leave_if b v).flight ≡ v.flight
flight_leave true v = refl
flight_leave false v = refl

flight_ended : (o : Option ℕ) (v : Vcpu) → (ended_at o v).flight ≡ v.flight
unfolding ended_at
flight_ended None v = refl
flight_ended (Some x) v = refl

flight_serve : (o : Local) (i k : ℕ) (v : Vcpu) → (serve o i k v).vcpu.flight ≡ v.flight
unfolding serve ended
flight_serve local.Features i k v = refl
flight_serve local.Leave i k v = flight_leave (eqb k 0) v
flight_serve local.Release i k v = flight_leave (eqb (k - 1) 0) v
flight_serve local.Register i k v = refl
flight_serve (local.Allow x) i k v = refl
flight_serve (local.Disallow x) i k v = refl
flight_serve (local.Read r) i k v = refl
flight_serve (local.SetTpr x) i k v = refl
flight_serve local.Eoi i k v = flight_ended (highest v.isr) v
flight_serve (local.SelfIpi x) i k v = ap (λ (u : Vcpu). u.flight) (rest_mark (item.Vector x) v)

flight_called : (r : Parsed) (i k : ℕ) (v : Vcpu) → call_verdict r i k (forget v) ≡ accept → (call_effect r i k v).vcpu.flight ≡ flight.Nothing
unfolding call_effect call_verdict
flight_called (Ok (request.Local o)) i k v h = flight_serve o i k (forget v)
flight_called (Ok (request.Icr x)) i k v h = refl
flight_called (Err c) i k v h = clash (cc)

pub calls_forget_lem : (m : Module) (i op c x r : ℕ) → (step m (at i (call op c x))).result ≡ done r
    → (vcpu_at (next m (at i (call op c x))) i).flight ≡ flight.Nothing
unfolding concluded effect verdict vcpu_verdict
calls_forget_lem m i op c x r =
    let e = at i (call op c x) in
    by_verdict_lem m e (λ o. o.result ≡ done r → (vcpu_at o.after i).flight ≡ flight.Nothing)
    (λ c h q. clash (cc))
    (λ h q. by_delivery (λ v. v.flight) (λ y v. ap (λ (u : Vcpu). u.flight) (rest_mark y v)) (effect_of m e).reply i _ i
    ∙ ap (λ (u : Vcpu). u.flight) (stored_at m i (effect_of m e).registrations (effect_of m e).vcpu (known_of m i (call op c x) h).there)
    ∙ flight_called (request_of op c x) i m.registrations (vcpu_at m i)
    (needed (is_active (vcpu_at m i).phase) NotActive _ (needed (ltb i (size m)) UnknownVcpu _ h).1).1)

-- ---- an accepted call 4 puts its vector into A or takes it out
-- what call 4 asks for, by whether its value is taken and by bit 8
abbrev asks : ℕ → Bool → Bool → Parsed
asks c n t = cond n (cond t (Ok (request.Local (local.Allow (c % 256)))) (Ok (request.Local (local.Disallow (c % 256))))) bad

permitted : (c i k : ℕ) (v : Vcpu) (y : ℕ) → y < 256 → call_verdict (permission c) i k (forget v) ≡ accept
    → has (call_effect (permission c) i k v).vcpu.allowed y ≡ cond (eqb y (c % 256)) (bit_at c 8) (has v.allowed y)
unfolding permission call_verdict call_effect serve
permitted c i k v y l = pick (nameable c) (bit_at c 8)
  where
    join : (a b : Bool) → (a || b) ≡ cond a true b
    join true b = refl
    join false b = refl

    cut : (a b : Bool) → (not a && b) ≡ cond a false b
    cut true b = refl
    cut false b = refl

    pick : (n t : Bool) → call_verdict (asks c n t) i k (forget v) ≡ accept
        → has (call_effect (asks c n t) i k v).vcpu.allowed y ≡ cond (eqb y (c % 256)) t (has v.allowed y)
    pick true true h = has_insert (c % 256) v.allowed y l ∙ join (eqb y (c % 256)) (has v.allowed y)
    pick true false h = has_remove (c % 256) v.allowed y l ∙ cut (eqb y (c % 256)) (has v.allowed y)
    pick false t h = clash (cc)

pub call_permits_lem : (m : Module) (i c x r y : ℕ) → y < 256 → (step m (at i (call 4 c x))).result ≡ done r
    → has (vcpu_at (next m (at i (call 4 c x))) i).allowed y ≡ cond (eqb y (c % 256)) (bit_at c 8) (has (vcpu_at m i).allowed y)
unfolding concluded effect verdict vcpu_verdict request_of
call_permits_lem m i c x r y l =
    let e = at i (call 4 c x) in
    by_verdict_lem m e
    (λ o. o.result ≡ done r → has (vcpu_at o.after i).allowed y ≡ cond (eqb y (c % 256)) (bit_at c 8) (has (vcpu_at m i).allowed y))
    (λ c h q. clash (cc))
    (λ h q. ap (λ (s : List ℕ). has s y)
    (by_delivery (λ v. v.allowed) (λ y v. ap (λ (u : Vcpu). u.allowed) (rest_mark y v)) (effect_of m e).reply i _ i
    ∙ ap (λ (u : Vcpu). u.allowed) (stored_at m i (effect_of m e).registrations (effect_of m e).vcpu (known_of m i (call 4 c x) h).there))
    ∙ permitted c i m.registrations (vcpu_at m i) y l
    (needed (is_active (vcpu_at m i).phase) NotActive _ (needed (ltb i (size m)) UnknownVcpu _ h).1).1)
