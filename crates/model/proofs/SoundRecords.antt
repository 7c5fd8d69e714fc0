-- Why the record of an accepted event's vCPU stays sound, its summary apart.
-- Assumes nothing.
use mathlib.Core.Path.{◌≡◌, refl, sym, ◌∙◌}
use mathlib.Core.Bool.{Bool, true, false, cond, not, ◌&&◌, ◌||◌, or-true}
use mathlib.Core.List.{List}
use Rattle.std.specs.Prelude.{Option, None, Some}
use Prim.Native.Nat.{ℕ, ◌-◌, ◌<◌, ◌≤◌}
use native.Mathlib.Omega.{arith}
use lib.Dec.{leb, eqb}
use borrow.Author.Tests.{eqb-true, eq-eqb}
use Rattle.model.specs.declared.InFlight.{InFlight}
use Rattle.model.specs.declared.InFlight.TheVariants as flight
use Rattle.model.specs.declared.Item.{Item}
use Rattle.model.specs.declared.Item.TheVariants as item
use Rattle.model.specs.declared.Local.{Local}
use Rattle.model.specs.declared.Local.TheVariants as local
use Rattle.std.specs.Prelude.{Ok, Err}
use Rattle.model.specs.Requests.{Parsed}
use Rattle.model.specs.declared.Request.TheVariants as request
use Rattle.model.specs.declared.Vcpu.{Vcpu}
use Rattle.model.specs.State.{is_active, is_leaving}
use Rattle.model.specs.Codes.{Answer, nothing, presents, window}
use Rattle.model.specs.Items.{IsVector, item_in_flight, mark, unmark, mark_all, unmark_all}
use Rattle.model.specs.Doorbell.{Part, is_level, in_part, admitted}
use Rattle.model.specs.Registers.{ppr, class, ended_at, ended}
use Rattle.model.specs.Ipi.{icr_item}
use Rattle.model.specs.Requests.{may_name, request_of, forget, leave_if, serve}
use Rattle.model.specs.Events.{Act, notice, call, entry, non_delivery, hand_back, allow, Bytes, noticed, offer_highest, offer_with, offer, present}
use Rattle.model.specs.Events.{entered, give_back, undelivered, emptied, Reply, gives, sends, call_effect, effect}
use Rattle.model.specs.Reached.{Levelled, Summarised, Sound}
use Rattle.vector_set.specs.Sets.{Words, has, empty, insert, remove, highest}
use Rattle.vector_set.specs.Summaries.{in_marked}
use Rattle.vector_set.proofs.Laws.{clash, has_empty, has_insert, has_remove, words_empty, words_insert, words_remove}
use Rattle.vector_set.proofs.SummaryLaws.{marked_has}
use Rattle.model.proofs.Stored.{served_in, leaving_inactive}
use Rattle.model.proofs.Allowed.{admitted_fits}
use Rattle.model.proofs.LevelledLaws.{levelled, levelled_empty, levelled_low, levelled_remove, levelled_insert, levelled_gains}
use Rattle.model.proofs.Fitting.{Fitting, FittingRequest, fitting_request}
use Rattle.model.proofs.ListLaws.{after_each}

-- ---- records
-- what is sound of a record but for its summary, of which Summarised tells
pub record Formed (v : Vcpu) : Type 0 where
  pub words : Words v.allowed
  pub nameable : (x : ℕ) → x < 256 → has v.allowed x ≡ true → may_name x ≡ true
  pub irr : Levelled v.irr v.irr_level
  pub isr : Levelled v.isr v.isr_level
  pub in_service : (x : ℕ) → v.flight ≡ flight.Vector x → has v.isr x ≡ true
  pub inactive : is_active v.phase ≡ false → v.flight ≡ flight.Nothing

pub formed_of : (v : Vcpu) → Sound v → Formed v
formed_of v h =
    record {
      words = h.words;
      nameable = h.nameable;
      irr = h.ruled.irr;
      isr = h.ruled.isr;
      in_service = h.in_service;
      inactive = h.inactive;
    }

pub sound_of : (v : Vcpu) → Formed v → Summarised v → Sound v
sound_of v h e =
    record {
      ruled = record { irr = h.irr; isr = h.isr; summary = e };
      words = h.words;
      nameable = h.nameable;
      in_service = h.in_service;
      inactive = h.inactive;
    }

-- one with nothing in flight
pub at_rest : (v : Vcpu) → Words v.allowed → ((x : ℕ) → x < 256 → has v.allowed x ≡ true → may_name x ≡ true)
    → Levelled v.irr v.irr_level → Levelled v.isr v.isr_level → v.flight ≡ flight.Nothing → Formed v
at_rest v w n p s z = record { words = w; nameable = n; irr = p; isr = s; in_service = λ x e. clash (cc); inactive = λ e. z }

sound_noticed : (l : ℕ) (p : Bytes) (v : Vcpu) → Formed v → Formed (noticed (admitted l v.allowed p) v)
unfolding noticed mark_all
sound_noticed l p v h =
    record {
      words = h.words;
      nameable = h.nameable;
      irr =
          levelled (λ x. in_part (item.Vector x) a || has v.irr x) (λ x. has v.irr_level x || is_level a.level x)
          (λ x l. rw (low x l, h.irr.vectors x l))
          (λ x l. sub (has v.irr_level x) (has a.edge x) (is_level a.level x) (h.irr.within x l));
      isr = h.isr;
      in_service = h.in_service;
      inactive = h.inactive;
    }
  where
    a : Part
    a = admitted l v.allowed p

    low : (x : ℕ) → x < 31 → (has a.edge x || is_level a.level x) ≡ false
    low x b = pick (has a.edge x || is_level a.level x) (λ q. (admitted_fits l v.allowed p (item.Vector x) (omega arith) q).1)
      where
        pick : (t : Bool) → (t ≡ true → 31 ≤ x) → t ≡ false
        pick true q = let z = q refl in absurd (let f : ⊥ = omega arith in f)
        pick false q = refl

    sub : (d e b : Bool) {c : Bool} → (d ≡ true → c ≡ true) → (d || b) ≡ true → ((e || b) || c) ≡ true
    sub true e b h p = rw (h refl) (or-true (e || b))
    sub false e b {c} h p = rw (p, or-true e)

-- ---- what a call does to a record
pub sound_mark : (y : Item) (v : Vcpu) → IsVector y → Formed v → Formed (mark y v)
unfolding mark insert
sound_mark item.Nmi v q h =
    record { words = h.words; nameable = h.nameable; irr = h.irr; isr = h.isr; in_service = h.in_service; inactive = h.inactive }
sound_mark item.MachineCheck v q h =
    record { words = h.words; nameable = h.nameable; irr = h.irr; isr = h.isr; in_service = h.in_service; inactive = h.inactive }
sound_mark (item.Vector x) v q h =
    record {
      words = h.words;
      nameable = h.nameable;
      irr = levelled_insert x v.irr v.irr_level q h.irr;
      isr = h.isr;
      in_service = h.in_service;
      inactive = h.inactive;
    }

sound_forget : (v : Vcpu) → Formed v → Formed (forget v)
sound_forget v h = at_rest (forget v) h.words h.nameable h.irr h.isr refl

sound_leave_if : (b : Bool) (v : Vcpu) → v.flight ≡ flight.Nothing → Formed v → Formed (leave_if b v)
sound_leave_if true v z h = at_rest _ h.words h.nameable h.irr h.isr z
sound_leave_if false v z h = h

sound_ended_at : (o : Option ℕ) (v : Vcpu) → v.flight ≡ flight.Nothing → Formed v → Formed (ended_at o v)
unfolding ended_at
sound_ended_at None v z h = h
sound_ended_at (Some x) v z h = at_rest _ h.words h.nameable h.irr (levelled_remove x v.isr v.isr_level h.isr) z

named_insert : (x : ℕ) (s : List ℕ) → may_name x ≡ true → ((y : ℕ) → y < 256 → has s y ≡ true → may_name y ≡ true)
    → (y : ℕ) → y < 256 → has (insert x s) y ≡ true → may_name y ≡ true
named_insert x s q h y l e = pick (eqb y x) (has s y) refl refl (sym (has_insert x s y l) ∙ e)
  where
    pick : (a b : Bool) → eqb y x ≡ a → has s y ≡ b → (a || b) ≡ true → may_name y ≡ true
    pick true b p r f = rw (eqb-true y x p) q
    pick false true p r f = h y l r
    pick false false p r f = clash (cc)

named_remove : (x : ℕ) (s : List ℕ) → ((y : ℕ) → y < 256 → has s y ≡ true → may_name y ≡ true)
    → (y : ℕ) → y < 256 → has (remove x s) y ≡ true → may_name y ≡ true
named_remove x s h y l e = pick (not (eqb y x)) (has s y) refl (sym (has_remove x s y l) ∙ e)
  where
    pick : (a b : Bool) → has s y ≡ b → (a && b) ≡ true → may_name y ≡ true
    pick true true r f = h y l r
    pick true false r f = clash (cc)
    pick false b r f = clash (cc)

sound_serve : (o : Local) (i k : ℕ) (v : Vcpu) → Fitting o → v.flight ≡ flight.Nothing → Formed v → Formed (serve o i k v).vcpu
unfolding serve ended
sound_serve local.Features i k v q z h = h
sound_serve local.Leave i k v q z h = sound_leave_if (eqb k 0) v z h
sound_serve local.Release i k v q z h = sound_leave_if (eqb (k - 1) 0) v z h
sound_serve local.Register i k v q z h = h
sound_serve (local.Allow x) i k v q z h = at_rest _ (words_insert x v.allowed) (named_insert x v.allowed q h.nameable) h.irr h.isr z
sound_serve (local.Disallow x) i k v q z h = at_rest _ (words_remove x v.allowed) (named_remove x v.allowed h.nameable) h.irr h.isr z
sound_serve (local.Read r) i k v q z h = h
sound_serve (local.SetTpr x) i k v q z h = at_rest _ h.words h.nameable h.irr h.isr z
sound_serve local.Eoi i k v q z h = sound_ended_at (highest v.isr) v z h
sound_serve (local.SelfIpi x) i k v q z h = sound_mark (item.Vector x) v q h

sound_call : (r : Parsed) (i k : ℕ) (v : Vcpu) → FittingRequest r → Formed v → Formed (call_effect r i k v).vcpu
unfolding call_effect FittingRequest
sound_call (Ok (request.Local o)) i k v q h = sound_serve o i k (forget v) q refl (sound_forget v h)
sound_call (Ok (request.Icr x)) i k v q h = at_rest _ h.words h.nameable h.irr h.isr refl
sound_call (Err c) i k v q h = h

-- ---- entry, non-delivery, hand-back
-- a vector that an entry presents is one that P may hold
abbrev Shown : Answer → Type 0
Shown nothing = Unit {0}
Shown (presents item.Nmi) = Unit {0}
Shown (presents item.MachineCheck) = Unit {0}
Shown (presents (item.Vector x)) = (31 ≤ x) × (x < 256)
Shown (window x) = Unit {0}

shown_offer : (iF sh bl : Bool) (v : Vcpu) → Formed v → Shown (offer iF sh bl v)
unfolding offer offer_with offer_highest
shown_offer iF sh bl v h = first v.machine_check
  where
    over : (a b : Bool) (x : ℕ) → highest (in_marked v.summary v.irr) ≡ Some x → Shown (cond a nothing (cond b (presents (item.Vector x)) (window x)))
    over true b x e = tt
    over false false x e = tt
    over false true x e = (levelled_low v.irr _ h.irr x (marked_has v.summary v.irr x e).0, (marked_has v.summary v.irr x e).1)

    high : (o : Option ℕ) → highest (in_marked v.summary v.irr) ≡ o → Shown (offer_highest (iF && not sh) (ppr v) o)
    high None e = tt
    high (Some x) e = over (leb (class x) (class (ppr v))) (iF && not sh) x e

    pick : (b : Bool) → Shown (cond b (presents item.Nmi) (offer_highest (iF && not sh) (ppr v) (highest (in_marked v.summary v.irr))))
    pick true = tt
    pick false = high (highest (in_marked v.summary v.irr)) refl

    first : (b : Bool)
        → Shown (cond b (presents item.MachineCheck)
        (cond (v.nmi && not (sh || bl)) (presents item.Nmi) (offer_highest (iF && not sh) (ppr v) (highest (in_marked v.summary v.irr)))))
    first true = tt
    first false = pick (v.nmi && not (sh || bl))

-- on an active vCPU
sound_entered : (a : Answer) (v : Vcpu) → Shown a → is_active v.phase ≡ true → Formed v → Formed (entered a (forget v))
unfolding entered present unmark remove
sound_entered nothing v q on h = sound_forget v h
sound_entered (presents item.Nmi) v q on h =
    record { words = h.words; nameable = h.nameable; irr = h.irr; isr = h.isr; in_service = λ x e. clash (cc); inactive = λ e. clash (cc) }
sound_entered (presents item.MachineCheck) v q on h =
    record { words = h.words; nameable = h.nameable; irr = h.irr; isr = h.isr; in_service = λ x e. clash (cc); inactive = λ e. clash (cc) }
sound_entered (presents (item.Vector x)) v q on h =
    record {
      words = h.words;
      nameable = h.nameable;
      irr = levelled_remove x v.irr v.irr_level h.irr;
      isr = levelled_gains x v.irr_level v.isr v.isr_level q.0 h.isr;
      in_service = λ y e. let d : y ≡ x = cc in rw d (has_insert x v.isr x q.1 ∙ rw (eq-eqb x x refl));
      inactive = λ e. clash (cc);
    }
sound_entered (window x) v q on h = sound_forget v h

-- a vector that is_in_flight is one that P may hold
abbrev Returned : Option Item → Type 0
Returned None = Unit {0}
Returned (Some y) = IsVector y

returned_flying : (v : Vcpu) → Formed v → Returned (item_in_flight v.flight)
returned_flying v h = go v.flight refl
  where
    go : (f : InFlight) → v.flight ≡ f → Returned (item_in_flight f)
    go flight.Nothing e = tt
    go flight.Nmi e = tt
    go flight.MachineCheck e = tt
    go (flight.Vector x) e = levelled_low v.isr _ h.isr x (h.in_service x e)

sound_undelivered : (o : Option Item) (v : Vcpu) → Returned o → Formed v → Formed (undelivered o v)
unfolding undelivered give_back mark insert
sound_undelivered None v q h = sound_forget v h
sound_undelivered (Some item.Nmi) v q h = at_rest _ h.words h.nameable h.irr h.isr refl
sound_undelivered (Some item.MachineCheck) v q h = at_rest _ h.words h.nameable h.irr h.isr refl
sound_undelivered (Some (item.Vector x)) v q h =
    at_rest _ h.words h.nameable (levelled_gains x v.isr_level v.irr v.irr_level q h.irr)
    (levelled_remove x v.isr v.isr_level h.isr) refl

pub none_named : (y : ℕ) → y < 256 → has empty y ≡ true → may_name y ≡ true
none_named y l e = let z = has_empty y l in clash (cc)

-- of a leaving vCPU
sound_emptied : (v : Vcpu) → is_leaving v.phase ≡ true → Formed v → Formed (emptied v)
unfolding emptied unmark_all empty
sound_emptied v on h = at_rest _ words_empty none_named levelled_empty levelled_empty (h.inactive (leaving_inactive v.phase on).0)

-- ---- what an accepted event gives
-- an ICR write sends a vector that P may hold, or the NMI
abbrev pub Sending : Reply → Type 0
Sending (gives r) = Unit {0}
Sending (sends x) = IsVector (icr_item x)

sending_call : (r : Parsed) (i k : ℕ) (v : Vcpu) → FittingRequest r → Sending (call_effect r i k v).reply
unfolding call_effect FittingRequest
sending_call (Ok (request.Local o)) i k v q = tt
sending_call (Ok (request.Icr x)) i k v q = q
sending_call (Err c) i k v q = tt

pub sending_effect : (l i k : ℕ) (v : Vcpu) (a : Act Bytes) → Sending (effect l i k v a).reply
unfolding effect
sending_effect l i k v (notice p) = tt
sending_effect l i k v (call op c x) = sending_call (request_of op c x) i k v (fitting_request op c x)
sending_effect l i k v (entry iF sh bl) = tt
sending_effect l i k v non_delivery = tt
sending_effect l i k v (hand_back p iF sh) = tt
sending_effect l i k v (allow cs q) = tt

pub sound_effect : (l i k : ℕ) (v : Vcpu) (a : Act Bytes) → served_in a v.phase ≡ true → Formed v → Formed (effect l i k v a).vcpu
unfolding effect
sound_effect l i k v (notice p) on h = sound_noticed l p v h
sound_effect l i k v (call op c x) on h = sound_call (request_of op c x) i k v (fitting_request op c x) h
sound_effect l i k v (entry iF sh bl) on h = sound_entered (offer iF sh bl v) v (shown_offer iF sh bl v h) on h
sound_effect l i k v non_delivery on h = sound_undelivered (item_in_flight v.flight) v (returned_flying v h) h
sound_effect l i k v (hand_back p iF sh) on h = sound_emptied v on h
sound_effect l i k v (allow cs q) on h =
    after_each Formed i k (λ c u. sound_call (request_of 4 c 0) i k u (fitting_request 4 c 0)) _ v h
