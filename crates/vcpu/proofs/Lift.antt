-- The model's step from the steps of records: what the crates above cite for a module lent by value or by reference.
-- Assumes nothing.
use mathlib.Core.Path.{◌≡◌, refl, sym, ap, ◌∙◌}
use mathlib.Core.Bool.{Bool, not, ◌&&◌}
use mathlib.Core.List.{List, []}
use Prim.Native.Nat.{ℕ, ◌+◌, ◌<◌, ◌≤◌}
use native.Mathlib.Omega.{arith}
use lib.ListN.{length}
use borrow.Author.Tests.{lt-ltb, le-ltb}
use Rattle.model.specs.declared.Item.{Item}
use Rattle.model.specs.declared.Phase.{Phase}
use Rattle.model.specs.declared.Refusal.{Refusal}
use Rattle.model.specs.declared.Refusal.TheVariants.{UnknownVcpu}
use Rattle.std.specs.Prelude.{Ok, Err}
use Rattle.model.specs.Requests.{Parsed}
use Rattle.model.specs.declared.Request.TheVariants as request
use Rattle.model.specs.declared.Target.{Target}
use Rattle.model.specs.declared.Vcpu.{Vcpu}
use Rattle.model.specs.declared.Module.{Module}
use Rattle.model.specs.State.{size, vcpu_at, with_vcpu, with_registrations}
use Rattle.model.specs.Doorbell.{admitted, noticed_page, written}
use Rattle.model.specs.Codes.{code_of, Verdict, accept, refuse, refused}
use Rattle.model.specs.Items.{item_in_flight, pending}
use Rattle.model.specs.Ipi.{icr_item, icr_target, reached, sent, new_bits}
use Rattle.model.specs.Requests.{request_of}
use Rattle.model.specs.Events.{Act, notice, call, entry, non_delivery, hand_back, at, Bytes, Event, page_of, offer, handed, vcpu_verdict, verdict, sends, Effect}
use Rattle.model.specs.Events.{effect, call_effect, Out, store, refusal, concluded, decided, step}
use Rattle.vector_set.proofs.BitLaws.{clash, bits_ext}
use Rattle.model.proofs.Stored.{on_put, vcpu_at_count, size_put, size_count, count_same}
use Rattle.vcpu.proofs.Stores.{put_same, put_length}
use Rattle.vcpu.proofs.Sent.{all_sent}
use Rattle.vcpu.specs.Records.{VcpuOut, notice_on, entry_on, non_delivery_on, hand_back_on, page_on, call_on, send_below, delivered}

-- ---- an unknown vCPU
pub unknown : (m : Module) (e : Event) → size m ≤ e.vcpu → step m e ≡ refusal UnknownVcpu m (page_of e.act)
unfolding step verdict
unknown m e h = rw (le-ltb e.vcpu (size m) h)

-- for a vCPU below n the record decides
known : (m : Module) (i : ℕ) (a : Act Bytes) → i < size m
    → verdict m (at i a) ≡ vcpu_verdict i m.registrations (vcpu_at m i) a
unfolding verdict
known m i a h = rw (lt-ltb i (size m) h)

-- ---- the acts that change one record
-- an event's result and page, with the record i after it
abbrev pub on_record : Module → ℕ → VcpuOut → List ℕ → Out
on_record m i o p = record { result = o.result; after = with_vcpu m i o.vcpu; page = p }

-- a refusal stores the record back as it was
kept : (m : Module) (i : ℕ) (c : Refusal) (p : List ℕ)
    → refusal c m p ≡ on_record m i (record { result = refused (code_of c); vcpu = vcpu_at m i }) p
kept m i c p = ap (λ (a : Module). record { result = refused (code_of c); after = a; page = p }) (sym (put_same m i))

-- the step by the verdict g
by_notice : (g : Verdict) (m : Module) (i : ℕ) (p : List ℕ)
    → decided g m (at i (notice p))
    ≡ on_record m i (notice_on g (admitted m.vmpl (vcpu_at m i).allowed p) (vcpu_at m i)) (page_on g (noticed_page m.vmpl p) p)
unfolding effect concluded with_vcpu with_registrations notice_on page_on
by_notice (refuse c) m i p = kept m i c p
by_notice accept m i p = refl

by_entry : (g : Verdict) (m : Module) (i : ℕ) (iF sh bl : Bool)
    → decided g m (at i (entry iF sh bl)) ≡ on_record m i (entry_on g (offer iF sh bl (vcpu_at m i)) (vcpu_at m i)) []
unfolding effect concluded with_vcpu with_registrations entry_on
by_entry (refuse c) m i iF sh bl = kept m i c []
by_entry accept m i iF sh bl = refl

by_non_delivery : (g : Verdict) (m : Module) (i : ℕ)
    → decided g m (at i non_delivery) ≡ on_record m i (non_delivery_on g (item_in_flight (vcpu_at m i).flight) (vcpu_at m i)) []
unfolding effect concluded with_vcpu with_registrations non_delivery_on
by_non_delivery (refuse c) m i = kept m i c []
by_non_delivery accept m i = refl

by_hand_back : (g : Verdict) (m : Module) (i : ℕ) (p : List ℕ) (iF sh : Bool)
    → decided g m (at i (hand_back p iF sh))
    ≡ on_record m i (hand_back_on g m.vmpl iF sh (vcpu_at m i)) (page_on g (written m.vmpl (handed (vcpu_at m i)) p) p)
unfolding effect concluded with_vcpu with_registrations hand_back_on page_on
by_hand_back (refuse c) m i p iF sh = kept m i c p
by_hand_back accept m i p iF sh = refl

module _ (m : Module) (i : ℕ) (h : i < size m) where
  pub lift_notice : (p : List ℕ)
      → step m (at i (notice p))
      ≡ on_record m i (notice_on (vcpu_verdict 0 0 (vcpu_at m i) (notice p)) (admitted m.vmpl (vcpu_at m i).allowed p) (vcpu_at m i))
      (page_on (vcpu_verdict 0 0 (vcpu_at m i) (notice p)) (noticed_page m.vmpl p) p)
  unfolding step vcpu_verdict
  lift_notice p = rw (known m i (notice p) h) (by_notice _ m i p)

  pub lift_entry : (iF sh bl : Bool)
      → step m (at i (entry iF sh bl))
      ≡ on_record m i (entry_on (vcpu_verdict 0 0 (vcpu_at m i) (entry iF sh bl)) (offer iF sh bl (vcpu_at m i)) (vcpu_at m i)) []
  unfolding step vcpu_verdict
  lift_entry iF sh bl = rw (known m i (entry iF sh bl) h) (by_entry _ m i iF sh bl)

  pub lift-nonDelivery :
      step m (at i non_delivery)
      ≡ on_record m i (non_delivery_on (vcpu_verdict 0 0 (vcpu_at m i) non_delivery) (item_in_flight (vcpu_at m i).flight) (vcpu_at m i)) []
  unfolding step vcpu_verdict
  lift-nonDelivery = rw (known m i non_delivery h) (by_non_delivery _ m i)

  pub lift_hand_back : (p : List ℕ) (iF sh : Bool)
      → step m (at i (hand_back p iF sh))
      ≡ on_record m i (hand_back_on (vcpu_verdict 0 0 (vcpu_at m i) (hand_back p iF sh)) m.vmpl iF sh (vcpu_at m i))
      (page_on (vcpu_verdict 0 0 (vcpu_at m i) (hand_back p iF sh)) (written m.vmpl (handed (vcpu_at m i)) p) p)
  unfolding step vcpu_verdict
  lift_hand_back p iF sh = rw (known m i (hand_back p iF sh) h) (by_hand_back _ m i p iF sh)

-- ---- a guest call
by_call : (g : Verdict) (m : Module) (i op c x : ℕ)
    → decided g m (at i (call op c x)) ≡ concluded (call_on g (request_of op c x) i m.registrations (vcpu_at m i)) i m
unfolding effect concluded call_on
by_call accept m i op c x = refl
by_call (refuse d) m i op c x =
    kept m i d [] ∙ ap (λ (a : Module). record { result = refused (code_of d); after = a; page = [] }) (sym (count_same m i (vcpu_at m i)))

-- what an IPI looks at in a record: its phase and what is pending
pub record Alike (u v : Vcpu) : Type 0 where
  pub phase : u.phase ≡ v.phase
  pub pends : (y : Item) → pending y u ≡ pending y v

-- a call that sends leaves these of its caller
same_seen : (g : Verdict) (r : Parsed) (i k x : ℕ) (v : Vcpu) → (call_on g r i k v).reply ≡ sends x → Alike (call_on g r i k v).vcpu v
unfolding call_on call_effect
same_seen (refuse c) r i k x v e = clash (cc)
same_seen accept (Ok (request.Local o)) i k x v e = clash (cc)
same_seen accept (Err c) i k x v e = clash (cc)
same_seen accept (Ok (request.Icr y)) i k x v e = record { phase = refl; pends = λ y. refl }

-- the vCPU k is named, by its record
abbrev named : Item → Target → ℕ → Module → ℕ → Vcpu → Bool
named y t i m k v = reached t i (size m) k v.phase && not (pending y v)

alike_named : (y : Item) (t : Target) (i : ℕ) (m : Module) (k : ℕ) (u v : Vcpu) → Alike u v → named y t i m k u ≡ named y t i m k v
alike_named y t i m k u v a =
    ap (λ (p : Phase). reached t i (size m) k p && not (pending y u)) a.phase
    ∙ ap (λ (b : Bool). reached t i (size m) k v.phase && not b) (a.pends y)

-- the records that an IPI looks at are those of before the caller's record and the count were stored
same_named : (m : Module) (i : ℕ) (f : Effect) (y : Item) (t : Target) → Alike f.vcpu (vcpu_at m i) → i < length m.vcpus
    → new_bits y t i (store f i m) ≡ new_bits y t i m
unfolding new_bits
same_named m i f y t a h =
    rw (size_count f.registrations (with_vcpu m i f.vcpu), size_put m i f.vcpu)
    (bits_ext _ _ 0 32
    (λ b l. rw (vcpu_at_count f.registrations (with_vcpu m i f.vcpu) (0 + b))
    (on_put m i f.vcpu (0 + b) h (λ k _ u v. named y t i m k v ≡ named y t i m k u) (alike_named y t i m i f.vcpu (vcpu_at m i) a) refl)))

no_page : (g : Verdict) (r : Parsed) (i k : ℕ) (v : Vcpu) → (call_on g r i k v).page ≡ []
unfolding call_on call_effect
no_page (refuse c) r i k v = refl
no_page accept (Ok (request.Local o)) i k v = refl
no_page accept (Ok (request.Icr x)) i k v = refl
no_page accept (Err c) i k v = refl

sent_by : (m : Module) (i : ℕ) (f : Effect) (y : ℕ) → size m ≤ length m.vcpus → i < length m.vcpus
    → f.reply ≡ sends y → f.page ≡ [] → Alike f.vcpu (vcpu_at m i)
    → delivered (send_below i y (store f i m) (size (store f i m))) ≡ concluded f i m
unfolding concluded with_registrations
sent_by m i f y whole h e p same =
    rw (e, p)
    (ap delivered
    (all_sent i y (store f i m) (rw (size_count f.registrations (with_vcpu m i f.vcpu), size_put m i f.vcpu, put_length m i f.vcpu) whole)
    ∙ ap (λ (b : ℕ). record { mask = b; after = sent (icr_item y) (icr_target y) i (store f i m) }) (same_named m i f (icr_item y) (icr_target y) same h)))

module _ (m : Module) (i : ℕ) (h : i < size m) (op c x : ℕ) where
  -- what the call gives
  abbrev pub call_step : Effect
  call_step = call_on (vcpu_verdict i m.registrations (vcpu_at m i) (call op c x)) (request_of op c x) i m.registrations (vcpu_at m i)

  pub lift_call : step m (at i (call op c x)) ≡ concluded call_step i m
  unfolding step
  lift_call = rw (known m i (call op c x) h) (by_call _ m i op c x)

  -- the module that a call which sends y has stored, gone through vCPU by vCPU, is the one that the IPI leaves
  pub lift_sent : size m ≤ length m.vcpus → (y : ℕ) → call_step.reply ≡ sends y
      → delivered (send_below i y (store call_step i m) (size (store call_step i m))) ≡ concluded call_step i m
  lift_sent whole y e =
      sent_by m i call_step y whole (omega arith) e (no_page _ (request_of op c x) i m.registrations (vcpu_at m i))
      (same_seen _ (request_of op c x) i m.registrations y (vcpu_at m i) e)
