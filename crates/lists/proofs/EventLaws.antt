-- What one event adds to the ledger is what it is to the machine.
-- Assumes nothing.
use mathlib.Core.Path.{◌≡◌, refl, sym, ap, ap₂, ◌∙◌, subst}
use mathlib.Core.Bool.{Bool, true, false, not, ◌&&◌, ◌||◌, and-true, and-false, and_comm, or-false}
use Rattle.std.specs.Prelude.{Option, None}
use Prim.Native.Nat.{ℕ, ◌+◌}
use native.Mathlib.Omega.{arith}
use lib.Dec.{ltb, eqb}
use borrow.Author.Tests.{eqb-true}
use Rattle.model.specs.declared.InFlight.{InFlight}
use Rattle.model.specs.declared.InFlight.TheVariants as flight
use Rattle.model.specs.declared.Item.{Item}
use Rattle.model.specs.declared.Item.TheVariants as item
use Rattle.model.specs.declared.Target.TheVariants.{Caller}
use Rattle.model.specs.declared.Refusal.{Refusal}
use Rattle.std.specs.Prelude.{Ok, Err}
use Rattle.model.specs.Requests.{Parsed}
use Rattle.model.specs.declared.Request.TheVariants as request
use Rattle.model.specs.declared.Vcpu.{Vcpu}
use Rattle.model.specs.declared.Module.{Module}
use Rattle.model.specs.State.{is_active, is_in_flight, size, vcpu_at}
use Rattle.model.specs.Codes.{code_of, accept, refuse, Result, refused, accepted, presented_by, presented_in}
use Rattle.model.specs.Items.{InRange, same_item, is_item, item_in_flight}
use Rattle.model.specs.Doorbell.{in_part, admitted}
use Rattle.model.specs.Ipi.{icr_item, icr_target, hits}
use Rattle.model.specs.Requests.{request_of}
use Rattle.model.specs.Events.{Act, notice, call, entry, non_delivery, hand_back, allow, at, Bytes, Event, offer, verdict, call_effect, effect, concluded, step}
use Rattle.model.specs.Causes.{is_non_delivery, is_hand_back}
use Rattle.lists.specs.Book.{BookRecord, book_of, part_by}
use Rattle.lists.specs.Ledger.{Waiting, after_arrival, Ledger, tally, add_presented, add_returned, add_handed_back, with_latest}
use Rattle.lists.specs.Ledger.{requests, reaches, write_sends, post_act}
use Rattle.lists.specs.Sums.{requested_by, requests_at, returns_at, presents_at, hands_back_at, EventAdds}
use Rattle.vector_set.specs.Bits.{one}
use Rattle.vector_set.proofs.Laws.{clash}
use Rattle.model.proofs.Stored.{by_verdict_lem, Known, known_of}
use Rattle.lists.proofs.BookLaws.{record_book}
use Rattle.lists.proofs.Follow.{part_accepted}
use Rattle.lists.proofs.Pending.{Follows, tally_is}
use Rattle.lists.proofs.Quiet.{unposted}
use Rattle.lists.proofs.Invariant.{flies}

-- ---- by what is posted: a request, a return, a presentation, a hand-back
-- merged or handed back, if b, where what waits is pending
raised : (b w p : Bool) (n : ℕ) → w ≡ p → tally (b && w) n ≡ n + one (b && p)
raised b w p n e = tally_is (b && w) n ∙ ap (λ (t : Bool). n + one (b && t)) e

adds_asked : (b p : Bool) (g h : Ledger) → requests h ≡ requests g + one b → h.returned ≡ g.returned → h.presented ≡ g.presented
    → h.waiting ≡ after_arrival b g.waiting → g.waiting.waits ≡ p → EventAdds b false false false p g h
adds_asked b p g h a r s q w =
    record {
      requested = a;
      returned = omega (arith, r);
      presented = omega (arith, s);
      merged =
          ap (λ (k : Waiting). k.merged) q ∙ raised b g.waiting.waits p g.waiting.merged w
          ∙ ap (λ (t : Bool). g.waiting.merged + one (t && p)) (sym (or-false b));
      handed_back = omega (arith, ap (λ (k : Waiting). k.handed_back) q);
      waits = ap (λ (k : Waiting). k.waits) q ∙ ap (λ (t : Bool). t || g.waiting.waits) (sym (or-false b));
      once = omega (arith, a, r, ap one (or-false b));
    }

adds_returned : (b p : Bool) (g : Ledger) → g.waiting.waits ≡ p → EventAdds false b false false p g (add_returned b g)
adds_returned b p g w =
    record {
      requested = omega arith;
      returned = tally_is b g.returned;
      presented = omega arith;
      merged = raised b g.waiting.waits p g.waiting.merged w;
      handed_back = omega arith;
      waits = refl;
      once = omega (arith, tally_is b g.returned);
    }

adds_presented : (b p : Bool) (o : Option Item) (g : Ledger) → EventAdds false false b false p g (with_latest o (add_presented b g))
adds_presented b p o g =
    record {
      requested = omega arith;
      returned = omega arith;
      presented = tally_is b g.presented;
      merged = omega arith;
      handed_back = omega arith;
      waits = ap (λ (t : Bool). t && g.waiting.waits) (sym (and-true (not b)));
      once = omega arith;
    }

adds_handed : (b p : Bool) (g : Ledger) → g.waiting.waits ≡ p → EventAdds false false false b p g (add_handed_back b g)
adds_handed b p g w =
    record {
      requested = omega arith;
      returned = omega arith;
      presented = omega arith;
      merged = omega arith;
      handed_back = raised b g.waiting.waits p g.waiting.handed_back w;
      waits = refl;
      once = omega arith;
    }

-- nothing
adds_none : (p : Bool) (g : Ledger) → g.waiting.waits ≡ p → EventAdds false false false false p g g
adds_none p g w = adds_returned false p g w

-- ---- one event
-- what a call on a vCPU that is served writes is what it asks for
self_is : (m : Module) (i y j : ℕ) (x : Item) → Known m i is_active
    → reaches j x (book_of m) i (item.Vector y) Caller ≡ (same_item x (item.Vector y) && eqb j i)
unfolding book_of hits
self_is m i y j x a =
    ap (λ (v : BookRecord). same_item x (item.Vector y) && (ltb j (size m) && eqb j i && is_active v.phase)) (record_book m j)
    ∙ ap (λ (b : Bool). same_item x (item.Vector y) && b) (pick (eqb j i) refl)
  where
    pick : (b : Bool) → eqb j i ≡ b → (ltb j (size m) && b && is_active (vcpu_at m j).phase) ≡ b
    pick true e = rw (eqb-true j i e, a.below, a.phase)
    pick false e = ap (λ (t : Bool). t && is_active (vcpu_at m j).phase) (and-false (ltb j (size m)))

writes_is : (m : Module) (i c y j : ℕ) (x : Item) → Known m i is_active → write_sends j x (book_of m) i c y
    ≡ ((eqb c 0x830 && (same_item x (icr_item y) && (ltb j (size m) && hits (icr_target y) i j && is_active (vcpu_at m j).phase)))
    || (eqb c 0x83F && (same_item x (item.Vector y) && eqb j i)))
unfolding write_sends book_of
writes_is m i c y j x a =
    ap₂ (λ (v : BookRecord) (b : Bool).
    (eqb c 0x830 && (same_item x (icr_item y) && (ltb j (size m) && hits (icr_target y) i j && is_active v.phase))) || (eqb c 0x83F && b))
    (record_book m j) (self_is m i y j x a)

-- no call presents anything
calls_silent : (q : Parsed) (i k : ℕ) (v : Vcpu) (m : Module) → presented_by (concluded (call_effect q i k v) i m).result ≡ None
unfolding concluded call_effect
calls_silent (Ok (request.Local o)) i k v m = refl
calls_silent (Ok (request.Icr y)) i k v m = refl
calls_silent (Err d) i k v m = refl

-- what an accepted non-delivery returns is what the latest accepted entry presented
flown : (f : InFlight) (o : Option Item) → is_in_flight f ≡ true → Follows (item_in_flight f) o → o ≡ item_in_flight f
flown flight.Nothing o t h = clash (cc)
flown flight.Nmi o t h = h
flown flight.MachineCheck o t h = h
flown (flight.Vector v) o t h = h

module _ (j : ℕ) (x : Item) (r : InRange x) (m : Module) (g : Ledger) (p : Bool) (w : g.waiting.waits ≡ p) where
  -- what an event with the result o is to x at j
  abbrev AddsBy : ℕ → Act Bytes → Result → Type 0
  AddsBy i a o =
      EventAdds (accepted o && requested_by m j x i a) (accepted o && (is_non_delivery a && (is_item x (item_in_flight (vcpu_at m j).flight) && eqb j i)))
      (is_item x (presented_by o) && eqb j i) (is_hand_back a && accepted o && eqb j i) p g
      (post_act j x (part_by m.vmpl (book_of m) (at i a)) (book_of m) i a o g)

  adds_refused : (i : ℕ) (a : Act Bytes) (d : Refusal) → verdict m (at i a) ≡ refuse d → AddsBy i a (refused (code_of d))
  adds_refused i a d e =
      rw (and-false (is_hand_back a), unposted j x r m i a d g e) (adds_none p g w)

  adds_notice : (i : ℕ) (q : Bytes) → verdict m (at i (notice q)) ≡ accept
      → AddsBy i (notice q) (concluded (effect m.vmpl i m.registrations (vcpu_at m i) (notice q)) i m).result
  unfolding concluded effect post_act
  adds_notice i q e =
      let s = admitted m.vmpl (vcpu_at m i).allowed q in
      rw (part_accepted m i q e, and_comm (eqb j i) (in_part x s))
      (adds_asked (in_part x s && eqb j i) p g _ (omega (arith, tally_is (in_part x s && eqb j i) g.admitted)) refl refl refl w)

  adds_call : (i op c y : ℕ) → verdict m (at i (call op c y)) ≡ accept
      → AddsBy i (call op c y) (concluded (effect m.vmpl i m.registrations (vcpu_at m i) (call op c y)) i m).result
  unfolding effect post_act
  adds_call i op c y e =
      let o = (concluded (call_effect (request_of op c y) i m.registrations (vcpu_at m i)) i m).result in
      let b = accepted o && (eqb op 3 && write_sends j x (book_of m) i c y) in
      rw (
        calls_silent (request_of op c y) i m.registrations (vcpu_at m i) m,
        and-false (accepted o),
        ← writes_is m i c y j x (known_of m i (call op c y) e),
      )
      (adds_asked b p g _ (omega (arith, tally_is b g.sent)) refl refl refl w)

  adds_entry : (i : ℕ) (iF sh bl : Bool)
      → AddsBy i (entry iF sh bl) (concluded (effect m.vmpl i m.registrations (vcpu_at m i) (entry iF sh bl)) i m).result
  unfolding concluded effect post_act
  adds_entry i iF sh bl = adds_presented (is_item x (presented_in (offer iF sh bl (vcpu_at m i))) && eqb j i) p _ g

  adds_back : (i : ℕ) → Follows (item_in_flight (vcpu_at m j).flight) g.latest → verdict m (at i non_delivery) ≡ accept
      → AddsBy i non_delivery (concluded (effect m.vmpl i m.registrations (vcpu_at m i) non_delivery) i m).result
  unfolding concluded effect post_act
  adds_back i f e =
      subst (λ (b : Bool). EventAdds false b false false p g (add_returned (is_item x g.latest && eqb j i) g)) (pick (eqb j i) refl)
      (adds_returned (is_item x g.latest && eqb j i) p g w)
    where
      pick : (b : Bool) → eqb j i ≡ b → (is_item x g.latest && b) ≡ (is_item x (item_in_flight (vcpu_at m j).flight) && b)
      pick true q =
          ap (λ (o : Option Item). is_item x o && true)
          (flown (vcpu_at m j).flight g.latest (subst (λ (k : ℕ). is_in_flight (vcpu_at m k).flight ≡ true) (sym (eqb-true j i q)) (flies m i e)) f)
      pick false q = and-false (is_item x g.latest) ∙ sym (and-false (is_item x (item_in_flight (vcpu_at m j).flight)))

  -- whatever it is
  adds_act : (i : ℕ) (a : Act Bytes) → Follows (item_in_flight (vcpu_at m j).flight) g.latest → verdict m (at i a) ≡ accept
      → AddsBy i a (concluded (effect m.vmpl i m.registrations (vcpu_at m i) a) i m).result
  unfolding concluded effect post_act
  adds_act i (notice q) f e = adds_notice i q e
  adds_act i (call op c y) f e = adds_call i op c y e
  adds_act i (entry iF sh bl) f e = adds_entry i iF sh bl
  adds_act i non_delivery f e = adds_back i f e
  adds_act i (hand_back q iF sh) f e = adds_handed (eqb j i) p g w
  adds_act i (allow cs q) f e = adds_none p g w

  pub adds_event : (e : Event) → Follows (item_in_flight (vcpu_at m j).flight) g.latest
      → EventAdds (requests_at m j x e) (returns_at m j x e) (presents_at m j x e) (hands_back_at m j e) p g
      (post_act j x (part_by m.vmpl (book_of m) e) (book_of m) e.vcpu e.act (step m e).result g)
  adds_event e f =
      by_verdict_lem m e (λ o. AddsBy e.vcpu e.act o.result) (λ d h. adds_refused e.vcpu e.act d h) (λ h. adds_act e.vcpu e.act f h)
