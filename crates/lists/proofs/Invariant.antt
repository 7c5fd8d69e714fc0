-- Why requests and returns are what was merged, presented, handed back and is pending: what waits by the ledger is what is pending.
-- Assumes nothing.
use mathlib.Core.Path.{◌≡◌, refl, ap, subst}
use mathlib.Core.Bool.{Bool, true, false, cond, ◌&&◌, and-true, and-false}
use mathlib.Core.List.{List, [], ◌∷◌}
use Rattle.std.specs.Prelude.{Option, None, Some}
use Prim.Native.Nat.{ℕ, ◌+◌, ◌≤◌}
use native.Mathlib.Omega.{arith}
use lib.Dec.{ltb, eqb}
use Rattle.model.specs.declared.InFlight.{InFlight}
use Rattle.model.specs.declared.InFlight.TheVariants as flight
use Rattle.model.specs.declared.Item.{Item}
use Rattle.model.specs.declared.Item.TheVariants as item
use Rattle.model.specs.declared.Target.{Target}
use Rattle.model.specs.declared.Refusal.TheVariants.{UnknownVcpu, NotActive, NothingInFlight}
use Rattle.model.specs.declared.Local.{Local}
use Rattle.std.specs.Prelude.{Ok, Err}
use Rattle.model.specs.Requests.{Parsed}
use Rattle.model.specs.declared.Request.TheVariants as request
use Rattle.model.specs.declared.Vcpu.{Vcpu}
use Rattle.model.specs.declared.Module.{Module}
use Rattle.model.specs.State.{is_active, is_in_flight, size, vcpu_at, with_vcpu}
use Rattle.model.specs.Codes.{accept, Answer, nothing, presents, window, Result, accepted}
use Rattle.model.specs.Codes.{presented_in}
use Rattle.model.specs.Items.{InRange, same_item, is_item, item_in_flight, pending, unmark_all}
use Rattle.model.specs.Doorbell.{Part, in_part, admitted}
use Rattle.model.specs.Ipi.{icr_item, icr_target, hits, reach, sent}
use Rattle.model.specs.Requests.{nameable, permission, request_of, forget, serve}
use Rattle.model.specs.Events.{Act, notice, call, entry, non_delivery, hand_back, allow, at, Bytes, Event, noticed, offer, entered}
use Rattle.model.specs.Events.{undelivered, emptied, vcpu_verdict, verdict, call_effect, list_after, effect, concluded, step, next, run, final}
use Rattle.lists.specs.Book.{book_of, part_by}
use Rattle.lists.specs.Lists.{results}
use Rattle.lists.specs.Ledger.{after_arrival, Ledger, add_admitted, add_sent, add_presented, add_returned, add_handed_back, with_latest}
use Rattle.lists.specs.Ledger.{requests, write_sends, post_act}
use Rattle.lists.specs.Ledger.{ledger, opened, ledger_of}
use Rattle.vector_set.specs.Bits.{one, bit_at}
use Rattle.model.proofs.Stored.{on_put, vcpu_at_count, size_put, count_same, vcpu_at_sent, by_verdict_lem, Known, known_of, needed}
use Rattle.vector_set.proofs.Laws.{clash}
use Rattle.lists.proofs.BookLaws.{record_book}
use Rattle.lists.proofs.Follow.{part_accepted, follow}
use Rattle.model.proofs.Stays.{vmpl_next}
use Rattle.model.proofs.ListLaws.{after_each}
use Rattle.model.proofs.Listed.{permission_by}
use Rattle.model.proofs.Presented.{pending_present, pending_give_back, pending_emptied}
use Rattle.lists.proofs.Pending.{gives, Like, like_noticed, like_serve}
use Rattle.lists.proofs.Pending.{like_reach, Offered, offer_pending, Follows, flying_flight, tally_is, join_is, take_is}
use Rattle.lists.proofs.Sends.{sends_by, Sends, sends_request}
use Rattle.lists.proofs.Quiet.{unposted}

-- an accepted non-delivery finds something in flight
pub flies : (m : Module) (i : ℕ) → verdict m (at i non_delivery) ≡ accept → is_in_flight (vcpu_at m i).flight ≡ true
unfolding verdict vcpu_verdict
flies m i e =
    (needed (is_in_flight (vcpu_at m i).flight) NothingInFlight _
    (needed (is_active (vcpu_at m i).phase) NotActive _ (needed (ltb i (size m)) UnknownVcpu _ e).1).1
    ).0

-- ---- the invariant: with c pending at first, the two sides of the ledger g are equal, what waits is pending, and what is in flight is the latest
module _ (j : ℕ) (x : Item) (r : InRange x) (c : ℕ) where
  pub record Invariant (v : Vcpu) (g : Ledger) : Type 0 where
    pub balance : c + (requests g + g.returned) ≡ g.waiting.merged + g.presented + g.waiting.handed_back + one (pending x v)
    pub waits : g.waiting.waits ≡ pending x v
    pub follows : Follows (item_in_flight v.flight) g.latest

  -- a record that gained b by a request, which the ledger h has beyond g
  keep_asked : (b : Bool) (u v : Vcpu) (g h : Ledger) → requests h ≡ requests g + one b → h.returned ≡ g.returned → h.presented ≡ g.presented
      → h.waiting ≡ after_arrival b g.waiting → h.latest ≡ g.latest → Like x b u v → Invariant u g → Invariant v h
  keep_asked b u v g h a e f w t l q =
      record {
        balance =
            rw (l.pends, w)
            (omega (
              arith,
              a,
              e,
              f,
              join_is b g.waiting.waits (pending x u) q.waits,
              tally_is (b && g.waiting.waits) g.waiting.merged,
              q.balance,
            ));
        waits = rw (l.pends, w, q.waits);
        follows = rw (l.in_flight, t) q.follows;
      }

  keep_admitted : (b : Bool) (u v : Vcpu) (g : Ledger) → Like x b u v → Invariant u g → Invariant v (add_admitted b g)
  keep_admitted b u v g = keep_asked b u v g (add_admitted b g) (omega (arith, tally_is b g.admitted)) refl refl refl refl

  keep_sent : (b : Bool) (u v : Vcpu) (g : Ledger) → Like x b u v → Invariant u g → Invariant v (add_sent b g)
  keep_sent b u v g = keep_asked b u v g (add_sent b g) (omega (arith, tally_is b g.sent)) refl refl refl refl

  keep_alike : {a b : Bool} (v : Vcpu) (g : Ledger) → a ≡ b → Invariant v (add_sent a g) → Invariant v (add_sent b g)
  keep_alike v g e h = subst (λ (t : Bool). Invariant v (add_sent t g)) e h

  -- the record of an entry's vCPU
  keep_entered : (a : Answer) (v : Vcpu) (g : Ledger) → Offered a v → Invariant v g
      → Invariant (entered a (forget v)) (with_latest (presented_in a) (add_presented (is_item x (presented_in a)) g))
  unfolding entered Offered
  keep_entered nothing v g o h = record { balance = h.balance; waits = h.waits; follows = tt }
  keep_entered (presents y) v g o h =
      record {
        balance =
            rw (pending_present x r y (forget v))
            (omega (arith, take_is (same_item x y) (pending x v) (o x), tally_is (same_item x y) g.presented, h.balance));
        waits = rw (pending_present x r y (forget v), h.waits);
        follows = rw (flying_flight y) refl;
      }
  keep_entered (window y) v g o h = record { balance = h.balance; waits = h.waits; follows = tt }

  keep_returned : (y : Item) (v : Vcpu) (g : Ledger) → g.latest ≡ Some y → Invariant v g
      → Invariant (undelivered (Some y) v) (add_returned (is_item x g.latest) g)
  unfolding undelivered
  keep_returned y v g f h =
      record {
        balance =
            rw (pending_give_back x r y v, f)
            (omega (
              arith,
              join_is (same_item x y) g.waiting.waits (pending x v) h.waits,
              tally_is (same_item x y) g.returned,
              tally_is (same_item x y && g.waiting.waits) g.waiting.merged,
              h.balance,
            ));
        waits = rw (pending_give_back x r y v, f, h.waits);
        follows = tt;
      }

  -- the record of a non-delivery's vCPU, which has something in flight
  keep_undelivered : (f : InFlight) (v : Vcpu) (g : Ledger) → is_in_flight f ≡ true → Follows (item_in_flight f) g.latest → Invariant v g
      → Invariant (undelivered (item_in_flight f) v) (add_returned (is_item x g.latest) g)
  unfolding undelivered
  keep_undelivered flight.Nothing v g t f h = clash (cc)
  keep_undelivered flight.Nmi v g t f h = keep_returned item.Nmi v g f h
  keep_undelivered flight.MachineCheck v g t f h = keep_returned item.MachineCheck v g f h
  keep_undelivered (flight.Vector y) v g t f h = keep_returned (item.Vector y) v g f h

  keep_emptied : (v : Vcpu) (g : Ledger) → Invariant v g → Invariant (emptied v) (add_handed_back true g)
  unfolding emptied unmark_all
  keep_emptied v g h =
      record {
        balance =
            rw (pending_emptied x r v)
            (omega (arith, tally_is g.waiting.waits g.waiting.handed_back, ap one h.waits, h.balance));
        waits = rw (pending_emptied x r v);
        follows = h.follows;
      }

  -- the record of a list's vCPU, after one value by its test and bit 8
  keep_permitted : (d : ℕ) (n t : Bool) (i k : ℕ) (v : Vcpu) (g : Ledger) → Invariant v g → Invariant (call_effect (permission_by d n t) i k v).vcpu g
  unfolding call_effect serve
  keep_permitted d true true i k v g h = record { balance = h.balance; waits = h.waits; follows = tt }
  keep_permitted d true false i k v g h = record { balance = h.balance; waits = h.waits; follows = tt }
  keep_permitted d false t i k v g h = h

  keep_listed : (cs : List ℕ) (i k : ℕ) (v : Vcpu) (g : Ledger) → Invariant v g → Invariant (list_after i k cs v) g
  unfolding request_of permission
  keep_listed cs i k v g h = after_each (λ u. Invariant u g) i k (λ d u q. keep_permitted d (nameable d) (bit_at d 8) i k u g q) cs v h

  -- ---- one accepted event
  module _ (m : Module) (g : Ledger) (h : Invariant (vcpu_at m j) g) where
    keep_local : (o : Local) (i : ℕ) → Known m i is_active
        → Invariant (vcpu_at (with_vcpu m i (serve o i m.registrations (forget (vcpu_at m i))).vcpu) j)
        (add_sent (gives x o && (ltb j (size m) && eqb j i && is_active (vcpu_at m j).phase)) g)
    keep_local o i k =
        on_put m i (serve o i m.registrations (forget (vcpu_at m i))).vcpu j k.there
        (λ j' b u v. Invariant u g → Invariant v (add_sent (gives x o && (ltb j' (size m) && b && is_active u.phase)) g))
        (λ q. rw (k.below, k.phase, and-true (gives x o))
        (keep_sent (gives x o) (forget (vcpu_at m i)) _ g (like_serve x r o i m.registrations (forget (vcpu_at m i)))
        (record { balance = q.balance; waits = q.waits; follows = tt })))
        (λ q. keep_other (ltb j (size m)) q) h
      where
        keep_other : (b : Bool) → Invariant (vcpu_at m j) g → Invariant (vcpu_at m j) (add_sent (gives x o && (b && false && is_active (vcpu_at m j).phase)) g)
        keep_other b q = rw (and-false b, and-false (gives x o)) q

    -- an IPI from i, after i's record has become u, which pends the same, in the same phase, with nothing in flight
    keep_ipi : (y : Item) (t : Target) (i : ℕ) (u : Vcpu) → Known m i is_active
        → pending x u ≡ pending x (vcpu_at m i) → u.phase ≡ (vcpu_at m i).phase → u.flight ≡ flight.Nothing
        → Invariant (vcpu_at (sent y t i (with_vcpu m i u)) j) (add_sent (same_item x y && (ltb j (size m) && hits t i j && is_active (vcpu_at m j).phase)) g)
    keep_ipi y t i u k a b e =
        rw (vcpu_at_sent y t i (with_vcpu m i u) j, size_put m i u)
        (on_put m i u j k.there
        (λ _ _ o v. Invariant o g → Invariant (reach y t i (size m) j v) (add_sent (same_item x y && (ltb j (size m) && hits t i j && is_active o.phase)) g))
        (λ q. rw (← b)
        (keep_sent _ u _ g (like_reach x r y t i (size m) j u) (record { balance = rw a q.balance; waits = rw a q.waits; follows = rw e tt })))
        (λ q. keep_sent _ (vcpu_at m j) _ g (like_reach x r y t i (size m) j (vcpu_at m j)) q) h)

    -- a call, by what its numbers ask for
    keep_call : (q : Parsed) (i : ℕ) → Known m i is_active
        → Invariant (vcpu_at (concluded (call_effect q i m.registrations (vcpu_at m i)) i m).after j) (add_sent (sends_by j x (book_of m) i q) g)
    unfolding concluded call_effect book_of hits
    keep_call (Ok (request.Local o)) i k = rw (vcpu_at_count, record_book m j) (keep_local o i k)
    keep_call (Ok (request.Icr y)) i k = rw (record_book m j, count_same) (keep_ipi (icr_item y) (icr_target y) i _ k refl refl refl)
    keep_call (Err d) i k = rw (count_same) (on_put m i (vcpu_at m i) j k.there (λ _ _ u v. Invariant u g → Invariant v g) (λ q. q) (λ q. q) h)

    keep_posted : (q : Parsed) (i op d y : ℕ) → Known m i is_active → Sends j x (book_of m) i (eqb op 3 && write_sends j x (book_of m) i d y) q
        → Invariant (vcpu_at (concluded (call_effect q i m.registrations (vcpu_at m i)) i m).after j)
        (add_sent (accepted (concluded (call_effect q i m.registrations (vcpu_at m i)) i m).result && (eqb op 3 && write_sends j x (book_of m) i d y)) g)
    unfolding concluded call_effect
    keep_posted (Ok (request.Local o)) i op d y k l = keep_alike _ g l (keep_call (Ok (request.Local o)) i k)
    keep_posted (Ok (request.Icr z)) i op d y k l = keep_alike _ g l (keep_call (Ok (request.Icr z)) i k)
    keep_posted (Err e) i op d y k l = keep_call (Err e) i k

    -- what the event at i with the act a posts for its result
    abbrev posted : ℕ → Act Bytes → Result → Ledger
    posted i a o = post_act j x (part_by m.vmpl (book_of m) (at i a)) (book_of m) i a o g

    keep_at : (i : ℕ) (a : Act Bytes) → verdict m (at i a) ≡ accept
        → Invariant (vcpu_at (concluded (effect m.vmpl i m.registrations (vcpu_at m i) a) i m).after j)
        (posted i a (concluded (effect m.vmpl i m.registrations (vcpu_at m i) a) i m).result)
    unfolding concluded effect post_act
    keep_at i (notice p) e =
        rw (vcpu_at_count, part_accepted m i p e)
        (on_put m i (noticed (part p i) (vcpu_at m i)) j (known_of m i (notice p) e).there
        (λ _ b u v. Invariant u g → Invariant v (add_admitted (in_part x (part p i) && b) g))
        (λ q. rw (and-true (in_part x (part p i))) (keep_admitted (in_part x (part p i)) (vcpu_at m i) _ g (like_noticed x r (part p i) (vcpu_at m i)) q))
        (λ q. rw (and-false (in_part x (part p i))) q) h)
      where
        part : Bytes → ℕ → Part
        part p i = admitted m.vmpl (vcpu_at m i).allowed p
    keep_at i (call op d y) e = keep_posted (request_of op d y) i op d y (known_of m i (call op d y) e) (sends_request j x (book_of m) i op d y)
    keep_at i (entry iF sh bl) e =
        let o = offer iF sh bl (vcpu_at m i) in
        rw (vcpu_at_count)
        (on_put m i (entered o (forget (vcpu_at m i))) j (known_of m i (entry iF sh bl) e).there
        (λ _ b u v. Invariant u g → Invariant v (with_latest (cond b (presented_in o) g.latest) (add_presented (is_item x (presented_in o) && b) g)))
        (λ q. rw (and-true (is_item x (presented_in o))) (keep_entered o (vcpu_at m i) g (offer_pending iF sh bl (vcpu_at m i)) q))
        (λ q. rw (and-false (is_item x (presented_in o))) q) h)
    keep_at i non_delivery e =
        rw (vcpu_at_count)
        (on_put m i (undelivered (item_in_flight (vcpu_at m i).flight) (vcpu_at m i)) j (known_of m i non_delivery e).there
        (λ _ b u v. Invariant u g → Invariant v (add_returned (is_item x g.latest && b) g))
        (λ q. rw (and-true (is_item x g.latest)) (keep_undelivered (vcpu_at m i).flight (vcpu_at m i) g (flies m i e) q.follows q))
        (λ q. rw (and-false (is_item x g.latest)) q) h)
    keep_at i (hand_back p iF sh) e =
        rw (vcpu_at_count)
        (on_put m i (emptied (vcpu_at m i)) j (known_of m i (hand_back p iF sh) e).there
        (λ _ b u v. Invariant u g → Invariant v (add_handed_back b g)) (λ q. keep_emptied (vcpu_at m i) g q) (λ q. q) h)
    keep_at i (allow cs q) e =
        rw (vcpu_at_count)
        (on_put m i (list_after i m.registrations cs (vcpu_at m i)) j (known_of m i (allow cs q) e).there (λ _ b u v. Invariant u g → Invariant v g)
        (λ p. keep_listed cs i m.registrations (vcpu_at m i) g p) (λ p. p) h)

    -- whichever it is
    keep_step : (e : Event) → Invariant (vcpu_at (next m e) j) (posted e.vcpu e.act (step m e).result)
    keep_step e =
        by_verdict_lem m e (λ o. Invariant (vcpu_at o.after j) (posted e.vcpu e.act o.result))
        (λ d q. rw (unposted j x r m e.vcpu e.act d g q) h)
        (λ q. keep_at e.vcpu e.act q)

  -- ---- a list
  keep_list : (es : List Event) (m : Module) (g : Ledger) → Invariant (vcpu_at m j) g
      → Invariant (vcpu_at (final m es) j) (ledger j x m.vmpl (book_of m) es (results m es) g)
  unfolding ledger results run final
  keep_list [] m g h = h
  keep_list (e ∷ es) m g h =
      let ih = keep_list es (next m e) _ (keep_step m g h e) in
      rw (follow m e) (rw (vmpl_next m e) at ih)

follows_itself : (o : Option Item) → Follows o o
follows_itself None = tt
follows_itself (Some y) = refl

-- ---- from any module value
pub invariant : (m : Module) (es : List Event) (j : ℕ) (x : Item) (r : InRange x)
    → Invariant j x r (one (pending x (vcpu_at m j))) (vcpu_at (final m es) j) (ledger_of m j x es)
invariant m es j x r =
    keep_list j x r (one (pending x (vcpu_at m j))) es m (opened (pending x (vcpu_at m j)) (item_in_flight (vcpu_at m j).flight))
    (record { balance = omega arith; waits = refl; follows = follows_itself (item_in_flight (vcpu_at m j).flight) })

-- the bound on presentations follows
pub bounded : (m : Module) (es : List Event) (j : ℕ) (x : Item) → InRange x
    → (ledger_of m j x es).presented
    ≤ one (pending x (vcpu_at m j)) + (ledger_of m j x es).admitted + (ledger_of m j x es).sent + (ledger_of m j x es).returned
bounded m es j x r = omega (arith, (invariant m es j x r).balance)
