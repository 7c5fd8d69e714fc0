-- Every request accounted for, proved from any module value and for what start gives.
-- Assumes nothing.
use mathlib.Core.Path.{◌≡◌, refl, sym, ap, ap₂, ◌∙◌, subst}
use mathlib.Core.Bool.{Bool, true, false, not, ◌&&◌, ◌||◌, and-false, or-false}
use mathlib.Core.List.{List, [], ◌∷◌}
use Rattle.std.specs.Prelude.{Option, None}
use Prim.Native.Nat.{ℕ, ◌+◌, ◌<◌}
use native.Mathlib.Omega.{arith}
use lib.Dec.{ltb}
use borrow.Author.Tests.{lt-ltb, le-ltb, eq-eqb}
use Rattle.model.specs.declared.Phase.{Phase}
use Rattle.model.specs.declared.Item.{Item}
use Rattle.model.specs.declared.Item.TheVariants as item
use Rattle.model.specs.declared.Module.{Module}
use Rattle.model.specs.State.{bare, vcpu_at, start}
use Rattle.model.specs.Codes.{Result, done, counted, accepted}
use Rattle.model.specs.Items.{InRange, item_in_flight, item_count, pending}
use Rattle.model.specs.Doorbell.{in_part, admitted}
use Rattle.model.specs.Ipi.{icr_item}
use Rattle.model.specs.Events.{notice, call, at, Bytes, Event, items_merged, effect, concluded, step, next, run, final}
use Rattle.model.specs.Demand2.{writes_icr, sends_self}
use Rattle.lists.specs.Book.{book_of, part_by}
use Rattle.lists.specs.Lists.{results, names}
use Rattle.lists.specs.Ledger.{Ledger, add_sent, requests, write_sends, post_act, opened, ledger, ledger_of}
use Rattle.lists.specs.Sums.{arrivals, settled, more, is_accepted, requests_at, returns_at, presents_at, hands_back_at, EventAdds, grew, BalancedAny, Sums}
use Rattle.vector_set.specs.Bits.{one, bit_at}
use Rattle.vector_set.proofs.Laws.{clash}
use Rattle.model.proofs.NoticeCounts.{item_count_ext, second_of}
use Rattle.model.proofs.Stored.{by_verdict_lem}
use Rattle.model.proofs.IpiNames.{sent_in_range, icr_names_lem, by_self, self_names_lem, vector_small}
use Rattle.model.proofs.Reached.{everywhere_start}
use Rattle.model.proofs.Stays.{vmpl_next}
use Rattle.lists.proofs.Follow.{follow}
use Rattle.lists.proofs.Pending.{tally_is, fresh_pending}
use Rattle.lists.proofs.Invariant.{invariant}
use Rattle.lists.proofs.EventLaws.{adds_event}

-- ---- the list and one event more
final_more : (es : List Event) (e : Event) (m : Module) → final m (more es e) ≡ next (final m es) e
unfolding final
final_more [] e m = refl
final_more (d ∷ es) e m = final_more es e (next m d)

-- what the event e posts on the module m
abbrev posted_on : ℕ → Item → Module → Event → Ledger → Ledger
posted_on j x m e g = post_act j x (part_by m.vmpl (book_of m) e) (book_of m) e.vcpu e.act (step m e).result g

ledger_more : (j : ℕ) (x : Item) (es : List Event) (e : Event) (m : Module) (g : Ledger)
    → ledger j x m.vmpl (book_of m) (more es e) (results m (more es e)) g
    ≡ posted_on j x (final m es) e (ledger j x m.vmpl (book_of m) es (results m es) g)
unfolding ledger results run final
ledger_more j x [] e m g = refl
ledger_more j x (d ∷ es) e m g =
    let ih = ledger_more j x es e (next m d) (posted_on j x m d g) in
    rw (follow m d) (rw (vmpl_next m d) at ih)

-- ---- one event
adds_at : (m : Module) (es : List Event) (e : Event) (j : ℕ) (x : Item) → InRange x
    → EventAdds (requests_at (final m es) j x e) (returns_at (final m es) j x e) (presents_at (final m es) j x e) (hands_back_at (final m es) j e)
    (pending x (vcpu_at (final m es) j)) (ledger_of m j x es) (ledger_of m j x (more es e))
adds_at m es e j x r =
    let k = invariant m es j x r in
    subst
    (EventAdds (requests_at (final m es) j x e) (returns_at (final m es) j x e) (presents_at (final m es) j x e) (hands_back_at (final m es) j e)
    (pending x (vcpu_at (final m es) j)) (ledger_of m j x es))
    (sym (ledger_more j x es e m (opened (pending x (vcpu_at m j)) (item_in_flight (vcpu_at m j).flight))))
    (adds_event j x r (final m es) (ledger_of m j x es) (pending x (vcpu_at (final m es) j)) k.waits e k.follows)

-- before the first
opens : (m : Module) (j : ℕ) (x : Item) → arrivals (ledger_of m j x []) + settled (ledger_of m j x []) ≡ 0
unfolding ledger results run
opens m j x = refl

-- a count that has risen by one, if b
rose : (b : Bool) (n k : ℕ) → k ≡ n + one b → ltb n k ≡ b
rose true n k e = lt-ltb n k (omega (arith, e))
rose false n k e = le-ltb n k (omega (arith, e))

-- ---- a notice: what it merged
merged_by : (m : Module) (es : List Event) (i : ℕ) (p : Bytes) (x : Item) → InRange x
    → grew (λ g. g.waiting.merged) (ledger_of m i x es) (ledger_of m i x (more es (at i (notice p))))
    ≡ (is_accepted (final m es) (at i (notice p)) && in_part x (admitted (final m es).vmpl (vcpu_at (final m es) i).allowed p)
    && pending x (vcpu_at (final m es) i))
merged_by m es i p x r =
    let e = at {P = Bytes} i (notice p) in
    let k = final m es in
    rose ((requests_at k i x e || returns_at k i x e) && pending x (vcpu_at k i)) _ _ (adds_at m es e i x r).merged
    ∙ ap₂ (λ (t u : Bool). (is_accepted k e && (t && in_part x (admitted k.vmpl (vcpu_at k i).allowed p)) || u) && pending x (vcpu_at k i))
    (eq-eqb i i refl) (and-false (is_accepted k e))
    ∙ ap (λ (t : Bool). t && pending x (vcpu_at k i)) (or-false (is_accepted k e && in_part x (admitted k.vmpl (vcpu_at k i).allowed p)))

second_at : (m : Module) (i : ℕ) (p : Bytes) (a b : ℕ) → (step m (at i (notice p))).result ≡ counted a b
    → b ≡ item_count (λ x. is_accepted m (at i (notice p)) && in_part x (admitted m.vmpl (vcpu_at m i).allowed p) && pending x (vcpu_at m i))
unfolding concluded effect items_merged
second_at m i p a b =
    by_verdict_lem m (at i (notice p))
    (λ o. o.result ≡ counted a b
    → b ≡ item_count (λ x. accepted o.result && in_part x (admitted m.vmpl (vcpu_at m i).allowed p) && pending x (vcpu_at m i)))
    (λ c h e. clash (cc)) (λ h e. sym (second_of e))

second : (m : Module) (es : List Event) (i : ℕ) (p : Bytes) (a b : ℕ) → (step (final m es) (at i (notice p))).result ≡ counted a b
    → b ≡ item_count (λ x. grew (λ g. g.waiting.merged) (ledger_of m i x es) (ledger_of m i x (more es (at i (notice p)))))
second m es i p a b e = second_at (final m es) i p a b e ∙ item_count_ext _ _ (λ x r. sym (merged_by m es i p x r))

-- ---- an accepted call: what it sent
sent_by : (m : Module) (es : List Event) (i c y r k : ℕ) (x : Item) → (step (final m es) (at i (call 3 c y))).result ≡ done r
    → ledger_of m k x (more es (at i (call 3 c y))) ≡ add_sent (write_sends k x (book_of (final m es)) i c y) (ledger_of m k x es)
unfolding post_act
sent_by m es i c y r k x e =
    ledger_more k x es (at i (call 3 c y)) m (opened (pending x (vcpu_at m k)) (item_in_flight (vcpu_at m k).flight))
    ∙ ap (λ (a : Result). add_sent (accepted a && write_sends k x (book_of (final m es)) i c y) (ledger_of m k x es)) e

-- what begins to wait is what is brought and not merged
begins : (b w : Bool) → ((b || w) && not w) ≡ (b && not (b && w))
begins true true = refl
begins true false = refl
begins false true = refl
begins false false = refl

named_by : (m : Module) (es : List Event) (i c y r k : ℕ) (x : Item) → InRange x → (step (final m es) (at i (call 3 c y))).result ≡ done r
    → bit_at r k ≡ (pending x (vcpu_at (next (final m es) (at i (call 3 c y))) k) && not (pending x (vcpu_at (final m es) k)))
    → bit_at r k
    ≡ (grew requests (ledger_of m k x es) (ledger_of m k x (more es (at i (call 3 c y))))
    && not (grew (λ g. g.waiting.merged) (ledger_of m k x es) (ledger_of m k x (more es (at i (call 3 c y))))))
named_by m es i c y r k x f e n =
    let g = ledger_of m k x es in
    let a = at {P = Bytes} i (call 3 c y) in
    let b = write_sends k x (book_of (final m es)) i c y in
    let h = sent_by m es i c y r k x e in
    n
    ∙ ap₂ (λ (p q : Bool). p && not q)
    (sym (ap (λ (o : Module). pending x (vcpu_at o k)) (final_more es a m)) ∙ sym (invariant m (more es a) k x f).waits
    ∙ ap (λ (l : Ledger). l.waiting.waits) h)
    (sym (invariant m es k x f).waits)
    ∙ begins b g.waiting.waits
    ∙ sym (ap (λ (l : Ledger). grew requests g l && not (grew (λ q. q.waiting.merged) g l)) h
    ∙ ap₂ (λ (p q : Bool). p && not q) (rose b (requests g) (requests (add_sent b g)) (omega (arith, tally_is b g.sent)))
    (rose (b && g.waiting.waits) _ _ (tally_is (b && g.waiting.waits) g.waiting.merged)))

named : (m : Module) (es : List Event) (i y r k : ℕ) → (step (final m es) (writes_icr i y)).result ≡ done r
    → names k (done r)
    ≡ (grew requests (ledger_of m k (icr_item y) es) (ledger_of m k (icr_item y) (more es (writes_icr i y)))
    && not (grew (λ g. g.waiting.merged) (ledger_of m k (icr_item y) es) (ledger_of m k (icr_item y) (more es (writes_icr i y)))))
named m es i y r k e = named_by m es i 0x830 y r k (icr_item y) (sent_in_range y) e (icr_names_lem (final m es) i y r k e)

self_named_lem : (m : Module) (es : List Event) (i y r k : ℕ) → (step (final m es) (sends_self i y)).result ≡ done r
    → names k (done r)
    ≡ (grew requests (ledger_of m k (item.Vector y) es) (ledger_of m k (item.Vector y) (more es (sends_self i y)))
    && not (grew (λ g. g.waiting.merged) (ledger_of m k (item.Vector y) es) (ledger_of m k (item.Vector y) (more es (sends_self i y)))))
self_named_lem m es i y r k e =
    named_by m es i 0x83F y r k (item.Vector y) (by_self (final m es) i y r (λ b u. y < 256) (λ v s. vector_small y v) e) e
    (self_names_lem (final m es) i y r k e)

-- ---- from any module value
pub balanced : BalancedAny
balanced m =
    record {
      balance = λ es j x r. (invariant m es j x r).balance;
      waiting = λ es j x r. (invariant m es j x r).waits;
      opens = opens m;
      adds = adds_at m;
      second = second m;
      named = named m;
      self_named = self_named_lem m;
    }

-- ---- what start gives has nothing in flight either
pub none_in_flight : (p : Phase) → item_in_flight (bare p).flight ≡ None
unfolding bare
none_in_flight p = refl

pub sums : (n l : ℕ) → Sums n l
sums n l =
    record {
      balanced = balanced (start n l);
      balance = λ es j x r.
          (let q = ap one (fresh_pending n l j x r) in omega (arith, q, (invariant (start n l) es j x r).balance));
      fresh = λ es j x r.
          ap₂ (λ (b : Bool) (o : Option Item). ledger j x (start n l).vmpl (book_of (start n l)) es (results (start n l) es) (opened b o))
          (fresh_pending n l j x r) (everywhere_start (λ v. item_in_flight v.flight ≡ None) none_in_flight n l j);
    }
