-- What is pending and in flight at a record after each change, and that what an entry presents was pending.
-- Assumes nothing.
use mathlib.Core.Path.{◌≡◌, refl, ap, ◌∙◌}
use mathlib.Core.Bool.{Bool, true, false, cond, not, ◌&&◌, ◌||◌, and-true, and-false, or_comm}
use Rattle.std.specs.Prelude.{Option, None, Some}
use Prim.Native.Nat.{ℕ, ◌+◌, ◌-◌}
use native.Mathlib.Omega.{arith}
use lib.Dec.{ltb, leb, eqb}
use borrow.Author.Tests.{eqb-true}
use Rattle.model.specs.declared.Phase.{Phase}
use Rattle.model.specs.declared.Item.{Item}
use Rattle.model.specs.declared.Item.TheVariants as item
use Rattle.model.specs.declared.Target.{Target}
use Rattle.model.specs.declared.Local.{Local}
use Rattle.model.specs.declared.Local.TheVariants as local
use Rattle.model.specs.declared.Vcpu.{Vcpu}
use Rattle.model.specs.State.{is_active, bare, vcpu_at, start}
use Rattle.model.specs.Codes.{Answer, nothing, presents, window, presented_in}
use Rattle.model.specs.Items.{InRange, same_item, is_item, item_in_flight, flight_of, pending, mark}
use Rattle.model.specs.Doorbell.{Part, in_part}
use Rattle.model.specs.Registers.{class, ppr, ended_at, ended}
use Rattle.model.specs.Ipi.{hits, reach}
use Rattle.model.specs.Requests.{leave_if, serve}
use Rattle.model.specs.Events.{noticed, offer_highest, offer_with, offer}
use Rattle.lists.specs.Ledger.{tally}
use Rattle.vector_set.specs.Bits.{one}
use Rattle.vector_set.specs.Sets.{highest}
use Rattle.vector_set.specs.Summaries.{in_marked}
use Rattle.vector_set.proofs.Laws.{clash, has_empty}
use Rattle.vector_set.proofs.SummaryLaws.{marked_has}
use Rattle.model.proofs.Reached.{everywhere_start}
use Rattle.model.proofs.ItemLaws.{pending_mark, rest_mark, pending_mark_all, rest_mark_all}

-- ---- what is pending at a record after each change
-- what a call gives to the caller's record: the vector of a self-IPI
abbrev pub gives : Item → Local → Bool
gives x local.Features = false
gives x local.Leave = false
gives x local.Release = false
gives x local.Register = false
gives x (local.Allow y) = false
gives x (local.Disallow y) = false
gives x (local.Read y) = false
gives x (local.SetTpr y) = false
gives x local.Eoi = false
gives x (local.SelfIpi y) = same_item x (item.Vector y)

-- what is pending and in flight at the record u, with b given, and at v
pub record Like (x : Item) (b : Bool) (u v : Vcpu) : Type 0 where
  pub pends : pending x v ≡ (b || pending x u)
  pub in_flight : v.flight ≡ u.flight

pub like_noticed : (x : Item) → InRange x → (s : Part) (v : Vcpu) → Like x (in_part x s) v (noticed s v)
unfolding noticed
like_noticed x r s v =
    record {
      pends = pending_mark_all x r (λ y. in_part y s) v ∙ or_comm (pending x v) (in_part x s);
      in_flight = ap (λ (u : Vcpu). u.flight) (rest_mark_all (λ y. in_part y s) v);
    }

like_leave : (x : Item) (b : Bool) (v : Vcpu) → Like x false v (leave_if b v)
like_leave x true v = record { pends = refl; in_flight = refl }
like_leave x false v = record { pends = refl; in_flight = refl }

like_ended : (x : Item) (o : Option ℕ) (v : Vcpu) → Like x false v (ended_at o v)
unfolding ended_at
like_ended x None v = record { pends = refl; in_flight = refl }
like_ended x (Some y) v = record { pends = refl; in_flight = refl }

like_mark : (x : Item) → InRange x → (y : Item) (v : Vcpu) → Like x (same_item x y) v (mark y v)
like_mark x r y v = record { pends = pending_mark x r y v; in_flight = ap (λ (u : Vcpu). u.flight) (rest_mark y v) }

pub like_serve : (x : Item) → InRange x → (o : Local) (i k : ℕ) (v : Vcpu) → Like x (gives x o) v (serve o i k v).vcpu
unfolding serve ended
like_serve x r local.Features i k v = record { pends = refl; in_flight = refl }
like_serve x r local.Leave i k v = like_leave x (eqb k 0) v
like_serve x r local.Release i k v = like_leave x (eqb (k - 1) 0) v
like_serve x r local.Register i k v = record { pends = refl; in_flight = refl }
like_serve x r (local.Allow y) i k v = record { pends = refl; in_flight = refl }
like_serve x r (local.Disallow y) i k v = record { pends = refl; in_flight = refl }
like_serve x r (local.Read y) i k v = record { pends = refl; in_flight = refl }
like_serve x r (local.SetTpr y) i k v = record { pends = refl; in_flight = refl }
like_serve x r local.Eoi i k v = like_ended x (highest v.isr) v
like_serve x r (local.SelfIpi y) i k v = like_mark x r (item.Vector y) v

pub like_reach : (x : Item) → InRange x → (y : Item) (t : Target) (i n j : ℕ) (v : Vcpu)
    → Like x (same_item x y && (ltb j n && hits t i j && is_active v.phase)) v (reach y t i n j v)
unfolding reach
like_reach x r y t i n j v = pick (ltb j n && hits t i j && is_active v.phase)
  where
    pick : (b : Bool) → Like x (same_item x y && b) v (cond b (mark y v) v)
    pick true = rw (and-true (same_item x y)) (like_mark x r y v)
    pick false = rw (and-false (same_item x y)) (record { pends = refl; in_flight = refl })

-- ---- what an entry presents is pending
unfoldable pub Offered : Answer → Vcpu → Type 0
Offered a v = (x : Item) → is_item x (presented_in a) ≡ true → pending x v ≡ true

pub offer_pending : (iF sh bl : Bool) (v : Vcpu) → Offered (offer iF sh bl v) v
unfolding offer offer_with offer_highest Offered
offer_pending iF sh bl v = first v.machine_check refl
  where
    above : (a b : Bool) (y : ℕ) → highest (in_marked v.summary v.irr) ≡ Some y → Offered (cond a nothing (cond b (presents (item.Vector y)) (window y))) v
    above true b y e x h = clash (cc)
    above false true y e item.Nmi h = clash (cc)
    above false true y e item.MachineCheck h = clash (cc)
    above false true y e (item.Vector z) h = rw (eqb-true z y h) (marked_has v.summary v.irr y e).0
    above false false y e x h = clash (cc)

    high : (o : Option ℕ) → highest (in_marked v.summary v.irr) ≡ o → Offered (offer_highest (iF && not sh) (ppr v) o) v
    high None e x h = clash (cc)
    high (Some y) e x h = above (leb (class y) (class (ppr v))) (iF && not sh) y e x h

    pick : (a b : Bool) → v.nmi ≡ a
        → Offered (cond (a && b) (presents item.Nmi) (offer_highest (iF && not sh) (ppr v) (highest (in_marked v.summary v.irr)))) v
    pick true true e item.Nmi h = e
    pick true true e item.MachineCheck h = clash (cc)
    pick true true e (item.Vector z) h = clash (cc)
    pick true false e x h = high (highest (in_marked v.summary v.irr)) refl x h
    pick false b e x h = high (highest (in_marked v.summary v.irr)) refl x h

    first : (a : Bool) → v.machine_check ≡ a
        → Offered (cond a (presents item.MachineCheck)
        (cond (v.nmi && not (sh || bl)) (presents item.Nmi) (offer_highest (iF && not sh) (ppr v) (highest (in_marked v.summary v.irr))))) v
    first true e item.Nmi h = clash (cc)
    first true e item.MachineCheck h = e
    first true e (item.Vector z) h = clash (cc)
    first false e x h = pick v.nmi (not (sh || bl)) refl x h

-- ---- what is in flight is what the latest accepted entry presented
abbrev pub Follows : Option Item → Option Item → Type 0
Follows None l = Unit {0}
Follows (Some y) l = l ≡ Some y

pub flying_flight : (y : Item) → item_in_flight (flight_of y) ≡ Some y
flying_flight item.Nmi = refl
flying_flight item.MachineCheck = refl
flying_flight (item.Vector x) = refl

pub tally_is : (b : Bool) (n : ℕ) → tally b n ≡ n + one b
tally_is true n = omega arith
tally_is false n = omega arith

-- brought, where it may wait: merged or new
pub join_is : (b w p : Bool) → w ≡ p → one (b && w) + one (b || p) ≡ one b + one p
join_is true w p e = rw e (omega arith)
join_is false w p e = omega arith

-- taken out where it was
pub take_is : (t p : Bool) → (t ≡ true → p ≡ true) → one (not t && p) + one t ≡ one p
take_is true p h = let e : p ≡ true = h refl in rw e
take_is false p h = omega arith

-- ---- what start gives has nothing pending
none_pending : (x : Item) → InRange x → (p : Phase) → pending x (bare p) ≡ false
unfolding bare
none_pending item.Nmi r p = refl
none_pending item.MachineCheck r p = refl
none_pending (item.Vector v) r p = has_empty v r

pub fresh_pending : (n l j : ℕ) (x : Item) → InRange x → pending x (vcpu_at (start n l) j) ≡ false
fresh_pending n l j x r = everywhere_start (λ v. pending x v ≡ false) (none_pending x r) n l j
