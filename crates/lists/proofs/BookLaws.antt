-- The book of a module, at a record and after each change of one.
-- Assumes nothing.
use mathlib.Core.Path.{◌≡◌, refl}
use mathlib.Core.List.{List, [], ◌∷◌, map}
use Rattle.std.specs.Prelude.{Option, None, Some}
use Prim.Native.Nat.{ℕ, zero, suc}
use lib.ListN.{set, get_or-map}
use lib.Seq.{map-set_same}
use Rattle.model.specs.declared.InFlight.{InFlight}
use Rattle.model.specs.declared.Item.{Item}
use Rattle.model.specs.declared.Item.TheVariants as item
use Rattle.model.specs.declared.Target.{Target}
use Rattle.model.specs.declared.Vcpu.{Vcpu}
use Rattle.model.specs.declared.Module.{Module}
use Rattle.model.specs.State.{absent, size, vcpu_at, with_vcpu, with_registrations, with_flight}
use Rattle.model.specs.Codes.{Answer, nothing, presents, window}
use Rattle.model.specs.Items.{mark, unmark, mark_all}
use Rattle.model.specs.Doorbell.{Part}
use Rattle.model.specs.Ipi.{reach, map_from, sent}
use Rattle.model.specs.Events.{noticed, present, entered, give_back, undelivered}
use Rattle.lists.specs.Book.{record_of, book_of, record_at, with_record, with_count}
use Rattle.model.proofs.Stored.{by_reach}

-- ---- the book of a module, at a record and after a change
pub record_book : (m : Module) (i : ℕ) → record_at (book_of m) i ≡ record_of (vcpu_at m i)
unfolding record_at book_of vcpu_at
record_book m i = get_or-map record_of m.vcpus i absent

map_set : (l : List Vcpu) (i : ℕ) (v : Vcpu) → map record_of (set l i v) ≡ set (map record_of l) i (record_of v)
map_set [] i v = refl
map_set (u ∷ l) zero v = refl
map_set (u ∷ l) (suc i) v = rw (map_set l i v)

pub book_put : (m : Module) (i : ℕ) (v : Vcpu) → book_of (with_vcpu m i v) ≡ with_record i (record_of v) (book_of m)
unfolding book_of with_vcpu with_record size
book_put m i v = rw (map_set m.vcpus i v)

pub book_put_same : (m : Module) (i : ℕ) (v : Vcpu) → record_of v ≡ record_of (vcpu_at m i) → book_of (with_vcpu m i v) ≡ book_of m
unfolding book_of with_vcpu vcpu_at size
book_put_same m i v e = rw (map-set_same record_of m.vcpus i v absent e)

pub book_count : (k : ℕ) (m : Module) → book_of (with_registrations k m) ≡ with_count k (book_of m)
unfolding book_of with_registrations with_count size
book_count k m = refl

-- the book does not see what is in flight
pub book_flight : (m : Module) (i : ℕ) (f : InFlight) → book_of (with_vcpu m i (with_flight f (vcpu_at m i))) ≡ book_of m
book_flight m i f = book_put_same m i (with_flight f (vcpu_at m i)) refl

-- ---- an IPI leaves it alone
pub record_mark : (y : Item) (v : Vcpu) → record_of (mark y v) ≡ record_of v
unfolding mark
record_mark item.Nmi v = refl
record_mark item.MachineCheck v = refl
record_mark (item.Vector x) v = refl

record_reach : (y : Item) (t : Target) (i n k : ℕ) (v : Vcpu) → record_of (reach y t i n k v) ≡ record_of v
record_reach y t i n k v = by_reach y t i n k v (λ u. record_of u ≡ record_of v) (record_mark y v) refl

map_map_from : (f : ℕ → Vcpu → Vcpu) → ((k : ℕ) (v : Vcpu) → record_of (f k v) ≡ record_of v)
    → (k : ℕ) (l : List Vcpu) → map record_of (map_from f k l) ≡ map record_of l
unfolding map_from
map_map_from f h k [] = refl
map_map_from f h k (v ∷ l) = rw (h k v, map_map_from f h (suc k) l)

pub book_sent : (y : Item) (t : Target) (i : ℕ) (m : Module) → book_of (sent y t i m) ≡ book_of m
unfolding book_of sent size
book_sent y t i m = rw (map_map_from (reach y t i (size m)) (record_reach y t i (size m)) 0 m.vcpus)

-- ---- a notice, an entry and a non-delivery leave it alone
pub record_noticed : (a : Part) (v : Vcpu) → record_of (noticed a v) ≡ record_of v
unfolding noticed mark_all
record_noticed a v = refl

record_present : (y : Item) (v : Vcpu) → record_of (present y v) ≡ record_of v
unfolding present unmark
record_present item.Nmi v = refl
record_present item.MachineCheck v = refl
record_present (item.Vector x) v = refl

pub record_entered : (a : Answer) (v : Vcpu) → record_of (entered a v) ≡ record_of v
unfolding entered
record_entered nothing v = refl
record_entered (presents y) v = record_present y v
record_entered (window x) v = refl

record_give_back : (y : Item) (v : Vcpu) → record_of (give_back y v) ≡ record_of v
unfolding give_back mark
record_give_back item.Nmi v = refl
record_give_back item.MachineCheck v = refl
record_give_back (item.Vector x) v = refl

pub record_undelivered : (o : Option Item) (v : Vcpu) → record_of (undelivered o v) ≡ record_of v
unfolding undelivered
record_undelivered None v = refl
record_undelivered (Some y) v = record_give_back y v
