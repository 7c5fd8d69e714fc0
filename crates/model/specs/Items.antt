-- Items: the NMI, the machine check and the vectors. What is pending at a record is asked and changed by item (section 2).
-- Assumes nothing.
use Rattle.std.specs.Prelude.{Bool, true, false, not, ◌&&◌, ◌||◌, List, ℕ, ◌+◌, ◌<◌, ◌≤◌, eqb}
use Rattle.std.specs.Prelude.{Option, None, Some}
use Rattle.model.specs.declared.InFlight.{InFlight}
use Rattle.model.specs.declared.InFlight.TheVariants as flight
use Rattle.model.specs.declared.Item.{Item}
use Rattle.model.specs.declared.Item.TheVariants.{Nmi, MachineCheck, Vector}
use Rattle.model.specs.declared.Vcpu.{Vcpu}
use Rattle.model.specs.State.{with_irr, with_summary, with_nmi, with_machine_check}
use Rattle.vector_set.specs.Bits.{one}
use Rattle.vector_set.specs.Sets.{has, collect, count}
use Rattle.vector_set.specs.Summaries.{remade}

-- a vector is below 256
abbrev pub InRange : Item → Type 0
InRange Nmi = Unit {0}
InRange MachineCheck = Unit {0}
InRange (Vector v) = v < 256

-- a vector is at least 31 (4.13, 7.9)
abbrev pub IsVector : Item → Type 0
IsVector Nmi = Unit {0}
IsVector MachineCheck = Unit {0}
IsVector (Vector v) = 31 ≤ v

-- the item is the NMI
abbrev pub is_nmi : Item → Bool
is_nmi Nmi = true
is_nmi MachineCheck = false
is_nmi (Vector v) = false

-- the item is the machine check
abbrev pub is_machine_check : Item → Bool
is_machine_check Nmi = false
is_machine_check MachineCheck = true
is_machine_check (Vector v) = false

-- the item is the vector y
abbrev pub is_vector_item : ℕ → Item → Bool
is_vector_item y Nmi = false
is_vector_item y MachineCheck = false
is_vector_item y (Vector v) = eqb v y

-- two items are the same
abbrev pub same_item : Item → Item → Bool
same_item x Nmi = is_nmi x
same_item x MachineCheck = is_machine_check x
same_item x (Vector y) = is_vector_item y x

-- x is the item that there may be
abbrev pub is_item : Item → Option Item → Bool
is_item x None = false
is_item x (Some y) = same_item x y

-- the member of an allowed set that stands for an item (2.4)
abbrev pub member_of : Item → ℕ
member_of Nmi = 2
member_of MachineCheck = 18
member_of (Vector v) = v

-- how many items there are with f: the NMI, the machine check and the vectors 0 to 255 (4.30)
unfoldable pub item_count : (Item → Bool) → ℕ
item_count f = one (f Nmi) + one (f MachineCheck) + count (collect (λ v. f (Vector v)))

-- ---- in flight
-- the item in flight, if one is (2.11)
abbrev pub item_in_flight : InFlight → Option Item
item_in_flight flight.Nothing = None
item_in_flight flight.Nmi = Some Nmi
item_in_flight flight.MachineCheck = Some MachineCheck
item_in_flight (flight.Vector v) = Some (Vector v)

-- an item that is in flight (8.14)
abbrev pub flight_of : Item → InFlight
flight_of Nmi = flight.Nmi
flight_of MachineCheck = flight.MachineCheck
flight_of (Vector v) = flight.Vector v

-- ---- pending: the NMI and the machine check by their marks, a vector by the IRR
abbrev pub pending_in : Item → Bool → Bool → List ℕ → Bool
pending_in Nmi nmi mc irr = nmi
pending_in MachineCheck nmi mc irr = mc
pending_in (Vector v) nmi mc irr = has irr v

-- the item x is pending at a record (2.5, 2.8, 2.16)
abbrev pub pending : Item → Vcpu → Bool
pending x v = pending_in x v.nmi v.machine_check v.irr

-- P once each vector of f is pending or, where b is false, is not; the others stay
abbrev pub irr_after : Bool → (ℕ → Bool) → List ℕ → List ℕ
irr_after true f s = collect (λ v. f v || has s v)
irr_after false f s = collect (λ v. not (f v) && has s v)

-- the record with this P. Every change of P is made here, and the summary with it: anew for the words in which f has a vector (2.21)
abbrev pub put_irr : Bool → (ℕ → Bool) → Vcpu → Vcpu
put_irr b f v = with_summary (remade f (irr_after b f v.irr) v.summary) (with_irr (irr_after b f v.irr) v)

-- the item becomes pending, as edge (4.27, 7.17, 7.24, 9.9)
unfoldable pub mark : Item → Vcpu → Vcpu
mark Nmi v = with_nmi true v
mark MachineCheck v = with_machine_check true v
mark (Vector x) v = put_irr true (λ y. eqb y x) v

-- it is pending no more (8.6, 8.11, 8.17)
unfoldable pub unmark : Item → Vcpu → Vcpu
unmark Nmi v = with_nmi false v
unmark MachineCheck v = with_machine_check false v
unmark (Vector x) v = put_irr false (λ y. eqb y x) v

-- every item of f becomes pending (4.25, 4.28, 4.42)
unfoldable pub mark_all : (Item → Bool) → Vcpu → Vcpu
mark_all f v =
    with_nmi (v.nmi || f Nmi) (with_machine_check (v.machine_check || f MachineCheck) (put_irr true (λ x. f (Vector x)) v))

-- nothing is pending any more (10.13, 10.18)
unfoldable pub unmark_all : Vcpu → Vcpu
unmark_all v = with_nmi false (with_machine_check false (put_irr false (λ x. true) v))
