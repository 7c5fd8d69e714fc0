-- What an event may change, as one table by acts, guest calls and fields; and that it changes nothing else (13.108 to 13.110).
-- Assumes nothing.
use Rattle.std.specs.Prelude.{◌≡◌, Bool, true, false, cond, ◌||◌, List, [], ◌∷◌, ℕ, ◌+◌, ◌*◌, ◌%◌, ◌^◌, ◌<◌, eqb}
use Rattle.std.specs.Prelude.{Option, None, Some}
use Rattle.model.specs.declared.Item.{Item}
use Rattle.model.specs.declared.Item.TheVariants.{Nmi, MachineCheck, Vector}
use Rattle.model.specs.declared.Vcpu.{Vcpu}
use Rattle.model.specs.declared.Module.{Module}
use Rattle.model.specs.declared.InFlight.TheVariants as in_flight
use Rattle.model.specs.State.{absent, vcpu_at, with_isr, with_flight}
use Rattle.model.specs.Codes.{presented_by}
use Rattle.model.specs.Items.{is_item, item_in_flight}
use Rattle.model.specs.Doorbell.{in_part, admitted}
use Rattle.model.specs.Ipi.{icr_item}
use Rattle.model.specs.Events.{Act, notice, call, entry, non_delivery, hand_back, allow, Bytes, Event, step, next}
use Rattle.vector_set.specs.Bits.{one}
use Rattle.vector_set.specs.Sets.{has, highest}

-- ---- the fields of a record
-- the sets A, P, S, PL and SL, then the other fields (2.3, 2.8 to 2.12, 2.16, 2.19)
pub data Field : Type 0 where
  allowed : Field
  irr : Field
  isr : Field
  irr_level : Field
  isr_level : Field
  nmi : Field
  machine_check : Field
  tpr : Field
  icr : Field
  phase : Field
  flight : Field
  summary : Field

-- two records have the same in a field
abbrev pub Same : Field → Vcpu → Vcpu → Type 0
Same allowed u v = u.allowed ≡ v.allowed
Same irr u v = u.irr ≡ v.irr
Same isr u v = u.isr ≡ v.isr
Same irr_level u v = u.irr_level ≡ v.irr_level
Same isr_level u v = u.isr_level ≡ v.isr_level
Same nmi u v = u.nmi ≡ v.nmi
Same machine_check u v = u.machine_check ≡ v.machine_check
Same tpr u v = u.tpr ≡ v.tpr
Same icr u v = u.icr ≡ v.icr
Same phase u v = u.phase ≡ v.phase
Same flight u v = u.flight ≡ v.flight
Same summary u v = u.summary ≡ v.summary

-- the set that a field holds; of a field that is no set, one without members
abbrev pub set_in : Field → Vcpu → List ℕ
set_in allowed v = v.allowed
set_in irr v = v.irr
set_in isr v = v.isr
set_in irr_level v = v.irr_level
set_in isr_level v = v.isr_level
set_in nmi v = []
set_in machine_check v = []
set_in tpr v = []
set_in icr v = []
set_in phase v = []
set_in flight v = []
set_in summary v = []

-- a number for each field, by which it is found in a list of fields
abbrev pub place : Field → ℕ
place allowed = 0
place irr = 1
place isr = 2
place irr_level = 3
place isr_level = 4
place nmi = 5
place machine_check = 6
place tpr = 7
place icr = 8
place phase = 9
place flight = 10
place summary = 11

abbrev pub listed : List Field → Field → Bool
listed [] f = false
listed (g ∷ gs) f = eqb (place f) (place g) || listed gs f

-- ---- the table
-- a row: what may change of the record of the event's vCPU, of the other records, and whether the count may; and which vectors may come into a set
-- or go out of it
pub record Touched : Type 0 where
  pub own : List Field
  pub others : List Field
  pub count : Bool
  pub vectors : ℕ → Bool

-- no vector
abbrev pub no_vector : ℕ → Bool
no_vector x = false

-- a row that touches the record of the event's vCPU alone, with these fields and vectors
abbrev pub only : List Field → (ℕ → Bool) → Touched
only fs g = record { own = fs; others = []; count = false; vectors = g }

-- nothing
abbrev pub untouched : Touched
untouched = only [] no_vector

-- the vector x is the one that there may be
abbrev pub is_that : ℕ → Option ℕ → Bool
is_that x None = false
is_that x (Some y) = eqb x y

-- what says that an item is pending (2.5, 2.8, 2.16)
abbrev pub pending_fields : Item → List Field
pending_fields Nmi = nmi ∷ []
pending_fields MachineCheck = machine_check ∷ []
pending_fields (Vector v) = irr ∷ summary ∷ []

-- what changes where an item is presented or returned; a vector moves between P and S, and between PL and SL (8.6, 8.11, 8.12, 8.15, 8.17, 9.3, 9.4, 9.9)
abbrev pub moved_fields : Option Item → List Field
moved_fields None = []
moved_fields (Some Nmi) = pending_fields Nmi
moved_fields (Some MachineCheck) = pending_fields MachineCheck
moved_fields (Some (Vector v)) = isr ∷ irr_level ∷ isr_level ∷ pending_fields (Vector v)

-- call 1 by ECX: 0 may make the vCPU leaving, 1 takes from the count too, 2 adds to it (5.8 to 5.11)
unfoldable pub registration_touches : ℕ → Touched
registration_touches c =
    cond (eqb c 0) (only (flight ∷ phase ∷ []) no_vector)
    (cond (eqb c 1) (record { own = flight ∷ phase ∷ []; others = []; count = true; vectors = no_vector })
    (cond (eqb c 2) (record { own = flight ∷ []; others = []; count = true; vectors = no_vector }) untouched))

-- an ICR write of x, which reaches other vCPUs too (7.17, 7.25)
abbrev pub icr_touches : ℕ → Touched
icr_touches x =
    record {
      own = flight ∷ icr ∷ pending_fields (icr_item x);
      others = pending_fields (icr_item x);
      count = false;
      vectors = λ y. is_item (Vector y) (Some (icr_item x));
    }

-- call 3 by the register, of a vCPU with the record v: EOI, self-IPI, TPR, ICR; no other is written (6.22, 6.25, 7.22, 7.23)
unfoldable pub write_touches : Vcpu → ℕ → ℕ → Touched
write_touches v r x =
    cond (eqb r 0x80B) (only (flight ∷ isr ∷ isr_level ∷ []) (λ y. is_that y (highest v.isr)))
    (cond (eqb r 0x83F) (only (flight ∷ pending_fields (Vector x)) (λ y. eqb y x))
    (cond (eqb r 0x808) (only (flight ∷ tpr ∷ []) no_vector) (cond (eqb r 0x830) (icr_touches x) untouched)))

-- a guest call by its number, ECX and RDX; calls 0 and 2 touch what is in flight alone, and there is none above 4 (5.3, 5.5, 5.16, 5.25)
unfoldable pub call_touches : Vcpu → ℕ → ℕ → ℕ → Touched
call_touches v op c x =
    cond (eqb op 1) (registration_touches c)
    (cond (eqb op 3) (write_touches v c x)
    (cond (eqb op 4) (only (flight ∷ allowed ∷ []) (λ y. eqb y (c % 256)))
    (cond (eqb op 0 || eqb op 2) (only (flight ∷ []) no_vector) untouched)))

-- one of the values names the vector x (5.15)
abbrev pub names : List ℕ → ℕ → Bool
names [] x = false
names (c ∷ cs) x = eqb x (c % 256) || names cs x

-- an act at the VMPL l on a vCPU with the record v, where o is what it presents (4.36, 5.32, 8.3, 9.7, 10.13, 10.14)
unfoldable pub act_touches : ℕ → Vcpu → Option Item → Act Bytes → Touched
act_touches l v o (notice p) = only (irr ∷ irr_level ∷ nmi ∷ machine_check ∷ summary ∷ []) (λ x. in_part (Vector x) (admitted l v.allowed p))
act_touches l v o (call op c x) = call_touches v op c x
act_touches l v o (entry iF sh bl) = only (flight ∷ moved_fields o) (λ x. is_item (Vector x) o)
act_touches l v o non_delivery =
    only (flight ∷ moved_fields (item_in_flight v.flight)) (λ x. is_item (Vector x) (item_in_flight v.flight))
act_touches l v o (hand_back p iF sh) =
    only (allowed ∷ irr ∷ isr ∷ irr_level ∷ isr_level ∷ nmi ∷ machine_check ∷ phase ∷ summary ∷ []) (λ x. true)
act_touches l v o (allow cs q) = only (flight ∷ allowed ∷ []) (names cs)

-- the row of an event on a module
abbrev pub touches : Module → Event → Touched
touches m e = act_touches m.vmpl (vcpu_at m e.vcpu) (presented_by (step m e).result) e.act

-- ---- the table itself, written out: of a row the fields by their numbers, those of the own record, then those of others; the count; whether 0x41 and
-- whether 0x42 may move
abbrev pub field_bits : List Field → ℕ
field_bits [] = 0
field_bits (f ∷ fs) = 2 ^ place f + field_bits fs

abbrev pub row_bits : Touched → ℕ
row_bits t =
    field_bits t.own + 2 ^ 12 * field_bits t.others + 2 ^ 24 * one t.count + 2 ^ 25 * one (t.vectors 0x41) + 2 ^ 26 * one (t.vectors 0x42)

-- a record with 0x41 in service and in flight
abbrev sample : Vcpu
sample = with_flight (in_flight.Vector 0x41) (with_isr (0 ∷ 0 ∷ 2 ∷ 0 ∷ 0 ∷ 0 ∷ 0 ∷ 0 ∷ []) absent)

-- a bit for each of A, P, S, PL, SL, the two marks, TPR, ICR, phase, in flight and the byte, in this order (13.108)
unfoldable pub rows : List ℕ
rows =
    row_bits (act_touches 1 absent None (notice []))
    ∷ row_bits (act_touches 1 absent None (call 0 0 0))
    ∷ row_bits (act_touches 1 absent None (call 1 0 0))
    ∷ row_bits (act_touches 1 absent None (call 1 1 0))
    ∷ row_bits (act_touches 1 absent None (call 1 2 0))
    ∷ row_bits (act_touches 1 absent None (call 1 3 0))
    ∷ row_bits (act_touches 1 absent None (call 2 0x808 0))
    ∷ row_bits (act_touches 1 sample None (call 3 0x80B 0))
    ∷ row_bits (act_touches 1 absent None (call 3 0x83F 0x41))
    ∷ row_bits (act_touches 1 absent None (call 3 0x808 0))
    ∷ row_bits (act_touches 1 absent None (call 3 0x830 0x4041))
    ∷ row_bits (act_touches 1 absent None (call 3 0x830 0x4400))
    ∷ row_bits (act_touches 1 absent None (call 3 0x80A 0))
    ∷ row_bits (act_touches 1 absent None (call 4 0x141 0))
    ∷ row_bits (act_touches 1 absent None (call 5 0 0))
    ∷ row_bits (act_touches 1 absent None (entry true false false))
    ∷ row_bits (act_touches 1 absent (Some Nmi) (entry true false false))
    ∷ row_bits (act_touches 1 absent (Some MachineCheck) (entry true false false))
    ∷ row_bits (act_touches 1 absent (Some (Vector 0x41)) (entry true false false))
    ∷ row_bits (act_touches 1 (with_flight in_flight.Nmi absent) None non_delivery)
    ∷ row_bits (act_touches 1 (with_flight in_flight.MachineCheck absent) None non_delivery)
    ∷ row_bits (act_touches 1 sample None non_delivery)
    ∷ row_bits (act_touches 1 absent None (hand_back [] true false))
    ∷ row_bits (act_touches 1 absent None (allow (0x141 ∷ []) []))
    ∷ []

-- ---- the claim, of every module value and event: what the table does not name is as before
pub record LeavesAlone : Type 0 where
  -- the table, and that no record has more fields than it speaks of (13.108)
  pub table : rows
      ≡ (0x86A ∷ 0x400 ∷ 0x600 ∷ 0x100_0600 ∷ 0x100_0400 ∷ 0 ∷ 0x400 ∷ 0x200_0414 ∷ 0x200_0C02 ∷ 0x480 ∷ 0x280_2D02 ∷ 0x2_0520 ∷ 0 ∷ 0x200_0401 ∷ 0 ∷ 0x400
      ∷ 0x420 ∷ 0x440 ∷ 0x200_0C1E ∷ 0x420 ∷ 0x440 ∷ 0x200_0C1E ∷ 0x600_0A7F ∷ 0x200_0401 ∷ [])
  pub whole : (u v : Vcpu) → ((f : Field) → Same f u v) → u ≡ v
  -- of the record of its vCPU, a field (13.108)
  pub own_field : (m : Module) (e : Event) (f : Field) → listed (touches m e).own f ≡ false → Same f (vcpu_at (next m e) e.vcpu) (vcpu_at m e.vcpu)
  -- of any other record (13.108)
  pub other_field : (m : Module) (e : Event) (j : ℕ) (f : Field) → eqb j e.vcpu ≡ false → listed (touches m e).others f ≡ false
      → Same f (vcpu_at (next m e) j) (vcpu_at m j)
  -- on any vCPU, of a set, a vector (13.109)
  pub vector : (m : Module) (e : Event) (j : ℕ) (f : Field) (x : ℕ) → x < 256 → (touches m e).vectors x ≡ false
      → has (set_in f (vcpu_at (next m e) j)) x ≡ has (set_in f (vcpu_at m j)) x
  -- the count, n and the VMPL (13.110)
  pub registrations : (m : Module) (e : Event) → (touches m e).count ≡ false → (next m e).registrations ≡ m.registrations
  pub size : (m : Module) (e : Event) → (next m e).n ≡ m.n
  pub level : (m : Module) (e : Event) → (next m e).vmpl ≡ m.vmpl
