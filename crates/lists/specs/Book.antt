-- The book (a term of document 01), which tells what the guest has allowed, and what the notices of a list admit by it (section 12).
-- Assumes nothing.
use Rattle.std.specs.Prelude.{◌≡◌, cond, ◌&&◌, List, [], ◌∷◌, map, ℕ, ◌+◌, ◌-◌, ◌%◌, ◌<◌, ◌≤◌, leb, ltb, eqb, length, get_or, set}
use Rattle.std.specs.Prelude.{Option, None, Some}
use Rattle.model.specs.declared.Phase.{Phase}
use Rattle.model.specs.declared.Phase.TheVariants.{Leaving, Left}
use Rattle.model.specs.declared.Vcpu.{Vcpu}
use Rattle.model.specs.declared.Module.{Module}
use Rattle.model.specs.State.{is_active, is_leaving, absent, size}
use Rattle.model.specs.Doorbell.{long_enough, Part, no_part, admitted}
use Rattle.model.specs.Requests.{nameable}
use Rattle.model.specs.Events.{Act, notice, call, entry, non_delivery, hand_back, allow, On, at, Bytes, Event}
use Rattle.vector_set.specs.Bits.{bit_at}
use Rattle.vector_set.specs.Sets.{empty, insert, remove}

-- ---- what the book is fed: the events with the lengths of their pages and second lists
abbrev pub map_page : {P Q : Type 0} → (P → Q) → Act P → Act Q
map_page f (notice p) = notice (f p)
map_page f (call op c x) = call op c x
map_page f (entry iF sh bl) = entry iF sh bl
map_page f non_delivery = non_delivery
map_page f (hand_back p iF sh) = hand_back (f p) iF sh
map_page f (allow cs q) = allow cs (f q)

abbrev pub Note : Type 0
Note = On ℕ

-- an event as the book sees it (12.9)
abbrev pub note : Event → Note
note e = at e.vcpu (map_page length e.act)

-- ---- the book
pub record BookRecord : Type 0 where
  pub phase : Phase
  pub allowed : List ℕ

-- the book: n, the registration count, and for each vCPU what is kept of it (12.6, 12.7)
pub record Book : Type 0 where
  pub n : ℕ
  pub count : ℕ
  pub records : List BookRecord

abbrev pub record_of : Vcpu → BookRecord
record_of v = record { phase = v.phase; allowed = v.allowed }

-- at first as in a module, whose n is that with which it is answered (2.15, 12.8, 13.28)
unfoldable pub book_of : Module → Book
book_of m = record { n = size m; count = m.registrations; records = map record_of m.vcpus }

-- the record of the vCPU i
unfoldable pub record_at : Book → ℕ → BookRecord
record_at w i = get_or w.records i (record_of absent)

unfoldable pub with_record : ℕ → BookRecord → Book → Book
with_record i r w = record { n = w.n; count = w.count; records = set w.records i r }

unfoldable pub with_count : ℕ → Book → Book
with_count k w = record { n = w.n; count = k; records = w.records }

abbrev pub with_phase : Phase → BookRecord → BookRecord
with_phase p r = record { phase = p; allowed = r.allowed }

abbrev pub with_allowed : List ℕ → BookRecord → BookRecord
with_allowed s r = record { phase = r.phase; allowed = s }

-- ---- how an event changes it
-- at the count 0 the vCPU i becomes leaving (12.12)
unfoldable pub leaves_at_zero : ℕ → Book → Book
leaves_at_zero i w = cond (eqb w.count 0) (with_record i (with_phase Leaving (record_at w i)) w) w

-- k - 1 is 0 at 0 (12.13)
unfoldable pub takes_one : Book → Book
takes_one w = with_count (w.count - 1) w

-- registering, at a count of 1 to 254 (12.14)
unfoldable pub adds_one : Book → Book
adds_one w = cond (leb 1 w.count && leb w.count 254) (with_count (w.count + 1) w) w

-- call 1, by ECX (12.12 to 12.14)
unfoldable pub registers : ℕ → ℕ → Book → Book
registers i c w =
    cond (eqb c 0) (leaves_at_zero i w)
    (cond (eqb c 1) (leaves_at_zero i (takes_one w))
    (cond (eqb c 2) (adds_one w) w))

-- call 4, by ECX (12.15)
unfoldable pub permits : ℕ → ℕ → Book → Book
permits i c w =
    cond (nameable c)
    (cond (bit_at c 8)
    (with_record i (with_allowed (insert (c % 256) (record_at w i).allowed) (record_at w i)) w)
    (with_record i (with_allowed (remove (c % 256) (record_at w i).allowed) (record_at w i)) w))
    w

-- a call on an active vCPU i below n, by its number and ECX (12.11)
unfoldable pub called : ℕ → ℕ → ℕ → Book → Book
called i op c w = cond (eqb op 1) (registers i c w) (cond (eqb op 4) (permits i c w) w)

-- a list of ECX values: each in its turn (12.24)
unfoldable pub permits_each : ℕ → List ℕ → Book → Book
permits_each i [] w = w
permits_each i (c ∷ cs) w = permits_each i cs (permits i c w)

-- the vCPU i has left (12.16)
unfoldable pub leaves : ℕ → Book → Book
leaves i w = with_record i (record { phase = Left; allowed = empty }) w

-- an act on the vCPU i: two calls, the hand-back and the list change the book, nothing else does (12.10, 12.11, 12.16, 12.17, 12.24, 12.25)
unfoldable pub feed_act : ℕ → Act ℕ → Book → Book
feed_act i (notice len) w = w
feed_act i (call op c x) w = cond (ltb i w.n && is_active (record_at w i).phase) (called i op c w) w
feed_act i (entry iF sh bl) w = w
feed_act i non_delivery w = w
feed_act i (hand_back len iF sh) w = cond (ltb i w.n && is_leaving (record_at w i).phase && leb 256 len) (leaves i w) w
feed_act i (allow cs len) w =
    cond (ltb i w.n && is_active (record_at w i).phase && (leb (length cs) 256 && leb (length cs) len)) (permits_each i cs w) w

abbrev pub feed : Book → Note → Book
feed w e = feed_act e.vcpu e.act w

-- the book after a list (12.9)
unfoldable pub feed_all : Book → List Note → Book
feed_all w [] = w
feed_all w (e ∷ es) = feed_all (feed w e) es

-- ---- what is admitted by it, at the VMPL l
-- the page of a notice, if the act is one
abbrev pub notice_page : {P : Type 0} → Act P → Option P
notice_page (notice p) = Some p
notice_page (call op c x) = None
notice_page (entry iF sh bl) = None
notice_page non_delivery = None
notice_page (hand_back p iF sh) = None
notice_page (allow cs q) = None

-- by a notice on the vCPU i with the page that there may be (12.18 to 12.20)
unfoldable pub part_on : ℕ → Book → ℕ → Option Bytes → Part
part_on l w i None = no_part
part_on l w i (Some p) =
    cond (ltb i w.n && is_active (record_at w i).phase && long_enough p) (admitted l (record_at w i).allowed p) no_part

abbrev pub part_by : ℕ → Book → Event → Part
part_by l w e = part_on l w e.vcpu (notice_page e.act)

-- for each event of a list what it admits, under the book that the events before it left. Two parts are equal exactly when the NMI, the
-- machine check, the level-sensitive vector or its absence, and the edge set are: a set is its eight words (`set_ext`) (13.21)
unfoldable pub parts : ℕ → Book → List Event → List Part
parts l w [] = []
parts l w (e ∷ es) = part_by l w e ∷ parts l (feed w (note e)) es

-- ---- a list of ECX values: where its lengths fit it is fed as its single calls are, and another not at all (12.24, 12.25, 13.73)
pub record FedAsCalls : Type 0 where
  pub fitting : (w : Book) (i x : ℕ) (cs : List ℕ) (len : ℕ) → length cs ≤ 256 → length cs ≤ len
      → feed w (at i (allow cs len)) ≡ feed_all w (map (λ c. at i (call 4 c x)) cs)
  pub too_many : (w : Book) (i : ℕ) (cs : List ℕ) (len : ℕ) → 256 < length cs → feed w (at i (allow cs len)) ≡ w
  pub too_short : (w : Book) (i : ℕ) (cs : List ℕ) (len : ℕ) → len < length cs → feed w (at i (allow cs len)) ≡ w
  -- and either admits nothing (12.26)
  pub unadmitting : (l : ℕ) (w : Book) (i : ℕ) (cs : List ℕ) (q : Bytes) → part_by l w (at i (allow cs q)) ≡ no_part
