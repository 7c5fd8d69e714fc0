-- The events, and what each gives from every module value (sections 4 to 11).
-- Assumes nothing.
use Rattle.std.specs.Prelude.{Ok, Err, Bool, true, false, cond, not, ◌&&◌, ◌||◌, List, [], ◌∷◌, ◌++◌, ℕ, ◌+◌, ◌*◌, leb, ltb, eqb, length, drop, take, is_some}
use Rattle.std.specs.Prelude.{Option, None, Some, unwrap_or}
use Rattle.model.specs.declared.Phase.{Phase}
use Rattle.model.specs.declared.Phase.TheVariants.{Left}
use Rattle.model.specs.declared.Item.{Item}
use Rattle.model.specs.declared.Item.TheVariants.{Nmi, MachineCheck, Vector}
use Rattle.model.specs.declared.Refusal.{Refusal}
use Rattle.model.specs.declared.Refusal.TheVariants.{UnknownVcpu, ShortPage, StillActive, HasLeft, NothingInFlight, BadStart, NotActive, BadList}
use Rattle.std.specs.Prelude.{Ok, Err}
use Rattle.model.specs.Requests.{Parsed}
use Rattle.model.specs.declared.Request.TheVariants as request
use Rattle.model.specs.declared.Vcpu.{Vcpu}
use Rattle.model.specs.declared.Module.{Module}
use Rattle.model.specs.declared.Stepped.{Stepped}
use Rattle.model.specs.declared.Counts.{Counts}
use Rattle.model.specs.declared.Presentation.{Presentation}
use Rattle.model.specs.State.{is_active, is_leaving, is_in_flight, size, vcpu_at, may_start, start, with_vcpu, with_registrations}
use Rattle.model.specs.State.{with_allowed, with_isr, with_irr_level, with_isr_level, with_icr, with_phase, with_flight}
use Rattle.model.specs.Codes.{code_of, Answered, Verdict, accept, refuse, need, verdict_code, Answer, nothing, presents, window}
use Rattle.model.specs.Codes.{Result, done, counted, answers, coded, refused, presented_by, result_of, admission_result, presented_result, list_result}
use Rattle.model.specs.Items.{item_count, item_in_flight, flight_of, pending, mark, unmark, mark_all, unmark_all}
use Rattle.model.specs.Doorbell.{long_enough, Part, is_level, in_part, admitted, noticed_page, handed_bytes, written}
use Rattle.model.specs.Registers.{class, ppr}
use Rattle.model.specs.Ipi.{icr_item, icr_target, sent, new_bits}
use Rattle.model.specs.Requests.{request_of, forget, serve, call_verdict}
use Rattle.vector_set.specs.Bits.{one}
use Rattle.vector_set.specs.Sets.{has, collect, empty, insert, remove, highest}
use Rattle.vector_set.specs.Summaries.{in_marked}

-- ---- events: an act on a vCPU
-- P is what is known of what is lent to be written, a page or a second list: its bytes or entries in an event, its length in what the book is fed
-- (1.3, 4.1, 5.1, 5.26, 8.1, 9.1, 10.1)
pub data Act (P : Type 0) : Type 0 where
  -- page
  notice : P → Act P
  -- call, ECX, RDX
  call : ℕ → ℕ → ℕ → Act P
  -- IF, shadow, NMI-blocked
  entry : Bool → Bool → Bool → Act P
  non_delivery : Act P
  -- page, IF, shadow
  hand_back : P → Bool → Bool → Act P
  -- ECX values, second list
  allow : List ℕ → P → Act P

pub record On (P : Type 0) : Type 0 where
  pub vcpu : ℕ
  pub act : Act P

abbrev pub at : {P : Type 0} → ℕ → Act P → On P
at i a = record { vcpu = i; act = a }

abbrev pub Bytes : Type 0
Bytes = List ℕ

abbrev pub Event : Type 0
Event = On Bytes

-- what an act lends to be written, if it does
abbrev pub lends : {P : Type 0} → Act P → Option P
lends (notice p) = Some p
lends (call op c x) = None
lends (entry iF sh bl) = None
lends non_delivery = None
lends (hand_back p iF sh) = Some p
lends (allow cs q) = Some q

-- its bytes or entries, or none
abbrev pub page_of : Act Bytes → Bytes
page_of a = unwrap_or (lends a) []

-- ---- what an event does to a record
-- a notice: the items of its part become pending, the level-sensitive one also as such (4.25 to 4.28, 4.36, 4.42, 4.43, 5.4)
unfoldable pub noticed : Part → Vcpu → Vcpu
noticed a v =
    with_irr_level (collect (λ x. has v.irr_level x || is_level a.level x)) (mark_all (λ x. in_part x a) v)

-- of the items of a part, how many become pending at a record, and how many were pending there: asked of P and of the marks (4.29, 4.37 to 4.39)
unfoldable pub items_new : Part → Vcpu → ℕ
items_new a v = item_count (λ x. in_part x a && not (pending x v))

unfoldable pub items_merged : Part → Vcpu → ℕ
items_merged a v = item_count (λ x. in_part x a && pending x v)

-- what an entry answers for the pending vector that it found. The first argument: IF holds and shadow does not; the second: PPR (8.8, 8.9, 8.11, 8.13)
unfoldable pub offer_highest : Bool → ℕ → Option ℕ → Answer
offer_highest ready p None = nothing
offer_highest ready p (Some x) = cond (leb (class x) (class p)) nothing (cond ready (presents (Vector x)) (window x))

-- what an entry answers where o is the pending vector that it finds, if it finds one: the machine check before all else, the NMI before any vector
-- (8.6, 8.7, 8.10, 8.16 to 8.18)
unfoldable pub offer_with : Option ℕ → Bool → Bool → Bool → Vcpu → Answer
offer_with o iF sh bl v =
    cond v.machine_check (presents MachineCheck) (cond (v.nmi && not (sh || bl)) (presents Nmi) (offer_highest (iF && not sh) (ppr v) o))

-- what an entry answers: of P it looks at the marked words alone (8.20)
unfoldable pub offer : Bool → Bool → Bool → Vcpu → Answer
offer iF sh bl v = offer_with (highest (in_marked v.summary v.irr)) iF sh bl v

-- the set t, with x if the set s has x
abbrev pub gains : ℕ → List ℕ → List ℕ → List ℕ
gains x s t = collect (λ v. has t v || (eqb v x && has s x))

-- an item is presented: a vector is then in service, and level-sensitive there if it was so while pending (8.6, 8.11, 8.12, 8.17, 8.19)
unfoldable pub present : Item → Vcpu → Vcpu
present Nmi v = unmark Nmi v
present MachineCheck v = unmark MachineCheck v
present (Vector x) v =
    with_isr_level (gains x v.irr_level v.isr_level)
    (with_irr_level (remove x v.irr_level) (with_isr (insert x v.isr) (unmark (Vector x) v)))

-- the record, which has forgotten what was in flight, after an entry's answer: a presented item is in flight (8.14, 8.15)
unfoldable pub entered : Answer → Vcpu → Vcpu
entered nothing v = v
entered (presents y) v = with_flight (flight_of y) (present y v)
entered (window x) v = v

-- an item is returned: a vector is then pending, and level-sensitive there if it was so in service (9.3 to 9.6, 9.9)
unfoldable pub give_back : Item → Vcpu → Vcpu
give_back Nmi v = mark Nmi v
give_back MachineCheck v = mark MachineCheck v
give_back (Vector x) v =
    with_irr_level (gains x v.isr_level v.irr_level)
    (with_isr_level (remove x v.isr_level) (with_isr (remove x v.isr) (mark (Vector x) v)))

-- the record after a non-delivery of what was in flight (9.7, 9.8)
unfoldable pub undelivered : Option Item → Vcpu → Vcpu
undelivered None v = forget v
undelivered (Some y) v = forget (give_back y v)

-- the record after a hand-back (5.4, 10.13, 10.14)
unfoldable pub emptied : Vcpu → Vcpu
emptied v =
    with_phase Left (with_isr_level empty (with_irr_level empty (with_isr empty (with_allowed empty (unmark_all v)))))

-- the 64 bytes that describe a record (10.4)
unfoldable pub handed : Vcpu → Bytes
handed v = handed_bytes v.irr v.irr_level v.nmi v.machine_check v.isr v.isr_level

-- the number that a hand-back gives (10.12)
unfoldable pub hand_back_result : ℕ → ℕ → Bool → Bool → ℕ
hand_back_result l tpr iF sh = l * 65536 + tpr * 256 + 2 * one sh + one iF

-- ---- whether an event is accepted
-- the lengths fit: the values are at most 256, and no more than the second list has entries (5.31, 11.21)
abbrev pub list_fits : List ℕ → List ℕ → Bool
list_fits cs q = leb (length cs) 256 && leb (length cs) (length q)

-- the refusal of a hand-back whose vCPU is not leaving: it is active still, or it has left (10.2, 11.3, 11.23)
abbrev pub hand_back_refusal : Phase → Refusal
hand_back_refusal s = cond (is_active s) StillActive HasLeft

-- for the vCPU i below n with the record v, at the count k (4.2, 5.2, 5.31, 8.2, 9.2, 10.2, 11.13 to 11.18, 11.22, 11.24)
unfoldable pub vcpu_verdict : ℕ → ℕ → Vcpu → Act Bytes → Verdict
vcpu_verdict i k v (notice p) = need (is_active v.phase) NotActive (need (long_enough p) ShortPage accept)
vcpu_verdict i k v (call op c x) = need (is_active v.phase) NotActive (call_verdict (request_of op c x) i k (forget v))
vcpu_verdict i k v (entry iF sh bl) = need (is_active v.phase) NotActive accept
vcpu_verdict i k v non_delivery = need (is_active v.phase) NotActive (need (is_in_flight v.flight) NothingInFlight accept)
vcpu_verdict i k v (hand_back p iF sh) = need (is_leaving v.phase) (hand_back_refusal v.phase) (need (long_enough p) ShortPage accept)
vcpu_verdict i k v (allow cs q) = need (is_active v.phase) NotActive (need (list_fits cs q) BadList accept)

-- the module has a vCPU of this number: what code 1 asks, by n, the VMPL and the number alone (2.15, 11.1)
abbrev pub knows : Module → ℕ → Bool
knows m i = ltb i (size m)

-- the place of its record, or code 1 (2.15, 11.1)
abbrev pub index_in : Module → ℕ → Answered ℕ
index_in m i = cond (knows m i) (Ok i) (Err UnknownVcpu)

-- the vCPU number before all else (11.1, 11.12)
unfoldable pub verdict : Module → Event → Verdict
verdict m e = need (knows m e.vcpu) UnknownVcpu (vcpu_verdict e.vcpu m.registrations (vcpu_at m e.vcpu) e.act)

-- ---- what an accepted event gives
-- its answer: a result, or, of an ICR write, the value that is sent
pub data Reply : Type 0 where
  gives : Result → Reply
  sends : ℕ → Reply

-- with its vCPU's record, the count and the page or second list after it
pub record Effect : Type 0 where
  pub reply : Reply
  pub vcpu : Vcpu
  pub registrations : ℕ
  pub page : Bytes

-- a call, by what its numbers ask for; what was in flight is forgotten first (5.3, 7.19, 7.25)
unfoldable pub call_effect : Parsed → ℕ → ℕ → Vcpu → Effect
call_effect (Ok (request.Local o)) i k v =
    record {
      reply = gives (done (serve o i k (forget v)).value);
      vcpu = (serve o i k (forget v)).vcpu;
      registrations = (serve o i k (forget v)).registrations;
      page = [];
    }
call_effect (Ok (request.Icr x)) i k v = record { reply = sends x; vcpu = with_icr x (forget v); registrations = k; page = [] }
call_effect (Err c) i k v = record { reply = gives (refused (code_of c)); vcpu = v; registrations = k; page = [] }

-- ---- a list of ECX values: call 4 with each of them, one after the other
-- call 4 with ECX c; RDX has no part in it (5.6, 5.15, 5.27)
abbrev pub single : ℕ → Act Bytes
single c = call 4 c 0

-- u where a verdict accepts, v where it refuses (11.19)
abbrev pub by_verdict : Verdict → Vcpu → Vcpu → Vcpu
by_verdict accept u v = u
by_verdict (refuse c) u v = v

-- the caller's record after one of them (5.27)
unfoldable pub single_after : ℕ → ℕ → ℕ → Vcpu → Vcpu
single_after i k c v = by_verdict (vcpu_verdict i k v (single c)) (call_effect (request_of 4 c 0) i k v).vcpu v

-- after all of them, those behind a refused one too (5.27, 5.28, 5.32)
unfoldable pub list_after : ℕ → ℕ → List ℕ → Vcpu → Vcpu
list_after i k [] v = v
list_after i k (c ∷ cs) v = list_after i k cs (single_after i k c v)

-- the code of each (5.29)
unfoldable pub list_codes : ℕ → ℕ → List ℕ → Vcpu → List ℕ
list_codes i k [] v = []
list_codes i k (c ∷ cs) v = verdict_code (vcpu_verdict i k v (single c)) ∷ list_codes i k cs (single_after i k c v)

-- ---- what each event gives
-- at the VMPL l, on the record v of the vCPU i, at the count k. An entry too first forgets what was in flight (4.29, 4.37, 5.29, 5.30, 8.3, 9.7, 10.12)
unfoldable pub effect : ℕ → ℕ → ℕ → Vcpu → Act Bytes → Effect
effect l i k v (notice p) =
    record {
      reply = gives (counted (items_new (admitted l v.allowed p) v) (items_merged (admitted l v.allowed p) v));
      vcpu = noticed (admitted l v.allowed p) v;
      registrations = k;
      page = noticed_page l p;
    }
effect l i k v (call op c x) = call_effect (request_of op c x) i k v
effect l i k v (entry iF sh bl) =
    record { reply = gives (answers (offer iF sh bl v)); vcpu = entered (offer iF sh bl v) (forget v); registrations = k; page = [] }
effect l i k v non_delivery =
    record { reply = gives (done 0); vcpu = undelivered (item_in_flight v.flight) v; registrations = k; page = [] }
effect l i k v (hand_back p iF sh) =
    record {
      reply = gives (done (hand_back_result l v.tpr iF sh));
      vcpu = emptied v;
      registrations = k;
      page = written l (handed v) p;
    }
effect l i k v (allow cs q) =
    record {
      reply = gives (coded 0 (list_codes i k cs v));
      vcpu = list_after i k cs v;
      registrations = k;
      page = list_codes i k cs v ++ drop (length cs) q;
    }

abbrev pub effect_of : Module → Event → Effect
effect_of m e = effect m.vmpl e.vcpu m.registrations (vcpu_at m e.vcpu) e.act

-- ---- the step
-- what a step gives (1.1)
pub record Out : Type 0 where
  pub result : Result
  pub after : Module
  pub page : Bytes

-- a refusal changes nothing (5.4, 11.19)
abbrev pub refusal : Refusal → Module → Bytes → Out
refusal c m p = record { result = refused (code_of c); after = m; page = p }

-- the result; of an ICR write by i the vCPUs where the item becomes pending (5.23, 7.20)
abbrev pub result_for : Reply → ℕ → Module → Result
result_for (gives r) i m = r
result_for (sends x) i m = done (new_bits (icr_item x) (icr_target x) i m)

-- the module, once i's record and the count are stored
abbrev pub deliver : Reply → ℕ → Module → Module
deliver (gives r) i m = m
deliver (sends x) i m = sent (icr_item x) (icr_target x) i m

abbrev pub store : Effect → ℕ → Module → Module
store f i m = with_registrations f.registrations (with_vcpu m i f.vcpu)

-- what an accepted event leaves (5.25, 10.15)
unfoldable pub concluded : Effect → ℕ → Module → Out
concluded f i m =
    record { result = result_for f.reply i m; after = deliver f.reply i (store f i m); page = f.page }

abbrev pub decided : Verdict → Module → Event → Out
decided accept m e = concluded (effect_of m e) e.vcpu m
decided (refuse c) m e = refusal c m (page_of e.act)

-- one event on a module value (1.1)
unfoldable pub step : Module → Event → Out
step m e = decided (verdict m e) m e

abbrev pub next : Module → Event → Module
next m e = (step m e).after

-- ---- the question
-- would an entry of the vCPU i, with IF and without shadow and NMI-blocked, present anything? It is asked of the entry itself; one that is refused
-- presents nothing (8.21 to 8.23)
unfoldable pub would_present : Module → ℕ → Bool
would_present m i = is_some (presented_by (step m (at i (entry true false false))).result)

-- ---- start
-- what start answers (3.2, 3.5)
unfoldable pub start_result : ℕ → ℕ → Result
start_result n l = cond (may_start n l) (done 0) (refused (code_of BadStart))

unfoldable pub do_start : ℕ → ℕ → Out
do_start n l = record { result = start_result n l; after = start n l; page = [] }

-- ---- what the functions answer, in these terms
abbrev pub out_of : Stepped ℕ → Bytes → Out
out_of r p = record { result = result_of r.answer; after = r.after; page = p }

abbrev pub noticed_out : Stepped Counts → Bytes → Out
noticed_out r p = record { result = admission_result r.answer; after = r.after; page = p }

abbrev pub entered_out : Stepped Presentation → Out
entered_out r = record { result = presented_result r.answer; after = r.after; page = [] }

-- of the ECX values cs, with the second list q after it
abbrev pub listed_out : Stepped ℕ → List ℕ → List ℕ → Out
listed_out r cs q = record { result = list_result r.answer (take (length cs) q); after = r.after; page = q }

-- ---- a list of events, played one after the other
-- what each event of a list gives (12.3)
unfoldable pub run : Module → List Event → List Out
run m [] = []
run m (e ∷ es) = step m e ∷ run (next m e) es

-- the final module (12.3)
unfoldable pub final : Module → List Event → Module
final m [] = m
final m (e ∷ es) = final (next m e) es
