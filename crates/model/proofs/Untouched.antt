-- What an act leaves of the record of its vCPU and of the count: the fields and vectors that its row of the table does not name.
-- Assumes nothing.
use mathlib.Core.Path.{◌≡◌, refl, ap, ◌∙◌}
use mathlib.Core.Bool.{Bool, true, false, cond, ◌&&◌, ◌||◌, or-false}
use mathlib.Core.List.{List, [], ◌∷◌}
use Rattle.std.specs.Prelude.{Option, None, Some}
use Prim.Native.Nat.{ℕ, ◌-◌, ◌%◌, ◌<◌}
use lib.Dec.{leb, eqb}
use borrow.Author.Tests.{eqb-true}
use Rattle.model.specs.declared.Phase.TheVariants.{Left}
use Rattle.model.specs.declared.InFlight.TheVariants.{Nothing}
use Rattle.model.specs.declared.Item.{Item}
use Rattle.model.specs.declared.Item.TheVariants.{Nmi, MachineCheck, Vector}
use Rattle.model.specs.declared.Kind.{Kind}
use Rattle.model.specs.declared.Kind.TheVariants as kind
use Rattle.model.specs.declared.Refusal.{Refusal}
use Rattle.model.specs.declared.Refusal.TheVariants.{UnknownCall, BadRegister, BadParameter}
use Rattle.model.specs.declared.Local.{Local}
use Rattle.model.specs.declared.Local.TheVariants as local
use Rattle.std.specs.Prelude.{Ok, Err}
use Rattle.model.specs.Requests.{Parsed}
use Rattle.model.specs.declared.Request.TheVariants as request
use Rattle.model.specs.declared.Vcpu.{Vcpu}
use Rattle.model.specs.declared.Module.{Module}
use Rattle.model.specs.State.{vcpu}
use Rattle.model.specs.Codes.{Answer, nothing, presents, window, presented_in, presented_by}
use Rattle.model.specs.Items.{is_item, item_in_flight, mark, unmark, mark_all, unmark_all}
use Rattle.model.specs.Doorbell.{Part, is_level, in_part, admitted}
use Rattle.model.specs.Registers.{kind_of, ended_at, ended}
use Rattle.model.specs.Ipi.{icr_legal, icr_item}
use Rattle.model.specs.Requests.{bad, registration, read_by, write_by, write_value, nameable, permission, request_of, forget, leave_if, serve}
use Rattle.model.specs.Events.{Act, notice, call, entry, non_delivery, hand_back, allow, Bytes, noticed, offer, gains, present, entered, give_back, undelivered}
use Rattle.model.specs.Events.{emptied, Reply, gives, sends, Effect, call_effect, list_after, single_after, effect, result_for}
use Rattle.model.specs.Touches.{Field, allowed, irr, isr, irr_level, isr_level, nmi, machine_check, tpr, icr, phase, flight, summary, Same, set_in, listed}
use Rattle.model.specs.Touches.{Touched, only, no_vector, untouched, is_that, pending_fields, moved_fields, icr_touches, registration_touches, write_touches, call_touches}
use Rattle.model.specs.Touches.{names, act_touches}
use Rattle.vector_set.specs.Bits.{bit_at}
use Rattle.vector_set.specs.Sets.{has, insert, remove, is_vector, highest}
use Rattle.vector_set.proofs.Laws.{clash, has_collect, has_insert, has_remove}
use Rattle.model.proofs.ItemLaws.{pending_mark, pending_unmark, pending_mark_all, rest_mark_all}
use Rattle.model.proofs.ListLaws.{after_single, after_each}

-- ---- fields
-- a record with something fixed in each field of h: records that are then equal have the same in every other field
abbrev masked : (Field → Bool) → Vcpu → Vcpu
masked h v =
    vcpu (cond (h allowed) [] v.allowed) (cond (h irr) [] v.irr) (cond (h isr) [] v.isr) (cond (h irr_level) [] v.irr_level)
    (cond (h isr_level) [] v.isr_level) (cond (h nmi) false v.nmi) (cond (h machine_check) false v.machine_check) (cond (h tpr) 0 v.tpr)
    (cond (h icr) 0 v.icr) (cond (h phase) Left v.phase) (cond (h flight) Nothing v.flight) (cond (h summary) 0 v.summary)

abbrev pub AlikeBut : List Field → Vcpu → Vcpu → Type 0
AlikeBut fs u v = masked (listed fs) u ≡ masked (listed fs) v

pub same_of : (fs : List Field) (u v : Vcpu) → AlikeBut fs u v → (f : Field) → listed fs f ≡ false → Same f u v
same_of fs u v e allowed n = rw n at (ap (λ (w : Vcpu). w.allowed) e)
same_of fs u v e irr n = rw n at (ap (λ (w : Vcpu). w.irr) e)
same_of fs u v e isr n = rw n at (ap (λ (w : Vcpu). w.isr) e)
same_of fs u v e irr_level n = rw n at (ap (λ (w : Vcpu). w.irr_level) e)
same_of fs u v e isr_level n = rw n at (ap (λ (w : Vcpu). w.isr_level) e)
same_of fs u v e nmi n = rw n at (ap (λ (w : Vcpu). w.nmi) e)
same_of fs u v e machine_check n = rw n at (ap (λ (w : Vcpu). w.machine_check) e)
same_of fs u v e tpr n = rw n at (ap (λ (w : Vcpu). w.tpr) e)
same_of fs u v e icr n = rw n at (ap (λ (w : Vcpu). w.icr) e)
same_of fs u v e phase n = rw n at (ap (λ (w : Vcpu). w.phase) e)
same_of fs u v e flight n = rw n at (ap (λ (w : Vcpu). w.flight) e)
same_of fs u v e summary n = rw n at (ap (λ (w : Vcpu). w.summary) e)

-- an item becomes pending
pub alike_mark : (y : Item) (v : Vcpu) → AlikeBut (pending_fields y) (mark y v) v
unfolding mark
alike_mark Nmi v = refl
alike_mark MachineCheck v = refl
alike_mark (Vector x) v = refl

pub alike_sent : (y : Item) (v : Vcpu) → AlikeBut (flight ∷ icr ∷ pending_fields y) (mark y v) v
unfolding mark
alike_sent Nmi v = refl
alike_sent MachineCheck v = refl
alike_sent (Vector x) v = refl

alike_entered : (a : Answer) (v : Vcpu) → AlikeBut (flight ∷ moved_fields (presented_in a)) (entered a (forget v)) v
unfolding entered present unmark
alike_entered nothing v = refl
alike_entered (presents Nmi) v = refl
alike_entered (presents MachineCheck) v = refl
alike_entered (presents (Vector x)) v = refl
alike_entered (window x) v = refl

alike_undelivered : (o : Option Item) (v : Vcpu) → AlikeBut (flight ∷ moved_fields o) (undelivered o v) v
unfolding undelivered give_back mark
alike_undelivered None v = refl
alike_undelivered (Some Nmi) v = refl
alike_undelivered (Some MachineCheck) v = refl
alike_undelivered (Some (Vector x)) v = refl

alike_noticed : (a : Part) (v : Vcpu) → AlikeBut (irr ∷ irr_level ∷ nmi ∷ machine_check ∷ summary ∷ []) (noticed a v) v
unfolding noticed mark_all
alike_noticed a v = refl

alike_emptied : (v : Vcpu)
    → AlikeBut (allowed ∷ irr ∷ isr ∷ irr_level ∷ isr_level ∷ nmi ∷ machine_check ∷ phase ∷ summary ∷ []) (emptied v) v
unfolding emptied unmark_all
alike_emptied v = refl

-- ---- vectors
-- the member x is the same in every set
abbrev pub MemberKept : ℕ → Vcpu → Vcpu → Type 0
MemberKept x u v = (f : Field) → has (set_in f u) x ≡ has (set_in f v) x

-- by the five sets
kept : (x : ℕ) (u v : Vcpu) → has u.allowed x ≡ has v.allowed x → has u.irr x ≡ has v.irr x → has u.isr x ≡ has v.isr x
    → has u.irr_level x ≡ has v.irr_level x → has u.isr_level x ≡ has v.isr_level x → MemberKept x u v
kept x u v a p s pl sl allowed = a
kept x u v a p s pl sl irr = p
kept x u v a p s pl sl isr = s
kept x u v a p s pl sl irr_level = pl
kept x u v a p s pl sl isr_level = sl
kept x u v a p s pl sl nmi = refl
kept x u v a p s pl sl machine_check = refl
kept x u v a p s pl sl tpr = refl
kept x u v a p s pl sl icr = refl
kept x u v a p s pl sl phase = refl
kept x u v a p s pl sl flight = refl
kept x u v a p s pl sl summary = refl

member_forget : (x : ℕ) (v : Vcpu) → MemberKept x (forget v) v
member_forget x v f = kept x (forget v) v refl refl refl refl refl f

-- another vector that comes or goes
insert_other : (x y : ℕ) (s : List ℕ) → x < 256 → eqb x y ≡ false → has (insert y s) x ≡ has s x
insert_other x y s l n = has_insert y s x l ∙ rw n

remove_other : (x y : ℕ) (s : List ℕ) → x < 256 → eqb x y ≡ false → has (remove y s) x ≡ has s x
remove_other x y s l n = has_remove y s x l ∙ rw n

gains_other : (x y : ℕ) (s t : List ℕ) → x < 256 → eqb x y ≡ false → has (gains y s t) x ≡ has t x
gains_other x y s t l n = has_collect (λ v. has t v || (eqb v y && has s y)) x l ∙ rw n (or-false (has t x))

-- an item that is not x becomes pending, or is so no more
mark_other : (x : ℕ) → x < 256 → (y : Item) (v : Vcpu) → is_item (Vector x) (Some y) ≡ false → has (mark y v).irr x ≡ has v.irr x
mark_other x l y v n = pending_mark (Vector x) l y v ∙ rw n

unmark_other : (x : ℕ) → x < 256 → (y : Item) (v : Vcpu) → is_item (Vector x) (Some y) ≡ false → has (unmark y v).irr x ≡ has v.irr x
unmark_other x l y v n = pending_unmark (Vector x) l y v ∙ rw n

pub member_mark : (x : ℕ) → x < 256 → (y : Item) (v : Vcpu) → is_item (Vector x) (Some y) ≡ false → MemberKept x (mark y v) v
unfolding mark
member_mark x l Nmi v n f = kept x (mark Nmi v) v refl refl refl refl refl f
member_mark x l MachineCheck v n f = kept x (mark MachineCheck v) v refl refl refl refl refl f
member_mark x l (Vector y) v n f = kept x (mark (Vector y) v) v refl (mark_other x l (Vector y) v n) refl refl refl f

member_entered : (x : ℕ) → x < 256 → (a : Answer) (v : Vcpu) → is_item (Vector x) (presented_in a) ≡ false → MemberKept x (entered a (forget v)) v
unfolding entered present unmark
member_entered x l nothing v n f = member_forget x v f
member_entered x l (presents Nmi) v n f = kept x (entered (presents Nmi) (forget v)) v refl refl refl refl refl f
member_entered x l (presents MachineCheck) v n f = kept x (entered (presents MachineCheck) (forget v)) v refl refl refl refl refl f
member_entered x l (presents (Vector y)) v n f =
    kept x (entered (presents (Vector y)) (forget v)) v refl (unmark_other x l (Vector y) v n) (insert_other x y v.isr l n)
    (remove_other x y v.irr_level l n) (gains_other x y v.irr_level v.isr_level l n) f
member_entered x l (window y) v n f = member_forget x v f

member_undelivered : (x : ℕ) → x < 256 → (o : Option Item) (v : Vcpu) → is_item (Vector x) o ≡ false → MemberKept x (undelivered o v) v
unfolding undelivered give_back mark
member_undelivered x l None v n f = member_forget x v f
member_undelivered x l (Some Nmi) v n f = kept x (undelivered (Some Nmi) v) v refl refl refl refl refl f
member_undelivered x l (Some MachineCheck) v n f = kept x (undelivered (Some MachineCheck) v) v refl refl refl refl refl f
member_undelivered x l (Some (Vector y)) v n f =
    kept x (undelivered (Some (Vector y)) v) v refl (mark_other x l (Vector y) v n) (remove_other x y v.isr l n)
    (gains_other x y v.isr_level v.irr_level l n) (remove_other x y v.isr_level l n) f

-- neither of two tests that fail together holds
neither : (a b : Bool) → (a || b) ≡ false → (a ≡ false) × (b ≡ false)
neither true b e = clash (cc)
neither false b e = (refl, e)

member_noticed : (x : ℕ) → x < 256 → (a : Part) (v : Vcpu) → in_part (Vector x) a ≡ false → MemberKept x (noticed a v) v
unfolding noticed
member_noticed x l a v n f =
    kept x (noticed a v) v (ap (λ (u : Vcpu). has u.allowed x) (rest_mark_all (λ y. in_part y a) v))
    (pending_mark_all (Vector x) l (λ y. in_part y a) v ∙ rw n (or-false (has v.irr x)))
    (ap (λ (u : Vcpu). has u.isr x) (rest_mark_all (λ y. in_part y a) v))
    (has_collect (λ y. has v.irr_level y || is_level a.level y) x l
    ∙ rw (neither (has a.edge x) (is_level a.level x) n).1 (or-false (has v.irr_level x)))
    (ap (λ (u : Vcpu). has u.isr_level x) (rest_mark_all (λ y. in_part y a) v)) f

-- ---- what an act leaves
-- of an IPI the row is that of the ICR write
abbrev pub Sending : Touched → Reply → Type 0
Sending t (gives r) = Unit {0}
Sending t (sends x) = t ≡ icr_touches x

-- the effect f, on the record v at the count k, is within the row t
pub record Covers (t : Touched) (v : Vcpu) (k : ℕ) (f : Effect) : Type 0 where
  pub fields : AlikeBut t.own f.vcpu v
  pub vectors : (x : ℕ) → x < 256 → t.vectors x ≡ false → MemberKept x f.vcpu v
  pub count : t.count ≡ false → f.registrations ≡ k
  pub sending : Sending t f.reply

-- ---- guest calls
-- each request is within a row of its own
abbrev local_touches : Vcpu → Local → Touched
local_touches v local.Features = only (flight ∷ []) no_vector
local_touches v local.Leave = only (flight ∷ phase ∷ []) no_vector
local_touches v local.Release = record { own = flight ∷ phase ∷ []; others = []; count = true; vectors = no_vector }
local_touches v local.Register = record { own = flight ∷ []; others = []; count = true; vectors = no_vector }
local_touches v (local.Allow x) = only (flight ∷ allowed ∷ []) (λ y. eqb y x)
local_touches v (local.Disallow x) = only (flight ∷ allowed ∷ []) (λ y. eqb y x)
local_touches v (local.Read r) = only (flight ∷ []) no_vector
local_touches v (local.SetTpr x) = only (flight ∷ tpr ∷ []) no_vector
local_touches v local.Eoi = only (flight ∷ isr ∷ isr_level ∷ []) (λ y. is_that y (highest v.isr))
local_touches v (local.SelfIpi x) = only (flight ∷ pending_fields (Vector x)) (λ y. eqb y x)

alike_leave : (b : Bool) (v : Vcpu) → AlikeBut (flight ∷ phase ∷ []) (leave_if b (forget v)) v
alike_leave true v = refl
alike_leave false v = refl

member_leave : (x : ℕ) (b : Bool) (v : Vcpu) → MemberKept x (leave_if b (forget v)) v
member_leave x true v f = kept x (leave_if true (forget v)) v refl refl refl refl refl f
member_leave x false v f = member_forget x v f

alike_ended : (o : Option ℕ) (v : Vcpu) → AlikeBut (flight ∷ isr ∷ isr_level ∷ []) (ended_at o (forget v)) v
unfolding ended_at
alike_ended None v = refl
alike_ended (Some x) v = refl

member_ended : (x : ℕ) → x < 256 → (o : Option ℕ) (v : Vcpu) → is_that x o ≡ false → MemberKept x (ended_at o (forget v)) v
unfolding ended_at
member_ended x l None v n f = member_forget x v f
member_ended x l (Some y) v n f =
    kept x (ended_at (Some y) (forget v)) v refl refl (remove_other x y v.isr l n) refl (remove_other x y v.isr_level l n) f

-- what a request does to the record is within its row
fields_local : (o : Local) (i k : ℕ) (v : Vcpu) → AlikeBut (local_touches v o).own (serve o i k (forget v)).vcpu v
unfolding serve ended mark
fields_local local.Features i k v = refl
fields_local local.Leave i k v = alike_leave (eqb k 0) v
fields_local local.Release i k v = alike_leave (eqb (k - 1) 0) v
fields_local local.Register i k v = refl
fields_local (local.Allow x) i k v = refl
fields_local (local.Disallow x) i k v = refl
fields_local (local.Read r) i k v = refl
fields_local (local.SetTpr x) i k v = refl
fields_local local.Eoi i k v = alike_ended (highest v.isr) v
fields_local (local.SelfIpi x) i k v = refl

vectors_local : (o : Local) (i k : ℕ) (v : Vcpu) (x : ℕ) → x < 256 → (local_touches v o).vectors x ≡ false → MemberKept x (serve o i k (forget v)).vcpu v
unfolding serve ended
vectors_local local.Features i k v x l n f = member_forget x v f
vectors_local local.Leave i k v x l n f = member_leave x (eqb k 0) v f
vectors_local local.Release i k v x l n f = member_leave x (eqb (k - 1) 0) v f
vectors_local local.Register i k v x l n f = member_forget x v f
vectors_local (local.Allow y) i k v x l n f = kept x (serve (local.Allow y) i k (forget v)).vcpu v (insert_other x y v.allowed l n) refl refl refl refl f
vectors_local (local.Disallow y) i k v x l n f =
    kept x (serve (local.Disallow y) i k (forget v)).vcpu v (remove_other x y v.allowed l n) refl refl refl refl f
vectors_local (local.Read r) i k v x l n f = member_forget x v f
vectors_local (local.SetTpr y) i k v x l n f = kept x (serve (local.SetTpr y) i k (forget v)).vcpu v refl refl refl refl refl f
vectors_local local.Eoi i k v x l n f = member_ended x l (highest v.isr) v n f
vectors_local (local.SelfIpi y) i k v x l n f = member_mark x l (Vector y) (forget v) n f ∙ member_forget x v f

count_local : (o : Local) (i k : ℕ) (v : Vcpu) → (local_touches v o).count ≡ false → (serve o i k (forget v)).registrations ≡ k
unfolding serve
count_local local.Features i k v n = refl
count_local local.Leave i k v n = refl
count_local local.Release i k v n = clash (cc)
count_local local.Register i k v n = clash (cc)
count_local (local.Allow x) i k v n = refl
count_local (local.Disallow x) i k v n = refl
count_local (local.Read r) i k v n = refl
count_local (local.SetTpr x) i k v n = refl
count_local local.Eoi i k v n = refl
count_local (local.SelfIpi x) i k v n = refl

-- the call whose request is r is within the row t
abbrev Within : ℕ → ℕ → Vcpu → Touched → Parsed → Type 0
Within i k v t r = Covers t v k (call_effect r i k v)

within_local : (o : Local) (i k : ℕ) (v : Vcpu) → Within i k v (local_touches v o) (Ok (request.Local o))
unfolding call_effect
within_local o i k v =
    record { fields = fields_local o i k v; vectors = vectors_local o i k v; count = count_local o i k v; sending = tt }

within_icr : (x i k : ℕ) (v : Vcpu) → Within i k v (icr_touches x) (Ok (request.Icr x))
unfolding call_effect
within_icr x i k v =
    record {
      fields = fields_icr (icr_item x);
      vectors = λ y l n f. kept y (call_effect (Ok (request.Icr x)) i k v).vcpu v refl refl refl refl refl f;
      count = λ n. refl;
      sending = refl;
    }
  where
    fields_icr : (y : Item) → AlikeBut (flight ∷ icr ∷ pending_fields y) (call_effect (Ok (request.Icr x)) i k v).vcpu v
    fields_icr Nmi = refl
    fields_icr MachineCheck = refl
    fields_icr (Vector z) = refl

within_refused : (c : Refusal) (t : Touched) (i k : ℕ) (v : Vcpu) → Within i k v t (Err c)
unfolding call_effect
within_refused c t i k v = record { fields = refl; vectors = λ x l n f. refl; count = λ n. refl; sending = tt }

-- ---- by the numbers of the call
within_registration : (c i k : ℕ) (v : Vcpu) → Within i k v (registration_touches c) (registration c)
unfolding registration_touches registration
within_registration c i k v = pick (eqb c 0) (eqb c 1) (eqb c 2)
  where
    pick : (a b d : Bool)
        → Within i k v
        (cond a (local_touches v local.Leave) (cond b (local_touches v local.Release) (cond d (local_touches v local.Register) untouched)))
        (cond a (Ok (request.Local local.Leave)) (cond b (Ok (request.Local local.Release)) (cond d (Ok (request.Local local.Register)) bad)))
    pick true b d = within_local local.Leave i k v
    pick false true d = within_local local.Release i k v
    pick false false true = within_local local.Register i k v
    pick false false false = within_refused BadParameter _ i k v

within_value : (r x i k : ℕ) (v : Vcpu) → Within i k v (write_touches v r x) (write_value r x)
unfolding write_touches write_value
within_value r x i k v = pick (eqb r 0x80B) (eqb r 0x83F) (eqb r 0x808) (eqb r 0x830) (eqb x 0) (is_vector x) (leb x 255) (icr_legal x)
  where
    pick : (a b c d p q s t : Bool)
        → Within i k v
        (cond a (local_touches v local.Eoi) (cond b (local_touches v (local.SelfIpi x)) (cond c (local_touches v (local.SetTpr x)) (cond d (icr_touches x) untouched))))
        (cond a (cond p (Ok (request.Local local.Eoi)) bad)
        (cond b (cond q (Ok (request.Local (local.SelfIpi x))) bad)
        (cond c (cond s (Ok (request.Local (local.SetTpr x))) bad) (cond d (cond t (Ok (request.Icr x)) bad) (Err BadRegister)))))
    pick true b c d true q s t = within_local local.Eoi i k v
    pick true b c d false q s t = within_refused BadParameter _ i k v
    pick false true c d p true s t = within_local (local.SelfIpi x) i k v
    pick false true c d p false s t = within_refused BadParameter _ i k v
    pick false false true d p q true t = within_local (local.SetTpr x) i k v
    pick false false true d p q false t = within_refused BadParameter _ i k v
    pick false false false true p q s true = within_icr x i k v
    pick false false false true p q s false = within_refused BadParameter _ i k v
    pick false false false false p q s t = within_refused BadRegister _ i k v

within_write : (κ : Kind) (r x i k : ℕ) (v : Vcpu) → Within i k v (write_touches v r x) (write_by κ r x)
within_write kind.None r x i k v = within_refused BadRegister _ i k v
within_write kind.Read r x i k v = within_refused BadParameter _ i k v
within_write kind.Write r x i k v = within_value r x i k v
within_write kind.Both r x i k v = within_value r x i k v

within_read : (κ : Kind) (r i k : ℕ) (v : Vcpu) → Within i k v (only (flight ∷ []) no_vector) (read_by κ r)
within_read kind.None r i k v = within_refused BadRegister _ i k v
within_read kind.Read r i k v = within_local (local.Read r) i k v
within_read kind.Write r i k v = within_refused BadRegister _ i k v
within_read kind.Both r i k v = within_local (local.Read r) i k v

within_permission : (c i k : ℕ) (v : Vcpu) → Within i k v (only (flight ∷ allowed ∷ []) (λ y. eqb y (c % 256))) (permission c)
unfolding permission
within_permission c i k v = pick (nameable c) (bit_at c 8)
  where
    pick : (a b : Bool)
        → Within i k v (only (flight ∷ allowed ∷ []) (λ y. eqb y (c % 256)))
        (cond a (cond b (Ok (request.Local (local.Allow (c % 256)))) (Ok (request.Local (local.Disallow (c % 256))))) bad)
    pick true true = within_local (local.Allow (c % 256)) i k v
    pick true false = within_local (local.Disallow (c % 256)) i k v
    pick false b = within_refused BadParameter _ i k v

within_call : (op c x i k : ℕ) (v : Vcpu) → Within i k v (call_touches v op c x) (request_of op c x)
unfolding call_touches request_of
within_call op c x i k v = pick (eqb op 0) refl
  where
    rows : Bool → Bool → Bool → Touched
    rows a b d =
        cond a (registration_touches c)
        (cond b (write_touches v c x) (cond d (only (flight ∷ allowed ∷ []) (λ y. eqb y (c % 256)))
        (cond (eqb op 0 || eqb op 2) (only (flight ∷ []) no_vector) untouched)))

    late : (a b : Bool) → Within i k v (rows false a b) (cond a (write_by (kind_of c) c x) (cond b (permission c) (Err UnknownCall)))
    late true b = within_write (kind_of c) c x i k v
    late false true = within_permission c i k v
    late false false = within_refused UnknownCall _ i k v

    read : (b : Bool) → eqb op 2 ≡ b
        → Within i k v (rows false (eqb op 3) (eqb op 4))
        (cond b (read_by (kind_of c) c) (cond (eqb op 3) (write_by (kind_of c) c x) (cond (eqb op 4) (permission c) (Err UnknownCall))))
    read true e = rw (eqb-true op 2 e) (within_read (kind_of c) c i k v)
    read false e = late (eqb op 3) (eqb op 4)

    early : (b : Bool)
        → Within i k v (rows b (eqb op 3) (eqb op 4))
        (cond b (registration c)
        (cond (eqb op 2) (read_by (kind_of c) c)
        (cond (eqb op 3) (write_by (kind_of c) c x) (cond (eqb op 4) (permission c) (Err UnknownCall)))))
    early true = within_registration c i k v
    early false = read (eqb op 2) refl

    pick : (b : Bool) → eqb op 0 ≡ b → Within i k v (call_touches v op c x)
        (cond b (Ok (request.Local local.Features))
        (cond (eqb op 1) (registration c)
        (cond (eqb op 2) (read_by (kind_of c) c)
        (cond (eqb op 3) (write_by (kind_of c) c x) (cond (eqb op 4) (permission c) (Err UnknownCall))))))
    pick true e = rw (eqb-true op 0 e) (within_local local.Features i k v)
    pick false e = early (eqb op 1)

-- ---- a list of values
alike_list : (cs : List ℕ) (i k : ℕ) (v : Vcpu) → AlikeBut (flight ∷ allowed ∷ []) (list_after i k cs v) v
unfolding request_of
alike_list cs i k v =
    after_each (λ u. AlikeBut (flight ∷ allowed ∷ []) u v) i k (λ c u h. (within_permission c i k u).fields ∙ h) cs v refl

member_list : (x : ℕ) → x < 256 → (cs : List ℕ) (i k : ℕ) (v : Vcpu) → names cs x ≡ false → MemberKept x (list_after i k cs v) v
unfolding list_after request_of
member_list x l [] i k v n f = refl
member_list x l (c ∷ cs) i k v n f =
    let e = neither (eqb x (c % 256)) (names cs x) n in
    member_list x l cs i k (single_after i k c v) e.1 f ∙ member_one c e.0
  where
    member_one : (c : ℕ) → eqb x (c % 256) ≡ false → has (set_in f (single_after i k c v)) x ≡ has (set_in f v) x
    member_one c e = after_single c (λ u. has (set_in f u) x ≡ has (set_in f v) x) i k v ((within_permission c i k v).vectors x l e f) refl

-- ---- every act
-- what an act presents, as its answer says
abbrev told : ℕ → ℕ → ℕ → Vcpu → Act Bytes → Module → Option Item
told l i k v a m = presented_by (result_for (effect l i k v a).reply i m)

pub covers_effect : (l i k : ℕ) (v : Vcpu) (a : Act Bytes) (m : Module) → Covers (act_touches l v (told l i k v a m) a) v k (effect l i k v a)
unfolding effect act_touches
covers_effect l i k v (notice p) m =
    record {
      fields = alike_noticed (admitted l v.allowed p) v;
      vectors = λ x b n. member_noticed x b (admitted l v.allowed p) v n;
      count = λ n. refl;
      sending = tt;
    }
covers_effect l i k v (call op c x) m = within_call op c x i k v
covers_effect l i k v (entry iF sh bl) m =
    record {
      fields = alike_entered (offer iF sh bl v) v;
      vectors = λ x b n. member_entered x b (offer iF sh bl v) v n;
      count = λ n. refl;
      sending = tt;
    }
covers_effect l i k v non_delivery m =
    record {
      fields = alike_undelivered (item_in_flight v.flight) v;
      vectors = λ x b n. member_undelivered x b (item_in_flight v.flight) v n;
      count = λ n. refl;
      sending = tt;
    }
covers_effect l i k v (hand_back p iF sh) m =
    record { fields = alike_emptied v; vectors = λ x b n. clash (cc); count = λ n. refl; sending = tt }
covers_effect l i k v (allow cs q) m =
    record { fields = alike_list cs i k v; vectors = λ x b n. member_list x b cs i k v n; count = λ n. refl; sending = tt }
