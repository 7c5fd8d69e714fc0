-- Why an event changes nothing that its row of the table does not name.
-- Assumes nothing.
use mathlib.Core.Path.{◌≡◌, refl, ◌∙◌}
use mathlib.Core.Bool.{Bool, false}
use mathlib.Core.List.{List, [], ◌∷◌}
use Prim.Native.Nat.{ℕ, ◌<◌}
use lib.Dec.{eqb}
use lib.ListN.{length}
use Rattle.model.specs.declared.Phase.{Phase}
use Rattle.model.specs.declared.InFlight.{InFlight}
use Rattle.model.specs.declared.Vcpu.{Vcpu}
use Rattle.model.specs.declared.Module.{Module}
use Rattle.model.specs.State.{vcpu, bare, size, vcpu_at, with_vcpu, with_registrations}
use Rattle.model.specs.Codes.{presented_by}
use Rattle.model.specs.Doorbell.{bit_of, announces, no_part, admitted}
use Rattle.model.specs.Ipi.{icr_item, icr_target, sent}
use Rattle.model.specs.Events.{Event, Reply, gives, sends, Effect, effect_of, store, deliver, Out, concluded, next}
use Rattle.model.specs.Touches.{Field, allowed, irr, isr, irr_level, isr_level, nmi, machine_check, tpr, icr, phase, flight, summary, Same, set_in, listed}
use Rattle.model.specs.Touches.{Touched, icr_touches, registration_touches, write_touches, call_touches, act_touches, touches, rows, LeavesAlone}
use Rattle.vector_set.specs.Bits.{bits}
use Rattle.vector_set.specs.Sets.{has, words, collect, empty, highest_below, highest}
use Rattle.vector_set.proofs.Laws.{clash}
use Rattle.model.proofs.Stored.{on_put, stored_at, vcpu_at_count, vcpu_at_sent, by_reach, by_verdict_lem, known_of}
use Rattle.model.proofs.Stays.{n_next, vmpl_next}
use Rattle.model.proofs.Untouched.{AlikeBut, same_of, alike_mark, alike_sent, MemberKept, member_mark, Sending, Covers, covers_effect}

-- the row of an event that gave o
abbrev row : Module → Event → Out → Touched
row m e o = act_touches m.vmpl (vcpu_at m e.vcpu) (presented_by o.result) e.act

covers : (m : Module) (e : Event)
    → Covers (row m e (concluded (effect_of m e) e.vcpu m)) (vcpu_at m e.vcpu) m.registrations (effect_of m e)
unfolding concluded
covers m e = covers_effect m.vmpl e.vcpu m.registrations (vcpu_at m e.vcpu) e.act m

-- ---- what an IPI leaves, of its sender and of the others
sent_own : (t : Touched) (r : Reply) → Sending t r → (i : ℕ) (m : Module) (j : ℕ) → AlikeBut t.own (vcpu_at (deliver r i m) j) (vcpu_at m j)
sent_own t (gives r) s i m j = refl
sent_own t (sends x) s i m j =
    rw (s, vcpu_at_sent (icr_item x) (icr_target x) i m j)
    (by_reach (icr_item x) (icr_target x) i (size m) j (vcpu_at m j) (λ u. AlikeBut (icr_touches x).own u (vcpu_at m j)) (alike_sent (icr_item x) (vcpu_at m j)) refl)

sent_others : (t : Touched) (r : Reply) → Sending t r → (i : ℕ) (m : Module) (j : ℕ) → AlikeBut t.others (vcpu_at (deliver r i m) j) (vcpu_at m j)
sent_others t (gives r) s i m j = refl
sent_others t (sends x) s i m j =
    rw (s, vcpu_at_sent (icr_item x) (icr_target x) i m j)
    (by_reach (icr_item x) (icr_target x) i (size m) j (vcpu_at m j) (λ u. AlikeBut (icr_touches x).others u (vcpu_at m j)) (alike_mark (icr_item x) (vcpu_at m j)) refl)

sent_member : (t : Touched) (r : Reply) → Sending t r → (i : ℕ) (m : Module) (j x : ℕ) → x < 256 → t.vectors x ≡ false
    → MemberKept x (vcpu_at (deliver r i m) j) (vcpu_at m j)
sent_member t (gives r) s i m j x l n f = refl
sent_member t (sends y) s i m j x l n f =
    rw (vcpu_at_sent (icr_item y) (icr_target y) i m j)
    (by_reach (icr_item y) (icr_target y) i (size m) j (vcpu_at m j) (λ u. has (set_in f u) x ≡ has (set_in f (vcpu_at m j)) x)
    (member_mark x l (icr_item y) (vcpu_at m j) (rw s at n) f) refl)

pub count_delivered : (r : Reply) (i : ℕ) (m : Module) → (deliver r i m).registrations ≡ m.registrations
unfolding sent
count_delivered (gives r) i m = refl
count_delivered (sends x) i m = refl

-- ---- what the store leaves
stored_own : (m : Module) (i : ℕ) (f : Effect) → i < length m.vcpus → vcpu_at (store f i m) i ≡ f.vcpu
stored_own m i f l = stored_at m i f.registrations f.vcpu l

stored_other : (m : Module) (i : ℕ) (f : Effect) (j : ℕ) → i < length m.vcpus → eqb j i ≡ false → vcpu_at (store f i m) j ≡ vcpu_at m j
stored_other m i f j l n =
    vcpu_at_count f.registrations (with_vcpu m i f.vcpu) j ∙ on_put m i f.vcpu j l (λ _ t u v. t ≡ false → v ≡ u) (λ q. clash (cc)) (λ q. refl) n

-- ---- the claim
same_self : (f : Field) (v : Vcpu) → Same f v v
same_self f v = same_of [] v v refl f refl

own_field_lem : (m : Module) (e : Event) (f : Field) → listed (touches m e).own f ≡ false → Same f (vcpu_at (next m e) e.vcpu) (vcpu_at m e.vcpu)
unfolding concluded
own_field_lem m e f =
    by_verdict_lem m e (λ o. listed (row m e o).own f ≡ false → Same f (vcpu_at o.after e.vcpu) (vcpu_at m e.vcpu))
    (λ c p n. same_self f (vcpu_at m e.vcpu))
    (λ p n. let c = covers m e in
    let l = (known_of m e.vcpu e.act p).there in
    let t = row m e (concluded (effect_of m e) e.vcpu m) in
    same_of t.own _ _
    (sent_own t (effect_of m e).reply c.sending e.vcpu (store (effect_of m e) e.vcpu m) e.vcpu
    ∙ rw (stored_own m e.vcpu (effect_of m e) l) c.fields) f n)

other_field_lem : (m : Module) (e : Event) (j : ℕ) (f : Field) → eqb j e.vcpu ≡ false → listed (touches m e).others f ≡ false
    → Same f (vcpu_at (next m e) j) (vcpu_at m j)
unfolding concluded
other_field_lem m e j f d =
    by_verdict_lem m e (λ o. listed (row m e o).others f ≡ false → Same f (vcpu_at o.after j) (vcpu_at m j)) (λ c p n. same_self f (vcpu_at m j))
    (λ p n. let l = (known_of m e.vcpu e.act p).there in
    let t = row m e (concluded (effect_of m e) e.vcpu m) in
    let s = sent_others t (effect_of m e).reply (covers m e).sending e.vcpu (store (effect_of m e) e.vcpu m) j in
    same_of t.others _ _ (rw (stored_other m e.vcpu (effect_of m e) j l d) at s) f n)

kept_vector : (m : Module) (e : Event) (j : ℕ) (f : Field) (x : ℕ) → x < 256 → (touches m e).vectors x ≡ false
    → has (set_in f (vcpu_at (next m e) j)) x ≡ has (set_in f (vcpu_at m j)) x
unfolding concluded
kept_vector m e j f x b =
    by_verdict_lem m e (λ o. (row m e o).vectors x ≡ false → has (set_in f (vcpu_at o.after j)) x ≡ has (set_in f (vcpu_at m j)) x) (λ c p n. refl)
    (λ p n. let c = covers m e in
    let l = (known_of m e.vcpu e.act p).there in
    let t = row m e (concluded (effect_of m e) e.vcpu m) in
    sent_member t (effect_of m e).reply c.sending e.vcpu (store (effect_of m e) e.vcpu m) j x b n f
    ∙ rw (vcpu_at_count)
    (on_put m e.vcpu (effect_of m e).vcpu j l (λ _ _ u v. has (set_in f v) x ≡ has (set_in f u) x) (c.vectors x b n f) refl))

kept_count : (m : Module) (e : Event) → (touches m e).count ≡ false → (next m e).registrations ≡ m.registrations
unfolding concluded with_registrations
kept_count m e =
    by_verdict_lem m e (λ o. (row m e o).count ≡ false → o.after.registrations ≡ m.registrations) (λ c p n. refl)
    (λ p n. count_delivered (effect_of m e).reply e.vcpu (store (effect_of m e) e.vcpu m) ∙ (covers m e).count n)

-- ---- the table
tabled : rows
    ≡ (0x86A ∷ 0x400 ∷ 0x600 ∷ 0x100_0600 ∷ 0x100_0400 ∷ 0 ∷ 0x400 ∷ 0x200_0414 ∷ 0x200_0C02 ∷ 0x480 ∷ 0x280_2D02 ∷ 0x2_0520 ∷ 0 ∷ 0x200_0401 ∷ 0 ∷ 0x400
    ∷ 0x420 ∷ 0x440 ∷ 0x200_0C1E ∷ 0x420 ∷ 0x440 ∷ 0x200_0C1E ∷ 0x600_0A7F ∷ 0x200_0401 ∷ [])
unfolding rows act_touches call_touches registration_touches write_touches icr_item bare highest highest_below has admitted announces bit_of no_part empty collect words bits
tabled = refl

-- a record is its fields
by_fields : {a b c d e a' b' c' d' e' : List ℕ} {n k n' k' : Bool} {t r s t' r' s' : ℕ} {p p' : Phase} {f f' : InFlight} → a ≡ a' → b ≡ b' → c ≡ c' → d ≡ d'
    → e ≡ e' → n ≡ n' → k ≡ k' → t ≡ t' → r ≡ r' → p ≡ p' → f ≡ f' → s ≡ s' → vcpu a b c d e n k t r p f s ≡ vcpu a' b' c' d' e' n' k' t' r' p' f' s'
by_fields q1 q2 q3 q4 q5 q6 q7 q8 q9 q10 q11 q12 = rw (q1, q2, q3, q4, q5, q6, q7, q8, q9, q10, q11, q12)

whole_record : (u v : Vcpu) → ((f : Field) → Same f u v) → u ≡ v
whole_record u v h =
    by_fields (h allowed) (h irr) (h isr) (h irr_level) (h isr_level) (h nmi) (h machine_check) (h tpr) (h icr) (h phase) (h flight) (h summary)

pub leaves_alone : LeavesAlone
leaves_alone =
    record {
      table = tabled;
      whole = whole_record;
      own_field = own_field_lem;
      other_field = other_field_lem;
      vector = kept_vector;
      registrations = kept_count;
      size = n_next;
      level = vmpl_next;
    }
