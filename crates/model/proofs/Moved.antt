-- Where the vector that an event moves ends, what a write stores, and what is left of a page.
-- Assumes nothing.
use mathlib.Core.Path.{◌≡◌, refl, sym, ap, subst, ◌∙◌}
use mathlib.Core.Bool.{Bool, true, false, cond, not, ◌&&◌, ◌||◌, and-true}
use mathlib.Core.List.{List, []}
use Rattle.std.specs.Prelude.{unwrap_or}
use Rattle.std.specs.Prelude.{Option, None, Some}
use Prim.Native.Nat.{ℕ, ◌+◌, ◌*◌, ◌-◌, ◌/◌, ◌%◌, ◌<◌, ◌≤◌}
use native.Mathlib.Omega.{arith}
use lib.Dec.{leb, ltb, eqb}
use lib.ListN.{length, get_or}
use borrow.Author.Tests.{eq-eqb, leb-true, leb-false, ltb-true, ltb-false}
use Rattle.model.specs.declared.InFlight.TheVariants as flight
use Rattle.model.specs.declared.Item.TheVariants.{Nmi, MachineCheck, Vector}
use Rattle.model.specs.declared.Refusal.{Refusal}
use Rattle.model.specs.declared.Refusal.TheVariants.{UnknownCall, BadRegister, BadParameter}
use Rattle.model.specs.declared.Kind.{Kind}
use Rattle.model.specs.declared.Kind.TheVariants as kind
use Rattle.model.specs.declared.Local.{Local}
use Rattle.model.specs.declared.Local.TheVariants as local
use Rattle.std.specs.Prelude.{Ok, Err}
use Rattle.model.specs.Requests.{Parsed}
use Rattle.model.specs.declared.Request.TheVariants as request
use Rattle.model.specs.declared.Vcpu.{Vcpu}
use Rattle.model.specs.declared.Module.{Module}
use Rattle.model.specs.State.{size, vcpu_at}
use Rattle.model.specs.Codes.{code_of, accept, Answer, nothing, presents, window, done, answers, refused}
use Rattle.model.specs.Items.{item_in_flight, mark, unmark, unmark_all}
use Rattle.model.specs.Doorbell.{bit_of, map_bits, many_bit, announces, descriptor, clears_bit, clears, noticed_page}
use Rattle.model.specs.Registers.{class, ppr_of, ppr, kind_of, is_read, is_write, is_both, register_value, ended_at, ended, ended_level_at, ended_level}
use Rattle.model.specs.Requests.{bad, registration, read_by, write_by, write_value, nameable, permission, request_of, forget, serve, call_verdict}
use Rattle.model.specs.Ipi.{icr_legal}
use Rattle.model.specs.Events.{notice, call, entry, non_delivery, hand_back, at, Bytes, handed, offer_highest, offer_with, offer, present, entered, give_back, undelivered, emptied}
use Rattle.model.specs.Events.{vcpu_verdict, verdict, call_effect, effect, result_for, concluded, step, next}
use Rattle.model.specs.Touches.{Field, allowed, irr, isr, irr_level, isr_level, nmi, machine_check, tpr, icr, phase, flight, summary, set_in}
use Rattle.model.specs.Moves.{Served, Requeued, notice_bit, tells, Moves}
use Rattle.vector_set.specs.Bits.{bit_at}
use Rattle.vector_set.specs.Sets.{has, highest, is_vector}
use Rattle.vector_set.specs.Summaries.{in_marked}
use Rattle.vector_set.proofs.BitLaws.{bit_zero}
use Rattle.vector_set.proofs.Laws.{clash, has_collect, has_insert, has_remove, has_empty, highest_above, highest_none}
use Rattle.model.proofs.Bytes.{map_bits_length, map_bits_bit, spliced, spliced_length, spliced_before, spliced_after, written_is}
use Rattle.model.proofs.Stored.{stored_at, by_verdict_lem, known_of}
use Rattle.model.proofs.ItemLaws.{unmark_all_is}
use Rattle.model.proofs.IcrWrites.{number_of, by_answer, at_caller}
use Rattle.model.proofs.ReadBack.{handed_length}
use Rattle.model.proofs.Demand2.{vmpl_in, accepted_in}

-- ---- entries and non-deliveries
shown_in : (x : ℕ) → x < 256 → (v : Vcpu) → Served x v (entered (presents (Vector x)) (forget v))
unfolding entered present unmark
shown_in x l v = (
  has_insert x v.isr x l ∙ rw (eq-eqb x x refl),
  has_remove x v.irr_level x l ∙ rw (eq-eqb x x refl),
  has_collect (λ y. has v.isr_level y || (eqb y x && has v.irr_level x)) x l ∙ rw (eq-eqb x x refl),
)

same_answer : {a b : Answer} → answers a ≡ answers b → a ≡ b
same_answer e = cc

presented_in : (m : Module) (i : ℕ) (iF sh bl : Bool) (x : ℕ) → x < 256 → (step m (at i (entry iF sh bl))).result ≡ answers (presents (Vector x))
    → Served x (vcpu_at m i) (vcpu_at (next m (at i (entry iF sh bl))) i)
unfolding concluded effect
presented_in m i iF sh bl x l =
    let v = vcpu_at m i in
    by_verdict_lem m (at i (entry iF sh bl)) (λ o. o.result ≡ answers (presents (Vector x)) → Served x v (vcpu_at o.after i))
    (λ c h e. clash (cc))
    (λ h e. rw (stored_at m i m.registrations (entered (offer iF sh bl v) (forget v)) (known_of m i (entry iF sh bl) h).there, same_answer e)
    (shown_in x l v))

returned_in : (x : ℕ) → x < 256 → (v : Vcpu) → Requeued x v (undelivered (Some (Vector x)) v)
unfolding undelivered give_back mark
returned_in x l v = (
  has_remove x v.isr x l ∙ rw (eq-eqb x x refl),
  has_remove x v.isr_level x l ∙ rw (eq-eqb x x refl),
  has_collect (λ y. has v.irr_level y || (eqb y x && has v.isr_level x)) x l ∙ rw (eq-eqb x x refl),
)

returned : (m : Module) (i r x : ℕ) → x < 256 → (vcpu_at m i).flight ≡ flight.Vector x → (step m (at i non_delivery)).result ≡ done r
    → Requeued x (vcpu_at m i) (vcpu_at (next m (at i non_delivery)) i)
unfolding concluded effect
returned m i r x l f =
    let v = vcpu_at m i in
    by_verdict_lem m (at i non_delivery) (λ o. o.result ≡ done r → Requeued x v (vcpu_at o.after i))
    (λ c h e. clash (cc))
    (λ h e. rw (stored_at m i m.registrations (undelivered (item_in_flight v.flight) v) (known_of m i non_delivery h).there)
    (subst (λ o. Requeued x v (undelivered o v)) (sym (ap item_in_flight f)) (returned_in x l v)))

return_gives_lem : (m : Module) (i r : ℕ) → (step m (at i non_delivery)).result ≡ done r → r ≡ 0
unfolding concluded effect
return_gives_lem m i r = by_verdict_lem m (at i non_delivery) (λ o. o.result ≡ done r → r ≡ 0) (λ c h e. clash (cc)) (λ h e. number_of (sym e))

-- ---- the class of what is presented
-- a vector that an entry answers is above the PPR
above : (x : ℕ) (iF sh bl : Bool) (v : Vcpu) → offer iF sh bl v ≡ presents (Vector x) → leb (class x) (class (ppr v)) ≡ false
unfolding offer offer_with offer_highest
above x iF sh bl v = first v.machine_check
  where
    over : (a b : Bool) (y : ℕ) → leb (class y) (class (ppr v)) ≡ a → cond a nothing (cond b (presents (Vector y)) (window y)) ≡ presents (Vector x)
        → leb (class x) (class (ppr v)) ≡ false
    over true b y p e = clash (cc)
    over false true y p e = let q : y ≡ x = cc in rw q at p
    over false false y p e = clash (cc)

    high : (o : Option ℕ) → offer_highest (iF && not sh) (ppr v) o ≡ presents (Vector x) → leb (class x) (class (ppr v)) ≡ false
    high None e = clash (cc)
    high (Some y) e = over (leb (class y) (class (ppr v))) (iF && not sh) y refl e

    second : (b : Bool) → cond b (presents Nmi) (offer_highest (iF && not sh) (ppr v) (highest (in_marked v.summary v.irr))) ≡ presents (Vector x)
        → leb (class x) (class (ppr v)) ≡ false
    second true e = clash (cc)
    second false e = high (highest (in_marked v.summary v.irr)) e

    first : (b : Bool)
        → cond b (presents MachineCheck)
        (cond (v.nmi && not (sh || bl)) (presents Nmi) (offer_highest (iF && not sh) (ppr v) (highest (in_marked v.summary v.irr)))) ≡ presents (Vector x)
        → leb (class x) (class (ppr v)) ≡ false
    first true e = clash (cc)
    first false e = second (v.nmi && not (sh || bl)) e

-- the PPR is in the higher class of the TPR and what is in service
class_ppr : (t s : ℕ) → (t / 16 ≤ ppr_of t s / 16) × (s / 16 ≤ ppr_of t s / 16)
unfolding ppr_of
class_ppr t s = pick (leb (s / 16) (t / 16)) refl
  where
    pick : (b : Bool) → leb (s / 16) (t / 16) ≡ b → (t / 16 ≤ cond b t (16 * (s / 16)) / 16) × (s / 16 ≤ cond b t (16 * (s / 16)) / 16)
    pick true e = (omega arith, leb-true (s / 16) (t / 16) e)
    pick false e = let h = leb-false (s / 16) (t / 16) e in (omega (arith, h), omega arith)

by_offer : (m : Module) (i : ℕ) (iF sh bl : Bool) (x : ℕ) → (step m (at i (entry iF sh bl))).result ≡ answers (presents (Vector x))
    → offer iF sh bl (vcpu_at m i) ≡ presents (Vector x)
unfolding concluded effect
by_offer m i iF sh bl x =
    by_verdict_lem m (at i (entry iF sh bl)) (λ o. o.result ≡ answers (presents (Vector x)) → offer iF sh bl (vcpu_at m i) ≡ presents (Vector x))
    (λ c h e. clash (cc)) (λ h e. same_answer e)

above_tpr_lem : (m : Module) (i : ℕ) (iF sh bl : Bool) (x : ℕ) → (step m (at i (entry iF sh bl))).result ≡ answers (presents (Vector x))
    → (vcpu_at m i).tpr / 16 < x / 16
unfolding ppr
above_tpr_lem m i iF sh bl x e =
    let v = vcpu_at m i in
    let a = leb-false (class x) (class (ppr v)) (above x iF sh bl v (by_offer m i iF sh bl x e)) in
    let b = (class_ppr v.tpr (unwrap_or (highest v.isr) 0)).0 in
    omega (arith, a, b)

-- a member is at most the highest
below_highest : (s : List ℕ) (y : ℕ) → y < 256 → has s y ≡ true → y ≤ unwrap_or (highest s) 0
below_highest s y l h = pick (highest s) refl
  where
    pick : (o : Option ℕ) → highest s ≡ o → y ≤ unwrap_or o 0
    pick None e = let z = highest_none s e y l in clash (cc)
    pick (Some x) e = low (ltb x y) refl
      where
        low : (b : Bool) → ltb x y ≡ b → y ≤ x
        low true q = let z = highest_above s x e y l (ltb-true x y q) in clash (cc)
        low false q = ltb-false x y q

above_served_lem : (m : Module) (i : ℕ) (iF sh bl : Bool) (x y : ℕ) → (step m (at i (entry iF sh bl))).result ≡ answers (presents (Vector x)) → y < 256
    → has (vcpu_at m i).isr y ≡ true → y / 16 < x / 16
unfolding ppr
above_served_lem m i iF sh bl x y e l h =
    let v = vcpu_at m i in
    let a = leb-false (class x) (class (ppr v)) (above x iF sh bl v (by_offer m i iF sh bl x e)) in
    let b = (class_ppr v.tpr (unwrap_or (highest v.isr) 0)).1 in
    let c = below_highest v.isr y l h in
    omega (arith, a, b, c)

-- ---- a call that touches its own record alone
-- the record and the number that an accepted one gives, by its request
local_after : (m : Module) (i op c x r : ℕ) (o : Local) → request_of op c x ≡ Ok (request.Local o) → (step m (at i (call op c x))).result ≡ done r
    → (vcpu_at (next m (at i (call op c x))) i ≡ (serve o i m.registrations (forget (vcpu_at m i))).vcpu)
    × (r ≡ (serve o i m.registrations (forget (vcpu_at m i))).value)
unfolding concluded effect call_effect
local_after m i op c x r o g =
    let v = vcpu_at m i in
    let t = serve o i m.registrations (forget v) in
    by_verdict_lem m (at i (call op c x)) (λ u. u.result ≡ done r → (vcpu_at u.after i ≡ t.vcpu) × (r ≡ t.value))
    (λ c h e. clash (cc))
    (λ h e. (rw g (stored_at m i t.registrations t.vcpu (known_of m i (call op c x) h).there), number_of (sym e ∙ rw g)))

-- an accepted call asks for something
asks_none : (m : Module) (i op c x r : ℕ) (d : Refusal) {A : Type 0} → request_of op c x ≡ Err d → (step m (at i (call op c x))).result ≡ done r → A
unfolding verdict vcpu_verdict call_verdict concluded effect call_effect
asks_none m i op c x r d {A} g =
    by_verdict_lem m (at i (call op c x)) (λ u. u.result ≡ done r → A) (λ c h e. clash (cc)) (λ h e. clash (let q : refused (code_of d) ≡ done r = rw g at e in cc))

-- ---- an EOI
asks_eoi : request_of 3 0x80B 0 ≡ Ok (request.Local local.Eoi)
unfolding request_of write_value kind_of is_read is_write is_both
asks_eoi = refl

ended_some : (m : Module) (i r x : ℕ) → x < 256 → highest (vcpu_at m i).isr ≡ Some x → (step m (at i (call 3 0x80B 0))).result ≡ done r
    → (has (vcpu_at (next m (at i (call 3 0x80B 0))) i).isr x ≡ false)
    × (has (vcpu_at (next m (at i (call 3 0x80B 0))) i).isr_level x ≡ false)
    × (r ≡ cond (has (vcpu_at m i).isr_level x) x 0)
unfolding serve ended ended_at ended_level ended_level_at
ended_some m i r x l h e =
    let v = vcpu_at m i in
    let a = local_after m i 3 0x80B 0 r local.Eoi asks_eoi e in
    let b : ended (forget v) ≡ ended_at (Some x) (forget v) = ap (λ o. ended_at o (forget v)) h in (
      ap (λ (u : Vcpu). has u.isr x) (a.0 ∙ b) ∙ has_remove x v.isr x l ∙ rw (eq-eqb x x refl),
      ap (λ (u : Vcpu). has u.isr_level x) (a.0 ∙ b) ∙ has_remove x v.isr_level x l ∙ rw (eq-eqb x x refl),
      a.1 ∙ ap (λ o. ended_level_at o v.isr_level) h,
    )

ended_none_lem : (m : Module) (i r : ℕ) → highest (vcpu_at m i).isr ≡ None → (step m (at i (call 3 0x80B 0))).result ≡ done r → r ≡ 0
unfolding serve ended_level ended_level_at
ended_none_lem m i r h e = (local_after m i 3 0x80B 0 r local.Eoi asks_eoi e).1 ∙ ap (λ o. ended_level_at o (vcpu_at m i).isr_level) h

-- ---- the TPR, and reads
tpr_stored_lem : (m : Module) (i x r : ℕ) → (step m (at i (call 3 0x808 x))).result ≡ done r → (vcpu_at (next m (at i (call 3 0x808 x))) i).tpr ≡ x
unfolding request_of write_value kind_of is_read is_write is_both serve
tpr_stored_lem m i x r e = pick (leb x 255) refl
  where
    pick : (b : Bool) → leb x 255 ≡ b → (vcpu_at (next m (at i (call 3 0x808 x))) i).tpr ≡ x
    pick true q = ap (λ (u : Vcpu). u.tpr) (local_after m i 3 0x808 x r (local.SetTpr x) (rw q) e).0
    pick false q = asks_none m i 3 0x808 x r BadParameter (rw q) e

id_reads_lem : (m : Module) (i z r : ℕ) → (step m (at i (call 2 0x802 z))).result ≡ done r → r ≡ i
unfolding request_of kind_of is_read is_write is_both serve register_value
id_reads_lem m i z r e = (local_after m i 2 0x802 z r (local.Read 0x802) refl e).1

tpr_reads_lem : (m : Module) (i z r : ℕ) → (step m (at i (call 2 0x808 z))).result ≡ done r → r ≡ (vcpu_at m i).tpr
unfolding request_of kind_of is_read is_write is_both serve register_value
tpr_reads_lem m i z r e = (local_after m i 2 0x808 z r (local.Read 0x808) refl e).1

icr_reads_as_is : (m : Module) (i z r : ℕ) → (step m (at i (call 2 0x830 z))).result ≡ done r → r ≡ (vcpu_at m i).icr
unfolding request_of kind_of is_read is_write is_both serve register_value
icr_reads_as_is m i z r e = (local_after m i 2 0x830 z r (local.Read 0x830) refl e).1

-- ---- a hand-back empties every set
none_has : (x : ℕ) → has [] x ≡ false
unfolding has
none_has x = bit_zero (x % 32)

emptied_sets : (f : Field) (v : Vcpu) (x : ℕ) → x < 256 → has (set_in f (emptied v)) x ≡ false
unfolding emptied unmark_all
emptied_sets allowed v x l = has_empty x l
emptied_sets irr v x l = has_collect (λ y. not true && has v.irr y) x l
emptied_sets isr v x l = has_empty x l
emptied_sets irr_level v x l = has_empty x l
emptied_sets isr_level v x l = has_empty x l
emptied_sets nmi v x l = none_has x
emptied_sets machine_check v x l = none_has x
emptied_sets tpr v x l = none_has x
emptied_sets icr v x l = none_has x
emptied_sets phase v x l = none_has x
emptied_sets flight v x l = none_has x
emptied_sets summary v x l = none_has x

handed_back_lem : (m : Module) (i r : ℕ) (p : Bytes) (iF sh : Bool) (f : Field) (x : ℕ) → x < 256 → (step m (at i (hand_back p iF sh))).result ≡ done r
    → has (set_in f (vcpu_at (next m (at i (hand_back p iF sh))) i)) x ≡ false
unfolding concluded effect
handed_back_lem m i r p iF sh f x l =
    by_verdict_lem m (at i (hand_back p iF sh)) (λ o. o.result ≡ done r → has (set_in f (vcpu_at o.after i)) x ≡ false)
    (λ c h e. clash (cc))
    (λ h e. ap (λ (u : Vcpu). has (set_in f u) x) (stored_at m i m.registrations (emptied (vcpu_at m i)) (known_of m i (hand_back p iF sh) h).there)
    ∙ emptied_sets f (vcpu_at m i) x l)

-- ---- the ICR
icr_stored_lem : (m : Module) (i x r : ℕ) → (step m (at i (call 3 0x830 x))).result ≡ done r → (vcpu_at (next m (at i (call 3 0x830 x))) i).icr ≡ x
icr_stored_lem m i x r e = by_answer m i x r (λ _ u. (vcpu_at u i).icr ≡ x) (λ k. at_caller (λ (v : Vcpu). v.icr) m i x k.there (λ v. icr_apart v)) e
  where
    icr_apart : (v : Vcpu) → (unmark_all v).icr ≡ v.icr
    icr_apart v = ap (λ (u : Vcpu). u.icr) (unmark_all_is v)

-- ---- the page of a notice
-- what a bit that is cleared is
clears_in : (l : ℕ) (many : Bool) (k : ℕ) → notice_bit l k ≡ false → clears l many k ≡ false
unfolding clears
clears_in l many k h =
    let e : 8 * 2 + (7 + l) ≡ 23 + l = omega arith in
    let d : 8 * (64 * l) ≡ 512 * l = omega arith in
    rw (e, d) (pick (eqb k (23 + l)) (leb (512 * l) k) (leb k (512 * l + 255)) (ltb k (512 * l + 256)) refl refl h)
  where
    pick : (a b c t : Bool) → leb k (512 * l + 255) ≡ c → ltb k (512 * l + 256) ≡ t → (a || (b && c)) ≡ false
        → (a || (b && t && clears_bit many (k - 512 * l))) ≡ false
    pick true b c t p q r = clash (cc)
    pick false false c t p q r = refl
    pick false true true t p q r = clash (cc)
    pick false true false true p q r = let u = leb-false k (512 * l + 255) p in let w = ltb-true k (512 * l + 256) q in clash (omega (arith, u, w))
    pick false true false false p q r = refl

page_length : (l : ℕ) (p : Bytes) → length (noticed_page l p) ≡ length p
unfolding noticed_page
page_length l p = pick (announces l p)
  where
    pick : (b : Bool) → length (cond b (map_bits (λ k b. b && not (clears l (bit_of (descriptor l p) many_bit) k)) p) p) ≡ length p
    pick true = map_bits_length (λ k b. b && not (clears l (bit_of (descriptor l p) many_bit) k)) p
    pick false = refl

page_bit : (l : ℕ) (p : Bytes) (k : ℕ) → k < 8 * length p → (P : Bool → Type 0) → P (bit_of p k)
    → P (bit_of p k && not (clears l (bit_of (descriptor l p) many_bit) k)) → P (bit_of (noticed_page l p) k)
unfolding noticed_page
page_bit l p k h P same' cut' = pick (announces l p)
  where
    pick : (b : Bool) → P (bit_of (cond b (map_bits (λ k b. b && not (clears l (bit_of (descriptor l p) many_bit) k)) p) p) k)
    pick true = rw (map_bits_bit (λ k b. b && not (clears l (bit_of (descriptor l p) many_bit) k)) p k h) cut'
    pick false = same'

-- what is shown of the page as it was and as section 4 leaves it is shown of every notice's
by_page : (m : Module) (i : ℕ) (p : Bytes) (P : Bytes → Type 0) → P p → P (noticed_page m.vmpl p) → P (step m (at i (notice p))).page
unfolding concluded effect
by_page m i p P same' cut' = by_verdict_lem m (at i (notice p)) (λ o. P o.page) (λ c h. same') (λ h. cut')

notice_keeps_lem : (m : Module) (i : ℕ) (p : Bytes) (k : ℕ) → k < 8 * length p → notice_bit m.vmpl k ≡ false
    → bit_of (step m (at i (notice p))).page k ≡ bit_of p k
notice_keeps_lem m i p k h n =
    by_page m i p (λ q. bit_of q k ≡ bit_of p k) refl
    (page_bit m.vmpl p k h (λ b. b ≡ bit_of p k) refl (rw (clears_in m.vmpl (bit_of (descriptor m.vmpl p) many_bit) k n) (and-true (bit_of p k))))

notice_clears_lem : (m : Module) (i : ℕ) (p : Bytes) (k : ℕ) → k < 8 * length p → bit_of p k ≡ false → bit_of (step m (at i (notice p))).page k ≡ false
notice_clears_lem m i p k h z =
    by_page m i p (λ q. bit_of q k ≡ false) z (page_bit m.vmpl p k h (λ b. b ≡ false) z (rw z))

notice_quiet_lem : (m : Module) (i : ℕ) (p : Bytes) → bit_of p (23 + m.vmpl) ≡ false → (step m (at i (notice p))).page ≡ p
unfolding noticed_page announces
notice_quiet_lem m i p h = by_page m i p (λ q. q ≡ p) refl (let e : 8 * 2 + (7 + m.vmpl) ≡ 23 + m.vmpl = omega arith in rw (e, h))

-- ---- the number of a call
-- what a request gives where it tells nothing
abbrev Quiet : Parsed → Type 0
Quiet (Ok (request.Local o)) = (i k : ℕ) (v : Vcpu) → (serve o i k v).value ≡ 0
Quiet (Ok (request.Icr x)) = ⊥
Quiet (Err c) = Unit {0}

quiet_write : (c x : ℕ) → (eqb c 0x80B || eqb c 0x83F || eqb c 0x830) ≡ false → Quiet (write_value c x)
unfolding write_value serve
quiet_write c x h = pick (eqb c 0x80B) (eqb c 0x83F) (eqb c 0x808) (eqb c 0x830) (leb x 255) h
  where
    pick : (a b d e t : Bool) → (a || b || e) ≡ false
        → Quiet (cond a (cond (eqb x 0) (Ok (request.Local local.Eoi)) bad)
        (cond b (cond (is_vector x) (Ok (request.Local (local.SelfIpi x))) bad)
        (cond d (cond t (Ok (request.Local (local.SetTpr x))) bad)
        (cond e (cond (icr_legal x) (Ok (request.Icr x)) bad) (Err BadRegister)))))
    pick true b d e t h = clash (cc)
    pick false true d e t h = clash (cc)
    pick false false true e true h = λ i k v. refl
    pick false false true e false h = tt
    pick false false false true t h = clash (cc)
    pick false false false false t h = tt

quiet_kind : (κ : Kind) (c x : ℕ) → (eqb c 0x80B || eqb c 0x83F || eqb c 0x830) ≡ false → Quiet (write_by κ c x)
quiet_kind kind.None c x h = tt
quiet_kind kind.Read c x h = tt
quiet_kind kind.Write c x h = quiet_write c x h
quiet_kind kind.Both c x h = quiet_write c x h

quiet_registration : (c : ℕ) → Quiet (registration c)
unfolding registration serve
quiet_registration c = pick (eqb c 0) (eqb c 1) (eqb c 2)
  where
    pick : (a b d : Bool)
        → Quiet (cond a (Ok (request.Local local.Leave)) (cond b (Ok (request.Local local.Release)) (cond d (Ok (request.Local local.Register)) bad)))
    pick true b d = λ i k v. refl
    pick false true d = λ i k v. refl
    pick false false true = λ i k v. refl
    pick false false false = tt

quiet_permission : (c : ℕ) → Quiet (permission c)
unfolding permission serve
quiet_permission c = pick (nameable c) (bit_at c 8)
  where
    pick : (a b : Bool) → Quiet (cond a (cond b (Ok (request.Local (local.Allow (c % 256)))) (Ok (request.Local (local.Disallow (c % 256))))) bad)
    pick true true = λ i k v. refl
    pick true false = λ i k v. refl
    pick false b = tt

quiet_call : (op c x : ℕ) → tells op c ≡ false → Quiet (request_of op c x)
unfolding request_of serve
quiet_call op c x h = pick (eqb op 0) (eqb op 1) (eqb op 2) (eqb op 3) (eqb op 4) h
  where
    pick : (a b d e f : Bool) → (d || (e && (eqb c 0x80B || eqb c 0x83F || eqb c 0x830))) ≡ false
        → Quiet (cond a (Ok (request.Local local.Features))
        (cond b (registration c)
        (cond d (read_by (kind_of c) c) (cond e (write_by (kind_of c) c x) (cond f (permission c) (Err UnknownCall))))))
    pick true b d e f h = λ i k v. refl
    pick false true d e f h = quiet_registration c
    pick false false true e f h = clash (cc)
    pick false false false true f h = quiet_kind (kind_of c) c x h
    pick false false false false true h = quiet_permission c
    pick false false false false false h = tt

call_gives_lem : (m : Module) (i op c x r : ℕ) → tells op c ≡ false → (step m (at i (call op c x))).result ≡ done r → r ≡ 0
unfolding concluded effect call_effect
call_gives_lem m i op c x r t =
    by_verdict_lem m (at i (call op c x)) (λ o. o.result ≡ done r → r ≡ 0) (λ c h e. clash (cc)) (λ h e. told (request_of op c x) (quiet_call op c x t) e)
  where
    told : (q : Parsed) → Quiet q → result_for (call_effect q i m.registrations (vcpu_at m i)).reply i m ≡ done r → r ≡ 0
    told (Ok (request.Local o)) z e = number_of (sym e ∙ ap done (z i m.registrations (forget (vcpu_at m i))))
    told (Ok (request.Icr y)) z e = absurd z
    told (Err d) z e = clash (cc)

-- ---- the page of a hand-back
-- an accepted one has room for its 64 bytes
by_written : (m : Module) (i : ℕ) (p : Bytes) (iF sh : Bool) (P : Bytes → Type 0) → P p
    → (64 * m.vmpl + 64 ≤ length p → P (spliced p (64 * m.vmpl) 64 (handed (vcpu_at m i)))) → P (step m (at i (hand_back p iF sh))).page
unfolding concluded effect
by_written m i p iF sh P same' put' =
    by_verdict_lem m (at i (hand_back p iF sh)) (λ o. P o.page) (λ c h. same') (λ h. rw (written_is m.vmpl (handed (vcpu_at m i)) p) (put' (room h)))
  where
    room : verdict m (at i (hand_back p iF sh)) ≡ accept → 64 * m.vmpl + 64 ≤ length p
    room h =
        let t = accepted_in m i p iF sh h in
        let b = (vmpl_in m i (ltb-true i (size m) t.0)).1 in
        let c = leb-true 256 (length p) t.1 in
        omega (arith, b, c)

hand_back_length_lem : (m : Module) (i : ℕ) (p : Bytes) (iF sh : Bool) → length (step m (at i (hand_back p iF sh))).page ≡ length p
hand_back_length_lem m i p iF sh =
    by_written m i p iF sh (λ q. length q ≡ length p) refl
    (λ room. spliced_length p (64 * m.vmpl) 64 (handed (vcpu_at m i)) (omega (arith, room)) (handed_length (vcpu_at m i)))

hand_back_before_lem : (m : Module) (i : ℕ) (p : Bytes) (iF sh : Bool) (j : ℕ) → j < 64 * m.vmpl → get_or (step m (at i (hand_back p iF sh))).page j 0 ≡ get_or p j 0
hand_back_before_lem m i p iF sh j h =
    by_written m i p iF sh (λ q. get_or q j 0 ≡ get_or p j 0) refl
    (λ room. spliced_before p (64 * m.vmpl) 64 (handed (vcpu_at m i)) (omega (arith, room)) (handed_length (vcpu_at m i)) j h)

hand_back_behind_lem : (m : Module) (i : ℕ) (p : Bytes) (iF sh : Bool) (j : ℕ) → 64 * m.vmpl + 64 ≤ j
    → get_or (step m (at i (hand_back p iF sh))).page j 0 ≡ get_or p j 0
hand_back_behind_lem m i p iF sh j h =
    by_written m i p iF sh (λ q. get_or q j 0 ≡ get_or p j 0) refl
    (λ room. spliced_after p (64 * m.vmpl) 64 (handed (vcpu_at m i)) (omega (arith, room)) (handed_length (vcpu_at m i)) j h)

pub moves : Moves
moves =
    record {
      presented = presented_in;
      above_tpr = above_tpr_lem;
      above_served = above_served_lem;
      returned = returned;
      return_gives = return_gives_lem;
      ended = ended_some;
      ended_none = ended_none_lem;
      handed_back = handed_back_lem;
      tpr_stored = tpr_stored_lem;
      icr_stored = icr_stored_lem;
      id_reads = id_reads_lem;
      tpr_reads = tpr_reads_lem;
      icr_reads = icr_reads_as_is;
      call_gives = call_gives_lem;
      notice_quiet = notice_quiet_lem;
      notice_length = λ m i p. by_page m i p (λ q. length q ≡ length p) refl (page_length m.vmpl p);
      notice_keeps = notice_keeps_lem;
      notice_clears = notice_clears_lem;
      hand_back_length = hand_back_length_lem;
      hand_back_before = hand_back_before_lem;
      hand_back_behind = hand_back_behind_lem;
    }
