-- A write to the ICR: bits 14 and 15 matter to the ICR alone, what it touches, and that a read after it gives the value.
-- Assumes nothing.
use mathlib.Core.Path.{◌≡◌, refl, sym, ap, ◌∙◌, subst}
use mathlib.Core.Bool.{Bool, true, false, cond}
use mathlib.Core.List.{List, [], ◌∷◌}
use Prim.Native.Nat.{ℕ, zero, suc, ◌<◌}
use lib.Dec.{ltb, eqb}
use lib.ListN.{length, get_or, set}
use borrow.Author.Tests.{eq-eqb}
use Rattle.vector_set.proofs.Laws.{clash}
use Rattle.model.specs.declared.Item.{Item}
use Rattle.model.specs.declared.Item.TheVariants as item
use Rattle.model.specs.declared.Target.{Target}
use Rattle.model.specs.declared.Refusal.TheVariants.{UnknownVcpu, NotActive}
use Rattle.std.specs.Prelude.{Ok}
use Rattle.model.specs.Requests.{Parsed}
use Rattle.model.specs.declared.Request.TheVariants as request
use Rattle.model.specs.declared.Vcpu.{Vcpu}
use Rattle.model.specs.declared.Module.{Module}
use Rattle.model.specs.State.{is_active, absent, size, vcpu_at, with_vcpu, with_registrations, with_icr}
use Rattle.model.specs.Codes.{Verdict, accept, refuse, need, done}
use Rattle.model.specs.Registers.{is_read, is_write, is_both, kind_of, register_value}
use Rattle.model.specs.Requests.{bad, write_value, request_of, forget, serve, call_verdict}
use Rattle.model.specs.Ipi.{icr_legal, icr_item, icr_target, reached, reach, map_from, sent, new_bits}
use Rattle.model.specs.Items.{mark, unmark_all}
use Rattle.model.specs.Events.{call, at, vcpu_verdict, verdict, Effect, call_effect, effect, effect_of, Out, refusal, concluded, decided, step, next}
use Rattle.model.specs.Demand2.{EqualBut14And15, writes_icr, with_icr_at, SameWrite}
use Rattle.model.proofs.Stored.{on_put, vcpu_at_count, vcpu_at_sent, by_reach, needed, by_verdict_lem, Known, known_of}
use Rattle.model.proofs.ItemLaws.{unmarked_mark}
use Rattle.model.proofs.IcrBits.{same_delivery_lem}

-- ---- a write
-- what an event without a page gives, by its verdict
abbrev pub over : Verdict → Effect → ℕ → Module → Out
over accept f i m = concluded f i m
over (refuse c) f i m = refusal c m []

-- what the vCPU i gets that asks for r
abbrev pub asks : Module → ℕ → Parsed → Out
asks m i r =
    over (need (ltb i (size m)) UnknownVcpu (need (is_active (vcpu_at m i).phase) NotActive (call_verdict r i m.registrations (forget (vcpu_at m i)))))
    (call_effect r i m.registrations (vcpu_at m i)) i m

pub by_request : (m : Module) (i op c x : ℕ) → step m (at i (call op c x)) ≡ asks m i (request_of op c x)
unfolding step verdict vcpu_verdict effect
by_request m i op c x = pick (verdict m (at i (call op c x)))
  where
    pick : (g : Verdict) → decided g m (at i (call op c x)) ≡ over g (call_effect (request_of op c x) i m.registrations (vcpu_at m i)) i m
    pick accept = refl
    pick (refuse r) = refl

-- what a write asks for
asked : (x : ℕ) → request_of 3 0x830 x ≡ cond (icr_legal x) (Ok (request.Icr x)) bad
unfolding request_of write_value kind_of is_read is_write is_both
asked x = refl

written : (m : Module) (i x : ℕ) → step m (writes_icr i x) ≡ asks m i (cond (icr_legal x) (Ok (request.Icr x)) bad)
written m i x = by_request m i 3 0x830 x ∙ ap (asks m i) (asked x)

-- ---- the module after it, the caller's ICR aside
-- an IPI neither reads nor writes an ICR
reach_icr : (y : Item) (t : Target) (i n k x : ℕ) (v : Vcpu) → with_icr 0 (reach y t i n k (with_icr x v)) ≡ reach y t i n k (with_icr 0 v)
unfolding reach mark
reach_icr y t i n k x v = pick (reached t i n k v.phase) y
  where
    pick : (b : Bool) (y : Item) → with_icr 0 (cond b (mark y (with_icr x v)) (with_icr x v)) ≡ cond b (mark y (with_icr 0 v)) (with_icr 0 v)
    pick true item.Nmi = refl
    pick true item.MachineCheck = refl
    pick true (item.Vector z) = refl
    pick false y = refl

-- the record i of a list that is gone through, its ICR put to 0 afterwards or before
icr_aside : (f : ℕ → Vcpu → Vcpu) → ((k x : ℕ) (v : Vcpu) → with_icr 0 (f k (with_icr x v)) ≡ f k (with_icr 0 v))
    → (l : List Vcpu) (k i x : ℕ) (w : Vcpu)
    → (let s = map_from f k (set l i (with_icr x w)) in set s i (with_icr 0 (get_or s i absent))) ≡ map_from f k (set l i (with_icr 0 w))
unfolding map_from
icr_aside f h [] k i x w = refl
icr_aside f h (v ∷ l) k zero x w = ap (λ u. u ∷ map_from f (suc k) l) (h k x w)
icr_aside f h (v ∷ l) k (suc i) x w = ap (λ s. f k v ∷ s) (icr_aside f h l (suc k) i x w)

sent_aside : (y : Item) (t : Target) (m : Module) (i k x : ℕ) (w : Vcpu)
    → with_icr_at i 0 (sent y t i (with_registrations k (with_vcpu m i (with_icr x w)))) ≡ sent y t i (with_registrations k (with_vcpu m i (with_icr 0 w)))
unfolding sent with_vcpu with_registrations vcpu_at size
sent_aside y t m i k x w =
    ap (λ (l : List Vcpu). record { n = m.n; vmpl = m.vmpl; registrations = k; vcpus = l })
    (icr_aside (reach y t i (size m)) (λ j. reach_icr y t i (size m) j) m.vcpus 0 i x w)

abbrev Same : ℕ → Out → Out → Type 0
Same i o p = (o.result ≡ p.result) × (with_icr_at i 0 o.after ≡ with_icr_at i 0 p.after)

-- what writes of x and of y give that send the same
same_asks : (m : Module) (i x y : ℕ) (b : Bool) → icr_item x ≡ icr_item y → icr_target x ≡ icr_target y
    → Same i (asks m i (cond b (Ok (request.Icr x)) bad)) (asks m i (cond b (Ok (request.Icr y)) bad))
unfolding call_verdict call_effect concluded
same_asks m i x y false p q = (refl, refl)
same_asks m i x y true p q = pick (ltb i (size m)) (is_active (vcpu_at m i).phase)
  where
    reply : ℕ → Effect
    reply z = call_effect (Ok (request.Icr z)) i m.registrations (vcpu_at m i)

    pick : (a c : Bool)
        → Same i (over (need a UnknownVcpu (need c NotActive accept)) (reply x) i m) (over (need a UnknownVcpu (need c NotActive accept)) (reply y) i m)
    pick true true = (
      rw (p, q),
      rw (p, q)
          (sent_aside (icr_item y) (icr_target y) m i m.registrations x (forget (vcpu_at m i))
          ∙ sym (sent_aside (icr_item y) (icr_target y) m i m.registrations y (forget (vcpu_at m i)))),
    )
    pick true false = (refl, refl)
    pick false c = (refl, refl)

pub same_write_lem : (m : Module) (i x y : ℕ) → EqualBut14And15 x y → SameWrite m i x y
same_write_lem m i x y e =
    let d = same_delivery_lem x y e in
    let s = same_asks m i x y (icr_legal x) d.item d.target in
    let p = written m i x in
    let q = written m i y ∙ ap (λ (b : Bool). asks m i (cond b (Ok (request.Icr y)) bad)) (sym d.legal) in
    record {
      result = ap (λ (o : Out). o.result) p ∙ s.0 ∙ sym (ap (λ (o : Out). o.result) q);
      after = ap (λ (o : Out). with_icr_at i 0 o.after) p ∙ s.1 ∙ sym (ap (λ (o : Out). with_icr_at i 0 o.after) q);
    }

-- ---- what it touches, and a read after it
reads_at : (u : Module) (i z : ℕ) → ltb i (size u) ≡ true → is_active (vcpu_at u i).phase ≡ true
    → (step u (at i (call 2 0x830 z))).result ≡ done (vcpu_at u i).icr
unfolding call_verdict serve call_effect concluded register_value request_of kind_of is_read is_write is_both
reads_at u i z a c = ap (λ (o : Out). o.result) (by_request u i 2 0x830 z) ∙ rw (a, c)

-- an accepted write sends its value
sends_value : (m : Module) (i x : ℕ) → verdict m (writes_icr i x) ≡ accept → request_of 3 0x830 x ≡ Ok (request.Icr x)
unfolding verdict vcpu_verdict call_verdict
sends_value m i x p = pick (icr_legal x) refl
  where
    pick : (b : Bool) → icr_legal x ≡ b → request_of 3 0x830 x ≡ Ok (request.Icr x)
    pick true e = asked x ∙ rw e
    pick false e =
        let g : request_of 3 0x830 x ≡ bad = asked x ∙ rw e in
        let a = needed (ltb i (size m)) UnknownVcpu _ p in
        let b = rw g at (needed (is_active (vcpu_at m i).phase) NotActive _ a.1).1 in
        clash (cc)

-- the module after it
abbrev pub written_after : Module → ℕ → ℕ → Module
written_after m i x =
    sent (icr_item x) (icr_target x) i (with_registrations m.registrations (with_vcpu m i (with_icr x (forget (vcpu_at m i)))))

after_write : (m : Module) (i x : ℕ) → request_of 3 0x830 x ≡ Ok (request.Icr x) → (concluded (effect_of m (writes_icr i x)) i m).after ≡ written_after m i x
unfolding effect call_effect concluded
after_write m i x e = rw e

size_written : (m : Module) (i x : ℕ) → size (written_after m i x) ≡ size m
unfolding sent with_vcpu with_registrations size
size_written m i x = refl

-- an IPI touches what is pending alone
unmarked_reach : (y : Item) (t : Target) (i n k : ℕ) (v : Vcpu) → unmark_all (reach y t i n k v) ≡ unmark_all v
unmarked_reach y t i n k v = by_reach y t i n k v (λ u. unmark_all u ≡ unmark_all v) (unmarked_mark y v) refl

-- the record j after it, but for what is pending
touched : (m : Module) (i x j : ℕ) → i < length m.vcpus
    → unmark_all (vcpu_at (written_after m i x) j) ≡ unmark_all (cond (eqb j i) (with_icr x (forget (vcpu_at m j))) (vcpu_at m j))
touched m i x j l =
    ap unmark_all (vcpu_at_sent (icr_item x) (icr_target x) i _ j) ∙ unmarked_reach (icr_item x) (icr_target x) i _ j _
    ∙ rw (vcpu_at_count)
    (on_put m i (with_icr x (forget (vcpu_at m i))) j l (λ _ b u v. unmark_all v ≡ unmark_all (cond b (with_icr x (forget u)) u)) refl refl)

-- a part of the caller's record after it that is not what is pending
pub at_caller : {A : Type 0} (f : Vcpu → A) (m : Module) (i x : ℕ) → i < length m.vcpus → ((v : Vcpu) → f (unmark_all v) ≡ f v)
    → f (vcpu_at (written_after m i x) i) ≡ f (with_icr x (forget (vcpu_at m i)))
at_caller f m i x l h =
    let t = rw (eq-eqb i i refl) at (touched m i x i l) in
    sym (h (vcpu_at (written_after m i x) i)) ∙ ap f t ∙ h (with_icr x (forget (vcpu_at m i)))

reads_after : (m : Module) (i x z : ℕ) → Known m i is_active → (step (written_after m i x) (at i (call 2 0x830 z))).result ≡ done x
unfolding unmark_all
reads_after m i x z k =
    reads_at (written_after m i x) i z (ap (ltb i) (size_written m i x) ∙ k.below)
    (at_caller (λ (v : Vcpu). is_active v.phase) m i x k.there (λ v. refl) ∙ k.phase)
    ∙ ap done (at_caller (λ (v : Vcpu). v.icr) m i x k.there (λ v. refl))

-- its answer
pub number_of : {a b : ℕ} → done a ≡ done b → a ≡ b
number_of q = cc

answer_of : (m : Module) (i x : ℕ) → request_of 3 0x830 x ≡ Ok (request.Icr x)
    → (concluded (effect_of m (writes_icr i x)) i m).result ≡ done (new_bits (icr_item x) (icr_target x) i m)
unfolding effect call_effect concluded
answer_of m i x g = rw g

-- what is shown of the answer of an accepted write and of the module after it
pub by_answer : (m : Module) (i x r : ℕ) (P : ℕ → Module → Type 0) → (Known m i is_active → P (new_bits (icr_item x) (icr_target x) i m) (written_after m i x))
    → (step m (writes_icr i x)).result ≡ done r → P r (next m (writes_icr i x))
by_answer m i x r P h =
    by_verdict_lem m (writes_icr i x) (λ o. o.result ≡ done r → P r o.after) (λ c p e. clash (cc))
    (λ p e. let g = sends_value m i x p in
    subst (P r) (sym (after_write m i x g))
    (subst (λ (b : ℕ). P b (written_after m i x)) (number_of (sym (answer_of m i x g) ∙ e)) (h (known_of m i (call 3 0x830 x) p))))

pub icr_reads_lem : (m : Module) (i x z r : ℕ) → (step m (writes_icr i x)).result ≡ done r
    → (step (next m (writes_icr i x)) (at i (call 2 0x830 z))).result ≡ done x
icr_reads_lem m i x z r = by_answer m i x r (λ b u. (step u (at i (call 2 0x830 z))).result ≡ done x) (reads_after m i x z)
