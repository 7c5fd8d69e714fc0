-- Whom an IPI's answer names, and whom it reaches.
-- Assumes nothing.
use mathlib.Core.Path.{◌≡◌, refl, sym, ap, ◌∙◌, subst}
use mathlib.Core.Bool.{Bool, true, false, cond, not, ◌&&◌, ◌||◌}
use Prim.Native.Nat.{ℕ, ◌+◌, ◌<◌, ◌≤◌}
use native.Mathlib.Omega.{arith}
use lib.Dec.{leb, ltb, eqb}
use lib.ListN.{length}
use borrow.Author.Tests.{leb-true, ltb-true, ltb-false, lt-ltb, le-ltb, eq-eqb, ne_eqb}
use Rattle.vector_set.specs.Bits.{bit_at, bits}
use Rattle.vector_set.specs.Sets.{is_vector}
use Rattle.vector_set.proofs.BitLaws.{bits_bit, bits_lt, bit_above}
use Rattle.vector_set.proofs.Laws.{clash}
use Rattle.model.specs.declared.Item.{Item}
use Rattle.model.specs.declared.Item.TheVariants.{Nmi, MachineCheck, Vector}
use Rattle.model.specs.declared.Local.TheVariants as local
use Rattle.model.specs.declared.Refusal.TheVariants.{UnknownVcpu, NotActive}
use Rattle.std.specs.Prelude.{Ok}
use Rattle.model.specs.declared.Request.TheVariants as request
use Rattle.model.specs.declared.Target.{Target}
use Rattle.model.specs.declared.Vcpu.{Vcpu}
use Rattle.model.specs.declared.Module.{Module}
use Rattle.model.specs.State.{is_active, size, vcpu_at, with_vcpu, with_registrations, with_icr}
use Rattle.model.specs.Codes.{accept, done}
use Rattle.model.specs.Items.{InRange, same_item, pending, mark}
use Rattle.model.specs.Registers.{is_read, is_write, is_both, kind_of}
use Rattle.model.specs.Requests.{bad, write_value, request_of, forget, serve, call_verdict}
use Rattle.model.specs.Ipi.{icr_type, icr_vector, icr_item, icr_target, hits, reached, reach, new_bits}
use Rattle.model.specs.Events.{call, vcpu_verdict, verdict, call_effect, effect, effect_of, concluded, step, next}
use Rattle.model.specs.Demand2.{writes_icr, sends_self}
use Rattle.model.proofs.Stored.{on_put, get_put, vcpu_at_count, vcpu_at_sent, size_put, size_count, size_le, needed, by_verdict_lem, Known, known_of}
use Rattle.model.proofs.ItemLaws.{pending_mark}
use Rattle.model.proofs.IcrWrites.{number_of, written_after, by_answer}

-- ---- what an IPI makes pending
pub sent_in_range : (x : ℕ) → InRange (icr_item x)
unfolding icr_item
sent_in_range x = pick (eqb (icr_type x) 4)
  where
    pick : (b : Bool) → InRange (cond b Nmi (Vector (icr_vector x)))
    pick true = tt
    pick false = omega arith

same_item_lem : (y : Item) → same_item y y ≡ true
same_item_lem Nmi = refl
same_item_lem MachineCheck = refl
same_item_lem (Vector v) = eq-eqb v v refl

pending_reach : (y : Item) → InRange y → (t : Target) (i n k : ℕ) (v : Vcpu) → pending y (reach y t i n k v) ≡ (reached t i n k v.phase || pending y v)
unfolding reach
pending_reach y r t i n k v = pick (reached t i n k v.phase)
  where
    pick : (b : Bool) → pending y (cond b (mark y v) v) ≡ (b || pending y v)
    pick true = pending_mark y r y v ∙ ap (λ (b : Bool). b || pending y v) (same_item_lem y)
    pick false = refl

-- the bit of any number, also of one over 31
named_at : (y : Item) (t : Target) (i : ℕ) (m : Module) (k : ℕ)
    → bit_at (new_bits y t i m) k ≡ (reached t i (size m) k (vcpu_at m k).phase && not (pending y (vcpu_at m k)))
unfolding new_bits
named_at y t i m k = pick (ltb k 32) refl
  where
    f : ℕ → Bool
    f j = reached t i (size m) j (vcpu_at m j).phase && not (pending y (vcpu_at m j))

    pick : (b : Bool) → ltb k 32 ≡ b → bit_at (bits f 0 32) k ≡ f k
    pick true e = let z : 0 + k ≡ k = omega arith in bits_bit f 0 32 k (ltb-true k 32 e) ∙ ap f z
    pick false e =
        let l : 32 ≤ k = ltb-false k 32 e in
        bit_above 32 (bits f 0 32) k (bits_lt f 0 32) l
        ∙ sym (ap (λ (b : Bool). b && hits t i k && is_active (vcpu_at m k).phase && not (pending y (vcpu_at m k)))
        (le-ltb k (size m) (omega (arith, size_le m))))

-- ---- an ICR write
-- the record k after it, by the item y
after_at : (m : Module) (i x k : ℕ) (y : Item) → i < length m.vcpus
    → ((vcpu_at (with_registrations m.registrations (with_vcpu m i (with_icr x (forget (vcpu_at m i))))) k).phase ≡ (vcpu_at m k).phase)
    × (pending y (vcpu_at (with_registrations m.registrations (with_vcpu m i (with_icr x (forget (vcpu_at m i))))) k) ≡ pending y (vcpu_at m k))
after_at m i x k y l =
    rw (vcpu_at_count)
    (on_put m i (with_icr x (forget (vcpu_at m i))) k l (λ _ _ u v. (v.phase ≡ u.phase) × (pending y v ≡ pending y u)) (refl, refl) (refl, refl))

pending_after : (m : Module) (i x k : ℕ) → i < length m.vcpus
    → pending (icr_item x) (vcpu_at (written_after m i x) k) ≡ (reached (icr_target x) i (size m) k (vcpu_at m k).phase || pending (icr_item x) (vcpu_at m k))
pending_after m i x k l =
    let y = icr_item x in
    let s = with_registrations m.registrations (with_vcpu m i (with_icr x (forget (vcpu_at m i)))) in
    let e = after_at m i x k y l in
    ap (pending y) (vcpu_at_sent y (icr_target x) i s k) ∙ pending_reach y (sent_in_range x) (icr_target x) i (size s) k (vcpu_at s k)
    ∙ rw (size_count m.registrations (with_vcpu m i (with_icr x (forget (vcpu_at m i)))), size_put m i (with_icr x (forget (vcpu_at m i))), e.0, e.1)

pub icr_names_lem : (m : Module) (i x r k : ℕ) → (step m (writes_icr i x)).result ≡ done r
    → bit_at r k ≡ (pending (icr_item x) (vcpu_at (next m (writes_icr i x)) k) && not (pending (icr_item x) (vcpu_at m k)))
icr_names_lem m i x r k =
    by_answer m i x r (λ b u. bit_at b k ≡ (pending (icr_item x) (vcpu_at u k) && not (pending (icr_item x) (vcpu_at m k))))
    (λ s. named_at (icr_item x) (icr_target x) i m k
    ∙ pick (reached (icr_target x) i (size m) k (vcpu_at m k).phase) (pending (icr_item x) (vcpu_at m k))
    ∙ ap (λ (b : Bool). b && not (pending (icr_item x) (vcpu_at m k))) (sym (pending_after m i x k s.there)))
  where
    pick : (a b : Bool) → (a && not b) ≡ ((a || b) && not b)
    pick true b = refl
    pick false true = refl
    pick false false = refl

pub icr_reaches_lem : (m : Module) (i x r k : ℕ) → (step m (writes_icr i x)).result ≡ done r → k < size m → hits (icr_target x) i k ≡ true
    → is_active (vcpu_at m k).phase ≡ true → pending (icr_item x) (vcpu_at (next m (writes_icr i x)) k) ≡ true
icr_reaches_lem m i x r k e below hit active =
    by_answer m i x r (λ b u. pending (icr_item x) (vcpu_at u k) ≡ true) (λ s. pending_after m i x k s.there ∙ rw (lt-ltb k (size m) below, hit, active)) e

-- ---- a self-IPI
self_asked : (x : ℕ) → request_of 3 0x83F x ≡ cond (is_vector x) (Ok (request.Local (local.SelfIpi x))) bad
unfolding request_of write_value kind_of is_read is_write is_both
self_asked x = refl

-- an accepted one has a vector
self_vector : (m : Module) (i x : ℕ) → verdict m (sends_self i x) ≡ accept → is_vector x ≡ true
unfolding verdict vcpu_verdict call_verdict
self_vector m i x p = pick (is_vector x) refl
  where
    pick : (b : Bool) → is_vector x ≡ b → b ≡ true
    pick true e = refl
    pick false e =
        let g : request_of 3 0x83F x ≡ bad = self_asked x ∙ rw e in
        let a = needed (ltb i (size m)) UnknownVcpu _ p in
        let b = rw g at (needed (is_active (vcpu_at m i).phase) NotActive _ a.1).1 in
        clash (cc)

abbrev self_bits : Module → ℕ → ℕ → ℕ
self_bits m i x = bits (λ j. eqb j i && not (pending (Vector x) (vcpu_at m i))) 0 32

abbrev self_after : Module → ℕ → ℕ → Module
self_after m i x = with_registrations m.registrations (with_vcpu m i (mark (Vector x) (forget (vcpu_at m i))))

self_gives : (m : Module) (i x : ℕ) → is_vector x ≡ true
    → ((concluded (effect_of m (sends_self i x)) i m).result ≡ done (self_bits m i x)) × ((concluded (effect_of m (sends_self i x)) i m).after ≡ self_after m i x)
unfolding effect call_effect concluded serve
self_gives m i x e = let g : request_of 3 0x83F x ≡ Ok (request.Local (local.SelfIpi x)) = self_asked x ∙ rw e in (rw g, rw g)

pub vector_small : (x : ℕ) → is_vector x ≡ true → x < 256
vector_small x e = pick (leb 31 x) (leb x 255) refl e
  where
    pick : (a b : Bool) → leb x 255 ≡ b → (a && b) ≡ true → x < 256
    pick true true f h = let n = leb-true x 255 f in omega arith
    pick true false f h = clash (cc)
    pick false b f h = clash (cc)

-- the bit of any number
self_at : (m : Module) (i x k : ℕ) → i < 32 → bit_at (self_bits m i x) k ≡ (eqb k i && not (pending (Vector x) (vcpu_at m i)))
self_at m i x k l = pick (ltb k 32) refl
  where
    f : ℕ → Bool
    f j = eqb j i && not (pending (Vector x) (vcpu_at m i))

    pick : (b : Bool) → ltb k 32 ≡ b → bit_at (bits f 0 32) k ≡ f k
    pick true e = let z : 0 + k ≡ k = omega arith in bits_bit f 0 32 k (ltb-true k 32 e) ∙ ap f z
    pick false e =
        let h : 32 ≤ k = ltb-false k 32 e in
        bit_above 32 (bits f 0 32) k (bits_lt f 0 32) h
        ∙ sym (ap (λ (b : Bool). b && not (pending (Vector x) (vcpu_at m i))) (ne_eqb k i (λ (q : k ≡ i). omega arith)))

self_pending : (m : Module) (i x k : ℕ) → x < 256 → i < length m.vcpus
    → (eqb k i && not (pending (Vector x) (vcpu_at m i))) ≡ (pending (Vector x) (vcpu_at (self_after m i x) k) && not (pending (Vector x) (vcpu_at m k)))
self_pending m i x k r l =
    rw (vcpu_at_count)
    (on_put m i (mark (Vector x) (forget (vcpu_at m i))) k l
    (λ _ b u v. (b && not (pending (Vector x) (vcpu_at m i))) ≡ (pending (Vector x) v && not (pending (Vector x) u)))
    (ap (λ (b : Bool). b && not (pending (Vector x) (vcpu_at m i)))
    (sym (pending_mark (Vector x) r (Vector x) (forget (vcpu_at m i)) ∙ ap (λ (b : Bool). b || pending (Vector x) (vcpu_at m i)) (same_item_lem (Vector x)))))
    (same (pending (Vector x) (vcpu_at m k))))
  where
    same : (b : Bool) → false ≡ (b && not b)
    same true = refl
    same false = refl

-- what is shown of its answer and of the module after it
pub by_self : (m : Module) (i x r : ℕ) (P : ℕ → Module → Type 0)
    → (is_vector x ≡ true → Known m i is_active → P (self_bits m i x) (self_after m i x))
    → (step m (sends_self i x)).result ≡ done r → P r (next m (sends_self i x))
by_self m i x r P h =
    by_verdict_lem m (sends_self i x) (λ o. o.result ≡ done r → P r o.after) (λ c p e. clash (cc))
    (λ p e. let v = self_vector m i x p in
    let g = self_gives m i x v in
    subst (P r) (sym g.1) (subst (λ (b : ℕ). P b (self_after m i x)) (number_of (sym g.0 ∙ e)) (h v (known_of m i (call 3 0x83F x) p))))

pub self_names_lem : (m : Module) (i x r k : ℕ) → (step m (sends_self i x)).result ≡ done r
    → bit_at r k ≡ (pending (Vector x) (vcpu_at (next m (sends_self i x)) k) && not (pending (Vector x) (vcpu_at m k)))
self_names_lem m i x r k =
    by_self m i x r (λ b u. bit_at b k ≡ (pending (Vector x) (vcpu_at u k) && not (pending (Vector x) (vcpu_at m k))))
    (λ v s. let l : i < 32 = (let a = ltb-true i (size m) s.below in omega (arith, size_le m)) in
    self_at m i x k l ∙ self_pending m i x k (vector_small x v) s.there)

pub self_reaches_lem : (m : Module) (i x r : ℕ) → (step m (sends_self i x)).result ≡ done r → pending (Vector x) (vcpu_at (next m (sends_self i x)) i) ≡ true
self_reaches_lem m i x r =
    by_self m i x r (λ b u. pending (Vector x) (vcpu_at u i) ≡ true)
    (λ v s. rw (vcpu_at_count)
    (ap (pending (Vector x)) (get_put m i (mark (Vector x) (forget (vcpu_at m i))) s.there)
    ∙ pending_mark (Vector x) (vector_small x v) (Vector x) (forget (vcpu_at m i))
    ∙ ap (λ (b : Bool). b || pending (Vector x) (vcpu_at m i)) (same_item_lem (Vector x))))
