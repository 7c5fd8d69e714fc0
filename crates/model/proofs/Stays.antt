-- What no event changes: n and the VMPL; and what each record keeps by itself.
-- Assumes nothing.
use mathlib.Core.Path.{◌≡◌, refl, sym, subst, ◌∙◌}
use mathlib.Core.Bool.{true}
use mathlib.Core.List.{List, [], ◌∷◌}
use Prim.Native.Nat.{ℕ}
use Rattle.model.specs.declared.Vcpu.{Vcpu}
use Rattle.model.specs.declared.Module.{Module}
use Rattle.model.specs.State.{size, vcpu_at, with_vcpu, with_registrations}
use Rattle.model.specs.Items.{mark}
use Rattle.model.specs.Ipi.{icr_item, icr_target, sent}
use Rattle.model.specs.Events.{Act, Bytes, Event, Reply, gives, sends, effect, effect_of, deliver, concluded, next, final}
use Rattle.model.proofs.Stored.{on_put, by_reach, vcpu_at_count, vcpu_at_sent, by_verdict_lem, known_of, served_in}

-- ---- what stays
stays : {A : Type 0} (f : Module → A) → ((i : ℕ) (v : Vcpu) (m : Module) → f (with_vcpu m i v) ≡ f m) → ((k : ℕ) (m : Module) → f (with_registrations k m) ≡ f m)
    → ((x i : ℕ) (m : Module) → f (sent (icr_item x) (icr_target x) i m) ≡ f m) → (m : Module) (e : Event) → f (next m e) ≡ f m
unfolding concluded
stays f put count send m e =
    by_verdict_lem m e (λ o. f o.after ≡ f m) (λ c h. refl) (λ h. delivers (effect_of m e).reply (count _ _ ∙ put _ _ m))
  where
    delivers : (r : Reply) {u : Module} → f u ≡ f m → f (deliver r e.vcpu u) ≡ f m
    delivers (gives a) h = h
    delivers (sends x) h = send x e.vcpu _ ∙ h

pub vmpl_next : (m : Module) (e : Event) → (next m e).vmpl ≡ m.vmpl
unfolding with_vcpu with_registrations sent
vmpl_next m e = stays (λ m. m.vmpl) (λ i v m. refl) (λ k m. refl) (λ x i m. refl) m e

pub n_next : (m : Module) (e : Event) → (next m e).n ≡ m.n
unfolding with_vcpu with_registrations sent
n_next m e = stays (λ m. m.n) (λ i v m. refl) (λ k m. refl) (λ x i m. refl) m e

pub vmpl_final : (es : List Event) (m : Module) → (final m es).vmpl ≡ m.vmpl
unfolding final
vmpl_final [] m = refl
vmpl_final (e ∷ es) m = vmpl_final es (next m e) ∙ vmpl_next m e

-- ---- what each record keeps by itself: what an accepted act keeps of the record of its vCPU, and what an IPI keeps of those that it reaches
abbrev pub MarksKeep : (Vcpu → Type 0) → Reply → Type 0
MarksKeep P (gives r) = Unit {0}
MarksKeep P (sends x) = (v : Vcpu) → P v → P (mark (icr_item x) v)

delivery_keeps : (P : Vcpu → Type 0) (r : Reply) → MarksKeep P r → (i : ℕ) (m : Module) (j : ℕ) → P (vcpu_at m j) → P (vcpu_at (deliver r i m) j)
delivery_keeps P (gives r) s i m j h = h
delivery_keeps P (sends x) s i m j h =
    subst P (sym (vcpu_at_sent (icr_item x) (icr_target x) i m j))
    (by_reach (icr_item x) (icr_target x) i (size m) j (vcpu_at m j) P (s (vcpu_at m j) h) h)

pub record_keeps : (P : Vcpu → Type 0)
    → ((l i k : ℕ) (v : Vcpu) (a : Act Bytes) → served_in a v.phase ≡ true → P v → P (effect l i k v a).vcpu)
    → ((l i k : ℕ) (v : Vcpu) (a : Act Bytes) → MarksKeep P (effect l i k v a).reply)
    → (m : Module) (e : Event) (j : ℕ) → P (vcpu_at m j) → P (vcpu_at (next m e) j)
unfolding concluded
record_keeps P own sending m e j h =
    by_verdict_lem m e (λ o. P (vcpu_at o.after j)) (λ c q. h)
    (λ q. let k = known_of m e.vcpu e.act q in
    delivery_keeps P (effect_of m e).reply (sending m.vmpl e.vcpu m.registrations (vcpu_at m e.vcpu) e.act) e.vcpu _ j
    (rw (vcpu_at_count)
    (on_put m e.vcpu (effect_of m e).vcpu j k.there (λ _ _ u v. P u → P v)
    (own m.vmpl e.vcpu m.registrations (vcpu_at m e.vcpu) e.act k.phase) (λ g. g) h)))

-- over a list
pub list_keeps : (P : Module → Type 0) → ((m : Module) (e : Event) → P m → P (next m e)) → (es : List Event) (m : Module) → P m → P (final m es)
unfolding final
list_keeps P s [] m h = h
list_keeps P s (e ∷ es) m h = list_keeps P s es (next m e) (s m e h)
