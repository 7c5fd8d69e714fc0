-- The events' steps of a module from what they make of one record.
-- Assumes nothing.
use mathlib.Core.Path.{◌≡◌, refl, sym, ap, ◌∙◌}
use mathlib.Core.Bool.{Bool, true, false, cond, ◌&&◌}
use mathlib.Core.List.{List, [], ◌∷◌}
use Prim.Native.Nat.{ℕ, zero, suc, ◌<◌, ◌≤◌}
use native.Mathlib.Nat.{le_of_suc-le-suc, not-suc-le-zero}
use native.Mathlib.Omega.{arith}
use lib.Dec.{leb}
use lib.ListN.{length, get_or}
use mir.Val.{Val}
use denote.Laws.{Is}
use borrow.Author.Tests.{leb-true}
use Rattle.model.specs.contracts.Module as modules
use Rattle.model.specs.declared.Vcpu.{Vcpu}
use Rattle.model.specs.declared.Module.{Module}
use Rattle.model.specs.State.{size, vcpu_at, with_vcpu, with_registrations}
use Rattle.model.specs.Codes.{Result}
use Rattle.model.specs.Items.{item_in_flight}
use Rattle.model.specs.Requests.{request_of}
use Rattle.model.specs.Events.{call, entry, non_delivery, at, offer, vcpu_verdict, Reply, gives, sends, Effect, store, concluded, Out, step}
use Rattle.vcpu.specs.Records.{VcpuOut, entry_on, non_delivery_on, call_on, send_below, delivered}
use Rattle.vcpu.proofs.Stores.{put_same, size_le}
use Rattle.vcpu.proofs.Lift.{on_record, call_step, lift_entry, lift-nonDelivery, lift_call, lift_sent}

pub below_32 : (m : Module) {i : ℕ} → i < size m → i < 32
below_32 m h = omega (arith, size_le m)

-- a module with vCPUs has a VMPL of 1 to 3
pub vmpl_in : (m : Module) (i : ℕ) → i < size m → (1 ≤ m.vmpl) × (m.vmpl ≤ 3)
unfolding size
vmpl_in m i = pick (leb m.n 32) (leb 1 m.vmpl) (leb m.vmpl 3) refl refl
  where
    pick : (a b c : Bool) → leb 1 m.vmpl ≡ b → leb m.vmpl 3 ≡ c → i < cond (a && b && c) m.n 0 → (1 ≤ m.vmpl) × (m.vmpl ≤ 3)
    pick true true true e f h = (leb-true 1 m.vmpl e, leb-true m.vmpl 3 f)
    pick true true false e f h = absurd (not-suc-le-zero h)
    pick true false c e f h = absurd (not-suc-le-zero h)
    pick false b c e f h = absurd (not-suc-le-zero h)

-- ---- a record read from the array
-- a module of a parameter (`c.well_formed`) has 32 records
pub records_32 : (m : Module) (vs : List Val) → Is modules.the_row m vs → length m.vcpus ≡ 32
records_32 m vs p = p.1.1.1.1.1.0.1.0.1

-- an element that is there does not depend on the default
get_d_any : (l : List Vcpu) (i : ℕ) (d e : Vcpu) → i < length l → get_or l i d ≡ get_or l i e
get_d_any [] i d e h = absurd (not-suc-le-zero h)
get_d_any (v ∷ l) zero d e h = refl
get_d_any (v ∷ l) (suc i) d e h = get_d_any l i d e (le_of_suc-le-suc h)

pub record_is : (m : Module) (i : ℕ) (d : Vcpu) → i < 32 → length m.vcpus ≡ 32 → get_or m.vcpus i d ≡ vcpu_at m i
unfolding vcpu_at
record_is m i d h l = get_d_any m.vcpus i d _ (omega arith)

-- ---- the events, by what they make of the record v of the vCPU i
module _ (m : Module) (i : ℕ) (h : i < size m) (v : Vcpu) (here : v ≡ vcpu_at m i) where
  pub entered : (iF sh bl : Bool) (o : VcpuOut) → o ≡ entry_on (vcpu_verdict 0 0 v (entry iF sh bl)) (offer iF sh bl v) v
      → on_record m i o [] ≡ step m (at i (entry iF sh bl))
  entered iF sh bl o e =
      ap (λ (o : VcpuOut). on_record m i o [])
      (e ∙ ap (λ (u : Vcpu). entry_on (vcpu_verdict 0 0 u (entry iF sh bl)) (offer iF sh bl u) u) here)
      ∙ sym (lift_entry m i h iF sh bl)

  pub returned : (o : VcpuOut) → o ≡ non_delivery_on (vcpu_verdict 0 0 v non_delivery) (item_in_flight v.flight) v
      → on_record m i o [] ≡ step m (at i non_delivery)
  returned o e =
      ap (λ (o : VcpuOut). on_record m i o [])
      (e ∙ ap (λ (u : Vcpu). non_delivery_on (vcpu_verdict 0 0 u non_delivery) (item_in_flight u.flight) u) here)
      ∙ sym (lift-nonDelivery m i h)

  -- a refused event leaves the module: its record stored back is the module
  pub kept : (r : Result) (q : List ℕ) → ◌≡◌ {A = Out} (record { result = r; after = m; page = q }) (on_record m i (record { result = r; vcpu = v }) q)
  kept r q =
      ap (λ (g : Module). record { result = r; after = g; page = q }) (sym (put_same m i))
      ∙ ap (λ (u : Vcpu). on_record m i (record { result = r; vcpu = u }) q) (sym here)

  -- a call that gives o, or that sends y, at the count of the module
  module _ (op c x : ℕ) (w : Vcpu) (k : ℕ) where
    abbrev Gives : Reply → Type 0
    Gives z = record { reply = z; vcpu = w; registrations = k; page = [] }
        ≡ call_on (vcpu_verdict i m.registrations v (call op c x)) (request_of op c x) i m.registrations v

    step_is : (z : Reply) → Gives z → record { reply = z; vcpu = w; registrations = k; page = [] } ≡ call_step m i h op c x
    step_is z e = e ∙ ap (λ (u : Vcpu). call_on (vcpu_verdict i m.registrations u (call op c x)) (request_of op c x) i m.registrations u) here

    -- the module once the caller's record and the count are stored
    abbrev pub stored : Module
    stored = with_registrations k (with_vcpu m i w)

    pub served_call : (o : Result) → Gives (gives o) → record { result = o; after = stored; page = [] } ≡ step m (at i (call op c x))
    unfolding concluded
    served_call o e = ap (λ (f : Effect). concluded f i m) (step_is (gives o) e) ∙ sym (lift_call m i h op c x)

    pub sent_call : length m.vcpus ≡ 32 → (y : ℕ) → Gives (sends y) → delivered (send_below i y stored (size stored)) ≡ step m (at i (call op c x))
    sent_call whole y e =
        let f = step_is (sends y) e in
        ap (λ (g : Effect). delivered (send_below i y (store g i m) (size (store g i m)))) f
        ∙ lift_sent m i h op c x (omega (arith, size_le m, whole)) y (sym (ap (λ (g : Effect). g.reply) f))
        ∙ sym (lift_call m i h op c x)
