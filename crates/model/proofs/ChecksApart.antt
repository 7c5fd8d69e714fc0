-- A guest call reads no mark of a machine check, of every module value.
-- Assumes nothing.
use mathlib.Core.Path.{◌≡◌, refl, ap, ap₂, ◌∙◌}
use mathlib.Core.Bool.{Bool, true, false, cond}
use mathlib.Core.List.{List, [], ◌∷◌, map}
use Rattle.std.specs.Prelude.{Option, None, Some}
use Prim.Native.Nat.{ℕ, zero, suc, ◌+◌, ◌-◌}
use lib.Dec.{eqb}
use lib.ListN.{set, get_or-map}
use Rattle.vector_set.specs.Sets.{highest}
use Rattle.vector_set.proofs.BitLaws.{bits_ext}
use Rattle.vector_set.proofs.Laws.{clash}
use Rattle.model.specs.declared.Item.{Item}
use Rattle.model.specs.declared.Item.TheVariants.{Nmi, MachineCheck, Vector}
use Rattle.model.specs.declared.Local.{Local}
use Rattle.model.specs.declared.Local.TheVariants as local
use Rattle.std.specs.Prelude.{Ok, Err}
use Rattle.model.specs.Requests.{Parsed}
use Rattle.model.specs.declared.Request.TheVariants as request
use Rattle.model.specs.declared.Target.{Target}
use Rattle.model.specs.declared.Vcpu.{Vcpu}
use Rattle.model.specs.declared.Module.{Module}
use Rattle.model.specs.State.{bare, absent, size, vcpu_at, with_vcpu, with_registrations, with_machine_check}
use Rattle.model.specs.Codes.{Verdict, accept, refuse, done}
use Rattle.model.specs.Items.{is_machine_check, pending, mark}
use Rattle.model.specs.Registers.{ppr, tmr, register_value, ended_at, ended, ended_level}
use Rattle.model.specs.Ipi.{icr_item, icr_target, reached, reach, map_from, sent, new_bits}
use Rattle.model.specs.Requests.{request_of, forget, leave_if, Served, serve, call_verdict}
use Rattle.model.specs.Events.{call, at, Event, vcpu_verdict, verdict, Reply, gives, sends, Effect, call_effect, effect, effect_of}
use Rattle.model.specs.Events.{Out, result_for, deliver, store, concluded, decided, step, next}
use Rattle.model.specs.Demand2.{without_machine_checks}
use Rattle.model.proofs.Kept.{sent_item}

-- the record with its mark cleared
abbrev U : Vcpu → Vcpu
U v = with_machine_check false v

-- ---- a request on a record
leave_apart : (b : Bool) (v : Vcpu) → leave_if b (U v) ≡ U (leave_if b v)
leave_apart true v = refl
leave_apart false v = refl

ended_apart : (o : Option ℕ) (v : Vcpu) → ended_at o (U v) ≡ U (ended_at o v)
unfolding ended_at
ended_apart None v = refl
ended_apart (Some x) v = refl

-- what is served, with the mark cleared in the record
abbrev cleared : Served → Served
cleared s = record { verdict = s.verdict; value = s.value; vcpu = U s.vcpu; registrations = s.registrations }

abbrev with_vcpu_lem : Served → Vcpu → Served
with_vcpu_lem s w = record { verdict = s.verdict; value = s.value; vcpu = w; registrations = s.registrations }

serve_apart : (o : Local) (i k : ℕ) (v : Vcpu) → serve o i k (U v) ≡ cleared (serve o i k v)
unfolding serve ended ended_level register_value ppr tmr mark
serve_apart local.Features i k v = refl
serve_apart local.Leave i k v = ap (with_vcpu_lem (serve local.Leave i k v)) (leave_apart (eqb k 0) v)
serve_apart local.Release i k v = ap (with_vcpu_lem (serve local.Release i k v)) (leave_apart (eqb (k - 1) 0) v)
serve_apart local.Register i k v = refl
serve_apart (local.Allow x) i k v = refl
serve_apart (local.Disallow x) i k v = refl
serve_apart (local.Read r) i k v = refl
serve_apart (local.SetTpr x) i k v = refl
serve_apart local.Eoi i k v = ap (with_vcpu_lem (serve local.Eoi i k v)) (ended_apart (highest v.isr) v)
serve_apart (local.SelfIpi x) i k v = refl

verdict_apart : (r : Parsed) (i k : ℕ) (v : Vcpu) → call_verdict r i k (U v) ≡ call_verdict r i k v
unfolding call_verdict
verdict_apart (Ok (request.Local o)) i k v = ap (λ (s : Served). s.verdict) (serve_apart o i k v)
verdict_apart (Ok (request.Icr x)) i k v = refl
verdict_apart (Err c) i k v = refl

abbrev cleared_in : Effect → Effect
cleared_in f = record { reply = f.reply; vcpu = U f.vcpu; registrations = f.registrations; page = f.page }

effect_apart : (r : Parsed) (i k : ℕ) (v : Vcpu) → call_effect r i k (U v) ≡ cleared_in (call_effect r i k v)
unfolding call_effect
effect_apart (Ok (request.Local o)) i k v = rw (serve_apart o i k (forget v))
effect_apart (Ok (request.Icr x)) i k v = refl
effect_apart (Err c) i k v = refl

-- ---- the module
at_apart : (m : Module) (k : ℕ) → vcpu_at (without_machine_checks m) k ≡ U (vcpu_at m k)
unfolding vcpu_at without_machine_checks bare
at_apart m k = get_or-map (with_machine_check false) m.vcpus k absent

size_apart : (m : Module) → size (without_machine_checks m) ≡ size m
unfolding size without_machine_checks
size_apart m = refl

map_put : (l : List Vcpu) (i : ℕ) (w : Vcpu) → set (map (with_machine_check false) l) i (U w) ≡ map (with_machine_check false) (set l i w)
map_put [] i w = refl
map_put (v ∷ l) zero w = refl
map_put (v ∷ l) (suc i) w = ap (λ s. U v ∷ s) (map_put l i w)

stored_apart : (m : Module) (i k : ℕ) (w : Vcpu)
    → with_registrations k (with_vcpu (without_machine_checks m) i (U w)) ≡ without_machine_checks (with_registrations k (with_vcpu m i w))
unfolding without_machine_checks with_registrations with_vcpu
stored_apart m i k w = ap (λ (l : List Vcpu). record { n = m.n; vmpl = m.vmpl; registrations = k; vcpus = l }) (map_put m.vcpus i w)

-- ---- an IPI
reach_apart : (y : Item) → is_machine_check y ≡ false → (t : Target) (i n k : ℕ) (v : Vcpu) → reach y t i n k (U v) ≡ U (reach y t i n k v)
unfolding reach mark
reach_apart y q t i n k v = pick (reached t i n k v.phase) y q
  where
    pick : (b : Bool) (y : Item) → is_machine_check y ≡ false → cond b (mark y (U v)) (U v) ≡ U (cond b (mark y v) v)
    pick true Nmi q = refl
    pick true MachineCheck q = clash (cc)
    pick true (Vector x) q = refl
    pick false y q = refl

map_apart : (f : ℕ → Vcpu → Vcpu) → ((k : ℕ) (v : Vcpu) → f k (U v) ≡ U (f k v)) → (k : ℕ) (l : List Vcpu)
    → map_from f k (map (with_machine_check false) l) ≡ map (with_machine_check false) (map_from f k l)
unfolding map_from
map_apart f h k [] = refl
map_apart f h k (v ∷ l) = ap₂ (λ (w : Vcpu) (s : List Vcpu). w ∷ s) (h k v) (map_apart f h (suc k) l)

sent_apart : (x i : ℕ) (m : Module) → sent (icr_item x) (icr_target x) i (without_machine_checks m) ≡ without_machine_checks (sent (icr_item x) (icr_target x) i m)
unfolding sent without_machine_checks size
sent_apart x i m =
    ap (λ (l : List Vcpu). record { n = m.n; vmpl = m.vmpl; registrations = m.registrations; vcpus = l })
    (map_apart (reach (icr_item x) (icr_target x) i (size m)) (reach_apart (icr_item x) (sent_item x) (icr_target x) i (size m)) 0 m.vcpus)

pending_apart : (y : Item) → is_machine_check y ≡ false → (v : Vcpu) → pending y (U v) ≡ pending y v
pending_apart Nmi q v = refl
pending_apart MachineCheck q v = clash (cc)
pending_apart (Vector x) q v = refl

bits_apart : (x i : ℕ) (m : Module) → new_bits (icr_item x) (icr_target x) i (without_machine_checks m) ≡ new_bits (icr_item x) (icr_target x) i m
unfolding new_bits
bits_apart x i m =
    bits_ext _ _ 0 32 (λ b l. rw (size_apart m, at_apart m (0 + b), pending_apart (icr_item x) (sent_item x) (vcpu_at m (0 + b))))

-- ---- the step
result_apart : (r : Reply) (i : ℕ) (m : Module) → result_for r i (without_machine_checks m) ≡ result_for r i m
result_apart (gives a) i m = refl
result_apart (sends x) i m = ap done (bits_apart x i m)

delivered_apart : (r : Reply) (i : ℕ) (m : Module) → deliver r i (without_machine_checks m) ≡ without_machine_checks (deliver r i m)
delivered_apart (gives a) i m = refl
delivered_apart (sends x) i m = sent_apart x i m

module _ (m : Module) (i op c x : ℕ) where
  abbrev e : Event
  e = at i (call op c x)

  judged_apart : verdict (without_machine_checks m) e ≡ verdict m e
  unfolding verdict vcpu_verdict without_machine_checks
  judged_apart = rw (size_apart m, at_apart m i, verdict_apart (request_of op c x) i m.registrations (forget (vcpu_at m i)))

  done_apart : effect_of (without_machine_checks m) e ≡ cleared_in (effect_of m e)
  unfolding effect without_machine_checks
  done_apart =
      ap (call_effect (request_of op c x) i m.registrations) (at_apart m i)
      ∙ effect_apart (request_of op c x) i m.registrations (vcpu_at m i)

  pub calls_apart_lem : ((step (without_machine_checks m) e).result ≡ (step m e).result) × (next (without_machine_checks m) e ≡ without_machine_checks (next m e))
  unfolding step concluded
  calls_apart_lem =
      let s : step (without_machine_checks m) e ≡ decided (verdict m e) (without_machine_checks m) e =
      ap (λ (g : Verdict). decided g (without_machine_checks m) e) judged_apart in
      let p = pick (verdict m e) in (ap (λ (o : Out). o.result) s ∙ p.0, ap (λ (o : Out). o.after) s ∙ p.1)
    where
      pick : (g : Verdict) → ((decided g (without_machine_checks m) e).result ≡ (decided g m e).result)
          × ((decided g (without_machine_checks m) e).after ≡ without_machine_checks (decided g m e).after)
      pick (refuse r) = (refl, refl)
      pick accept =
          let f = effect_of m e in (
            ap (λ (h : Effect). result_for h.reply i (without_machine_checks m)) done_apart ∙ result_apart f.reply i m,
            ap (λ (h : Effect). deliver h.reply i (store h i (without_machine_checks m))) done_apart
                ∙ ap (deliver f.reply i) (stored_apart m i f.registrations f.vcpu) ∙ delivered_apart f.reply i (store f i m),
          )
