-- Demand 1, proved.
-- Assumes nothing.
use mathlib.Core.Path.{◌≡◌, refl, sym, ap, ◌∙◌}
use mathlib.Core.Bool.{Bool, true, false, cond, not, ◌&&◌, ◌||◌}
use Rattle.std.specs.Prelude.{Option, None, Some}
use Prim.Native.Nat.{ℕ, ◌≤◌, ◌<◌}
use native.Mathlib.Omega.{arith}
use lib.Dec.{leb, ltb}
use lib.ListN.{length}
use borrow.Author.Tests.{lt-ltb, le-ltb, lt-leb}
use Rattle.model.specs.declared.Phase.{Phase}
use Rattle.model.specs.declared.Phase.TheVariants.{Active, Leaving, Left}
use Rattle.model.specs.declared.Refusal.TheVariants.{UnknownVcpu, ShortPage, NothingInFlight, NotActive, BadList}
use Rattle.std.specs.Prelude.{Ok, Err}
use Rattle.model.specs.Requests.{Parsed}
use Rattle.model.specs.declared.Request.TheVariants as request
use Rattle.model.specs.declared.Module.{Module}
use Rattle.model.specs.State.{is_active, is_leaving, has_left, is_in_flight, size, vcpu_at, may_start, started, stopped, start}
use Rattle.model.specs.Codes.{Verdict, accept, need, Result, done, counted, answers, coded, refused, accepted, refusal_of}
use Rattle.model.specs.Registers.{within}
use Rattle.model.specs.Requests.{request_of, forget, call_verdict}
use Rattle.model.specs.Events.{Act, notice, call, entry, non_delivery, hand_back, allow, at, Bytes, Event, page_of, list_fits}
use Rattle.model.specs.Events.{hand_back_refusal, vcpu_verdict, verdict}
use Rattle.model.specs.Events.{call_effect, effect, effect_of, concluded, Out, step, next, start_result, do_start}
use Rattle.model.specs.Causes.{first_cause, has_vcpu}
use Rattle.model.specs.Causes.{is_hand_back, causes, start_causes}
use Rattle.model.specs.Demand1.{short_code, Demand1}
use Rattle.vector_set.proofs.Laws.{clash}
use Rattle.model.proofs.Tests.{ltb_leb}
use Rattle.model.proofs.Stored.{needed, by_verdict_lem, leaving_inactive}
use Rattle.model.proofs.NumberCauses.{refusal_in, needs, numbers}

-- ---- the verdict has the code of the first cause
-- by n and L the module has the vCPUs below its size
pub has_size : (m : Module) (i : ℕ) → has_vcpu m i ≡ ltb i (size m)
unfolding size
has_size m i = pick (leb m.n 32) (leb 1 m.vmpl) (leb m.vmpl 3)
  where
    none_below : false ≡ ltb i 0
    none_below = sym (le-ltb i 0 (omega arith))

    pick : (a b c : Bool) → (a && (b && c) && ltb i m.n) ≡ ltb i (cond (a && b && c) m.n 0)
    pick true true true = refl
    pick true true false = none_below
    pick true false c = none_below
    pick false b c = none_below

-- a hand-back, by the phase: both causes, of which one can hold
by_phase : (s : Phase) (g : Verdict) (o : Option ℕ) → refusal_in g ≡ o
    → refusal_in (need (is_leaving s) (hand_back_refusal s) g) ≡ cond (is_active s) (Some 3) (cond (has_left s) (Some 7) o)
by_phase Active g o e = refl
by_phase Leaving g o e = e
by_phase Left g o e = refl

verdict_causes : (m : Module) (i : ℕ) (a : Act Bytes) → refusal_in (verdict m (at i a)) ≡ first_cause (causes m (at i a))
unfolding verdict vcpu_verdict causes first_cause
verdict_causes m i (notice p) =
    rw (has_size m i, ltb_leb (length p) 256)
    (needs (ltb i (size m)) UnknownVcpu _ _ (needs (is_active (vcpu_at m i).phase) NotActive _ _ (needs (leb 256 (length p)) ShortPage accept None refl)))
verdict_causes m i (call op c x) =
    rw (has_size m i)
    (needs (ltb i (size m)) UnknownVcpu _ _
    (needs (is_active (vcpu_at m i).phase) NotActive _ _ (numbers i (forget (vcpu_at m i)) m.registrations op c x)))
verdict_causes m i (entry iF sh bl) =
    rw (has_size m i) (needs (ltb i (size m)) UnknownVcpu _ _ (needs (is_active (vcpu_at m i).phase) NotActive accept None refl))
verdict_causes m i non_delivery =
    rw (has_size m i)
    (needs (ltb i (size m)) UnknownVcpu _ _
    (needs (is_active (vcpu_at m i).phase) NotActive _ _ (needs (is_in_flight (vcpu_at m i).flight) NothingInFlight accept None refl)))
verdict_causes m i (hand_back p iF sh) =
    rw (has_size m i, ltb_leb (length p) 256)
    (needs (ltb i (size m)) UnknownVcpu _ _ (by_phase (vcpu_at m i).phase _ _ (needs (leb 256 (length p)) ShortPage accept None refl)))
verdict_causes m i (allow cs q) =
    rw (has_size m i, ltb_leb 256 (length cs), ltb_leb (length q) (length cs))
    (needs (ltb i (size m)) UnknownVcpu _ _
    (needs (is_active (vcpu_at m i).phase) NotActive _ _
    (needs (list_fits cs q) BadList accept None refl ∙ ap (λ (b : Bool). cond b (Some 6) None) (not_both (leb (length cs) 256) (leb (length cs) (length q))))))
  where
    not_both : (a b : Bool) → not (a && b) ≡ (not a || not b)
    not_both true b = refl
    not_both false b = refl

-- ---- an accepted event refuses nothing
call_answers : (r : Parsed) (m : Module) (i : ℕ) → call_verdict r i m.registrations (forget (vcpu_at m i)) ≡ accept
    → refusal_of (concluded (call_effect r i m.registrations (vcpu_at m i)) i m).result ≡ None
unfolding call_verdict call_effect concluded
call_answers (Ok (request.Local o)) m i e = refl
call_answers (Ok (request.Icr x)) m i e = refl
call_answers (Err c) m i e = clash (cc)

pub answered : (m : Module) (i : ℕ) (a : Act Bytes) → verdict m (at i a) ≡ accept → refusal_of (concluded (effect_of m (at i a)) i m).result ≡ None
unfolding effect concluded verdict vcpu_verdict
answered m i (notice p) e = refl
answered m i (call op c x) e =
    call_answers (request_of op c x) m i (needed (is_active (vcpu_at m i).phase) NotActive _ (needed (ltb i (size m)) UnknownVcpu _ e).1).1
answered m i (entry iF sh bl) e = refl
answered m i non_delivery e = refl
answered m i (hand_back p iF sh) e = refl
answered m i (allow cs q) e = refl

result_verdict : (m : Module) (e : Event) → refusal_of (step m e).result ≡ refusal_in (verdict m e)
result_verdict m e =
    by_verdict_lem m e (λ o. refusal_of o.result ≡ refusal_in (verdict m e)) (λ c h. ap refusal_in (sym h))
    (λ h. answered m e.vcpu e.act h ∙ ap refusal_in (sym h))

pub refusals : (m : Module) (e : Event) → refusal_of (step m e).result ≡ first_cause (causes m e)
refusals m e = result_verdict m e ∙ verdict_causes m e.vcpu e.act

-- ---- a refused event
-- what is given back where the result refuses
abbrev Kept : Out → Module → Bytes → Type 0
Kept o m p = (c : ℕ) → o.result ≡ refused c → (o.after ≡ m) × (o.page ≡ p)

pub unchanged : (m : Module) (e : Event) → Kept (step m e) m (page_of e.act)
unchanged m e =
    by_verdict_lem m e (λ o. Kept o m (page_of e.act)) (λ d h c q. (refl, refl))
    (λ h c q. let z = answered m e.vcpu e.act h in clash (cc))

-- the same, by acceptance
pub refused_keeps : (m : Module) (e : Event) → accepted (step m e).result ≡ false → (next m e ≡ m) × ((step m e).page ≡ page_of e.act)
refused_keeps m e h = go (step m e).result refl h
  where
    go : (r : Result) → (step m e).result ≡ r → accepted r ≡ false → (next m e ≡ m) × ((step m e).page ≡ page_of e.act)
    go (done x) p q = clash (cc)
    go (counted a b) p q = clash (cc)
    go (answers a) p q = clash (cc)
    go (coded x ks) p q = clash (cc)
    go (refused c) p q = unchanged m e c p

-- ---- start
starts : (n l : ℕ) → refusal_of (do_start n l).result ≡ first_cause (start_causes n l)
unfolding do_start start_result start_causes first_cause
starts n l = pick (leb 1 n) (leb n 32) (leb 1 l) (leb l 3)
  where
    pick : (a b c d : Bool) → refusal_of (cond (a && b && c && d) (done 0) (refused 5)) ≡ cond (not (a && b && (c && d))) (Some 5) None
    pick true true true true = refl
    pick true true true false = refl
    pick true true false d = refl
    pick true false c d = refl
    pick false b c d = refl

unstarted : (n l c : ℕ) → (do_start n l).result ≡ refused c → (do_start n l).after ≡ stopped
unfolding do_start start_result start
unstarted n l c e = pick (may_start n l) e
  where
    pick : (b : Bool) → cond b (done 0) (refused 5) ≡ refused c → cond b (started n l) stopped ≡ stopped
    pick true h = clash (cc)
    pick false h = refl

-- ---- every event gets code 1
named : (r : Result) (c : ℕ) → refusal_of r ≡ Some c → r ≡ refused c
named (done x) c e = clash (cc)
named (counted a b) c e = clash (cc)
named (answers a) c e = clash (cc)
named (coded x ks) c e = clash (cc)
named (refused d) c e = cc

first_none : (m : Module) (e : Event) → size m ≡ 0 → first_cause (causes m e) ≡ Some 1
unfolding causes first_cause
first_none m e z = rw (has_size m e.vcpu, z, le-ltb e.vcpu 0 (omega arith))

code_1 : (m : Module) (e : Event) → size m ≡ 0 → (step m e).result ≡ refused 1
code_1 m e z = named (step m e).result 1 (refusals m e ∙ first_none m e z)

size_stopped : size stopped ≡ 0
unfolding size stopped
size_stopped = refl

size_many : (m : Module) → 32 < m.n → size m ≡ 0
unfolding size
size_many m h = rw (lt-leb m.n 32 h)

size_level : (m : Module) → within 1 3 m.vmpl ≡ false → size m ≡ 0
unfolding size
size_level m h = pick (leb m.n 32) (leb 1 m.vmpl) (leb m.vmpl 3) h
  where
    pick : (a b c : Bool) → (b && c) ≡ false → cond (a && b && c) m.n 0 ≡ 0
    pick true true true e = clash (cc)
    pick true true false e = refl
    pick true false c e = refl
    pick false b c e = refl

-- ---- by n and the phase
left_inactive : (s : Phase) → has_left s ≡ true → is_active s ≡ false
left_inactive Active e = clash (cc)
left_inactive Leaving e = refl
left_inactive Left e = refl

module _ (m : Module) where
  unknown : (e : Event) → size m ≤ e.vcpu → (step m e).result ≡ refused 1
  unfolding causes first_cause
  unknown e h = named _ 1 (refusals m e ∙ first_1)
    where
      first_1 : first_cause (causes m e) ≡ Some 1
      first_1 = rw (has_size m e.vcpu, le-ltb e.vcpu (size m) h)

  inactive : (e : Event) → e.vcpu < size m → is_active (vcpu_at m e.vcpu).phase ≡ false → is_hand_back e.act ≡ false
      → (step m e).result ≡ refused 0x80000001
  unfolding causes first_cause
  inactive e h a b = named _ 0x80000001 (refusals m e ∙ first_phase)
    where
      first_phase : first_cause (causes m e) ≡ Some 0x80000001
      first_phase = rw (has_size m e.vcpu, lt-ltb e.vcpu (size m) h, b, a)

  module _ (i : ℕ) (p : Bytes) (iF sh : Bool) (h : i < size m) where
    -- the causes of a hand-back, by its phase and page
    hand_back_causes : refusal_of (step m (at i (hand_back p iF sh))).result
        ≡ cond (is_active (vcpu_at m i).phase) (Some 3) (cond (has_left (vcpu_at m i).phase) (Some 7) (short_code (length p)))
    unfolding causes first_cause
    hand_back_causes = refusals m (at i (hand_back p iF sh)) ∙ rw (has_size m i, lt-ltb i (size m) h)

    hand_back_active : is_active (vcpu_at m i).phase ≡ true → (step m (at i (hand_back p iF sh))).result ≡ refused 3
    hand_back_active e = named _ 3 (rw e at hand_back_causes)

    hand_back_left : has_left (vcpu_at m i).phase ≡ true → (step m (at i (hand_back p iF sh))).result ≡ refused 7
    hand_back_left e = named _ 7 (rw (left_inactive (vcpu_at m i).phase e, e) at hand_back_causes)

    hand_back_leaving : is_leaving (vcpu_at m i).phase ≡ true
        → refusal_of (step m (at i (hand_back p iF sh))).result ≡ short_code (length p)
    hand_back_leaving e = let s = leaving_inactive (vcpu_at m i).phase e in rw (s.0, s.1) at hand_back_causes

pub demand1 : Demand1
unfolding stopped
demand1 =
    record {
      refusals = refusals;
      unchanged = unchanged;
      notice_kept = λ m i p c e. (unchanged m (at i (notice p)) c e).1;
      hand_back_kept = λ m i p iF sh c e. (unchanged m (at i (hand_back p iF sh)) c e).1;
      list_kept = λ m i cs q c e. (unchanged m (at i (allow cs q)) c e).1;
      starts = starts;
      unstarted = unstarted;
      none = refl;
      first = refl;
      unregistered = refl;
      ended = λ e. code_1 stopped e size_stopped;
      too_many = λ m e h. code_1 m e (size_many m h);
      no_level = λ m e h. code_1 m e (size_level m h);
      unknown = unknown;
      inactive = inactive;
      hand_back_of_active = hand_back_active;
      hand_back_of_left = hand_back_left;
      hand_back_of_leaving = hand_back_leaving;
    }
