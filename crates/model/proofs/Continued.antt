-- What holds from any module value on, proved; for what stands above the module.
-- Assumes nothing.
use mathlib.Core.Path.{◌≡◌, refl, sym, ap, subst, ◌∙◌}
use mathlib.Core.Bool.{Bool, true, false, cond, not, ◌&&◌, ◌||◌}
use mathlib.Core.List.{List, [], ◌∷◌, ◌++◌}
use Rattle.std.specs.Prelude.{unwrap_or}
use Rattle.std.specs.Prelude.{Option, None, Some}
use Prim.Native.Nat.{ℕ, zero, suc, ◌+◌, ◌*◌, ◌≤◌}
use native.Mathlib.Omega.{arith}
use lib.Dec.{leb, eqb}
use lib.ListN.{length, get_or, set, take, drop}
use lib.Seq.{length-take-le, take_at, drop_at}
use borrow.Author.Tests.{eqb-true, leb-true, ltb-true}
use Rattle.model.specs.declared.Kind.{Kind}
use Rattle.model.specs.declared.Kind.TheVariants as kind
use Rattle.model.specs.declared.Refusal.TheVariants.{UnknownVcpu, NotActive, NotRegistered}
use Rattle.model.specs.declared.Local.{Local}
use Rattle.model.specs.declared.Local.TheVariants as local
use Rattle.std.specs.Prelude.{Ok, Err}
use Rattle.model.specs.Requests.{Parsed}
use Rattle.model.specs.declared.Request.TheVariants as request
use Rattle.model.specs.declared.Vcpu.{Vcpu}
use Rattle.model.specs.declared.Module.{Module}
use Rattle.model.specs.State.{is_active, absent, size, vcpu_at, may_start, started, stopped, start, with_vcpu, with_registrations, with_flight}
use Rattle.model.specs.Codes.{Verdict, accept, refuse, Result, done, counted, answers, coded, refused, accepted, refusal_of, code_in, presented_by}
use Rattle.model.specs.Doorbell.{written}
use Rattle.model.specs.Registers.{kind_of}
use Rattle.model.specs.Requests.{read_by, request_of, forget, serve, call_verdict}
use Rattle.model.specs.Events.{Act, notice, call, entry, non_delivery, hand_back, allow, at, Bytes, Event, knows, vcpu_verdict, verdict}
use Rattle.model.specs.Events.{handed, call_effect, effect, effect_of, store, Out, concluded, decided, step, next, final}
use Rattle.model.specs.Causes.{Cause, cause, first_cause, call_causes, number_causes, causes}
use Rattle.model.specs.Continued.{only_reads, put_back, bytes_at, Continued}
use Rattle.vector_set.proofs.Laws.{clash}
use Rattle.model.proofs.Bytes.{written_is}
use Rattle.model.proofs.Stored.{needed, by_verdict_lem, put_same, count_same}
use Rattle.model.proofs.Stays.{n_next, vmpl_next, vmpl_final, list_keeps}
use Rattle.model.proofs.Kept.{keeps_beyond_lem}
use Rattle.model.proofs.Summarised.{final_summed}
use Rattle.model.proofs.ReadBack.{handed_length}
use Rattle.model.proofs.Demand1.{has_size, refusals}
use Rattle.model.proofs.Demand2.{vmpl_in, accepted_in, reads_back, sound_final}
use Rattle.model.proofs.LeftAlone.{count_delivered}

-- ---- codes
-- t holds of each code of a list of causes
abbrev codes_are : (ℕ → Bool) → List Cause → Bool
codes_are t [] = true
codes_are t (cause c b ∷ cs) = t c && codes_are t cs

-- and of the code of the first that holds
abbrev IsCode : (ℕ → Bool) → Option ℕ → Type 0
IsCode t None = Unit {0}
IsCode t (Some c) = t c ≡ true

first_code : (t : ℕ → Bool) (cs : List Cause) → codes_are t cs ≡ true → IsCode t (first_cause cs)
unfolding first_cause
first_code t [] h = tt
first_code t (cause c b ∷ cs) h = pick b (t c) refl h (first_code t cs)
  where
    pick : (a d : Bool) → t c ≡ d → (d && codes_are t cs) ≡ true → (codes_are t cs ≡ true → IsCode t (first_cause cs))
        → IsCode t (cond a (Some c) (first_cause cs))
    pick true true e q r = e
    pick false true e q r = r q
    pick a false e q r = clash (cc)

-- behind the first cause no code is 1, and none is 0
late_codes : (k : ℕ) (a : Act Bytes) → codes_are (λ c. not (eqb c 1) && not (eqb c 0)) (number_causes k a) ≡ true
unfolding call_causes
late_codes k (notice p) = refl
late_codes k (call op c x) = refl
late_codes k (entry iF sh bl) = refl
late_codes k non_delivery = refl
late_codes k (hand_back p iF sh) = refl
late_codes k (allow cs q) = refl

-- a code that is neither 1 nor 0
abbrev Neither : Option ℕ → Type 0
Neither o = (eqb (unwrap_or o 0) 1 ≡ false) × ((c : ℕ) → o ≡ Some c → eqb c 0 ≡ false)

neither_of : (o : Option ℕ) → IsCode (λ c. not (eqb c 1) && not (eqb c 0)) o → Neither o
neither_of None h = (refl, λ c e. clash (cc))
neither_of (Some d) h = pick (eqb d 1) (eqb d 0) refl refl h
  where
    pick : (a b : Bool) → eqb d 1 ≡ a → eqb d 0 ≡ b → (not a && not b) ≡ true → Neither (Some d)
    pick true b p q r = clash (cc)
    pick false true p q r = clash (cc)
    pick false false p q r = (p, λ c e. let f : d ≡ c = cc in rw f at q)

-- the causes behind the first
abbrev later : List Cause → List Cause
later [] = []
later (c ∷ cs) = cs

-- the code of an event: 1 where the vCPU is unknown, and else neither 1 nor 0
code_is : (m : Module) (e : Event) (P : Option ℕ → Bool → Type 0) → P (Some 1) false → ((o : Option ℕ) → Neither o → P o true)
    → P (first_cause (causes m e)) (knows m e.vcpu)
unfolding causes first_cause
code_is m e P none' some' = rw (has_size m e.vcpu) (pick (knows m e.vcpu))
  where
    known : Neither (first_cause (later (causes m e)))
    known = neither_of _ (first_code (λ c. not (eqb c 1) && not (eqb c 0)) (later (causes m e)) (late_codes m.registrations e.act))

    pick : (b : Bool) → P (cond (not b) (Some 1) (first_cause (later (causes m e)))) b
    pick true = some' (first_cause (later (causes m e))) known
    pick false = none'

unknown_exactly_lem : (m : Module) (e : Event) → eqb (code_in (step m e).result) 1 ≡ not (knows m e.vcpu)
unknown_exactly_lem m e =
    ap (λ (o : Option ℕ). eqb (unwrap_or o 0) 1) (refusals m e) ∙ code_is m e (λ o b. eqb (unwrap_or o 0) 1 ≡ not b) refl (λ o h. h.0)

-- a result with a code, which is not 0, is a refusal
accepted_by : (r : Result) → ((c : ℕ) → refusal_of r ≡ Some c → eqb c 0 ≡ false) → accepted r ≡ eqb (code_in r) 0
accepted_by (done x) h = refl
accepted_by (counted a b) h = refl
accepted_by (answers a) h = refl
accepted_by (coded x ks) h = refl
accepted_by (refused c) h = sym (h c refl)

accepted_exactly_lem : (m : Module) (e : Event) → accepted (step m e).result ≡ eqb (code_in (step m e).result) 0
accepted_exactly_lem m e =
    accepted_by (step m e).result
    (λ c q. code_is m e (λ o b. o ≡ Some c → eqb c 0 ≡ false) (λ (f : Some 1 ≡ Some c). let g : 1 ≡ c = cc in rw (sym g)) (λ o h. h.1 c) (sym (refusals m e) ∙ q))

-- ---- a call that reads
-- by its number
pub by_read : (op : ℕ) (A : ℕ → Type 0) → (eqb op 0 || eqb op 2) ≡ true → A 0 → A 2 → A op
by_read op A h x y = pick (eqb op 0) (eqb op 2) refl refl h
  where
    pick : (a b : Bool) → eqb op 0 ≡ a → eqb op 2 ≡ b → (a || b) ≡ true → A op
    pick true b p q r = rw (eqb-true op 0 p) x
    pick false true p q r = rw (eqb-true op 2 q) y
    pick false false p q r = clash (cc)

back_list : (l : List Vcpu) (i : ℕ)
    → set (set l i (forget (get_or l i absent))) i (with_flight (get_or l i absent).flight (get_or (set l i (forget (get_or l i absent))) i absent)) ≡ l
back_list [] i = refl
back_list (v ∷ l) zero = refl
back_list (v ∷ l) (suc i) = ap (λ t. v ∷ t) (back_list l i)

back_forgotten : (m : Module) (i : ℕ) → put_back m i (with_registrations m.registrations (with_vcpu m i (forget (vcpu_at m i)))) ≡ m
unfolding with_registrations with_vcpu vcpu_at
back_forgotten m i = ap (λ l. record { n = m.n; vmpl = m.vmpl; registrations = m.registrations; vcpus = l }) (back_list m.vcpus i)

module _ (m : Module) (i : ℕ) where
  -- the request of a call that reads
  abbrev Looks : Parsed → Type 0
  Looks q = put_back m i (concluded (call_effect q i m.registrations (vcpu_at m i)) i m).after ≡ m

  looks_features : Looks (Ok (request.Local local.Features))
  unfolding concluded call_effect serve
  looks_features = back_forgotten m i

  looks_refused : put_back m i (with_registrations m.registrations (with_vcpu m i (vcpu_at m i))) ≡ m
  looks_refused = ap (put_back m i) (count_same m i (vcpu_at m i) ∙ put_same m i) ∙ put_same m i

  looks_read : (k : Kind) (c : ℕ) → Looks (read_by k c)
  unfolding concluded call_effect serve
  looks_read kind.None c = looks_refused
  looks_read kind.Read c = back_forgotten m i
  looks_read kind.Write c = looks_refused
  looks_read kind.Both c = back_forgotten m i

  looks_call : (op c x : ℕ) → (eqb op 0 || eqb op 2) ≡ true → Looks (request_of op c x)
  unfolding request_of
  looks_call op c x h = by_read op (λ o. Looks (request_of o c x)) h looks_features (looks_read (kind_of c) c)

  call_touches : (op c x : ℕ) → (eqb op 0 || eqb op 2) ≡ true → put_back m i (next m (at i (call op c x))) ≡ m
  unfolding effect
  call_touches op c x h =
      by_verdict_lem m (at i (call op c x)) (λ o. put_back m i o.after ≡ m) (λ c e. put_same m i) (λ e. looks_call op c x h)

pub read_touches_lem : (m : Module) (e : Event) → only_reads e.act ≡ true → put_back m e.vcpu (next m e) ≡ m
read_touches_lem m e h = over e.vcpu e.act h
  where
    over : (i : ℕ) (a : Act Bytes) → only_reads a ≡ true → put_back m i (next m (at i a)) ≡ m
    over i (notice p) h = clash (cc)
    over i (call op c x) h = call_touches m i op c x h
    over i (entry iF sh bl) h = clash (cc)
    over i non_delivery h = clash (cc)
    over i (hand_back p iF sh) h = clash (cc)
    over i (allow cs q) h = clash (cc)

-- ---- no call presents anything
request_presents : (q : Parsed) (m : Module) (i : ℕ) → presented_by (concluded (call_effect q i m.registrations (vcpu_at m i)) i m).result ≡ None
unfolding concluded call_effect
request_presents (Ok (request.Local o)) m i = refl
request_presents (Ok (request.Icr x)) m i = refl
request_presents (Err c) m i = refl

pub call_presents_lem : (m : Module) (i op c x : ℕ) → presented_by (step m (at i (call op c x))).result ≡ None
unfolding effect
call_presents_lem m i op c x =
    by_verdict_lem m (at i (call op c x)) (λ o. presented_by o.result ≡ None) (λ c e. refl) (λ e. request_presents (request_of op c x) m i)

-- ---- a count of 0
zero_serve : (o : Local) (i k : ℕ) (v : Vcpu) → k ≡ 0 → (serve o i k v).verdict ≡ accept → (serve o i k v).registrations ≡ 0
unfolding serve
zero_serve local.Features i k v e h = e
zero_serve local.Leave i k v e h = e
zero_serve local.Release i k v e h = rw e
zero_serve local.Register i k v e h = clash (let f = (needed (leb 1 k) NotRegistered _ h).0 in let g : leb 1 0 ≡ true = rw e at f in cc)
zero_serve (local.Allow x) i k v e h = e
zero_serve (local.Disallow x) i k v e h = e
zero_serve (local.Read r) i k v e h = e
zero_serve (local.SetTpr x) i k v e h = e
zero_serve local.Eoi i k v e h = e
zero_serve (local.SelfIpi x) i k v e h = e

zero_call : (q : Parsed) (i k : ℕ) (v : Vcpu) → k ≡ 0 → call_verdict q i k (forget v) ≡ accept → (call_effect q i k v).registrations ≡ 0
unfolding call_effect call_verdict
zero_call (Ok (request.Local o)) i k v e h = zero_serve o i k (forget v) e h
zero_call (Ok (request.Icr x)) i k v e h = e
zero_call (Err c) i k v e h = e

zero_effect : (l i k : ℕ) (v : Vcpu) (a : Act Bytes) → k ≡ 0 → vcpu_verdict i k v a ≡ accept → (effect l i k v a).registrations ≡ 0
unfolding effect vcpu_verdict
zero_effect l i k v (notice p) e h = e
zero_effect l i k v (call op c x) e h = zero_call (request_of op c x) i k v e (needed (is_active v.phase) NotActive _ h).1
zero_effect l i k v (entry iF sh bl) e h = e
zero_effect l i k v non_delivery e h = e
zero_effect l i k v (hand_back p iF sh) e h = e
zero_effect l i k v (allow cs q) e h = e

zero_next : (m : Module) (e : Event) → m.registrations ≡ 0 → (next m e).registrations ≡ 0
unfolding concluded with_registrations verdict
zero_next m e z =
    by_verdict_lem m e (λ o. o.after.registrations ≡ 0) (λ c p. z)
    (λ p. count_delivered (effect_of m e).reply e.vcpu (store (effect_of m e) e.vcpu m)
    ∙ zero_effect m.vmpl e.vcpu m.registrations (vcpu_at m e.vcpu) e.act z (needed (knows m e.vcpu) UnknownVcpu _ p).1)

zero_final : (es : List Event) (m : Module) → m.registrations ≡ 0 → (final m es).registrations ≡ 0
zero_final es m = list_keeps (λ u. u.registrations ≡ 0) zero_next es m

-- ---- n
size_next : (m : Module) (e : Event) → size (next m e) ≡ size m
unfolding size
size_next m e = rw (n_next m e, vmpl_next m e)

pub n_final : (es : List Event) (m : Module) → (final m es).n ≡ m.n
unfolding final
n_final [] m = refl
n_final (e ∷ es) m = n_final es (next m e) ∙ n_next m e

-- ---- what stands at n and above
beyond_final : (es : List Event) (m : Module) (j : ℕ) → size m ≤ j → vcpu_at (final m es) j ≡ vcpu_at m j
unfolding final
beyond_final [] m j h = refl
beyond_final (e ∷ es) m j h = beyond_final es (next m e) j (subst (λ k. k ≤ j) (sym (size_next m e)) h) ∙ keeps_beyond_lem m e j h

-- ---- a hand-back, by the length of its page
written_bytes : (l : ℕ) (b p : Bytes) → 64 * l + 64 ≤ length p → length b ≡ 64 → bytes_at l (written l b p) ≡ b
written_bytes l b p room long =
    ap (bytes_at l) (written_is l b p)
    ∙ ap (take 64) (drop_at (take (64 * l) p) (b ++ drop 64 (drop (64 * l) p)) (64 * l) (length-take-le (64 * l) p (omega (arith, room))))
    ∙ take_at b (drop 64 (drop (64 * l) p)) 64 long

same_verdict : (m : Module) (i : ℕ) (p q : Bytes) (iF sh : Bool) → length p ≡ length q
    → verdict m (at i (hand_back p iF sh)) ≡ verdict m (at i (hand_back q iF sh))
unfolding verdict vcpu_verdict
same_verdict m i p q iF sh h = rw h

-- one result, one module, and where it is accepted one set of bytes
abbrev HandedAlike : ℕ → Out → Out → Type 0
HandedAlike l x y = (x.result ≡ y.result) × (x.after ≡ y.after) × (accepted x.result ≡ true → bytes_at l x.page ≡ bytes_at l y.page)

pub hand_back_alike_lem : (m : Module) (i : ℕ) (p q : Bytes) (iF sh : Bool) → length p ≡ length q
    → HandedAlike m.vmpl (step m (at i (hand_back p iF sh))) (step m (at i (hand_back q iF sh)))
unfolding step concluded effect
hand_back_alike_lem m i p q iF sh h =
    rw (same_verdict m i p q iF sh h) (over (verdict m (at i (hand_back q iF sh))) (room (verdict m (at i (hand_back q iF sh))) refl))
  where
    room : (g : Verdict) → verdict m (at i (hand_back q iF sh)) ≡ g → g ≡ accept → 64 * m.vmpl + 64 ≤ length q
    room g e a =
        let t = accepted_in m i q iF sh (e ∙ a) in
        let b = (vmpl_in m i (ltb-true i (size m) t.0)).1 in
        let c = leb-true 256 (length q) t.1 in
        omega (arith, b, c)

    over : (g : Verdict) → (g ≡ accept → 64 * m.vmpl + 64 ≤ length q)
        → HandedAlike m.vmpl (decided g m (at i (hand_back p iF sh))) (decided g m (at i (hand_back q iF sh)))
    over (refuse c) r = (refl, refl, λ e. clash (cc))
    over accept r =
        let b = handed (vcpu_at m i) in
        let t : 64 * m.vmpl + 64 ≤ length q = r refl in
        let u : 64 * m.vmpl + 64 ≤ length p = omega (arith, t, h) in (
          refl,
          refl,
          λ e. written_bytes m.vmpl b p u (handed_length (vcpu_at m i)) ∙ sym (written_bytes m.vmpl b q t (handed_length (vcpu_at m i))),
        )

-- ---- start
starts_with_lem : (n l : ℕ) → may_start n l ≡ true → ((start n l).n ≡ n) × ((start n l).vmpl ≡ l)
unfolding start started
starts_with_lem n l h = pick (may_start n l) h
  where
    pick : (b : Bool) → b ≡ true → ((cond b (started n l) stopped).n ≡ n) × ((cond b (started n l) stopped).vmpl ≡ l)
    pick true e = (refl, refl)
    pick false e = clash (cc)

pub continued : Continued
continued =
    record {
      sound_stays = sound_final;
      summary_stays = λ m es j. final_summed es m j;
      beyond_stays = λ m es. beyond_final es m;
      none_stays = λ m es. zero_final es m;
      size_stays = λ m es. n_final es m;
      level_stays = λ m es. vmpl_final es m;
      unknown_exactly = unknown_exactly_lem;
      accepted_exactly = accepted_exactly_lem;
      read_touches = read_touches_lem;
      call_presents = call_presents_lem;
      hand_back_alike = hand_back_alike_lem;
      read_back = reads_back;
      starts_with = starts_with_lem;
    }
