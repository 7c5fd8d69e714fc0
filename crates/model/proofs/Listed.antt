-- A list of ECX values is its single calls, of every module value.
-- Assumes nothing.
use mathlib.Core.Path.{◌≡◌, refl, sym, ap, ap₂, ◌∙◌, subst}
use mathlib.Core.Bool.{Bool, true, false, cond, ◌&&◌}
use mathlib.Core.List.{List, [], ◌∷◌, ◌++◌}
use Rattle.std.specs.Prelude.{None}
use Prim.Native.Nat.{ℕ, zero, suc, ◌%◌, ◌≤◌, ◌<◌}
use native.Mathlib.Omega.{arith}
use lib.Dec.{leb, ltb}
use lib.ListN.{length, get_or, drop}
use borrow.Author.Tests.{le-leb, leb-true, lt-ltb, le-ltb, ltb-true, ltb-false}
use Rattle.vector_set.specs.Bits.{bit_at}
use Rattle.vector_set.proofs.Laws.{clash}
use Rattle.model.specs.declared.Local.TheVariants as local
use Rattle.model.specs.declared.Refusal.{Refusal}
use Rattle.model.specs.declared.Refusal.TheVariants.{UnknownVcpu, NotActive, BadList}
use Rattle.std.specs.Prelude.{Ok}
use Rattle.model.specs.Requests.{Parsed}
use Rattle.model.specs.declared.Request.TheVariants as request
use Rattle.model.specs.declared.Vcpu.{Vcpu}
use Rattle.model.specs.declared.Module.{Module}
use Rattle.model.specs.State.{is_active, size, vcpu_at, with_vcpu}
use Rattle.model.specs.Codes.{code_of, Verdict, accept, refuse, need, verdict_code, Result, done, coded, refused, refusal_of, code_in}
use Rattle.model.specs.Requests.{bad, nameable, permission, request_of, forget, serve, call_verdict}
use Rattle.model.specs.Events.{call, allow, at, Bytes, list_fits, vcpu_verdict, verdict, call_effect, single, by_verdict, single_after, list_after}
use Rattle.model.specs.Events.{list_codes, effect, Out, concluded, step, next, run, final}
use Rattle.model.specs.Demand2.{singles, codes_of}
use Rattle.model.proofs.Stored.{get_put, put_same, put_put, put_length, size_put, count_same, by_verdict_lem, Known}
use Rattle.model.proofs.Stored.{known_of}
use Rattle.model.proofs.IcrWrites.{over, by_request}
use Rattle.model.proofs.ListLaws.{after_one}

-- ---- one value
-- the result of a call 4 with the verdict g
abbrev result_by : Verdict → Result
result_by accept = done 0
result_by (refuse c) = refused (code_of c)

abbrev one_out : Verdict → Vcpu → ℕ → Module → Out
one_out g u i m = record { result = result_by g; after = with_vcpu m i (by_verdict g u (vcpu_at m i)); page = [] }

-- what call 4 asks for, by whether its value is taken and by bit 8
abbrev pub permission_by : ℕ → Bool → Bool → Parsed
permission_by c n t = cond n (cond t (Ok (request.Local (local.Allow (c % 256)))) (Ok (request.Local (local.Disallow (c % 256))))) bad

one_out_lem : (m : Module) (i c : ℕ) (n t : Bool)
    → (let v = vcpu_at m i in let r = permission_by c n t in
    over (call_verdict r i m.registrations (forget v)) (call_effect r i m.registrations v) i m
    ≡ one_out (call_verdict r i m.registrations (forget v)) (call_effect r i m.registrations v).vcpu i m)
unfolding call_verdict call_effect serve concluded
one_out_lem m i c true true = ap (λ (a : Module). record { result = done 0; after = a; page = [] }) (count_same m i _)
one_out_lem m i c true false = ap (λ (a : Module). record { result = done 0; after = a; page = [] }) (count_same m i _)
one_out_lem m i c false t = ap (λ (a : Module). record { result = refused 0x80000005; after = a; page = [] }) (sym (put_same m i))

-- the step of a call 4 on an active vCPU
single_out : (m : Module) (i c x : ℕ) → Known m i is_active
    → step m (at i (call 4 c x))
    ≡ record {
      result = result_by (vcpu_verdict i m.registrations (vcpu_at m i) (single c));
      after = with_vcpu m i (single_after i m.registrations c (vcpu_at m i));
      page = [];
    }
unfolding request_of permission vcpu_verdict single_after
single_out m i c x k = by_request m i 4 c x ∙ rw (k.below, k.phase) (one_out_lem m i c (nameable c) (bit_at c 8))

-- it stays active, and the module has it
phase_permitted : (c : ℕ) (n t : Bool) (i k : ℕ) (v : Vcpu) → (call_effect (permission_by c n t) i k v).vcpu.phase ≡ v.phase
unfolding call_effect serve
phase_permitted c true true i k v = refl
phase_permitted c true false i k v = refl
phase_permitted c false t i k v = refl

phase_after : (i k c : ℕ) (v : Vcpu) → is_active v.phase ≡ true → is_active (single_after i k c v).phase ≡ true
unfolding request_of permission
phase_after i k c v h =
    after_one (λ u. is_active u.phase ≡ true) i k (λ c u g. ap is_active (phase_permitted c (nameable c) (bit_at c 8) i k u) ∙ g) c v h

known_after : (m : Module) (i : ℕ) (u : Vcpu) → Known m i is_active → is_active u.phase ≡ true → Known (with_vcpu m i u) i is_active
known_after m i u k h =
    record {
      below = ap (ltb i) (size_put m i u) ∙ k.below;
      phase = ap (λ (v : Vcpu). is_active v.phase) (get_put m i u k.there) ∙ h;
      there = subst (λ (l : ℕ). i < l) (sym (put_length m i u)) k.there;
    }

-- what is known of it is known after the call too
pub known_next : (m : Module) (i c x : ℕ) → Known m i is_active → Known (next m (at i (call 4 c x))) i is_active
known_next m i c x k =
    subst (λ (u : Module). Known u i is_active) (sym (ap (λ (o : Out). o.after) (single_out m i c x k)))
    (known_after m i _ k (phase_after i m.registrations c (vcpu_at m i) k.phase))

registrations_put : (m : Module) (i : ℕ) (u : Vcpu) → (with_vcpu m i u).registrations ≡ m.registrations
unfolding with_vcpu
registrations_put m i u = refl

-- ---- all values, on an active vCPU
code_is : (g : Verdict) → code_in (result_by g) ≡ verdict_code g
code_is accept = refl
code_is (refuse c) = refl

pub all_after : (i x : ℕ) (cs : List ℕ) (m : Module) → Known m i is_active
    → final m (singles i x cs) ≡ with_vcpu m i (list_after i m.registrations cs (vcpu_at m i))
unfolding final list_after
all_after i x [] m k = sym (put_same m i)
all_after i x (c ∷ cs) m k =
    let u = single_after i m.registrations c (vcpu_at m i) in
    ap (λ (o : Out). final o.after (singles i x cs)) (single_out m i c x k)
    ∙ all_after i x cs (with_vcpu m i u) (known_after m i u k (phase_after i m.registrations c (vcpu_at m i) k.phase))
    ∙ ap₂ (λ (r : ℕ) (v : Vcpu). with_vcpu (with_vcpu m i u) i (list_after i r cs v)) (registrations_put m i u) (get_put m i u k.there)
    ∙ put_put m i u (list_after i m.registrations cs u)

all_codes : (i x : ℕ) (cs : List ℕ) (m : Module) → Known m i is_active → codes_of m (singles i x cs) ≡ list_codes i m.registrations cs (vcpu_at m i)
unfolding run list_codes
all_codes i x [] m k = refl
all_codes i x (c ∷ cs) m k =
    let u = single_after i m.registrations c (vcpu_at m i) in
    ap (λ (o : Out). code_in o.result ∷ codes_of o.after (singles i x cs)) (single_out m i c x k)
    ∙ ap₂ (λ (d : ℕ) (ds : List ℕ). d ∷ ds) (code_is (vcpu_verdict i m.registrations (vcpu_at m i) (single c)))
    (all_codes i x cs (with_vcpu m i u) (known_after m i u k (phase_after i m.registrations c (vcpu_at m i) k.phase))
    ∙ ap₂ (λ (r : ℕ) (v : Vcpu). list_codes i r cs v) (registrations_put m i u) (get_put m i u k.there))

-- ---- where it is refused for its vCPU, so is each of its calls
-- the vCPU is there and active
abbrev is_served : Module → ℕ → Bool
is_served m i = ltb i (size m) && is_active (vcpu_at m i).phase

refused_call : (m : Module) (i c x : ℕ) → is_served m i ≡ false → next m (at i (call 4 c x)) ≡ m
refused_call m i c x h = ap (λ (o : Out). o.after) (by_request m i 4 c x) ∙ pick (ltb i (size m)) (is_active (vcpu_at m i).phase) h
  where
    r : Parsed
    r = request_of 4 c x

    pick : (a b : Bool) → (a && b) ≡ false
        → (over (need a UnknownVcpu (need b NotActive (call_verdict r i m.registrations (forget (vcpu_at m i)))))
        (call_effect r i m.registrations (vcpu_at m i)) i m).after
        ≡ m
    pick true true e = clash (cc)
    pick true false e = refl
    pick false b e = refl

all_refused : (i x : ℕ) (cs : List ℕ) (m : Module) → is_served m i ≡ false → final m (singles i x cs) ≡ m
unfolding final
all_refused i x [] m h = refl
all_refused i x (c ∷ cs) m h = ap (λ (u : Module). final u (singles i x cs)) (refused_call m i c x h) ∙ all_refused i x cs m h

unserved : (a b c : Bool) (d : Refusal) → need a UnknownVcpu (need b NotActive (need c BadList accept)) ≡ refuse d → c ≡ true → (a && b) ≡ false
unserved true true true d e f = clash (cc)
unserved true true false d e f = clash (cc)
unserved true false c d e f = refl
unserved false b c d e f = refl

-- ---- the claims
pub list_is_calls_lem : (m : Module) (i x : ℕ) (cs : List ℕ) (q : Bytes) → length cs ≤ 256 → length cs ≤ length q
    → next m (at i (allow cs q)) ≡ final m (singles i x cs)
unfolding verdict vcpu_verdict concluded effect
list_is_calls_lem m i x cs q l l' =
    by_verdict_lem m (at i (allow cs q)) (λ o. o.after ≡ final m (singles i x cs))
    (λ d h. sym (all_refused i x cs m
    (unserved (ltb i (size m)) (is_active (vcpu_at m i).phase) (list_fits cs q) d h (rw (le-leb (length cs) 256 l, le-leb (length cs) (length q) l')))))
    (λ h. count_same m i _ ∙ sym (all_after i x cs m (known_of m i (allow cs q) h)))

pub list_gives_lem : (m : Module) (i x : ℕ) (cs : List ℕ) (q : Bytes) → refusal_of (step m (at i (allow cs q))).result ≡ None
    → (step m (at i (allow cs q))).result ≡ coded 0 (codes_of m (singles i x cs))
unfolding concluded effect
list_gives_lem m i x cs q =
    by_verdict_lem m (at i (allow cs q)) (λ o. refusal_of o.result ≡ None → o.result ≡ coded 0 (codes_of m (singles i x cs)))
    (λ d h e. clash (cc))
    (λ h e. ap (coded 0) (sym (all_codes i x cs m (known_of m i (allow cs q) h))))

pub length_codes : (i k : ℕ) (cs : List ℕ) (v : Vcpu) → length (list_codes i k cs v) ≡ length cs
unfolding list_codes
length_codes i k [] v = refl
length_codes i k (c ∷ cs) v = ap suc (length_codes i k cs (single_after i k c v))

-- a list in the place of the first entries of another
written_length : (ks q : List ℕ) → length ks ≤ length q → length (ks ++ drop (length ks) q) ≡ length q
written_length [] q l = refl
written_length (k ∷ ks) [] l = clash (let f : ⊥ = omega arith in absurd f)
written_length (k ∷ ks) (x ∷ q) l = ap suc (written_length ks q (omega (arith, l)))

written_at : (ks q : List ℕ) (j : ℕ) → length ks ≤ length q → get_or (ks ++ drop (length ks) q) j 0 ≡ cond (ltb j (length ks)) (get_or ks j 0) (get_or q j 0)
written_at [] q j l = rw (le-ltb j 0 (omega arith))
written_at (k ∷ ks) [] j l = clash (let f : ⊥ = omega arith in absurd f)
written_at (k ∷ ks) (x ∷ q) zero l = rw (lt-ltb 0 (suc (length ks)) (omega arith))
written_at (k ∷ ks) (x ∷ q) (suc j) l =
    written_at ks q j (omega (arith, l)) ∙ ap (λ (b : Bool). cond b (get_or ks j 0) (get_or q j 0)) (shift (ltb j (length ks)) refl)
  where
    shift : (b : Bool) → ltb j (length ks) ≡ b → b ≡ ltb (suc j) (suc (length ks))
    shift true e = sym (lt-ltb (suc j) (suc (length ks)) (omega (arith, ltb-true j (length ks) e)))
    shift false e = sym (le-ltb (suc j) (suc (length ks)) (omega (arith, ltb-false j (length ks) e)))

fits : (a b c d : Bool) → need a UnknownVcpu (need b NotActive (need (c && d) BadList accept)) ≡ accept → d ≡ true
fits true true true true e = refl
fits true true true false e = clash (cc)
fits true true false d e = clash (cc)
fits true false c d e = clash (cc)
fits false b c d e = clash (cc)

pub list_writes_lem : (m : Module) (i x : ℕ) (cs : List ℕ) (q : Bytes) → refusal_of (step m (at i (allow cs q))).result ≡ None
    → (length (step m (at i (allow cs q))).page ≡ length q)
    × ((j : ℕ) → get_or (step m (at i (allow cs q))).page j 0 ≡ cond (ltb j (length cs)) (get_or (codes_of m (singles i x cs)) j 0) (get_or q j 0))
unfolding verdict vcpu_verdict concluded effect
list_writes_lem m i x cs q =
    by_verdict_lem m (at i (allow cs q))
    (λ o. refusal_of o.result ≡ None
    → (length o.page ≡ length q)
    × ((j : ℕ) → get_or o.page j 0 ≡ cond (ltb j (length cs)) (get_or (codes_of m (singles i x cs)) j 0) (get_or q j 0)))
    (λ d h e. clash (cc))
    (λ h e. (
      ap (λ (n : ℕ). length (codes ++ drop n q)) (sym (length_codes i k cs v)) ∙ written_length codes q (room h),
      λ j. ap (λ (n : ℕ). get_or (codes ++ drop n q) j 0) (sym (length_codes i k cs v)) ∙ written_at codes q j (room h)
          ∙ ap₂ (λ (n : ℕ) (l : List ℕ). cond (ltb j n) (get_or l j 0) (get_or q j 0)) (length_codes i k cs v)
          (sym (all_codes i x cs m (known_of m i (allow cs q) h))),
    ))
  where
    k : ℕ
    k = m.registrations

    v : Vcpu
    v = vcpu_at m i

    codes : List ℕ
    codes = list_codes i k cs v

    room : need (ltb i (size m)) UnknownVcpu (need (is_active v.phase) NotActive (need (list_fits cs q) BadList accept)) ≡ accept → length codes ≤ length q
    room h =
        let l = leb-true (length cs) (length q) (fits (ltb i (size m)) (is_active v.phase) (leb (length cs) 256) (leb (length cs) (length q)) h) in
        subst (λ (n : ℕ). n ≤ length q) (sym (length_codes i k cs v)) l
