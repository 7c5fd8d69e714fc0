-- A list of ECX values on the module: what the function of the values gives, stored in the vCPU's record, is the model's step.
-- Assumes nothing.
use mathlib.Core.Path.{◌≡◌, refl, sym, ap, ap₂, ◌∙◌, subst}
use mathlib.Core.Bool.{Bool, true, false, cond, ◌||◌}
use Rattle.std.specs.Prelude.{Option, None, Some, Ok, Err}
use mathlib.Core.List.{List, [], ◌∷◌, ◌++◌, map}
use Prim.Native.Nat.{ℕ, ◌<◌}
use lib.ListN.{length, get_or, take, drop}
use borrow.Author.Tests.{lt-ltb}
use Rattle.model.specs.declared.InFlight.TheVariants.{Nothing}
use Rattle.model.specs.declared.Refusal.TheVariants.{NotActive}
use Rattle.model.specs.declared.Vcpu.{Vcpu}
use Rattle.model.specs.declared.Module.{Module}
use Rattle.model.specs.State.{is_active, size, vcpu_at, with_vcpu, with_allowed, with_flight}
use Rattle.model.specs.Codes.{Answered, Verdict, accept, refuse, verdict_code, coded}
use Rattle.model.specs.Requests.{nameable, permission, request_of, forget, serve, call_verdict}
use Rattle.model.specs.Events.{allow, at, vcpu_verdict, verdict, call_effect, single, by_verdict, single_after, list_after, list_codes, effect}
use Rattle.model.specs.Events.{concluded, decided, step, listed_out, index_in}
use Rattle.vector_set.specs.Bits.{bit_at}
use Rattle.vector_set.proofs.Laws.{clash}
use Rattle.model.proofs.Listed.{permission_by}
use Rattle.model.proofs.Stored.{put_same, count_same, needed}
use Rattle.vcpu.specs.Records.{page_on}
use Rattle.vcpu.proofs.Steps.{below_32, record_is}
use Rattle.gate.proofs.Known.{found}
use Rattle.vcpu_allow.specs.Values.{value_code, permitted, permitted_all, some_nameable, list_verdict, codes_in, listed_on}

-- ---- one value on the record of an active vCPU
-- the record with the set s, and with nothing in flight if so
abbrev forgets : Bool → List ℕ → Vcpu → Vcpu
forgets true s v = with_flight Nothing (with_allowed s v)
forgets false s v = with_allowed s v

value_by : (c : ℕ) (n t : Bool) (i k : ℕ) (v : Vcpu) → nameable c ≡ n → bit_at c 8 ≡ t
    → (verdict_code (call_verdict (permission_by c n t) i k (forget v)) ≡ value_code c)
    × (by_verdict (call_verdict (permission_by c n t) i k (forget v)) (call_effect (permission_by c n t) i k v).vcpu v
    ≡ forgets (nameable c) (permitted c v.allowed) v)
unfolding call_verdict call_effect serve value_code permitted
value_by c true true i k v e f = (rw e, rw (e, f))
value_by c true false i k v e f = (rw e, rw (e, f))
value_by c false t i k v e f = (rw e, rw e)

module _ (i k c : ℕ) (v : Vcpu) (h : is_active v.phase ≡ true) where
  value_code_lem : verdict_code (vcpu_verdict i k v (single c)) ≡ value_code c
  unfolding vcpu_verdict request_of permission
  value_code_lem = rw h (value_by c (nameable c) (bit_at c 8) i k v refl refl).0

  value_after : single_after i k c v ≡ forgets (nameable c) (permitted c v.allowed) v
  unfolding single_after vcpu_verdict request_of permission
  value_after = rw h (value_by c (nameable c) (bit_at c 8) i k v refl refl).1

-- ---- all values
forgets_phase : (b : Bool) (s : List ℕ) (v : Vcpu) → is_active v.phase ≡ true → is_active (forgets b s v).phase ≡ true
forgets_phase true s v h = h
forgets_phase false s v h = h

forgets_twice : (a b : Bool) (s t : List ℕ) (v : Vcpu) → forgets b t (forgets a s v) ≡ forgets (a || b) t v
forgets_twice true true s t v = refl
forgets_twice true false s t v = refl
forgets_twice false true s t v = refl
forgets_twice false false s t v = refl

forgets_set : (b : Bool) (s : List ℕ) (v : Vcpu) → (forgets b s v).allowed ≡ s
forgets_set true s v = refl
forgets_set false s v = refl

list_after_lem : (i k : ℕ) (cs : List ℕ) (v : Vcpu) → is_active v.phase ≡ true
    → list_after i k cs v ≡ forgets (some_nameable cs) (permitted_all cs v.allowed) v
unfolding list_after some_nameable permitted_all
list_after_lem i k [] v h = refl
list_after_lem i k (c ∷ cs) v h =
    let u = forgets (nameable c) (permitted c v.allowed) v in
    ap (list_after i k cs) (value_after i k c v h)
    ∙ list_after_lem i k cs u (forgets_phase (nameable c) (permitted c v.allowed) v h)
    ∙ ap (λ (s : List ℕ). forgets (some_nameable cs) (permitted_all cs s) u) (forgets_set (nameable c) (permitted c v.allowed) v)
    ∙ forgets_twice (nameable c) (some_nameable cs) (permitted c v.allowed) (permitted_all cs (permitted c v.allowed)) v

list_codes_lem : (i k : ℕ) (cs : List ℕ) (v : Vcpu) → is_active v.phase ≡ true → list_codes i k cs v ≡ map value_code cs
unfolding list_codes
list_codes_lem i k [] v h = refl
list_codes_lem i k (c ∷ cs) v h =
    let u = forgets (nameable c) (permitted c v.allowed) v in
    ap₂ (λ (d : ℕ) (ds : List ℕ). d ∷ ds) (value_code_lem i k c v h)
    (ap (list_codes i k cs) (value_after i k c v h) ∙ list_codes_lem i k cs u (forgets_phase (nameable c) (permitted c v.allowed) v h))

-- where no value is accepted the set is as it was
none_permitted : (cs s : List ℕ) → some_nameable cs ≡ false → permitted_all cs s ≡ s
unfolding some_nameable permitted_all permitted
none_permitted [] s e = refl
none_permitted (c ∷ cs) s e = pick (nameable c) (some_nameable cs) refl refl e (none_permitted cs s)
  where
    pick : (a b : Bool) → nameable c ≡ a → some_nameable cs ≡ b → (a || b) ≡ false → (some_nameable cs ≡ false → permitted_all cs s ≡ s)
        → permitted_all cs (permitted c s) ≡ s
    pick true b p q r ih = clash (cc)
    pick false true p q r ih = clash (cc)
    pick false false p q r ih = rw p (ih q)

-- ---- the second list
first_mapped : (f : ℕ → ℕ) (cs q : List ℕ) → take (length cs) (map f cs ++ q) ≡ map f cs
first_mapped f [] q = refl
first_mapped f (c ∷ cs) q = ap (λ (l : List ℕ). f c ∷ l) (first_mapped f cs q)

first_codes : (cs q : List ℕ) → take (length cs) (codes_in cs q) ≡ map value_code cs
unfolding codes_in
first_codes cs q = first_mapped value_code cs _

-- ---- the module after it
-- the record that is stored where a value was accepted
abbrev pub permitted_vcpu : List ℕ → Vcpu → Vcpu
permitted_vcpu s v = with_flight Nothing (with_allowed s v)

-- what the function's answer leaves of the module, where u is the record of i
abbrev pub after_list : Answered (Option (List ℕ)) → ℕ → Vcpu → Module → Module
after_list (Ok (Some s)) i u m = with_vcpu m i (permitted_vcpu s u)
after_list (Ok None) i u m = m
after_list (Err c) i u m = m

-- and what the event answers
abbrev pub list_answer : Answered (Option (List ℕ)) → Answered ℕ
list_answer (Ok o) = Ok 0
list_answer (Err c) = Err c

module _ (m : Module) (i : ℕ) (cs q : List ℕ) where
  abbrev v : Vcpu
  v = vcpu_at m i

  abbrev verdict_on : Verdict
  verdict_on = list_verdict v.phase cs q

  same_verdict : i < size m → verdict m (at i (allow cs q)) ≡ verdict_on
  unfolding verdict vcpu_verdict list_verdict
  same_verdict l = rw (lt-ltb i (size m) l)

  stored_list : (b : Bool) → some_nameable cs ≡ b
      → with_vcpu m i (forgets b (permitted_all cs v.allowed) v) ≡ after_list (Ok (cond b (Some (permitted_all cs v.allowed)) None)) i v m
  stored_list true e = refl
  stored_list false e = ap (λ (s : List ℕ). with_vcpu m i (with_allowed s v)) (none_permitted cs v.allowed e) ∙ put_same m i

  -- what an accepted list gives
  accepted_list : is_active v.phase ≡ true
      → concluded (effect m.vmpl i m.registrations v (allow cs q)) i m
      ≡ record {
        result = coded 0 (take (length cs) (codes_in cs q));
        after = after_list (listed_on accept cs v.allowed) i v m;
        page = codes_in cs q;
      }
  unfolding concluded effect codes_in
  accepted_list h =
      ap₂ (λ (ks : List ℕ) (a : Module). record { result = coded 0 ks; after = a; page = ks ++ drop (length cs) q })
      (list_codes_lem i m.registrations cs v h)
      (count_same m i _ ∙ ap (with_vcpu m i) (list_after_lem i m.registrations cs v h) ∙ stored_list (some_nameable cs) refl)
      ∙ ap (λ (ks : List ℕ). record { result = coded 0 ks; after = after_list (listed_on accept cs v.allowed) i v m; page = codes_in cs q })
      (sym (first_codes cs q))

  is_active_lem : verdict_on ≡ accept → is_active v.phase ≡ true
  unfolding list_verdict
  is_active_lem e = (needed (is_active v.phase) NotActive _ e).0

  by_list : (g : Verdict) → verdict_on ≡ g
      → listed_out (record { answer = list_answer (listed_on g cs v.allowed); after = after_list (listed_on g cs v.allowed) i v m }) cs (page_on g (codes_in cs q) q)
      ≡ decided g m (at i (allow cs q))
  unfolding page_on
  by_list (refuse c) e = refl
  by_list accept e = sym (accepted_list (is_active_lem e))

  -- the function's answer, with module and second list as they are then, is the step
  pub list_step : (r : Answered (Option (List ℕ))) (zs : List ℕ) → i < size m
      → r ≡ listed_on verdict_on cs v.allowed → zs ≡ page_on verdict_on (codes_in cs q) q
      → listed_out (record { answer = list_answer r; after = after_list r i v m }) cs zs ≡ step m (at i (allow cs q))
  unfolding step
  list_step r zs l e f =
      ap₂ (λ (p : Answered (Option (List ℕ))) (ys : List ℕ). listed_out (record { answer = list_answer p; after = after_list p i v m }) cs ys) e f
      ∙ by_list verdict_on refl ∙ ap (λ (g : Verdict). decided g m (at i (allow cs q))) (sym (same_verdict l))

  -- the same by whether the record is stored, for a copy u of it
  module _ (u : Vcpu) (here : u ≡ vcpu_at m i) (r : Answered (Option (List ℕ))) (zs : List ℕ) (l : i < size m)
      (said : (r ≡ listed_on (list_verdict u.phase cs q) cs u.allowed) × (zs ≡ page_on (list_verdict u.phase cs q) (codes_in cs q) q)) where
    told : (o : Answered (Option (List ℕ))) → r ≡ o
        → listed_out (record { answer = list_answer o; after = after_list o i u m }) cs zs ≡ step m (at i (allow cs q))
    told o e =
        ap₂ (λ (w : Vcpu) (p : Answered (Option (List ℕ))). listed_out (record { answer = list_answer p; after = after_list p i w m }) cs zs) here (sym e)
        ∙ list_step r zs l (said.0 ∙ ap (λ (w : Vcpu). listed_on (list_verdict w.phase cs q) cs w.allowed) here)
        (said.1 ∙ ap (λ (w : Vcpu). page_on (list_verdict w.phase cs q) (codes_in cs q) q) here)

    pub list_kept : (o : Answered (Option (List ℕ))) → r ≡ o → ((s : List ℕ) → o ≡ Ok (Some s) → ⊥)
        → listed_out (record { answer = list_answer o; after = m }) cs zs ≡ step m (at i (allow cs q))
    list_kept (Ok None) e n = told (Ok None) e
    list_kept (Ok (Some s)) e n = absurd (n s refl)
    list_kept (Err c) e n = told (Err c) e

    pub list_stored : (s : List ℕ) → r ≡ Ok (Some s)
        → listed_out (record { answer = list_answer (Ok (Some s)); after = with_vcpu m i (permitted_vcpu s u) }) cs zs ≡ step m (at i (allow cs q))
    list_stored s e = told (Ok (Some s)) e

  -- the same for a record that is read at k, whatever is stored of it
  module _ (k : ℕ) (d : Vcpu) (placed : Ok k ≡ index_in m i) (whole : length m.vcpus ≡ 32) where
    abbrev u : Vcpu
    u = get_or m.vcpus k d

    same : k ≡ i
    same = (found m i k placed).1

    below : i < size m
    below = subst (λ (j : ℕ). j < size m) same (found m i k placed).0

    here : u ≡ v
    here = ap (λ (j : ℕ). get_or m.vcpus j d) same ∙ record_is m i d (below_32 m below) whole

    pub list_read : (r o : Answered (Option (List ℕ))) (zs : List ℕ)
        → (r ≡ listed_on (list_verdict u.phase cs q) cs u.allowed) × (zs ≡ page_on (list_verdict u.phase cs q) (codes_in cs q) q)
        → r ≡ o → listed_out (record { answer = list_answer o; after = after_list o k u m }) cs zs ≡ step m (at i (allow cs q))
    list_read r o zs said e =
        ap (λ (j : ℕ). listed_out (record { answer = list_answer o; after = after_list o j u m }) cs zs) same ∙ told u here r zs below said o e
