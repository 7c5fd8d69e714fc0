-- The numbers of a call: what `request_of` makes of them is refused with the code of the first cause of section 11 that holds.
-- Assumes nothing.
use mathlib.Core.Path.{◌≡◌, refl, sym, ap, ap₂, ◌∙◌}
use mathlib.Core.Bool.{Bool, true, false, cond, not, ◌&&◌, ◌||◌, or-false, and-false, and_comm}
use mathlib.Core.List.{[], ◌∷◌}
use Rattle.std.specs.Prelude.{Option, None, Some}
use Prim.Native.Nat.{ℕ, zero, suc, ◌/◌, ◌%◌, ◌^◌, ◌≤◌}
use native.Mathlib.Omega.{arith}
use lib.Dec.{leb, ltb, eqb}
use borrow.Author.Tests.{leb-false, ltb-true, ltb-false, eqb-true, lt-ltb, lt-leb, eq-eqb, ne_eqb}
use Rattle.model.specs.declared.Kind.{Kind}
use Rattle.model.specs.declared.Kind.TheVariants as kind
use Rattle.model.specs.declared.Refusal.{Refusal}
use Rattle.model.specs.declared.Refusal.TheVariants.{BadParameter, RegistrationsFull, NotRegistered}
use Rattle.model.specs.declared.Local.TheVariants as local
use Rattle.std.specs.Prelude.{Ok, Err}
use Rattle.model.specs.Requests.{Parsed}
use Rattle.model.specs.declared.Request.TheVariants as request
use Rattle.model.specs.declared.Vcpu.{Vcpu}
use Rattle.model.specs.Codes.{code_of, Verdict, accept, refuse, need}
use Rattle.model.specs.Registers.{within, is_read, is_write, is_both, kind_of}
use Rattle.model.specs.Ipi.{icr_legal}
use Rattle.model.specs.Requests.{bad, registration, read_by, write_by, write_value, nameable, permission, request_of, serve, call_verdict}
use Rattle.model.specs.Causes.{cause, first_cause, in_table, bad_value, allowable, bad_ecx, is_kind_none, is_kind_read, is_kind_write}
use Rattle.model.specs.Causes.{call_causes}
use Rattle.vector_set.specs.Bits.{bit_at}
use Rattle.vector_set.proofs.Laws.{clash}
use Rattle.vector_set.specs.Sets.{is_vector}
use Rattle.model.proofs.Tests.{eqb_above, ltb_leb, zero_leb}

-- ---- the code of a verdict
abbrev pub refusal_in : Verdict → Option ℕ
refusal_in accept = None
refusal_in (refuse c) = Some (code_of c)

-- a test that must pass is a cause where it fails
pub needs : (a : Bool) (c : Refusal) (g : Verdict) (o : Option ℕ) → refusal_in g ≡ o → refusal_in (need a c g) ≡ cond (not a) (Some (code_of c)) o
needs true c g o e = e
needs false c g o e = refl

-- ---- the numbers of a call on the record u of the vCPU j
module _ (j : ℕ) (u : Vcpu) where
  abbrev may : ℕ → Parsed → Verdict
  may k r = call_verdict r j k u

  call_1 : (k c x : ℕ) → refusal_in (may k (registration c)) ≡ first_cause (call_causes k 1 c x)
  unfolding call_verdict serve registration call_causes bad_ecx first_cause
  call_1 k zero x = refl
  call_1 k (suc zero) x = refl
  call_1 k (suc (suc zero)) x = rw (zero_leb k, ltb_leb 254 k) (needs (leb 1 k) NotRegistered _ _ (needs (leb k 254) RegistrationsFull accept None refl))
  call_1 k (suc (suc (suc c))) x =
      let d = suc (suc (suc c)) in
      rw (eqb_above d 0 (omega arith), eqb_above d 1 (omega arith), eqb_above d 2 (omega arith), lt-ltb 2 d (omega arith))

  -- no register outside the table has a kind
  outside : (c a b : ℕ) → in_table c ≡ false → 0x800 ≤ a → b ≤ 0x8FF → within a b c ≡ false
  unfolding in_table
  outside c a b h la lb = pick (leb 0x800 c) (leb c 0x8FF) refl refl h
    where
      pick : (s t : Bool) → leb 0x800 c ≡ s → leb c 0x8FF ≡ t → (s && t) ≡ false → within a b c ≡ false
      pick false t p q r = let z = leb-false 0x800 c p in rw (lt-leb a c (omega arith))
      pick true false p q r = let z = leb-false c 0x8FF q in rw (lt-leb c b (omega arith)) (and-false (leb a c))
      pick true true p q r = clash (cc)

  outside_is : (c a : ℕ) → in_table c ≡ false → in_table a ≡ true → eqb c a ≡ false
  outside_is c a h t = ne_eqb c a (λ (q : c ≡ a). let z : false ≡ true = sym h ∙ ap in_table q ∙ t in clash (cc))

  outside_none : (c : ℕ) → in_table c ≡ false → kind_of c ≡ kind.None
  unfolding kind_of is_read is_write is_both in_table
  outside_none c h =
      let t = outside_is c in
      rw (
        t 0x802 h refl,
        t 0x80A h refl,
        t 0x80D h refl,
        outside c 0x810 0x817 h (omega arith) (omega arith),
        outside c 0x818 0x81F h (omega arith) (omega arith),
        outside c 0x820 0x827 h (omega arith) (omega arith),
        t 0x80B h refl,
        t 0x83F h refl,
        t 0x808 h refl,
        t 0x830 h refl,
      )

  call_2 : (k c x : ℕ) → refusal_in (may k (read_by (kind_of c) c)) ≡ first_cause (call_causes k 2 c x)
  unfolding call_verdict serve call_causes bad_ecx first_cause
  call_2 k c x = pick (in_table c) (kind_of c) (outside_none c)
    where
      pick : (t : Bool) (y : Kind) → (t ≡ false → y ≡ kind.None)
          → refusal_in (may k (read_by y c))
          ≡ first_cause (cause 0x80000003 (not t) ∷ cause 0x80000003 (is_kind_none y) ∷ cause 0x80000003 (is_kind_write y) ∷ [])
      pick false y h = rw (h refl)
      pick true kind.None h = refl
      pick true kind.Read h = refl
      pick true kind.Write h = refl
      pick true kind.Both h = refl

  -- the value of a register that may be written
  call_value : (k c x : ℕ) → is_kind_none (kind_of c) ≡ false → is_kind_read (kind_of c) ≡ false
      → refusal_in (may k (write_value c x)) ≡ first_cause (cause 0x80000005 (bad_value c x) ∷ [])
  unfolding call_verdict serve write_value bad_value first_cause kind_of is_write is_both
  call_value k c x n r = pick (eqb c 0x80B) (eqb c 0x83F) (eqb c 0x808) (eqb c 0x830) refl refl refl refl
    where
      -- a value that is taken where t holds
      taken : (t : Bool) (y : Parsed) → refusal_in (may k y) ≡ None
          → refusal_in (may k (cond t y (Err BadParameter))) ≡ first_cause (cause 0x80000005 (not t) ∷ [])
      taken true y e = e
      taken false y e = refl

      neither : (t : Bool) → is_kind_none (cond t kind.Read kind.None) ≡ false → is_kind_read (cond t kind.Read kind.None) ≡ false → ◌≡◌ {A = ℕ} 0 1
      neither true p q = cc
      neither false p q = cc

      pick : (e f g h : Bool) → eqb c 0x80B ≡ e → eqb c 0x83F ≡ f → eqb c 0x808 ≡ g → eqb c 0x830 ≡ h
          → refusal_in (may k (write_value c x)) ≡ first_cause (cause 0x80000005 (bad_value c x) ∷ [])
      pick true f g h p q s t = rw (eqb-true c 0x80B p) (simp or-false (taken (eqb x 0) (Ok (request.Local local.Eoi)) refl))
      pick false true g h p q s t = rw (eqb-true c 0x83F q) (simp or-false (taken (is_vector x) (Ok (request.Local (local.SelfIpi x))) refl))
      pick false false true h p q s t = rw (eqb-true c 0x808 s, ltb_leb 255 x) (simp or-false (taken (leb x 255) (Ok (request.Local (local.SetTpr x))) refl))
      pick false false false true p q s t = rw (eqb-true c 0x830 t) (taken (icr_legal x) (Ok (request.Icr x)) refl)
      pick false false false false p q s t = clash (neither (is_read c) (rw (p, q, s, t) at n) (rw (p, q, s, t) at r))

  call_3 : (k c x : ℕ) → refusal_in (may k (write_by (kind_of c) c x)) ≡ first_cause (call_causes k 3 c x)
  unfolding call_verdict serve call_causes bad_ecx first_cause
  call_3 k c x = pick (in_table c) (kind_of c) (outside_none c) (call_value k c x)
    where
      pick : (t : Bool) (y : Kind) → (t ≡ false → y ≡ kind.None)
          → (is_kind_none y ≡ false → is_kind_read y ≡ false → refusal_in (may k (write_value c x)) ≡ first_cause (cause 0x80000005 (bad_value c x) ∷ []))
          → refusal_in (may k (write_by y c x))
          ≡ first_cause (cause 0x80000003 (not t) ∷ cause 0x80000003 (is_kind_none y) ∷ cause 0x80000005 (is_kind_read y) ∷ cause 0x80000005 (bad_value c x) ∷ [])
      pick false y h v = rw (h refl)
      pick true kind.None h v = refl
      pick true kind.Read h v = refl
      pick true kind.Write h v = v refl refl
      pick true kind.Both h v = v refl refl

  -- what call 4 takes, in both statements
  named_is : (c : ℕ) → (eqb (c / 2 ^ 9) 0 && allowable (c % 2 ^ 8)) ≡ nameable c
  unfolding nameable
  named_is c =
      and_comm (eqb (c / 2 ^ 9) 0) (allowable (c % 256))
      ∙ ap₂ ◌&&◌ (turn (within 31 255 (c % 256)) (eqb (c % 256) 18) (eqb (c % 256) 2)) (low (ltb c 512) refl)
    where
      low : (b : Bool) → ltb c 512 ≡ b → eqb (c / 2 ^ 9) 0 ≡ b
      low true e = let h = ltb-true c 512 e in eq-eqb (c / 2 ^ 9) 0 (omega arith)
      low false e = let h = ltb-false c 512 e in ne_eqb (c / 2 ^ 9) 0 (λ (q : c / 2 ^ 9 ≡ 0). omega arith)

      turn : (a b d : Bool) → (a || b || d) ≡ (d || b || a)
      turn true true true = refl
      turn true true false = refl
      turn true false true = refl
      turn true false false = refl
      turn false true true = refl
      turn false true false = refl
      turn false false true = refl
      turn false false false = refl

  call_4 : (k c x : ℕ) → refusal_in (may k (permission c)) ≡ first_cause (call_causes k 4 c x)
  unfolding call_verdict serve permission call_causes bad_ecx first_cause
  call_4 k c x =
      pick (nameable c) (bit_at c 8) ∙ ap (λ (t : Bool). first_cause (cause 0x80000005 (not t) ∷ [])) (sym (named_is c))
    where
      pick : (t b : Bool)
          → refusal_in (may k (cond t (cond b (Ok (request.Local (local.Allow (c % 256)))) (Ok (request.Local (local.Disallow (c % 256))))) bad))
          ≡ first_cause (cause 0x80000005 (not t) ∷ [])
      pick true true = refl
      pick true false = refl
      pick false b = refl

  pub numbers : (k op c x : ℕ) → refusal_in (may k (request_of op c x)) ≡ first_cause (call_causes k op c x)
  unfolding call_verdict serve request_of call_causes bad_ecx first_cause
  numbers k zero c x = refl
  numbers k (suc zero) c x = call_1 k c x
  numbers k (suc (suc zero)) c x = call_2 k c x
  numbers k (suc (suc (suc zero))) c x = call_3 k c x
  numbers k (suc (suc (suc (suc zero)))) c x = call_4 k c x
  numbers k (suc (suc (suc (suc (suc op))))) c x =
      let d = suc (suc (suc (suc (suc op)))) in
      let at = eqb_above d in
      rw (at 0 (omega arith), at 1 (omega arith), at 2 (omega arith), at 3 (omega arith), at 4 (omega arith), lt-ltb 4 d (omega arith))
