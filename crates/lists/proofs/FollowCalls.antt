-- The book follows a call: the book's rule, by call number and ECX, is the rule by what the machine takes the call for.
-- Assumes nothing.
use mathlib.Core.Path.{◌≡◌, refl, sym}
use mathlib.Core.Bool.{Bool, true, false, cond}
use Rattle.std.specs.Prelude.{Option, None, Some}
use Prim.Native.Nat.{ℕ, ◌+◌, ◌-◌, ◌%◌}
use lib.Dec.{leb, eqb}
use borrow.Author.Tests.{eqb-true}
use Rattle.model.specs.declared.Phase.TheVariants.{Leaving}
use Rattle.model.specs.declared.Item.TheVariants as item
use Rattle.model.specs.declared.Kind.{Kind}
use Rattle.model.specs.declared.Kind.TheVariants as kind
use Rattle.model.specs.declared.Refusal.{Refusal}
use Rattle.model.specs.declared.Refusal.TheVariants.{RegistrationsFull, NotRegistered}
use Rattle.model.specs.declared.Local.{Local}
use Rattle.model.specs.declared.Local.TheVariants as local
use Rattle.std.specs.Prelude.{Ok, Err}
use Rattle.model.specs.Requests.{Parsed}
use Rattle.model.specs.declared.Request.TheVariants as request
use Rattle.model.specs.declared.Vcpu.{Vcpu}
use Rattle.model.specs.declared.Module.{Module}
use Rattle.model.specs.State.{vcpu_at, with_vcpu, with_registrations}
use Rattle.model.specs.Codes.{accept, refuse, need}
use Rattle.model.specs.Registers.{kind_of, ended_at, ended}
use Rattle.model.specs.Ipi.{icr_legal}
use Rattle.model.specs.Requests.{bad, registration, read_by, write_value, write_by, nameable, permission, request_of, forget, leave_if, serve, call_verdict}
use Rattle.model.specs.Events.{call_effect, concluded}
use Rattle.lists.specs.Book.{BookRecord, Book, record_of, book_of, record_at, with_record, with_count, with_phase}
use Rattle.lists.specs.Book.{leaves_at_zero, takes_one, adds_one, registers, permits, called}
use Rattle.vector_set.specs.Bits.{bit_at}
use Rattle.vector_set.specs.Sets.{insert, remove, is_vector}
use Rattle.vector_set.proofs.Laws.{clash}
use Rattle.model.proofs.Stored.{count_same, taken, left_alone}
use Rattle.lists.proofs.BookLaws.{record_book, book_put, book_put_same, book_count, record_mark, book_sent}

-- ---- the rule on calls, by what their numbers ask for
abbrev serves : ℕ → Local → Book → Book
serves i local.Features w = w
serves i local.Leave w = leaves_at_zero i w
serves i local.Release w = leaves_at_zero i (takes_one w)
serves i local.Register w = adds_one w
serves i (local.Allow x) w = with_record i (record { phase = (record_at w i).phase; allowed = insert x (record_at w i).allowed }) w
serves i (local.Disallow x) w = with_record i (record { phase = (record_at w i).phase; allowed = remove x (record_at w i).allowed }) w
serves i (local.Read r) w = w
serves i (local.SetTpr x) w = w
serves i local.Eoi w = w
serves i (local.SelfIpi x) w = w

abbrev requests : ℕ → Parsed → Book → Book
requests i (Ok (request.Local o)) w = serves i o w
requests i (Ok (request.Icr x)) w = w
requests i (Err c) w = w

module _ (i : ℕ) (w : Book) where
  registers_requests : (c : ℕ) → registers i c w ≡ requests i (registration c) w
  unfolding registers registration
  registers_requests c = pick (eqb c 0) (eqb c 1) (eqb c 2)
    where
      pick : (t₀ t₁ t₂ : Bool)
          → cond t₀ (leaves_at_zero i w) (cond t₁ (leaves_at_zero i (takes_one w)) (cond t₂ (adds_one w) w))
          ≡ requests i (cond t₀ (Ok (request.Local local.Leave)) (cond t₁ (Ok (request.Local local.Release)) (cond t₂ (Ok (request.Local local.Register)) bad))) w
      pick true t₁ t₂ = refl
      pick false true t₂ = refl
      pick false false true = refl
      pick false false false = refl

  permits_requests : (c : ℕ) → permits i c w ≡ requests i (permission c) w
  unfolding permits permission
  permits_requests c = pick (nameable c) (bit_at c 8)
    where
      pick : (a b : Bool)
          → cond a (cond b (serves i (local.Allow (c % 256)) w) (serves i (local.Disallow (c % 256)) w)) w
          ≡ requests i (cond a (cond b (Ok (request.Local (local.Allow (c % 256)))) (Ok (request.Local (local.Disallow (c % 256))))) bad) w
      pick true true = refl
      pick true false = refl
      pick false b = refl

  -- one of two requests
  either : (b : Bool) (q r : Parsed) → w ≡ requests i q w → w ≡ requests i r w → w ≡ requests i (cond b q r) w
  either true q r g h = g
  either false q r g h = h

  reads_nothing : (k : Kind) (c : ℕ) → w ≡ requests i (read_by k c) w
  reads_nothing kind.None c = refl
  reads_nothing kind.Read c = refl
  reads_nothing kind.Write c = refl
  reads_nothing kind.Both c = refl

  value_nothing : (c x : ℕ) → w ≡ requests i (write_value c x) w
  unfolding write_value
  value_nothing c x =
      either (eqb c 0x80B) _ _ (either (eqb x 0) _ _ refl refl)
      (either (eqb c 0x83F) _ _ (either (is_vector x) _ _ refl refl)
      (either (eqb c 0x808) _ _ (either (leb x 255) _ _ refl refl)
      (either (eqb c 0x830) _ _ (either (icr_legal x) _ _ refl refl) refl)))

  writes_nothing : (k : Kind) (c x : ℕ) → w ≡ requests i (write_by k c x) w
  writes_nothing kind.None c x = refl
  writes_nothing kind.Read c x = refl
  writes_nothing kind.Write c x = value_nothing c x
  writes_nothing kind.Both c x = value_nothing c x

  -- what holds of the book s op at the number n, where q is asked for, and at any other
  at_number : (s : ℕ → Book) (q r : Parsed) (n op : ℕ) → s n ≡ requests i q w → (eqb op n ≡ false → s op ≡ requests i r w)
      → s op ≡ requests i (cond (eqb op n) q r) w
  at_number s q r n op yes' no' = pick (eqb op n) refl
    where
      pick : (b : Bool) → eqb op n ≡ b → s op ≡ requests i (cond b q r) w
      pick true e = rw (eqb-true op n e) yes'
      pick false e = no' e

  -- the book's rule, by call number and ECX, is the rule by what the machine takes the call for
  pub called_requests : (op c x : ℕ) → called i op c w ≡ requests i (request_of op c x) w
  unfolding called request_of
  called_requests op c x =
      at_number (λ o. called i o c w) _ _ 0 op refl
      (λ e₀. at_number (λ o. called i o c w) _ _ 1 op (registers_requests c)
      (λ e₁. at_number (λ o. called i o c w) _ _ 2 op (reads_nothing (kind_of c) c)
      (λ e₂. at_number (λ o. called i o c w) _ _ 3 op (writes_nothing (kind_of c) c x)
      (λ e₃. at_number (λ o. called i o c w) _ _ 4 op (permits_requests c)
      (λ e₄. rw (e₁, e₄))))))

-- ---- a call
-- the count and a record are changed apart
record_count : (i : ℕ) (r : BookRecord) (k : ℕ) (w : Book) → with_record i r (with_count k w) ≡ with_count k (with_record i r w)
unfolding with_record with_count
record_count i r k w = refl

record_at_count : (k : ℕ) (w : Book) (i : ℕ) → record_at (with_count k w) i ≡ record_at w i
unfolding record_at with_count
record_at_count k w i = refl

book_store : (k : ℕ) (v : Vcpu) (i : ℕ) (m : Module) → book_of (with_registrations k (with_vcpu m i v)) ≡ with_count k (with_record i (record_of v) (book_of m))
book_store k v i m = rw (book_count, book_put)

-- where the record's phase and set are as they were, and where the count is
book_store_same : (k : ℕ) (v : Vcpu) (i : ℕ) (m : Module) → record_of v ≡ record_of (vcpu_at m i)
    → with_count k (book_of m) ≡ book_of (with_registrations k (with_vcpu m i v))
book_store_same k v i m e = rw (book_count, book_put_same m i v e)

pub nothing_stored : (v : Vcpu) (i : ℕ) (m : Module) → record_of v ≡ record_of (vcpu_at m i)
    → book_of m ≡ book_of (with_registrations m.registrations (with_vcpu m i v))
unfolding with_count book_of
nothing_stored v i m e = book_store_same m.registrations v i m e

count_stored : (v : Vcpu) (i : ℕ) (m : Module)
    → with_record i (record_of v) (book_of m) ≡ book_of (with_registrations m.registrations (with_vcpu m i v))
unfolding with_count with_record book_of
count_stored v i m = sym (book_store m.registrations v i m)

record_ended_at : (o : Option ℕ) (v : Vcpu) → record_of (ended_at o v) ≡ record_of v
unfolding ended_at
record_ended_at None v = refl
record_ended_at (Some x) v = refl

leave_at : (b : Bool) (k : ℕ) (m : Module) (i : ℕ)
    → cond b (with_record i (with_phase Leaving (record_at (with_count k (book_of m)) i)) (with_count k (book_of m))) (with_count k (book_of m))
    ≡ book_of (with_registrations k (with_vcpu m i (leave_if b (forget (vcpu_at m i)))))
leave_at true k m i = rw (record_at_count, record_count, record_book, book_store)
leave_at false k m i = book_store_same k _ i m refl

follow_leave : (m : Module) (i : ℕ)
    → leaves_at_zero i (book_of m) ≡ book_of (with_registrations m.registrations (with_vcpu m i (leave_if (eqb m.registrations 0) (forget (vcpu_at m i)))))
unfolding leaves_at_zero with_count book_of
follow_leave m i = leave_at (eqb m.registrations 0) m.registrations m i

follow_release : (m : Module) (i : ℕ)
    → leaves_at_zero i (takes_one (book_of m))
    ≡ book_of (with_registrations (m.registrations - 1) (with_vcpu m i (leave_if (eqb (m.registrations - 1) 0) (forget (vcpu_at m i)))))
unfolding leaves_at_zero takes_one with_count book_of
follow_release m i = leave_at (eqb (m.registrations - 1) 0) (m.registrations - 1) m i

-- a registration, where the count lets it be served
follow_register : (m : Module) (i : ℕ) → need (leb 1 m.registrations) NotRegistered (need (leb m.registrations 254) RegistrationsFull accept) ≡ accept
    → adds_one (book_of m) ≡ book_of (with_registrations (m.registrations + 1) (with_vcpu m i (forget (vcpu_at m i))))
unfolding adds_one book_of
follow_register m i e =
    taken (leb 1 m.registrations) (leb m.registrations 254) NotRegistered RegistrationsFull accept _ _ _ e
    (λ _. book_store_same (m.registrations + 1) (forget (vcpu_at m i)) i m refl)

-- a request that is served
follow_serve : (o : Local) (m : Module) (i : ℕ) → (serve o i m.registrations (forget (vcpu_at m i))).verdict ≡ accept
    → serves i o (book_of m)
    ≡ book_of
    (with_registrations (serve o i m.registrations (forget (vcpu_at m i))).registrations
    (with_vcpu m i (serve o i m.registrations (forget (vcpu_at m i))).vcpu))
unfolding serve ended
follow_serve local.Features m i e = nothing_stored _ i m refl
follow_serve local.Leave m i e = follow_leave m i
follow_serve local.Release m i e = follow_release m i
follow_serve local.Register m i e = follow_register m i e
follow_serve (local.Allow x) m i e = rw (record_book m i) (count_stored _ i m)
follow_serve (local.Disallow x) m i e = rw (record_book m i) (count_stored _ i m)
follow_serve (local.Read r) m i e = nothing_stored _ i m refl
follow_serve (local.SetTpr x) m i e = nothing_stored _ i m refl
follow_serve local.Eoi m i e = nothing_stored _ i m (record_ended_at _ (forget (vcpu_at m i)))
follow_serve (local.SelfIpi x) m i e = nothing_stored _ i m (record_mark (item.Vector x) (forget (vcpu_at m i)))

pub follow_request : (r : Parsed) (m : Module) (i : ℕ) → call_verdict r i m.registrations (forget (vcpu_at m i)) ≡ accept
    → requests i r (book_of m) ≡ book_of (concluded (call_effect r i m.registrations (vcpu_at m i)) i m).after
unfolding call_verdict call_effect concluded
follow_request (Ok (request.Local o)) m i e = follow_serve o m i e
follow_request (Ok (request.Icr x)) m i e = rw (book_sent, count_same) (sym (book_put_same m i _ refl))
follow_request (Err c) m i e = clash (cc)

-- one that is refused leaves the book alone
refused_serve : (o : Local) (m : Module) (i : ℕ) (c : Refusal) → (serve o i m.registrations (forget (vcpu_at m i))).verdict ≡ refuse c
    → serves i o (book_of m) ≡ book_of m
unfolding serve adds_one book_of
refused_serve local.Features m i c e = clash (cc)
refused_serve local.Leave m i c e = clash (cc)
refused_serve local.Release m i c e = clash (cc)
refused_serve local.Register m i c e =
    left_alone (leb 1 m.registrations) (leb m.registrations 254) NotRegistered RegistrationsFull c accept _ _ e (λ q. clash (cc))
refused_serve (local.Allow x) m i c e = clash (cc)
refused_serve (local.Disallow x) m i c e = clash (cc)
refused_serve (local.Read r) m i c e = clash (cc)
refused_serve (local.SetTpr x) m i c e = clash (cc)
refused_serve local.Eoi m i c e = clash (cc)
refused_serve (local.SelfIpi x) m i c e = clash (cc)

pub refused_request : (r : Parsed) (m : Module) (i : ℕ) (c : Refusal) → call_verdict r i m.registrations (forget (vcpu_at m i)) ≡ refuse c
    → requests i r (book_of m) ≡ book_of m
unfolding call_verdict
refused_request (Ok (request.Local o)) m i c e = refused_serve o m i c e
refused_request (Ok (request.Icr x)) m i c e = clash (cc)
refused_request (Err d) m i c e = refl
