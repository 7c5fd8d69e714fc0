-- Demand 3, proved from any module value and for what start gives.
-- Assumes nothing.
use mathlib.Core.Path.{sym, ap, ◌∙◌, subst}
use mathlib.Core.List.{List}
use Prim.Native.Nat.{ℕ}
use native.Mathlib.Omega.{arith}
use Rattle.model.specs.declared.Module.{Module}
use Rattle.model.specs.State.{vcpu_at, start}
use Rattle.model.specs.Doorbell.{admitted, items}
use Rattle.model.specs.Events.{notice, at, Bytes, Event, effect, concluded, step, final}
use Rattle.lists.specs.Book.{book_of, part_by}
use Rattle.lists.specs.Demand3.{book_after, Exact, FromAny, Demand3}
use Rattle.vector_set.specs.Bits.{one}
use Rattle.model.proofs.NoticeCounts.{items_sum}
use Rattle.model.proofs.Stored.{by_verdict_lem}
use Rattle.lists.proofs.Follow.{follow_all, struck_book, part_accepted, part_refused}
use Rattle.model.proofs.Stays.{vmpl_final}
use Rattle.lists.proofs.Alike.{alike}
use Rattle.lists.proofs.Parts.{part_fits}
use Rattle.lists.proofs.Invariant.{bounded}
use Rattle.lists.proofs.Pending.{fresh_pending}

-- ---- an accepted notice admits by the book what it admits by the record, and its numbers add up to that of its items; a refused one admits nothing
pub exact_at : (m : Module) (i : ℕ) (p : Bytes)
    → Exact (step m (at i (notice p))).result (part_by m.vmpl (book_of m) (at i (notice p))) (admitted m.vmpl (vcpu_at m i).allowed p)
unfolding concluded effect
exact_at m i p =
    by_verdict_lem m (at i (notice p)) (λ o. Exact o.result (part_by m.vmpl (book_of m) (at i (notice p))) (admitted m.vmpl (vcpu_at m i).allowed p))
    (λ c h. part_refused m i p c h)
    (λ h. (items_sum m.vmpl (vcpu_at m i).allowed p (vcpu_at m i) ∙ ap items (sym (part_accepted m i p h)), part_accepted m i p h))

exact_after : (m : Module) (es : List Event) (i : ℕ) (p : Bytes)
    → Exact (step (final m es) (at i (notice p))).result (part_by m.vmpl (book_after m es) (at i (notice p)))
    (admitted m.vmpl (vcpu_at (final m es) i).allowed p)
exact_after m es i p =
    rw (follow_all es m)
    (subst
    (λ (k : ℕ). Exact (step (final m es) (at i (notice p))).result (part_by k (book_of (final m es)) (at i (notice p)))
    (admitted k (vcpu_at (final m es) i).allowed p))
    (vmpl_final es m) (exact_at (final m es) i p))

-- ---- from any module value
pub isolated : FromAny
isolated m =
    record {
      same = λ ds es a h. alike m a h;
      book = λ es. follow_all es m;
      unread = λ es. struck_book es (book_of m);
      allowed = λ es e x r h. part_fits m.vmpl (book_after m es) e x r h;
      exact = exact_after m;
      most = bounded m;
    }

-- ---- what start gives
pub demand3 : (n l : ℕ) → Demand3 n l
demand3 n l =
    record {
      isolated = isolated (start n l);
      most = λ es j x r. (let q = ap one (fresh_pending n l j x r) in omega (arith, q, bounded (start n l) es j x r));
    }
