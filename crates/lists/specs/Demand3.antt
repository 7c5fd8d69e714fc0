-- Demand 3: isolation and the bound on presentations, one claim over whole lists of events (13.19 to 13.30, 13.34).
-- Assumes nothing.
use Rattle.std.specs.Prelude.{◌≡◌, true, List, map, ℕ, ◌+◌, ◌≤◌}
use Rattle.model.specs.declared.Item.{Item}
use Rattle.model.specs.declared.Module.{Module}
use Rattle.model.specs.State.{vcpu_at, start}
use Rattle.model.specs.Codes.{Result, done, counted, answers, coded, refused}
use Rattle.model.specs.Items.{InRange, IsVector, member_of, pending}
use Rattle.model.specs.Doorbell.{Part, in_part, no_part, admitted, items}
use Rattle.model.specs.Events.{notice, at, Bytes, Event, step, final}
use Rattle.lists.specs.Book.{Book, record_at, note, book_of, feed_all, part_by, parts}
use Rattle.lists.specs.Lists.{results, pages, struck, AllAlike}
use Rattle.lists.specs.Ledger.{ledger_of}
use Rattle.vector_set.specs.Bits.{one}
use Rattle.vector_set.specs.Sets.{has}

-- the book after the list es, from the module m
abbrev pub book_after : Module → List Event → Book
book_after m es = feed_all (book_of m) (map note es)

-- the result of a notice, what it admits by the book, s, and by the record, t: an accepted one admits the same, and its two numbers add up to
-- that of its items; a refused one admits nothing (13.24, 13.25)
abbrev pub Exact : Result → Part → Part → Type 0
Exact (done x) s t = ⊥
Exact (counted a b) s t = (a + b ≡ items s) × (s ≡ t)
Exact (answers a) s t = ⊥
Exact (coded x ks) s t = ⊥
Exact (refused c) s t = s ≡ no_part

-- ---- of lists played on any module value m
pub record Isolated (m : Module) : Type 0 where
  -- two lists that differ in bytes of notices alone, and admit the same, run the same
  pub same : (ds es : List Event) → AllAlike ds es → parts m.vmpl (book_of m) ds ≡ parts m.vmpl (book_of m) es
      → (results m ds ≡ results m es) × (pages m ds ≡ pages m es) × (final m ds ≡ final m es)
  -- the book has the final module's n, count, phases and allowed sets
  pub book : (es : List Event) → book_after m es ≡ book_of (final m es)
  -- and it has them with the notices struck out
  pub unread : (es : List Event) → book_after m (struck es) ≡ book_after m es
  -- what an event admits by the book is allowed by the book on its vCPU, and is the NMI, the machine check or a vector 31 to 255
  pub allowed : (es : List Event) (e : Event) (x : Item) → InRange x → in_part x (part_by m.vmpl (book_after m es) e) ≡ true
      → (has (record_at (book_after m es) e.vcpu).allowed (member_of x) ≡ true) × IsVector x
  -- the book's admitted part is the machine's, no more and no less
  pub exact : (es : List Event) (i : ℕ) (p : Bytes)
      → Exact (step (final m es) (at i (notice p))).result (part_by m.vmpl (book_after m es) (at i (notice p)))
      (admitted m.vmpl (vcpu_at (final m es) i).allowed p)
  -- nothing is presented on a vCPU more often than it was pending there at first, admitted, sent and returned, counted together
  pub most : (es : List Event) (j : ℕ) (x : Item) → InRange x
      → (ledger_of m j x es).presented
      ≤ one (pending x (vcpu_at m j)) + (ledger_of m j x es).admitted + (ledger_of m j x es).sent + (ledger_of m j x es).returned

-- from every module value (13.28)
abbrev pub FromAny : Type 0
FromAny = (m : Module) → Isolated m

-- ---- the demand: lists played on what start gives, refused or not
pub record Demand3 (n l : ℕ) : Type 0 where
  pub isolated : Isolated (start n l)
  -- nothing is pending there at first
  pub most : (es : List Event) (j : ℕ) (x : Item) → InRange x
      → (ledger_of (start n l) j x es).presented
      ≤ (ledger_of (start n l) j x es).admitted + (ledger_of (start n l) j x es).sent + (ledger_of (start n l) j x es).returned
