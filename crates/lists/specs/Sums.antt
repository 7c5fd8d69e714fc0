-- Every request accounted for: the sums, over every list of events (13.88 to 13.99).
-- Assumes nothing.
use Rattle.std.specs.Prelude.{◌≡◌, Bool, false, not, ◌&&◌, ◌||◌, List, [], ◌∷◌, ◌++◌, ℕ, ◌+◌, ltb, eqb}
use Rattle.std.specs.Prelude.{None}
use Rattle.model.specs.declared.Item.{Item}
use Rattle.model.specs.declared.Item.TheVariants as item
use Rattle.model.specs.declared.Module.{Module}
use Rattle.model.specs.State.{is_active, size, vcpu_at, start}
use Rattle.model.specs.Codes.{done, counted, accepted, presented_by}
use Rattle.model.specs.Items.{InRange, same_item, is_item, item_in_flight, item_count, pending}
use Rattle.model.specs.Doorbell.{in_part, admitted}
use Rattle.model.specs.Ipi.{icr_item, icr_target, hits}
use Rattle.model.specs.Events.{Act, notice, call, entry, non_delivery, hand_back, allow, at, Bytes, Event, step, final}
use Rattle.model.specs.Causes.{is_non_delivery, is_hand_back}
use Rattle.model.specs.Demand2.{writes_icr, sends_self}
use Rattle.lists.specs.Book.{book_of}
use Rattle.lists.specs.Lists.{results, names}
use Rattle.lists.specs.Ledger.{Ledger, requests, opened, ledger, ledger_of}
use Rattle.vector_set.specs.Bits.{one}

-- requests and returns of an item at a vCPU (12.27, 12.28)
abbrev pub arrivals : Ledger → ℕ
arrivals g = requests g + g.returned

-- what became of them, but for the one that may be pending: merged, presented, handed back (12.30, 12.31, 13.93)
abbrev pub settled : Ledger → ℕ
settled g = g.waiting.merged + g.presented + g.waiting.handed_back

-- the list and one event more
abbrev pub more : List Event → Event → List Event
more es e = es ++ (e ∷ [])

-- ---- what an event e on the module m is to the item x at the vCPU j, told by the machine's own state and not by the book
abbrev pub is_accepted : Module → Event → Bool
is_accepted m e = accepted (step m e).result

-- its act asks for it (13.91)
abbrev pub requested_by : Module → ℕ → Item → ℕ → Act Bytes → Bool
requested_by m j x i (notice p) = eqb j i && in_part x (admitted m.vmpl (vcpu_at m i).allowed p)
requested_by m j x i (call op c y) =
    eqb op 3
    && ((eqb c 0x830 && (same_item x (icr_item y) && (ltb j (size m) && hits (icr_target y) i j && is_active (vcpu_at m j).phase)))
    || (eqb c 0x83F && (same_item x (item.Vector y) && eqb j i)))
requested_by m j x i (entry iF sh bl) = false
requested_by m j x i non_delivery = false
requested_by m j x i (hand_back p iF sh) = false
requested_by m j x i (allow cs q) = false

-- a request: a notice that admits it there, an ICR write with j, below n and active, among its targets, or a self-IPI by j (13.91)
abbrev pub requests_at : Module → ℕ → Item → Event → Bool
requests_at m j x e = is_accepted m e && requested_by m j x e.vcpu e.act

-- a return: of what is in flight (13.92)
abbrev pub returns_at : Module → ℕ → Item → Event → Bool
returns_at m j x e = is_accepted m e && (is_non_delivery e.act && (is_item x (item_in_flight (vcpu_at m j).flight) && eqb j e.vcpu))

-- a presentation (13.93)
abbrev pub presents_at : Module → ℕ → Item → Event → Bool
presents_at m j x e = is_item x (presented_by (step m e).result) && eqb j e.vcpu

-- an accepted hand-back there (13.95)
abbrev pub hands_back_at : Module → ℕ → Event → Bool
hands_back_at m j e = is_hand_back e.act && is_accepted m e && eqb j e.vcpu

-- what an event adds, from the ledger g to the ledger h. The Bools say whether it is a request, a return, a presentation and an accepted hand-back,
-- and whether the item was pending before it
pub record EventAdds (asks returns presents handsBack wasPending : Bool) (g h : Ledger) : Type 0 where
  -- each grows by one where the event is one of them (13.91 to 13.93)
  pub requested : requests h ≡ requests g + one asks
  pub returned : h.returned ≡ g.returned + one returns
  pub presented : h.presented ≡ g.presented + one presents
  -- merged where it was pending (13.94)
  pub merged : h.waiting.merged ≡ g.waiting.merged + one ((asks || returns) && wasPending)
  -- handed back where it was pending, whether the page names it or not (12.31, 13.95)
  pub handed_back : h.waiting.handed_back ≡ g.waiting.handed_back + one (handsBack && wasPending)
  -- it waits then if it was requested or returned, or waited and was neither presented nor handed back (13.96)
  pub waits : h.waiting.waits ≡ (asks || returns || (not presents && not handsBack && g.waiting.waits))
  -- it was requested or returned at most once (13.97)
  pub once : arrivals h ≡ arrivals g + one (asks || returns)

-- a count has grown from one ledger to the next
abbrev pub grew : (Ledger → ℕ) → Ledger → Ledger → Bool
grew f g h = ltb (f g) (f h)

-- ---- of lists played on any module value m
pub record Balanced (m : Module) : Type 0 where
  -- the two sides are equal, with what was pending at first on the left (13.88, 13.90)
  pub balance : (es : List Event) (j : ℕ) (x : Item) → InRange x
      → one (pending x (vcpu_at m j)) + arrivals (ledger_of m j x es) ≡ settled (ledger_of m j x es) + one (pending x (vcpu_at (final m es) j))
  -- what waits by the ledger is what is pending in the final module (13.89)
  pub waiting : (es : List Event) (j : ℕ) (x : Item) → InRange x → (ledger_of m j x es).waiting.waits ≡ pending x (vcpu_at (final m es) j)
  -- before the first event every count is 0 (13.90)
  pub opens : (j : ℕ) (x : Item) → arrivals (ledger_of m j x []) + settled (ledger_of m j x []) ≡ 0
  -- and each event raises them by what it is to the machine (13.91 to 13.97)
  pub adds : (es : List Event) (e : Event) (j : ℕ) (x : Item) → InRange x
      → EventAdds (requests_at (final m es) j x e) (returns_at (final m es) j x e) (presents_at (final m es) j x e) (hands_back_at (final m es) j e)
      (pending x (vcpu_at (final m es) j)) (ledger_of m j x es) (ledger_of m j x (more es e))
  -- the second number of an accepted notice is the number of items that it merged at its vCPU (13.98)
  pub second : (es : List Event) (i : ℕ) (p : Bytes) (a b : ℕ) → (step (final m es) (at i (notice p))).result ≡ counted a b
      → b ≡ item_count (λ x. grew (λ g. g.waiting.merged) (ledger_of m i x es) (ledger_of m i x (more es (at i (notice p)))))
  -- the answer of an accepted ICR write names the vCPUs where it is a request and was not merged (13.99)
  pub named : (es : List Event) (i y r k : ℕ) → (step (final m es) (writes_icr i y)).result ≡ done r
      → names k (done r)
      ≡ (grew requests (ledger_of m k (icr_item y) es) (ledger_of m k (icr_item y) (more es (writes_icr i y)))
      && not (grew (λ g. g.waiting.merged) (ledger_of m k (icr_item y) es) (ledger_of m k (icr_item y) (more es (writes_icr i y)))))
  -- and that of a self-IPI (13.99)
  pub self_named : (es : List Event) (i y r k : ℕ) → (step (final m es) (sends_self i y)).result ≡ done r
      → names k (done r)
      ≡ (grew requests (ledger_of m k (item.Vector y) es) (ledger_of m k (item.Vector y) (more es (sends_self i y)))
      && not (grew (λ g. g.waiting.merged) (ledger_of m k (item.Vector y) es) (ledger_of m k (item.Vector y) (more es (sends_self i y)))))

-- from every module value (13.90)
abbrev pub BalancedAny : Type 0
BalancedAny = (m : Module) → Balanced m

-- ---- of lists played on what start gives, refused or not
pub record Sums (n l : ℕ) : Type 0 where
  pub balanced : Balanced (start n l)
  -- requests + returns = merged + presented + handed back + still pending (13.88)
  pub balance : (es : List Event) (j : ℕ) (x : Item) → InRange x
      → requests (ledger_of (start n l) j x es) + (ledger_of (start n l) j x es).returned
      ≡ (ledger_of (start n l) j x es).waiting.merged + (ledger_of (start n l) j x es).presented + (ledger_of (start n l) j x es).waiting.handed_back
      + one (pending x (vcpu_at (final (start n l) es) j))
  -- there the ledger begins with nothing that waits and no entry: nothing of it is read from what a module stores (12.32)
  pub fresh : (es : List Event) (j : ℕ) (x : Item) → InRange x
      → ledger_of (start n l) j x es
      ≡ ledger j x (start n l).vmpl (book_of (start n l)) es (results (start n l) es) (opened false None)
