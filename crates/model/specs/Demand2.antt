-- Demand 2: the gate is what kernels expect (13.6 to 13.18, 13.35 to 13.38, 13.41 to 13.48, 13.50, 13.51, 13.53 to 13.58, 13.60, 13.63, 13.65, 13.66, 13.70 to
-- 13.72). What an event leaves alone is said in Touches, where what it moves ends in Moves. That each event's result, module and page are those of `step` and
-- `start` is said by the functions' contracts; here is what else is claimed of them.
-- Assumes nothing.
use Rattle.std.specs.Prelude.{◌≡◌, Bool, true, false, cond, not, ◌&&◌, ◌||◌, List, map, ℕ, ◌+◌, ◌%◌, ◌^◌, ◌<◌, ◌≤◌, ltb, eqb, length, get_or}
use Rattle.std.specs.Prelude.{None}
use Rattle.std.specs.Int.Bits.{bit_or}
use Rattle.model.specs.declared.Item.{Item}
use Rattle.model.specs.declared.Item.TheVariants.{MachineCheck, Vector}
use Rattle.model.specs.declared.InFlight.TheVariants.{Nothing}
use Rattle.model.specs.declared.Vcpu.{Vcpu}
use Rattle.model.specs.declared.Module.{Module}
use Rattle.model.specs.State.{is_active, size, vcpu_at, start, with_vcpu, with_machine_check, with_icr}
use Rattle.model.specs.Codes.{Answer, done, counted, answers, coded, refusal_of, code_in, presented_in}
use Rattle.model.specs.Items.{InRange, is_item, item_count, item_in_flight, pending}
use Rattle.model.specs.Doorbell.{bit_of, announces, descriptor, map_bits, announcing_bit, Part, is_level, in_part, admitted, items}
use Rattle.model.specs.Registers.{within}
use Rattle.model.specs.Ipi.{icr_legal, icr_item, icr_target, hits}
use Rattle.model.specs.Events.{Act, notice, call, entry, non_delivery, hand_back, allow, at, Bytes, Event, Out, step, next, run, final}
use Rattle.model.specs.Causes.{is_hand_back}
use Rattle.model.specs.Reached.{Sound}
use Rattle.vector_set.specs.Bits.{bit_at}
use Rattle.vector_set.specs.Sets.{has, full, difference, highest}

-- ---- the read-back
-- a page with work announced at the VMPL l (13.10)
unfoldable pub announce : ℕ → Bytes → Bytes
announce l p = map_bits (λ k b. b || eqb k (announcing_bit l)) p

-- the NMI, the machine check, the highest level-sensitive vector and the edge set that are pending at a record (13.11)
unfoldable pub pending_part : Vcpu → Part
pending_part v =
    record {
      nmi = v.nmi;
      machine_check = v.machine_check;
      level = highest v.irr_level;
      edge = difference v.irr v.irr_level;
    }

-- after the hand-back of the vCPU i on the module m, if it is accepted, the notice rule reads in the page what was pending before it (13.10 to 13.12)
abbrev pub ReadsBack : Module → ℕ → Bytes → Bool → Bool → Type 0
ReadsBack m i p iF sh =
    (r : ℕ) → (step m (at i (hand_back p iF sh))).result ≡ done r
    → admitted m.vmpl full (announce m.vmpl (step m (at i (hand_back p iF sh))).page) ≡ pending_part (vcpu_at m i)

-- ---- the ICR
-- a reserved bit (7.8)
abbrev pub is_reserved : ℕ → Bool
is_reserved k = within 12 13 k || within 16 17 k || within 20 31 k

-- a bit that may be either (7.5)
abbrev pub is14_or15 : ℕ → Bool
is14_or15 k = eqb k 14 || eqb k 15

-- two values that are equal in every bit but 14 and 15 (13.35)
abbrev pub EqualBut14And15 : ℕ → ℕ → Type 0
EqualBut14And15 x y = (k : ℕ) → is14_or15 k ≡ false → bit_at x k ≡ bit_at y k

-- both legal or neither, with one item and one target (13.35)
pub record SameDelivery (x y : ℕ) : Type 0 where
  pub legal : icr_legal x ≡ icr_legal y
  pub item : icr_item x ≡ icr_item y
  pub target : icr_target x ≡ icr_target y

-- the vCPU i writes x to the ICR
abbrev pub writes_icr : ℕ → ℕ → Event
writes_icr i x = at i (call 3 0x830 x)

-- the vCPU i writes x to the self-IPI register
abbrev pub sends_self : ℕ → ℕ → Event
sends_self i x = at i (call 3 0x83F x)

-- a module with x in the ICR of the vCPU i
abbrev pub with_icr_at : ℕ → ℕ → Module → Module
with_icr_at i x m = with_vcpu m i (with_icr x (vcpu_at m i))

-- i's writes of x and of y on the module m have one result, and leave modules that differ in i's ICR at most (13.36)
pub record SameWrite (m : Module) (i x y : ℕ) : Type 0 where
  pub result : (step m (writes_icr i x)).result ≡ (step m (writes_icr i y)).result
  pub after : with_icr_at i 0 (next m (writes_icr i x)) ≡ with_icr_at i 0 (next m (writes_icr i y))

-- ---- calls, and the machine check
abbrev pub is_call : Act Bytes → Bool
is_call (notice p) = false
is_call (call op c x) = true
is_call (entry iF sh bl) = false
is_call non_delivery = false
is_call (hand_back p iF sh) = false
is_call (allow cs q) = false

-- a module with no machine check pending
unfoldable pub without_machine_checks : Module → Module
without_machine_checks m = record { n = m.n; vmpl = m.vmpl; registrations = m.registrations; vcpus = map (with_machine_check false) m.vcpus }

-- ---- a list of ECX values
-- call 4 by the vCPU i with each of them, and RDX x (13.70)
abbrev pub singles : ℕ → ℕ → List ℕ → List Event
singles i x cs = map (λ c. at i (call 4 c x)) cs

-- the code of each event of a list (13.71)
abbrev pub codes_of : Module → List Event → List ℕ
codes_of m es = map (λ (o : Out). code_in o.result) (run m es)

-- ---- the claim
-- a request: a notice, a guest call, which may be an IPI, or a list of values (13.17)
abbrev pub is_request : Act Bytes → Bool
is_request (notice p) = true
is_request (call op c x) = true
is_request (entry iF sh bl) = false
is_request non_delivery = false
is_request (hand_back p iF sh) = false
is_request (allow cs q) = true

pub record Demand2 : Type 0 where
  pub reached : (n l : ℕ) (es : List Event) (i : ℕ) → Sound (vcpu_at (final (start n l) es) i)
  pub read_back : (n l : ℕ) (es : List Event) (i : ℕ) (p : Bytes) (iF sh : Bool) → ReadsBack (final (start n l) es) i p iF sh
  -- of every module value: a notice, a guest call and a list of values take no vector out of PL, on any vCPU (13.17)
  pub keeps_level : (m : Module) (e : Event) (j x : ℕ) → x < 256 → is_request e.act ≡ true
      → has (vcpu_at m j).irr_level x ≡ true → has (vcpu_at (next m e) j).irr_level x ≡ true
  -- of every module value: a guest call, an IPI among them, takes nothing away that is pending, on any vCPU (13.41)
  pub calls_keep_pending : (m : Module) (i op c x j : ℕ) (y : Item) → InRange y → pending y (vcpu_at m j) ≡ true
      → pending y (vcpu_at (next m (at i (call op c x))) j) ≡ true
  -- of every module value: the record of a vCPU that is not active changes by its own hand-back alone
  pub keeps_inactive : (m : Module) (e : Event) (j : ℕ) → is_active (vcpu_at m j).phase ≡ false → (is_hand_back e.act && eqb j e.vcpu) ≡ false
      → vcpu_at (next m e) j ≡ vcpu_at m j
  -- of every ICR value: a reserved bit refuses it (13.38)
  pub reserved : (x k : ℕ) → is_reserved k ≡ true → bit_at x k ≡ true → icr_legal x ≡ false
  -- bits 14 and 15 have no part in what is sent; a value and the value with one of them set differ in no other bit (13.35)
  pub set_apart : (x b : ℕ) → is14_or15 b ≡ true → EqualBut14And15 x (bit_or x (2 ^ b))
  pub same_delivery : (x y : ℕ) → EqualBut14And15 x y → SameDelivery x y
  -- of every module value: nor in what the write gives and leaves, the ICR apart (13.36)
  pub same_write : (m : Module) (i x y : ℕ) → EqualBut14And15 x y → SameWrite m i x y
  -- of every module value: a read right after an accepted write gives what was written (13.37)
  pub icr_reads : (m : Module) (i x z r : ℕ) → (step m (writes_icr i x)).result ≡ done r
      → (step (next m (writes_icr i x)) (at i (call 2 0x830 z))).result ≡ done x
  -- of every module value: a notice's first number counts the items that were not pending at its vCPU before it and are after it (13.42)
  pub notice_new : (m : Module) (i : ℕ) (p : Bytes) (a b : ℕ) → (step m (at i (notice p))).result ≡ counted a b
      → a ≡ item_count (λ x. pending x (vcpu_at (next m (at i (notice p))) i) && not (pending x (vcpu_at m i)))
  -- and the two together are its number of admitted items, which was its answer before there were two (13.43)
  pub notice_sum : (m : Module) (i : ℕ) (p : Bytes) (a b : ℕ) → (step m (at i (notice p))).result ≡ counted a b
      → a + b ≡ items (admitted m.vmpl (vcpu_at m i).allowed p)
  -- of every module value: bit k of an IPI's answer says that the item was not pending at the vCPU k before it and is after it (13.44, 13.45)
  pub icr_names : (m : Module) (i x r k : ℕ) → (step m (writes_icr i x)).result ≡ done r
      → bit_at r k ≡ (pending (icr_item x) (vcpu_at (next m (writes_icr i x)) k) && not (pending (icr_item x) (vcpu_at m k)))
  pub self_names : (m : Module) (i x r k : ℕ) → (step m (sends_self i x)).result ≡ done r
      → bit_at r k ≡ (pending (Vector x) (vcpu_at (next m (sends_self i x)) k) && not (pending (Vector x) (vcpu_at m k)))
  -- and every active target has it pending afterwards, named or not (13.46)
  pub icr_reaches : (m : Module) (i x r k : ℕ) → (step m (writes_icr i x)).result ≡ done r → k < size m → hits (icr_target x) i k ≡ true
      → is_active (vcpu_at m k).phase ≡ true → pending (icr_item x) (vcpu_at (next m (writes_icr i x)) k) ≡ true
  -- of every module value: after an accepted notice what was pending at its vCPU and what it admits is pending there, and nothing else (13.47)
  pub notice_pends : (m : Module) (i : ℕ) (p : Bytes) (a b : ℕ) (x : Item) → InRange x → (step m (at i (notice p))).result ≡ counted a b
      → pending x (vcpu_at (next m (at i (notice p))) i) ≡ (pending x (vcpu_at m i) || in_part x (admitted m.vmpl (vcpu_at m i).allowed p))
  -- PL gains its level-sensitive vector and no other, and loses none (13.51)
  pub notice_levels : (m : Module) (i : ℕ) (p : Bytes) (a b x : ℕ) → x < 256 → (step m (at i (notice p))).result ≡ counted a b
      → has (vcpu_at (next m (at i (notice p))) i).irr_level x
      ≡ (has (vcpu_at m i).irr_level x || is_level (admitted m.vmpl (vcpu_at m i).allowed p).level x)
  -- of every module value: after an accepted self-IPI its vector is pending at the caller (13.48)
  pub self_reaches : (m : Module) (i x r : ℕ) → (step m (sends_self i x)).result ≡ done r → pending (Vector x) (vcpu_at (next m (sends_self i x)) i) ≡ true
  -- of every module value: no event changes a place at n or above (13.50)
  pub keeps_beyond : (m : Module) (e : Event) (j : ℕ) → size m ≤ j → vcpu_at (next m e) j ≡ vcpu_at m j
  -- of every module value: an accepted entry presents the machine check exactly where it is pending, whatever else is pending, in service or held back
  -- (13.53)
  pub machine_check_first : (m : Module) (i : ℕ) (iF sh bl : Bool) (a : Answer) → (step m (at i (entry iF sh bl))).result ≡ answers a
      → is_item MachineCheck (presented_in a) ≡ pending MachineCheck (vcpu_at m i)
  -- of every module value: after an accepted entry what it presented is pending there no more, and of every other item nothing changed (13.54)
  pub entry_pends : (m : Module) (i : ℕ) (iF sh bl : Bool) (a : Answer) (x : Item) → InRange x → (step m (at i (entry iF sh bl))).result ≡ answers a
      → pending x (vcpu_at (next m (at i (entry iF sh bl))) i) ≡ (not (is_item x (presented_in a)) && pending x (vcpu_at m i))
  -- and what it presented, if anything, is in flight there (13.55)
  pub entry_flight : (m : Module) (i : ℕ) (iF sh bl : Bool) (a : Answer) → (step m (at i (entry iF sh bl))).result ≡ answers a
      → item_in_flight (vcpu_at (next m (at i (entry iF sh bl))) i).flight ≡ presented_in a
  -- of every module value: after an accepted non-delivery what was pending there and what was in flight is pending there, and nothing else (13.56)
  pub return_pends : (m : Module) (i r : ℕ) (x : Item) → InRange x → (step m (at i non_delivery)).result ≡ done r
      → pending x (vcpu_at (next m (at i non_delivery)) i) ≡ (is_item x (item_in_flight (vcpu_at m i).flight) || pending x (vcpu_at m i))
  -- and nothing is in flight there (13.57)
  pub return_flight : (m : Module) (i r : ℕ) → (step m (at i non_delivery)).result ≡ done r → (vcpu_at (next m (at i non_delivery)) i).flight ≡ Nothing
  -- of every module value: after an accepted hand-back nothing is pending there (13.58)
  pub hand_back_empties : (m : Module) (i r : ℕ) (p : Bytes) (iF sh : Bool) (x : Item) → InRange x → (step m (at i (hand_back p iF sh))).result ≡ done r
      → pending x (vcpu_at (next m (at i (hand_back p iF sh))) i) ≡ false
  -- of every module value: a guest call reads the mark of no machine check: with all of them cleared it has the same result, and it leaves the same module
  -- with all of them cleared (13.60)
  pub calls_apart : (m : Module) (i op c x : ℕ)
      → ((step (without_machine_checks m) (at i (call op c x))).result ≡ (step m (at i (call op c x))).result)
      × (next (without_machine_checks m) (at i (call op c x)) ≡ without_machine_checks (next m (at i (call op c x))))
  -- of every module value: after an accepted call nothing is in flight at the caller (13.63)
  pub calls_forget : (m : Module) (i op c x r : ℕ) → (step m (at i (call op c x))).result ≡ done r
      → (vcpu_at (next m (at i (call op c x))) i).flight ≡ Nothing
  -- of every set and page: the NMI and the machine check are admitted by an announcement, their own bit and their own member, and by nothing else (13.66)
  pub nmi_admitted : (l : ℕ) (a : List ℕ) (p : Bytes) → (admitted l a p).nmi ≡ (announces l p && bit_of (descriptor l p) 8 && has a 2)
  pub machine_check_admitted : (l : ℕ) (a : List ℕ) (p : Bytes) → (admitted l a p).machine_check ≡ (announces l p && bit_of (descriptor l p) 9 && has a 18)
  -- of every module value: an accepted call 4 puts its vector into A or takes it out, by bit 8, and no other (13.65)
  pub call_permits : (m : Module) (i c x r y : ℕ) → y < 256 → (step m (at i (call 4 c x))).result ≡ done r
      → has (vcpu_at (next m (at i (call 4 c x))) i).allowed y ≡ cond (eqb y (c % 256)) (bit_at c 8) (has (vcpu_at m i).allowed y)
  -- of every module value: a list whose lengths fit leaves the module that its single calls leave, whatever their RDX (13.70)
  pub list_is_calls : (m : Module) (i x : ℕ) (cs : List ℕ) (q : Bytes) → length cs ≤ 256 → length cs ≤ length q
      → next m (at i (allow cs q)) ≡ final m (singles i x cs)
  -- an accepted one gives 0 and the codes of those calls (13.71)
  pub list_gives : (m : Module) (i x : ℕ) (cs : List ℕ) (q : Bytes) → refusal_of (step m (at i (allow cs q))).result ≡ None
      → (step m (at i (allow cs q))).result ≡ coded 0 (codes_of m (singles i x cs))
  -- its second list keeps its length, and has a code at the place of each value and at every other place what it had (13.72)
  pub list_writes : (m : Module) (i x : ℕ) (cs : List ℕ) (q : Bytes) → refusal_of (step m (at i (allow cs q))).result ≡ None
      → (length (step m (at i (allow cs q))).page ≡ length q)
      × ((j : ℕ) → get_or (step m (at i (allow cs q))).page j 0 ≡ cond (ltb j (length cs)) (get_or (codes_of m (singles i x cs)) j 0) (get_or q j 0))
