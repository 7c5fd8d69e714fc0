-- The ledger: how often an item was presented, admitted, sent, returned, merged and handed back on a vCPU, and whether it waits there, folded once
-- over a list with its results (section 12). It is read from the events, the results and the book, and begins with what is pending and in flight.
-- Assumes nothing.
use Rattle.std.specs.Prelude.{◌≡◌, Bool, true, false, cond, not, ◌&&◌, ◌||◌, List, [], ◌∷◌, ℕ, ◌+◌, ltb, eqb}
use Rattle.std.specs.Prelude.{Option}
use Rattle.model.specs.declared.Item.{Item}
use Rattle.model.specs.declared.Item.TheVariants as item
use Rattle.model.specs.declared.Target.{Target}
use Rattle.model.specs.declared.Target.TheVariants.{Caller}
use Rattle.model.specs.declared.Module.{Module}
use Rattle.model.specs.State.{is_active, vcpu_at}
use Rattle.model.specs.Codes.{Result, done, counted, refused, accepted, presented_by}
use Rattle.model.specs.Items.{same_item, is_item, item_in_flight, pending}
use Rattle.model.specs.Doorbell.{Part, in_part}
use Rattle.model.specs.Ipi.{icr_item, icr_target, hits}
use Rattle.model.specs.Events.{Act, notice, call, entry, non_delivery, hand_back, allow, Bytes, Event}
use Rattle.model.specs.Demand2.{is_call}
use Rattle.lists.specs.Book.{Book, book_of, record_at, feed, note, part_by}
use Rattle.lists.specs.Lists.{results}

-- one more, if so
abbrev pub tally : Bool → ℕ → ℕ
tally true n = n + 1
tally false n = n

-- ---- whether one item waits on one vCPU, how often a request or return found it waiting, and how often an accepted hand-back did (12.29 to 12.31)
pub record Waiting : Type 0 where
  pub waits : Bool
  pub merged : ℕ
  pub handed_back : ℕ

-- after a request or return, if there is one: it is merged where the item waits, and the item waits then (12.29, 12.30)
abbrev pub after_arrival : Bool → Waiting → Waiting
after_arrival b q = record { waits = b || q.waits; merged = tally (b && q.waits) q.merged; handed_back = q.handed_back }

-- after a presentation, if there is one (12.29)
abbrev pub after_presentation : Bool → Waiting → Waiting
after_presentation b q = record { waits = not b && q.waits; merged = q.merged; handed_back = q.handed_back }

-- after an accepted hand-back, if there is one (12.29, 12.31)
abbrev pub after_hand_back : Bool → Waiting → Waiting
after_hand_back b q = record { waits = not b && q.waits; merged = q.merged; handed_back = tally (b && q.waits) q.handed_back }

-- ---- the tallies of one item on one vCPU, whether it waits there, and what the latest accepted entry there presented (12.22, 13.27)
pub record Ledger : Type 0 where
  pub presented : ℕ
  pub admitted : ℕ
  pub sent : ℕ
  pub returned : ℕ
  pub waiting : Waiting
  pub latest : Option Item

abbrev pub add_presented : Bool → Ledger → Ledger
add_presented b g =
    record {
      presented = tally b g.presented;
      admitted = g.admitted;
      sent = g.sent;
      returned = g.returned;
      waiting = after_presentation b g.waiting;
      latest = g.latest;
    }

abbrev pub add_admitted : Bool → Ledger → Ledger
add_admitted b g =
    record {
      presented = g.presented;
      admitted = tally b g.admitted;
      sent = g.sent;
      returned = g.returned;
      waiting = after_arrival b g.waiting;
      latest = g.latest;
    }

abbrev pub add_sent : Bool → Ledger → Ledger
add_sent b g =
    record {
      presented = g.presented;
      admitted = g.admitted;
      sent = tally b g.sent;
      returned = g.returned;
      waiting = after_arrival b g.waiting;
      latest = g.latest;
    }

abbrev pub add_returned : Bool → Ledger → Ledger
add_returned b g =
    record {
      presented = g.presented;
      admitted = g.admitted;
      sent = g.sent;
      returned = tally b g.returned;
      waiting = after_arrival b g.waiting;
      latest = g.latest;
    }

abbrev pub add_handed_back : Bool → Ledger → Ledger
add_handed_back b g =
    record {
      presented = g.presented;
      admitted = g.admitted;
      sent = g.sent;
      returned = g.returned;
      waiting = after_hand_back b g.waiting;
      latest = g.latest;
    }

abbrev pub with_latest : Option Item → Ledger → Ledger
with_latest o g =
    record { presented = g.presented; admitted = g.admitted; sent = g.sent; returned = g.returned; waiting = g.waiting; latest = o }

-- requests: admitted by notices, and sent by IPIs to an active target (12.27)
abbrev pub requests : Ledger → ℕ
requests g = g.admitted + g.sent

-- an IPI of the item y that i sends to the target t is one of x for j, a target active in the book (12.21)
abbrev pub reaches : ℕ → Item → Book → ℕ → Item → Target → Bool
reaches j x w i y t = same_item x y && (ltb j w.n && hits t i j && is_active (record_at w j).phase)

-- the register c written with the value y: ICR or self-IPI (7.1, 12.21)
unfoldable pub write_sends : ℕ → Item → Book → ℕ → ℕ → ℕ → Bool
write_sends j x w i c y =
    (eqb c 0x830 && reaches j x w i (icr_item y) (icr_target y)) || (eqb c 0x83F && reaches j x w i (item.Vector y) Caller)

-- what an act on the vCPU i posts for x on j, with its admitted part and its result (7.1, 12.21 to 12.23, 12.26 to 12.31, 13.27)
unfoldable pub post_act : ℕ → Item → Part → Book → ℕ → Act Bytes → Result → Ledger → Ledger
post_act j x s w i (notice p) a g = add_admitted (in_part x s && eqb j i) g
post_act j x s w i (call op c y) a g = add_sent (accepted a && (eqb op 3 && write_sends j x w i c y)) g
post_act j x s w i (entry iF sh bl) a g =
    with_latest (cond (accepted a && eqb j i) (presented_by a) g.latest) (add_presented (is_item x (presented_by a) && eqb j i) g)
post_act j x s w i non_delivery a g = add_returned (accepted a && is_item x g.latest && eqb j i) g
post_act j x s w i (hand_back p iF sh) a g = add_handed_back (accepted a && eqb j i) g
post_act j x s w i (allow cs q) a g = g

-- folded over a list with its results, at the VMPL l, under the book that the events before left (12.18 to 12.20, 12.32, 13.27)
unfoldable pub ledger : ℕ → Item → ℕ → Book → List Event → List Result → Ledger → Ledger
ledger j x l w [] rs g = g
ledger j x l w (e ∷ es) [] g = g
ledger j x l w (e ∷ es) (a ∷ rs) g =
    ledger j x l (feed w (note e)) es rs (post_act j x (part_by l w e) w e.vcpu e.act a g)

-- before any event: whether the item waits, and what an entry before the list presented, which is in flight, or nothing is (12.32, 13.28, 13.90)
abbrev pub opened : Bool → Option Item → Ledger
opened b o =
    record { presented = 0; admitted = 0; sent = 0; returned = 0; waiting = record { waits = b; merged = 0; handed_back = 0 }; latest = o }

-- of the list es played on the module m: at first what is pending there waits (13.28, 13.90)
abbrev pub ledger_of : Module → ℕ → Item → List Event → Ledger
ledger_of m j x es = ledger j x m.vmpl (book_of m) es (results m es) (opened (pending x (vcpu_at m j)) (item_in_flight (vcpu_at m j).flight))

-- nothing is posted for a refused event, which admits nothing, or for a call that writes no register (12.20 to 12.23, 12.33)
pub record Quiet : Type 0 where
  pub refusals : (j : ℕ) (x : Item) (s : Part) (w : Book) (i : ℕ) (a : Act Bytes) (c : ℕ) (g : Ledger) → in_part x s ≡ false
      → post_act j x s w i a (refused c) g ≡ g
  pub reads : (j : ℕ) (x : Item) (s : Part) (w : Book) (i op c y : ℕ) (a : Result) (g : Ledger) → eqb op 3 ≡ false
      → post_act j x s w i (call op c y) a g ≡ g
  -- nor are the numbers of an answer read: an IPI is sent to every target active in the book, named in its answer or not, and a notice counts
  -- whether its items are new or not (12.21, 13.27)
  pub numbers : (j : ℕ) (x : Item) (s : Part) (w : Book) (i : ℕ) (e : Act Bytes) (a b : ℕ) (g : Ledger)
      → post_act j x s w i e (done a) g ≡ post_act j x s w i e (done b) g
  pub counts : (j : ℕ) (x : Item) (s : Part) (w : Book) (i : ℕ) (e : Act Bytes) (a b c d : ℕ) (g : Ledger)
      → post_act j x s w i e (counted a b) g ≡ post_act j x s w i e (counted c d) g
  -- nor is anything posted for a list of ECX values (12.26, 12.33)
  pub lists : (j : ℕ) (x : Item) (s : Part) (w : Book) (i : ℕ) (cs : List ℕ) (q : Bytes) (a : Result) (g : Ledger)
      → post_act j x s w i (allow cs q) a g ≡ g
  -- nor does any call send a machine check (7.27, 12.21)
  pub machine_checks : (j : ℕ) (s : Part) (w : Book) (i op c y : ℕ) (a : Result) (g : Ledger) → post_act j item.MachineCheck s w i (call op c y) a g ≡ g
  -- and an act that is no call is posted on its own vCPU alone (12.19, 12.22, 12.31, 13.27)
  pub others : (j : ℕ) (x : Item) (s : Part) (w : Book) (i : ℕ) (e : Act Bytes) (a : Result) (g : Ledger) → is_call e ≡ false → eqb j i ≡ false
      → post_act j x s w i e a g ≡ g
