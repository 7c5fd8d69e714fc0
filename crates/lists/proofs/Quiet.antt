-- What the ledger does not post, and what it does not read.
-- Assumes nothing.
use mathlib.Core.Path.{◌≡◌, refl}
use mathlib.Core.Bool.{false, ◌&&◌, and-false}
use mathlib.Core.List.{List}
use Prim.Native.Nat.{ℕ}
use lib.Dec.{eqb}
use Rattle.model.specs.declared.Item.{Item}
use Rattle.model.specs.declared.Item.TheVariants as item
use Rattle.model.specs.declared.Refusal.{Refusal}
use Rattle.model.specs.declared.Module.{Module}
use Rattle.model.specs.Codes.{code_of, refuse, Result, done, counted, refused, accepted, presented_by}
use Rattle.model.specs.Items.{InRange, is_machine_check, same_item, is_item}
use Rattle.model.specs.Doorbell.{Part, in_part}
use Rattle.model.specs.Ipi.{icr_item}
use Rattle.model.specs.Events.{Act, notice, call, entry, non_delivery, hand_back, allow, at, Bytes, verdict}
use Rattle.lists.specs.Book.{Book, book_of, part_on, part_by}
use Rattle.lists.specs.Ledger.{Ledger, Quiet, write_sends, post_act}
use Rattle.model.specs.Demand2.{is_call}
use Rattle.vector_set.proofs.Laws.{clash}
use Rattle.model.proofs.Kept.{sent_item}
use Rattle.model.proofs.Allowed.{none_in}
use Rattle.lists.proofs.Follow.{part_refused}

-- ---- nothing is posted for a refused event or a read
pub quiet_refused : (j : ℕ) (x : Item) (s : Part) (w : Book) (i : ℕ) (a : Act Bytes) (c : ℕ) (g : Ledger) → in_part x s ≡ false
    → post_act j x s w i a (refused c) g ≡ g
unfolding post_act
quiet_refused j x s w i (notice p) c g h = rw h
quiet_refused j x s w i (call op d y) c g h = refl
quiet_refused j x s w i (entry iF sh bl) c g h = refl
quiet_refused j x s w i non_delivery c g h = refl
quiet_refused j x s w i (hand_back p iF sh) c g h = refl
quiet_refused j x s w i (allow cs q) c g h = refl

pub quiet_read : (j : ℕ) (x : Item) (s : Part) (w : Book) (i op c y : ℕ) (a : Result) (g : Ledger) → eqb op 3 ≡ false
    → post_act j x s w i (call op c y) a g ≡ g
unfolding post_act
quiet_read j x s w i op c y a g h = rw (h, and-false (accepted a))

unread_number : (j : ℕ) (x : Item) (s : Part) (w : Book) (i : ℕ) (e : Act Bytes) (a b : ℕ) (g : Ledger)
    → post_act j x s w i e (done a) g ≡ post_act j x s w i e (done b) g
unfolding post_act
unread_number j x s w i (notice p) a b g = refl
unread_number j x s w i (call op c y) a b g = refl
unread_number j x s w i (entry iF sh bl) a b g = refl
unread_number j x s w i non_delivery a b g = refl
unread_number j x s w i (hand_back p iF sh) a b g = refl
unread_number j x s w i (allow cs q) a b g = refl

unread_counts : (j : ℕ) (x : Item) (s : Part) (w : Book) (i : ℕ) (e : Act Bytes) (a b c d : ℕ) (g : Ledger)
    → post_act j x s w i e (counted a b) g ≡ post_act j x s w i e (counted c d) g
unfolding post_act
unread_counts j x s w i (notice p) a b c d g = refl
unread_counts j x s w i (call op k y) a b c d g = refl
unread_counts j x s w i (entry iF sh bl) a b c d g = refl
unread_counts j x s w i non_delivery a b c d g = refl
unread_counts j x s w i (hand_back p iF sh) a b c d g = refl
unread_counts j x s w i (allow cs q) a b c d g = refl

quiet_list : (j : ℕ) (x : Item) (s : Part) (w : Book) (i : ℕ) (cs : List ℕ) (q : Bytes) (a : Result) (g : Ledger)
    → post_act j x s w i (allow cs q) a g ≡ g
unfolding post_act
quiet_list j x s w i cs q a g = refl

-- no call sends a machine check
no_check : (y : Item) → is_machine_check y ≡ false → same_item item.MachineCheck y ≡ false
no_check item.Nmi h = refl
no_check item.MachineCheck h = h
no_check (item.Vector v) h = refl

quiet_check : (j : ℕ) (s : Part) (w : Book) (i op c y : ℕ) (a : Result) (g : Ledger) → post_act j item.MachineCheck s w i (call op c y) a g ≡ g
unfolding post_act write_sends
quiet_check j s w i op c y a g =
    rw (no_check (icr_item y) (sent_item y), and-false (eqb c 0x830), and-false (eqb c 0x83F), and-false (eqb op 3), and-false (accepted a))

-- what is posted of an act that is no call is posted on its own vCPU
quiet_other : (j : ℕ) (x : Item) (s : Part) (w : Book) (i : ℕ) (e : Act Bytes) (a : Result) (g : Ledger) → is_call e ≡ false → eqb j i ≡ false
    → post_act j x s w i e a g ≡ g
unfolding post_act
quiet_other j x s w i (notice p) a g h n = rw (n, and-false (in_part x s))
quiet_other j x s w i (call op c y) a g h n = clash (cc)
quiet_other j x s w i (entry iF sh bl) a g h n = rw (n, and-false (accepted a), and-false (is_item x (presented_by a)))
quiet_other j x s w i non_delivery a g h n = rw (n, and-false (accepted a && is_item x g.latest))
quiet_other j x s w i (hand_back p iF sh) a g h n = rw (n, and-false (accepted a))
quiet_other j x s w i (allow cs q) a g h n = refl

pub quiet : Quiet
quiet =
    record {
      refusals = quiet_refused;
      reads = quiet_read;
      numbers = unread_number;
      counts = unread_counts;
      lists = quiet_list;
      machine_checks = quiet_check;
      others = quiet_other;
    }

-- ---- a refused event admits nothing by the book, so nothing is posted
unadmitted : (x : Item) → InRange x → (m : Module) (i : ℕ) (a : Act Bytes) (d : Refusal) → verdict m (at i a) ≡ refuse d
    → in_part x (part_by m.vmpl (book_of m) (at i a)) ≡ false
unfolding part_on
unadmitted x r m i (notice p) d e = rw (part_refused m i p d e) (none_in x r)
unadmitted x r m i (call op b y) d e = none_in x r
unadmitted x r m i (entry iF sh bl) d e = none_in x r
unadmitted x r m i non_delivery d e = none_in x r
unadmitted x r m i (hand_back p iF sh) d e = none_in x r
unadmitted x r m i (allow cs q) d e = none_in x r

pub unposted : (j : ℕ) (x : Item) → InRange x → (m : Module) (i : ℕ) (a : Act Bytes) (d : Refusal) (g : Ledger) → verdict m (at i a) ≡ refuse d
    → post_act j x (part_by m.vmpl (book_of m) (at i a)) (book_of m) i a (refused (code_of d)) g ≡ g
unposted j x r m i a d g e =
    quiet_refused j x (part_by m.vmpl (book_of m) (at i a)) (book_of m) i a (code_of d) g (unadmitted x r m i a d e)
