-- What an event does to any book, as far as its kind alone tells; for what stands above the module (12.34 to 12.36).
-- Assumes nothing.
use Rattle.std.specs.Prelude.{◌≡◌, Bool, true, false, ℕ, ◌+◌, ◌≤◌}
use Rattle.std.specs.Prelude.{None}
use Rattle.model.specs.Doorbell.{no_part}
use Rattle.model.specs.Events.{Act, notice, call, entry, non_delivery, hand_back, allow, Event}
use Rattle.model.specs.Causes.{registering}
use Rattle.model.specs.Continued.{only_reads}
use Rattle.lists.specs.Book.{Note, note, Book, feed, notice_page, part_by}
use Rattle.vector_set.specs.Bits.{one}

-- a call 1 with ECX 2 (5.11)
abbrev pub is_registration : {P : Type 0} → Act P → Bool
is_registration (notice p) = false
is_registration (call op c x) = registering op c
is_registration (entry iF sh bl) = false
is_registration non_delivery = false
is_registration (hand_back p iF sh) = false
is_registration (allow cs q) = false

pub record Feeds : Type 0 where
  -- a call that reads leaves the book (12.34)
  pub reads : (w : Book) (e : Event) → only_reads e.act ≡ true → feed w (note e) ≡ w
  -- a registration adds one to the count at most, and no other event adds to it (12.35)
  pub adds : (w : Book) (e : Note) → (feed w e).count ≤ w.count + one (is_registration e.act)
  -- where the count is 0 it stays 0 (12.35)
  pub none_stays : (w : Book) (e : Note) → w.count ≡ 0 → (feed w e).count ≡ 0
  -- an event on a vCPU that is not below n leaves the book, and admits nothing (12.10, 12.36)
  pub unknown : (w : Book) (e : Note) → w.n ≤ e.vcpu → feed w e ≡ w
  pub unknown_admits : (l : ℕ) (w : Book) (e : Event) → w.n ≤ e.vcpu → part_by l w e ≡ no_part
  -- an event that is no notice admits nothing (12.36)
  pub others_admit : (l : ℕ) (w : Book) (e : Event) → notice_page e.act ≡ None → part_by l w e ≡ no_part
