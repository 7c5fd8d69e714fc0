-- What an event admits by the book is in the book's set of its vCPU, and is the NMI or a vector 31 to 255.
-- Assumes nothing.
use mathlib.Core.Path.{◌≡◌}
use mathlib.Core.Bool.{Bool, true, false, cond, ◌&&◌}
use Rattle.std.specs.Prelude.{Option, None, Some}
use Prim.Native.Nat.{ℕ}
use lib.Dec.{ltb}
use Rattle.model.specs.declared.Item.{Item}
use Rattle.model.specs.State.{is_active}
use Rattle.model.specs.Items.{InRange}
use Rattle.model.specs.Doorbell.{long_enough, in_part, no_part, admitted}
use Rattle.model.specs.Events.{Bytes, Event}
use Rattle.model.proofs.Allowed.{Fits, none_admitted, admitted_fits}
use Rattle.lists.specs.Book.{Book, record_at, notice_page, part_on, part_by}

pub part_fits : (l : ℕ) (w : Book) (e : Event) (x : Item) → InRange x → in_part x (part_by l w e) ≡ true → Fits (record_at w e.vcpu).allowed x
unfolding part_on
part_fits l w e x r h = over (notice_page e.act) h
  where
    pick : (p : Bytes) (b : Bool) → in_part x (cond b (admitted l (record_at w e.vcpu).allowed p) no_part) ≡ true → Fits (record_at w e.vcpu).allowed x
    pick p true h = admitted_fits l (record_at w e.vcpu).allowed p x r h
    pick p false h = none_admitted x r h

    over : (o : Option Bytes) → in_part x (part_on l w e.vcpu o) ≡ true → Fits (record_at w e.vcpu).allowed x
    over None h = none_admitted x r h
    over (Some p) h = pick p (ltb e.vcpu w.n && is_active (record_at w e.vcpu).phase && long_enough p) h
