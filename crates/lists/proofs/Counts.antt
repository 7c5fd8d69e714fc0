-- A note adds at most one to the book's count.
-- Assumes nothing.
use mathlib.Core.Path.{◌≡◌, refl, ◌∙◌}
use mathlib.Core.List.{List, [], ◌∷◌}
use mathlib.Core.Bool.{Bool, true, false, cond, ◌&&◌}
use Prim.Native.Nat.{ℕ, ◌+◌, ◌-◌, ◌≤◌}
use native.Mathlib.Omega.{arith}
use lib.Dec.{ltb, leb, eqb}
use lib.ListN.{length}
use Rattle.vector_set.specs.Bits.{bit_at}
use Rattle.model.specs.State.{is_active, is_leaving}
use Rattle.model.specs.Requests.{nameable}
use Rattle.model.specs.Events.{Act, notice, call, entry, non_delivery, hand_back, allow}
use Rattle.lists.specs.Book.{Book, Note, record_at, with_record, with_count, leaves_at_zero, takes_one}
use Rattle.lists.specs.Book.{adds_one, registers, permits, permits_each, called, leaves, feed_act, feed}

abbrev OneMore : Book → Book → Type 0
OneMore w u = u.count ≤ w.count + 1

one_of : (w : Book) (b : Bool) (u v : Book) → OneMore w u → OneMore w v → OneMore w (cond b u v)
one_of w true u v g h = g
one_of w false u v g h = h

count_called : (i op c : ℕ) (w : Book) → OneMore w (called i op c w)
unfolding called registers permits leaves_at_zero takes_one adds_one with_record with_count
count_called i op c w =
    one_of w (eqb op 1) _ _
    (one_of w (eqb c 0) _ _ (one_of w (eqb w.count 0) _ _ (omega arith) (omega arith))
    (one_of w (eqb c 1) _ _ (one_of w (eqb (w.count - 1) 0) _ _ (omega arith) (omega arith))
    (one_of w (eqb c 2) _ _ (one_of w (leb 1 w.count && leb w.count 254) _ _ (omega arith) (omega arith)) (omega arith))))
    (one_of w (eqb op 4) _ _ (one_of w (nameable c) _ _ (one_of w (bit_at c 8) _ _ (omega arith) (omega arith)) (omega arith)) (omega arith))

-- a list of ECX values adds none
count_permits : (i c : ℕ) (w : Book) → (permits i c w).count ≡ w.count
unfolding permits with_record
count_permits i c w = either (nameable c) _ _ (either (bit_at c 8) _ _ refl refl) refl
  where
    either : (b : Bool) (u v : Book) → u.count ≡ w.count → v.count ≡ w.count → (cond b u v).count ≡ w.count
    either true u v g h = g
    either false u v g h = h

count_each : (i : ℕ) (cs : List ℕ) (w : Book) → (permits_each i cs w).count ≡ w.count
unfolding permits_each
count_each i [] w = refl
count_each i (c ∷ cs) w = count_each i cs (permits i c w) ∙ count_permits i c w

count_act : (i : ℕ) (a : Act ℕ) (w : Book) → OneMore w (feed_act i a w)
unfolding feed_act leaves with_record
count_act i (notice len) w = omega arith
count_act i (call op c x) w = one_of w (ltb i w.n && is_active (record_at w i).phase) _ _ (count_called i op c w) (omega arith)
count_act i (entry iF sh bl) w = omega arith
count_act i non_delivery w = omega arith
count_act i (hand_back len iF sh) w = one_of w (ltb i w.n && is_leaving (record_at w i).phase && leb 256 len) _ _ (omega arith) (omega arith)
count_act i (allow cs len) w =
    one_of w (ltb i w.n && is_active (record_at w i).phase && (leb (length cs) 256 && leb (length cs) len)) _ _ (omega (arith, count_each i cs w))
    (omega arith)

pub count_feed : (w : Book) (e : Note) → (feed w e).count ≤ w.count + 1
count_feed w e = count_act e.vcpu e.act w
