-- What a notice admits is in the set that it was judged by, and is the NMI, the machine check or a vector 31 to 255.
-- Assumes nothing.
use mathlib.Core.Path.{◌≡◌, refl, ◌∙◌}
use mathlib.Core.Bool.{Bool, true, false, cond, ◌&&◌, ◌||◌, or-false, and-eq-true_iff}
use mathlib.Core.List.{List}
use Rattle.std.specs.Prelude.{None, Some}
use Prim.Native.Nat.{ℕ, ◌≤◌}
use lib.Dec.{leb}
use borrow.Author.Tests.{eqb-true, leb-true}
use Rattle.model.specs.declared.Item.{Item}
use Rattle.model.specs.declared.Item.TheVariants as item
use Rattle.model.specs.Items.{InRange, IsVector, member_of}
use Rattle.model.specs.Doorbell.{bit_of, announces, descriptor, vector_field, nmi_bit, machine_check_bit, level_bit, is_vector}
use Rattle.model.specs.Doorbell.{in_part, no_part, is_level, admits_mark, admits_level, admits_edge, admits, admitted}
use Rattle.model.specs.Events.{Bytes}
use Rattle.vector_set.specs.Sets.{has, empty}
use Rattle.vector_set.proofs.Laws.{clash, has_collect, has_empty}

-- nothing is in the empty part
pub none_in : (x : Item) → InRange x → in_part x no_part ≡ false
unfolding no_part
none_in item.Nmi r = refl
none_in item.MachineCheck r = refl
none_in (item.Vector v) r = or-false (has empty v) ∙ has_empty v r

pub none_admitted : {A : Type 0} (x : Item) → InRange x → in_part x no_part ≡ true → A
none_admitted x r h = let z = none_in x r in clash (cc)

pub is_vector_lem : (x : ℕ) → is_vector x ≡ true → 31 ≤ x
is_vector_lem x e = leb-true 31 x ((and-eq-true_iff (leb 31 x) (leb x 255)).0 e).0

-- what an admitted item x shows under the set a
abbrev pub Fits : List ℕ → Item → Type 0
Fits a x = (has a (member_of x) ≡ true) × IsVector x

level_fits : (a d : List ℕ) (v : ℕ) → is_level (admits_level a d) v ≡ true → Fits a (item.Vector v)
unfolding admits_level
level_fits a d v = pick (bit_of d level_bit) (is_vector (vector_field d)) (has a (vector_field d)) refl refl
  where
    pick : (b c e : Bool) → is_vector (vector_field d) ≡ c → has a (vector_field d) ≡ e
        → is_level (cond (b && c && e) (Some (vector_field d)) None) v ≡ true → Fits a (item.Vector v)
    pick true true true p q h = rw (eqb-true v (vector_field d) h) (q, is_vector_lem (vector_field d) p)
    pick true true false p q h = clash (cc)
    pick true false e p q h = clash (cc)
    pick false c e p q h = clash (cc)

edge_fits : (a d : List ℕ) (v : ℕ) → admits_edge a d v ≡ true → Fits a (item.Vector v)
unfolding admits_edge
edge_fits a d v h =
    let g = (and-eq-true_iff (is_vector v) (has a v)).0 ((and-eq-true_iff (is_vector v && has a v) _).0 h).0 in
    (g.1, is_vector_lem v g.0)

admits_fits : (a d : List ℕ) (x : Item) → InRange x → in_part x (admits a d) ≡ true → Fits a x
unfolding admits admits_mark
admits_fits a d item.Nmi r h = (((and-eq-true_iff (bit_of d nmi_bit) (has a 2)).0 h).1, tt)
admits_fits a d item.MachineCheck r h = (((and-eq-true_iff (bit_of d machine_check_bit) (has a 18)).0 h).1, tt)
admits_fits a d (item.Vector v) r h = pick (admits_edge a d v) (is_level (admits_level a d) v) refl refl (rw (has_collect (admits_edge a d) v r) at h)
  where
    pick : (b c : Bool) → admits_edge a d v ≡ b → is_level (admits_level a d) v ≡ c → (b || c) ≡ true → Fits a (item.Vector v)
    pick true c e f h = edge_fits a d v e
    pick false true e f h = level_fits a d v f
    pick false false e f h = clash (cc)

-- the items with a mark: admitted where work is announced, by their bit and their member
pub nmi_admitted_lem : (l : ℕ) (a : List ℕ) (p : Bytes) → (admitted l a p).nmi ≡ (announces l p && bit_of (descriptor l p) 8 && has a 2)
unfolding admitted admits admits_mark no_part
nmi_admitted_lem l a p = pick (announces l p)
  where
    pick : (b : Bool) → (cond b (admits a (descriptor l p)) no_part).nmi ≡ (b && bit_of (descriptor l p) 8 && has a 2)
    pick true = refl
    pick false = refl

pub machine_check_admitted_lem : (l : ℕ) (a : List ℕ) (p : Bytes)
    → (admitted l a p).machine_check ≡ (announces l p && bit_of (descriptor l p) 9 && has a 18)
unfolding admitted admits admits_mark no_part
machine_check_admitted_lem l a p = pick (announces l p)
  where
    pick : (b : Bool) → (cond b (admits a (descriptor l p)) no_part).machine_check ≡ (b && bit_of (descriptor l p) 9 && has a 18)
    pick true = refl
    pick false = refl

pub admitted_fits : (l : ℕ) (a : List ℕ) (p : Bytes) (x : Item) → InRange x → in_part x (admitted l a p) ≡ true → Fits a x
unfolding admitted
admitted_fits l a p x r = pick (announces l p)
  where
    pick : (b : Bool) → in_part x (cond b (admits a (descriptor l p)) no_part) ≡ true → Fits a x
    pick true h = admits_fits a (descriptor l p) x r h
    pick false h = none_admitted x r h
