-- What a notice counts: the items that became pending, and its two numbers together.
-- Assumes nothing.
use mathlib.Core.Path.{◌≡◌, refl, sym, ap, ap₂, ◌∙◌}
use mathlib.Core.Bool.{Bool, true, false, cond, not, ◌&&◌, ◌||◌, and-false, or-false}
use mathlib.Core.List.{List}
use Rattle.std.specs.Prelude.{Option, None, Some}
use Prim.Native.Nat.{ℕ, ◌+◌, ◌<◌}
use native.Mathlib.Omega.{arith}
use lib.Dec.{leb, eqb}
use borrow.Author.Tests.{leb-true, eq-eqb}
use Rattle.vector_set.specs.Bits.{one}
use Rattle.vector_set.specs.Sets.{has, collect, empty, count}
use Rattle.vector_set.proofs.Laws.{clash, has_collect, collect_ext}
use Rattle.vector_set.proofs.Counts.{count_split, count_with}
use Rattle.model.specs.declared.Item.{Item}
use Rattle.model.specs.declared.Item.TheVariants.{Nmi, MachineCheck, Vector}
use Rattle.model.specs.declared.Vcpu.{Vcpu}
use Rattle.model.specs.declared.Module.{Module}
use Rattle.model.specs.State.{vcpu_at}
use Rattle.model.specs.Codes.{counted}
use Rattle.model.specs.Items.{InRange, item_count, pending}
use Rattle.model.specs.Doorbell.{bit_of, level_bit, many_bit, vector_field, is_vector, Part, no_part, is_level, in_part, announces, descriptor}
use Rattle.model.specs.Doorbell.{nmi_bit, machine_check_bit, admits_mark, admits_level, admits_edge, admits, admitted, items}
use Rattle.model.specs.Events.{notice, at, Bytes, noticed, items_new, items_merged, effect, concluded, step, next}
use Rattle.model.proofs.Stored.{stored_at, by_verdict_lem, known_of}
use Rattle.model.proofs.ItemLaws.{pending_mark_all}

-- ---- items counted
pub item_count_ext : (f g : Item → Bool) → ((x : Item) → InRange x → f x ≡ g x) → item_count f ≡ item_count g
unfolding item_count
item_count_ext f g h =
    ap₂ ◌+◌ (ap₂ ◌+◌ (ap one (h Nmi tt)) (ap one (h MachineCheck tt))) (ap count (collect_ext (λ v. f (Vector v)) (λ v. g (Vector v)) (λ v l. h (Vector v) l)))

-- those with g and those without
pub item_count_split : (f g : Item → Bool) → item_count (λ x. f x && not (g x)) + item_count (λ x. f x && g x) ≡ item_count f
unfolding item_count
item_count_split f g =
    let a = pick (f Nmi) (g Nmi) in
    let c = pick (f MachineCheck) (g MachineCheck) in
    let b = count_split (λ v. f (Vector v)) (λ v. g (Vector v)) in
    omega arith
  where
    pick : (a b : Bool) → one (a && not b) + one (a && b) ≡ one a
    pick true true = refl
    pick true false = refl
    pick false b = refl

-- ---- an accepted notice
-- what is pending after it
pub pending_noticed : (x : Item) → InRange x → (a : Part) (v : Vcpu) → pending x (noticed a v) ≡ (pending x v || in_part x a)
unfolding noticed
pending_noticed x r a v = pending_mark_all x r (λ y. in_part y a) v

became : (a : Part) (v : Vcpu) → items_new a v ≡ item_count (λ x. pending x (noticed a v) && not (pending x v))
unfolding items_new
became a v =
    item_count_ext (λ x. in_part x a && not (pending x v)) (λ x. pending x (noticed a v) && not (pending x v))
    (λ x r. rw (pending_noticed x r a v) (pick (pending x v) (in_part x a)))
  where
    pick : (p q : Bool) → (q && not p) ≡ ((p || q) && not p)
    pick true q = and-false q
    pick false q = refl

first_of : {a b c d : ℕ} → counted a b ≡ counted c d → a ≡ c
first_of e = cc

pub second_of : {a b c d : ℕ} → counted a b ≡ counted c d → b ≡ d
second_of e = cc

pub notice_new_lem : (m : Module) (i : ℕ) (p : Bytes) (a b : ℕ) → (step m (at i (notice p))).result ≡ counted a b
    → a ≡ item_count (λ x. pending x (vcpu_at (next m (at i (notice p))) i) && not (pending x (vcpu_at m i)))
unfolding concluded effect
notice_new_lem m i p a b =
    let v = vcpu_at m i in
    let s = admitted m.vmpl v.allowed p in
    by_verdict_lem m (at i (notice p))
    (λ o. o.result ≡ counted a b → a ≡ item_count (λ x. pending x (vcpu_at o.after i) && not (pending x (vcpu_at m i))))
    (λ c h e. clash (cc))
    (λ h e. sym (first_of e) ∙ became s v
    ∙ ap (λ (w : Vcpu). item_count (λ x. pending x w && not (pending x v)))
    (sym (stored_at m i m.registrations (noticed s v) (known_of m i (notice p) h).there)))

pub notice_pends_lem : (m : Module) (i : ℕ) (p : Bytes) (a b : ℕ) (x : Item) → InRange x → (step m (at i (notice p))).result ≡ counted a b
    → pending x (vcpu_at (next m (at i (notice p))) i) ≡ (pending x (vcpu_at m i) || in_part x (admitted m.vmpl (vcpu_at m i).allowed p))
unfolding concluded effect
notice_pends_lem m i p a b x r =
    let v = vcpu_at m i in
    let s = admitted m.vmpl v.allowed p in
    by_verdict_lem m (at i (notice p)) (λ o. o.result ≡ counted a b → pending x (vcpu_at o.after i) ≡ (pending x v || in_part x s))
    (λ c h e. clash (cc))
    (λ h e. ap (pending x) (stored_at m i m.registrations (noticed s v) (known_of m i (notice p) h).there) ∙ pending_noticed x r s v)

pub notice_levels_lem : (m : Module) (i : ℕ) (p : Bytes) (a b x : ℕ) → x < 256 → (step m (at i (notice p))).result ≡ counted a b
    → has (vcpu_at (next m (at i (notice p))) i).irr_level x
    ≡ (has (vcpu_at m i).irr_level x || is_level (admitted m.vmpl (vcpu_at m i).allowed p).level x)
unfolding concluded effect noticed
notice_levels_lem m i p a b x r =
    let v = vcpu_at m i in
    let s = admitted m.vmpl v.allowed p in
    by_verdict_lem m (at i (notice p))
    (λ o. o.result ≡ counted a b → has (vcpu_at o.after i).irr_level x ≡ (has v.irr_level x || is_level s.level x))
    (λ c h e. clash (cc))
    (λ h e. ap (λ (w : Vcpu). has w.irr_level x) (stored_at m i m.registrations (noticed s v) (known_of m i (notice p) h).there)
    ∙ has_collect (λ y. has v.irr_level y || is_level s.level y) x r)

-- ---- the two numbers together
together : (a : Part) (v : Vcpu) → items_new a v + items_merged a v ≡ item_count (λ x. in_part x a)
unfolding items_new items_merged
together a v = item_count_split (λ x. in_part x a) (λ x. pending x v)

-- a part without a level-sensitive vector, and one with a vector that is not in its edge set
apart : (n c : Bool) (f : ℕ → Bool) (o : Option ℕ) → ((x : ℕ) → o ≡ Some x → (x < 256) × (f x ≡ false))
    → let a : Part = record { nmi = n; machine_check = c; level = o; edge = collect f } in item_count (λ x. in_part x a) ≡ items a
unfolding item_count items
apart n c f None h =
    let e : count (collect (λ v. has (collect f) v || false)) ≡ count (collect f) =
    ap count (collect_ext (λ v. has (collect f) v || false) f (λ v l. or-false (has (collect f) v) ∙ has_collect f v l)) in
    omega arith
apart n c f (Some x) h =
    let e : count (collect (λ v. has (collect f) v || eqb v x)) ≡ count (collect f) + 1 =
    ap count (collect_ext (λ v. has (collect f) v || eqb v x) (λ v. f v || eqb v x) (λ v l. ap (λ (t : Bool). t || eqb v x) (has_collect f v l)))
    ∙ count_with f x (h x refl).0 (h x refl).1 in
    omega arith

-- the level-sensitive vector is a vector, and not in the edge set
no_edge : (s m t : Bool) → (s && cond m (t && not true) (not true && true)) ≡ false
no_edge s true t = ap (λ (u : Bool). s && u) (and-false t) ∙ and-false s
no_edge s false t = and-false s

same_vector : {x y : ℕ} → Some y ≡ Some x → x ≡ y
same_vector e = cc

level_apart : (a d : List ℕ) (x : ℕ) → admits_level a d ≡ Some x → (x < 256) × (admits_edge a d x ≡ false)
unfolding admits_level admits_edge
level_apart a d x e = pick (bit_of d level_bit) (leb 31 (vector_field d)) (leb (vector_field d) 255) (has a (vector_field d)) refl e
  where
    pick : (l b c g : Bool) → leb (vector_field d) 255 ≡ c → cond (l && (b && c) && g) (Some (vector_field d)) None ≡ Some x
        → (x < 256)
        × ((is_vector x && has a x
        && cond (bit_of d many_bit) (bit_of d x && not (is_level (cond (l && (b && c) && g) (Some (vector_field d)) None) x))
        (not l && eqb x (vector_field d))) ≡ false)
    pick true true true true u q =
        let f : x ≡ vector_field d = same_vector q in
        let n = leb-true (vector_field d) 255 u in
        (omega arith, rw (eq-eqb x (vector_field d) f) (no_edge (is_vector x && has a x) (bit_of d many_bit) (bit_of d x)))
    pick true true true false u q = clash (cc)
    pick true true false g u q = clash (cc)
    pick true false c g u q = clash (cc)
    pick false b c g u q = clash (cc)

admitted_sum : (l : ℕ) (a p : List ℕ) → item_count (λ x. in_part x (admitted l a p)) ≡ items (admitted l a p)
unfolding admitted admits no_part empty
admitted_sum l a p = pick (announces l p)
  where
    pick : (b : Bool) → item_count (λ x. in_part x (cond b (admits a (descriptor l p)) no_part)) ≡ items (cond b (admits a (descriptor l p)) no_part)
    pick true =
        apart (admits_mark nmi_bit 2 a (descriptor l p)) (admits_mark machine_check_bit 18 a (descriptor l p)) (admits_edge a (descriptor l p))
        (admits_level a (descriptor l p)) (level_apart a (descriptor l p))
    pick false = apart false false (λ v. false) None (λ x e. clash (cc))

pub items_sum : (l : ℕ) (a p : List ℕ) (v : Vcpu) → items_new (admitted l a p) v + items_merged (admitted l a p) v ≡ items (admitted l a p)
items_sum l a p v = together (admitted l a p) v ∙ admitted_sum l a p

pub notice_sum_lem : (m : Module) (i : ℕ) (p : Bytes) (a b : ℕ) → (step m (at i (notice p))).result ≡ counted a b
    → a + b ≡ items (admitted m.vmpl (vcpu_at m i).allowed p)
unfolding concluded effect
notice_sum_lem m i p a b =
    let v = vcpu_at m i in
    let s = admitted m.vmpl v.allowed p in
    by_verdict_lem m (at i (notice p)) (λ o. o.result ≡ counted a b → a + b ≡ items s)
    (λ c h e. clash (cc))
    (λ h e. ap₂ ◌+◌ (sym (first_of e)) (sym (second_of e)) ∙ items_sum m.vmpl v.allowed p v)
