-- The laws of what is pending, by item: what each change makes pending, and that it leaves all else.
-- Assumes nothing.
use mathlib.Core.Path.{◌≡◌, refl, sym, ap, ◌∙◌}
use mathlib.Core.Bool.{Bool, false, not, ◌&&◌, ◌||◌, or_comm}
use Rattle.model.specs.declared.Item.{Item}
use Rattle.model.specs.declared.Item.TheVariants.{Nmi, MachineCheck, Vector}
use Rattle.model.specs.declared.Vcpu.{Vcpu}
use Prim.Native.Nat.{ℕ}
use lib.Dec.{eqb}
use Rattle.model.specs.State.{with_irr, with_summary, with_nmi, with_machine_check}
use Rattle.model.specs.Items.{InRange, same_item, pending, mark, unmark, mark_all, unmark_all}
use Rattle.vector_set.specs.Sets.{has, empty}
use Rattle.vector_set.proofs.Laws.{has_collect}
use Rattle.vector_set.proofs.SummaryLaws.{remade_none}

-- u is v but for what is pending
abbrev pub Rest : Vcpu → Vcpu → Type 0
Rest u v = u ≡ with_nmi u.nmi (with_machine_check u.machine_check (with_summary u.summary (with_irr u.irr v)))

pub pending_mark : (x : Item) → InRange x → (y : Item) (v : Vcpu) → pending x (mark y v) ≡ (same_item x y || pending x v)
unfolding mark
pending_mark Nmi r Nmi v = refl
pending_mark MachineCheck r Nmi v = refl
pending_mark (Vector z) r Nmi v = refl
pending_mark Nmi r MachineCheck v = refl
pending_mark MachineCheck r MachineCheck v = refl
pending_mark (Vector z) r MachineCheck v = refl
pending_mark Nmi r (Vector y) v = refl
pending_mark MachineCheck r (Vector y) v = refl
pending_mark (Vector z) r (Vector y) v = has_collect (λ x. eqb x y || has v.irr x) z r

pub rest_mark : (y : Item) (v : Vcpu) → Rest (mark y v) v
unfolding mark
rest_mark Nmi v = refl
rest_mark MachineCheck v = refl
rest_mark (Vector y) v = refl

-- what is left where nothing is pending
pub unmark_all_is : (v : Vcpu) → unmark_all v ≡ with_nmi false (with_machine_check false (with_summary 0 (with_irr empty v)))
unfolding unmark_all empty
unmark_all_is v = ap (λ (b : ℕ). with_nmi false (with_machine_check false (with_summary b (with_irr empty v)))) (remade_none v.summary)

-- P, its summary and the marks apart nothing changes
pub unmarked_rest : (u v : Vcpu) → Rest u v → unmark_all u ≡ unmark_all v
unmarked_rest u v h =
    ap unmark_all h ∙ unmark_all_is (with_nmi u.nmi (with_machine_check u.machine_check (with_summary u.summary (with_irr u.irr v))))
    ∙ sym (unmark_all_is v)

pub unmarked_mark : (y : Item) (v : Vcpu) → unmark_all (mark y v) ≡ unmark_all v
unmarked_mark y v = unmarked_rest (mark y v) v (rest_mark y v)

pub pending_unmark : (x : Item) → InRange x → (y : Item) (v : Vcpu) → pending x (unmark y v) ≡ (not (same_item x y) && pending x v)
unfolding unmark
pending_unmark Nmi r Nmi v = refl
pending_unmark MachineCheck r Nmi v = refl
pending_unmark (Vector z) r Nmi v = refl
pending_unmark Nmi r MachineCheck v = refl
pending_unmark MachineCheck r MachineCheck v = refl
pending_unmark (Vector z) r MachineCheck v = refl
pending_unmark Nmi r (Vector y) v = refl
pending_unmark MachineCheck r (Vector y) v = refl
pending_unmark (Vector z) r (Vector y) v = has_collect (λ x. not (eqb x y) && has v.irr x) z r

pub pending_mark_all : (x : Item) → InRange x → (f : Item → Bool) (v : Vcpu) → pending x (mark_all f v) ≡ (pending x v || f x)
unfolding mark_all
pending_mark_all Nmi r f v = refl
pending_mark_all MachineCheck r f v = refl
pending_mark_all (Vector z) r f v = has_collect (λ x. f (Vector x) || has v.irr x) z r ∙ or_comm (f (Vector z)) (has v.irr z)

pub rest_mark_all : (f : Item → Bool) (v : Vcpu) → Rest (mark_all f v) v
unfolding mark_all
rest_mark_all f v = refl

pub pending_unmark_all : (x : Item) → InRange x → (v : Vcpu) → pending x (unmark_all v) ≡ false
unfolding unmark_all
pending_unmark_all Nmi r v = refl
pending_unmark_all MachineCheck r v = refl
pending_unmark_all (Vector z) r v = has_collect (λ x. false) z r
