-- Why every record of a module that events reach from what start gives is sound, its summary apart.
-- Assumes nothing.
use mathlib.Core.Path.{refl}
use mathlib.Core.Bool.{Bool, true, false, cond}
use mathlib.Core.List.{List, [], ◌∷◌, ◌++◌}
use Prim.Native.Nat.{ℕ, zero, suc, ◌-◌}
use lib.ListN.{get_or, replicate}
use Rattle.model.specs.declared.Phase.{Phase}
use Rattle.model.specs.declared.Vcpu.{Vcpu}
use Rattle.model.specs.declared.Module.{Module}
use Rattle.model.specs.State.{bare, fresh, absent, vcpu_at, may_start, started, stopped, start}
use Rattle.model.specs.Ipi.{icr_item}
use Rattle.model.specs.Events.{Event, Reply, gives, sends, effect, next, final}
use Rattle.vector_set.proofs.Laws.{words_empty}
use Rattle.model.proofs.Stays.{MarksKeep, record_keeps, list_keeps}
use Rattle.model.proofs.LevelledLaws.{levelled_empty}
use Rattle.model.proofs.SoundRecords.{Formed, at_rest, sound_mark, none_named, Sending, sending_effect, sound_effect}

-- ---- one record, over an event and over a list
marks_formed : (r : Reply) → Sending r → MarksKeep Formed r
marks_formed (gives r) q = tt
marks_formed (sends x) q = λ v. sound_mark (icr_item x) v q

next_formed : (m : Module) (e : Event) (j : ℕ) → Formed (vcpu_at m j) → Formed (vcpu_at (next m e) j)
next_formed m e j = record_keeps Formed sound_effect (λ l i k v a. marks_formed (effect l i k v a).reply (sending_effect l i k v a)) m e j

pub final_formed : (es : List Event) (m : Module) (j : ℕ) → Formed (vcpu_at m j) → Formed (vcpu_at (final m es) j)
final_formed es m j = list_keeps (λ u. Formed (vcpu_at u j)) (λ u e. next_formed u e j) es m

-- ---- what holds at every place of a list of records
abbrev Everywhere : (Vcpu → Type 0) → List Vcpu → Type 0
Everywhere P l = (j : ℕ) → P (get_or l j absent)

at_append : (P : Vcpu → Type 0) (l r : List Vcpu) → Everywhere P l → Everywhere P r → Everywhere P (l ++ r)
at_append P [] r h g j = g j
at_append P (v ∷ l) r h g zero = h zero
at_append P (v ∷ l) r h g (suc j) = at_append P l r (λ j. h (suc j)) g j

at_replicate : (P : Vcpu → Type 0) (v : Vcpu) → P v → P absent → (n : ℕ) → Everywhere P (replicate n v)
at_replicate P v p d zero j = d
at_replicate P v p d (suc n) zero = p
at_replicate P v p d (suc n) (suc j) = at_replicate P v p d n j

-- ---- what start gives
-- what holds of a record with nothing in it holds everywhere
pub everywhere_start : (P : Vcpu → Type 0) → ((p : Phase) → P (bare p)) → (n l i : ℕ) → P (vcpu_at (start n l) i)
unfolding start started stopped vcpu_at
everywhere_start P h n l = pick (may_start n l)
  where
    pick : (b : Bool) (i : ℕ) → P (vcpu_at (cond b (started n l) stopped) i)
    pick true =
        at_append P (replicate n fresh) (replicate (32 - n) absent)
        (at_replicate P fresh (h _) (h _) n) (at_replicate P absent (h _) (h _) (32 - n))
    pick false = at_replicate P absent (h _) (h _) 32

sound_bare : (p : Phase) → Formed (bare p)
unfolding bare
sound_bare p = at_rest _ words_empty none_named levelled_empty levelled_empty refl

pub formed_reached : (n l : ℕ) (es : List Event) (j : ℕ) → Formed (vcpu_at (final (start n l) es) j)
formed_reached n l es j = final_formed es (start n l) j (everywhere_start Formed sound_bare n l j)
