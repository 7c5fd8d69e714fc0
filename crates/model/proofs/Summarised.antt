-- Why the summary of P is true after every event: each change of P is one `put_irr`, which keeps it.
-- Assumes nothing.
use mathlib.Core.Path.{sym, ap, ◌∙◌}
use mathlib.Core.Bool.{Bool, true, false, not, ◌&&◌, ◌||◌}
use mathlib.Core.List.{List}
use Rattle.std.specs.Prelude.{Option, None, Some}
use Prim.Native.Nat.{ℕ, ◌-◌}
use lib.Dec.{eqb}
use Rattle.model.specs.declared.Phase.{Phase}
use Rattle.model.specs.declared.Item.{Item}
use Rattle.model.specs.declared.Item.TheVariants as item
use Rattle.model.specs.declared.Local.{Local}
use Rattle.model.specs.declared.Local.TheVariants as local
use Rattle.std.specs.Prelude.{Ok, Err}
use Rattle.model.specs.Requests.{Parsed}
use Rattle.model.specs.declared.Request.TheVariants as request
use Rattle.model.specs.declared.Vcpu.{Vcpu}
use Rattle.model.specs.declared.Module.{Module}
use Rattle.model.specs.State.{bare, vcpu_at, start}
use Rattle.model.specs.Codes.{Answer, nothing, presents, window}
use Rattle.model.specs.Items.{item_in_flight, irr_after, put_irr, mark, unmark, mark_all, unmark_all}
use Rattle.model.specs.Registers.{ended_at, ended}
use Rattle.model.specs.Ipi.{icr_item}
use Rattle.model.specs.Requests.{request_of, forget, leave_if, serve}
use Rattle.model.specs.Events.{Act, notice, call, entry, non_delivery, hand_back, allow, Bytes, Event, noticed, offer, present, entered, give_back}
use Rattle.model.specs.Events.{undelivered, emptied, Reply, gives, sends, call_effect, effect, next, final}
use Rattle.model.specs.SummaryClaims.{Summed}
use Rattle.vector_set.specs.Sets.{has, highest}
use Rattle.vector_set.specs.Summaries.{remade}
use Rattle.vector_set.proofs.Laws.{has_collect, collect_words, words_empty}
use Rattle.vector_set.proofs.SummaryLaws.{remade_true, summary_empty}
use Rattle.model.proofs.ListLaws.{after_each}
use Rattle.model.proofs.Stays.{MarksKeep, record_keeps, list_keeps}
use Rattle.model.proofs.Reached.{everywhere_start}

-- ---- the one change of P
pub put_summed : (b : Bool) (f : ℕ → Bool) (v : Vcpu) → Summed v → Summed (put_irr b f v)
put_summed true f v h = (
  collect_words _,
  ap (remade f (irr_after true f v.irr)) h.1
      ∙ remade_true f v.irr _ h.0 (collect_words _) (λ x l e. has_collect (λ y. f y || has v.irr y) x l ∙ ap (λ (c : Bool). c || has v.irr x) e),
)
put_summed false f v h = (
  collect_words _,
  ap (remade f (irr_after false f v.irr)) h.1
      ∙ remade_true f v.irr _ h.0 (collect_words _)
      (λ x l e. has_collect (λ y. not (f y) && has v.irr y) x l ∙ ap (λ (c : Bool). not c && has v.irr x) e),
)

-- ---- by item
mark_summed : (y : Item) (v : Vcpu) → Summed v → Summed (mark y v)
unfolding mark
mark_summed item.Nmi v h = h
mark_summed item.MachineCheck v h = h
mark_summed (item.Vector x) v h = put_summed true (λ y. eqb y x) v h

unmark_summed : (y : Item) (v : Vcpu) → Summed v → Summed (unmark y v)
unfolding unmark
unmark_summed item.Nmi v h = h
unmark_summed item.MachineCheck v h = h
unmark_summed (item.Vector x) v h = put_summed false (λ y. eqb y x) v h

-- ---- what an event does to a record
present_summed : (y : Item) (v : Vcpu) → Summed v → Summed (present y v)
unfolding present
present_summed item.Nmi v h = unmark_summed item.Nmi v h
present_summed item.MachineCheck v h = unmark_summed item.MachineCheck v h
present_summed (item.Vector x) v h = unmark_summed (item.Vector x) v h

entered_summed : (a : Answer) (v : Vcpu) → Summed v → Summed (entered a v)
unfolding entered
entered_summed nothing v h = h
entered_summed (presents y) v h = present_summed y v h
entered_summed (window x) v h = h

return_summed : (y : Item) (v : Vcpu) → Summed v → Summed (give_back y v)
unfolding give_back
return_summed item.Nmi v h = mark_summed item.Nmi v h
return_summed item.MachineCheck v h = mark_summed item.MachineCheck v h
return_summed (item.Vector x) v h = mark_summed (item.Vector x) v h

undelivered_summed : (o : Option Item) (v : Vcpu) → Summed v → Summed (undelivered o v)
unfolding undelivered
undelivered_summed None v h = h
undelivered_summed (Some y) v h = return_summed y v h

ended_summed : (o : Option ℕ) (v : Vcpu) → Summed v → Summed (ended_at o v)
unfolding ended_at
ended_summed None v h = h
ended_summed (Some x) v h = h

leave_summed : (b : Bool) (v : Vcpu) → Summed v → Summed (leave_if b v)
leave_summed true v h = h
leave_summed false v h = h

serve_summed : (o : Local) (i k : ℕ) (v : Vcpu) → Summed v → Summed (serve o i k v).vcpu
unfolding serve ended
serve_summed local.Features i k v h = h
serve_summed local.Leave i k v h = leave_summed (eqb k 0) v h
serve_summed local.Release i k v h = leave_summed (eqb (k - 1) 0) v h
serve_summed local.Register i k v h = h
serve_summed (local.Allow x) i k v h = h
serve_summed (local.Disallow x) i k v h = h
serve_summed (local.Read r) i k v h = h
serve_summed (local.SetTpr x) i k v h = h
serve_summed local.Eoi i k v h = ended_summed (highest v.isr) v h
serve_summed (local.SelfIpi x) i k v h = mark_summed (item.Vector x) v h

call_summed : (r : Parsed) (i k : ℕ) (v : Vcpu) → Summed v → Summed (call_effect r i k v).vcpu
unfolding call_effect
call_summed (Ok (request.Local o)) i k v h = serve_summed o i k (forget v) h
call_summed (Ok (request.Icr x)) i k v h = h
call_summed (Err c) i k v h = h

effect_summed : (l i k : ℕ) (v : Vcpu) (a : Act Bytes) → Summed v → Summed (effect l i k v a).vcpu
unfolding effect noticed mark_all emptied unmark_all
effect_summed l i k v (notice p) h = put_summed true _ v h
effect_summed l i k v (call op c x) h = call_summed (request_of op c x) i k v h
effect_summed l i k v (entry iF sh bl) h = entered_summed (offer iF sh bl v) (forget v) h
effect_summed l i k v non_delivery h = undelivered_summed (item_in_flight v.flight) v h
effect_summed l i k v (hand_back p iF sh) h = put_summed false (λ x. true) v h
effect_summed l i k v (allow cs q) h = after_each Summed i k (λ c u. call_summed (request_of 4 c 0) i k u) _ v h

-- ---- one event, and a list
marks_summed : (r : Reply) → MarksKeep Summed r
marks_summed (gives r) = tt
marks_summed (sends y) = λ v. mark_summed (icr_item y) v

pub next_summed : (m : Module) (e : Event) (j : ℕ) → Summed (vcpu_at m j) → Summed (vcpu_at (next m e) j)
next_summed m e j = record_keeps Summed (λ l i k v a on. effect_summed l i k v a) (λ l i k v a. marks_summed (effect l i k v a).reply) m e j

pub final_summed : (es : List Event) (m : Module) (j : ℕ) → Summed (vcpu_at m j) → Summed (vcpu_at (final m es) j)
final_summed es m j = list_keeps (λ u. Summed (vcpu_at u j)) (λ u e. next_summed u e j) es m

bare_summed : (p : Phase) → Summed (bare p)
unfolding bare
bare_summed p = (words_empty, sym summary_empty)

pub reached_summed : (n l : ℕ) (es : List Event) (i : ℕ) → Summed (vcpu_at (final (start n l) es) i)
reached_summed n l es i = final_summed es (start n l) i (everywhere_start Summed bare_summed n l i)
