-- An unknown vCPU, an item that is not returned, or the record with the item returned, stored.
use Rattle.std.specs.Prelude.{Option, Err}
use mathlib.Core.Path.{◌≡◌, sym, ap, ap₂, ◌∙◌}
use mathlib.Core.List.{[]}
use native.Mathlib.Omega.{arith}
use Prim.Native.Nat.{ℕ}
use lib.ListN.{get_or}
use Rattle.model.specs.State.{with_vcpu}
use Rattle.model.specs.declared.Vcpu.{Vcpu}
use Rattle.model.specs.declared.Item.{Item}
use Rattle.model.specs.Codes.{Answered, Verdict, done}
use Rattle.model.specs.Items.{item_in_flight}
use Rattle.model.specs.Events.{non_delivery, at, step, out_of}
use Rattle.gate.proofs.Known.{found, unstepped}
use Rattle.gate_mut.proofs.InRow.{unread, is_here}
use Rattle.vcpu.specs.Records.{non_delivery_on}
use Rattle.vcpu.proofs.Steps.{below_32, returned, kept}
use Rattle.gate_mut_entries.proofs.non_delivery_in.Goals as goal

pub returns-in_err-i : goal.returns-in_err-i
returns-in_err-i c =
    let m = c.args.m.now in
    let gone : c.from_residual.result ≡ Err c.in_err-i.field-0.0 = grind arith in
    ap (λ (r : Answered ℕ). out_of (record { answer = r; after = m }) []) gone
    ∙ unstepped m (at c.args.vcpu non_delivery) c.in_err-i.field-0.0 (sym c.in_err-i.was ∙ c.index_of.ensures.value)

pub returns-in_err-item : goal.returns-in_err-item
unfolding non_delivery_on
returns-in_err-item c =
    let m = c.args.m.now in
    let i = c.in_ok-i.i in
    let f = found m c.args.vcpu i (sym c.in_ok-i.was ∙ c.index_of.ensures.value) in
    let v = get_or m.vcpus i unread in
    let here = is_here m i (omega (arith, below_32 m f.0)) in
    let gone : c.from_residual-in_err-item.result ≡ Err c.in_err-item.field-0.0 = grind arith in
    ap (λ (r : Answered ℕ). out_of (record { answer = r; after = m }) []) gone
    ∙ kept m i f.0 v here _ []
    ∙ returned m i f.0 v here _ (ap (λ (g : Verdict). non_delivery_on g (item_in_flight v.flight) v) (sym c.in_err-item.ensures.err))
    ∙ ap (λ (k : ℕ). step m (at k non_delivery)) f.1

pub returns : goal.returns
unfolding with_vcpu non_delivery_on
returns c =
    let m = c.args.m.now in
    let i = c.in_ok-i.i in
    let f = found m c.args.vcpu i (sym c.in_ok-i.was ∙ c.index_of.ensures.value) in
    let v = get_or m.vcpus i unread in
    let told = c.in_ok-item.ensures.ok in
    returned m i f.0 v (is_here m i (omega (arith, below_32 m f.0))) _
    (ap (λ (w : Vcpu). record { result = done 0; vcpu = w }) c.return_item.ensures
    ∙ ap₂ (λ (g : Verdict) (y : Option Item). non_delivery_on g y v) (sym told.0) (sym told.1))
    ∙ ap (λ (k : ℕ). step m (at k non_delivery)) f.1
