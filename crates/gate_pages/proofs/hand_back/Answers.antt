-- An unknown vCPU, a refused hand-back, or the page and the step of the record.
use Rattle.std.specs.Prelude.{Ok, Err}
use mathlib.Core.Path.{refl, ap, ◌∙◌}
use Prim.Native.Nat.{ℕ}
use Rattle.model.specs.declared.Stepped.{Stepped}
use Rattle.model.specs.State.{with_vcpu}
use Rattle.model.specs.Events.{hand_back, at, step, out_of}
use Rattle.gate.proofs.Known.{found, unstepped}
use Rattle.vcpu.proofs.Steps.{below_32, records_32, record_is}
use Rattle.vcpu_pages.proofs.Steps.{hand_back_refused, handed_back}
use Rattle.gate_pages.proofs.hand_back.Goals as goal

pub returns-in-Err : goal.returns-in-Err
returns-in-Err c =
    let a = c.args in
    ap (λ (r : Stepped ℕ). out_of r a.page.now) c.refused.ensures
    ∙ unstepped a.m (at a.vcpu (hand_back a.page.now a.iflag a.shadow)) c.in-Err.c c.in-Err.ensures.value

pub returns-in-Ok-hand_over : goal.returns-in-Ok-hand_over
unfolding with_vcpu
returns-in-Ok-hand_over c =
    let a = c.args in
    let i = c.in-Ok.i in
    let f = found a.m a.vcpu i c.in-Ok.ensures.value in
    let e = c.in-Ok-hand_over in
    handed_back a.m i f.0 _ (record_is a.m i _ (below_32 a.m f.0) (records_32 a.m _ c.well_formed.0)) a.page.now c.hand_over.new.page
    a.iflag a.shadow (Ok e.value) e.ensures e.value refl c.empty_vcpu.result c.empty_vcpu.ensures
    ∙ ap (λ (k : ℕ). step a.m (at k (hand_back a.page.now a.iflag a.shadow))) f.1

pub returns-in-Err-hand_over : goal.returns-in-Err-hand_over
returns-in-Err-hand_over c =
    let a = c.args in
    let i = c.in-Ok.i in
    let f = found a.m a.vcpu i c.in-Ok.ensures.value in
    let e = c.in-Err-hand_over in
    ap (λ (r : Stepped ℕ). out_of r c.hand_over.new.page) c.refused-in-Err-hand_over.ensures
    ∙ hand_back_refused a.m i f.0 _ (record_is a.m i _ (below_32 a.m f.0) (records_32 a.m _ c.well_formed.0)) a.page.now c.hand_over.new.page
    a.iflag a.shadow (Err e.c) e.ensures e.c refl
    ∙ ap (λ (k : ℕ). step a.m (at k (hand_back a.page.now a.iflag a.shadow))) f.1
