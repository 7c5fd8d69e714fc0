-- `gate_entries::entry` meets its contract: an unknown vCPU, or the step of its record. Assumes nothing.
use mathlib.Core.Path.{ap, ◌∙◌}
use mathlib.Core.List.{[]}
use Prim.Native.Nat.{ℕ}
use Rattle.model.specs.State.{with_vcpu}
use Rattle.model.specs.Events.{entry, at, step, entered_out}
use Rattle.gate.proofs.Known.{found, unstepped}
use Rattle.vcpu.proofs.Steps.{below_32, records_32, record_is, entered, kept}
use Rattle.gate_entries.proofs.entry.Goals as goal

pub returns-in-Err : goal.returns-in-Err
returns-in-Err c =
    let a = c.args in
    ap entered_out c.refused.ensures ∙ unstepped a.m (at a.vcpu (entry a.iflag a.shadow a.blocked)) c.in-Err.c c.in-Err.ensures.value

pub returns-in-Ok-entry_vcpu : goal.returns-in-Ok-entry_vcpu
unfolding with_vcpu
returns-in-Ok-entry_vcpu c =
    let a = c.args in
    let i = c.in-Ok.i in
    let f = found a.m a.vcpu i c.in-Ok.ensures.value in
    entered a.m i f.0 _ (record_is a.m i _ (below_32 a.m f.0) (records_32 a.m _ c.well_formed.0)) a.iflag a.shadow a.blocked _
    c.in-Ok-entry_vcpu.ensures
    ∙ ap (λ (k : ℕ). step a.m (at k (entry a.iflag a.shadow a.blocked))) f.1

pub returns-in-Err-entry_vcpu : goal.returns-in-Err-entry_vcpu
returns-in-Err-entry_vcpu c =
    let a = c.args in
    let i = c.in-Ok.i in
    let f = found a.m a.vcpu i c.in-Ok.ensures.value in
    let here = record_is a.m i _ (below_32 a.m f.0) (records_32 a.m _ c.well_formed.0) in
    ap entered_out c.refused-in-Err-entry_vcpu.ensures
    ∙ kept a.m i f.0 _ here _ []
    ∙ entered a.m i f.0 _ here a.iflag a.shadow a.blocked _ c.in-Err-entry_vcpu.ensures
    ∙ ap (λ (k : ℕ). step a.m (at k (entry a.iflag a.shadow a.blocked))) f.1
