-- `gate_entries::non_delivery` meets its contract: an unknown vCPU, or the step of its record. Assumes nothing.
use native.Mathlib.Omega.{arith}
use mathlib.Core.Path.{ap, ◌∙◌}
use mathlib.Core.List.{[]}
use Prim.Native.Nat.{ℕ}
use Rattle.model.specs.declared.Stepped.{Stepped}
use Rattle.model.specs.State.{with_vcpu}
use Rattle.model.specs.Codes.{code_of, refused}
use Rattle.model.specs.Events.{non_delivery, at, step, out_of}
use Rattle.gate.proofs.Known.{found, unstepped}
use Rattle.vcpu.proofs.Steps.{below_32, records_32, record_is, returned, kept}
use Rattle.gate_entries.proofs.non_delivery.Goals as goal

pub returns-in-Err : goal.returns-in-Err
returns-in-Err c =
    let a = c.args in
    ap (λ (r : Stepped ℕ). out_of r []) c.refused.ensures ∙ unstepped a.m (at a.vcpu non_delivery) c.in-Err.c c.in-Err.ensures.value

pub returns-in-Ok-non_delivery_vcpu : goal.returns-in-Ok-non_delivery_vcpu
unfolding with_vcpu
returns-in-Ok-non_delivery_vcpu c =
    let a = c.args in
    let i = c.in-Ok.i in
    let f = found a.m a.vcpu i c.in-Ok.ensures.value in
    returned a.m i f.0 _ (record_is a.m i _ (below_32 a.m f.0) (records_32 a.m _ c.well_formed.0)) _
    c.in-Ok-non_delivery_vcpu.ensures
    ∙ ap (λ (k : ℕ). step a.m (at k non_delivery)) f.1

pub returns-in-Err-non_delivery_vcpu : goal.returns-in-Err-non_delivery_vcpu
returns-in-Err-non_delivery_vcpu c =
    let a = c.args in
    let i = c.in-Ok.i in
    let f = found a.m a.vcpu i c.in-Ok.ensures.value in
    let here = record_is a.m i _ (below_32 a.m f.0) (records_32 a.m _ c.well_formed.0) in
    grind arith
    ∙ kept a.m i f.0 _ here (refused (code_of c.in-Err-non_delivery_vcpu.c)) []
    ∙ returned a.m i f.0 _ here _ c.in-Err-non_delivery_vcpu.ensures
    ∙ ap (λ (k : ℕ). step a.m (at k non_delivery)) f.1
