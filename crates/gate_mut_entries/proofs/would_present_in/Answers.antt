-- An unknown vCPU, or what an entry would answer on its record.
use Rattle.std.specs.Prelude.{is_some}
use mathlib.Core.Path.{ap, ◌∙◌}
use native.Mathlib.Omega.{arith}
use mathlib.Core.Bool.{true, false}
use Rattle.model.specs.declared.Vcpu.{Vcpu}
use Rattle.model.specs.Codes.{presented_by}
use Rattle.model.specs.Events.{entry, at, offer, vcpu_verdict, Out, would_present}
use Rattle.gate.proofs.Known.{found, unstepped}
use Rattle.gate_mut.proofs.InRow.{is_here}
use Rattle.vcpu.proofs.Steps.{below_32}
use Rattle.vcpu_stages.specs.Stages.{answered_on}
use Rattle.vcpu_entries.proofs.Asked.{asked}
use Rattle.gate_mut_entries.proofs.would_present_in.Goals as goal

pub returns-in-Ok : goal.returns-in-Ok
returns-in-Ok c =
    let m = c.args.m.now in
    let i = c.in-Ok.i in
    let f = found m c.args.vcpu i c.in-Ok.ensures.value in
    c.would_present_vcpu.ensures
    ∙ ap (λ (v : Vcpu). is_some (presented_by (answered_on (vcpu_verdict 0 0 v (entry true false false)) (offer true false false v))))
    (is_here m i (omega (arith, below_32 m f.0)))
    ∙ asked m i f.0
    ∙ ap (would_present m) f.1

pub returns-in-Err : goal.returns-in-Err
unfolding would_present
returns-in-Err c =
    ap (λ (o : Out). is_some (presented_by o.result))
    (unstepped c.args.m.now (at c.args.vcpu (entry true false false)) c.in-Err.field-0 c.in-Err.ensures.value)
