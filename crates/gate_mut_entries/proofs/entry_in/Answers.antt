-- An unknown vCPU, or the step of its record, which is stored back as it was where it rests.
use Rattle.std.specs.Prelude.{Err}
use mathlib.Core.Path.{◌≡◌, sym, ap, ◌∙◌}
use native.Mathlib.Omega.{arith}
use Prim.Native.Nat.{ℕ}
use lib.ListN.{get_or}
use Rattle.model.specs.declared.Presentation.{Presentation}
use Rattle.model.specs.State.{with_vcpu}
use Rattle.model.specs.Codes.{Answered}
use Rattle.model.specs.Events.{entry, at, step, entered_out}
use Rattle.gate.proofs.Known.{found, unstepped}
use Rattle.gate_mut.proofs.InRow.{unread, is_here}
use Rattle.vcpu.proofs.Steps.{below_32, entered}
use Rattle.gate_mut_entries.proofs.StepLaws.{rest_stands}
use Rattle.gate_mut_entries.proofs.entry_in.Goals as goal

pub returns-in_err-i : goal.returns-in_err-i
returns-in_err-i c =
    let a = c.args in
    let m = a.m.now in
    let gone : c.from_residual.result ≡ Err c.in_err-i.field-0.0 = grind arith in
    ap (λ (r : Answered Presentation). entered_out (record { answer = r; after = m })) gone
    ∙ unstepped m (at a.vcpu (entry a.iflag a.shadow a.blocked)) c.in_err-i.field-0.0 (sym c.in_err-i.was ∙ c.index_of.ensures.value)

pub returns-then-rests : goal.returns-then-rests
unfolding with_vcpu
returns-then-rests c =
    let a = c.args in
    let m = a.m.now in
    let i = c.in_ok-i.i in
    let f = found m a.vcpu i (sym c.in_ok-i.was ∙ c.index_of.ensures.value) in
    entered m i f.0 (get_or m.vcpus i unread) (is_here m i (omega (arith, below_32 m f.0))) a.iflag a.shadow a.blocked _
    (rest_stands a.iflag a.shadow a.blocked (get_or m.vcpus i unread) (sym c.rests.ensures ∙ c.if-rests.true))
    ∙ ap (λ (k : ℕ). step m (at k (entry a.iflag a.shadow a.blocked))) f.1

pub returns : goal.returns
unfolding with_vcpu
returns c =
    let a = c.args in
    let m = a.m.now in
    let i = c.in_ok-i.i in
    let f = found m a.vcpu i (sym c.in_ok-i.was ∙ c.index_of.ensures.value) in
    entered m i f.0 (get_or m.vcpus i unread) (is_here m i (omega (arith, below_32 m f.0))) a.iflag a.shadow a.blocked _ c.enter.ensures
    ∙ ap (λ (k : ℕ). step m (at k (entry a.iflag a.shadow a.blocked))) f.1
