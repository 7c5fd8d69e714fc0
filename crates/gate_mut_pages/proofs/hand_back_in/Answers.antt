-- An unknown vCPU, a refused hand-back, or the page and the step of the record.
use Rattle.std.specs.Prelude.{Err}
use mathlib.Core.Path.{◌≡◌, ap, ◌∙◌}
use native.Mathlib.Omega.{arith}
use Prim.Native.Nat.{ℕ}
use lib.ListN.{get_or}
use Rattle.model.specs.Codes.{Answered}
use Rattle.model.specs.State.{with_vcpu}
use Rattle.model.specs.Events.{hand_back, at, step, out_of}
use Rattle.gate.proofs.Known.{found, unstepped}
use Rattle.vcpu.proofs.Steps.{below_32}
use Rattle.vcpu_pages.proofs.Steps.{hand_back_refused, handed_back}
use Rattle.gate_mut.proofs.InRow.{unread, is_here}
use Rattle.gate_mut_pages.proofs.hand_back_in.Goals as goal

pub returns-in_err-i : goal.returns-in_err-i
returns-in_err-i c =
    let a = c.args in
    let gone : c.from_residual.result ≡ Err c.in_err-i.field-0.0 = grind arith in
    ap (λ (r : Answered ℕ). out_of (record { answer = r; after = a.m.now }) a.page.now) gone
    ∙ unstepped a.m.now (at a.vcpu (hand_back a.page.now a.iflag a.shadow)) c.in_err-i.field-0.0 c.in_err-i.ensures.value

pub returns-in_err-value : goal.returns-in_err-value
returns-in_err-value c =
    let a = c.args in
    let m = a.m.now in
    let i = c.in_ok-i.i in
    let f = found m a.vcpu i c.in_ok-i.ensures.value in
    let gone : c.from_residual-in_err-value.result ≡ Err c.in_err-value.field-0.0 = grind arith in
    ap (λ (r : Answered ℕ). out_of (record { answer = r; after = m }) c.hand_over.new.page) gone
    ∙ hand_back_refused m i f.0 (get_or m.vcpus i unread) (is_here m i (omega (arith, below_32 m f.0))) a.page.now c.hand_over.new.page a.iflag a.shadow
    c.hand_over.result c.hand_over.ensures _ c.in_err-value.was
    ∙ ap (λ (k : ℕ). step m (at k (hand_back a.page.now a.iflag a.shadow))) f.1

pub returns : goal.returns
unfolding with_vcpu
returns c =
    let a = c.args in
    let m = a.m.now in
    let i = c.in_ok-i.i in
    let f = found m a.vcpu i c.in_ok-i.ensures.value in
    handed_back m i f.0 (get_or m.vcpus i unread) (is_here m i (omega (arith, below_32 m f.0))) a.page.now c.hand_over.new.page a.iflag a.shadow
    c.hand_over.result c.hand_over.ensures c.in_ok-value.value c.in_ok-value.was c.empty_vcpu.result c.empty_vcpu.ensures
    ∙ ap (λ (k : ℕ). step m (at k (hand_back a.page.now a.iflag a.shadow))) f.1
