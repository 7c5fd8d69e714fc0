-- An unknown vCPU, or the page and the step of the record.
use mathlib.Core.Path.{ap, ◌∙◌}
use Prim.Native.Nat.{ℕ}
use Rattle.model.specs.declared.Stepped.{Stepped}
use Rattle.model.specs.declared.Counts.{Counts}
use Rattle.model.specs.State.{with_vcpu}
use Rattle.model.specs.Events.{notice, at, vcpu_verdict, step, noticed_out}
use Rattle.gate.proofs.Known.{found, unstepped}
use Rattle.vcpu.proofs.Steps.{below_32, records_32, record_is}
use Rattle.vcpu_pages.proofs.Steps.{noticed_on, notice_refused}
use Rattle.gate_pages.proofs.notice.Goals as goal

pub returns-in-Err : goal.returns-in-Err
returns-in-Err c =
    let a = c.args in
    ap (λ (r : Stepped Counts). noticed_out r a.page.now) c.refused.ensures
    ∙ unstepped a.m (at a.vcpu (notice a.page.now)) c.in-Err.c c.in-Err.ensures.value

pub returns-in-Ok-notice_vcpu : goal.returns-in-Ok-notice_vcpu
unfolding with_vcpu vcpu_verdict
returns-in-Ok-notice_vcpu c =
    let a = c.args in
    let i = c.in-Ok.i in
    let f = found a.m a.vcpu i c.in-Ok.ensures.value in
    let e = c.in-Ok-notice_vcpu.ensures in
    noticed_on a.m i f.0 _ (record_is a.m i _ (below_32 a.m f.0) (records_32 a.m _ c.well_formed.0)) a.page.now c.notice_vcpu.new.page _ e.0 e.1
    ∙ ap (λ (k : ℕ). step a.m (at k (notice a.page.now))) f.1

pub returns-in-Err-notice_vcpu : goal.returns-in-Err-notice_vcpu
returns-in-Err-notice_vcpu c =
    let a = c.args in
    let i = c.in-Ok.i in
    let f = found a.m a.vcpu i c.in-Ok.ensures.value in
    let e = c.in-Err-notice_vcpu in
    ap (λ (r : Stepped Counts). noticed_out r c.notice_vcpu.new.page) c.refused-in-Err-notice_vcpu.ensures
    ∙ notice_refused a.m i f.0 _ (record_is a.m i _ (below_32 a.m f.0) (records_32 a.m _ c.well_formed.0)) a.page.now c.notice_vcpu.new.page e.c e.ensures
    ∙ ap (λ (k : ℕ). step a.m (at k (notice a.page.now))) f.1
