-- Refused, nothing announced, the request added, or the request and the marks.
use mathlib.Core.Path.{◌≡◌, refl, sym, ap, ◌∙◌}
use mathlib.Core.Bool.{Bool, not, not-not}
use native.Mathlib.Omega.{arith}
use lib.Bits.{bit_or}
use Rattle.std.specs.Prelude.{Ok, Err, Some}
use Rattle.vector_set.specs.Sets.{union}
use Rattle.vector_set.specs.Summaries.{summary_of}
use Rattle.model.specs.declared.Vcpu.{Vcpu}
use Rattle.descriptor.specs.Requests.{Asked}
use Rattle.vcpu.specs.Notices.{marks_added, marks_counted}
use Rattle.vcpu_pages.proofs.Adds.{fits, added, counts}
use Rattle.vcpu_pages.proofs.NoticeLaws.{changed, record_refused, record_kept, record_one, still_asks, record_many}
use Rattle.vcpu_pages.proofs.notices.notice_vcpu.Goals as goal

-- what a negated flag says
flag : (b : Bool) {n : Bool} → not b ≡ n → b ≡ not n
flag b e = sym (not-not b) ∙ ap not e

pub returns-in_err-requested : goal.returns-in_err-requested
returns-in_err-requested c =
    let a = c.args in
    let gone : c.from_residual.result ≡ Err c.in_err-requested.field-0.0 = grind arith in
    rw gone (record_refused a.vmpl.level a.v a.page.now c.take.new.page c.take.result c.take.ensures _ c.in_err-requested.was)

pub returns-in_default : goal.returns-in_default
returns-in_default c =
    let a = c.args in
    let f = c.well_formed.1.1.0.1.1 in
    record_kept a.vmpl.level a.v a.page.now c.take.new.page c.take.result (fits a.v _ _ f.1.0 f.1.1.1.0 f.1.1.1.1.1.1.1.1.1.1.1.0.1) c.take.ensures
    (grind arith)

pub returns-then-not-requested : goal.returns-then-not-requested
returns-then-not-requested c =
    let a = c.args in
    let r = c.requested in
    let f = c.well_formed.1.1.0.1.1 in
    let z =
    record_one a.vmpl.level a.v a.page.now c.take.new.page c.take.result c.take.ensures _
    (c.in_ok-requested.was ∙ ap Ok (c.in-Some.is ∙ ap Some (sym r.view_is))) r.invariant
    (fits a.v _ _ f.1.0 f.1.1.1.0 f.1.1.1.1.1.1.1.1.1.1.1.0.1) (flag _ c.if-not-requested.true) c.counts_of.result c.counts_of.ensures
    in
    (ap (changed c.counts_of.result) c.add_request-w.ensures ∙ z.0, z.1)

pub take_marks-edge-requires : goal.take_marks-edge-requires
take_marks-edge-requires c =
    let a = c.args in
    still_asks a.vmpl.level a.v a.page.now c.take.new.page c.take.result c.take.ensures _
    (c.in_ok-requested.was ∙ ap Ok c.in-Some.is) (ap (λ (x : Asked). x.many) (sym c.requested.view_is) ∙ flag _ c.if-not-requested.false)

pub returns : goal.returns
returns c =
    let a = c.args in
    let r = c.requested in
    let f = c.well_formed.1.1.0.1.1 in
    let x : Asked = record { posting = r.inside.posting; level = r.inside.level; many = r.inside.many } in
    let e = c.take_marks-edge in
    let z =
    record_many a.vmpl.level a.v a.page.now c.take.new.page c.take.result c.take.ensures x
    (c.in_ok-requested.was ∙ ap Ok (c.in-Some.is ∙ ap Some (sym r.view_is))) (flag _ c.if-not-requested.false) r.invariant
    (fits a.v _ _ f.1.0 f.1.1.1.0 f.1.1.1.1.1.1.1.1.1.1.1.0.1) e.result e.new.page e.ensures.0 e.ensures.1 c.count_marks.result
    (c.count_marks.ensures ∙ ap (λ (u : Vcpu). marks_counted (counts a.v x) e.result u.irr) c.add_request-w.ensures)
    (union (added a.v x).irr e.result) refl (bit_or (added a.v x).summary (summary_of e.result)) refl
    in
    (ap (changed c.count_marks.result) (c.add_marks.ensures ∙ ap (marks_added e.result) c.add_request-w.ensures) ∙ z.0, z.1)
