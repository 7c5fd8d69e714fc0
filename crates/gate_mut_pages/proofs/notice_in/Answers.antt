-- An unknown vCPU, a refused notice, nothing announced, what is asked for beside its marks, or that and the marks.
use Rattle.std.specs.Prelude.{Ok, Err, Some}
use mathlib.Core.Path.{◌≡◌, sym, ap, subst, ◌∙◌}
use native.Mathlib.Omega.{arith}
use borrow.Author.Rules.{rules}
use Prim.Native.Nat.{ℕ}
use lib.Bits.{bit_or}
use lib.ListN.{get_or}
use Rattle.vector_set.specs.Summaries.{summary_of}
use Rattle.model.specs.declared.Vcpu.{Vcpu}
use Rattle.model.specs.declared.Counts.{Counts}
use Rattle.model.specs.Codes.{Answered}
use Rattle.model.specs.State.{with_vcpu, with_summary}
use Rattle.model.specs.Events.{notice, at, step, noticed_out}
use Rattle.descriptor.specs.Requests.{Asked}
use Rattle.gate.proofs.Known.{found, unstepped}
use Rattle.vcpu.proofs.Steps.{below_32}
use Rattle.vcpu_pages.proofs.Adds.{Fits, added}
use Rattle.vcpu_pages.proofs.Steps.{taken_refused, notice_kept, notice_one, marks_asked, notice_many}
use Rattle.gate_mut.proofs.Sized.{Sized, sized, of_record}
use Rattle.gate_mut.proofs.InRow.{unread, is_here}
use Rattle.gate_mut.proofs.Served.{off, on}
use Rattle.gate_mut_pages.proofs.notice_in.Goals as goal

-- what a record is, of what stands there
fits_of : (v : Vcpu) → Sized v → Fits v
fits_of v f = record { irr_words = f.pending; level_words = f.pending_level; byte = f.small }

pub returns-in_err-i : goal.returns-in_err-i
returns-in_err-i c =
    let a = c.args in
    let gone : c.from_residual.result ≡ Err c.in_err-i.field-0.0 = grind arith in
    ap (λ (r : Answered Counts). noticed_out (record { answer = r; after = a.m.now }) a.page.now) gone
    ∙ unstepped a.m.now (at a.vcpu (notice a.page.now)) c.in_err-i.field-0.0 c.in_err-i.ensures.value

pub returns-in_err-requested : goal.returns-in_err-requested
returns-in_err-requested c =
    let a = c.args in
    let m = a.m.now in
    let i = c.in_ok-i.i in
    let f = found m a.vcpu i c.in_ok-i.ensures.value in
    let gone : c.from_residual-in_err-requested.result ≡ Err c.in_err-requested.field-0.0 = grind arith in
    ap (λ (r : Answered Counts). noticed_out (record { answer = r; after = m }) c.take.new.page) gone
    ∙ taken_refused m i f.0 (get_or m.vcpus i unread) (is_here m i (omega (arith, below_32 m f.0))) a.page.now c.take.new.page c.take.result c.take.ensures
    _ c.in_err-requested.was
    ∙ ap (λ (k : ℕ). step m (at k (notice a.page.now))) f.1

pub returns-in_default : goal.returns-in_default
returns-in_default c =
    let a = c.args in
    let m = a.m.now in
    let i = c.in_ok-i.i in
    let f = found m a.vcpu i c.in_ok-i.ensures.value in
    let here = is_here m i (omega (arith, below_32 m f.0)) in
    let u = get_or m.vcpus i unread in
    let fit = fits_of u (subst Sized (sym here) (sized m c.type_inv.m i (below_32 m f.0))) in
    notice_kept m i f.0 u here a.page.now c.take.new.page c.take.result c.take.ensures fit (c.in_ok-requested.was ∙ ap Ok c.in_default.is)
    ∙ ap (λ (k : ℕ). step m (at k (notice a.page.now))) f.1

pub returns-then-not-requested : goal.returns-then-not-requested
unfolding with_vcpu
returns-then-not-requested c =
    let a = c.args in
    let m = a.m.now in
    let i = c.in_ok-i.i in
    let f = found m a.vcpu i c.in_ok-i.ensures.value in
    let here = is_here m i (omega (arith, below_32 m f.0)) in
    let u = get_or m.vcpus i unread in
    let fit = fits_of u (of_record u (search rules)) in
    let r = c.requested in
    let x : Asked = record { posting = r.inside.posting; level = r.inside.level; many = r.inside.many } in
    let n = c.counts_of.result in
    ap (λ (b : ℕ). noticed_out (record { answer = Ok n; after = with_vcpu m i (with_summary (bit_or u.summary b) (added u x)) }) c.take.new.page)
    c.summary_of.ensures
    ∙ notice_one m i f.0 u here a.page.now c.take.new.page c.take.result c.take.ensures x
    (c.in_ok-requested.was ∙ ap Ok (c.in-Some.is ∙ ap Some (sym r.view_is))) r.invariant fit (off _ c.if-not-requested.true) n c.counts_of.ensures
    ∙ ap (λ (k : ℕ). step m (at k (notice a.page.now))) f.1

pub take_marks-edge-requires : goal.take_marks-edge-requires
take_marks-edge-requires c =
    let a = c.args in
    let m = a.m.now in
    let i = c.in_ok-i.i in
    let f = found m a.vcpu i c.in_ok-i.ensures.value in
    let here = is_here m i (omega (arith, below_32 m f.0)) in
    let z =
    marks_asked m i f.0 (get_or m.vcpus i unread) here a.page.now c.take.new.page c.take.result c.take.ensures _
    (c.in_ok-requested.was ∙ ap Ok c.in-Some.is) (ap (λ (x : Asked). x.many) (sym c.requested.view_is) ∙ on _ c.if-not-requested.false) in
    (z.0, z.3, z.4, z.5)

pub returns : goal.returns
unfolding with_vcpu
returns c =
    let a = c.args in
    let m = a.m.now in
    let i = c.in_ok-i.i in
    let f = found m a.vcpu i c.in_ok-i.ensures.value in
    let here = is_here m i (omega (arith, below_32 m f.0)) in
    let u = get_or m.vcpus i unread in
    let fit = fits_of u (of_record u (search rules)) in
    let r = c.requested in
    let x : Asked = record { posting = r.inside.posting; level = r.inside.level; many = r.inside.many } in
    let e = c.take_marks-edge in
    notice_many m i f.0 u here a.page.now c.take.new.page c.take.result c.take.ensures x
    (c.in_ok-requested.was ∙ ap Ok (c.in-Some.is ∙ ap Some (sym r.view_is))) (on _ c.if-not-requested.false) r.invariant fit
    e.result e.new.page e.ensures.0 e.ensures.1 c.count_marks.result c.count_marks.ensures c.union-w.result c.union-w.ensures c.mark_words-w.result
    (c.mark_words-w.ensures ∙ ap (λ (b : ℕ). bit_or (bit_or u.summary b) (summary_of e.result)) c.summary_of.ensures)
    ∙ ap (λ (k : ℕ). step m (at k (notice a.page.now))) f.1
