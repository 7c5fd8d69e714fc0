-- `vector_set_search::summary_of` meets its contract: mark by mark. Assumes nothing.
use Rattle.std.proofs.Common.{refl, ap, ap₂, ◌∙◌, arith, bit_or}
use Rattle.vector_set.specs.Bits.{bits}
use Rattle.vector_set.specs.Summaries.{holds, summary_of}
use Rattle.vector_set_search.proofs.Marks.{bit_more}
use Rattle.vector_set_search.proofs.summary_of.Goals as goal

pub loop-k-init : goal.loop-k-init
unfolding bits
loop-k-init c = refl

pub loop-k-preserved : goal.loop-k-preserved
loop-k-preserved c =
    let h = holds c.args.s in
    ap₂ bit_or c.loop-k.invariant c.mark_of-marks.ensures ∙ bit_more h c.loop-k.k ∙ ap (bits h 0) (omega arith)

pub returns : goal.returns
unfolding summary_of
returns c = c.loop-k.invariant ∙ ap (bits (holds c.args.s) 0) (omega arith)
