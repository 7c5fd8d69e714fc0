-- `vcpu::items::post` meets its contract: the word and its mark, then the marks. Assumes nothing.
use mathlib.Core.Path.{ap, ◌∙◌}
use Prim.Native.Nat.{ℕ}
use lib.Bits.{bit_or}
use Rattle.model.specs.State.{with_summary}
use Rattle.vector_set.proofs.WordLaws.{array_words}
use Rattle.ipi.specs.Posts.{posted}
use Rattle.ipi.proofs.Marks.{posted_is}
use Rattle.vcpu.proofs.items.post.Goals as goal

pub returns : goal.returns
returns c =
    let s = c.before.before.before.before.before in
    let v = s.args.v in
    let p = s.args.posting in
    let same = ap (λ (b : ℕ). with_summary (bit_or v.summary b) (posted p v)) c.summary_of.ensures in
    let fields = s.well_formed.0.1.1 in
    (same, λ y e. same ∙ posted_is p v s.requires (array_words v.irr _ fields.1.0) fields.1.1.1.1.1.1.1.1.1.1.1.0.1 y e)
