-- Word by word.
use borrow.Author.Rules.{rules}
use mathlib.Core.Path.{◌≡◌, sym, ap, ◌∙◌}
use Prim.Native.Nat.{◌+◌, ◌*◌}
use native.Mathlib.Omega.{arith}
use lib.Seq.{ext_get_or}
use Rattle.vector_set.specs.Bits.{bits}
use Rattle.vector_set.specs.Sets.{collect}
use Rattle.vector_set.proofs.Laws.{words_at, collect_words}
use Rattle.vector_set_algebra.proofs.Made.{made_at}
use Rattle.model.specs.Doorbell.{bit_of}
use Rattle.descriptor.proofs.marks.Goals as goal

pub returns : goal.returns
unfolding collect
returns c =
    let f = bit_of c.args.d.now in
    let s = c.from_fn.result in
    let made = c.from_fn.ensures.items in
    ext_get_or 0 s (collect f) (made.long ∙ sym (collect_words f).eight)
    (λ k h.
    let e : 8 * (4 * k) ≡ 32 * (0 + k) = omega arith in
    made_at _ _ (λ i y. y ≡ bits f (8 * (4 * i)) 32) (λ i y q k. search rules) s 0 8 k made.each (omega arith) (omega (arith, made.long))
    ∙ ap (λ n. bits f n 32) e ∙ sym (words_at f 0 8 k (omega (arith, made.long))))
