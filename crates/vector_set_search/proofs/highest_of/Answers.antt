-- `vector_set_search::highest_of` meets its contract. The loop's invariant: the words that were read have no member. Assumes nothing.
use Rattle.std.proofs.Common.{◌≡◌, sym, arith, None, Some, ◌+◌, ◌-◌, ◌*◌, ◌<◌}
use Rattle.vector_set.specs.Sets.{highest}
use Rattle.vector_set.proofs.Laws.{highest_no}
use Rattle.vector_set.proofs.WordLaws.{highest_word, zero_word}
use Rattle.vector_set_search.proofs.Searched.{reads}
use Rattle.vector_set_search.proofs.highest_of.Goals as goal

pub returns-in-Some : goal.returns-in-Some
returns-in-Some c =
    let s = c.args.s in
    let k = c.loop-k.k - 1 in
    let b : c.in-Some.bit < 32 = c.in-Some.ensures.bound in
    let e : highest s ≡ Some (32 * k + c.in-Some.bit) =
    highest_word s k c.in-Some.bit (omega arith) b c.in-Some.ensures.power_le c.in-Some.ensures.next_power_gt
    (λ w l g. c.loop-k.invariant w l (omega arith)) in
    (sym e, omega (arith, reads s _ e))

pub loop-k-preserved : goal.loop-k-preserved
loop-k-preserved c = zero_word c.args.s (c.loop-k.k - 1) c.in_default.ensures.none (λ w l g. c.loop-k.invariant w l (omega arith))

pub returns : goal.returns
returns c =
    let s = c.args.s in
    let nothing : highest s ≡ None = highest_no s (λ w l. c.loop-k.invariant w l (omega arith)) in
    (sym nothing, omega (arith, reads s None nothing))
