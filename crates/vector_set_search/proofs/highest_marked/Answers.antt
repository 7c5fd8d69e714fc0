-- `vector_set_search::highest_marked` meets its contract. The loop's invariant: what is left of the marks is the byte below some bit, and no marked word from
-- there on has a member. Assumes nothing.
use Rattle.std.proofs.Common.{◌≡◌, sym, ap, subst, arith, Some, ℕ, ◌+◌, ◌-◌, ◌*◌, ◌/◌, ◌<◌}
use Rattle.vector_set.specs.Sets.{highest}
use Rattle.vector_set.specs.Summaries.{in_marked}
use Rattle.vector_set.proofs.WordLaws.{array_words, one_shl}
use Rattle.vector_set_search.proofs.Turns.{marked_from, Left, reads_marked, turn, found, passed, nothing_left}
use Rattle.vector_set_search.proofs.highest_marked.Goals as goal

pub bounds-s-top : goal.bounds-s-top
bounds-s-top c = (turn _ _ _ _ c.ilog2-top.result c.loop-left.invariant c.ilog2-top.ensures.power_le c.ilog2-top.ensures.next_power_gt).small

pub returns-in-Some : goal.returns-in-Some
returns-in-Some c =
    let b = c.args.marks in
    let s = c.args.s in
    let k = c.ilog2-top.result in
    let j = c.in-Some.bit in
    let l : j < 32 = c.in-Some.ensures.bound in
    let t = turn b s c.loop-left.left c.loop-left.number k c.loop-left.invariant c.ilog2-top.ensures.power_le c.ilog2-top.ensures.next_power_gt in
    let f : highest (in_marked b s) ≡ Some (32 * k + j) =
    found b s c.loop-left.left c.loop-left.number k j (array_words s _ c.well_formed.0) t l
    c.in-Some.ensures.power_le c.in-Some.ensures.next_power_gt in
    let e : (32 * k + j) / 32 ≡ k = omega arith in
    (sym f, omega (arith, t.number, ap (marked_from b) e, reads_marked b s _ f))

pub loop-left-preserved : goal.loop-left-preserved
loop-left-preserved c =
    let b = c.args.marks in
    let s = c.args.s in
    let left = c.loop-left.left in
    let number = c.loop-left.number in
    let k = c.ilog2-top.result in
    let t = turn b s left number k c.loop-left.invariant c.ilog2-top.ensures.power_le c.ilog2-top.ensures.next_power_gt in
    subst (λ (x : ℕ). Left b s (left - x) (number + 1)) (sym (one_shl k c.ilog2-top.ensures.bound))
    (passed b s left number k (array_words s _ c.well_formed.0) t c.in_default.ensures.none)

pub returns : goal.returns
returns c =
    let t = nothing_left c.args.marks c.args.s c.loop-left.left c.loop-left.number c.loop-left.invariant (omega arith) in
    (sym t.0, t.1)
