-- `vector_set_search::count_of` meets its contract: the members two words at a time. Assumes nothing.
use mathlib.Core.Path.{◌≡◌, refl, ap, ◌∙◌}
use mathlib.Core.List.{List}
use Prim.Native.Nat.{ℕ, suc, ◌+◌, ◌*◌, ◌<◌}
use native.Mathlib.Omega.{arith}
use lib.ListN.{get_or}
use lib.Count.{ones}
use Rattle.vector_set.specs.Sets.{count, count_below}
use Rattle.vector_set.proofs.Laws.{Words, below_le}
use Rattle.vector_set.proofs.WordLaws.{array_words, count_word}
use Rattle.vector_set_search.proofs.count_of.Goals as goal

-- the members of the words before the next pair
next : (s : List ℕ) → Words s → (p : ℕ) → p < 4
    → count_below s (64 * (p + 1)) ≡ count_below s (64 * p) + (ones (get_or s (2 * p) 0) + ones (get_or s (2 * p + 1) 0))
next s w p l =
    let low = count_word s (2 * p) w (omega arith) in
    let high = count_word s (2 * p + 1) w (omega arith) in
    let a : 64 * p ≡ 32 * (2 * p) = omega arith in
    let b : 32 * suc (2 * p) ≡ 32 * (2 * p + 1) = omega arith in
    let c : 64 * (p + 1) ≡ 32 * suc (2 * p + 1) = omega arith in
    omega (arith, low, high, ap (count_below s) a, ap (count_below s) b, ap (count_below s) c)

pub loop-pair-init : goal.loop-pair-init
unfolding count_below
loop-pair-init c = refl

pub overflow_add-members : goal.overflow_add-members
overflow_add-members c =
    let s = c.args.s in
    let p = c.loop-pair.pair in
    omega (arith, next s (array_words s _ c.well_formed.0) p c.loop-pair-test.true, c.loop-pair.invariant, c.count_pair-members.ensures, below_le s (64 * (p + 1)))

pub loop-pair-preserved : goal.loop-pair-preserved
loop-pair-preserved c =
    let s = c.args.s in
    let p = c.loop-pair.pair in
    omega (arith, next s (array_words s _ c.well_formed.0) p c.loop-pair-test.true, c.loop-pair.invariant, c.count_pair-members.ensures)

pub returns : goal.returns
unfolding count
returns c = c.loop-pair.invariant ∙ ap (count_below c.args.s) (omega arith)
