use mathlib.Core.Path.{◌≡◌}
use Prim.Native.Nat.{◌≤◌}
use lib.ListN.{length}
use Rattle.trace.specs.Words.{words}
use Rattle.trace.proofs.Listing.{Reached}
use Rattle.trace.proofs.lists.fill.Given as goal

abbrev pub invariant-loop-word : goal.invariant-loop-word
invariant-loop-word l =
    (l.count ≤ 1024)
    × (length l.values ≡ 1024)
    × Reached (words l.fn.line.left.now) l.count l.values (words l.word-iterator.left.now)
