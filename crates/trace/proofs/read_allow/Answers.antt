-- The words behind the arguments are the list.
use Rattle.std.proofs.Common.{refl}
use Rattle.trace.specs.Words.{words}
use Rattle.trace.proofs.Events.{rest_drop}
use Rattle.trace.proofs.read_allow.Goals as goal

pub returns-clause-values_are : goal.returns-clause-values_are
returns-clause-values_are c =
    let ws = words c.args.line.left.now in
    let e = rest_drop 2 ws _ _ (rest_drop 1 ws _ _ (rest_drop 0 ws _ _ refl c.number32.ensures.others) c.number.ensures.others) c.number32-2.ensures.others in
    let l = rw e at c.in_ok-count.ensures.list_is in
    (c.in_ok-length.ensures.upper_bound, l.0, l.1)
