-- The place in the stretch that holds the byte, or the stretch's end.
use Rattle.std.proofs.Common.{arith}
use Rattle.trace.proofs.Text.{found, not_found, stretch, stretch_length}
use Rattle.trace.proofs.scan.find.Goals as goal

pub returns-in-Some-clause-value : goal.returns-in-Some-clause-value
returns-in-Some-clause-value c =
    let a = c.args in omega (arith, (found a.b _ _ c.in-Some.ensures).0, stretch a.b a.from a.to a.s.now c.requires.from_le_to)

pub returns-in-None-clause-value : goal.returns-in-None-clause-value
returns-in-None-clause-value c =
    let a = c.args in omega (arith, not_found a.b _ c.in-None.ensures, stretch a.b a.from a.to a.s.now c.requires.from_le_to, stretch_length a.from a.to a.s.now c.requires.to_in_bounds)
