use Rattle.console.specs.Filling.{Adds}
use Rattle.std.proofs.Common.{◌≡◌}
use Rattle.console_lines.specs.Lines.{begun, members_below}
use Rattle.console_lines.proofs.state.put_members.Given as goal

abbrev pub invariant-loop-v : goal.invariant-loop-v
invariant-loop-v l = (l.later ≡ begun (members_below l.v l.s)) × Adds (members_below l.v l.s) l.initial.out l.out
