-- The session stays as it was.
use Rattle.std.proofs.Common.{◌≡◌}
use Rattle.player.proofs.Player.print_state.Given as goal

abbrev pub invariant-loop-k : goal.invariant-loop-k
invariant-loop-k l = l.self.session ≡ l.initial.self.session
