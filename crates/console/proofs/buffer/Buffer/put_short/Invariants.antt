use Rattle.std.proofs.Common.{take}
use Rattle.console.specs.Filling.{Puts}
use Rattle.console.proofs.buffer.Buffer.put_short.Given as goal

abbrev pub invariant-loop-b : goal.invariant-loop-b
invariant-loop-b g l = Puts g.row.N (take l.b-index l.text) l.initial.self.bytes l.initial.len l.self.bytes l.len
