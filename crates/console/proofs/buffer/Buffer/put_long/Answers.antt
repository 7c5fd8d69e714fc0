-- `console::buffer::Buffer::put_long` meets its contract: as much of the text as there is room for is copied behind what is there.
use Rattle.std.proofs.Common.{rules}
use Rattle.console.proofs.Fills.{puts_part, puts_out}
use Rattle.console.proofs.buffer.Buffer.put_long.Goals as goal

pub returns-then-self : goal.returns-then-self
returns-then-self g c =
    puts_part c.args.text.now c.args.self.now.bytes _ _ c.args.self.now.len c.if-self.true (search rules) c.first-fitting.ensures (search rules)

pub returns-else-self : goal.returns-else-self
returns-else-self g c = puts_out _ _ _ c.if-self.false
