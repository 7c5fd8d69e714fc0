-- `console::buffer::Buffer::put_short` meets its contract: at each turn one byte more of the text is put behind those before it.
use Rattle.console.proofs.Fills.{puts_none, turn_stored, turn_lost, all_put}
use Rattle.console.proofs.buffer.Buffer.put_short.Goals as goal
use Rattle.console.proofs.buffer.Buffer.put_short.Goals.{then-len, else-len}

pub loop-b-init : goal.loop-b-init
loop-b-init g c = puts_none _ _

pub loop-b-preserved : goal.loop-b-preserved
loop-b-preserved g c =
    let l = c.loop-b in
    elim c.if-len.branch [
      | then-len w ↦ rw (w.self-is, w.len-is) (turn_stored c.args.text.now l.b-index c.loop-b-test.true w.if-len.true l.invariant)
      | else-len w ↦ rw (w.self-is, w.len-is) (turn_lost c.args.text.now l.b-index c.loop-b-test.true w.if-len.false l.invariant)
    ]

pub returns : goal.returns
returns g c = all_put c.loop-b.invariant c.loop-b-test.false
