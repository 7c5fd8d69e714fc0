-- `console::Session::advance` meets its contract.
use Rattle.console.proofs.Going.{goes_on, ill_bounded, all_read}
use Rattle.console.proofs.Session.advance.Goals as goal
use Rattle.console.proofs.Session.advance.Goals.{else-self-via-then-self+else-self-le-CHUNK_BYTES, else-self-via-else-self}

pub returns-then-self-le-CHUNK_BYTES : goal.returns-then-self-le-CHUNK_BYTES
returns-then-self-le-CHUNK_BYTES c = goes_on c.args.self.now c.renew.ensures c.if-self.true c.if-self-le-CHUNK_BYTES.true c.keep_read.ensures

pub returns-else-self : goal.returns-else-self
returns-else-self c =
    elim c.else-self.branch [
      | else-self-via-then-self+else-self-le-CHUNK_BYTES w ↦ ill_bounded c.args.self.now c.renew.ensures w.if-self.true w.if-self-le-CHUNK_BYTES.false
      | else-self-via-else-self w ↦ all_read c.args.self.now c.renew.ensures w.if-self.false
    ]
