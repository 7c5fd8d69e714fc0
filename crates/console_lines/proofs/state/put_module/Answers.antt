-- `console_lines::state::put_module` meets its contract.
use Rattle.console.proofs.Fills.{puts_more}
use Rattle.console_lines.proofs.Below.{put_as}
use Rattle.console_lines.proofs.state.put_module.Goals as goal

pub returns : goal.returns
returns c =
    let t1 = puts_more (put_as _ c.from.ensures c.put_hex.ensures) (put_as _ c.from-2.ensures c.put_hex-2.ensures) in
    let t2 = puts_more t1 (put_as _ c.from-3.ensures c.put_hex-3.ensures) in
    puts_more t2 c.put.ensures
