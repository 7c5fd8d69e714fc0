-- `console_lines::state::put_set` meets its contract.
use Rattle.console.proofs.Fills.{puts_more}
use Rattle.console_lines.proofs.state.put_set.Goals as goal

pub returns : goal.returns
returns c =
    let t1 = puts_more c.put.ensures c.put-2.ensures in
    let t2 = puts_more t1 c.put_members.ensures in
    puts_more t2 c.put-3.ensures
