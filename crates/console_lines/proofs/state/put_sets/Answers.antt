-- `console_lines::state::put_sets` meets its contract.
use Rattle.console.proofs.Fills.{puts_more}
use Rattle.console_lines.proofs.state.put_sets.Goals as goal

pub returns : goal.returns
returns c =
    let t1 = puts_more c.put_set.ensures c.put_set-2.ensures in
    let t2 = puts_more t1 c.put_set-3.ensures in
    let t3 = puts_more t2 c.put_set-4.ensures in
    puts_more t3 c.put_set-5.ensures
