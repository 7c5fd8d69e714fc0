-- `console_lines::answers::put_listed` meets its contract.
use Rattle.console.proofs.Fills.{puts_more}
use Rattle.console_lines.proofs.answers.put_listed.Goals as goal

pub returns : goal.returns
returns c =
    let t1 = puts_more c.put_answer.ensures c.put.ensures in
    let t2 = puts_more t1 c.put_codes.ensures in
    puts_more t2 c.put-2.ensures
