-- `console_lines::state::put_vcpu` meets its contract.
use Rattle.std.proofs.Common.{◌∙◌}
use Rattle.console_lines.proofs.Below.{bit_is, put_as}
use Rattle.console.proofs.Fills.{puts_more}
use Rattle.console_lines.proofs.state.put_vcpu.Goals as goal

pub returns : goal.returns
returns c =
    let t1 = puts_more (put_as _ c.from.ensures c.put_hex.ensures) c.put_phase.ensures in
    let t2 = puts_more t1 c.put_flight.ensures in
    let t3 = puts_more t2 (put_as _ (c.from-2.ensures ∙ bit_is c.args.v.nmi) c.put_hex-2.ensures) in
    let t4 = puts_more t3 (put_as _ c.from-3.ensures c.put_hex-3.ensures) in
    let t5 = puts_more t4 c.put_hex-4.ensures in
    let t6 = puts_more t5 c.put_sets.ensures in
    let t7 = puts_more t6 (put_as _ (c.from-4.ensures ∙ bit_is c.args.v.machine_check) c.put_hex-5.ensures) in
    let t8 = puts_more t7 (put_as _ c.from-5.ensures c.put_hex-6.ensures) in
    puts_more t8 c.put.ensures
