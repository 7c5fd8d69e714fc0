-- The level mark of x is stored in its words of PL and SL.
use Rattle.std.proofs.Common.{rules}
use native.Mathlib.Omega.{arith}
use Rattle.vcpu_entries.proofs.Moves.{level_stored}
use Rattle.gate_mut.proofs.Sized.{of_record}
use Rattle.gate_mut_entries.proofs.move_level.Goals as goal

pub returns : goal.returns
returns c =
    let v = c.args.v.now in
    let good = of_record v (search rules) in
    level_stored c.args.x c.word_of-k.result v c.level_words_after-words.result (omega arith) c.word_of-k.ensures good.pending_level good.in_service_level
    c.level_words_after-words.ensures
