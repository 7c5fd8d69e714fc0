-- The words of x, the summary of P and what is in flight are stored; `move_level` stores the rest.
use mathlib.Core.Path.{◌∙◌}
use Rattle.std.proofs.Common.{rules}
use native.Mathlib.Omega.{arith}
use Rattle.vcpu_entries.proofs.Moves.{vector_stored}
use Rattle.gate_mut.proofs.Sized.{of_record}
use Rattle.gate_mut_entries.proofs.present.Goals as goal

pub returns : goal.returns
returns c =
    let v = c.args.v.now in
    let good = of_record v (search rules) in
    c.move_level.ensures
    ∙ vector_stored c.args.x c.word_of-k.result v c.words_after-words.result (omega arith) c.word_of-k.ensures good.pending good.in_service
    c.words_after-words.ensures
