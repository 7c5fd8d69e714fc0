-- The first word lies between the spaces before it and the next space.
use Rattle.std.proofs.Common.{◌≡◌, sym, ap, ◌∙◌, arith, length, None}
use Rattle.trace.proofs.Text.{first_word, no_word}
use Rattle.trace.proofs.words.LineIterator.next.Goals as goal

pub returns-in_err-from-clause-steps : goal.returns-in_err-from-clause-steps
returns-in_err-from-clause-steps c =
    let gone : c.from_residual.result ≡ None = grind arith in
    let w = no_word _ (sym c.in_err-from.was ∙ c.past_spaces.ensures) in
    rw gone (w, w)

pub returns-clause-steps : goal.returns-clause-steps
returns-clause-steps c = first_word _ _ _ c.in_ok-from.ensures c.find-to.ensures.value

pub returns-clause-goes : goal.returns-clause-goes
returns-clause-goes c =
    record { on = λ _. (tt, tt, omega (arith, ap length (first_word _ _ _ c.in_ok-from.ensures c.find-to.ensures.value))); keeps = tt; rests = λ _. tt }
