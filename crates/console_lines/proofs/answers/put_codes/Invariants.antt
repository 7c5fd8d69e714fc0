use Rattle.console.specs.Filling.{Adds}
use Rattle.console_lines.specs.Lines.{codes_below}
use Rattle.console_lines.proofs.answers.put_codes.Given as goal

abbrev pub invariant-loop-code : goal.invariant-loop-code
invariant-loop-code l = Adds (codes_below l.code-index l.codes) l.initial.out l.out
