use mathlib.Core.Path.{◌≡◌}
use Rattle.trace.specs.Words.{words}
use Rattle.trace.specs.Pages.{zeros, fill as Pages·fill}
use Rattle.trace.proofs.pages.fill.Given as goal

abbrev pub invariant-loop-word : goal.invariant-loop-word
invariant-loop-word l = Pages·fill l.long (words l.fn.line.left.now) zeros ≡ Pages·fill l.long (words l.word-iterator.left.now) l.page
