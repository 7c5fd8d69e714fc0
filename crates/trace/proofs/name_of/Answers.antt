-- Where the bytes that were tested are those of no name.
use Rattle.std.proofs.Common.{arith}
use Rattle.trace.proofs.Names.{unknown}
use Rattle.trace.proofs.name_of.Goals as goal

pub returns-in_default : goal.returns-in_default
returns-in_default c = unknown c.args.word.now (λ s. omega arith) (λ s. omega arith) (λ s. omega arith) (λ s. omega arith) (λ s. omega arith) (λ s. omega arith) (λ s. omega arith) (λ s. omega arith) (λ s. omega arith)

pub returns-in_default-22 : goal.returns-in_default-22
returns-in_default-22 c = unknown c.args.word.now (λ s. omega arith) (λ s. omega arith) (λ s. omega arith) (λ s. omega arith) (λ s. omega arith) (λ s. omega arith) (λ s. omega arith) (λ s. omega arith) (λ s. omega arith)

pub returns-in_default-27 : goal.returns-in_default-27
returns-in_default-27 c = unknown c.args.word.now (λ s. omega arith) (λ s. omega arith) (λ s. omega arith) (λ s. omega arith) (λ s. omega arith) (λ s. omega arith) (λ s. omega arith) (λ s. omega arith) (λ s. omega arith)

pub returns-in_default-28 : goal.returns-in_default-28
returns-in_default-28 c = unknown c.args.word.now (λ s. omega arith) (λ s. omega arith) (λ s. omega arith) (λ s. omega arith) (λ s. omega arith) (λ s. omega arith) (λ s. omega arith) (λ s. omega arith) (λ s. omega arith)

pub returns-in_default-29 : goal.returns-in_default-29
returns-in_default-29 c = unknown c.args.word.now (λ s. omega arith) (λ s. omega arith) (λ s. omega arith) (λ s. omega arith) (λ s. omega arith) (λ s. omega arith) (λ s. omega arith) (λ s. omega arith) (λ s. omega arith)

pub returns-in_default-37 : goal.returns-in_default-37
returns-in_default-37 c = unknown c.args.word.now (λ s. omega arith) (λ s. omega arith) (λ s. omega arith) (λ s. omega arith) (λ s. omega arith) (λ s. omega arith) (λ s. omega arith) (λ s. omega arith) (λ s. omega arith)

pub returns-in_default-38 : goal.returns-in_default-38
returns-in_default-38 c = unknown c.args.word.now (λ s. omega arith) (λ s. omega arith) (λ s. omega arith) (λ s. omega arith) (λ s. omega arith) (λ s. omega arith) (λ s. omega arith) (λ s. omega arith) (λ s. omega arith)

pub returns-in_default-47 : goal.returns-in_default-47
returns-in_default-47 c = unknown c.args.word.now (λ s. omega arith) (λ s. omega arith) (λ s. omega arith) (λ s. omega arith) (λ s. omega arith) (λ s. omega arith) (λ s. omega arith) (λ s. omega arith) (λ s. omega arith)

pub returns-in_default-48 : goal.returns-in_default-48
returns-in_default-48 c = unknown c.args.word.now (λ s. omega arith) (λ s. omega arith) (λ s. omega arith) (λ s. omega arith) (λ s. omega arith) (λ s. omega arith) (λ s. omega arith) (λ s. omega arith) (λ s. omega arith)

pub returns-in_default-49 : goal.returns-in_default-49
returns-in_default-49 c = unknown c.args.word.now (λ s. omega arith) (λ s. omega arith) (λ s. omega arith) (λ s. omega arith) (λ s. omega arith) (λ s. omega arith) (λ s. omega arith) (λ s. omega arith) (λ s. omega arith)

pub returns-in_default-50 : goal.returns-in_default-50
returns-in_default-50 c = unknown c.args.word.now (λ s. omega arith) (λ s. omega arith) (λ s. omega arith) (λ s. omega arith) (λ s. omega arith) (λ s. omega arith) (λ s. omega arith) (λ s. omega arith) (λ s. omega arith)
