-- A word is four bytes.
use native.Mathlib.Omega.{arith}
use Rattle.descriptor.proofs.ByteWords.{word_bytes}
use Rattle.descriptor.proofs.word_of.Goals as goal

pub returns : goal.returns
returns c = omega (arith, word_bytes c.args.d.now c.args.at (λ i. omega (arith, c.type_inv.d i)), c.from_le_bytes.ensures)
