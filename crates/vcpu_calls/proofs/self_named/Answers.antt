-- A vector that was pending has no bit.
use Rattle.std.proofs.Common.{◌≡◌, sym, ◌∙◌, Bool, true, false, not, ◌&&◌, ℕ, eqb}
use Rattle.std.proofs.Math.Bool.{and-false}
use Rattle.vector_set.specs.Bits.{bits}
use Rattle.ipi.proofs.Masks.{mask_none}
use Rattle.vcpu_calls.proofs.self_named.Goals as goal

at_true : (i : ℕ) (t : Bool) → t ≡ true → 0 ≡ bits (λ j. eqb j i && not t) 0 32
at_true i t e = rw e (mask_none (λ j. eqb j i && false) (λ b l. and-false (eqb b i)))

pub returns-then-contains : goal.returns-then-contains
returns-then-contains c = at_true _ _ (sym c.contains.ensures ∙ c.if-contains.true)
