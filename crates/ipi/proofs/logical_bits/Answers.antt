-- `ipi::logical_bits` meets its contract: the cluster's case. Assumes nothing.
use native.Mathlib.Omega.{arith}
use Rattle.ipi.proofs.Masks.{mask_low, mask_high, mask_far}
use Rattle.ipi.proofs.logical_bits.Goals as goal

pub returns-in-0 : goal.returns-in-0
returns-in-0 c = mask_low c.args.d c.in-0.is (omega arith)

pub returns-in-1 : goal.returns-in-1
returns-in-1 c = mask_high c.args.d c.in-1.is

pub returns-in_default : goal.returns-in_default
returns-in_default c = mask_far c.args.d (omega arith)
