-- `ipi::bit_of` meets its contract: a shift by 32 and more has no bit. Assumes nothing.
use mathlib.Core.Path.{◌∙◌}
use Rattle.ipi.proofs.Masks.{mask_shift}
use Rattle.ipi.proofs.bit_of.Goals as goal

pub returns : goal.returns
returns c = c.unwrap_or.ensures ∙ mask_shift c.args.k _ c.checked_shl.ensures
