-- `vector_set_search::count_pair` meets its contract: the two words as one number of 64 bits. Assumes nothing.
use mathlib.Core.Path.{◌≡◌, ap, ◌∙◌}
use Prim.Native.Nat.{ℕ, ◌+◌, ◌*◌, ◌%◌, ◌^◌, ◌<◌}
use native.Mathlib.Omega.{arith}
use native.Mathlib.Nat.{add_comm}
use lib.Bits.{bit_or, or_shifted}
use lib.Count.{ones, ones_cat}
use lib.Pow.{shl_exact}
use Rattle.vector_set_search.proofs.count_pair.Goals as goal

-- the digits of both are counted apart
pub side_by_side : (low high : ℕ) → low < 2 ^ 32 → high < 2 ^ 32 → ones (bit_or (high * 2 ^ 32 % 2 ^ 64) low) ≡ ones low + ones high
side_by_side low high l h =
    ap (λ (x : ℕ). ones (bit_or x low)) (shl_exact 32 32 64 h (omega arith))
    ∙ ap ones (or_shifted high 32 low l) ∙ ones_cat 32 high low l ∙ add_comm (ones high) (ones low)

pub returns : goal.returns
returns c = rw (c.from.ensures, c.from-2.ensures) (side_by_side c.args.low c.args.high (omega arith) (omega arith))
