-- A table whose entries are computed from a rule: the rule at each entry.
-- Assumes nothing.
use mathlib.Core.Path.{◌≡◌, ap, ◌∙◌}
use Prim.Native.Nat.{ℕ, zero, suc, ◌+◌, ◌-◌, ◌<◌, ◌≤◌}
use native.Mathlib.Omega.{arith}
use native.Mathlib.Nat.{le_of_suc-le-suc, not-suc-le-zero}
use lib.ListN.{get_or}
use Rattle.requests.specs.Listed.{listed}

from : {A : Type 0} (rule : ℕ → A) (d : A) (k n j : ℕ) → j < n → get_or (listed rule k n) j d ≡ rule (k + j)
from rule d k zero j h = absurd (not-suc-le-zero h)
from rule d k (suc n) zero h = let z : k + 0 ≡ k = omega arith in rw z
from rule d k (suc n) (suc j) h = let z : k + suc j ≡ suc k + j = omega arith in rw z (from rule d (suc k) n j (le_of_suc-le-suc h))

-- the entry of the number r, in a table that starts at the number k
pub at : {A : Type 0} (rule : ℕ → A) (d : A) (k n r : ℕ) → k ≤ r → r - k < n → get_or (listed rule k n) (r - k) d ≡ rule r
at rule d k n r h l = let z : k + (r - k) ≡ r = omega arith in from rule d k n (r - k) l ∙ ap rule z
