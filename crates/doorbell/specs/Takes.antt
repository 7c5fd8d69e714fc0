-- What a notice takes from a page beside its marks, and the page until they are taken too (4.6, 4.14 to 4.24, 4.31).
-- Assumes nothing.
use Rattle.std.specs.Prelude.{cond, List, ℕ, Option, None, Some}
use Rattle.model.specs.Doorbell.{bit_of, many_bit, announces, descriptor, noticed_page}
use Rattle.descriptor.specs.Requests.{Asked, requested_in}

-- at the VMPL l, under the set A, if work is announced
unfoldable pub taken_from : ℕ → List ℕ → List ℕ → Option Asked
taken_from l a p = cond {A = Option Asked} (announces l p) (Some (requested_in a (descriptor l p))) None

-- with bit 14 it is as it was
unfoldable pub taken_page : ℕ → List ℕ → List ℕ
taken_page l p = cond (bit_of (descriptor l p) many_bit) p (noticed_page l p)
