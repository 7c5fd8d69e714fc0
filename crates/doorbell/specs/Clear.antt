-- Bytes with some of their bits cleared.
-- Assumes nothing.
use Rattle.std.specs.Prelude.{Bool, not, ◌&&◌, List, ℕ}
use Rattle.model.specs.Doorbell.{map_bits}

-- the bytes p with each bit k with g k cleared (4.31 to 4.33)
abbrev pub clearing : (ℕ → Bool) → List ℕ → List ℕ
clearing g p = map_bits (λ k b. b && not (g k)) p
