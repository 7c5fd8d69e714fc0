-- A table whose entries are computed from a rule.
-- Assumes nothing.
use Rattle.std.specs.Prelude.{List, [], ◌∷◌, ℕ, zero, suc}

-- what the rule gives for the n numbers from k on (6.1, 6.30)
abbrev pub listed : {A : Type 0} → (ℕ → A) → ℕ → ℕ → List A
listed rule k zero = []
listed rule k (suc n) = rule k ∷ listed rule (suc k) n
