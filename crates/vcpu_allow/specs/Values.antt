-- What a list of ECX values does to the allowed set of its vCPU, each value as call 4 does, and what it answers.
-- Assumes nothing.
use Rattle.std.specs.Prelude.{Option, None, Some, Ok, Err, Bool, false, cond, ◌||◌, List, [], ◌∷◌, ◌++◌, map, ℕ, ◌-◌, ◌%◌, ◌^◌, length, drop}
use Rattle.std.specs.Int.Bits.{bit_and, bit_or}
use Rattle.model.specs.declared.Refusal.TheVariants.{NotActive, BadParameter, BadList}
use Rattle.model.specs.declared.Phase.{Phase}
use Rattle.model.specs.State.{is_active}
use Rattle.model.specs.Codes.{code_of, Answered, Verdict, accept, refuse, need}
use Rattle.model.specs.Requests.{nameable}
use Rattle.model.specs.Events.{list_fits}
use Rattle.vector_set.specs.Bits.{bit_at}
use Rattle.vector_set.specs.Sets.{insert, remove}

-- ---- one value
-- its code (5.17, 5.18, 5.29)
unfoldable pub value_code : ℕ → ℕ
value_code c = cond (nameable c) 0 (code_of BadParameter)

-- the set after it: the vector is put in or taken out by bit 8, if it may be named (5.16, 5.17)
unfoldable pub permitted : ℕ → List ℕ → List ℕ
permitted c s = cond (nameable c) (cond (bit_at c 8) (insert (c % 256) s) (remove (c % 256) s)) s

-- the word w of its vector after it, if it may be named
unfoldable pub permitted_word : ℕ → ℕ → ℕ
permitted_word c w = let b = 2 ^ (c % 256 % 32) in cond (bit_at c 8) (bit_or w b) (bit_and w (2 ^ 32 - 1 - b))

-- ---- the list
-- the set after all values, in their order (5.27, 5.28)
unfoldable pub permitted_all : List ℕ → List ℕ → List ℕ
permitted_all [] s = s
permitted_all (c ∷ cs) s = permitted_all cs (permitted c s)

-- one of the values is accepted (5.32)
unfoldable pub some_nameable : List ℕ → Bool
some_nameable [] = false
some_nameable (c ∷ cs) = nameable c || some_nameable cs

-- the verdict on the list: the phase, then the two lengths (5.31, 11.22)
unfoldable pub list_verdict : Phase → List ℕ → List ℕ → Verdict
list_verdict p xs ys = need (is_active p) NotActive (need (list_fits xs ys) BadList accept)

-- the second list with the codes, as before past the count (5.29)
unfoldable pub codes_in : List ℕ → List ℕ → List ℕ
codes_in xs ys = map value_code xs ++ drop (length xs) ys

-- the answer, by the verdict: the set after the list, where one of its values is accepted (5.30, 5.32, 11.19)
abbrev pub listed_on : Verdict → List ℕ → List ℕ → Answered (Option (List ℕ))
listed_on (refuse c) xs s = Err c
listed_on accept xs s = Ok (cond (some_nameable xs) (Some (permitted_all xs s)) None)
