-- Worked cases of a list of ECX values (14.73 to 14.79, 14.81). L = 1, n = 2 and vCPU 0 unless said.
-- Assumes nothing.
use Rattle.std.specs.Prelude.{◌≡◌, Ok, Err, Bool, true, false, not, ◌&&◌, List, [], ◌∷◌, ℕ, length, take, replicate}
use Rattle.model.specs.declared.Phase.TheVariants.{Leaving, Left}
use Rattle.model.specs.declared.Refusal.{Refusal}
use Rattle.model.specs.declared.Refusal.TheVariants.{BadList}
use Rattle.model.specs.declared.Module.{Module}
use Rattle.model.specs.declared.Stepped.{Stepped}
use Rattle.model.specs.declared.Counts.{Counts}
use Rattle.model.specs.declared.Presentation.{Presentation}
use Rattle.vector_set.specs.Sets.{empty, insert}
use Rattle.model.specs.State.{vcpu_at, with_allowed, with_phase}
use Rattle.model.specs.Codes.{coded, result_of, admission_result, presented_result, list_result, accepted}
use Rattle.model.specs.Events.{call, allow, non_delivery, at, Event, next, out_of, noticed_out, entered_out, listed_out}
use Rattle.model.specs.Demand2.{is_call, is_request}
use Rattle.model.specs.Cases.{same_numbers, gives, gives_codes, is_refused, fresh2, having, record0, singleton, pending41, result_on, every}
use Rattle.model.specs.Worked.{page_after, enters}

-- a list by vCPU 0 with a second list of n entries 9
abbrev nines : List ℕ → ℕ → Event
nines cs n = at 0 (allow cs (replicate n 9))

abbrev bad : ℕ
bad = 0x80000005

-- what is allowed at vCPU 0 after an event
abbrev allowed_after : Module → Event → List ℕ
allowed_after m e = (vcpu_at (next m e) 0).allowed

-- the list of case 14.73: 0x41 in, 30, 0x52 in, 0x41 out
abbrev mixed : List ℕ
mixed = 0x141 ∷ 0x11E ∷ 0x152 ∷ 0x041 ∷ []

-- 0x41 in flight
abbrev flying : Module
flying = next (pending41 0) (enters true false false)

-- a non-delivery after a list on that module
abbrev returned_after : List ℕ → ℕ → Bool
returned_after cs n = gives 0 (result_on (next flying (nines cs n)) (at 0 non_delivery))

abbrev forgotten_after : List ℕ → ℕ → Bool
forgotten_after cs n = is_refused 4 (result_on (next flying (nines cs n)) (at 0 non_delivery))

-- a list of n times 0x141 with a second list of k entries
abbrev sized : ℕ → ℕ → Event
sized n k = nines (replicate n 0x141) k

abbrev refuses_sized : ℕ → Module → ℕ → ℕ → Bool
refuses_sized c m n k = is_refused c (result_on m (sized n k))

-- 0x33 allowed
abbrev allowing33 : Module
allowing33 = having (with_allowed (singleton 0x33) record0)

unfoldable pub values : List Bool
values =
    -- 14.73: the list goes on behind a refused value; entries past the count stay
    gives_codes 0 (0 ∷ bad ∷ 0 ∷ 0 ∷ []) (result_on fresh2 (nines mixed 6))
    ∷ same_numbers (page_after fresh2 (nines mixed 6)) (0 ∷ bad ∷ 0 ∷ 0 ∷ 9 ∷ 9 ∷ [])
    ∷ same_numbers (allowed_after fresh2 (nines mixed 6)) (singleton 0x52)
    ∷ same_numbers (allowed_after allowing33 (nines mixed 4)) (insert 0x33 (singleton 0x52))
    ∷ same_numbers (page_after allowing33 (nines mixed 4)) (0 ∷ bad ∷ 0 ∷ 0 ∷ [])
    -- 14.74: out and in again, in this order
    ∷ same_numbers (allowed_after fresh2 (nines (0x041 ∷ 0x141 ∷ []) 2)) (singleton 0x41)
    ∷ same_numbers (allowed_after fresh2 (nines (0x141 ∷ 0x041 ∷ []) 2)) empty
    -- 14.75: members 2 and 18, and values that call 4 refuses
    ∷ gives_codes 0 (0 ∷ 0 ∷ bad ∷ bad ∷ bad ∷ 0 ∷ 0 ∷ []) (result_on fresh2 (nines (0x102 ∷ 0x112 ∷ 0x103 ∷ 0x341 ∷ 0x80000141 ∷ 0x11F ∷ 0x1FF ∷ []) 7))
    ∷ same_numbers (allowed_after fresh2 (nines (0x102 ∷ 0x341 ∷ 0x112 ∷ []) 3)) (insert 2 (singleton 18))
    -- 14.76: no value, with entries in the second list and with none
    ∷ gives_codes 0 [] (result_on fresh2 (nines [] 0))
    ∷ gives_codes 0 [] (result_on fresh2 (nines [] 2))
    ∷ same_numbers (page_after fresh2 (nines [] 2)) (9 ∷ 9 ∷ [])
    -- 14.77: what is in flight stays by no value and by refused ones, and is forgotten by one that is accepted
    ∷ returned_after [] 0
    ∷ returned_after (0x11E ∷ 0x341 ∷ []) 2
    ∷ forgotten_after (0x11E ∷ 0x152 ∷ 0x341 ∷ []) 3
    ∷ returned_after (0x152 ∷ []) 0
    -- 14.78: 256 values and 257, and a second list that is one entry short
    ∷ accepted (result_on fresh2 (sized 256 256))
    ∷ refuses_sized 6 fresh2 257 257
    ∷ refuses_sized 6 fresh2 257 300
    ∷ refuses_sized 6 fresh2 256 255
    ∷ refuses_sized 6 fresh2 1 0
    ∷ refuses_sized 6 allowing33 3 2
    ∷ same_numbers (page_after allowing33 (sized 3 2)) (9 ∷ 9 ∷ [])
    ∷ same_numbers (allowed_after allowing33 (sized 3 2)) (singleton 0x33)
    -- 14.79: the vCPU and its phase come first
    ∷ is_refused 1 (result_on fresh2 (at 2 (allow (replicate 257 0x141) [])))
    ∷ refuses_sized 0x80000001 (having (with_phase Leaving record0)) 257 300
    ∷ refuses_sized 0x80000001 (having (with_phase Leaving record0)) 1 0
    ∷ refuses_sized 0x80000001 (having (with_phase Left record0)) 1 1
    -- 14.81: no call has the number 5
    ∷ is_refused 0x80000002 (result_on fresh2 (at 0 (call 5 0x141 0)))
    -- what the functions' answers say (13.9), and what the claims take a list for (13.17, 12.33)
    ∷ gives_codes 7 (1 ∷ []) (list_result (Ok 7) (1 ∷ []))
    ∷ is_refused 6 (list_result (Err BadList) (1 ∷ []))
    ∷ (is_request (allow [] []) && not (is_call (allow [] [])))
    ∷ []

-- ---- all of them
pub record WorkedValues : Type 0 where
  pub values : every values ≡ true
  -- what the answer to a list says, for every number, code and refusal (13.9)
  pub told : (x : ℕ) (ks : List ℕ) → list_result (Ok x) ks ≡ coded x ks
  pub refuses : (c : Refusal) (ks : List ℕ) → list_result (Err c) ks ≡ result_of (Err c)
  -- and that a contract speaks of the very answer, of the very module and of the very page or second list after the event (13.7, 13.9)
  pub listed : (r : Stepped ℕ) (cs q : List ℕ)
      → ((listed_out r cs q).result ≡ list_result r.answer (take (length cs) q)) × ((listed_out r cs q).after ≡ r.after) × ((listed_out r cs q).page ≡ q)
  pub paged : (r : Stepped ℕ) (p : List ℕ) → ((out_of r p).result ≡ result_of r.answer) × ((out_of r p).after ≡ r.after) × ((out_of r p).page ≡ p)
  pub noticed : (r : Stepped Counts) (p : List ℕ)
      → ((noticed_out r p).result ≡ admission_result r.answer) × ((noticed_out r p).after ≡ r.after) × ((noticed_out r p).page ≡ p)
  pub entered : (r : Stepped Presentation) → ((entered_out r).result ≡ presented_result r.answer) × ((entered_out r).after ≡ r.after)
