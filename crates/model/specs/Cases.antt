-- The worked cases marked * (section 14), in one list of computed checks that one proposition covers. L = 1, n = 2 and vCPU 0 unless said.
-- Assumes nothing.
use Rattle.std.specs.Prelude.{◌≡◌, Bool, true, false, ◌&&◌, List, [], ◌∷◌, ℕ, eqb, replicate, set}
use Rattle.model.specs.declared.Phase.TheVariants.{Leaving}
use Rattle.model.specs.declared.Vcpu.{Vcpu}
use Rattle.model.specs.declared.Module.{Module}
use Rattle.vector_set.specs.Sets.{empty, full, insert}
use Rattle.model.specs.Items.{is_vector_item}
use Rattle.model.specs.State.{vcpu_at, start, with_vcpu, with_allowed, with_irr, with_summary, with_isr, with_tpr, with_phase}
use Rattle.vector_set.specs.Summaries.{summary_of}
use Rattle.model.specs.Codes.{Answer, nothing, presents, window, Result, done, counted, answers, coded, refused}
use Rattle.model.specs.Events.{notice, call, entry, hand_back, at, Event, Out, step, next}

-- ---- tests that compute
abbrev pub same_numbers : List ℕ → List ℕ → Bool
same_numbers [] [] = true
same_numbers [] (y ∷ ys) = false
same_numbers (x ∷ xs) [] = false
same_numbers (x ∷ xs) (y ∷ ys) = eqb x y && same_numbers xs ys

-- accepted with the number x
abbrev pub gives : ℕ → Result → Bool
gives x (done y) = eqb x y
gives x (counted a b) = false
gives x (answers a) = false
gives x (coded z ks) = false
gives x (refused c) = false

-- a notice accepted with the numbers x and y
abbrev pub counts : ℕ → ℕ → Result → Bool
counts x y (done z) = false
counts x y (counted a b) = eqb x a && eqb y b
counts x y (answers a) = false
counts x y (coded z ks) = false
counts x y (refused c) = false

-- the number and the codes of a list
abbrev pub gives_codes : ℕ → List ℕ → Result → Bool
gives_codes x ks (done y) = false
gives_codes x ks (counted a b) = false
gives_codes x ks (answers a) = false
gives_codes x ks (coded y ls) = eqb x y && same_numbers ks ls
gives_codes x ks (refused c) = false

abbrev pub is_refused : ℕ → Result → Bool
is_refused c (done x) = false
is_refused c (counted a b) = false
is_refused c (answers a) = false
is_refused c (coded z ks) = false
is_refused c (refused d) = eqb c d

abbrev pub is_idle : Answer → Bool
is_idle nothing = true
is_idle (presents y) = false
is_idle (window v) = false

abbrev pub is_nothing : Result → Bool
is_nothing (done x) = false
is_nothing (counted a b) = false
is_nothing (answers a) = is_idle a
is_nothing (coded z ks) = false
is_nothing (refused c) = false

abbrev pub shows_vector : ℕ → Answer → Bool
shows_vector v nothing = false
shows_vector v (presents y) = is_vector_item v y
shows_vector v (window w) = false

abbrev pub is_presented : ℕ → Result → Bool
is_presented v (done x) = false
is_presented v (counted a b) = false
is_presented v (answers a) = shows_vector v a
is_presented v (coded z ks) = false
is_presented v (refused c) = false

-- ---- what the cases start from
abbrev pub fresh2 : Module
fresh2 = start 2 1

-- the fresh module with vCPU 0's record as given
abbrev pub having : Vcpu → Module
having v = with_vcpu fresh2 0 v

abbrev pub record0 : Vcpu
record0 = vcpu_at fresh2 0

abbrev pub singleton : ℕ → List ℕ
singleton v = insert v empty

-- a record with this P, and a summary that is true of it
abbrev pub with_pending : List ℕ → Vcpu → Vcpu
with_pending s v = with_summary (summary_of s) (with_irr s v)

abbrev pub zeros : List ℕ
zeros = replicate 256 0

-- a page of zeros that announces work
abbrev pub announcing : List ℕ
announcing = set zeros 3 0x01

abbrev pub byte64 : List ℕ
byte64 = set announcing 64 0x41

-- the step of a case, and vCPU 0's pending set after it
abbrev pub on_page : List ℕ → List ℕ → Out
on_page allowed p = step (having (with_allowed allowed record0)) (at 0 (notice p))

abbrev pub pending_after : Out → List ℕ
pending_after o = (vcpu_at o.after 0).irr

abbrev pub result_on : Module → Event → Result
result_on m e = (step m e).result

-- the module of case 14.8 after the notice
abbrev pub level61 : Module
level61 = (on_page (singleton 0x61) (set (set announcing 64 0x61) 65 0x04)).after

abbrev pub pending41 : ℕ → Module
pending41 tpr = having (with_tpr tpr (with_pending (singleton 0x41) record0))

abbrev pub serving41 : ℕ → Module
serving41 tpr = having (with_tpr tpr (with_isr (singleton 0x41) record0))

abbrev pub handed_over : Out
handed_over = step (having (with_phase Leaving (with_pending (singleton 0x41) record0))) (at 0 (hand_back zeros true false))

-- ---- the list
unfoldable pub cases : List Bool
cases =
    -- 14.4: result, P, page
    counts 1 0 (on_page (singleton 0x41) byte64).result
    ∷ same_numbers (pending_after (on_page (singleton 0x41) byte64)) (singleton 0x41)
    ∷ same_numbers (on_page (singleton 0x41) byte64).page zeros
    -- 14.5: result, P, page
    ∷ counts 0 0 (on_page empty byte64).result
    ∷ same_numbers (pending_after (on_page empty byte64)) empty
    ∷ same_numbers (on_page empty byte64).page zeros
    -- 14.6: result, page
    ∷ counts 0 0 (on_page (singleton 0x41) (set zeros 64 0x41)).result
    ∷ same_numbers (on_page (singleton 0x41) (set zeros 64 0x41)).page (set zeros 64 0x41)
    -- 14.7
    ∷ same_numbers (pending_after (on_page full (set (set (set announcing 64 0x50) 65 0x40) 72 0x02))) (singleton 0x41)
    -- 14.8: the TMR, and the EOI after an entry
    ∷ gives 2 (result_on level61 (at 0 (call 2 0x81B 0)))
    ∷ gives 0x61 (result_on (next level61 (at 0 (entry true false false))) (at 0 (call 3 0x80B 0)))
    -- 14.10
    ∷ is_nothing (result_on (pending41 0x40) (at 0 (entry true false false)))
    ∷ is_presented 0x41 (result_on (pending41 0x3F) (at 0 (entry true false false)))
    -- 14.11
    ∷ gives 0x40 (result_on (serving41 0x35) (at 0 (call 2 0x80A 0)))
    ∷ gives 0x4A (result_on (serving41 0x4A) (at 0 (call 2 0x80A 0)))
    -- 14.12
    ∷ gives 0x00010002 (result_on (start 18 1) (at 17 (call 2 0x80D 0)))
    -- 14.13
    ∷ gives 0 (result_on fresh2 (at 0 (call 4 0x11F 0)))
    ∷ gives 0 (result_on fresh2 (at 0 (call 4 0x102 0)))
    ∷ is_refused 0x80000005 (result_on fresh2 (at 0 (call 4 0x11E 0)))
    ∷ is_refused 0x80000005 (result_on fresh2 (at 0 (call 4 0x200 0)))
    -- 14.14
    ∷ is_refused 0x80001000 (result_on (next fresh2 (at 0 (call 1 1 0))) (at 1 (call 1 2 0)))
    -- 14.15: result, page
    ∷ gives 65537 handed_over.result
    ∷ same_numbers handed_over.page (set (set zeros 65 0x40) 72 0x02)
    ∷ []

abbrev pub every : List Bool → Bool
every [] = true
every (b ∷ bs) = b && every bs

-- every starred case holds
unfoldable pub Starred : Type 0
Starred = every cases ≡ true
