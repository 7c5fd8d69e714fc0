-- Worked lists (14.41, 14.44, 14.45, 14.70, 14.80): their results, their pages, their notices struck out, their tallies and what they admit.
-- Assumes nothing.
use Rattle.std.specs.Prelude.{◌≡◌, Bool, true, false, ◌&&◌, List, [], ◌∷◌, map, ℕ, eqb, length, set}
use Rattle.model.specs.declared.Item.{Item}
use Rattle.model.specs.declared.Item.TheVariants as item
use Rattle.model.specs.declared.Module.{Module}
use Rattle.model.specs.State.{start}
use Rattle.model.specs.Codes.{Answer, nothing, presents, window, Result, done, counted, answers, coded, refused}
use Rattle.model.specs.Items.{is_item}
use Rattle.model.specs.Doorbell.{items}
use Rattle.model.specs.Events.{notice, call, entry, non_delivery, hand_back, allow, at, Event}
use Rattle.model.specs.Cases.{same_numbers, gives, gives_codes, counts, is_refused, is_idle, zeros, announcing, byte64, every}
use Rattle.model.specs.Worked.{eoi, icr, is_shown, is_window, answers_by, enters}
use Rattle.lists.specs.Book.{book_of, parts}
use Rattle.lists.specs.Lists.{results, pages, struck, AllAlike}
use Rattle.lists.specs.Ledger.{Ledger, ledger_of}

-- the list, on one vCPU
abbrev pub story : List Event
story =
    at 0 (call 4 0x141 0)
    ∷ at 0 (notice byte64)
    ∷ enters true false false
    ∷ at 0 non_delivery
    ∷ enters true false false
    ∷ at 0 (call 3 0x83F 0x41)
    ∷ icr 0x1041
    ∷ eoi
    ∷ enters true false false
    ∷ at 0 (notice [])
    ∷ at 1 non_delivery
    ∷ at 0 (call 1 1 0)
    ∷ at 0 (hand_back zeros true false)
    ∷ []

-- equal results
abbrev same_answer : Answer → Answer → Bool
same_answer nothing b = is_idle b
same_answer (presents y) b = is_shown y b
same_answer (window v) b = is_window v b

abbrev same_result : Result → Result → Bool
same_result (done x) r = gives x r
same_result (counted a b) r = counts a b r
same_result (answers a) r = answers_by (same_answer a) r
same_result (coded x ks) r = gives_codes x ks r
same_result (refused c) r = is_refused c r

abbrev pub same_results : List Result → List Result → Bool
same_results [] [] = true
same_results [] (s ∷ ss) = false
same_results (r ∷ rs) [] = false
same_results (r ∷ rs) (s ∷ ss) = same_result r s && same_results rs ss

abbrev pub same_pages : List (List ℕ) → List (List ℕ) → Bool
same_pages [] [] = true
same_pages [] (q ∷ qs) = false
same_pages (p ∷ ps) [] = false
same_pages (p ∷ ps) (q ∷ qs) = same_numbers p q && same_pages ps qs

abbrev shown41 : Result
shown41 = answers (presents (item.Vector 0x41))

-- its tallies of vector 0x41 on vCPU 0
abbrev tallies : Ledger
tallies = ledger_of (start 1 1) 0 (item.Vector 0x41) story

unfoldable pub listed : List Bool
listed =
    same_results (results (start 1 1) story)
    (done 0 ∷ counted 1 0 ∷ shown41 ∷ done 0 ∷ shown41 ∷ done 1 ∷ refused 0x80000005 ∷ done 0 ∷ shown41 ∷ refused 2 ∷ refused 1 ∷ done 0 ∷ done 65537 ∷ [])
    ∷ same_pages (pages (start 1 1) story) (set zeros 104 0x02 ∷ [])
    ∷ eqb (length (struck story)) 11
    ∷ eqb tallies.presented 3
    ∷ eqb tallies.admitted 1
    ∷ eqb tallies.sent 1
    ∷ eqb tallies.returned 1
    ∷ is_item (item.Vector 0x41) tallies.latest
    ∷ []

-- ---- a list on two vCPUs (14.44)
abbrev enters1 : Event
enters1 = at 1 (entry true false false)

-- vCPU 1 sends 0x41 to all
abbrev to_all : Event
to_all = at 1 (call 3 0x830 0x84041)

abbrev pub pair : List Event
pair =
    at 0 (call 4 0x102 0)
    ∷ at 0 (notice (set announcing 65 0x01))
    ∷ at 0 (notice (set announcing 65 0x01))
    ∷ icr 0xC4400
    ∷ enters1
    ∷ at 1 non_delivery
    ∷ enters1
    ∷ to_all
    ∷ at 0 (call 1 1 0)
    ∷ to_all
    ∷ at 0 (hand_back zeros true false)
    ∷ at 1 (call 1 0 0)
    ∷ at 1 (hand_back zeros false true)
    ∷ []

abbrev shown_nmi : Result
shown_nmi = answers (presents item.Nmi)

-- the tallies of x on j in a list on the module m: presented, admitted, sent, returned
abbrev pub tells_of : Module → List Event → ℕ → Item → List ℕ → Bool
tells_of m es j x ns =
    let g = ledger_of m j x es in same_numbers (g.presented ∷ g.admitted ∷ g.sent ∷ g.returned ∷ []) ns

abbrev tells : ℕ → Item → List ℕ → Bool
tells = tells_of (start 2 1) pair

unfoldable pub paired : List Bool
paired =
    same_results (results (start 2 1) pair)
    (done 0 ∷ counted 1 0 ∷ counted 0 1 ∷ done 2 ∷ shown_nmi ∷ done 0 ∷ shown_nmi ∷ done 3 ∷ done 0 ∷ done 0 ∷ done 65537 ∷ done 0 ∷ done 65538 ∷ [])
    ∷ same_pages (pages (start 2 1) pair) (set (set zeros 65 0x41) 72 0x02 ∷ set (set zeros 65 0x40) 72 0x02 ∷ [])
    ∷ tells 0 item.Nmi (0 ∷ 2 ∷ 0 ∷ 0 ∷ [])
    ∷ tells 1 item.Nmi (2 ∷ 0 ∷ 1 ∷ 1 ∷ [])
    ∷ tells 0 item.MachineCheck (0 ∷ 0 ∷ 0 ∷ 0 ∷ [])
    ∷ tells 1 item.MachineCheck (0 ∷ 0 ∷ 0 ∷ 0 ∷ [])
    ∷ tells 0 (item.Vector 0x41) (0 ∷ 0 ∷ 1 ∷ 0 ∷ [])
    ∷ tells 1 (item.Vector 0x41) (0 ∷ 0 ∷ 2 ∷ 0 ∷ [])
    ∷ tells 0 (item.Vector 0x42) (0 ∷ 0 ∷ 0 ∷ 0 ∷ [])
    ∷ tells 1 (item.Vector 0x42) (0 ∷ 0 ∷ 0 ∷ 0 ∷ [])
    ∷ []

-- ---- a list of machine checks (14.70)
abbrev check_notice : Event
check_notice = at 0 (notice (set announcing 65 0x02))

abbrev pub check_story : List Event
check_story =
    at 0 (call 4 0x112 0)
    ∷ check_notice
    ∷ check_notice
    ∷ enters false true true
    ∷ at 0 non_delivery
    ∷ enters false true true
    ∷ check_notice
    ∷ at 0 (call 4 0x12 0)
    ∷ check_notice
    ∷ at 0 (call 3 0x83F 0x41)
    ∷ at 0 (call 1 1 0)
    ∷ at 0 (hand_back zeros false true)
    ∷ []

abbrev shown_check : Result
shown_check = answers (presents item.MachineCheck)

unfoldable pub checked : List Bool
checked =
    same_results (results (start 1 1) check_story)
    (done 0 ∷ counted 1 0 ∷ counted 0 1 ∷ shown_check ∷ done 0 ∷ shown_check ∷ counted 1 0 ∷ done 0 ∷ counted 0 0 ∷ done 1 ∷ done 0 ∷ done 65538 ∷ [])
    ∷ same_pages (pages (start 1 1) check_story) (set (set zeros 65 0x42) 72 0x02 ∷ [])
    ∷ tells_of (start 1 1) check_story 0 item.MachineCheck (2 ∷ 3 ∷ 0 ∷ 1 ∷ [])
    ∷ tells_of (start 1 1) check_story 0 item.Nmi (0 ∷ 0 ∷ 0 ∷ 0 ∷ [])
    ∷ tells_of (start 1 1) check_story 0 (item.Vector 18) (0 ∷ 0 ∷ 0 ∷ 0 ∷ [])
    ∷ tells_of (start 1 1) check_story 0 (item.Vector 0x41) (0 ∷ 0 ∷ 1 ∷ 0 ∷ [])
    ∷ same_numbers (map items (parts 1 (book_of (start 1 1)) check_story)) (0 ∷ 1 ∷ 1 ∷ 0 ∷ 0 ∷ 0 ∷ 1 ∷ 0 ∷ 0 ∷ 0 ∷ 0 ∷ 0 ∷ [])
    ∷ []

-- ---- lists of ECX values among other events (14.80)
-- the first has 0x41 out and in, 30, and the NMI's member in
abbrev pub value_story : List Event
value_story =
    at 0 (allow (0x041 ∷ 0x141 ∷ 0x11E ∷ 0x102 ∷ []) (9 ∷ 9 ∷ 9 ∷ 9 ∷ 9 ∷ []))
    ∷ at 0 (allow [] byte64)
    ∷ at 0 (notice byte64)
    ∷ enters true false false
    ∷ at 0 (allow (0x11E ∷ []) (9 ∷ []))
    ∷ at 0 non_delivery
    ∷ enters true false false
    ∷ at 0 (allow (0x11E ∷ 0x041 ∷ []) (9 ∷ 9 ∷ []))
    ∷ at 0 non_delivery
    ∷ at 0 (notice byte64)
    ∷ at 0 (allow (0x141 ∷ 0x152 ∷ []) (9 ∷ []))
    ∷ at 0 (notice byte64)
    ∷ at 0 (notice (set announcing 65 0x01))
    ∷ at 1 (allow (0x141 ∷ []) [])
    ∷ at 0 (call 1 1 0)
    ∷ at 0 (allow (0x141 ∷ []) [])
    ∷ at 0 (hand_back zeros true false)
    ∷ []

unfoldable pub valued : List Bool
valued =
    same_results (results (start 1 1) value_story)
    (coded 0 (0 ∷ 0 ∷ 0x80000005 ∷ 0 ∷ []) ∷ coded 0 [] ∷ counted 1 0 ∷ shown41 ∷ coded 0 (0x80000005 ∷ []) ∷ done 0 ∷ shown41 ∷ coded 0 (0x80000005 ∷ 0 ∷ [])
    ∷ refused 4 ∷ counted 0 0 ∷ refused 6 ∷ counted 0 0 ∷ counted 1 0 ∷ refused 1 ∷ done 0 ∷ refused 0x80000001 ∷ done 65537 ∷ [])
    ∷ same_pages (pages (start 1 1) value_story) (set (set zeros 65 0x01) 104 0x02 ∷ [])
    ∷ eqb (length (struck value_story)) 13
    ∷ tells_of (start 1 1) value_story 0 (item.Vector 0x41) (2 ∷ 1 ∷ 0 ∷ 1 ∷ [])
    ∷ tells_of (start 1 1) value_story 0 item.Nmi (0 ∷ 1 ∷ 0 ∷ 0 ∷ [])
    ∷ same_numbers (map items (parts 1 (book_of (start 1 1)) value_story)) (0 ∷ 0 ∷ 1 ∷ 0 ∷ 0 ∷ 0 ∷ 0 ∷ 0 ∷ 0 ∷ 0 ∷ 0 ∷ 0 ∷ 1 ∷ 0 ∷ 0 ∷ 0 ∷ 0 ∷ [])
    ∷ []

-- ---- a notice of 0x41 before and after it is allowed (14.45): how many items each event admits by the book
unfoldable pub judged : List ℕ
judged = map items (parts 1 (book_of (start 1 1)) (at 0 (notice byte64) ∷ at 0 (call 4 0x141 0) ∷ at 0 (notice byte64) ∷ []))

-- ---- all of it
pub record WorkedList : Type 0 where
  pub listed : every listed ≡ true
  pub paired : every paired ≡ true
  pub checked : every checked ≡ true
  pub valued : every valued ≡ true
  pub judged : same_numbers judged (0 ∷ 0 ∷ 1 ∷ []) ≡ true
  -- two lists that differ in bytes of two notices, on two vCPUs and one of them short, are alike
  pub different : AllAlike (at 0 (notice byte64) ∷ eoi ∷ at 1 (notice (1 ∷ [])) ∷ []) (at 0 (notice zeros) ∷ eoi ∷ at 1 (notice (0 ∷ [])) ∷ [])
