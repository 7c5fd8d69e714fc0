-- No line is longer than 49,152 bytes, so each stands whole behind 16,384 others.
-- Assumes nothing.
use Rattle.std.specs.Prelude.{Ok, Err}
use mathlib.Core.Path.{◌≡◌, refl, ◌∙◌, subst}
use mathlib.Core.Bool.{Bool, true, false, cond, ◌&&◌}
use mathlib.Core.List.{List, [], ◌∷◌, ◌++◌}
use Prim.Native.Nat.{ℕ, zero, suc, ◌+◌, ◌-◌, ◌*◌, ◌/◌, ◌%◌, ◌^◌, ◌≤◌, ◌<◌}
use native.Mathlib.Nat.{pow-succ', mul_comm, div-lt_iff_lt-mul}
use native.Mathlib.Omega.{arith}
use lib.Dec.{eqb, ltb, lit<}
use lib.ListN.{length, get_or, take, length-append, length-take, get_or-eq_default}
use lib.Seq.{get_or-take}
use borrow.Author.Tests.{lt-ltb, ltb-true, ltb-false}
use Rattle.io.specs.Digits.{hex_digit_ascii}
use Rattle.model.specs.declared.Refusal.{Refusal}
use Rattle.model.specs.declared.Counts.{Counts}
use Rattle.model.specs.declared.Presentation.{Presentation}
use Rattle.model.specs.declared.Presentation.TheVariants as presentation
use Rattle.model.specs.declared.Phase.{Phase}
use Rattle.model.specs.declared.Phase.TheVariants as phase
use Rattle.model.specs.declared.InFlight.{InFlight}
use Rattle.model.specs.declared.InFlight.TheVariants as flight
use Rattle.model.specs.declared.Vcpu.{Vcpu}
use Rattle.model.specs.declared.Module.{Module}
use Rattle.model.specs.Codes.{code_of, Answered}
use Rattle.model.specs.State.{vcpu_at}
use Rattle.trace.specs.declared.Event.{Event}
use Rattle.trace.specs.declared.Event.TheVariants as event
use Rattle.trace.specs.Words.{ascii}
use Rattle.console.specs.declared.Answer.{Answer}
use Rattle.console.specs.declared.Answer.TheVariants as answer
use Rattle.vector_set.specs.Sets.{has}
use Rattle.console_lines.specs.Numerals.{numeral, in_hex, in_decimal}
use Rattle.console_lines.specs.Lines.{newline, refusal_text, number_text, counts_text, presentation_text, asked_text, given_text, answer_text}
use Rattle.console_lines.specs.Lines.{cell_text, cells_below, page_text, code_text, codes_below, codes_text, plain_line, start_line}
use Rattle.console_lines.specs.Lines.{paged_line, listed_line, unreadable_line, line_of, begun, member_text, members_below, members_text, set_text}
use Rattle.console_lines.specs.Lines.{phase_text, flight_text, sets_text, bit, vcpu_line, module_line, state_line}
use Rattle.console_lines.specs.Room.{Stands, LinesFit}
use Rattle.console.proofs.Fills.{puts_fits}

-- ---- texts in a row
module _ (s t : List ℕ) {m n : ℕ} where
  both : length s ≤ m → length t ≤ n → length (s ++ t) ≤ m + n
  both h g = omega (arith, length-append s t, h, g)

exactly : (s : List ℕ) → length s ≤ length s
exactly s = omega arith

wider : (s : List ℕ) {m n : ℕ} → m ≤ n → length s ≤ m → length s ≤ n
wider s h g = omega (arith, h, g)

either : (b : Bool) (s t : List ℕ) {n : ℕ} → length s ≤ n → length t ≤ n → length (cond b s t) ≤ n
either true s t h g = h
either false s t h g = g

-- ---- numbers
numeral_most : (b more n : ℕ) → length (numeral b more n) ≤ suc more
unfolding numeral
numeral_most b zero n = omega arith
numeral_most b (suc more) n =
    either (ltb n b) (hex_digit_ascii (n % b) ∷ []) (numeral b more (n / b) ++ hex_digit_ascii (n % b) ∷ []) (omega arith)
    (omega (arith, length-append (numeral b more (n / b)) (hex_digit_ascii (n % b) ∷ []), numeral_most b more (n / b)))

-- a number below 16 ^ (k + 1) has at most k + 1 hexadecimal digits
digits_most : (k more n : ℕ) → n < 16 ^ suc k → length (numeral 16 more n) ≤ suc k
unfolding numeral
digits_most k zero n h = omega arith
digits_most zero (suc more) n h = let e : ltb n 16 ≡ true = lt-ltb n 16 h in rw e (omega arith)
digits_most (suc k) (suc more) n h =
    let u : n < 16 ^ suc k * 16 = subst (λ (x : ℕ). n < x) (pow-succ' 16 (suc k) ∙ mul_comm 16 (16 ^ suc k)) h in
    let r : length (numeral 16 more (n / 16)) ≤ suc k = digits_most k more (n / 16) ((div-lt_iff_lt-mul (lit< tt)).1 u) in
    either (ltb n 16) (hex_digit_ascii (n % 16) ∷ []) (numeral 16 more (n / 16) ++ hex_digit_ascii (n % 16) ∷ []) (omega arith)
    (omega (arith, length-append (numeral 16 more (n / 16)) (hex_digit_ascii (n % 16) ∷ []), r))

hex_most : (name : List ℕ) (n : ℕ) {k : ℕ} → length (numeral 16 19 n) ≤ k → length (in_hex name n) ≤ length name + 2 + k
unfolding in_hex
hex_most name n h = both (name ++ ascii "0x") (numeral 16 19 n) (both name (ascii "0x") (omega arith) (omega arith)) h

-- a name of at most m bytes
hex_wide : (name : List ℕ) (n m : ℕ) → length name ≤ m → length (in_hex name n) ≤ m + 22
hex_wide name n m h = omega (arith, h, hex_most name n (numeral_most 16 19 n))

-- ---- answers
refusal_most : (r : Refusal) → length (refusal_text r) ≤ 31
refusal_most r = hex_wide (ascii " refused ") (code_of r) 9 (omega arith)

number_most : (v : ℕ) → length (number_text v) ≤ 64
number_most v = wider (number_text v) (omega arith) (hex_wide (ascii " ok ") v 4 (omega arith))

counts_most : (a : Counts) → length (counts_text a) ≤ 64
counts_most a =
    let l = both (in_hex (ascii " ok ") a.new) (in_hex (ascii " ") a.merged) (hex_wide (ascii " ok ") a.new 4 (omega arith))
    (hex_wide (ascii " ") a.merged 1 (omega arith)) in
    omega (arith, l)

presentation_most : (p : Presentation) → length (presentation_text p) ≤ 64
presentation_most presentation.Nothing = omega arith
presentation_most presentation.Nmi = omega arith
presentation_most presentation.MachineCheck = omega arith
presentation_most (presentation.Vector v) = wider (in_hex (ascii " vector ") v) (omega arith) (hex_wide (ascii " vector ") v 8 (omega arith))
presentation_most (presentation.Window v) = wider (in_hex (ascii " window ") v) (omega arith) (hex_wide (ascii " window ") v 8 (omega arith))

asked_most : (b : Bool) → length (asked_text b) ≤ 64
asked_most true = omega arith
asked_most false = omega arith

given_most : (a : Answer) → length (given_text a) ≤ 64
given_most answer.Nothing = omega arith
given_most (answer.Number v) = number_most v
given_most (answer.Counts a) = counts_most a
given_most (answer.Presentation p) = presentation_most p
given_most (answer.Asked b) = asked_most b

answer_most : (a : Answered Answer) → length (answer_text a) ≤ 64
answer_most (Ok a) = given_most a
answer_most (Err r) = wider (refusal_text r) (omega arith) (refusal_most r)

-- ---- pages and codes
cell_most : (offset b : ℕ) → offset < 4096 → b < 256 → length (cell_text offset b) ≤ 11
cell_most offset b h g =
    either (eqb b 0) [] (in_hex (ascii " ") offset ++ in_hex (ascii "=") b) (omega arith)
    (both (in_hex (ascii " ") offset) (in_hex (ascii "=") b) (hex_most (ascii " ") offset (digits_most 2 19 offset h))
    (hex_most (ascii "=") b (digits_most 1 19 b g)))

cells_most : (page : List ℕ) → ((i : ℕ) → get_or page i 0 < 256) → (i : ℕ) → i ≤ 4096 → length (cells_below i page) ≤ 11 * i
unfolding cells_below
cells_most page bytes zero h = omega arith
cells_most page bytes (suc i) h =
    let l = both (cells_below i page) (cell_text i (get_or page i 0)) (cells_most page bytes i (omega (arith, h)))
    (cell_most i (get_or page i 0) (omega (arith, h)) (bytes i)) in
    omega (arith, l)

codes_most : (codes : List ℕ) (i : ℕ) → length (codes_below i codes) ≤ 23 * i
unfolding codes_below
codes_most codes zero = omega arith
codes_most codes (suc i) =
    let l = both (codes_below i codes) (code_text (get_or codes i 0)) (codes_most codes i) (hex_wide (ascii " ") (get_or codes i 0) 1 (omega arith)) in
    omega (arith, l)

-- a byte of the first bytes of a page
taken_byte : (page : List ℕ) (long : ℕ) → ((i : ℕ) → get_or page i 0 < 256) → (i : ℕ) → get_or (take long page) i 0 < 256
taken_byte page long bytes i = go (ltb i long) refl
  where
    go : (t : Bool) → ltb i long ≡ t → get_or (take long page) i 0 < 256
    go true e = let s : get_or (take long page) i 0 ≡ get_or page i 0 = get_or-take long page i 0 (ltb-true i long e) in omega (arith, s, bytes i)
    go false e =
        let l : length (take long page) ≤ i = omega (arith, length-take long page, ltb-false i long e) in
        let s : get_or (take long page) i 0 ≡ 0 = get_or-eq_default (take long page) 0 l in omega (arith, s)

-- ---- events
plain_most : (name : List ℕ) (a : Answered Answer) → length name ≤ 11 → length (plain_line name a) ≤ 76
plain_most name a h =
    let l = both (name ++ answer_text a) newline (both name (answer_text a) h (answer_most a)) (exactly newline) in omega (arith, l)

start_most : (a : Answered Answer) → length (start_line a) ≤ 76
start_most (Ok answer.Nothing) = plain_most (ascii "start") (Ok answer.Nothing) (omega arith)
start_most (Ok (answer.Number v)) = omega arith
start_most (Ok (answer.Counts a)) = plain_most (ascii "start") (Ok (answer.Counts a)) (omega arith)
start_most (Ok (answer.Presentation p)) = plain_most (ascii "start") (Ok (answer.Presentation p)) (omega arith)
start_most (Ok (answer.Asked b)) = plain_most (ascii "start") (Ok (answer.Asked b)) (omega arith)
start_most (Err r) = plain_most (ascii "start") (Err r) (omega arith)

paged_most : (name : List ℕ) (a : Answered Answer) (page : List ℕ) (long : ℕ) → length name ≤ 11 → length page ≤ 4096 → ((i : ℕ) → get_or page i 0 < 256)
    → length (paged_line name a (take long page)) ≤ 49152
paged_most name a page long h p bytes =
    let q = take long page in
    let k : length q ≤ 4096 = omega (arith, length-take long page, p) in
    let c : length (page_text q) ≤ 45056 = omega (arith, k, cells_most q (taken_byte page long bytes) (length q) k) in
    let l = both (name ++ answer_text a ++ ascii " page" ++ page_text q) newline
    (both (name ++ answer_text a ++ ascii " page") (page_text q)
    (both (name ++ answer_text a) (ascii " page") (both name (answer_text a) h (answer_most a)) (exactly (ascii " page"))) c) (exactly newline) in
    omega (arith, l)

listed_most : (a : Answered Answer) (codes : List ℕ) (long : ℕ) → length codes ≤ 1024 → length (listed_line a (take long codes)) ≤ 49152
listed_most a codes long p =
    let q = take long codes in
    let c : length (codes_text q) ≤ 23552 = omega (arith, length-take long codes, p, codes_most q (length q)) in
    let l = both (ascii "allow" ++ answer_text a ++ ascii " codes" ++ codes_text q) newline
    (both (ascii "allow" ++ answer_text a ++ ascii " codes") (codes_text q)
    (both (ascii "allow" ++ answer_text a) (ascii " codes") (both (ascii "allow") (answer_text a) (exactly (ascii "allow")) (answer_most a))
    (exactly (ascii " codes"))) c) (exactly newline) in
    omega (arith, l)

unreadable_most : (number : ℕ) → length (unreadable_line number) ≤ 49152
unfolding in_decimal
unreadable_most number =
    let l = both (ascii "error line " ++ numeral 10 19 number) newline
    (both (ascii "error line ") (numeral 10 19 number) (exactly (ascii "error line ")) (numeral_most 10 19 number)) (exactly newline) in
    omega (arith, l)

module _ (page codes : List ℕ) (number : ℕ) (a : Answered Answer) (p : length page ≤ 4096) (bytes : (i : ℕ) → get_or page i 0 < 256) (c : length codes ≤ 1024) where
  plain : (name : List ℕ) → length name ≤ 11 → length (plain_line name a) ≤ 49152
  plain name h = wider (plain_line name a) (omega arith) (plain_most name a h)

  line_most : (e : Event) → length (line_of page codes number e a) ≤ 49152
  line_most event.Nothing = omega arith
  line_most event.Unreadable = unreadable_most number
  line_most (event.Start n l) = wider (start_line a) (omega arith) (start_most a)
  line_most (event.Notice i long) = paged_most (ascii "notice") a page long (omega arith) p bytes
  line_most (event.Call i x ecx rdx) = plain (ascii "call") (omega arith)
  line_most (event.Entry i f s b) = plain (ascii "entry") (omega arith)
  line_most (event.NonDelivery i) = plain (ascii "nondelivery") (omega arith)
  line_most (event.HandBack i f s long) = paged_most (ascii "handback") a page long (omega arith) p bytes
  line_most (event.Allow i n long x) = listed_most a codes long c
  line_most (event.Ask i) = plain (ascii "ask") (omega arith)
  line_most event.State = omega arith

-- ---- the state
member_most : (later : Bool) (v : ℕ) → length (member_text later v) ≤ 23
member_most true v = hex_wide (ascii ",") v 1 (omega arith)
member_most false v = hex_wide [] v 1 (omega arith)

members_most : (s : List ℕ) (v : ℕ) → length (members_below v s) ≤ 23 * v
unfolding members_below
members_most s zero = omega arith
members_most s (suc v) =
    let w = member_text (begun (members_below v s)) v in
    let l = both (members_below v s) (cond (has s v) w []) (members_most s v) (either (has s v) w [] (member_most (begun (members_below v s)) v) (omega arith)) in
    omega (arith, l)

set_most : (name s : List ℕ) → length name ≤ 15 → length (set_text name s) ≤ 5905
set_most name s h =
    let l = both (name ++ ascii "{" ++ members_text s) (ascii "}")
    (both (name ++ ascii "{") (members_text s) (both name (ascii "{") h (exactly (ascii "{"))) (members_most s 256)) (exactly (ascii "}")) in
    omega (arith, l)

phase_most : (p : Phase) → length (phase_text p) ≤ 14
phase_most phase.Active = omega arith
phase_most phase.Leaving = omega arith
phase_most phase.Left = omega arith

flight_most : (f : InFlight) → length (flight_text f) ≤ 30
flight_most flight.Nothing = omega arith
flight_most flight.Nmi = omega arith
flight_most flight.MachineCheck = omega arith
flight_most (flight.Vector v) = hex_wide (ascii " flight=") v 8 (omega arith)

module _ (v : Vcpu) where
  abbrev allowed : List ℕ
  allowed = set_text (ascii " allowed=") v.allowed

  abbrev pending : List ℕ
  pending = set_text (ascii " pending=") v.irr

  abbrev service : List ℕ
  service = set_text (ascii " service=") v.isr

  abbrev pending_level : List ℕ
  pending_level = set_text (ascii " pending_level=") v.irr_level

  abbrev serving_level : List ℕ
  serving_level = set_text (ascii " serving_level=") v.isr_level

  sets_most : length (sets_text v) ≤ 29525
  sets_most =
      let two = both allowed pending (set_most (ascii " allowed=") v.allowed (omega arith)) (set_most (ascii " pending=") v.irr (omega arith)) in
      let three = both (allowed ++ pending) service two (set_most (ascii " service=") v.isr (omega arith)) in
      let four = both (allowed ++ pending ++ service) pending_level three (set_most (ascii " pending_level=") v.irr_level (omega arith)) in
      both (allowed ++ pending ++ service ++ pending_level) serving_level four (set_most (ascii " serving_level=") v.isr_level (omega arith))

  vcpu_most : (i : ℕ) → length (vcpu_line i v) ≤ 49152
  vcpu_most i =
      let t1 = in_hex (ascii "vcpu ") i ++ phase_text v.phase in
      let t2 = t1 ++ flight_text v.flight in
      let t3 = t2 ++ in_hex (ascii " nmi=") (bit v.nmi) in
      let t4 = t3 ++ in_hex (ascii " tpr=") v.tpr in
      let t5 = t4 ++ in_hex (ascii " icr=") v.icr in
      let t6 = t5 ++ sets_text v in
      let t7 = t6 ++ in_hex (ascii " mc=") (bit v.machine_check) in
      let t8 = t7 ++ in_hex (ascii " summary=") v.summary in
      let l1 = both (in_hex (ascii "vcpu ") i) (phase_text v.phase) (hex_wide (ascii "vcpu ") i 5 (omega arith)) (phase_most v.phase) in
      let l2 = both t1 (flight_text v.flight) l1 (flight_most v.flight) in
      let l3 = both t2 (in_hex (ascii " nmi=") (bit v.nmi)) l2 (hex_wide (ascii " nmi=") (bit v.nmi) 5 (omega arith)) in
      let l4 = both t3 (in_hex (ascii " tpr=") v.tpr) l3 (hex_wide (ascii " tpr=") v.tpr 5 (omega arith)) in
      let l5 = both t4 (in_hex (ascii " icr=") v.icr) l4 (hex_wide (ascii " icr=") v.icr 5 (omega arith)) in
      let l6 = both t5 (sets_text v) l5 sets_most in
      let l7 = both t6 (in_hex (ascii " mc=") (bit v.machine_check)) l6 (hex_wide (ascii " mc=") (bit v.machine_check) 4 (omega arith)) in
      let l8 = both t7 (in_hex (ascii " summary=") v.summary) l7 (hex_wide (ascii " summary=") v.summary 9 (omega arith)) in
      let l9 = both t8 newline l8 (exactly newline) in
      omega (arith, l9)

module _ (m : Module) where
  module_most : length (module_line m) ≤ 49152
  module_most =
      let t1 = in_hex (ascii "module n=") m.n in
      let t2 = t1 ++ in_hex (ascii " vmpl=") m.vmpl in
      let t3 = t2 ++ in_hex (ascii " count=") m.registrations in
      let l2 = both t1 (in_hex (ascii " vmpl=") m.vmpl) (hex_wide (ascii "module n=") m.n 9 (omega arith)) (hex_wide (ascii " vmpl=") m.vmpl 6 (omega arith)) in
      let l3 = both t2 (in_hex (ascii " count=") m.registrations) l2 (hex_wide (ascii " count=") m.registrations 7 (omega arith)) in
      let l4 = both t3 newline l3 (exactly newline) in
      omega (arith, l4)

  state_most : (k : ℕ) → length (state_line m k) ≤ 49152
  state_most k =
      let i = k - 1 in
      let there = ltb i 32 && ltb i m.n in
      either (eqb k 0) (module_line m) (cond there (vcpu_line i (vcpu_at m i)) []) module_most
      (either there (vcpu_line i (vcpu_at m i)) [] (vcpu_most (vcpu_at m i) i) (omega arith))

-- ---- so it stands whole
stands : (text : List ℕ) → length text ≤ 49152 → Stands text
stands text h out after at next l a p = puts_fits l (omega (arith, h, a)) p

pub lines_fit : LinesFit
lines_fit =
    record {
      event = λ page codes number e a p bytes c. stands (line_of page codes number e a) (line_most page codes number a p bytes c e);
      state = λ m k. stands (state_line m k) (state_most m k);
    }
