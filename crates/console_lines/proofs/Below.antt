-- What a turn of a loop adds to the text of a page, of codes and of a set.
-- Assumes nothing.
use mathlib.Core.Path.{◌≡◌, refl, sym, ap, ◌∙◌}
use mathlib.Core.Bool.{Bool, true, false, cond}
use mathlib.Core.List.{List, [], ◌∷◌, ◌++◌, append-nil}
use Prim.Native.Nat.{ℕ, zero, suc, ◌+◌, ◌<◌, ◌≤◌}
use native.Mathlib.Numerals.{add-one}
use native.Mathlib.Omega.{arith}
use lib.ListN.{length, drop, get_or}
use mir.Val.{bool_byte}
use Rattle.std.specs.Int.{w64, to_le_bytes}
use Rattle.std.proofs.lemmas.List.{append_assoc, get_or_append_left, get_or-drop, drop-drop, drop_at}
use Rattle.vector_set.specs.Sets.{has}
use Rattle.console.specs.Filling.{Puts}
use Rattle.console.proofs.Fills.{puts_of}
use Rattle.console_lines.specs.Numerals.{in_hex}
use Rattle.console_lines.specs.Lines.{cell_text, cells_below, page_text, cells_from, part_text, code_text, codes_below, codes_text, begun, member_text, members_below, bit}

pub cell_more : (page : List ℕ) (i : ℕ) → cells_below i page ++ cell_text i (get_or page i 0) ≡ cells_below (i + 1) page
unfolding cells_below
cell_more page i = ap (λ (n : ℕ). cells_below n page) (sym (add-one i))

pub all_cells : (page : List ℕ) (i : ℕ) → i ≤ length page → length page ≤ i → cells_below i page ≡ page_text page
all_cells page i h g = let e : i ≡ length page = omega (arith, h, g) in ap (λ (n : ℕ). cells_below n page) e

-- ---- a part of a page
pub part_more : (first : ℕ) (part : List ℕ) (i : ℕ) → cells_from first i part ++ cell_text (first + i) (get_or part i 0) ≡ cells_from first (i + 1) part
unfolding cells_from
part_more first part i = ap (λ (n : ℕ). cells_from first n part) (sym (add-one i))

pub all_of_part : (first : ℕ) (part : List ℕ) (i : ℕ) → i ≤ length part → length part ≤ i → cells_from first i part ≡ part_text first part
all_of_part first part i h g = let e : i ≡ length part = omega (arith, h, g) in ap (λ (n : ℕ). cells_from first n part) e

-- eight zeros have no text
pub no_cells : (first : ℕ) (part : List ℕ) → to_le_bytes w64 0 ≡ part → [] ≡ part_text first part
unfolding cells_from
no_cells first part e = ap (part_text first) e

-- a part of a page, and what is behind it
module _ (first : ℕ) (page part rest : List ℕ) (e : drop first page ≡ part ++ rest) where
  byte_of : (i : ℕ) → i < length part → get_or part i 0 ≡ get_or page (first + i) 0
  byte_of i h = sym (get_or_append_left part rest 0 i h) ∙ ap (λ (s : List ℕ). get_or s i 0) (sym e) ∙ get_or-drop first page i 0

  cells_behind : (n : ℕ) → n ≤ length part → cells_below first page ++ cells_from first n part ≡ cells_below (first + n) page
  unfolding cells_from
  cells_behind zero h = append-nil (cells_below first page) ∙ ap (λ (n : ℕ). cells_below n page) (omega arith)
  cells_behind (suc n) h =
      let i = first + n in
      let next : i + 1 ≡ first + suc n = omega arith in
      sym (append_assoc (cells_below first page) (cells_from first n part) (cell_text i (get_or part n 0)))
      ∙ ap (λ (s : List ℕ). s ++ cell_text i (get_or part n 0)) (cells_behind n (omega (arith, h)))
      ∙ ap (λ (b : ℕ). cells_below i page ++ cell_text i b) (byte_of n (omega (arith, h)))
      ∙ cell_more page i
      ∙ ap (λ (k : ℕ). cells_below k page) next

  -- its cells stand behind those of all that is before it
  pub part_behind : cells_below first page ++ part_text first part ≡ cells_below (first + length part) page
  part_behind = cells_behind (length part) (omega arith)

  pub rest_behind : rest ≡ drop (first + length part) page
  rest_behind = sym (drop_at part rest (length part) refl) ∙ ap (drop (length part)) (sym e) ∙ drop-drop (length part) first page

-- ---- codes
pub code_more : (codes : List ℕ) (i : ℕ) → codes_below i codes ++ code_text (get_or codes i 0) ≡ codes_below (i + 1) codes
unfolding codes_below
code_more codes i = ap (λ (n : ℕ). codes_below n codes) (sym (add-one i))

pub all_codes : (codes : List ℕ) (i : ℕ) → i ≤ length codes → length codes ≤ i → codes_below i codes ≡ codes_text codes
all_codes codes i h g = let e : i ≡ length codes = omega (arith, h, g) in ap (λ (n : ℕ). codes_below n codes) e

-- ---- members
begun_behind : (s t : List ℕ) → begun t ≡ true → begun (s ++ t) ≡ true
begun_behind [] t e = e
begun_behind (b ∷ s) t e = refl

begun_member : (later : Bool) (v : ℕ) → begun (member_text later v) ≡ true
unfolding in_hex
begun_member true v = refl
begun_member false v = refl

module _ (s : List ℕ) (v : ℕ) (later : Bool) (e : later ≡ begun (members_below v s)) where
  abbrev with : Bool → Bool → List ℕ
  with here more = members_below v s ++ cond here (member_text more v) []

  pub member_more : has s v ≡ true → members_below v s ++ member_text later v ≡ members_below (v + 1) s
  unfolding members_below
  member_more h =
      ap (with true) e
      ∙ ap (λ (x : Bool). with x (begun (members_below v s))) (sym h)
      ∙ ap (λ (n : ℕ). members_below n s) (sym (add-one v))

  pub none_more : has s v ≡ false → members_below v s ≡ members_below (v + 1) s
  unfolding members_below
  none_more h =
      sym (append-nil (members_below v s))
      ∙ ap (λ (x : Bool). with x (begun (members_below v s))) (sym h)
      ∙ ap (λ (n : ℕ). members_below n s) (sym (add-one v))

  pub later_now : has s v ≡ true → true ≡ begun (members_below (v + 1) s)
  later_now h = sym (ap begun (sym (member_more h)) ∙ begun_behind (members_below v s) (member_text later v) (begun_member later v))

  pub later_same : has s v ≡ false → later ≡ begun (members_below (v + 1) s)
  later_same h = e ∙ ap begun (none_more h)

-- ---- numbers
-- a number is printed as one that it equals
pub put_as : {room : ℕ} (name : List ℕ) {o o' : List ℕ} {m n a a' : ℕ} → m ≡ n → Puts room (in_hex name m) o a o' a' → Puts room (in_hex name n) o a o' a'
put_as name e p = puts_of (in_hex name) (sym e) p

pub bit_is : (b : Bool) → bool_byte b ≡ bit b
bit_is true = refl
bit_is false = refl
