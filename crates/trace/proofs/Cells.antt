-- How the numbers beside the first `=` of a word make a byte of a page.
-- Assumes nothing.
use Rattle.std.proofs.Common.{◌≡◌, List, [], ◌∷◌, set, ℕ, ◌+◌, length, take, arith, add-one, eqb, Option, Some, None}
use borrow.Author.Tests.{lt-ltb, le-ltb}
use Rattle.std.proofs.lemmas.List.{take_rest}
use Rattle.std.specs.List.{position}
use Rattle.trace.specs.Numbers.{number_of}
use Rattle.trace.specs.declared.pages.Cell.{Cell}
use Rattle.trace.specs.Pages.{cell, cell_of, fill}
use Rattle.trace.proofs.Text.{found, not_found, onward}

-- ---- one byte: where `=` is found, and the numbers before and after it
module _ (long : ℕ) (w : List ℕ) where
  pub cell_plain : None ≡ position (λ x. eqb x 61) w → cell_of long w ≡ None
  unfolding cell_of
  cell_plain f = rw (← not_found 61 w f, le-ltb (length w) (length w) (omega arith))

  pub cell_split : (k : ℕ) → Some k ≡ position (λ x. eqb x 61) w → cell_of long w ≡ cell long (number_of (take k w)) (number_of (onward (k + 1) w))
  unfolding cell_of
  cell_split k f = let h = found 61 w k f in rw (take_rest, ← h.0, lt-ltb k (length w) h.1, add-one)

module _ (long : ℕ) (x y : Option ℕ) where
  pub no_offset : x ≡ None → cell long x y ≡ None
  unfolding cell
  no_offset e = go y
    where
      go : (y : Option ℕ) → cell long x y ≡ None
      go (Some v) = rw e
      go None = rw e

  pub no_value : (o : ℕ) → x ≡ Some o → y ≡ None → cell long x y ≡ None
  unfolding cell
  no_value o e f = rw (e, f)

-- ---- the page
module _ (long : ℕ) (ws us : List (List ℕ)) (w : List ℕ) (p : List ℕ) (e : ws ≡ w ∷ us) where
  pub fill_byte : (x : Cell) → cell_of long w ≡ Some x → fill long ws p ≡ fill long us (set p x.offset x.value)
  unfolding fill
  fill_byte x c = rw (e, c)

  pub fill_none : cell_of long w ≡ None → fill long ws p ≡ None
  unfolding fill
  fill_none c = rw (e, c)

pub fill_end : (long : ℕ) (ws : List (List ℕ)) (p : List ℕ) → ws ≡ [] → fill long ws p ≡ Some p
unfolding fill
fill_end long ws p e = rw e
