-- The bytes of a page, as the last words of a line tell them.
-- Assumes nothing.
use Rattle.std.specs.Prelude.{cond, ◌&&◌, List, [], ◌∷◌, ℕ, suc, leb, ltb, length, take, drop, set, replicate, Option, Some, None}
use Rattle.std.specs.Option.{option_and_then}
use Rattle.trace.specs.Bytes.{index_of}
use Rattle.trace.specs.declared.pages.Cell.{Cell}
use Rattle.trace.specs.Numbers.{number_of}

-- a byte of a page of `long` bytes: the offset is below it, the value at most 255
unfoldable pub cell : ℕ → Option ℕ → Option ℕ → Option Cell
cell long (Some o) (Some v) = cond (ltb o long && leb v 255) (Some (record { offset = o; value = v })) None
cell long (Some o) None = None
cell long None (Some v) = None
cell long None None = None

-- `OFFSET=BYTE`: the numbers before and after the first `=`
unfoldable pub cell_of : ℕ → List ℕ → Option Cell
cell_of long w =
    let k = index_of 61 w in
    cond (ltb k (length w)) (cell long (number_of (take k w)) (number_of (drop (suc k) w))) None

-- the page p with the bytes that the words tell, from first to last: of two for one offset the later stays. There is none where a word is no
-- byte of the page
unfoldable pub fill : ℕ → List (List ℕ) → List ℕ → Option (List ℕ)
fill long [] p = Some p
fill long (w ∷ ws) p = option_and_then (λ (c : Cell). fill long ws (set p c.offset c.value)) (cell_of long w)

abbrev pub zeros : List ℕ
zeros = replicate 4096 0
