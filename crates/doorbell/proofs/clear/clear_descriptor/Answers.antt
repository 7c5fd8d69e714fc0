-- `doorbell::clear::clear_descriptor` meets its contract: bit 14 is read before it is cleared.
use mathlib.Core.Path.{◌≡◌, sym, ap, ◌∙◌}
use mathlib.Core.Bool.{Bool, true, false, ◌||◌, or-false}
use mathlib.Core.List.{List}
use Prim.Native.Nat.{ℕ}
use borrow.Author.Rules.{rules}
use lib.Dec.{leb, eqb}
use lib.ListN.{get_or}
use Rattle.model.specs.Doorbell.{bit_of, clears_bit}
use Rattle.vector_set.proofs.BitLaws.{mask_clear, mask_set}
use Rattle.doorbell.specs.Clear.{clearing}
use Rattle.doorbell.proofs.ClearLaws.{clearing_twice, clearing_ext}
use Rattle.doorbell.proofs.clear.clear_descriptor.Goals as goal

abbrev request : ℕ → Bool
request k = leb k 10 || eqb k 14

many : (d : List ℕ) → clearing (λ k. leb 31 k) (clearing request d) ≡ clearing (clears_bit true) d
unfolding clears_bit
many d = clearing_twice request (λ k. leb 31 k) d

one : (d : List ℕ) → clearing request d ≡ clearing (clears_bit false) d
unfolding clears_bit
one d = clearing_ext request (clears_bit false) d (λ k. sym (or-false (request k)))

unfoldable cleared : List ℕ → List ℕ
cleared d = clearing (clears_bit (bit_of d 14)) d

pub returns-then-many-ne0 : goal.returns-then-many-ne0
unfolding bit_of cleared
returns-then-many-ne0 c =
    let d = c.unwrap-d.result.now in
    let m : bit_of d 14 ≡ true = mask_set 6 (get_or d 1 0) c.if-many-ne0.true in
    let same : d ≡ c.args.d.now = search rules in
    c.clear_marks.ensures ∙ ap (clearing (λ k. leb 31 k)) c.clear_request.ensures
    ∙ many d ∙ ap (λ (t : Bool). clearing (clears_bit t) d) (sym m) ∙ ap cleared same

pub returns-else-many-ne0 : goal.returns-else-many-ne0
unfolding bit_of cleared
returns-else-many-ne0 c =
    let d = c.unwrap-d.result.now in
    let m : bit_of d 14 ≡ false = mask_clear 6 (get_or d 1 0) c.if-many-ne0.false in
    let same : d ≡ c.args.d.now = search rules in
    c.clear_request.ensures ∙ one d ∙ ap (λ (t : Bool). clearing (clears_bit t) d) (sym m) ∙ ap cleared same
