-- Which mistake a refused hand-back was, over every list of events: it was called too early, or twice (13.103, 13.104, 13.107).
-- Assumes nothing.
use Rattle.std.specs.Prelude.{◌≡◌, Bool, true, false, ◌||◌, List, [], ◌∷◌, ℕ, ◌<◌, eqb, length}
use Rattle.std.specs.Prelude.{Option, Some}
use Rattle.model.specs.declared.Phase.{Phase}
use Rattle.model.specs.declared.Phase.TheVariants.{Active, Leaving, Left}
use Rattle.model.specs.declared.Module.{Module}
use Rattle.model.specs.State.{has_left, size, vcpu_at, start}
use Rattle.model.specs.Codes.{refusal_of, code_in}
use Rattle.model.specs.Events.{hand_back, at, Bytes, Event, step, next, final}
use Rattle.model.specs.Demand1.{short_code}
use Rattle.lists.specs.Book.{record_at}
use Rattle.lists.specs.Demand3.{book_after}
use Rattle.lists.specs.Sums.{hands_back_at}

-- a list on the module m has an accepted hand-back of the vCPU j (13.103)
unfoldable pub hands_back_in : ℕ → Module → List Event → Bool
hands_back_in j m [] = false
hands_back_in j m (e ∷ es) = hands_back_at m j e || hands_back_in j (next m e) es

-- the code of a hand-back with a page of k bytes by the phase of its vCPU, if it is refused (10.2, 13.104)
abbrev pub code_by : Phase → ℕ → Option ℕ
code_by Active k = Some 3
code_by Leaving k = short_code k
code_by Left k = Some 7

pub record HandBackMistakes : Type 0 where
  -- of every module value: after a list a vCPU has left if it had before or the list has an accepted hand-back of it, and not otherwise (13.103)
  pub left_exactly : (m : Module) (es : List Event) (j : ℕ) → has_left (vcpu_at (final m es) j).phase ≡ (has_left (vcpu_at m j).phase || hands_back_in j m es)
  -- one that has left is not handed back again (13.107)
  pub not_again : (m : Module) (es : List Event) (j : ℕ) → has_left (vcpu_at m j).phase ≡ true → hands_back_in j m es ≡ false
  -- of every module value: the code of a hand-back of a vCPU below n is told by its phase in the book, which reads no answer, and by its page's length (13.104)
  pub by_book : (m : Module) (es : List Event) (i : ℕ) (p : Bytes) (iF sh : Bool) → i < size m
      → refusal_of (step (final m es) (at i (hand_back p iF sh))).result ≡ code_by (record_at (book_after m es) i).phase (length p)
  -- in a list from a start it is 7 exactly if an earlier hand-back of that vCPU was accepted (13.104)
  pub called_twice : (n l : ℕ) (es : List Event) (i : ℕ) (p : Bytes) (iF sh : Bool) → i < size (start n l)
      → eqb (code_in (step (final (start n l) es) (at i (hand_back p iF sh))).result) 7 ≡ hands_back_in i (start n l) es
