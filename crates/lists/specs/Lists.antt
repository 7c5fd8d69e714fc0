-- Lists of events: what they give, notices struck out, and lists that differ in bytes of notices alone (section 12).
-- Assumes nothing.
use Rattle.std.specs.Prelude.{◌≡◌, Bool, false, cond, List, [], ◌∷◌, map, ℕ, length}
use Rattle.std.specs.Prelude.{Option, None, Some}
use Rattle.model.specs.declared.Module.{Module}
use Rattle.model.specs.Codes.{Result, done, counted, answers, coded, refused}
use Rattle.model.specs.Events.{notice, at, Bytes, Event, Out, run}
use Rattle.model.specs.Causes.{is_hand_back}
use Rattle.lists.specs.Book.{notice_page}
use Rattle.vector_set.specs.Bits.{bit_at}

-- the result of each event (12.5)
unfoldable pub results : Module → List Event → List Result
results m es = map (λ o. o.result) (run m es)

-- the answer of an IPI names the vCPU k (7.20, 13.99)
abbrev pub names : ℕ → Result → Bool
names k (done r) = bit_at r k
names k (counted a b) = false
names k (answers a) = false
names k (coded x ks) = false
names k (refused c) = false

-- of each hand-back the page after it
unfoldable pub hand_back_pages : List Event → List Out → List Bytes
hand_back_pages [] os = []
hand_back_pages (e ∷ es) [] = []
hand_back_pages (e ∷ es) (o ∷ os) = cond (is_hand_back e.act) (o.page ∷ hand_back_pages es os) (hand_back_pages es os)

-- the pages after the hand-backs of a list (13.21)
unfoldable pub pages : Module → List Event → List Bytes
pages m es = hand_back_pages es (run m es)

-- a list without its notices
abbrev pub keep_unless : {A P : Type 0} → Option P → A → List A → List A
keep_unless None e es = e ∷ es
keep_unless (Some p) e es = es

-- the list without its notices (13.23)
unfoldable pub struck : List Event → List Event
struck [] = []
struck (e ∷ es) = keep_unless (notice_page e.act) e (struck es)

-- events that differ at most in the bytes of a notice's page, not in its length (13.20)
pub data Alike : Event → Event → Type 0 where
  same : {e : Event} → Alike e e
  notices : {i : ℕ} {p q : Bytes} → length p ≡ length q → Alike (at i (notice p)) (at i (notice q))

-- lists of such events (13.20)
pub data AllAlike : List Event → List Event → Type 0 where
  neither : AllAlike [] []
  both : {d e : Event} {ds es : List Event} → Alike d e → AllAlike ds es → AllAlike (d ∷ ds) (e ∷ es)
