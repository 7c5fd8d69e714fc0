-- The book is fed a list of ECX values as its single calls.
-- Assumes nothing.
use mathlib.Core.Path.{◌≡◌, refl, sym, ap, ◌∙◌}
use mathlib.Core.Bool.{Bool, true, false, cond, ◌&&◌, and-false}
use mathlib.Core.List.{List, [], ◌∷◌, map}
use Prim.Native.Nat.{ℕ, zero, suc, ◌%◌, ◌<◌, ◌≤◌}
use lib.Dec.{leb, ltb}
use lib.ListN.{length, get_or, set}
use borrow.Author.Tests.{le-leb, lt-leb}
use Rattle.vector_set.specs.Bits.{bit_at}
use Rattle.vector_set.specs.Sets.{insert, remove}
use Rattle.model.specs.State.{is_active, absent}
use Rattle.model.specs.Doorbell.{no_part}
use Rattle.model.specs.Requests.{nameable}
use Rattle.model.specs.Events.{call, allow, at, Bytes}
use Rattle.lists.specs.Book.{BookRecord, Book, Note, record_of, record_at, with_record, with_allowed, permits, permits_each, called, feed_act, feed}
use Rattle.lists.specs.Book.{feed_all, part_on, part_by, FedAsCalls}

-- ---- the book lets the vCPU i be served: below n and active in it
abbrev serves : ℕ → Book → Bool
serves i w = ltb i w.n && is_active (record_at w i).phase

-- a record stored with the phase that it had
phase_set : (l : List BookRecord) (i : ℕ) (r d : BookRecord) → r.phase ≡ (get_or l i d).phase → (get_or (set l i r) i d).phase ≡ (get_or l i d).phase
phase_set [] i r d e = refl
phase_set (x ∷ l) zero r d e = e
phase_set (x ∷ l) (suc i) r d e = phase_set l i r d e

serves_after : (i : ℕ) (s : List ℕ) (w : Book) → serves i (with_record i (with_allowed s (record_at w i)) w) ≡ serves i w
unfolding with_record record_at
serves_after i s w = ap (λ p. ltb i w.n && is_active p) (phase_set w.records i (with_allowed s (record_at w i)) (record_of absent) refl)

serves_permits : (i c : ℕ) (w : Book) → serves i (permits i c w) ≡ serves i w
unfolding permits
serves_permits i c w = pick (nameable c) (bit_at c 8)
  where
    pick : (n t : Bool)
        → serves i (cond n
        (cond t (with_record i (with_allowed (insert (c % 256) (record_at w i).allowed) (record_at w i)) w)
        (with_record i (with_allowed (remove (c % 256) (record_at w i).allowed) (record_at w i)) w)) w)
        ≡ serves i w
    pick true true = serves_after i (insert (c % 256) (record_at w i).allowed) w
    pick true false = serves_after i (remove (c % 256) (record_at w i).allowed) w
    pick false t = refl

-- ---- the single calls
abbrev calls : ℕ → ℕ → List ℕ → List Note
calls i x cs = map (λ c. at i (call 4 c x)) cs

fed_call : (w : Book) (i c x : ℕ) → feed w (at i (call 4 c x)) ≡ cond (serves i w) (permits i c w) w
unfolding feed_act called
fed_call w i c x = refl

each_fed : (cs : List ℕ) (w : Book) (i x : ℕ) (b : Bool) → serves i w ≡ b → feed_all w (calls i x cs) ≡ cond b (permits_each i cs w) w
unfolding feed_all permits_each
each_fed [] w i x true e = refl
each_fed [] w i x false e = refl
each_fed (c ∷ cs) w i x true e =
    ap (λ (u : Book). feed_all u (calls i x cs)) (fed_call w i c x ∙ ap (λ (b : Bool). cond b (permits i c w) w) e)
    ∙ each_fed cs (permits i c w) i x true (serves_permits i c w ∙ e)
each_fed (c ∷ cs) w i x false e =
    ap (λ (u : Book). feed_all u (calls i x cs)) (fed_call w i c x ∙ ap (λ (b : Bool). cond b (permits i c w) w) e) ∙ each_fed cs w i x false e

-- ---- the list
fitting : (w : Book) (i x : ℕ) (cs : List ℕ) (len : ℕ) → length cs ≤ 256 → length cs ≤ len → feed w (at i (allow cs len)) ≡ feed_all w (calls i x cs)
unfolding feed_act
fitting w i x cs len l l' = rw (le-leb (length cs) 256 l, le-leb (length cs) len l') (plain (serves i w) ∙ sym (each_fed cs w i x (serves i w) refl))
  where
    plain : (b : Bool) → cond (b && true) (permits_each i cs w) w ≡ cond b (permits_each i cs w) w
    plain true = refl
    plain false = refl

too_many_lem : (w : Book) (i : ℕ) (cs : List ℕ) (len : ℕ) → 256 < length cs → feed w (at i (allow cs len)) ≡ w
unfolding feed_act
too_many_lem w i cs len l = rw (lt-leb (length cs) 256 l, and-false (serves i w))

too_short_lem : (w : Book) (i : ℕ) (cs : List ℕ) (len : ℕ) → len < length cs → feed w (at i (allow cs len)) ≡ w
unfolding feed_act
too_short_lem w i cs len l = rw (lt-leb (length cs) len l, and-false (leb (length cs) 256), and-false (serves i w))

unadmitting : (l : ℕ) (w : Book) (i : ℕ) (cs : List ℕ) (q : Bytes) → part_by l w (at i (allow cs q)) ≡ no_part
unfolding part_on
unadmitting l w i cs q = refl

pub fed_as_calls : FedAsCalls
fed_as_calls = record { fitting = fitting; too_many = too_many_lem; too_short = too_short_lem; unadmitting = unadmitting }
