-- When a vCPU has left, and which code a hand-back has: proved.
-- Assumes nothing.
use mathlib.Core.Path.{◌≡◌, refl, sym, ap, ◌∙◌, subst}
use mathlib.Core.Bool.{Bool, true, false, cond, ◌&&◌, ◌||◌, or-false, and-false}
use mathlib.Core.List.{List, [], ◌∷◌, ◌++◌}
use Rattle.std.specs.Prelude.{unwrap_or}
use Rattle.std.specs.Prelude.{Option, None, Some}
use Prim.Native.Nat.{ℕ, zero, suc, ◌-◌, ◌<◌}
use native.Mathlib.Omega.{arith}
use lib.Dec.{leb, ltb, eqb}
use lib.ListN.{length, get_or, set, replicate, get_or-map}
use lib.Seq.{map-set_same}
use borrow.Author.Tests.{eqb-true}
use Rattle.model.specs.declared.Phase.{Phase}
use Rattle.model.specs.declared.Phase.TheVariants.{Active, Leaving, Left}
use Rattle.model.specs.declared.Vcpu.{Vcpu}
use Rattle.model.specs.declared.Module.{Module}
use Rattle.model.specs.State.{is_active, is_leaving, has_left, bare, fresh, absent, size, vcpu_at, may_start, started, stopped, start}
use Rattle.model.specs.Codes.{refusal_of, accepted}
use Rattle.model.specs.Requests.{nameable}
use Rattle.model.specs.Events.{Act, notice, call, entry, non_delivery, hand_back, allow, at, Bytes, Event, emptied, effect}
use Rattle.model.specs.Events.{concluded, step, next, final}
use Rattle.lists.specs.Book.{note, BookRecord, Book, record_of, book_of, record_at, with_record, with_count, leaves_at_zero, takes_one, adds_one}
use Rattle.lists.specs.Book.{registers, permits, permits_each, called, feed_act, feed}
use Rattle.lists.specs.Sums.{hands_back_at}
use Rattle.lists.specs.HandBacks.{hands_back_in, code_by, HandBackMistakes}
use Rattle.vector_set.specs.Bits.{bit_at}
use Rattle.vector_set.proofs.Laws.{clash}
use Rattle.model.proofs.Demand1.{demand1}
use Rattle.model.proofs.Stays.{vmpl_next, n_next}
use Rattle.model.proofs.Stored.{on_put, vcpu_at_count, by_verdict_lem, known_of}
use Rattle.lists.proofs.BookLaws.{record_book}
use Rattle.lists.proofs.Follow.{follow, follow_all}

-- ---- by the book: nothing but a hand-back makes a vCPU one that has left
abbrev left_in : Book → ℕ → Bool
left_in w j = has_left (record_at w j).phase

-- a record stored that has left exactly if the one before it had
left_put : (w : Book) (i : ℕ) (r : BookRecord) (j : ℕ) → has_left r.phase ≡ left_in w i → left_in (with_record i r w) j ≡ left_in w j
unfolding record_at with_record
left_put w i r j e =
    let f : BookRecord → Bool = λ q. has_left q.phase in
    let d = record_of absent in
    sym (get_or-map f (set w.records i r) j d)
    ∙ ap (λ (bs : List Bool). get_or bs j (f d)) (map-set_same f w.records i r d e)
    ∙ get_or-map f w.records j d

module _ (j : ℕ) (w : Book) where
  abbrev Same : Book → Type 0
  Same u = left_in u j ≡ left_in w j

  either : (b : Bool) (u v : Book) → Same u → Same v → Same (cond b u v)
  either true u v g h = g
  either false u v g h = h

  -- at the count 0 an active vCPU becomes leaving
  zero_same : (u : Book) (i : ℕ) → Same u → left_in u i ≡ false → Same (leaves_at_zero i u)
  unfolding leaves_at_zero
  zero_same u i s e = either (eqb u.count 0) _ _ (left_put u i _ j (sym e) ∙ s) s

  registers_same : (i c : ℕ) → left_in w i ≡ false → Same (registers i c w)
  unfolding registers takes_one adds_one with_count record_at
  registers_same i c e =
      either (eqb c 0) _ _ (zero_same w i refl e)
      (either (eqb c 1) _ _ (zero_same (takes_one w) i refl e)
      (either (eqb c 2) _ _ (either (leb 1 w.count && leb w.count 254) _ _ refl refl) refl))

permits_same : (j i c : ℕ) (w : Book) → left_in (permits i c w) j ≡ left_in w j
unfolding permits
permits_same j i c w = either j w (nameable c) _ _ (either j w (bit_at c 8) _ _ (left_put w i _ j refl) (left_put w i _ j refl)) refl

each_same : (j i : ℕ) (cs : List ℕ) (w : Book) → left_in (permits_each i cs w) j ≡ left_in w j
unfolding permits_each
each_same j i [] w = refl
each_same j i (c ∷ cs) w = each_same j i cs (permits i c w) ∙ permits_same j i c w

-- what is done for an active vCPU alone
served_same : (j i n : ℕ) (w u : Book) → (left_in w i ≡ false → left_in u j ≡ left_in w j)
    → left_in (cond (ltb i n && is_active (record_at w i).phase) u w) j ≡ left_in w j
served_same j i n w u h = pick (ltb i n) (record_at w i).phase refl
  where
    pick : (a : Bool) (s : Phase) → (record_at w i).phase ≡ s → left_in (cond (a && is_active s) u w) j ≡ left_in w j
    pick true Active e = h (ap has_left e)
    pick true Leaving e = refl
    pick true Left e = refl
    pick false s e = refl

called_same : (j i op c : ℕ) (w : Book) → left_in w i ≡ false → left_in (called i op c w) j ≡ left_in w j
unfolding called
called_same j i op c w e = either j w (eqb op 1) _ _ (registers_same j w i c e) (either j w (eqb op 4) _ _ (permits_same j i c w) refl)

-- ---- one event
left_book : (m : Module) (j : ℕ) → has_left (vcpu_at m j).phase ≡ left_in (book_of m) j
left_book m j = ap (λ (r : BookRecord). has_left r.phase) (sym (record_book m j))

module _ (m : Module) (j : ℕ) where
  abbrev Leaves : Event → Type 0
  Leaves e = has_left (vcpu_at (next m e) j).phase ≡ (has_left (vcpu_at m j).phase || hands_back_at m j e)

  -- one that is no hand-back, by the book
  leaves_none : (e : Event) → hands_back_at m j e ≡ false → left_in (feed (book_of m) (note e)) j ≡ left_in (book_of m) j → Leaves e
  leaves_none e b h =
      left_book (next m e) j ∙ ap (λ (w : Book). left_in w j) (sym (follow m e)) ∙ h ∙ sym (left_book m j)
      ∙ sym (or-false (has_left (vcpu_at m j).phase)) ∙ ap (λ (t : Bool). has_left (vcpu_at m j).phase || t) (sym b)

  leaves_back : (i : ℕ) (p : Bytes) (iF sh : Bool) → Leaves (at i (hand_back p iF sh))
  unfolding concluded effect emptied
  leaves_back i p iF sh =
      by_verdict_lem m (at i (hand_back p iF sh)) (λ o. has_left (vcpu_at o.after j).phase ≡ (has_left (vcpu_at m j).phase || (accepted o.result && eqb j i)))
      (λ c h. sym (or-false (has_left (vcpu_at m j).phase)))
      (λ h. rw (vcpu_at_count)
      (on_put m i (emptied (vcpu_at m i)) j (known_of m i (hand_back p iF sh) h).there (λ _ b u v. has_left v.phase ≡ (has_left u.phase || b))
      (yes_with (has_left (vcpu_at m i).phase)) (sym (or-false (has_left (vcpu_at m j).phase)))))
    where
      yes_with : (b : Bool) → true ≡ (b || true)
      yes_with true = refl
      yes_with false = refl

  leaves_at : (i : ℕ) (a : Act Bytes) → Leaves (at i a)
  unfolding feed_act
  leaves_at i (notice p) = leaves_none (at i (notice p)) refl refl
  leaves_at i (call op c x) =
      leaves_none (at i (call op c x)) refl (served_same j i (book_of m).n (book_of m) _ (called_same j i op c (book_of m)))
  leaves_at i (entry iF sh bl) = leaves_none (at i (entry iF sh bl)) refl refl
  leaves_at i non_delivery = leaves_none (at i non_delivery) refl refl
  leaves_at i (hand_back p iF sh) = leaves_back i p iF sh
  leaves_at i (allow cs q) =
      leaves_none (at i (allow cs q)) refl
      (either j (book_of m)
      (ltb i (book_of m).n && is_active (record_at (book_of m) i).phase && (leb (length cs) 256 && leb (length cs) (length q)))
      _ _ (each_same j i cs (book_of m)) refl)

-- ---- a list
or_assoc : (a b c : Bool) → ((a || b) || c) ≡ (a || (b || c))
or_assoc true b c = refl
or_assoc false b c = refl

left : (m : Module) (es : List Event) (j : ℕ) → has_left (vcpu_at (final m es) j).phase ≡ (has_left (vcpu_at m j).phase || hands_back_in j m es)
unfolding final hands_back_in
left m [] j = sym (or-false (has_left (vcpu_at m j).phase))
left m (e ∷ es) j =
    left (next m e) es j ∙ ap (λ (t : Bool). t || hands_back_in j (next m e) es) (leaves_at m j e.vcpu e.act)
    ∙ or_assoc (has_left (vcpu_at m j).phase) (hands_back_at m j e) (hands_back_in j (next m e) es)

-- one that has left is not handed back again
not_again_lem : (m : Module) (j : ℕ) → has_left (vcpu_at m j).phase ≡ true → (i : ℕ) (a : Act Bytes) → hands_back_at m j (at i a) ≡ false
not_again_lem m j h i (notice p) = refl
not_again_lem m j h i (call op c x) = refl
not_again_lem m j h i (entry iF sh bl) = refl
not_again_lem m j h i non_delivery = refl
not_again_lem m j h i (hand_back p iF sh) =
    by_verdict_lem m (at i (hand_back p iF sh)) (λ o. (accepted o.result && eqb j i) ≡ false) (λ c e. refl)
    (λ e. pick (accepted (concluded (effect m.vmpl i m.registrations (vcpu_at m i) (hand_back p iF sh)) i m).result)
    (eqb j i) refl (known_of m i (hand_back p iF sh) e).phase)
  where
    pick : (a b : Bool) → eqb j i ≡ b → is_leaving (vcpu_at m i).phase ≡ true → (a && b) ≡ false
    pick a true e l = clash (both (vcpu_at m i).phase l (subst (λ (k : ℕ). has_left (vcpu_at m k).phase ≡ true) (eqb-true j i e) h))
      where
        both : (s : Phase) → is_leaving s ≡ true → has_left s ≡ true → ◌≡◌ {A = ℕ} 0 1
        both Active p q = cc
        both Leaving p q = cc
        both Left p q = cc
    pick a false e l = and-false a
not_again_lem m j h i (allow cs q) = refl

once : (m : Module) (es : List Event) (j : ℕ) → has_left (vcpu_at m j).phase ≡ true → hands_back_in j m es ≡ false
unfolding hands_back_in
once m [] j h = refl
once m (e ∷ es) j h =
    ap (λ (b : Bool). b || hands_back_in j (next m e) es) (not_again_lem m j h e.vcpu e.act)
    ∙ once (next m e) es j (leaves_at m j e.vcpu e.act ∙ ap (λ (b : Bool). b || hands_back_at m j e) h)

-- ---- the code of a hand-back, by the phase
code_of : (m : Module) (i : ℕ) (p : Bytes) (iF sh : Bool) → i < size m
    → refusal_of (step m (at i (hand_back p iF sh))).result ≡ code_by (vcpu_at m i).phase (length p)
code_of m i p iF sh h = pick (vcpu_at m i).phase refl
  where
    pick : (s : Phase) → (vcpu_at m i).phase ≡ s → refusal_of (step m (at i (hand_back p iF sh))).result ≡ code_by s (length p)
    pick Active e = ap refusal_of (demand1.hand_back_of_active m i p iF sh h (ap is_active e))
    pick Leaving e = demand1.hand_back_of_leaving m i p iF sh h (ap is_leaving e)
    pick Left e = ap refusal_of (demand1.hand_back_of_left m i p iF sh h (ap has_left e))

-- 7 is that of a vCPU that has left alone
seven : (s : Phase) (k : ℕ) → eqb (unwrap_or (code_by s k) 0) 7 ≡ has_left s
seven Active k = refl
seven Leaving k = pick (ltb k 256)
  where
    pick : (b : Bool) → eqb (unwrap_or (cond b (Some 2) None) 0) 7 ≡ false
    pick true = refl
    pick false = refl
seven Left k = refl

-- ---- in a list
size_final : (es : List Event) (m : Module) → size (final m es) ≡ size m
unfolding final size
size_final [] m = refl
size_final (e ∷ es) m = size_final es (next m e) ∙ rw (n_next m e, vmpl_next m e)

at_first : (n j : ℕ) (v : Vcpu) (r : List Vcpu) → j < n → get_or (replicate n v ++ r) j absent ≡ v
at_first zero j v r h = clash (omega (arith, h))
at_first (suc n) zero v r h = refl
at_first (suc n) (suc j) v r h = at_first n j v r (omega (arith, h))

started_at : (n l j : ℕ) → j < size (started n l) → vcpu_at (started n l) j ≡ fresh
unfolding size started vcpu_at
started_at n l j h = at_first n j fresh (replicate (32 - n) absent) (below (leb n 32) (leb 1 l) (leb l 3) h)
  where
    below : (a b c : Bool) → j < cond (a && b && c) n 0 → j < n
    below true true true e = e
    below true true false e = omega (arith, e)
    below true false c e = omega (arith, e)
    below false b c e = omega (arith, e)

stopped_none : (j : ℕ) → j < size stopped → ◌≡◌ {A = ℕ} 0 1
unfolding size stopped
stopped_none j h = omega (arith, h)

-- no vCPU below n has left
none_left : (n l j : ℕ) → j < size (start n l) → has_left (vcpu_at (start n l) j).phase ≡ false
unfolding start bare
none_left n l j h = pick (may_start n l) h
  where
    pick : (b : Bool) → j < size (cond b (started n l) stopped) → has_left (vcpu_at (cond b (started n l) stopped) j).phase ≡ false
    pick true q = ap (λ (v : Vcpu). has_left v.phase) (started_at n l j q)
    pick false q = clash (stopped_none j q)

-- the code after a list
code_after : (m : Module) (es : List Event) (i : ℕ) (p : Bytes) (iF sh : Bool) → i < size m
    → refusal_of (step (final m es) (at i (hand_back p iF sh))).result ≡ code_by (vcpu_at (final m es) i).phase (length p)
code_after m es i p iF sh h = code_of (final m es) i p iF sh (rw (size_final es m) h)

pub hand_back_mistakes : HandBackMistakes
hand_back_mistakes =
    record {
      left_exactly = left;
      not_again = once;
      by_book = λ m es i p iF sh h.
          code_after m es i p iF sh h
          ∙ ap (λ (r : BookRecord). code_by r.phase (length p)) (sym (record_book (final m es) i))
          ∙ ap (λ (w : Book). code_by (record_at w i).phase (length p)) (sym (follow_all es m));
      called_twice = λ n l es i p iF sh h.
          ap (λ (o : Option ℕ). eqb (unwrap_or o 0) 7) (code_after (start n l) es i p iF sh h)
          ∙ seven (vcpu_at (final (start n l) es) i).phase (length p)
          ∙ left (start n l) es i ∙ ap (λ (t : Bool). t || hands_back_in i (start n l) es) (none_left n l i h);
    }
