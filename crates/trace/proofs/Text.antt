-- The words of a text one after the other, by the places where each begins and ends.
-- Assumes nothing.
use mathlib.Core.Path.{◌≡◌, refl, sym, ap, ◌∙◌}
use mathlib.Core.Bool.{Bool, true, false, cond}
use mathlib.Core.List.{List, [], ◌∷◌, ◌++◌, append_assoc, append-nil}
use Prim.Native.Nat.{ℕ, suc, ◌+◌, ◌-◌, ◌≤◌, ◌<◌}
use Rattle.std.specs.Prelude.{Some, None, not}
use Rattle.std.specs.List.{position, position_or_len}
use Rattle.std.proofs.lemmas.List.Recursion.{is_position_or_len}
use Rattle.std.proofs.lemmas.Option.{cond_some}
use native.Mathlib.Omega.{arith}
use native.Mathlib.Numerals.{one-add}
use lib.Dec.{eqb, ltb}
use lib.ListN.{length, take, drop, length-drop}
use Rattle.std.proofs.lemmas.List.{length-take-le, drop-take, take_rest}
use lib.Seq.{take-length}
use borrow.Author.Tests.{ltb-true, ltb-false}
use Rattle.trace.specs.Bytes.{slice, index_of}
use Rattle.trace.specs.Words.{is_space, spaces, ending, words_after, words}

-- ---- what a search passes
-- the first place that passes a test, by what `position` answers
module _ (p : ℕ → Bool) (s : List ℕ) where
  placed_some : (k : ℕ) → Some k ≡ position p s → (position_or_len p s ≡ k) × (k < length s)
  placed_some k e = let h = cond_some _ _ _ (sym e) in (h.1, rw (← h.1) (ltb-true _ _ h.0))

  placed_none : None ≡ position p s → length s ≤ position_or_len p s
  placed_none e = go (ltb (position_or_len p s) (length s)) refl e
    where
      go : (t : Bool) → ltb (position_or_len p s) (length s) ≡ t → None ≡ cond t (Some (position_or_len p s)) None → length s ≤ position_or_len p s
      go true h q = cc
      go false h q = ltb-false _ _ h

index_position : (b : ℕ) (s : List ℕ) → index_of b s ≡ position_or_len (λ x. eqb x b) s
unfolding index_of
index_position b s = is_position_or_len (index_of b) (λ x. eqb x b) refl (λ x xs. rw one-add) s

spaces_position : (s : List ℕ) → spaces s ≡ position_or_len (λ x. not (eqb x 32)) s
unfolding spaces
spaces_position s = is_position_or_len spaces (λ x. not (eqb x 32)) refl (λ x xs. by_test (is_space x) (spaces xs)) s
  where
    by_test : (t : Bool) (n : ℕ) → cond t (suc n) 0 ≡ cond (not t) 0 (1 + n)
    by_test true n = rw one-add
    by_test false n = refl

pub index_bound : (b : ℕ) (s : List ℕ) → index_of b s ≤ length s
unfolding index_of
index_bound b [] = omega arith
index_bound b (x ∷ s) = go (eqb x b) (index_bound b s)
  where
    go : (t : Bool) → index_of b s ≤ length s → cond t 0 (suc (index_of b s)) ≤ suc (length s)
    go true h = omega arith
    go false h = omega arith

pub found : (b : ℕ) (s : List ℕ) (k : ℕ) → Some k ≡ position (λ x. eqb x b) s → (k ≡ index_of b s) × (k < length s)
found b s k e = let h = placed_some _ s k e in (sym (index_position b s ∙ h.0), h.1)

pub not_found : (b : ℕ) (s : List ℕ) → None ≡ position (λ x. eqb x b) s → length s ≡ index_of b s
not_found b s e = omega (arith, index_bound b s, index_position b s, placed_none _ s e)

-- a stretch of a text, as code takes it
module _ (b from to : ℕ) (s : List ℕ) where
  pub stretch : from ≤ to → index_of b (take (to - from) (drop from s)) ≡ index_of b (slice from to s)
  unfolding slice
  stretch h =
      let e : to ≡ from + (to - from) = omega arith in
      ap (index_of b) (sym (drop-take from (to - from) s) ∙ ap (λ (n : ℕ). drop from (take n s)) (sym e))

pub stretch_length : (from to : ℕ) (s : List ℕ) → to ≤ length s → length (take (to - from) (drop from s)) ≡ to - from
stretch_length from to s h = length-take-le (to - from) (drop from s) (omega (arith, length-drop from s))

-- what `scan::find` answers in a whole text
pub found_in : (s : List ℕ) (b r : ℕ) → r ≡ 0 + index_of b (slice 0 (length s) s) → r ≡ index_of b s
unfolding slice
found_in s b r e = let h : r ≡ 0 + index_of b s = e ∙ ap (λ (t : List ℕ). 0 + index_of b t) (take-length s) in omega arith

-- ---- words
-- a word that has begun goes on to the next space
abbrev Begun : List ℕ → List ℕ → Type 0
Begun w s = words_after w s ≡ ending (w ++ take (index_of 32 s) s) (words (drop (index_of 32 s) s))

words_after_lem : (w s : List ℕ) → Begun w s
unfolding words_after words index_of ending
words_after_lem w [] = rw append-nil
words_after_lem w (b ∷ s) = go (is_space b) refl (words_after_lem (w ++ b ∷ []) s)
  where
    go : (t : Bool) → is_space b ≡ t → Begun (w ++ b ∷ []) s → Begun w (b ∷ s)
    go true e h = rw (e, append-nil) (rw e)
    go false e h = rw e (h ∙ rw append_assoc)

-- the text from its first word on, that word, and what follows it
abbrev start : List ℕ → List ℕ
start s = drop (spaces s) s

abbrev word : List ℕ → List ℕ
word s = take (index_of 32 (start s)) (start s)

abbrev beyond : List ℕ → List ℕ
beyond s = drop (index_of 32 (start s)) (start s)

data Next (s : List ℕ) : Type 0 where
  blank : spaces s ≡ length s → words s ≡ [] → Next s
  begins : spaces s < length s → words s ≡ word s ∷ words (beyond s) → Next s

next : (s : List ℕ) → Next s
unfolding words words_after spaces index_of ending
next [] = blank refl refl
next (b ∷ s) = go (is_space b) refl (next s)
  where
    go : (t : Bool) → is_space b ≡ t → Next s → Next (b ∷ s)
    go true e (blank k w) = blank (rw e (ap suc k)) (rw e w)
    go true e (begins k w) = begins (rw e (omega arith)) (rw e w)
    go false e n = begins (rw e (omega arith)) (rw e (rw e (words_after_lem (b ∷ []) s)))

-- what is left of a list from place n on, as code takes it
abbrev pub onward : ℕ → List ℕ → List ℕ
onward n s = take (length s - n) (drop n s)

-- the first word of the text s begins at `from`, and ends at the next space; the other words stand behind it
pub first_word : (s : List ℕ) (from to : ℕ) → Some from ≡ position (λ x. not (eqb x 32)) s
    → to ≡ 0 + index_of 32 (slice 0 (length (onward from s)) (onward from s)) → words s ≡ take to (onward from s) ∷ words (onward to (onward from s))
first_word s from to f g = go (next s) ∙ ap (λ (t : List ℕ). take to (onward from s) ∷ words t) (sym (take_rest (onward from s) to))
  where
    p : (spaces s ≡ from) × (from < length s)
    p = let h = placed_some _ s from f in (spaces_position s ∙ h.0, h.1)

    go : Next s → words s ≡ take to (onward from s) ∷ words (drop to (onward from s))
    go (blank k w) = let z : ⊥ = omega (arith, p) in absurd z
    go (begins k w) =
        let e : start s ≡ onward from s = ap (λ (n : ℕ). drop n s) p.0 ∙ sym (take_rest s from) in
        rw (found_in (onward from s) 32 to g, ← e) w

pub no_word : (s : List ℕ) → None ≡ position (λ x. not (eqb x 32)) s → words s ≡ []
no_word s f = go (next s)
  where
    go : Next s → words s ≡ []
    go (blank k w) = w
    go (begins k w) = let z : ⊥ = omega (arith, spaces_position s, placed_none _ s f) in absurd z
