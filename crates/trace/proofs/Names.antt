-- When words are the same, byte by byte.
-- Assumes nothing.
use Rattle.std.proofs.Common.{◌≡◌, refl, sym, ap, ◌∙◌, Bool, true, false, cond, ◌&&◌, List, [], ◌∷◌, ℕ, suc, ◌≤◌, ◌<◌, length, get_or, drop, drop-cons, eqb, ltb, Option, Some, None, arith}
use mathlib.Core.Bool.{and-false}
use lib.ListN.{drop_of_length-le}
use borrow.Author.Tests.{ltb-true, ltb-false, eq-eqb, ne_eqb, eqb-false, eqb-true}
use Prim.Native.String.{String}
use Rattle.trace.specs.declared.Name.{Name}
use Rattle.trace.specs.declared.Name.TheVariants as name
use Rattle.trace.specs.Words.{ascii, same}
use Rattle.trace.specs.Lines.{name_in, name_of}

-- the bytes of a from place i on are those of b, and there are no more
abbrev pub agrees : List ℕ → ℕ → List ℕ → Bool
agrees a i [] = eqb (length a) i
agrees a i (x ∷ b) = eqb (get_or a i 0) x && agrees a (suc i) b

ended : (a : List ℕ) (i : ℕ) (b : List ℕ) → length a < i → agrees a i b ≡ false
ended a i [] h = ne_eqb (length a) i (λ (q : length a ≡ i). omega arith)
ended a i (x ∷ b) h = rw (ended a (suc i) b (omega arith)) (and-false (eqb (get_or a i 0) x))

same_from : (a : List ℕ) (i : ℕ) (b : List ℕ) → i ≤ length a → same (drop i a) b ≡ agrees a i b
unfolding same
same_from a i [] h = go (ltb i (length a)) refl
  where
    go : (t : Bool) → ltb i (length a) ≡ t → same (drop i a) [] ≡ eqb (length a) i
    go true e =
        let l : i < length a = ltb-true i (length a) e in
        rw (drop-cons a i 0 l, ne_eqb (length a) i (λ (q : length a ≡ i). omega arith))
    go false e =
        let l : length a ≤ i = ltb-false i (length a) e in
        rw (drop_of_length-le a l, eq-eqb (length a) i (omega arith))
same_from a i (x ∷ b) h = go (ltb i (length a)) refl (λ l. same_from a (suc i) b l)
  where
    go : (t : Bool) → ltb i (length a) ≡ t → (suc i ≤ length a → same (drop (suc i) a) b ≡ agrees a (suc i) b)
        → same (drop i a) (x ∷ b) ≡ eqb (get_or a i 0) x && agrees a (suc i) b
    go true e f =
        let l : i < length a = ltb-true i (length a) e in
        rw (drop-cons a i 0 l, f (omega arith))
    go false e f =
        let l : length a ≤ i = ltb-false i (length a) e in
        rw (drop_of_length-le a l, ended a (suc i) b (omega arith), and-false (eqb (get_or a i 0) x))

same_length : (a b : List ℕ) → same a b ≡ true → length a ≡ length b
unfolding same
same_length [] [] e = refl
same_length [] (y ∷ b) e = cc
same_length (x ∷ a) [] e = cc
same_length (x ∷ a) (y ∷ b) e = go (eqb x y) e (λ h. same_length a b h)
  where
    go : (t : Bool) → t && same a b ≡ true → (same a b ≡ true → length a ≡ length b) → suc (length a) ≡ suc (length b)
    go true e f = ap suc (f e)
    go false e f = cc

same_agrees : (a b : List ℕ) → same a b ≡ eqb (length a) (length b) && agrees a 0 b
same_agrees a b = go (eqb (length a) (length b)) refl (same a b) refl
  where
    go : (t : Bool) → eqb (length a) (length b) ≡ t → (u : Bool) → same a b ≡ u → same a b ≡ t && agrees a 0 b
    go true e u f = same_from a 0 b (omega arith)
    go false e true f = absurd (eqb-false (length a) (length b) e (same_length a b f))
    go false e false f = f

-- the name of a word, by its length first
module _ (w : List ℕ) where
  abbrev pub is : String → Bool
  is n = agrees w 0 (ascii n)

  abbrev pub told : Option Name
  told =
      cond (eqb (length w) 3) (cond (is "ask") (Some name.Ask) None)
      (cond (eqb (length w) 4) (cond (is "call") (Some name.Call) None)
      (cond (eqb (length w) 5) (cond (is "start") (Some name.Start) (cond (is "entry") (Some name.Entry) (cond (is "allow") (Some name.Allow) (cond (is "state") (Some name.State) None))))
      (cond (eqb (length w) 6) (cond (is "notice") (Some name.Notice) None)
      (cond (eqb (length w) 8) (cond (is "handback") (Some name.HandBack) None)
      (cond (eqb (length w) 11) (cond (is "nondelivery") (Some name.NonDelivery) None) None)))))

  -- the tests by length, in which a word has one length or none of them
  by_length : (a b c d e f : Bool) → eqb (length w) 3 ≡ a → eqb (length w) 4 ≡ b → eqb (length w) 5 ≡ c → eqb (length w) 6 ≡ d → eqb (length w) 8 ≡ e
      → eqb (length w) 11 ≡ f → name_of w ≡ told
  unfolding name_in
  by_length true b c d e f p q r s t u = let z : length w ≡ 3 = eqb-true (length w) 3 p in simp (same_agrees, z)
  by_length false true c d e f p q r s t u = let z : length w ≡ 4 = eqb-true (length w) 4 q in simp (same_agrees, z)
  by_length false false true d e f p q r s t u = let z : length w ≡ 5 = eqb-true (length w) 5 r in simp (same_agrees, z)
  by_length false false false true e f p q r s t u = let z : length w ≡ 6 = eqb-true (length w) 6 s in simp (same_agrees, z)
  by_length false false false false true f p q r s t u = let z : length w ≡ 8 = eqb-true (length w) 8 t in simp (same_agrees, z)
  by_length false false false false false true p q r s t u = let z : length w ≡ 11 = eqb-true (length w) 11 u in simp (same_agrees, z)
  by_length false false false false false false p q r s t u = simp (same_agrees, p, q, r, s, t, u)

  pub name_told : name_of w ≡ told
  name_told = by_length _ _ _ _ _ _ refl refl refl refl refl refl

-- ---- a word that is no name
-- the bytes of a from place i on are those of b, and there are no more
abbrev pub Spells : List ℕ → ℕ → List ℕ → Type 0
Spells a i [] = length a ≡ i
Spells a i (x ∷ b) = (get_or a i 0 ≡ x) × Spells a (suc i) b

spelled : (a : List ℕ) (i : ℕ) (b : List ℕ) → agrees a i b ≡ true → Spells a i b
spelled a i [] e = eqb-true (length a) i e
spelled a i (x ∷ b) e = go (eqb (get_or a i 0) x) refl e (λ h. spelled a (suc i) b h)
  where
    go : (t : Bool) → eqb (get_or a i 0) x ≡ t → t && agrees a (suc i) b ≡ true → (agrees a (suc i) b ≡ true → Spells a (suc i) b)
        → (get_or a i 0 ≡ x) × Spells a (suc i) b
    go true p q f = (eqb-true (get_or a i 0) x p, f q)
    go false p q f = cc

module _ (w : List ℕ) where
  abbrev pub No : String → Type 0
  No n = Spells w 0 (ascii n) → ⊥

  miss : (b : List ℕ) → (Spells w 0 b → ⊥) → same w b ≡ false
  miss b f = go (same w b) refl
    where
      go : (t : Bool) → same w b ≡ t → same w b ≡ false
      go true e = absurd (f (spelled w 0 b (sym (same_from w 0 b (omega arith)) ∙ e)))
      go false e = e

  pub unknown : No "start" → No "notice" → No "call" → No "entry" → No "nondelivery" → No "handback" → No "allow" → No "ask" → No "state" → None ≡ name_of w
  unfolding name_in
  unknown a b c d e f g h i =
      rw (miss (ascii "start") a, miss (ascii "notice") b, miss (ascii "call") c, miss (ascii "entry") d, miss (ascii "nondelivery") e, miss (ascii "handback") f, miss (ascii "allow") g, miss (ascii "ask") h, miss (ascii "state") i)
