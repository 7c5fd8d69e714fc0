-- A text put behind a text is the two together put at once, and where there is room for a text it stands as it is.
-- Assumes nothing.
use Rattle.std.proofs.Common.{◌≡◌, ℕ, zero, suc, ◌+◌, ◌-◌, ◌<◌, ◌≤◌, List, [], ◌∷◌, ◌++◌, length, get_or, take, drop, set, sym, refl, ap, ◌∙◌, subst, add-one, arith, length-append, length-take, take_all, take-suc}
use Rattle.std.proofs.lemmas.List.{append_assoc}
use borrow.Rule.Slice.PartMut.{put_mid, Post-is}
use lib.Seq.{sets, sets-eq, take-nil}
use Rattle.console.specs.declared.buffer.Buffer.{Buffer}
use Rattle.console.specs.Filling.{fitting, filled, reached, Puts, Adds}

-- ---- lists
take_behind : (n : ℕ) (s t : List ℕ) → take n (s ++ t) ≡ take n s ++ take (n - length s) t
take_behind n [] t = let e : n - 0 ≡ n = omega arith in rw (e, take-nil)
take_behind zero (x ∷ s) t = let e : 0 - length (x ∷ s) ≡ 0 = omega arith in rw e
take_behind (suc n) (x ∷ s) t =
    let e : suc n - length (x ∷ s) ≡ n - length s = omega arith in
    ap (λ (l : List ℕ). x ∷ l) (take_behind n s t) ∙ rw e refl

sets_behind : (l : List ℕ) (i : ℕ) (s t : List ℕ) → sets l i (s ++ t) ≡ sets (sets l i s) (i + length s) t
sets_behind l i [] t = let e : i + 0 ≡ i = omega arith in rw e
sets_behind l i (x ∷ s) t =
    let e : suc i + length s ≡ i + length (x ∷ s) = omega arith in sets_behind (set l i x) (suc i) s t ∙ rw e refl

-- ---- texts
module _ {room : ℕ} where
  pub puts_none : (o : List ℕ) (a : ℕ) → Puts room [] o a o a
  unfolding filled reached fitting
  puts_none o a =
      let e : a ≡ a + 0 = omega arith in
      let n : take (room - a) [] ≡ [] = take-nil (room - a) in
      record { stored = ap (sets o a) (sym n); behind = e ∙ ap (λ (s : List ℕ). a + length s) (sym n) }

  -- what is put into a full buffer is lost
  pub puts_out : (s o : List ℕ) (a : ℕ) → room ≤ a → Puts room s o a o a
  unfolding filled reached fitting
  puts_out s o a h =
      let z : room - a ≡ 0 = omega arith in
      let e : a ≡ a + 0 = omega arith in
      record { stored = ap (λ (n : ℕ). sets o a (take n s)) (sym z); behind = e ∙ ap (λ (n : ℕ). a + length (take n s)) (sym z) }

  -- the text is copied to a part of the bytes, as much of it as there is room for
  pub puts_part : (text bytes fit copied : List ℕ) (at : ℕ) → at < room → length bytes ≡ room → fit ≡ take (room - at) text → copied ≡ fit
      → Puts room text bytes at (put_mid at (at + length fit - at) bytes copied) (at + length fit)
  unfolding filled reached fitting
  puts_part text bytes fit copied at h l f e =
      let n : length fit ≡ length (take (room - at) text) = ap length f in
      record {
        stored =
            ap (put_mid at (at + length fit - at) bytes) e
            ∙ ap (λ (s : List ℕ). take at bytes ++ (fit ++ s)) (Post-is at (at + length fit) bytes (omega arith))
            ∙ sym (append_assoc (take at bytes) fit (drop (at + length fit) bytes))
            ∙ sym (sets-eq fit bytes at (omega (arith, h, l, n, length-take (room - at) text)))
            ∙ ap (sets bytes at) f;
        behind = ap (λ (s : List ℕ). at + length s) f;
      }

  pub puts_byte : (b : ℕ) (o : List ℕ) (a : ℕ) → a < room → Puts room (b ∷ []) o a (set o a b) (a + 1)
  unfolding filled reached fitting
  puts_byte b o a h =
      let e : take (room - a) (b ∷ []) ≡ b ∷ [] = take_all (room - a) (b ∷ []) (omega arith) in
      record { stored = ap (sets o a) (sym e); behind = ap (λ (s : List ℕ). a + length s) (sym e) }

  -- a text, and another behind it
  pub puts_more : {s t o o' o'' : List ℕ} {a a' a'' : ℕ} → Puts room s o a o' a' → Puts room t o' a' o'' a'' → Puts room (s ++ t) o a o'' a''
  unfolding filled reached fitting
  puts_more {s} {t} {o} {o'} {o''} {a} {a'} {a''} p q =
      let k : room - a' ≡ (room - a) - length s = omega (arith, p.behind, length-take (room - a) s) in
      let w : take (room - a) (s ++ t) ≡ take (room - a) s ++ take (room - a') t =
      take_behind (room - a) s t ∙ ap (λ (n : ℕ). take (room - a) s ++ take n t) (sym k) in
      record {
        stored =
            q.stored
            ∙ ap (λ (l : List ℕ). sets l a' (take (room - a') t)) p.stored
            ∙ ap (λ (n : ℕ). sets (sets o a (take (room - a) s)) n (take (room - a') t)) p.behind
            ∙ sym (ap (sets o a) w ∙ sets_behind o a (take (room - a) s) (take (room - a') t));
        behind =
            let l : length (take (room - a) (s ++ t)) ≡ length (take (room - a) s) + length (take (room - a') t) =
            ap length w ∙ length-append (take (room - a) s) (take (room - a') t) in
            omega (arith, p.behind, q.behind, l);
      }

  pub puts_same : {s t o o' : List ℕ} {a a' : ℕ} → s ≡ t → Puts room s o a o' a' → Puts room t o a o' a'
  puts_same {s} {t} {o} {o'} {a} {a'} e p = subst (λ (u : List ℕ). Puts room u o a o' a') e p

  -- the text of what a value is known to be
  pub puts_of : {T : Type 0} (f : T → List ℕ) {x y : T} {o o' : List ℕ} {a a' : ℕ} → x ≡ y → Puts room (f y) o a o' a' → Puts room (f x) o a o' a'
  puts_of f e p = puts_same (ap f (sym e)) p

  -- the same, under another name of what is left
  pub adds_as : {s : List ℕ} {b b' b'' : Buffer room} → b'' ≡ b' → Adds s b b' → Adds s b b''
  adds_as {s} {b} e p = subst (λ (o : Buffer room). Adds s b o) (sym e) p

  -- where there is room for it all, the text stands from its place on, and what is before and behind it is as it was
  pub puts_fits : {s o o' : List ℕ} {a a' : ℕ} → length o ≡ room → a + length s ≤ room → Puts room s o a o' a'
      → (o' ≡ take a o ++ s ++ drop (a + length s) o) × (a' ≡ a + length s)
  unfolding filled reached fitting
  puts_fits {s} {o} {o'} {a} {a'} e h p =
      let w : take (room - a) s ≡ s = take_all (room - a) s (omega arith) in (
        p.stored ∙ ap (sets o a) w ∙ sets-eq s o a (omega (arith, e)),
        p.behind ∙ ap (λ (l : List ℕ). a + length l) w,
      )

  -- ---- a loop that puts a text byte by byte: a turn, also by what it stored, and the end
  pub turn_put : (text : List ℕ) {o o' o'' : List ℕ} {a a' a'' : ℕ} (i : ℕ) → i < length text → Puts room (take i text) o a o' a'
      → Puts room (get_or text i 0 ∷ []) o' a' o'' a'' → Puts room (take (i + 1) text) o a o'' a''
  turn_put text {o} {o'} {o''} {a} {a'} {a''} i h p q = puts_same (sym (ap (λ (n : ℕ). take n text) (add-one i) ∙ take-suc text i 0 h)) (puts_more p q)

  pub turn_stored : (text : List ℕ) {o o' : List ℕ} {a a' : ℕ} (i : ℕ) → i < length text → a' < room → Puts room (take i text) o a o' a'
      → Puts room (take (i + 1) text) o a (set o' a' (get_or text i 0)) (a' + 1)
  turn_stored text {o} {o'} {a} {a'} i h r p = turn_put text i h p (puts_byte (get_or text i 0) o' a' r)

  pub turn_lost : (text : List ℕ) {o o' : List ℕ} {a a' : ℕ} (i : ℕ) → i < length text → room ≤ a' → Puts room (take i text) o a o' a'
      → Puts room (take (i + 1) text) o a o' a'
  turn_lost text {o} {o'} {a} {a'} i h r p = turn_put text i h p (puts_out (get_or text i 0 ∷ []) o' a' r)

  pub all_put : {text o o' : List ℕ} {a a' i : ℕ} → Puts room (take i text) o a o' a' → length text ≤ i → Puts room text o a o' a'
  all_put {text} {o} {o'} {a} {a'} {i} p h = puts_same (take_all i text h) p
