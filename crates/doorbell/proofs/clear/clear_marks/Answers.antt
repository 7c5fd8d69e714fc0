-- The bytes below 3 are kept, byte 3 is masked, and those from byte 4 on are zeroes.
use mathlib.Core.Path.{◌≡◌, refl, sym, subst, ◌∙◌}
use mathlib.Core.Bool.{Bool, not}
use mathlib.Core.List.{List}
use mathlib.Core.Logic.{⊎_elim}
use Prim.Native.Nat.{ℕ, ◌+◌, ◌*◌, ◌-◌, ◌<◌, ◌≤◌}
use borrow.Author.Rules.{rules}
use native.Mathlib.Omega.{arith}
use lib.Dec.{leb}
use lib.ListN.{length, get_or, set, length-set, replicate, length-replicate, length-drop, take, drop}
use lib.Seq.{get_or-set_same, get_or-set_other, length-take-le}
use lib.Bits.{bit_and}
use borrow.Author.Tests.{le-leb, lt-leb}
use Rattle.std.proofs.lemmas.List.{get_or-replicate}
use Rattle.vector_set.specs.Bits.{bit_at}
use Rattle.doorbell.specs.Clear.{clearing}
use Rattle.doorbell.proofs.Bytes.{place, spliced, spliced_length, spliced_before, spliced_in}
use Rattle.doorbell.proofs.ClearLaws.{Cleared, is_clearing, keeps, zeroes, masks, each8}
use Rattle.doorbell.proofs.clear.clear_marks.Goals as goal

abbrev mark : ℕ → Bool
mark k = leb 31 k

abbrev mask : List ℕ → ℕ
mask d = bit_and (get_or d 3 0) 127

module _ (d ys : List ℕ) (n : ℕ) {m : ℕ} (all : 4 + n ≡ length d) (same : m ≡ n) (zero : ys ≡ replicate m 0) where
  long : length ys ≡ n
  long = rw (zero, same) (length-replicate n 0)

  inside : 4 + n ≤ length (set d 3 (mask d))
  inside = simp length-set (omega (arith, all))

  abbrev pub after : List ℕ
  after = spliced (set d 3 (mask d)) 4 n ys

  before : (j : ℕ) → j < 4 → get_or after j 0 ≡ get_or (set d 3 (mask d)) j 0
  before j h = spliced_before (set d 3 (mask d)) 4 n ys inside long j h

  beyond : (j : ℕ) → 3 < j → j < length d → get_or after j 0 ≡ 0
  beyond j h l =
      let e : 4 + (j - 4) ≡ j = omega arith in
      let z : get_or ys (j - 4) 0 ≡ 0 = rw (zero, same) (get_or-replicate n (j - 4) 0 0 (omega (arith, all))) in
      rw e at (spliced_in (set d 3 (mask d)) 4 n ys inside long (j - 4) (omega (arith, all)) ∙ z)

  byte : (j : ℕ) → j < length d → get_or d j 0 < 256 → Cleared mark j (get_or d j 0) (get_or after j 0)
  byte j l s =
      ⊎_elim
      (λ (h : j < 3). rw (before j (omega arith), get_or-set_other d 3 j (mask d) 0 (λ (e : j ≡ 3). omega arith))
      (keeps mark j (get_or d j 0) s (λ b r. lt-leb 31 (8 * j + b) (omega arith))))
      (⊎_elim
      (λ (e : j ≡ 3). rw e (rw (before 3 (omega arith), get_or-set_same d 3 (mask d) 0 (omega arith))
      (masks mark 3 (get_or d 3 0) 127 (omega arith) (each8 (λ b. bit_at 127 b ≡ not (mark (8 * 3 + b))) refl refl refl refl refl refl refl refl))))
      (λ (h : 3 < j). subst (Cleared mark j (get_or d j 0)) (sym (beyond j h l)) (zeroes mark j (get_or d j 0) (λ b r. le-leb 31 (8 * j + b) (omega arith)))))
      (place j 3)

  pub marks_cleared : ((j : ℕ) → get_or d j 0 < 256) → after ≡ clearing mark d
  marks_cleared s =
      is_clearing mark d after
      (spliced_length (set d 3 (mask d)) 4 n ys inside long ∙ length-set d 3 (mask d)) (λ j l. byte j l (s j))

pub returns : goal.returns
returns c =
    let d = c.args.d.now in
    let marked = set d 3 (mask d) in
    let size : length d ≡ 32 = search rules in
    let long : length marked ≡ 32 = length-set d 3 (mask d) ∙ size in
    let lent : length (take 28 (drop 4 marked)) ≡ 28 = length-take-le 28 (drop 4 marked) (rw (length-drop 4 marked) (omega (arith, long))) in
    marks_cleared d c.fill.new.self 28 (omega (arith, size)) lent (c.fill.ensures.after (λ y k. search rules))
    (λ j. search rules)
