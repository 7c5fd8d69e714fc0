-- One value of a list, by the tests of the code, and a list value by value: the codes written so far, and what the values that are left do.
-- Assumes nothing.
use mathlib.Core.Path.{◌≡◌, refl, sym, ap, ◌∙◌}
use mathlib.Core.Bool.{Bool, true, false, cond, ◌||◌}
use mathlib.Core.List.{List, ◌++◌, map}
use Prim.Native.Nat.{ℕ, suc, ◌+◌, ◌-◌, ◌/◌, ◌%◌, ◌^◌, ◌<◌, ◌≤◌}
use native.Mathlib.Omega.{arith}
use native.Mathlib.Numerals.{add-one}
use lib.Bits.{bit_and, bit_or}
use lib.ListN.{length, get_or, take, drop, set, length-map, get_or-map}
use lib.Seq.{drop-cons, drop-length, take-suc, take_all, length-take-le, set_at, append_snoc}
use Rattle.model.specs.declared.Refusal.TheVariants.{BadParameter}
use Rattle.model.specs.Codes.{code_of}
use Rattle.model.specs.Requests.{nameable}
use Rattle.vector_set.specs.Bits.{bit_at}
use Rattle.vector_set.specs.Sets.{insert, remove, Words}
use Rattle.vector_set.proofs.Laws.{words_insert, words_remove}
use Rattle.vector_set.proofs.WordLaws.{insert_bit, remove_bit}
use Rattle.vcpu_allow.specs.Values.{value_code, permitted, permitted_word, permitted_all, some_nameable, codes_in}

-- ---- one value
module _ (c : ℕ) (s : List ℕ) where
  pub set_kept : nameable c ≡ false → s ≡ permitted c s
  unfolding permitted
  set_kept e = sym (ap (λ (b : Bool). cond b (cond (bit_at c 8) (insert (c % 256) s) (remove (c % 256) s)) s) e)

  -- the word of its vector stored
  pub set_changed : nameable c ≡ true → Words s → set s (c % 256 / 32) (permitted_word c (get_or s (c % 256 / 32) 0)) ≡ permitted c s
  unfolding permitted_word permitted
  set_changed e w = rw e (go (bit_at c 8))
    where
      x : ℕ
      x = get_or s (c % 256 / 32) 0

      go : (b : Bool) → set s (c % 256 / 32) (cond b (bit_or x (2 ^ (c % 256 % 32))) (bit_and x (2 ^ 32 - 1 - 2 ^ (c % 256 % 32))))
          ≡ cond b (insert (c % 256) s) (remove (c % 256) s)
      go true = insert_bit s (c % 256) w (omega arith)
      go false = remove_bit s (c % 256) w (omega arith)

  pub words_permitted : Words s → Words (permitted c s)
  unfolding permitted
  words_permitted w = go (nameable c) (bit_at c 8)
    where
      go : (n b : Bool) → Words (cond n (cond b (insert (c % 256) s) (remove (c % 256) s)) s)
      go true true = words_insert (c % 256) s
      go true false = words_remove (c % 256) s
      go false b = w

-- the code 0 says that it is accepted
pub code_zero : (c : ℕ) → value_code c ≡ 0 → nameable c ≡ true
unfolding value_code
code_zero c = go (nameable c)
  where
    go : (n : Bool) → cond n 0 (code_of BadParameter) ≡ 0 → n ≡ true
    go true e = refl
    go false e = let z : ⊥ = omega arith in absurd z

pub code_other : (c : ℕ) → (value_code c ≡ 0 → ⊥) → nameable c ≡ false
unfolding value_code
code_other c = go (nameable c)
  where
    go : (n : Bool) → (cond n 0 (code_of BadParameter) ≡ 0 → ⊥) → n ≡ false
    go true e = absurd (e refl)
    go false e = refl

-- ---- value by value: k of the values xs are done
module _ (xs : List ℕ) (k : ℕ) (l : k < length xs) where
  -- the store of a turn
  pub code_stored : (d : List ℕ) → length xs ≤ length d
      → set (take k (map value_code xs) ++ drop k d) k (value_code (get_or xs k 0)) ≡ take (k + 1) (map value_code xs) ++ drop (k + 1) d
  code_stored d h =
      let s = map value_code xs in
      let m : k < length s = omega (arith, length-map xs value_code) in
      let x = get_or s k (value_code 0) in
      rw (add-one k, ← get_or-map value_code xs k 0)
      (ap (λ (r : List ℕ). set (take k s ++ r) k x) (drop-cons d k 0 (omega arith))
      ∙ set_at (take k s) (get_or d k 0) (drop (suc k) d) x k (length-take-le k s (omega arith))
      ∙ sym (append_snoc (take k s) x (drop (suc k) d))
      ∙ ap (λ (r : List ℕ). r ++ drop (suc k) d) (sym (take-suc s k (value_code 0) m)))

  pub set_left : (s : List ℕ) → permitted_all (drop k xs) s ≡ permitted_all (drop (k + 1) xs) (permitted (get_or xs k 0) s)
  unfolding permitted_all
  set_left s = rw (add-one k, drop-cons xs k 0 l)

  pub some_left : some_nameable (drop k xs) ≡ (nameable (get_or xs k 0) || some_nameable (drop (k + 1) xs))
  unfolding some_nameable
  some_left = rw (add-one k, drop-cons xs k 0 l)

-- all of them are done
module _ (xs : List ℕ) (k : ℕ) (l : k ≡ length xs) where
  pub codes_all : (d : List ℕ) → take k (map value_code xs) ++ drop k d ≡ codes_in xs d
  unfolding codes_in
  codes_all d = rw l (ap (λ (s : List ℕ). s ++ drop (length xs) d) (take_all (length xs) (map value_code xs) (omega (arith, length-map xs value_code))))

  pub set_all : (s : List ℕ) → permitted_all (drop k xs) s ≡ s
  unfolding permitted_all
  set_all s = rw (l, drop-length xs)

  pub some_all : some_nameable (drop k xs) ≡ false
  unfolding some_nameable
  some_all = rw (l, drop-length xs)
