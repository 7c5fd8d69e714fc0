-- How the values of a list that were read answer to the definition: the words that are left go on as the reader does.
-- Assumes nothing.
use mathlib.Core.Path.{◌≡◌, refl, sym, ap, ◌∙◌}
use mathlib.Core.Bool.{Bool, true, false, cond, and-false}
use mathlib.Core.List.{List, [], ◌∷◌, ◌++◌, map}
use Prim.Native.Nat.{ℕ, ◌+◌, ◌≤◌, ◌<◌}
use native.Mathlib.Omega.{arith}
use native.Mathlib.Numerals.{add-one}
use lib.Dec.{leb}
use lib.ListN.{length, take, set}
use lib.Seq.{take-suc-set, append_snoc}
use borrow.Author.Tests.{lt-leb, le-leb}
use Rattle.std.specs.Prelude.{Option, Some, None}
use Rattle.trace.specs.Numbers.{max32, number_of, up_to}
use Rattle.trace.specs.Lists.{max_list, is_value, are_values, count_of}

-- ---- one value
up_to_value : (n : Option ℕ) → up_to max32 n ≡ cond (is_value n) n None
unfolding up_to is_value
up_to_value (Some v) = refl
up_to_value None = refl

value : (n : Option ℕ) (v : ℕ) → up_to max32 n ≡ Some v → (is_value n ≡ true) × (n ≡ Some v)
value n v e = go (is_value n) refl (sym (up_to_value n) ∙ e)
  where
    go : (t : Bool) → is_value n ≡ t → cond t n None ≡ Some v → (is_value n ≡ true) × (n ≡ Some v)
    go true h g = (h, g)
    go false h g = cc

no_value : (n : Option ℕ) → up_to max32 n ≡ None → is_value n ≡ false
unfolding is_value
no_value None e = refl
no_value (Some v) e = go (leb v max32) refl (sym (up_to_value (Some v)) ∙ e)
  where
    go : (t : Bool) → leb v max32 ≡ t → cond t (Some v) None ≡ None → leb v max32 ≡ false
    go true h g = cc
    go false h g = h

map_append : {A B : Type 0} (f : A → B) (xs ys : List A) → map f (xs ++ ys) ≡ map f xs ++ map f ys
map_append f [] ys = refl
map_append f (x ∷ xs) ys = ap (λ zs. f x ∷ zs) (map_append f xs ys)

-- ---- k of the words ws are in vs, and the words us are left
pub record Reached (ws : List (List ℕ)) (k : ℕ) (vs : List ℕ) (us : List (List ℕ)) : Type 0 where
  pub long : length ws ≡ k + length us
  pub valid : are_values ws ≡ are_values us
  pub same : map number_of ws ≡ map Some (take k vs) ++ map number_of us

module _ (ws us ts : List (List ℕ)) (w : List ℕ) (k : ℕ) (vs : List ℕ) (r : Reached ws k vs us) (e : us ≡ w ∷ ts) where
  -- the next word is a value
  pub one_more : (v : ℕ) → k < length vs → up_to max32 (number_of w) ≡ Some v → Reached ws (k + 1) (set vs k v) ts
  unfolding are_values
  one_more v l f =
      record {
        long = omega (arith, r.long, ap length e);
        valid = r.valid ∙ rw (e, (value (number_of w) v f).0);
        same = r.same ∙ rw (e, (value (number_of w) v f).1, add-one, take-suc-set vs k v l, map_append, append_snoc);
      }

  -- it is none
  pub no_more : up_to max32 (number_of w) ≡ None → None ≡ count_of ws
  unfolding are_values count_of
  no_more f =
      rw (r.valid, e, no_value (number_of w) f, and-false)

  -- there is no room for it
  pub too_many_lem : k ≡ max_list → None ≡ count_of ws
  unfolding count_of
  too_many_lem h = rw (lt-leb (length ws) max_list (omega (arith, r.long, ap length e)))

module _ (ws us : List (List ℕ)) (k : ℕ) (vs : List ℕ) (r : Reached ws k vs us) (e : us ≡ []) where
  pub all_counted : k ≤ max_list → Some k ≡ count_of ws
  unfolding count_of are_values
  all_counted h =
      let n : length ws ≡ k = omega (arith, r.long, ap length e) in
      rw (n, r.valid, e, le-leb k max_list h)
