-- What a descriptor asks for beside its marks, from what the code reads of it. Assumes nothing.
use mathlib.Core.Path.{◌≡◌}
use mathlib.Core.Bool.{Bool, cond, ◌&&◌}
use mathlib.Core.List.{List}
use Prim.Native.Nat.{ℕ, ◌/◌}
use Rattle.vector_set.specs.Sets.{has}
use Rattle.model.specs.Doorbell.{bit_of, level_bit, many_bit, vector_field, nmi_bit, machine_check_bit, admits_mark}
use Rattle.descriptor.specs.Requests.{Asked, single_bit, level_of, requested_in}

module _ (a d : List ℕ) where
  pub level_bits : {s l : ℕ} {t : Bool} → t ≡ bit_of d level_bit → s ≡ single_bit a (vector_field d) → l ≡ cond t s 0 → l ≡ level_of a d
  unfolding level_of
  level_bits p q e = rw (← p, ← q) e

  -- an item with a bit of byte 1
  pub admitted_is : (k x : ℕ) {n t : Bool} → t ≡ bit_of d k → n ≡ (t && has a x) → n ≡ admits_mark k x a d
  unfolding admits_mark
  admitted_is k x p e = rw (← p) e

  pub request_is : {n c : Bool} {w s l : ℕ} (m : Bool) → bit_of d many_bit ≡ m → n ≡ admits_mark nmi_bit 2 a d
      → c ≡ admits_mark machine_check_bit 18 a d → w ≡ vector_field d / 32 → s ≡ single_bit a (vector_field d) → l ≡ level_of a d
      → ◌≡◌ {A = Asked} (record { posting = record { nmi = n; machine_check = c; word = w; bits = cond m l s }; level = l; many = m })
      (requested_in a d)
  unfolding requested_in
  request_is m e p t k q r = rw (e, k, ← p, ← t, ← q, ← r)
