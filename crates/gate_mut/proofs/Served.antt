-- The test of a vCPU's number by the count that the module is answered with.
--     within, beyond      the number is below the count; it is not
--     has_record, there   a vCPU of the module has a record in the array
--     off, on             what a test of `!b` says of b
-- Assumes nothing.
use mathlib.Core.Path.{◌≡◌, refl, ◌∙◌}
use mathlib.Core.Bool.{Bool, true, false, not}
use Prim.Native.Nat.{ℕ, ◌<◌, ◌≤◌}
use native.Mathlib.Omega.{arith}
use lib.ListN.{length}
use borrow.Struct.Parts.{StructFacts}
use Rattle.vector_set.proofs.BitLaws.{clash}
use Rattle.model.specs.declared.Module.{Module}
use Rattle.model.specs.contracts.Module as modules
use Rattle.model.proofs.Module.TheLaws as of_modules
use Rattle.model.specs.State.{served_count, size}
use Rattle.model.proofs.Stored.{size_le}
use Rattle.gate_mut.proofs.Sized.{long}

size_is : (m : Module) → served_count m.n m.vmpl ≡ size m
unfolding size
size_is m = refl

module _ (m : Module) (i : ℕ) where
  pub within : {n : ℕ} → n ≡ served_count m.n m.vmpl → i < n → i < size m
  within e h = omega (arith, e, size_is m)

  pub beyond : {n : ℕ} → n ≡ served_count m.n m.vmpl → n ≤ i → size m ≤ i
  beyond e h = omega (arith, e, size_is m)

  pub has_record : i < size m → i < 32
  has_record h = omega (arith, size_le m)

  pub there : StructFacts modules.the_type of_modules.the_maybe m → i < size m → i < length m.vcpus
  there fits h = omega (arith, size_le m, long m fits)

pub counted : (m : Module) {n : ℕ} → n ≡ served_count m.n m.vmpl → n ≡ size m
counted m e = e ∙ size_is m

pub off : (b : Bool) → not b ≡ true → b ≡ false
off true e = clash (cc)
off false e = refl

pub on : (b : Bool) → not b ≡ false → b ≡ true
on true e = refl
on false e = clash (cc)
