use Prim.Native.Nat.{◌<◌, ◌^◌}
use mathlib.Core.Path.{◌≡◌}
use lib.ListN.{drop}
use Rattle.trace.specs.Numbers.{digits_from}
use Rattle.trace.proofs.numbers.digits_of.Given as goal

abbrev pub invariant-loop-b : goal.invariant-loop-b
invariant-loop-b l = (l.value < 2 ^ 64) × (digits_from l.base 0 l.digits ≡ digits_from l.base l.value (drop l.b-index l.digits))
