-- A turn writes a byte behind those before it.
use mathlib.Core.Path.{◌≡◌, sym, ap, ◌∙◌}
use Prim.Native.Nat.{ℕ, ◌+◌, ◌*◌}
use native.Mathlib.Omega.{arith}
use lib.ListN.{length-set}
use lib.Seq.{ext_get_or}
use Rattle.vector_set.specs.Bits.{bits}
use Rattle.vector_set.specs.Sets.{has}
use Rattle.model.specs.Doorbell.{bytes_from}
use Rattle.model.proofs.Bytes.{bytes_from_at, bytes_from_length}
use Rattle.hand_back.proofs.HandedLaws.{byte_filled}
use Rattle.hand_back.proofs.write_set.Goals as goal

pub loop-i-preserved : goal.loop-i-preserved
loop-i-preserved c =
    let at = c.loop-i.invariant in
    record {
      long = length-set c.loop-i.d c.loop-i.i _ ∙ at.long;
      filled = byte_filled c.args.s c.loop-i.d c.to_le_bytes.result c.loop-i.i c.to_le_bytes.ensures (omega (arith, at.long, c.loop-i-test.true)) at.filled;
    }

pub returns : goal.returns
returns c =
    let f = has c.args.s in
    let at = c.loop-i.invariant in
    ext_get_or 0 c.loop-i.d (bytes_from f 0 32) (at.long ∙ sym (bytes_from_length f 0 32))
    (λ j l.
    let e : 8 * j ≡ 8 * (0 + j) = omega arith in
    at.filled j (omega (arith, at.long, c.loop-i-test.false)) ∙ ap (λ (k : ℕ). bits f k 8) e ∙ sym (bytes_from_at f 0 32 j (omega (arith, at.long))))
