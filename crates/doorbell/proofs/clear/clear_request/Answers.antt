-- `doorbell::clear::clear_request` meets its contract, byte by byte.
use mathlib.Core.Path.{◌≡◌, refl}
use mathlib.Core.Bool.{Bool, true, not, ◌||◌}
use mathlib.Core.List.{List}
use mathlib.Core.Logic.{⊎_elim}
use Prim.Native.Nat.{ℕ, ◌+◌, ◌*◌, ◌<◌}
use borrow.Author.Rules.{rules}
use native.Mathlib.Omega.{arith}
use lib.Dec.{leb, eqb}
use lib.ListN.{length, get_or, set, length-set}
use lib.Seq.{get_or-set_same, get_or-set_other}
use lib.Bits.{bit_and}
use borrow.Author.Tests.{lt-leb, ne_eqb}
use Rattle.vector_set.specs.Bits.{bit_at}
use Rattle.doorbell.proofs.Bytes.{place}
use Rattle.doorbell.proofs.ClearLaws.{Cleared, is_clearing, keeps, zeroes, masks, each8}
use Rattle.doorbell.proofs.clear.clear_request.Goals as goal

abbrev request : ℕ → Bool
request k = leb k 10 || eqb k 14

abbrev mask : List ℕ → ℕ
mask d = bit_and (get_or d 1 0) 184

abbrev stored : List ℕ → List ℕ
stored d = set (set d 1 (mask d)) 0 0

byte : (d : List ℕ) (j : ℕ) → 1 < length d → get_or d j 0 < 256 → Cleared request j (get_or d j 0) (get_or (stored d) j 0)
byte d j l s =
    ⊎_elim
    (λ (h : j < 1). let e : j ≡ 0 = omega arith in
    rw (e, get_or-set_same (set d 1 (mask d)) 0 0 0 (simp length-set (omega arith)))
    (zeroes request 0 (get_or d 0 0) (each8 (λ b. request (8 * 0 + b) ≡ true) refl refl refl refl refl refl refl refl)))
    (⊎_elim
    (λ (e : j ≡ 1). rw (e, get_or-set_other (set d 1 (mask d)) 0 1 0 0 (λ (q : 1 ≡ 0). omega arith), get_or-set_same d 1 (mask d) 0 l)
    (masks request 1 (get_or d 1 0) 184 (omega arith)
    (each8 (λ b. bit_at 184 b ≡ not (request (8 * 1 + b))) refl refl refl refl refl refl refl refl)))
    (λ (h : 1 < j). rw
    (get_or-set_other (set d 1 (mask d)) 0 j 0 0 (λ (q : j ≡ 0). omega arith), get_or-set_other d 1 j (mask d) 0 (λ (q : j ≡ 1). omega arith))
    (keeps request j (get_or d j 0) s
    (λ b r. rw (lt-leb (8 * j + b) 10 (omega arith), ne_eqb (8 * j + b) 14 (λ (q : 8 * j + b ≡ 14). omega arith)))))
    )
    (place j 1)

pub returns : goal.returns
returns c =
    is_clearing request c.args.d.now (stored c.args.d.now) (simp length-set)
    (λ j l. byte c.args.d.now j (omega arith) (search rules))
