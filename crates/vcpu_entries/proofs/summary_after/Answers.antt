-- `vcpu_entries::summary_after` meets its contract: the byte is made anew for the vector's word. Assumes nothing.
use mathlib.Core.Path.{◌≡◌, sym, ◌∙◌}
use mathlib.Core.Bool.{cond}
use mathlib.Core.List.{List}
use Prim.Native.Nat.{ℕ, ◌/◌, ◌<◌}
use native.Mathlib.Omega.{arith}
use lib.Dec.{eqb}
use Rattle.vector_set.specs.Bits.{bit_at, bits}
use Rattle.vector_set.specs.Summaries.{holds, remade}
use Rattle.vector_set.proofs.SummaryLaws.{remade_word}
use Rattle.vcpu_entries.proofs.summary_after.Goals as goal

-- the word of x is k
remade_at : (x k b : ℕ) (t : List ℕ) → x < 256 → k ≡ x / 32
    → bits (λ j. cond (eqb j k) (holds t k) (bit_at b j)) 0 8 ≡ remade (λ y. eqb y x) t b
remade_at x k b t l e = rw e (sym (remade_word x t b l))

pub returns : goal.returns
returns c =
    let a = c.args in
    c.with_word.ensures ∙ remade_at a.x c.word_of-k.result a.summary a.irr (omega arith) c.word_of-k.ensures
