-- `ipi::summary_of` meets its contract: no bit, no such word, or its bit. Assumes nothing.
use mathlib.Core.Path.{◌≡◌, sym, ◌∙◌}
use Prim.Native.Nat.{ℕ, ◌+◌, ◌*◌, ◌%◌, ◌^◌, ◌≤◌, ◌<◌}
use native.Mathlib.Omega.{arith}
use lib.Pow.{shl_exact}
use borrow.Author.Tests.{ne_eqb}
use Rattle.vector_set.proofs.BitLaws.{bits_unique, bit_zero}
use Rattle.ipi.specs.declared.Posting.{Posting}
use Rattle.ipi.specs.Posts.{summary_in}
use Rattle.ipi.proofs.Marks.{summary_none, summary_at}
use Rattle.ipi.proofs.summary_of.Goals as goal

one_shl_byte : (b : ℕ) → b < 8 → (1 * 2 ^ b) % 2 ^ 8 ≡ 2 ^ b
one_shl_byte b l = shl_exact {a = 1} 1 b 8 (omega arith) (omega arith) ∙ omega arith

beyond : (p : Posting) → 8 ≤ p.word → summary_in p ≡ 0
unfolding summary_in
beyond p l =
    sym (bits_unique _ 0 8 0 (omega arith)
    (λ k m. bit_zero k ∙ sym (rw (ne_eqb (0 + k) p.word (λ (q : 0 + k ≡ p.word). omega (arith, l, m, q))))))

pub returns-then-posting-eq0 : goal.returns-then-posting-eq0
returns-then-posting-eq0 c = sym (summary_none c.args.posting c.if-posting-eq0.true)

pub returns-then-posting-ge8 : goal.returns-then-posting-ge8
returns-then-posting-ge8 c = sym (beyond c.args.posting c.if-posting-ge8.true)

pub returns : goal.returns
returns c =
    let p = c.args.posting in
    let l : p.word < 8 = c.if-posting-ge8.false in
    one_shl_byte p.word l ∙ sym (summary_at p c.if-posting-eq0.false l)
