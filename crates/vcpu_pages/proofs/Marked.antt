-- The summary of P where vectors are added: of one vector that a posting adds, if it does, and of a set's beside it. Assumes nothing.
use mathlib.Core.Path.{◌≡◌, refl, sym, ap, ap₂, ◌∙◌}
use mathlib.Core.Bool.{Bool, true, false, cond, ◌&&◌, ◌||◌, or_assoc}
use mathlib.Core.List.{List}
use Prim.Native.Nat.{ℕ, ◌/◌, ◌%◌, ◌^◌, ◌<◌}
use native.Mathlib.Omega.{arith}
use lib.Bits.{bit_or, or_lt, or_zero_r}
use lib.Dec.{eqb}
use lib.Pow.{pow_pos}
use Rattle.vector_set.specs.Bits.{bit_at}
use Rattle.vector_set.specs.Sets.{has, collect, empty}
use Rattle.vector_set.specs.Summaries.{summary_of}
use Rattle.vector_set.proofs.BitLaws.{bit_or_lem, number_ext}
use Rattle.vector_set.proofs.Laws.{Words, has_collect, collect_words, collect_ext, collect_is}
use Rattle.vector_set.proofs.SummaryLaws.{summary_byte, remade_true, remade_joined, single_summary, summary_empty}
use Rattle.model.specs.declared.Vcpu.{Vcpu}
use Rattle.model.specs.State.{with_irr, with_summary}
use Rattle.model.specs.Items.{put_irr}
use Rattle.ipi.specs.Posts.{summary_in}
use Rattle.ipi.proofs.Marks.{summary_none, summary_at}

-- ---- bytes
or_grouped : (a b c : ℕ) → a < 2 ^ 8 → b < 2 ^ 8 → c < 2 ^ 8 → bit_or (bit_or a b) c ≡ bit_or a (bit_or b c)
or_grouped a b c la lb lc =
    number_ext 8 (bit_or (bit_or a b) c) (bit_or a (bit_or b c)) (or_lt 8 (bit_or a b) c (or_lt 8 a b la lb) lc) (or_lt 8 a (bit_or b c) la (or_lt 8 b c lb lc))
    (λ k l. bit_or_lem (bit_or a b) c k ∙ ap (λ (x : Bool). x || bit_at c k) (bit_or_lem a b k) ∙ or_assoc (bit_at a k) (bit_at b k) (bit_at c k)
    ∙ sym (bit_or_lem a (bit_or b c) k ∙ ap (λ (x : Bool). bit_at a k || x) (bit_or_lem b c k)))

-- ---- what is added
-- no vector
none_summary : (g : ℕ → Bool) → ((y : ℕ) → y < 256 → g y ≡ false) → summary_of (collect g) ≡ 0
unfolding empty
none_summary g h = ap summary_of (collect_ext g (λ y. false) h) ∙ summary_empty

-- a posting of the vector x, if t, where g says which vector that is
pub posting_summary : (n m : Bool) (x : ℕ) → x < 256 → (t : Bool) (g : ℕ → Bool) → ((y : ℕ) → y < 256 → g y ≡ (t && eqb y x))
    → summary_in (record { nmi = n; machine_check = m; word = x / 32; bits = cond t (2 ^ (x % 32)) 0 }) ≡ summary_of (collect g)
posting_summary n m x small true g h =
    summary_at (record { nmi = n; machine_check = m; word = x / 32; bits = 2 ^ (x % 32) })
    (λ (e : 2 ^ (x % 32) ≡ 0). let p = pow_pos (x % 32) in omega (arith, e, p)) (omega arith)
    ∙ sym (single_summary x small) ∙ ap summary_of (collect_ext (λ y. eqb y x) g (λ y l. sym (h y l)))
posting_summary n m x small false g h =
    summary_none (record { nmi = n; machine_check = m; word = x / 32; bits = 0 }) refl ∙ sym (none_summary g h)

-- the members of e and those with g
union_summary : (g : ℕ → Bool) (e : List ℕ) → Words e → summary_of (collect (λ y. has e y || g y)) ≡ bit_or (summary_of (collect g)) (summary_of e)
union_summary g e we =
    ap summary_of (collect_ext (λ y. has e y || g y) (λ y. has e y || has s y) (λ y l. ap (λ (b : Bool). has e y || b) (sym (has_collect g y l))))
    ∙ sym (remade_true (λ y. has e y) s t (collect_words g) (collect_words (λ y. has e y || has s y))
    (λ y l f. has_collect (λ y. has e y || has s y) y l ∙ ap (λ (b : Bool). b || has s y) f))
    ∙ remade_joined (λ y. has e y) s (summary_of s) (summary_byte s)
    ∙ ap (λ (u : List ℕ). bit_or (summary_of s) (summary_of u)) (sym (collect_is (λ y. has e y) e we (λ y l. refl)))
  where
    s : List ℕ
    s = collect g

    t : List ℕ
    t = collect (λ y. has e y || has s y)

-- added to the byte b in two steps
pub both_summaries : (b c : ℕ) → b < 2 ^ 8 → (g : ℕ → Bool) (e : List ℕ) → Words e → c ≡ summary_of (collect g)
    → bit_or (bit_or b c) (summary_of e) ≡ bit_or b (summary_of (collect (λ y. has e y || g y)))
both_summaries b c small g e we is =
    ap (λ (x : ℕ). bit_or (bit_or b x) (summary_of e)) is
    ∙ or_grouped b (summary_of (collect g)) (summary_of e) small (summary_byte (collect g)) (summary_byte e) ∙ ap (bit_or b) (sym (union_summary g e we))

-- ---- the record with the vectors of f pending: P and its byte, however they were made
pub put_is : (f : ℕ → Bool) (v : Vcpu) → v.summary < 2 ^ 8 → {s : List ℕ} {b : ℕ} → s ≡ collect (λ y. f y || has v.irr y)
    → b ≡ bit_or v.summary (summary_of (collect f)) → with_summary b (with_irr s v) ≡ put_irr true f v
put_is f v small e h = ap₂ (λ (s : List ℕ) (b : ℕ). with_summary b (with_irr s v)) e (h ∙ sym (remade_joined f v.irr v.summary small))

-- none of them: the byte stays
pub none_joined : (f : ℕ → Bool) → ((y : ℕ) → y < 256 → f y ≡ false) → (b : ℕ) → b ≡ bit_or b (summary_of (collect f))
none_joined f h b = sym (ap (bit_or b) (none_summary f h) ∙ or_zero_r b)
