-- A turn stores the value's code, and changes its word where the value is taken.
use Rattle.std.proofs.Common.{arith, ◌≡◌, refl, sym, ap, ap₂, ◌∙◌, subst, Bool, true, false, cond, Ok, Option, Some, None, ◌||◌, List, ◌++◌, map, ℕ, ◌+◌, ◌<◌}
use Rattle.std.proofs.Common.{length, get_or, take, drop}
use Rattle.std.proofs.Math.Bool.{or-true, or-false, or_assoc}
use Rattle.std.proofs.Math.ListN.{set}
use Rattle.std.specs.Bool.{then_some}
use Rattle.vector_set.specs.Sets.{Words}
use Rattle.model.specs.Requests.{nameable}
use Rattle.vcpu_allow.specs.Values.{value_code, permitted, permitted_word, permitted_all, some_nameable}
use Rattle.vcpu_allow.proofs.ValuesLaws.{set_kept, set_changed, words_permitted, code_zero, code_other, code_stored, set_left, some_left}
use Rattle.vcpu_allow.proofs.ValuesLaws.{codes_all, set_all, some_all}
use Rattle.vcpu_allow.proofs.permit_all.Goals as goal
use Rattle.vcpu_allow.proofs.permit_all.Goals.{then-code-eq0, else-code-eq0}

-- the set, where a value was accepted
given : (b : Bool) (s : List ℕ) → then_some b s ≡ cond b (Some s) None
given true s = refl
given false s = refl

pub loop-k-preserved : goal.loop-k-preserved
loop-k-preserved c =
    let xs = c.args.values.now in
    let l = c.loop-k in
    let h : l.k < length xs = c.loop-k-test.true in
    let x = get_or xs l.k 0 in
    let p = c.value_code-code in
    let e : p.result ≡ value_code x = p.ensures in
    let set_after : c.if-code-eq0.set ≡ permitted x l.set =
    elim c.if-code-eq0.branch [
      | then-code-eq0 w ↦
          w.set-is ∙ ap (set l.set w.word_of-w.result) w.permit_word.ensures
          ∙ ap (λ (n : ℕ). set l.set n (permitted_word x (get_or l.set n 0))) w.word_of-w.ensures
          ∙ set_changed x l.set (code_zero x (sym e ∙ w.if-code-eq0.true)) l.invariant.words
      | else-code-eq0 w ↦ w.set-is ∙ set_kept x l.set (code_other x (λ z. w.if-code-eq0.false (e ∙ z)))
    ] in
    let accepts_after : c.if-code-eq0.accepts ≡ (l.accepts || nameable x) =
    elim c.if-code-eq0.branch [
      | then-code-eq0 w ↦ w.accepts-is ∙ sym (ap (λ (b : Bool). l.accepts || b) (code_zero x (sym e ∙ w.if-code-eq0.true)) ∙ or-true l.accepts)
      | else-code-eq0 w ↦
          w.accepts-is ∙ sym (ap (λ (b : Bool). l.accepts || b) (code_other x (λ z. w.if-code-eq0.false (e ∙ z))) ∙ or-false l.accepts)
    ] in
    record {
      codes =
          ap (λ (q : List ℕ). set q l.k p.result) l.invariant.codes
          ∙ ap (set (take l.k (map value_code xs) ++ drop l.k c.args.codes.now) l.k) e
          ∙ code_stored xs l.k h c.args.codes.now c.requires;
      words = subst Words (sym set_after) (words_permitted x l.set l.invariant.words);
      left = ap (permitted_all (drop (l.k + 1) xs)) set_after ∙ sym (set_left xs l.k h l.set) ∙ l.invariant.left;
      some =
          ap (λ (b : Bool). b || some_nameable (drop (l.k + 1) xs)) accepts_after
          ∙ or_assoc l.accepts (nameable x) (some_nameable (drop (l.k + 1) xs))
          ∙ ap (λ (b : Bool). l.accepts || b) (sym (some_left xs l.k h))
          ∙ l.invariant.some;
    }

pub returns : goal.returns
returns c =
    let l = c.loop-k in
    let xs = c.args.values.now in
    let e : l.k ≡ length xs = omega (arith, l.auto.k-end, c.loop-k-test.false) in (
      ap (λ (o : Option (List ℕ)). Ok o)
          (c.then_some.ensures
          ∙ given l.accepts l.set
          ∙ ap₂ (λ (b : Bool) (s : List ℕ). cond b (Some s) None)
          (sym (ap (λ (b : Bool). l.accepts || b) (some_all xs l.k e) ∙ or-false l.accepts) ∙ l.invariant.some)
          (sym (set_all xs l.k e l.set) ∙ l.invariant.left)),
      l.invariant.codes ∙ codes_all xs l.k e c.args.codes.now,
    )
