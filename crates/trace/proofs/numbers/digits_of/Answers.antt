-- At each turn the digits that are left, read on from the value so far, are the number; one that grows past 64 bits is none.
use Rattle.std.proofs.Common.{◌≡◌, sym, ◌∙◌, arith, None}
use Rattle.trace.proofs.Digits.{digits_some, digits_over}
use Rattle.trace.proofs.numbers.digits_of.Goals as goal

pub returns-in_err-checked_mul : goal.returns-in_err-checked_mul
returns-in_err-checked_mul c =
    let l = c.loop-b in
    let gone : c.from_residual-in_err-checked_mul.result ≡ None = grind arith in
    let over = c.in_err-checked_mul.ensures in
    gone
    ∙ sym (digits_some _ _ (omega arith)
    ∙ l.invariant.1
    ∙ digits_over _ l.value _ l.b-index (omega arith) _ (sym c.digit_of.ensures ∙ c.in_ok-d.was) c.requires c.if-base-d.false (omega (arith, over)))

pub returns-in_err-value : goal.returns-in_err-value
returns-in_err-value c =
    let l = c.loop-b in
    let gone : c.from_residual-in_err-value.result ≡ None = grind arith in
    let product = c.in_ok-checked_mul.ensures in
    let over = c.in_err-value.ensures in
    gone
    ∙ sym (digits_some _ _ (omega arith)
    ∙ l.invariant.1
    ∙ digits_over _ l.value _ l.b-index (omega arith) _ (sym c.digit_of.ensures ∙ c.in_ok-d.was) c.requires c.if-base-d.false (omega (arith, product, over)))
