-- `console_lines::state::put_members` meets its contract.
use Rattle.std.proofs.Common.{◌≡◌, ℕ, ◌+◌, refl, sym, ap, ◌∙◌, arith}
use Rattle.console.proofs.Fills.{puts_none, adds_as, puts_same, puts_more}
use Rattle.console_lines.specs.Lines.{members_below}
use Rattle.console_lines.proofs.Below.{member_more, none_more, later_now, later_same}
use Rattle.console_lines.proofs.state.put_members.Goals as goal
use Rattle.console_lines.proofs.state.put_members.Goals.{then-contains, else-contains}

pub loop-v-init : goal.loop-v-init
unfolding members_below
loop-v-init c = (refl, puts_none _ _)

pub loop-v-preserved : goal.loop-v-preserved
loop-v-preserved c =
    let l = c.loop-v in
    let s = c.args.s in (
      elim c.if-contains.branch [
        | then-contains w ↦ w.later-is ∙ later_now s l.v l.later l.invariant.0 (sym c.contains.ensures ∙ w.if-contains.true)
        | else-contains w ↦ w.later-is ∙ later_same s l.v l.later l.invariant.0 (sym c.contains.ensures ∙ w.if-contains.false)
      ],
      elim c.if-contains.branch [
        | then-contains w ↦
            adds_as w.out-is (puts_same (member_more s l.v l.later l.invariant.0 (sym c.contains.ensures ∙ w.if-contains.true))
            (puts_more l.invariant.1 w.put_member.ensures))
        | else-contains w ↦
            adds_as w.out-is (puts_same (none_more s l.v l.later l.invariant.0 (sym c.contains.ensures ∙ w.if-contains.false)) l.invariant.1)
      ],
    )

pub returns-after-contains : goal.returns-after-contains
returns-after-contains c =
    let l = c.loop-v in
    let s = c.args.s in
    let e : l.v + 1 ≡ 256 = omega arith in
    puts_same (ap (λ (n : ℕ). members_below n s) e) (
    elim c.if-contains.branch [
      | then-contains w ↦
          adds_as w.out-is (puts_same (member_more s l.v l.later l.invariant.0 (sym c.contains.ensures ∙ w.if-contains.true))
          (puts_more l.invariant.1 w.put_member.ensures))
      | else-contains w ↦
          adds_as w.out-is (puts_same (none_more s l.v l.later l.invariant.0 (sym c.contains.ensures ∙ w.if-contains.false)) l.invariant.1)
    ]
    )
