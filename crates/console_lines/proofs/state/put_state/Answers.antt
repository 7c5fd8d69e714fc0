-- `console_lines::state::put_state` meets its contract.
use mathlib.Core.Path.{sym}
use mathlib.Core.Logic.{⊎_elim}
use Prim.Native.Nat.{◌-◌}
use borrow.Author.Rules.{rules}
use borrow.Author.Tests.{ne_eqb, lt-ltb, le-ltb}
use Rattle.console.proofs.Fills.{puts_none, puts_of, puts_same}
use Rattle.console_lines.specs.Lines.{vcpu_line}
use Rattle.console_lines.proofs.Told.{vcpu_there, vcpu_beyond, vcpu_absent, record_is}
use Rattle.console_lines.proofs.state.put_state.Goals as goal

pub returns-then-i-m : goal.returns-then-i-m
returns-then-i-m c =
    let a = c.args in
    let h = c.if-i-lt32.true in
    puts_same (vcpu_there a.m a.k (ne_eqb a.k 0 c.if-k-eq0.false) h (lt-ltb _ _ c.if-i-m.true))
    (puts_of (vcpu_line (a.k - 1)) (sym (record_is a.m (a.k - 1) _ h (search rules))) c.put_vcpu.ensures)

pub returns-else-i-lt32 : goal.returns-else-i-lt32
returns-else-i-lt32 c =
    let a = c.args in
    let e = ne_eqb a.k 0 c.if-k-eq0.false in
    ⊎_elim (λ w. puts_same (vcpu_absent a.m a.k e w.0 (le-ltb _ _ w.1)) (puts_none _ _))
    (λ w. puts_same (vcpu_beyond a.m a.k e w) (puts_none _ _)) c.else-i-lt32.either
