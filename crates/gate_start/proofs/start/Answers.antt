-- `gate_start::start` meets its contract, by its test. Assumes nothing.
use mathlib.Core.Path.{◌≡◌, refl, sym, ap, ◌∙◌}
use mathlib.Core.Bool.{Bool, true, false, ◌&&◌}
use mathlib.Core.List.{[]}
use Prim.Native.Nat.{ℕ, ◌≤◌}
use lib.Dec.{leb}
use borrow.Author.Tests.{leb-true}
use Rattle.model.specs.declared.Module.{Module}
use Rattle.std.specs.Prelude.{Ok, Err}
use Rattle.model.specs.declared.Refusal.TheVariants.{BadStart}
use Rattle.model.specs.State.{may_start, start}
use Rattle.model.specs.Events.{start_result, do_start, out_of}
use Rattle.vector_set.proofs.Laws.{clash}
use Rattle.gate_start.proofs.start.Goals as goal

-- a start that is accepted has at most 32 vCPUs
within : (n l : ℕ) → may_start n l ≡ true → n ≤ 32
within n l = λ h. pick (leb 1 n) (leb n 32) refl h
  where
    pick : (a b : Bool) → leb n 32 ≡ b → (a && b && leb 1 l && leb l 3) ≡ true → n ≤ 32
    pick true true e h = leb-true n 32 e
    pick true false e h = clash (cc)
    pick false b e h = clash (cc)

-- what the callee says of the two numbers
accepted : (c : goal.Then-may_start)
    → let a = c.args in
    may_start a.n a.vmpl ≡ true
accepted c = sym c.may_start.ensures ∙ c.if-may_start.true

pub started-requires : goal.started-requires
started-requires c =
    let a = c.args in
    within a.n a.vmpl (accepted c)

pub returns-then-may_start : goal.returns-then-may_start
unfolding do_start start_result start
returns-then-may_start c = rw (accepted c.before) (ap (λ (m : Module). out_of (record { answer = Ok 0; after = m }) []) c.started.ensures)

pub returns : goal.returns
unfolding do_start start_result start
returns c =
    let a = c.args in
    let e : may_start a.n a.vmpl ≡ false = sym c.may_start.ensures ∙ c.if-may_start.false in
    rw e (ap (λ (m : Module). out_of (record { answer = Err BadStart; after = m }) []) c.stopped.ensures)
