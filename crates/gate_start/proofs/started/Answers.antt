-- `gate_start::started` meets its contract: the places below n are filled, those behind them are the absent record's. Assumes nothing.
use Rattle.std.proofs.Common.{rules, ◌≡◌, [], ◌≤◌, ℕ, ◌+◌, ◌-◌, length, List, ◌∷◌, ◌++◌}
use Rattle.std.specs.Prelude.{drop, replicate}
use Rattle.std.proofs.lemmas.List.{drop-replicate, length-take-le}
use mathlib.Core.Path.{sym, ap, ap₂, ◌∙◌}
use Rattle.model.specs.declared.Vcpu.{Vcpu}
use Rattle.model.specs.State.{absent, bare, started}
use Rattle.gate_start.proofs.started.Goals as goal

pub returns : goal.returns
unfolding started
returns c =
    let n = c.args.n in
    ap (λ (l : List Vcpu). record { n = n; vmpl = c.args.vmpl; registrations = 1; vcpus = l })
    (ap₂ (λ (a b : List Vcpu). a ++ b) (c.fill.ensures.after (λ y e. search rules)
    ∙ ap₂ (λ (k : ℕ) (v : Vcpu). replicate k v) (length-take-le n (replicate 32 c.bare-absent.result) c.requires) c.bare.ensures)
    (ap (λ (v : Vcpu). drop n (replicate 32 v)) c.bare-absent.ensures ∙ drop-replicate n 32 absent))
