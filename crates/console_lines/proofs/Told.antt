-- What tests tell of a line.
-- Assumes nothing.
use mathlib.Core.Path.{◌≡◌, refl, sym, ap, ◌∙◌}
use mathlib.Core.Bool.{Bool, true, false, cond, ◌&&◌}
use mathlib.Core.List.{List, [], ◌∷◌}
use Prim.Native.Nat.{ℕ, zero, suc, ◌-◌, ◌≤◌, ◌<◌}
use native.Mathlib.Omega.{arith}
use native.Mathlib.Nat.{not-suc-le-zero, le_of_suc-le-suc}
use lib.Dec.{eqb, ltb}
use lib.ListN.{length, get_or}
use Rattle.model.specs.declared.Vcpu.{Vcpu}
use borrow.Author.Tests.{lt-ltb, le-ltb}
use Rattle.model.specs.declared.Module.{Module}
use Rattle.model.specs.State.{vcpu_at}
use Rattle.trace.specs.Words.{ascii}
use Rattle.std.specs.Prelude.{Ok, Err}
use Rattle.console.specs.declared.Answer.{Answer}
use Rattle.console.specs.declared.Answer.TheVariants as answer
use Rattle.model.specs.Codes.{Answered}
use Rattle.console_lines.specs.Lines.{plain_line, start_line, module_line, vcpu_line, state_line}

-- an answer that is no number
pub plain_start : (a : Answered Answer) → ((v : ℕ) → a ≡ Ok (answer.Number v) → ⊥) → plain_line (ascii "start") a ≡ start_line a
plain_start (Ok answer.Nothing) e = refl
plain_start (Ok (answer.Number v)) e = absurd (e v refl)
plain_start (Ok (answer.Counts a)) e = refl
plain_start (Ok (answer.Presentation p)) e = refl
plain_start (Ok (answer.Asked b)) e = refl
plain_start (Err r) e = refl

-- ---- the line of a vCPU
module _ (m : Module) (k : ℕ) (later : eqb k 0 ≡ false) where
  abbrev of : Bool → Bool → List ℕ
  of first known = cond first (module_line m) (cond known (vcpu_line (k - 1) (vcpu_at m (k - 1))) [])

  known_as : (b : Bool) → ltb (k - 1) 32 && ltb (k - 1) m.n ≡ b → of false b ≡ state_line m k
  known_as b e = ap (of false) (sym e) ∙ ap (λ (x : Bool). of x (ltb (k - 1) 32 && ltb (k - 1) m.n)) (sym later)

  pub vcpu_there : k - 1 < 32 → ltb (k - 1) m.n ≡ true → vcpu_line (k - 1) (vcpu_at m (k - 1)) ≡ state_line m k
  vcpu_there h e = known_as true (rw (lt-ltb (k - 1) 32 h) e)

  pub vcpu_absent : k - 1 < 32 → ltb (k - 1) m.n ≡ false → [] ≡ state_line m k
  vcpu_absent h e = known_as false (rw (lt-ltb (k - 1) 32 h) e)

  pub vcpu_beyond : 32 ≤ k - 1 → [] ≡ state_line m k
  vcpu_beyond h = known_as false (rw (le-ltb (k - 1) 32 h) refl)

-- a record of a module does not depend on the default that it is read with
get_d_any : (l : List Vcpu) (i : ℕ) (d e : Vcpu) → i < length l → get_or l i d ≡ get_or l i e
get_d_any [] i d e h = absurd (not-suc-le-zero h)
get_d_any (v ∷ l) zero d e h = refl
get_d_any (v ∷ l) (suc i) d e h = get_d_any l i d e (le_of_suc-le-suc h)

pub record_is : (m : Module) (i : ℕ) (d : Vcpu) → i < 32 → length m.vcpus ≡ 32 → get_or m.vcpus i d ≡ vcpu_at m i
unfolding vcpu_at
record_is m i d h l = get_d_any m.vcpus i d _ (omega arith)
