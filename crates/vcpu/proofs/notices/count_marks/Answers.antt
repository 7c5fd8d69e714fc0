-- `vcpu::notices::count_marks` meets its contract: at most three items beside the vectors of a set. Assumes nothing.
use mathlib.Core.Path.{◌≡◌}
use mathlib.Core.Bool.{Bool, not, ◌&&◌}
use mathlib.Core.List.{List}
use Prim.Native.Nat.{ℕ, ◌+◌, ◌≤◌}
use native.Mathlib.Omega.{arith}
use Rattle.vector_set.specs.Sets.{count, difference, intersection}
use Rattle.vector_set.proofs.Laws.{one_le, count_le}
use Rattle.model.specs.declared.Counts.{Counts}
use Rattle.ipi.specs.declared.Posting.{Posting}
use Rattle.ipi.specs.Posts.{adds_bit, meets_bit, counts_of}
use Rattle.vcpu.specs.Notices.{marks_counted}
use Rattle.vcpu.proofs.notices.count_marks.Goals as goal

few : (p : Posting) (x : ℕ) (b m : Bool) (c : Counts) → c ≡ counts_of p x b m → (c.new ≤ 3) × (c.merged ≤ 3)
unfolding counts_of
few p x b m c e =
    rw e (
      omega (arith, one_le (p.nmi && not b), one_le (p.machine_check && not m), one_le (adds_bit p x)),
      omega (arith, one_le (p.nmi && b), one_le (p.machine_check && m), one_le (meets_bit p x)),
    )

-- the numbers, from what each call gave
counted : (e s : List ℕ) {c d : Counts} {m i : List ℕ} {a b : ℕ} → c ≡ d → m ≡ difference e s → i ≡ intersection e s → a ≡ count m → b ≡ count i
    → ◌≡◌ {A = Counts} (record { new = c.new + a; merged = c.merged + b }) (marks_counted d e s)
unfolding marks_counted
counted e s p q r f g = rw (f, g, q, r, p)

pub overflow_add-new : goal.overflow_add-new
overflow_add-new c = omega (arith, (few _ _ _ _ c.counts_of-c.result c.counts_of-c.ensures).0, count_le c.difference-more.result)

pub overflow_add-merged : goal.overflow_add-merged
overflow_add-merged c = omega (arith, (few _ _ _ _ c.counts_of-c.result c.counts_of-c.ensures).1, count_le c.intersection-again.result)

pub returns : goal.returns
returns c =
    counted _ _ c.counts_of-c.ensures c.difference-more.ensures c.intersection-again.ensures c.count_of.ensures c.count_of-2.ensures
