-- The answer to a hand-back and the step of its vCPU's record are together what the model says of the event. Assumes nothing.
use mathlib.Core.Path.{◌≡◌}
use mathlib.Core.Bool.{Bool}
use Prim.Native.Nat.{ℕ}
use Rattle.std.specs.Prelude.{Ok, Err}
use Rattle.vector_set.proofs.Laws.{clash}
use Rattle.model.specs.declared.Vcpu.{Vcpu}
use Rattle.model.specs.Codes.{Answered, Verdict, accept, refuse, done, result_of}
use Rattle.model.specs.Events.{emptied, hand_back_result}
use Rattle.vcpu.specs.Records.{VcpuOut, hand_back_on, refused_out}
use Rattle.vcpu_pages.specs.Pages.{hand_on}

-- the record v with its step, unless the hand-back is refused
abbrev pub handed_vcpu : Vcpu → Answered ℕ → VcpuOut
handed_vcpu v (Ok x) = record { result = done x; vcpu = emptied v }
handed_vcpu v (Err c) = refused_out c v

module _ (l : ℕ) (iF sh : Bool) (v : Vcpu) where
  pub handed_is : (g : Verdict) (r : Answered ℕ) → result_of r ≡ hand_on g (hand_back_result l v.tpr iF sh) → handed_vcpu v r ≡ hand_back_on g l iF sh v
  unfolding hand_on hand_back_on
  handed_is (refuse c) (Ok x) e = clash (cc)
  handed_is (refuse c) (Err d) e = cc
  handed_is accept (Ok x) e = cc
  handed_is accept (Err d) e = clash (cc)
