-- A list of ECX values on the caller's record: what holds after each single call holds after the list.
-- Assumes nothing.
use mathlib.Core.List.{List, [], ◌∷◌}
use Prim.Native.Nat.{ℕ}
use Rattle.model.specs.declared.Vcpu.{Vcpu}
use Rattle.model.specs.Codes.{Verdict, accept, refuse}
use Rattle.model.specs.Requests.{request_of}
use Rattle.model.specs.Events.{vcpu_verdict, call_effect, single, by_verdict, single_after, list_after}

-- what is so after an accepted one and was so before it
pub after_single : (c : ℕ) (P : Vcpu → Type 0) (i k : ℕ) (v : Vcpu) → P (call_effect (request_of 4 c 0) i k v).vcpu → P v → P (single_after i k c v)
unfolding single_after
after_single c P i k v yes' no' = pick (vcpu_verdict i k v (single c))
  where
    pick : (g : Verdict) → P (by_verdict g (call_effect (request_of 4 c 0) i k v).vcpu v)
    pick accept = yes'
    pick (refuse d) = no'

-- what an accepted one leaves true stays true
pub after_one : (P : Vcpu → Type 0) (i k : ℕ) → ((c : ℕ) (v : Vcpu) → P v → P (call_effect (request_of 4 c 0) i k v).vcpu) → (c : ℕ) (v : Vcpu) → P v
    → P (single_after i k c v)
after_one P i k f c v h = after_single c P i k v (f c v h) h

pub after_each : (P : Vcpu → Type 0) (i k : ℕ) → ((c : ℕ) (v : Vcpu) → P v → P (call_effect (request_of 4 c 0) i k v).vcpu) → (cs : List ℕ) (v : Vcpu) → P v
    → P (list_after i k cs v)
unfolding list_after
after_each P i k f [] v h = h
after_each P i k f (c ∷ cs) v h = after_each P i k f cs (single_after i k c v) (after_one P i k f c v h)
