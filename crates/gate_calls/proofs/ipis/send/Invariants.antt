-- The vCPUs below k have been gone through; the records from k on are as they were.
use Rattle.std.proofs.Common.{◌≡◌, ℕ, ◌≤◌, length}
use Rattle.model.specs.State.{vcpu_at}
use Rattle.vcpu.specs.Records.{send_below}
use Rattle.vcpu.proofs.Turns.{sent_to}
use Rattle.gate_calls.proofs.ipis.send.Given as goal

abbrev pub invariant-loop-k : goal.invariant-loop-k
invariant-loop-k l = record {
  long : length l.m.vcpus ≡ 32;
  rest : (j : ℕ) → l.k ≤ j → vcpu_at l.m j ≡ vcpu_at l.initial.m j;
  so : sent_to l.mask l.m ≡ send_below l.caller l.value l.initial.m l.k;
}
