-- A call of the vCPU i, whose record is at k, from what it makes of the record and the count: by value and in place it is the model's step.
-- Assumes nothing.
use mathlib.Core.Path.{◌≡◌, sym, ap, ◌∙◌, subst}
use Rattle.std.specs.Prelude.{Ok, Err}
use mathlib.Core.List.{[]}
use Prim.Native.Nat.{ℕ, ◌<◌}
use native.Mathlib.Omega.{arith}
use lib.ListN.{length, get_or}
use Rattle.model.specs.declared.Refusal.{Refusal}
use Rattle.model.specs.declared.Vcpu.{Vcpu}
use Rattle.model.specs.declared.Module.{Module}
use Rattle.model.specs.State.{size, vcpu_at, with_vcpu, with_registrations}
use Rattle.model.specs.Codes.{Answered, done, refused, code_of}
use Rattle.model.specs.Requests.{request_of}
use Rattle.model.specs.Events.{call, at, vcpu_verdict, refusal, index_in, step}
use Rattle.model.proofs.Stored.{put_same, count_same, size_le}
use Rattle.vcpu.specs.declared.VcpuCalled.{VcpuCalled}
use Rattle.vcpu.specs.declared.Reply.{Reply as Called}
use Rattle.vcpu.specs.declared.Reply.TheVariants.{Gives, Sends}
use Rattle.vcpu.specs.Records.{call_on, called_out, reply_of, Sending, send_below, delivered}
use Rattle.vcpu.proofs.Steps.{served_call, sent_call}
use Rattle.gate.proofs.Known.{found}
use Rattle.gate_mut.proofs.InRow.{unread, is_here}

module _ (m : Module) (i k : ℕ) (placed : Ok k ≡ index_in m i) (whole : length m.vcpus ≡ 32) (op c x : ℕ) where
  abbrev v : Vcpu
  v = get_or m.vcpus k unread

  -- what the step of the record answers
  abbrev Says : Answered VcpuCalled → Type 0
  Says r = called_out m.registrations v r ≡ call_on (vcpu_verdict i m.registrations v (call op c x)) (request_of op c x) i m.registrations v

  same : k ≡ i
  same = (found m i k placed).1

  below : i < size m
  below = subst (λ (j : ℕ). j < size m) same (found m i k placed).0

  here : v ≡ vcpu_at m i
  here =
      let b : k < size m = (found m i k placed).0 in
      is_here m k (omega (arith, b, size_le m, whole)) ∙ ap (vcpu_at m) same

  -- the module once the caller's record and the count are stored
  abbrev after : VcpuCalled → Module
  after r = with_registrations r.registrations (with_vcpu m k r.vcpu)

  pub call_refused : (e : Refusal) → Says (Err e) → refusal e m [] ≡ step m (at i (call op c x))
  call_refused e says =
      ap (λ (g : Module). record { result = refused (code_of e); after = g; page = [] })
      (sym (count_same m i v ∙ ap (with_vcpu m i) here ∙ put_same m i))
      ∙ served_call m i below v here op c x v m.registrations (refused (code_of e)) says

  -- what it says where its reply is z
  replied : (r : VcpuCalled) (z : Called) → r.reply ≡ z → Says (Ok r)
      → record { reply = reply_of z; vcpu = r.vcpu; registrations = r.registrations; page = [] }
      ≡ call_on (vcpu_verdict i m.registrations v (call op c x)) (request_of op c x) i m.registrations v
  replied r z told says =
      ap (λ (y : Called). record { reply = reply_of y; vcpu = r.vcpu; registrations = r.registrations; page = [] }) (sym told) ∙ says

  pub call_given : (r : VcpuCalled) (y : ℕ) → r.reply ≡ Gives y → Says (Ok r) → record { result = done y; after = after r; page = [] } ≡ step m (at i (call op c x))
  call_given r y told says =
      ap (λ (j : ℕ). record { result = done y; after = with_registrations r.registrations (with_vcpu m j r.vcpu); page = [] }) same
      ∙ served_call m i below v here op c x r.vcpu r.registrations (done y) (replied r (Gives y) told says)

  -- s is what the IPI of the value y leaves
  pub call_sent : (r : VcpuCalled) (y : ℕ) → r.reply ≡ Sends y → Says (Ok r)
      → (s : Sending) → s ≡ send_below i y (after r) (size (after r)) → delivered s ≡ step m (at i (call op c x))
  call_sent r y told says s sent =
      ap delivered
      (sent ∙ ap (λ (j : ℕ). let g = with_registrations r.registrations (with_vcpu m j r.vcpu) in send_below i y g (size g)) same)
      ∙ sent_call m i below v here op c x r.vcpu r.registrations whole y (replied r (Sends y) told says)
