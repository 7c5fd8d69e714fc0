-- What an event does to the record of the vCPU that it names, refusals included: the model's step, seen from one record.
-- Assumes nothing.
use Rattle.std.specs.Prelude.{Ok, Err, Bool, cond, not, ◌&&◌, List, [], ℕ, zero, suc, ◌*◌, ◌^◌}
use Rattle.std.specs.Prelude.{Option}
use Rattle.std.specs.Int.Bits.{bit_or}
use Rattle.vcpu.specs.declared.VcpuStepped.{VcpuStepped}
use Rattle.vcpu.specs.declared.VcpuCalled.{VcpuCalled}
use Rattle.vcpu.specs.declared.Reply.{Reply as Called}
use Rattle.vcpu.specs.declared.Reply.TheVariants as called
use Rattle.model.specs.declared.Item.{Item}
use Rattle.model.specs.declared.Refusal.{Refusal}
use Rattle.model.specs.declared.Counts.{Counts}
use Rattle.model.specs.declared.Presentation.{Presentation}
use Rattle.model.specs.Requests.{Parsed}
use Rattle.model.specs.declared.Vcpu.{Vcpu}
use Rattle.model.specs.declared.Module.{Module}
use Rattle.model.specs.State.{is_active, vcpu_at, with_vcpu}
use Rattle.model.specs.Doorbell.{Part}
use Rattle.model.specs.Ipi.{icr_item, icr_target, hits}
use Rattle.model.specs.Items.{pending, mark}
use Rattle.vector_set.specs.Bits.{one}
use Rattle.model.specs.Codes.{code_of, Answered, Verdict, accept, refuse, Answer, Result, done, counted, answers, refused, admission_result, presented_result}
use Rattle.model.specs.Requests.{forget}
use Rattle.model.specs.Events.{Reply, gives, sends, Effect, call_effect, Out, noticed, items_new, items_merged, entered, undelivered, emptied, hand_back_result}

-- the result of an event and its vCPU's record after it
pub record VcpuOut : Type 0 where
  pub result : Result
  pub vcpu : Vcpu

-- a notice that admits a (4.25 to 4.29, 4.37, 11.19)
unfoldable pub notice_on : Verdict → Part → Vcpu → VcpuOut
notice_on (refuse c) a v = record { result = refused (code_of c); vcpu = v }
notice_on accept a v = record { result = counted (items_new a v) (items_merged a v); vcpu = noticed a v }

-- an entry that is answered with o (8.3 to 8.15, 11.19)
unfoldable pub entry_on : Verdict → Answer → Vcpu → VcpuOut
entry_on (refuse c) o v = record { result = refused (code_of c); vcpu = v }
entry_on accept o v = record { result = answers o; vcpu = entered o (forget v) }

-- a non-delivery, where y is in flight (9.2 to 9.8, 11.19)
unfoldable pub non_delivery_on : Verdict → Option Item → Vcpu → VcpuOut
non_delivery_on (refuse c) y v = record { result = refused (code_of c); vcpu = v }
non_delivery_on accept y v = record { result = done 0; vcpu = undelivered y v }

-- a hand-back at the VMPL l (10.12 to 10.14, 11.19)
unfoldable pub hand_back_on : Verdict → ℕ → Bool → Bool → Vcpu → VcpuOut
hand_back_on (refuse c) l iF sh v = record { result = refused (code_of c); vcpu = v }
hand_back_on accept l iF sh v = record { result = done (hand_back_result l v.tpr iF sh); vcpu = emptied v }

-- the page after an event: q if it is accepted (11.19)
unfoldable pub page_on : Verdict → List ℕ → List ℕ → List ℕ
page_on (refuse c) q p = p
page_on accept q p = q

-- a call that asks for r, of the vCPU i at the count k: its answer or the ICR value to be sent, its caller's record and the count (5.3, 5.4, 7.19)
unfoldable pub call_on : Verdict → Parsed → ℕ → ℕ → Vcpu → Effect
call_on (refuse c) r i k v = record { reply = gives (refused (code_of c)); vcpu = v; registrations = k; page = [] }
call_on accept r i k v = call_effect r i k v

-- ---- an IPI, one record after the other
-- the bits of the vCPUs where the item became pending so far, and the module
pub record Sending : Type 0 where
  pub mask : ℕ
  pub after : Module

-- the vCPU k below n, when i sends the ICR value x: an active target is reached, and named where the item was not pending (7.16, 7.17, 7.20)
unfoldable pub send_at : ℕ → ℕ → ℕ → Sending → Sending
send_at i x k s =
    cond (hits (icr_target x) i k && is_active (vcpu_at s.after k).phase)
    (record {
      mask = bit_or s.mask (one (not (pending (icr_item x) (vcpu_at s.after k))) * 2 ^ k);
      after = with_vcpu s.after k (mark (icr_item x) (vcpu_at s.after k));
    })
    s

-- after the vCPUs below k (7.16)
unfoldable pub send_below : ℕ → ℕ → Module → ℕ → Sending
send_below i x m zero = record { mask = 0; after = m }
send_below i x m (suc k) = send_at i x k (send_below i x m k)

-- what a call that sends gives: the vCPUs named, and the module after the IPI (7.20)
abbrev pub delivered : Sending → Out
delivered s = record { result = done s.mask; after = s.after; page = [] }

-- ---- what the functions answer, in these terms (13.9)
-- of the record v: a refusal leaves it as it was (11.19)
abbrev pub refused_out : Refusal → Vcpu → VcpuOut
refused_out c v = record { result = refused (code_of c); vcpu = v }

-- a non-delivery of v gives 0 with the record after it (9.7)
abbrev pub returned_out : Vcpu → Answered Vcpu → VcpuOut
returned_out v (Ok w) = record { result = done 0; vcpu = w }
returned_out v (Err c) = refused_out c v

abbrev pub noticed_vcpu : Vcpu → Answered (VcpuStepped Counts) → VcpuOut
noticed_vcpu v (Ok r) = record { result = admission_result (Ok r.answer); vcpu = r.vcpu }
noticed_vcpu v (Err c) = refused_out c v

abbrev pub entered_vcpu : Vcpu → Answered (VcpuStepped Presentation) → VcpuOut
entered_vcpu v (Ok r) = record { result = presented_result (Ok r.answer); vcpu = r.vcpu }
entered_vcpu v (Err c) = refused_out c v

abbrev pub reply_of : Called → Reply
reply_of (called.Gives x) = gives (done x)
reply_of (called.Sends x) = sends x

-- of the caller's record v, at the count k
abbrev pub called_out : ℕ → Vcpu → Answered VcpuCalled → Effect
called_out k v (Ok r) = record { reply = reply_of r.reply; vcpu = r.vcpu; registrations = r.registrations; page = [] }
called_out k v (Err c) = record { reply = gives (refused (code_of c)); vcpu = v; registrations = k; page = [] }
