-- Demand 2, proved.
-- Assumes nothing.
use mathlib.Core.Path.{◌≡◌, refl}
use mathlib.Core.Bool.{Bool, true, false, cond, ◌&&◌}
use mathlib.Core.List.{List}
use Prim.Native.Nat.{ℕ, ◌<◌, ◌≤◌}
use native.Mathlib.Nat.{not-suc-le-zero}
use lib.Dec.{leb, ltb}
use lib.ListN.{length}
use borrow.Author.Tests.{ltb-true, leb-true}
use Rattle.model.specs.declared.Refusal.TheVariants.{UnknownVcpu, ShortPage}
use Rattle.model.specs.declared.Module.{Module}
use Rattle.model.specs.State.{is_leaving, size, vcpu_at, start}
use Rattle.model.specs.Codes.{Verdict, accept, refuse, done}
use Rattle.model.specs.Doorbell.{long_enough, admitted}
use Rattle.model.specs.Events.{hand_back, at, Bytes, Event, hand_back_refusal, vcpu_verdict, verdict, effect, concluded, decided, step, final}
use Rattle.model.specs.Reached.{Levelled, Sound}
use Rattle.model.specs.Demand2.{announce, pending_part, ReadsBack, Demand2}
use Rattle.vector_set.specs.Sets.{full}
use Rattle.vector_set.proofs.Laws.{clash}
use Rattle.model.proofs.Stored.{needed}
use Rattle.model.proofs.Allowed.{nmi_admitted_lem, machine_check_admitted_lem}
use Rattle.model.proofs.SoundRecords.{formed_of, sound_of}
use Rattle.model.proofs.Reached.{final_formed, formed_reached}
use Rattle.model.proofs.Summarised.{final_summed, reached_summed}
use Rattle.model.proofs.ReadBack.{read_back_lem}
use Rattle.model.proofs.Kept.{keeps_level_lem, calls_keep_pending_lem, keeps_inactive_lem, keeps_beyond_lem}
use Rattle.model.proofs.Listed.{list_is_calls_lem, list_gives_lem, list_writes_lem}
use Rattle.model.proofs.Called.{calls_forget_lem, call_permits_lem}
use Rattle.model.proofs.IcrBits.{reserved, set_apart_lem, same_delivery_lem}
use Rattle.model.proofs.IcrWrites.{same_write_lem, icr_reads_lem}
use Rattle.model.proofs.NoticeCounts.{notice_new_lem, notice_sum_lem, notice_pends_lem, notice_levels_lem}
use Rattle.model.proofs.IpiNames.{icr_names_lem, self_names_lem, icr_reaches_lem, self_reaches_lem}
use Rattle.model.proofs.Presented.{machine_check_first_lem, entry_pends_lem, entry_flight_lem, return_pends_lem, return_flight_lem, hand_back_empties_lem}
use Rattle.model.proofs.ChecksApart.{calls_apart_lem}

-- ---- what acceptance tells
-- a vCPU is below n only where L is 1 to 3
pub vmpl_in : (m : Module) (i : ℕ) → i < size m → (1 ≤ m.vmpl) × (m.vmpl ≤ 3)
unfolding size
vmpl_in m i h = pick (leb m.n 32) (leb 1 m.vmpl) (leb m.vmpl 3) refl refl h
  where
    pick : (a b c : Bool) → leb 1 m.vmpl ≡ b → leb m.vmpl 3 ≡ c → i < cond (a && b && c) m.n 0 → (1 ≤ m.vmpl) × (m.vmpl ≤ 3)
    pick true true true p q l = (leb-true 1 m.vmpl p, leb-true m.vmpl 3 q)
    pick true true false p q l = absurd (not-suc-le-zero l)
    pick true false c p q l = absurd (not-suc-le-zero l)
    pick false b c p q l = absurd (not-suc-le-zero l)

pub accepted_in : (m : Module) (i : ℕ) (p : Bytes) (iF sh : Bool) → verdict m (at i (hand_back p iF sh)) ≡ accept
    → (ltb i (size m) ≡ true) × (long_enough p ≡ true)
unfolding verdict vcpu_verdict
accepted_in m i p iF sh e =
    let a = needed (ltb i (size m)) UnknownVcpu _ e in
    let b = needed (is_leaving (vcpu_at m i).phase) (hand_back_refusal (vcpu_at m i).phase) _ a.1 in
    (a.0, (needed (long_enough p) ShortPage accept b.1).0)

-- ---- the read-back
pub reads_back : (m : Module) (i : ℕ) → Levelled (vcpu_at m i).irr (vcpu_at m i).irr_level → (p : Bytes) (iF sh : Bool) → ReadsBack m i p iF sh
unfolding step concluded effect
reads_back m i s p iF sh = over (verdict m (at i (hand_back p iF sh))) (accepted_in m i p iF sh)
  where
    over : (g : Verdict) → (g ≡ accept → (ltb i (size m) ≡ true) × (long_enough p ≡ true)) → (r : ℕ) → (decided g m (at i (hand_back p iF sh))).result ≡ done r
        → admitted m.vmpl full (announce m.vmpl (decided g m (at i (hand_back p iF sh))).page) ≡ pending_part (vcpu_at m i)
    over (refuse c) h r e = clash (cc)
    over accept h r e =
        let a = h refl in
        let b = vmpl_in m i (ltb-true i (size m) a.0) in
        read_back_lem m.vmpl (vcpu_at m i) p s b.0 b.1 (leb-true 256 (length p) a.1)

-- ---- soundness
pub sound_final : (m : Module) (es : List Event) (j : ℕ) → Sound (vcpu_at m j) → Sound (vcpu_at (final m es) j)
sound_final m es j h =
    sound_of (vcpu_at (final m es) j) (final_formed es m j (formed_of (vcpu_at m j) h)) (final_summed es m j (h.ruled.irr.words, h.ruled.summary)).1

sound_reached : (n l : ℕ) (es : List Event) (i : ℕ) → Sound (vcpu_at (final (start n l) es) i)
sound_reached n l es i = sound_of (vcpu_at (final (start n l) es) i) (formed_reached n l es i) (reached_summed n l es i).1

pub demand2 : Demand2
demand2 =
    record {
      reached = sound_reached;
      read_back = λ n l es i. reads_back (final (start n l) es) i (sound_reached n l es i).ruled.irr;
      keeps_level = keeps_level_lem;
      calls_keep_pending = calls_keep_pending_lem;
      keeps_inactive = keeps_inactive_lem;
      reserved = reserved;
      set_apart = set_apart_lem;
      same_delivery = same_delivery_lem;
      same_write = same_write_lem;
      icr_reads = icr_reads_lem;
      notice_new = notice_new_lem;
      notice_sum = notice_sum_lem;
      icr_names = icr_names_lem;
      self_names = self_names_lem;
      icr_reaches = icr_reaches_lem;
      notice_pends = notice_pends_lem;
      notice_levels = notice_levels_lem;
      self_reaches = self_reaches_lem;
      keeps_beyond = keeps_beyond_lem;
      machine_check_first = machine_check_first_lem;
      entry_pends = entry_pends_lem;
      entry_flight = entry_flight_lem;
      return_pends = return_pends_lem;
      return_flight = return_flight_lem;
      hand_back_empties = hand_back_empties_lem;
      calls_apart = calls_apart_lem;
      calls_forget = calls_forget_lem;
      nmi_admitted = nmi_admitted_lem;
      machine_check_admitted = machine_check_admitted_lem;
      call_permits = call_permits_lem;
      list_is_calls = list_is_calls_lem;
      list_gives = list_gives_lem;
      list_writes = list_writes_lem;
    }
