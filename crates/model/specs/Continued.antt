-- What holds from any module value on, whatever was before it: for what stands above the module, and for lists that begin anywhere (13.111 to 13.118).
-- Assumes nothing.
use Rattle.std.specs.Prelude.{◌≡◌, Bool, true, false, not, ◌||◌, List, ℕ, ◌*◌, ◌≤◌, eqb, length, take, drop}
use Rattle.std.specs.Prelude.{None}
use Rattle.model.specs.declared.Module.{Module}
use Rattle.model.specs.State.{size, vcpu_at, may_start, start, with_vcpu, with_flight}
use Rattle.model.specs.Codes.{accepted, code_in, presented_by}
use Rattle.model.specs.Events.{Act, notice, call, entry, non_delivery, hand_back, allow, at, Bytes, Event, knows, step, next, final}
use Rattle.model.specs.Reached.{Levelled, Sound}
use Rattle.model.specs.Demand2.{ReadsBack}
use Rattle.model.specs.SummaryClaims.{Summed}

-- a call that reads and does no more: call 0 or 2 (5.5, 5.21)
abbrev pub only_reads : {P : Type 0} → Act P → Bool
only_reads (notice p) = false
only_reads (call op c x) = eqb op 0 || eqb op 2
only_reads (entry iF sh bl) = false
only_reads non_delivery = false
only_reads (hand_back p iF sh) = false
only_reads (allow cs q) = false

-- the module u, with what was in flight in m on the vCPU i put back
abbrev pub put_back : Module → ℕ → Module → Module
put_back m i u = with_vcpu u i (with_flight (vcpu_at m i).flight (vcpu_at u i))

-- the 64 bytes of the VMPL l (10.3)
abbrev pub bytes_at : ℕ → Bytes → Bytes
bytes_at l p = take 64 (drop (64 * l) p)

pub record Continued : Type 0 where
  -- ---- over every list of events
  -- a sound record stays sound, whatever the others are, and so every record of a sound module (13.111)
  pub sound_stays : (m : Module) (es : List Event) (j : ℕ) → Sound (vcpu_at m j) → Sound (vcpu_at (final m es) j)
  -- a true summary stays true, be the record sound or not (13.111)
  pub summary_stays : (m : Module) (es : List Event) (j : ℕ) → Summed (vcpu_at m j) → Summed (vcpu_at (final m es) j)
  -- where the count is 0 it stays 0 (13.112)
  pub none_stays : (m : Module) (es : List Event) → m.registrations ≡ 0 → (final m es).registrations ≡ 0
  -- what stands at n and above stays (13.50)
  pub beyond_stays : (m : Module) (es : List Event) (j : ℕ) → size m ≤ j → vcpu_at (final m es) j ≡ vcpu_at m j
  -- n and the VMPL stay (13.110)
  pub size_stays : (m : Module) (es : List Event) → (final m es).n ≡ m.n
  pub level_stays : (m : Module) (es : List Event) → (final m es).vmpl ≡ m.vmpl
  -- ---- of one event
  -- code 1 is told by n, the VMPL and the vCPU's number alone, before all else (13.113)
  pub unknown_exactly : (m : Module) (e : Event) → eqb (code_in (step m e).result) 1 ≡ not (knows m e.vcpu)
  -- an event is accepted exactly if it has no code; no code is 0 (13.114)
  pub accepted_exactly : (m : Module) (e : Event) → accepted (step m e).result ≡ eqb (code_in (step m e).result) 0
  -- a call 0 or 2 changes what is in flight and nothing else (13.115)
  pub read_touches : (m : Module) (e : Event) → only_reads e.act ≡ true → put_back m e.vcpu (next m e) ≡ m
  -- no call presents anything (13.116)
  pub call_presents : (m : Module) (i op c x : ℕ) → presented_by (step m (at i (call op c x))).result ≡ None
  -- of its page a hand-back uses the length alone: one result, one module and one set of 64 bytes written (13.117)
  pub hand_back_alike : (m : Module) (i : ℕ) (p q : Bytes) (iF sh : Bool) → length p ≡ length q
      → ((step m (at i (hand_back p iF sh))).result ≡ (step m (at i (hand_back q iF sh))).result)
      × (next m (at i (hand_back p iF sh)) ≡ next m (at i (hand_back q iF sh)))
      × (accepted (step m (at i (hand_back p iF sh))).result ≡ true
      → bytes_at m.vmpl (step m (at i (hand_back p iF sh))).page ≡ bytes_at m.vmpl (step m (at i (hand_back q iF sh))).page)
  -- and it reads back where P and PL of the vCPU's record keep the rules, whether events reach it or not (13.118)
  pub read_back : (m : Module) (i : ℕ) → Levelled (vcpu_at m i).irr (vcpu_at m i).irr_level → (p : Bytes) (iF sh : Bool) → ReadsBack m i p iF sh
  -- ---- of start (3.2)
  pub starts_with : (n l : ℕ) → may_start n l ≡ true → ((start n l).n ≡ n) × ((start n l).vmpl ≡ l)
