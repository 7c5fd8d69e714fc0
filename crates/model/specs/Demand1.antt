-- Demand 1: nobody can stop the module (13.1 to 13.5, 13.101, 13.102, 13.105, 13.106). That every event ends is said by the functions' proofs.
-- Assumes nothing.
use Rattle.std.specs.Prelude.{◌≡◌, Bool, true, false, cond, List, ℕ, ◌<◌, ◌≤◌, ltb, length}
use Rattle.std.specs.Prelude.{Option, None, Some}
use Rattle.model.specs.declared.Module.{Module}
use Rattle.model.specs.State.{is_active, is_leaving, has_left, size, vcpu_at, stopped}
use Rattle.model.specs.Codes.{refused, refusal_of}
use Rattle.model.specs.Registers.{within}
use Rattle.model.specs.Events.{notice, hand_back, allow, at, Bytes, Event, page_of, step, do_start}
use Rattle.model.specs.Causes.{is_hand_back, first_cause, causes, start_causes}

-- the code for a page of k bytes, if it is too short (11.2, 13.105)
abbrev pub short_code : ℕ → Option ℕ
short_code k = cond (ltb k 256) (Some 2) None

pub record Demand1 : Type 0 where
  -- the code is that of the first cause that holds, and an event is accepted where none does
  pub refusals : (m : Module) (e : Event) → refusal_of (step m e).result ≡ first_cause (causes m e)
  -- where an event is refused, the module and the page or second list are those of before
  pub unchanged : (m : Module) (e : Event) (c : ℕ) → (step m e).result ≡ refused c → ((step m e).after ≡ m) × ((step m e).page ≡ page_of e.act)
  -- said of a page and of a second list themselves
  pub notice_kept : (m : Module) (i : ℕ) (p : Bytes) (c : ℕ) → (step m (at i (notice p))).result ≡ refused c → (step m (at i (notice p))).page ≡ p
  pub hand_back_kept : (m : Module) (i : ℕ) (p : Bytes) (iF sh : Bool) (c : ℕ) → (step m (at i (hand_back p iF sh))).result ≡ refused c
      → (step m (at i (hand_back p iF sh))).page ≡ p
  pub list_kept : (m : Module) (i : ℕ) (cs : List ℕ) (q : Bytes) (c : ℕ) → (step m (at i (allow cs q))).result ≡ refused c → (step m (at i (allow cs q))).page ≡ q
  -- start
  pub starts : (n l : ℕ) → refusal_of (do_start n l).result ≡ first_cause (start_causes n l)
  pub unstarted : (n l c : ℕ) → (do_start n l).result ≡ refused c → (do_start n l).after ≡ stopped
  -- what a refused start gives, and that it refuses every event
  pub none : stopped.n ≡ 0
  pub first : stopped.vmpl ≡ 1
  pub unregistered : stopped.registrations ≡ 0
  pub ended : (e : Event) → (step stopped e).result ≡ refused 1
  -- a value that start could not have given, by its n or its L, refuses every event with code 1
  pub too_many : (m : Module) (e : Event) → 32 < m.n → (step m e).result ≡ refused 1
  pub no_level : (m : Module) (e : Event) → within 1 3 m.vmpl ≡ false → (step m e).result ≡ refused 1
  -- an event whose vCPU is not below n (13.106)
  pub unknown : (m : Module) (e : Event) → size m ≤ e.vcpu → (step m e).result ≡ refused 1
  -- an event other than a hand-back on a vCPU below n that is leaving or has left, whatever its arguments (13.102)
  pub inactive : (m : Module) (e : Event) → e.vcpu < size m → is_active (vcpu_at m e.vcpu).phase ≡ false → is_hand_back e.act ≡ false
      → (step m e).result ≡ refused 0x80000001
  -- a hand-back of a vCPU below n, whatever IF and shadow: of an active one (13.101)
  pub hand_back_of_active : (m : Module) (i : ℕ) (p : Bytes) (iF sh : Bool) → i < size m → is_active (vcpu_at m i).phase ≡ true
      → (step m (at i (hand_back p iF sh))).result ≡ refused 3
  -- of one that has left (13.102)
  pub hand_back_of_left : (m : Module) (i : ℕ) (p : Bytes) (iF sh : Bool) → i < size m → has_left (vcpu_at m i).phase ≡ true
      → (step m (at i (hand_back p iF sh))).result ≡ refused 7
  -- and of a leaving one: here alone the page counts (13.105)
  pub hand_back_of_leaving : (m : Module) (i : ℕ) (p : Bytes) (iF sh : Bool) → i < size m → is_leaving (vcpu_at m i).phase ≡ true
      → refusal_of (step m (at i (hand_back p iF sh))).result ≡ short_code (length p)
