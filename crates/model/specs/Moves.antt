-- Where the vector that an event moves ends, what a write stores and a read gives, and what is left of a page (13.119 to 13.125). Of every module value.
-- Assumes nothing.
use Rattle.std.specs.Prelude.{◌≡◌, Bool, true, false, cond, ◌&&◌, ◌||◌, ℕ, ◌+◌, ◌*◌, ◌/◌, ◌<◌, ◌≤◌, eqb, length, get_or}
use Rattle.std.specs.Prelude.{None, Some}
use Rattle.model.specs.declared.InFlight.TheVariants as flight
use Rattle.model.specs.declared.Item.TheVariants.{Vector}
use Rattle.model.specs.declared.Vcpu.{Vcpu}
use Rattle.model.specs.declared.Module.{Module}
use Rattle.model.specs.State.{vcpu_at}
use Rattle.model.specs.Codes.{presents, done, answers}
use Rattle.model.specs.Doorbell.{bit_of}
use Rattle.model.specs.Registers.{within}
use Rattle.model.specs.Events.{notice, call, entry, non_delivery, hand_back, at, Bytes, step, next}
use Rattle.model.specs.Touches.{Field, set_in}
use Rattle.vector_set.specs.Sets.{has, highest}

-- x is in service in w and pending as level-sensitive no more; it is level-sensitive in service if it was there, or pending so, in v
abbrev pub Served : ℕ → Vcpu → Vcpu → Type 0
Served x v w =
    (has w.isr x ≡ true) × (has w.irr_level x ≡ false) × (has w.isr_level x ≡ (has v.isr_level x || has v.irr_level x))

-- x is not in service in w; it is pending as level-sensitive if it was so, or in service so, in v
abbrev pub Requeued : ℕ → Vcpu → Vcpu → Type 0
Requeued x v w =
    (has w.isr x ≡ false) × (has w.isr_level x ≡ false) × (has w.irr_level x ≡ (has v.irr_level x || has v.isr_level x))

-- the bits of a page that a notice at the VMPL l may change: bit 7 + l of the word at byte 2, and the 32 bytes from byte 64 l on (4.5, 4.7, 4.31)
abbrev pub notice_bit : ℕ → ℕ → Bool
notice_bit l k = eqb k (23 + l) || within (512 * l) (512 * l + 255) k

-- a call whose answer tells something: call 2, and a write of EOI, self-IPI or ICR (5.23, 6.26, 7.20, 7.22)
abbrev pub tells : ℕ → ℕ → Bool
tells op c = eqb op 2 || (eqb op 3 && (eqb c 0x80B || eqb c 0x83F || eqb c 0x830))

pub record Moves : Type 0 where
  -- an entry that presents a vector (13.119)
  pub presented : (m : Module) (i : ℕ) (iF sh bl : Bool) (x : ℕ) → x < 256 → (step m (at i (entry iF sh bl))).result ≡ answers (presents (Vector x))
      → Served x (vcpu_at m i) (vcpu_at (next m (at i (entry iF sh bl))) i)
  -- its class is above that of the TPR and of all that is in service (13.124)
  pub above_tpr : (m : Module) (i : ℕ) (iF sh bl : Bool) (x : ℕ) → (step m (at i (entry iF sh bl))).result ≡ answers (presents (Vector x))
      → (vcpu_at m i).tpr / 16 < x / 16
  pub above_served : (m : Module) (i : ℕ) (iF sh bl : Bool) (x y : ℕ) → (step m (at i (entry iF sh bl))).result ≡ answers (presents (Vector x)) → y < 256
      → has (vcpu_at m i).isr y ≡ true → y / 16 < x / 16
  -- a non-delivery that returns one; it gives 0 (13.119)
  pub return_gives : (m : Module) (i r : ℕ) → (step m (at i non_delivery)).result ≡ done r → r ≡ 0
  pub returned : (m : Module) (i r x : ℕ) → x < 256 → (vcpu_at m i).flight ≡ flight.Vector x → (step m (at i non_delivery)).result ≡ done r
      → Requeued x (vcpu_at m i) (vcpu_at (next m (at i non_delivery)) i)
  -- an EOI: with x the highest in service, and with nothing there (13.120)
  pub ended : (m : Module) (i r x : ℕ) → x < 256 → highest (vcpu_at m i).isr ≡ Some x → (step m (at i (call 3 0x80B 0))).result ≡ done r
      → (has (vcpu_at (next m (at i (call 3 0x80B 0))) i).isr x ≡ false)
      × (has (vcpu_at (next m (at i (call 3 0x80B 0))) i).isr_level x ≡ false)
      × (r ≡ cond (has (vcpu_at m i).isr_level x) x 0)
  pub ended_none : (m : Module) (i r : ℕ) → highest (vcpu_at m i).isr ≡ None → (step m (at i (call 3 0x80B 0))).result ≡ done r → r ≡ 0
  -- a hand-back empties every set (13.121)
  pub handed_back : (m : Module) (i r : ℕ) (p : Bytes) (iF sh : Bool) (f : Field) (x : ℕ) → x < 256 → (step m (at i (hand_back p iF sh))).result ≡ done r
      → has (set_in f (vcpu_at (next m (at i (hand_back p iF sh))) i)) x ≡ false
  -- a write of the TPR and of the ICR stores the value; ID, TPR and ICR read as they are (13.122)
  pub tpr_stored : (m : Module) (i x r : ℕ) → (step m (at i (call 3 0x808 x))).result ≡ done r → (vcpu_at (next m (at i (call 3 0x808 x))) i).tpr ≡ x
  pub icr_stored : (m : Module) (i x r : ℕ) → (step m (at i (call 3 0x830 x))).result ≡ done r → (vcpu_at (next m (at i (call 3 0x830 x))) i).icr ≡ x
  pub id_reads : (m : Module) (i z r : ℕ) → (step m (at i (call 2 0x802 z))).result ≡ done r → r ≡ i
  pub tpr_reads : (m : Module) (i z r : ℕ) → (step m (at i (call 2 0x808 z))).result ≡ done r → r ≡ (vcpu_at m i).tpr
  pub icr_reads : (m : Module) (i z r : ℕ) → (step m (at i (call 2 0x830 z))).result ≡ done r → r ≡ (vcpu_at m i).icr
  -- an accepted call gives 0 unless it is a read, an EOI or an IPI (13.125)
  pub call_gives : (m : Module) (i op c x r : ℕ) → tells op c ≡ false → (step m (at i (call op c x))).result ≡ done r → r ≡ 0
  -- ---- of a page, accepted or not
  -- a notice that announces nothing leaves its page (13.123)
  pub notice_quiet : (m : Module) (i : ℕ) (p : Bytes) → bit_of p (23 + m.vmpl) ≡ false → (step m (at i (notice p))).page ≡ p
  -- a notice keeps its length and every bit but those of its VMPL, and sets none (13.123)
  pub notice_length : (m : Module) (i : ℕ) (p : Bytes) → length (step m (at i (notice p))).page ≡ length p
  pub notice_keeps : (m : Module) (i : ℕ) (p : Bytes) (k : ℕ) → k < 8 * length p → notice_bit m.vmpl k ≡ false
      → bit_of (step m (at i (notice p))).page k ≡ bit_of p k
  pub notice_clears : (m : Module) (i : ℕ) (p : Bytes) (k : ℕ) → k < 8 * length p → bit_of p k ≡ false → bit_of (step m (at i (notice p))).page k ≡ false
  -- a hand-back keeps its length and every byte but its 64 (13.123)
  pub hand_back_length : (m : Module) (i : ℕ) (p : Bytes) (iF sh : Bool) → length (step m (at i (hand_back p iF sh))).page ≡ length p
  pub hand_back_before : (m : Module) (i : ℕ) (p : Bytes) (iF sh : Bool) (j : ℕ) → j < 64 * m.vmpl
      → get_or (step m (at i (hand_back p iF sh))).page j 0 ≡ get_or p j 0
  pub hand_back_behind : (m : Module) (i : ℕ) (p : Bytes) (iF sh : Bool) (j : ℕ) → 64 * m.vmpl + 64 ≤ j
      → get_or (step m (at i (hand_back p iF sh))).page j 0 ≡ get_or p j 0
