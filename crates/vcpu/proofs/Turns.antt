-- A turn of an IPI's loop, by value and in place: a vCPU that is reached is posted to, another is left.
-- Assumes nothing.
use mathlib.Core.Path.{◌≡◌, refl, sym, ap, ap₂, ◌∙◌}
use mathlib.Core.Bool.{Bool, true, false, not, ◌&&◌}
use Prim.Native.Nat.{ℕ, ◌+◌, ◌*◌, ◌%◌, ◌^◌, ◌<◌}
use native.Mathlib.Nat.{zero-mul}
use native.Mathlib.Numerals.{add-one}
use native.Mathlib.Omega.{arith}
use lib.Bits.{bit_or}
use lib.ListN.{get_or}
use lib.Pow.{shl_exact}
use mir.Val.{bool_byte}
use Rattle.vector_set.specs.Bits.{one, bit_at, bits}
use Rattle.vector_set.proofs.Laws.{Words}
use Rattle.model.specs.declared.Vcpu.{Vcpu}
use Rattle.model.specs.declared.Module.{Module}
use Rattle.model.specs.State.{is_active, vcpu_at, with_vcpu}
use Rattle.model.specs.Items.{pending}
use Rattle.model.specs.Ipi.{icr_item, icr_target, hits}
use Rattle.ipi.specs.declared.Posting.{Posting}
use Rattle.ipi.specs.Posts.{posting_of, Posted, is_new}
use Rattle.model.proofs.Kept.{sent_item}
use Rattle.ipi.proofs.Marks.{byte_sent}
use Rattle.ipi.proofs.Masks.{mask_bit}
use Rattle.ipi.proofs.Singles.{new_is}
use Rattle.vcpu.specs.Records.{Sending, send_at, send_below}

abbrev pub sent_to : ℕ → Module → Sending
sent_to b g = record { mask = b; after = g }

-- the vCPU k, when i sends x; y has the targets' bits, and r is what `reaches` told
module _ (i x k : ℕ) (below : k < 32) (g : Module) (b y : ℕ) (y_is : y ≡ bits (hits (icr_target x) i) 0 32) (r : Bool)
    (r-is : r ≡ (bit_at y k && is_active (vcpu_at g k).phase)) where
  told : r ≡ (hits (icr_target x) i k && is_active (vcpu_at g k).phase)
  told =
      r-is ∙ ap (λ (t : Bool). t && is_active (vcpu_at g k).phase) (ap (λ (z : ℕ). bit_at z k) y_is ∙ mask_bit (hits (icr_target x) i) k below)

  shifted : (t : Bool) → (bool_byte t * 2 ^ k) % 2 ^ 64 ≡ one t * 2 ^ k
  shifted true = shl_exact {a = 1} 1 k 64 (omega arith) (omega arith)
  shifted false = ap (λ (z : ℕ). z % 2 ^ 64) (zero-mul (2 ^ k)) ∙ sym (zero-mul (2 ^ k))

  -- n says whether the item is new there, by the word and the mark
  pub reached : r ≡ true → (p : Posting) → p ≡ posting_of (icr_item x) → Words (vcpu_at g k).irr
      → (n : Bool) → n ≡ is_new p (get_or (vcpu_at g k).irr p.word 0) (vcpu_at g k).nmi → (w : Vcpu) → Posted p (vcpu_at g k) w
      → sent_to (bit_or b ((bool_byte n * 2 ^ k) % 2 ^ 64)) (with_vcpu g k w) ≡ send_at i x k (sent_to b g)
  unfolding send_at
  reached so p p_is ws n n-is w w-is =
      let y = icr_item x in
      let v = vcpu_at g k in
      let new : n ≡ not (pending y v) =
      n-is ∙ ap (λ (q : Posting). is_new q (get_or v.irr q.word 0) v.nmi) p_is ∙ new_is y v (sent_item x) (byte_sent x) ws in
      rw (sym told ∙ so)
      (ap₂ (λ (z : ℕ) (u : Vcpu). sent_to (bit_or b z) (with_vcpu g k u)) (shifted n ∙ ap (λ (t : Bool). one t * 2 ^ k) new) (w-is y p_is))

  pub passed : r ≡ false → sent_to b g ≡ send_at i x k (sent_to b g)
  unfolding send_at
  passed so = rw (sym told ∙ so)

-- ---- the loop
pub below_none : (i x : ℕ) (m : Module) → sent_to 0 m ≡ send_below i x m 0
unfolding send_below
below_none i x m = refl

pub below_next : (i x : ℕ) (m : Module) (k : ℕ) (s t : Sending) → t ≡ send_at i x k s → s ≡ send_below i x m k → t ≡ send_below i x m (k + 1)
unfolding send_below
below_next i x m k s t e so = rw add-one (e ∙ ap (send_at i x k) so)
