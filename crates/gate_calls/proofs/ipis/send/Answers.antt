-- A turn posts to the record that the value reaches; below the count all vCPUs have been gone through.
use Rattle.std.proofs.Common.{rules, arith, ◌≡◌, ℕ, ◌<◌, ◌*◌, ◌%◌, ◌^◌, length, [], bit_or, refl, ap, sym, ◌∙◌}
use mathlib.Core.Bool.{◌||◌, ◌&&◌}
use mathlib.Core.Path.{ap₂, subst}
use native.Mathlib.Nat.{le_antisymm}
use Rattle.vector_set.specs.Bits.{bit_at}
use lib.ListN.{get_or, set}
use Rattle.model.specs.declared.Vcpu.{Vcpu}
use Rattle.model.specs.declared.Module.{Module}
use Rattle.model.specs.State.{is_active, vcpu_at, with_vcpu, with_irr, with_nmi, with_summary}
use Rattle.model.specs.declared.Item.{Item}
use Rattle.model.specs.Ipi.{icr_item}
use Rattle.model.proofs.Stored.{size_le, put_same}
use Rattle.ipi.specs.declared.Posting.{Posting}
use Rattle.ipi.specs.Posts.{posting_of, Posted, is_new, summary_in}
use Rattle.ipi.proofs.Marks.{byte_sent, word_small, posted_is, posted_sent, sent_unchecked}
use Rattle.vcpu.specs.Records.{send_below}
use Rattle.vcpu.proofs.Turns.{sent_to, reached, passed, below_none, below_next}
use Rattle.gate.proofs.Known.{size_is}
use Rattle.gate_mut.proofs.InRow.{unread, is_here, puts_row, long_put, other_put}
use Rattle.gate_mut.proofs.Sized.{Sized, sized, long}
use Rattle.gate_calls.proofs.ipis.send.Goals as goal
use Rattle.gate_calls.proofs.ipis.send.Goals.{then-reaches, else-reaches}

-- what is stored of a record that is reached: no IPI posts a machine check
stored_of : Posting → ℕ → Vcpu → Vcpu
stored_of p s v = with_summary (bit_or v.summary s) (with_nmi (v.nmi || p.nmi) (with_irr (set v.irr p.word (bit_or (get_or v.irr p.word 0) p.bits)) v))

stored_is : (x : ℕ) (p : Posting) (s : ℕ) → p ≡ posting_of (icr_item x) → s ≡ summary_in p → (v : Vcpu) → Sized v → Posted p v (stored_of p s v)
unfolding stored_of
stored_is x p s p_is s_is v f =
    subst (λ (t : ℕ). Posted p v (with_summary (bit_or v.summary t) (stored_of p s v))) (sym s_is)
    (subst (Posted p v) (sym (posted_sent p v (ap (λ (q : Posting). q.machine_check) p_is ∙ sent_unchecked x)))
    (posted_is p v (rw p_is (word_small (icr_item x) (byte_sent x))) f.pending f.small))

pub loop-k-init : goal.loop-k-init
loop-k-init c = record { long = long c.args.m.now c.fits-m; rest = λ j h. refl; so = below_none _ _ _ }

-- what the value makes pending is in one of the eight words
in_word : (x : ℕ) (y : Item) (p : Posting) → p ≡ posting_of y → y ≡ icr_item x → p.word < 8
in_word x y p e f = rw (e, f) (word_small _ (byte_sent x))

pub bounds-v-posting : goal.bounds-v-posting
bounds-v-posting c = in_word c.args.value _ _ c.posting_of-posting.ensures c.item_of.ensures

pub offset_bounds-v-posting : goal.offset_bounds-v-posting
offset_bounds-v-posting c =
    let e : c.posting_of-posting.result.word < 8 = in_word c.args.value _ _ c.posting_of-posting.ensures c.item_of.ensures in
    search rules

pub bounds-v-posting-then-reaches : goal.bounds-v-posting-then-reaches
bounds-v-posting-then-reaches c = in_word c.args.value _ _ c.posting_of-posting.ensures c.item_of.ensures

pub offset_bounds-v-posting-then-reaches : goal.offset_bounds-v-posting-then-reaches
offset_bounds-v-posting-then-reaches c =
    let e : c.posting_of-posting.result.word < 8 = in_word c.args.value _ _ c.posting_of-posting.ensures c.item_of.ensures in
    search rules

pub loop-k-preserved : goal.loop-k-preserved
unfolding stored_of
loop-k-preserved c =
    let m = c.args.m.now in
    let x = c.args.value in
    let g = c.loop-k.m in
    let k = c.loop-k.k in
    let p = c.posting_of-posting.result in
    let p_is : p ≡ posting_of (icr_item x) = c.posting_of-posting.ensures ∙ ap posting_of c.item_of.ensures in
    let s = c.summary_of-summary.result in
    let below : k < 32 = omega (arith, c.loop-k-test.true, c.served-n.ensures, size_is m, size_le m) in
    let there : k < length g.vcpus = omega (arith, c.loop-k.invariant.long) in
    let at : get_or g.vcpus k unread ≡ vcpu_at g k = is_here g k there in
    let told : c.reaches.result ≡ (bit_at c.targets_of-targets.result k && is_active (vcpu_at g k).phase) =
    c.reaches.ensures ∙ ap (λ (v : Vcpu). bit_at c.targets_of-targets.result k && is_active v.phase) at in
    let good : Sized (vcpu_at g k) = subst Sized (sym (c.loop-k.invariant.rest k (omega arith))) (sized m c.fits-m k below) in
    elim c.if-reaches.branch [
      | then-reaches w ↦ (
          let u : Vcpu = stored_of p s (vcpu_at g k) in
          let after : c.if-reaches.m ≡ with_vcpu g k u = w.m-is ∙ puts_row g k there (stored_of p s) [] u refl in
          record {
            long = ap (λ (h : Module). length h.vcpus) after ∙ long_put g k u ∙ c.loop-k.invariant.long;
            rest = λ j h. ap (λ (h : Module). vcpu_at h j) after ∙ other_put g k u j (λ e. absurd (omega (arith, e, h))) ∙ c.loop-k.invariant.rest j (omega (arith, h));
            so = below_next c.args.caller x m k _ _
                (ap₂ sent_to (w.mask-is ∙ ap (λ (b : ℕ). bit_or c.loop-k.mask ((b * 2 ^ k) % 2 ^ 64)) w.from.ensures) after
                ∙ reached c.args.caller x k below g c.loop-k.mask c.targets_of-targets.result c.targets_of-targets.ensures c.reaches.result told w.if-reaches.true p p_is
                good.pending w.is_new-new.result (w.is_new-new.ensures ∙ ap (λ (v : Vcpu). is_new p (get_or v.irr p.word 0) v.nmi) at) u
                (stored_is x p s p_is c.summary_of-summary.ensures (vcpu_at g k) good))
                c.loop-k.invariant.so;
          })
      | else-reaches w ↦ (
          let after : c.if-reaches.m ≡ g = w.m-is ∙ puts_row g k there (λ (v : Vcpu). v) [] (vcpu_at g k) refl ∙ put_same g k in
          let bits : c.if-reaches.mask ≡ c.loop-k.mask = w.mask-is in
          record {
            long = ap (λ (h : Module). length h.vcpus) after ∙ c.loop-k.invariant.long;
            rest = λ j h. ap (λ (h : Module). vcpu_at h j) after ∙ c.loop-k.invariant.rest j (omega (arith, h));
            so = below_next c.args.caller x m k _ _
                (ap₂ sent_to bits after
                ∙ passed c.args.caller x k below g c.loop-k.mask c.targets_of-targets.result c.targets_of-targets.ensures c.reaches.result told w.if-reaches.false)
                c.loop-k.invariant.so;
          })
    ]

pub returns : goal.returns
returns c =
    c.loop-k.invariant.so
    ∙ ap (send_below c.args.caller c.args.value c.args.m.now)
    (le_antisymm c.loop-k.auto.k-end c.loop-k-test.false ∙ c.served-n.ensures ∙ size_is c.args.m.now)
