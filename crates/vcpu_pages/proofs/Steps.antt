-- The steps of a module that a notice and a hand-back make, from what they make of the page and of one record.
-- Assumes nothing.
use mathlib.Core.Path.{◌≡◌, sym, ap, ap₂, ◌∙◌}
use mathlib.Core.Bool.{Bool, true, false}
use mathlib.Core.List.{List}
use Prim.Native.Nat.{ℕ, ◌<◌, ◌≤◌}
use lib.Bits.{bit_or}
use lib.ListN.{length}
use Rattle.std.specs.Prelude.{Option, None, Some, Ok, Err}
use Rattle.vector_set.specs.Sets.{collect, union}
use Rattle.vector_set.specs.Summaries.{summary_of}
use Rattle.model.specs.declared.Refusal.{Refusal}
use Rattle.model.specs.declared.Vcpu.{Vcpu}
use Rattle.model.specs.declared.Module.{Module}
use Rattle.model.specs.State.{size, vcpu_at, with_vcpu, with_irr, with_summary}
use Rattle.model.specs.Doorbell.{bit_of, many_bit, announces, descriptor, admits_edge, admitted, noticed_page, written}
use Rattle.model.specs.Codes.{code_of, Answered, done, counted, refused, result_of}
use Rattle.model.specs.Events.{notice, hand_back, at, vcpu_verdict, emptied, handed, hand_back_result, step, out_of, noticed_out}
use Rattle.model.specs.declared.Counts.{Counts}
use Rattle.descriptor.specs.Requests.{Asked, requested_in}
use Rattle.vcpu_pages.specs.Pages.{hand_back_verdict, hand_on}
use Rattle.vcpu_pages.proofs.Adds.{Fits, added, counts}
use Rattle.vcpu_pages.proofs.NoticeLaws as laws
use Rattle.vcpu_pages.proofs.PagesLaws.{handed_vcpu, handed_is}
use Rattle.vcpu.specs.Notices.{marks_counted}
use Rattle.vcpu.specs.Records.{VcpuOut, notice_on, hand_back_on, page_on}
use Rattle.vcpu.proofs.Lift.{on_record, lift_notice, lift_hand_back}
use Rattle.vcpu.proofs.Steps.{kept, vmpl_in}

-- ---- the events, by what they make of the record v of the vCPU i
module _ (m : Module) (i : ℕ) (h : i < size m) (v : Vcpu) (here : v ≡ vcpu_at m i) where
  -- a notice that gave the record and the result o, and the page q
  pub noticed_on : (p q : List ℕ) (o : VcpuOut) → o ≡ notice_on (vcpu_verdict 0 0 v (notice p)) (admitted m.vmpl v.allowed p) v
      → q ≡ page_on (vcpu_verdict 0 0 v (notice p)) (noticed_page m.vmpl p) p → on_record m i o q ≡ step m (at i (notice p))
  noticed_on p q o e f =
      ap₂ (λ (u : VcpuOut) (y : List ℕ). on_record m i u y)
      (e ∙ ap (λ (u : Vcpu). notice_on (vcpu_verdict 0 0 u (notice p)) (admitted m.vmpl u.allowed p) u) here)
      (f ∙ ap (λ (u : Vcpu). page_on (vcpu_verdict 0 0 u (notice p)) (noticed_page m.vmpl p) p) here)
      ∙ sym (lift_notice m i h p)

  handed_on : (p q : List ℕ) (iF sh : Bool) (o : VcpuOut) → o ≡ hand_back_on (vcpu_verdict 0 0 v (hand_back p iF sh)) m.vmpl iF sh v
      → q ≡ page_on (vcpu_verdict 0 0 v (hand_back p iF sh)) (written m.vmpl (handed v) p) p → on_record m i o q ≡ step m (at i (hand_back p iF sh))
  handed_on p q iF sh o e f =
      ap₂ (λ (u : VcpuOut) (y : List ℕ). on_record m i u y)
      (e ∙ ap (λ (u : Vcpu). hand_back_on (vcpu_verdict 0 0 u (hand_back p iF sh)) m.vmpl iF sh u) here)
      (f ∙ ap (λ (u : Vcpu). page_on (vcpu_verdict 0 0 u (hand_back p iF sh)) (written m.vmpl (handed u) p) p) here)
      ∙ sym (lift_hand_back m i h p iF sh)

  module _ (p q : List ℕ) where
    -- a notice that is refused
    pub notice_refused : (c : Refusal) → laws.Gives m.vmpl v p (record { result = refused (code_of c); vcpu = v }) q
        → noticed_out (record { answer = Err c; after = m }) q ≡ step m (at i (notice p))
    unfolding vcpu_verdict
    notice_refused c w = kept m i h v here (refused (code_of c)) q ∙ noticed_on p q _ w.0 w.1

    module _ (r : Answered (Option Asked)) (w : laws.Takes m.vmpl v p q r) where
      pub taken_refused : (c : Refusal) → r ≡ Err c → noticed_out (record { answer = Err c; after = m }) q ≡ step m (at i (notice p))
      taken_refused c e = notice_refused c (laws.record_refused m.vmpl v p q r w c e)

      pub notice_kept : Fits v → r ≡ Ok None → noticed_out (record { answer = Ok (record { new = 0; merged = 0 }); after = m }) q ≡ step m (at i (notice p))
      unfolding vcpu_verdict
      notice_kept fit e =
          let z = laws.record_kept m.vmpl v p q r fit w e in
          kept m i h v here (counted 0 0) q ∙ noticed_on p q _ z.0 z.1

      module _ (x : Asked) (t : r ≡ Ok (Some x)) where
        pub notice_one : x.posting.word < 8 → Fits v → x.many ≡ false → (c : Counts) → c ≡ counts v x
            → noticed_out (record { answer = Ok c; after = with_vcpu m i (added v x) }) q ≡ step m (at i (notice p))
        unfolding vcpu_verdict
        notice_one below fit f c e = let z = laws.record_one m.vmpl v p q r w x t below fit f c e in noticed_on p q _ z.0 z.1

        pub marks_asked : x.many ≡ true
            → (256 ≤ length q) × (1 ≤ m.vmpl) × (m.vmpl ≤ 3) × (announces m.vmpl q ≡ true)
            × (bit_of (descriptor m.vmpl q) many_bit ≡ true) × (x ≡ requested_in v.allowed (descriptor m.vmpl q))
        marks_asked f =
            let z = laws.still_asks m.vmpl v p q r w x t f in
            let l = vmpl_in m i h in
            (z.0, l.0, l.1, z.1, z.2, z.3)

        pub notice_many : x.many ≡ true → x.posting.word < 8 → Fits v
            → (e z : List ℕ) → e ≡ collect (admits_edge v.allowed (descriptor m.vmpl q)) → z ≡ noticed_page m.vmpl q
            → (c : Counts) → c ≡ marks_counted (counts v x) e (added v x).irr
            → (s : List ℕ) → s ≡ union (added v x).irr e → (y : ℕ) → y ≡ bit_or (added v x).summary (summary_of e)
            → noticed_out (record { answer = Ok c; after = with_vcpu m i (with_summary y (with_irr s (added v x))) }) z ≡ step m (at i (notice p))
        unfolding vcpu_verdict
        notice_many f below fit e z g j c k s u y b =
            let o = laws.record_many m.vmpl v p q r w x t f below fit e z g j c k s u y b in noticed_on p z _ o.0 o.1

    -- ---- a hand-back
    abbrev pub Hands : Bool → Bool → Answered ℕ → Type 0
    Hands iF sh r =
        (result_of r ≡ hand_on (hand_back_verdict v.phase p) (hand_back_result m.vmpl v.tpr iF sh))
        × (q ≡ page_on (hand_back_verdict v.phase p) (written m.vmpl (handed v) p) p)

    module _ (iF sh : Bool) (r : Answered ℕ) (s : Hands iF sh r) where
      handed_step : on_record m i (handed_vcpu v r) q ≡ step m (at i (hand_back p iF sh))
      unfolding vcpu_verdict
      handed_step = handed_on p q iF sh _ (handed_is m.vmpl iF sh v (hand_back_verdict v.phase p) r s.0) s.1

      pub hand_back_refused : (c : Refusal) → r ≡ Err c → out_of (record { answer = Err c; after = m }) q ≡ step m (at i (hand_back p iF sh))
      hand_back_refused c e =
          kept m i h v here (refused (code_of c)) q ∙ sym (ap (λ (a : Answered ℕ). on_record m i (handed_vcpu v a) q) e) ∙ handed_step

      pub handed_back : (x : ℕ) → r ≡ Ok x → (w : Vcpu) → w ≡ emptied v
          → out_of (record { answer = Ok x; after = with_vcpu m i w }) q ≡ step m (at i (hand_back p iF sh))
      handed_back x e w f =
          ap (λ (u : Vcpu). on_record m i (record { result = done x; vcpu = u }) q) f
          ∙ sym (ap (λ (a : Answered ℕ). on_record m i (handed_vcpu v a) q) e) ∙ handed_step
