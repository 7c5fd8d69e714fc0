-- A notice on one record, by what was taken from its page: its answer, record and page are what the model says. Assumes nothing.
use mathlib.Core.Path.{◌≡◌, refl, ap, ap₂, ◌∙◌}
use mathlib.Core.Bool.{Bool, true, false, cond}
use mathlib.Core.List.{List}
use Prim.Native.Nat.{ℕ, ◌<◌, ◌≤◌}
use lib.Bits.{bit_or}
use lib.ListN.{length}
use borrow.Author.Tests.{leb-true}
use Rattle.std.specs.Prelude.{Option, None, Some, Ok, Err}
use Rattle.vector_set.specs.Sets.{collect, union}
use Rattle.vector_set.specs.Summaries.{summary_of}
use Rattle.vector_set.proofs.Laws.{clash}
use Rattle.model.specs.declared.Refusal.{Refusal}
use Rattle.model.specs.declared.Refusal.TheVariants.{NotActive, ShortPage}
use Rattle.model.specs.declared.Vcpu.{Vcpu}
use Rattle.model.specs.State.{is_active, with_irr, with_summary}
use Rattle.model.specs.Doorbell.{bit_of, many_bit, announces, descriptor, long_enough, no_part, admits_edge, admits, admitted, noticed_page}
use Rattle.model.specs.Events.{noticed, items_new}
use Rattle.model.specs.Codes.{Answered, Verdict, accept, refuse, need, counted}
use Rattle.model.specs.declared.Counts.{Counts}
use Rattle.descriptor.specs.Requests.{Asked, requested_in}
use Rattle.doorbell.specs.Takes.{taken_from, taken_page}
use Rattle.vcpu.specs.Notices.{marks_counted}
use Rattle.vcpu.specs.Records.{VcpuOut, notice_on, page_on, refused_out}
use Rattle.vcpu_pages.specs.Pages.{page_verdict, notice_verdict, take_on}
use Rattle.vcpu_pages.proofs.Adds.{Fits, added, counts, many_of, one_is, many_is, none_is}

-- two verdicts differ
refused_not : {c : Refusal} → refuse c ≡ accept → ⊥
refused_not e = clash (ap code e)
  where
    code : Verdict → ℕ
    code (refuse c) = 0
    code accept = 1

-- an accepted page is long enough
long_enough_lem : (b : Bool) (c : Refusal) (p : List ℕ) → page_verdict b c p ≡ accept → 256 ≤ length p
long_enough_lem false c p e = absurd (refused_not e)
long_enough_lem true c p e = go (long_enough p) refl e
  where
    go : (t : Bool) → long_enough p ≡ t → need t ShortPage accept ≡ accept → 256 ≤ length p
    go true e f = leb-true 256 (length p) e
    go false e f = absurd (refused_not f)

-- ---- what was taken at the VMPL l from the page p, under the set a, by the verdict g; q is the page after it
module _ (l : ℕ) (a p q : List ℕ) (r : Answered (Option Asked)) where
  abbrev Took : Verdict → Type 0
  Took g = (r ≡ take_on g (taken_from l a p)) × (q ≡ page_on g (taken_page l p) p)

  abbrev announcement : Bool → Option Asked
  announcement b = cond {A = Option Asked} b (Some (requested_in a (descriptor l p))) None

  -- x is asked for: the page announces it
  pub record Asks (x : Asked) (g : Verdict) : Type 0 where
    pub accepts : g ≡ accept
    pub announcing : announces l p ≡ true
    pub request : x ≡ requested_in a (descriptor l p)
    pub left : q ≡ taken_page l p

  module _ (x : Asked) where
    asks_by : (b : Bool) → announces l p ≡ b → r ≡ take_on accept (announcement b) → r ≡ Ok (Some x)
        → (announces l p ≡ true) × (x ≡ requested_in a (descriptor l p))
    unfolding take_on
    asks_by true n e t = (n, cc)
    asks_by false n e t = clash (cc)

    pub asks : (g : Verdict) → Took g → r ≡ Ok (Some x) → Asks x g
    unfolding take_on taken_from page_on
    asks (refuse c) w t = clash (cc)
    asks accept w t =
        let z = asks_by (announces l p) refl w.0 t in record { accepts = refl; announcing = z.0; request = z.1; left = w.1 }

-- ---- the page: cleared with the request, or once its marks are taken
page_now : (l : ℕ) (p : List ℕ) → bit_of (descriptor l p) many_bit ≡ false → taken_page l p ≡ noticed_page l p
unfolding taken_page
page_now l p m = rw m

page_later : (l : ℕ) (p : List ℕ) → bit_of (descriptor l p) many_bit ≡ true → taken_page l p ≡ p
unfolding taken_page
page_later l p m = rw m

page_still : (l : ℕ) (p : List ℕ) → announces l p ≡ false → taken_page l p ≡ noticed_page l p
unfolding taken_page noticed_page
page_still l p n = rw n (go (bit_of (descriptor l p) many_bit))
  where
    go : (b : Bool) → cond b p p ≡ p
    go true = refl
    go false = refl

-- ---- on the record v
-- the answer with these numbers
abbrev pub changed : Counts → Vcpu → VcpuOut
changed c u = record { result = counted c.new c.merged; vcpu = u }

module _ (l : ℕ) (v : Vcpu) (p : List ℕ) where
  -- o is what an event gives, and z its page, by the verdict g
  abbrev GivesBy : Verdict → VcpuOut → List ℕ → Type 0
  GivesBy g o z = (o ≡ notice_on g (admitted l v.allowed p) v) × (z ≡ page_on g (noticed_page l p) p)

  abbrev pub Gives : VcpuOut → List ℕ → Type 0
  Gives o z = GivesBy (notice_verdict v.phase p) o z

  gives_asked : (g : Verdict) {o : VcpuOut} {z : List ℕ} → g ≡ accept → announces l p ≡ true → o ≡ notice_on accept (admits v.allowed (descriptor l p)) v
      → z ≡ noticed_page l p → GivesBy g o z
  unfolding admitted page_on
  gives_asked g e n f h = (rw (e, n) f, rw e h)

  unannounced : Fits v → announces l p ≡ false
      → ◌≡◌ {A = VcpuOut} (record { result = counted 0 0; vcpu = v }) (notice_on accept (admitted l v.allowed p) v)
  unfolding admitted notice_on
  unannounced fit n =
      let z = none_is v fit in
      rw n
      (ap₂ (λ (a : ℕ) (u : Vcpu). record { result = counted a 0; vcpu = u }) z.1 z.0
      ∙ ap (λ (b : ℕ). record { result = counted (items_new no_part v) b; vcpu = noticed no_part v }) z.2)

  module _ (q : List ℕ) (r : Answered (Option Asked)) where
    -- what taking a notice says of its answer r and the page q after it
    abbrev pub Takes : Type 0
    Takes = Took l v.allowed p q r (notice_verdict v.phase p)

    -- refused
    refused_by : (g : Verdict) → Took l v.allowed p q r g → (c : Refusal) → r ≡ Err c → GivesBy g (refused_out c v) q
    unfolding take_on notice_on page_on
    refused_by (refuse d) w c e = (cc, w.1)
    refused_by accept w c e = clash (cc)

    pub record_refused : Takes → (c : Refusal) → r ≡ Err c → Gives (refused_out c v) q
    record_refused w c e = refused_by (notice_verdict v.phase p) w c e

    -- nothing is announced
    abbrev unchanged : VcpuOut
    unchanged = record { result = counted 0 0; vcpu = v }

    module _ (fit : Fits v) where
      kept_accepted : (b : Bool) → announces l p ≡ b → r ≡ take_on accept (announcement l v.allowed p q r b) → q ≡ taken_page l p → r ≡ Ok None
          → GivesBy accept unchanged q
      unfolding take_on page_on
      kept_accepted true n e f k = clash (cc)
      kept_accepted false n e f k = (unannounced fit n, f ∙ page_still l p n)

      kept_by : (g : Verdict) → Took l v.allowed p q r g → r ≡ Ok None → GivesBy g unchanged q
      unfolding take_on taken_from notice_on page_on
      kept_by (refuse c) w k = clash (cc)
      kept_by accept w k = kept_accepted (announces l p) refl w.0 w.1 k

      pub record_kept : Takes → r ≡ Ok None → Gives unchanged q
      record_kept w k = kept_by (notice_verdict v.phase p) w k

    -- x is asked for
    module _ (w : Takes) (x : Asked) (t : r ≡ Ok (Some x)) where
      here : Asks l v.allowed p q r x (notice_verdict v.phase p)
      here = asks l v.allowed p q r x (notice_verdict v.phase p) w t

      many_bit_lem : (b : Bool) → x.many ≡ b → bit_of (descriptor l p) many_bit ≡ b
      many_bit_lem b f = many_of v.allowed (descriptor l p) x here.request b f

      pub record_one : x.posting.word < 8 → Fits v → x.many ≡ false → (c : Counts) → c ≡ counts v x
          → Gives (changed c (added v x)) q
      unfolding notice_on
      record_one below fit f c e =
          let z = one_is v.allowed (descriptor l p) v fit x here.request below f in
          gives_asked (notice_verdict v.phase p) here.accepts here.announcing (ap₂ changed (e ∙ z.1) z.0)
          (here.left ∙ page_now l p (many_bit_lem false f))

      -- its marks are still to be taken
      module _ (f : x.many ≡ true) where
        same_page : q ≡ p
        same_page = here.left ∙ page_later l p (many_bit_lem true f)

        pub still_asks : (256 ≤ length q) × (announces l q ≡ true) × (bit_of (descriptor l q) many_bit ≡ true)
            × (x ≡ requested_in v.allowed (descriptor l q))
        still_asks =
            rw same_page (long_enough_lem (is_active v.phase) NotActive p here.accepts, here.announcing, many_bit_lem true f, here.request)

        pub record_many : x.posting.word < 8 → Fits v → (e z : List ℕ) → e ≡ collect (admits_edge v.allowed (descriptor l q))
            → z ≡ noticed_page l q → (c : Counts) → c ≡ marks_counted (counts v x) e (added v x).irr
            → (s : List ℕ) → s ≡ union (added v x).irr e
            → (y : ℕ) → y ≡ bit_or (added v x).summary (summary_of e) → Gives (changed c (with_summary y (with_irr s (added v x)))) z
        unfolding notice_on
        record_many below fit e z g h c k s j y u =
            let d = g ∙ ap (λ (y : List ℕ). collect (admits_edge v.allowed (descriptor l y))) same_page in
            let o = many_is v.allowed (descriptor l p) v fit x here.request below f e d in
            gives_asked (notice_verdict v.phase p) here.accepts here.announcing
            (ap₂ changed (k ∙ o.1) (ap₂ (λ (s : List ℕ) (y : ℕ). with_summary y (with_irr s (added v x))) j u ∙ o.0))
            (h ∙ ap (noticed_page l) same_page)
