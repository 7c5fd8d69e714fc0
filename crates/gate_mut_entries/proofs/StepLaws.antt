-- The stages of an entry in place, put together: where each of them ends, the record and the answer are those of the entry.
--     NoVector, no_vector            an answer is no vector
--     settles                        the record is then as `settled` makes it
--     offer_found                    the answer for the vector that was found is what P decides
--     offer_shown, vector_leaves     of such an answer: what it means, and the record after it
--     refusal_stands, mark_stands, vector_stands, rest_stands     what an entry leaves that is refused, that presents a mark, where P decides, and that rests
-- Assumes nothing.
use Rattle.std.specs.Prelude.{Option, None, Some, Ok, Err}
use mathlib.Core.Path.{◌≡◌, refl, sym, ap, subst, ◌∙◌}
use mathlib.Core.Bool.{Bool, true, false, cond, not, ◌&&◌, ◌||◌}
use Prim.Native.Nat.{ℕ}
use lib.Dec.{eqb}
use borrow.Author.Tests.{eqb-true}
use Rattle.vector_set.specs.Sets.{highest}
use Rattle.vector_set.specs.Summaries.{in_marked}
use Rattle.vector_set.proofs.BitLaws.{clash}
use Rattle.model.proofs.Asked.{none_marked_lem}
use Rattle.model.specs.declared.InFlight.{InFlight}
use Rattle.model.specs.declared.InFlight.TheVariants as flight
use Rattle.model.specs.declared.Presentation.{Presentation}
use Rattle.model.specs.declared.Presentation.TheVariants.{Nothing, Nmi, MachineCheck, Vector, Window}
use Rattle.model.specs.declared.Refusal.{Refusal}
use Rattle.model.specs.declared.Refusal.TheVariants.{NotActive}
use Rattle.model.specs.declared.Vcpu.{Vcpu}
use Rattle.model.specs.State.{is_active, is_in_flight, with_flight}
use Rattle.model.specs.Items.{unmark}
use Rattle.model.specs.Codes.{Answered, Answer, nothing, answers, answer_of}
use Rattle.model.specs.Registers.{ppr}
use Rattle.model.specs.Requests.{forget}
use Rattle.model.specs.Events.{entry, offer_highest, offer, present, entered, vcpu_verdict}
use Rattle.vcpu.specs.Records.{VcpuOut, entry_on, refused_out}
use Rattle.vcpu_stages.specs.Stages.{shown, answer_before, vector_offer, rests_on, settled}
use Rattle.vcpu_entries.proofs.Answered.{shown_means, by_before}
use Rattle.vcpu_entries.proofs.Told.{entering}
use Rattle.gate_mut_entries.specs.Steps.{vector_entered, entered_in}

-- the answer is no vector
abbrev pub NoVector : Presentation → Type 0
NoVector Nothing = Unit {0}
NoVector Nmi = Unit {0}
NoVector MachineCheck = Unit {0}
NoVector (Vector x) = ⊥
NoVector (Window x) = Unit {0}

pub no_vector : (p : Presentation) → ((x : ℕ) → p ≡ Vector x → ⊥) → NoVector p
no_vector Nothing h = tt
no_vector Nmi h = tt
no_vector MachineCheck h = tt
no_vector (Vector x) h = h x refl
no_vector (Window x) h = tt

-- the answer is not that nothing is presented
abbrev pub NotNothing : Presentation → Type 0
NotNothing Nothing = ⊥
NotNothing Nmi = Unit {0}
NotNothing MachineCheck = Unit {0}
NotNothing (Vector x) = Unit {0}
NotNothing (Window x) = Unit {0}

pub not_nothing : (p : Presentation) → (p ≡ Nothing → ⊥) → NotNothing p
not_nothing Nothing h = h refl
not_nothing Nmi h = tt
not_nothing MachineCheck h = tt
not_nothing (Vector x) h = tt
not_nothing (Window x) h = tt

pub settles : (p : Presentation) (v : Vcpu) → NoVector p → settled p v ≡ entered (answer_of p) (forget v)
unfolding entered present unmark
settles Nothing v n = refl
settles Nmi v n = refl
settles MachineCheck v n = refl
settles (Vector x) v n = absurd n
settles (Window x) v n = refl

-- ---- what P decides
pub offer_found : (ready : Bool) (v : Vcpu) (o : Option ℕ) → o ≡ highest (in_marked v.summary v.irr) → (p : Presentation)
    → p ≡ shown (offer_highest ready (ppr v) o) → p ≡ shown (vector_offer ready v)
unfolding vector_offer
offer_found ready v o e p said = said ∙ ap (λ (f : Option ℕ). shown (offer_highest ready (ppr v) f)) e

offer_shown : (ready : Bool) (v : Vcpu) (p : Presentation) → p ≡ shown (vector_offer ready v) → answer_of p ≡ vector_offer ready v
offer_shown ready v p e = ap answer_of e ∙ shown_means (vector_offer ready v)

-- the record after the answer p is the one after what P decides
pub vector_leaves : (ready : Bool) (v : Vcpu) (p : Presentation) → p ≡ shown (vector_offer ready v) → entered (answer_of p) (forget v) ≡ vector_entered ready v
vector_leaves ready v p e = ap (λ (a : Answer). entered a (forget v)) (offer_shown ready v p e)

-- ---- an entry on one record
module _ (iF sh bl : Bool) (v : Vcpu) where
  abbrev Stepped : VcpuOut → Type 0
  Stepped o = o ≡ entry_on (vcpu_verdict 0 0 v (entry iF sh bl)) (offer iF sh bl v) v

  pub refusal_stands : (c : Refusal) → Err c ≡ answer_before sh bl v → Stepped (refused_out c v)
  refusal_stands c e = entering _ _ v v _ (by_before iF sh bl v (Err c) e) refl

  -- what is answered before P is looked at is no vector
  mark_shown : (p : Presentation) → Ok (Some p) ≡ answer_before sh bl v → NoVector p
  unfolding answer_before
  mark_shown p e = pick (is_active v.phase) v.machine_check (v.nmi && not (sh || bl)) e
    where
      pick : (a m t : Bool)
          → ◌≡◌ {A = Answered (Option Presentation)} (Ok (Some p)) (cond a (Ok (cond m (Some MachineCheck) (cond t (Some Nmi) None))) (Err NotActive)) → NoVector p
      pick false m t e = clash (cc)
      pick true true t e = let same : MachineCheck ≡ p = cc in subst NoVector same tt
      pick true false true e = let same : Nmi ≡ p = cc in subst NoVector same tt
      pick true false false e = clash (cc)

  pub mark_stands : (p : Presentation) → Ok (Some p) ≡ answer_before sh bl v → (u : Vcpu) → u ≡ settled p v → Stepped (entered_in (Ok p) u)
  mark_stands p e u left = entering _ _ v u (answers (answer_of p)) (by_before iF sh bl v (Ok (Some p)) e) (left ∙ settles p v (mark_shown p e))

  pub vector_stands : Ok None ≡ answer_before sh bl v → (p : Presentation) (u : Vcpu)
      → (p ≡ shown (vector_offer (iF && not sh) v)) × (u ≡ vector_entered (iF && not sh) v) → Stepped (entered_in (Ok p) u)
  vector_stands e p u left =
      let said = offer_shown (iF && not sh) v p left.0 in
      entering _ _ v u (answers (answer_of p)) (ap answers said ∙ by_before iF sh bl v (Ok None) e)
      (left.1 ∙ sym (vector_leaves (iF && not sh) v p left.0))

-- ---- a record that rests
-- no word is marked: no vector is found
no_offer : (ready : Bool) (v : Vcpu) → v.summary ≡ 0 → vector_offer ready v ≡ nothing
unfolding vector_offer offer_highest
no_offer ready v e =
    ap (λ (b : ℕ). offer_highest ready (ppr v) (highest (in_marked b v.irr))) e ∙ ap (offer_highest ready (ppr v)) (none_marked_lem v.irr)

-- nothing is in flight: there is nothing to forget
nothing_flies : (f : InFlight) → not (is_in_flight f) ≡ true → f ≡ flight.Nothing
nothing_flies flight.Nothing e = refl
nothing_flies flight.Nmi e = clash (cc)
nothing_flies flight.MachineCheck e = clash (cc)
nothing_flies (flight.Vector x) e = clash (cc)

both : (a b : Bool) → (a && b) ≡ true → (a ≡ true) × (b ≡ true)
both true b e = (refl, e)
both false b e = clash (cc)

neither : (a b : Bool) → not (a || b) ≡ true → (a ≡ false) × (b ≡ false)
neither true b e = clash (cc)
neither false true e = clash (cc)
neither false false e = (refl, refl)

pub rest_stands : (iF sh bl : Bool) (v : Vcpu) → rests_on v ≡ true → Stepped iF sh bl v (entered_in (Ok Nothing) v)
unfolding rests_on answer_before entered
rest_stands iF sh bl v e =
    let e₁ = both (is_active v.phase && not (is_in_flight v.flight) && eqb v.summary 0) (not (v.nmi || v.machine_check)) e in
    let e₂ = both (is_active v.phase && not (is_in_flight v.flight)) (eqb v.summary 0) e₁.0 in
    let e₃ = both (is_active v.phase) (not (is_in_flight v.flight)) e₂.0 in
    let no = neither v.nmi v.machine_check e₁.1 in
    let none = no_offer (iF && not sh) v (eqb-true v.summary 0 e₂.1) in
    vector_stands iF sh bl v
    (sym (ap (λ (a : Bool). cond a (Ok (cond v.machine_check (Some MachineCheck) (cond (v.nmi && not (sh || bl)) (Some Nmi) None))) (Err NotActive)) e₃.0
    ∙ ap (λ (b : Bool). Ok (cond b (Some MachineCheck) (cond (v.nmi && not (sh || bl)) (Some Nmi) None))) no.1
    ∙ ap (λ (c : Bool). Ok (cond (c && not (sh || bl)) (Some Nmi) None)) no.0))
    Nothing v (
      sym (ap shown none),
      ap (λ (f : InFlight). with_flight f v) (nothing_flies v.flight e₃.1) ∙ sym (ap (λ (a : Answer). entered a (forget v)) none),
    )
