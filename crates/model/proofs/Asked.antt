-- What an entry and the question answer by the summary.
-- Assumes nothing.
use mathlib.Core.Path.{◌≡◌, refl, sym, ap, ◌∙◌}
use mathlib.Core.Bool.{Bool, true, false, cond, not, ◌&&◌, ◌||◌}
use mathlib.Core.List.{List, []}
use Rattle.std.specs.Prelude.{Option, None, is_some}
use Prim.Native.Nat.{ℕ, ◌+◌, ◌/◌, ◌<◌, ◌≤◌}
use native.Mathlib.Omega.{arith}
use lib.Dec.{ltb}
use borrow.Author.Tests.{lt-ltb, le-ltb}
use Rattle.model.specs.declared.InFlight.{InFlight}
use Rattle.model.specs.declared.InFlight.TheVariants as flight
use Rattle.model.specs.declared.Item.TheVariants as item
use Rattle.model.specs.declared.Vcpu.{Vcpu}
use Rattle.model.specs.declared.Module.{Module}
use Rattle.model.specs.declared.Refusal.TheVariants.{UnknownVcpu, NotActive}
use Rattle.model.specs.State.{is_active, size, vcpu_at, start, with_vcpu, with_registrations, with_irr, with_flight}
use Rattle.model.specs.Codes.{accept, need, Verdict, refuse, Answer, nothing, presents, Result, answers, refused, presented_in, presented_by}
use Rattle.model.specs.Items.{put_irr}
use Rattle.model.specs.Requests.{forget}
use Rattle.model.specs.Registers.{ppr}
use Rattle.model.specs.Events.{entry, at, offer_highest, offer_with, offer, entered, vcpu_verdict, verdict, effect, Out, concluded, decided, step}
use Rattle.model.specs.Events.{final, would_present}
use Rattle.model.specs.SummaryClaims.{Summed, offered, SummaryClaims}
use Rattle.vector_set.specs.Bits.{bit_at}
use Rattle.vector_set.specs.Sets.{Words, has, collect, highest}
use Rattle.vector_set.specs.Summaries.{holds, summary_of, in_marked, remade}
use Rattle.vector_set.proofs.BitLaws.{clash, bit_zero, bits_bit}
use Rattle.vector_set.proofs.Laws.{has_collect, collect_words, collect_ext, highest_no}
use Rattle.vector_set.proofs.SummaryLaws.{summary_byte, summary_bit, member_held, none_held, summary_shows}
use Rattle.model.proofs.Stored.{by_verdict_lem, put_same, count_same}
use Rattle.model.proofs.Summarised.{put_summed, next_summed, reached_summed}

-- ---- the summary by members
member_marks_lem : (s : List ℕ) (x : ℕ) → x < 256 → has s x ≡ true → bit_at (summary_of s) (x / 32) ≡ true
member_marks_lem s x l h = summary_bit s (x / 32) (omega arith) ∙ member_held s x h

empty_unmarked_lem : (s : List ℕ) (k : ℕ) → Words s → k < 8 → ((x : ℕ) → x < 256 → x / 32 ≡ k → has s x ≡ false) → bit_at (summary_of s) k ≡ false
empty_unmarked_lem s k w l h = summary_bit s k l ∙ none_held s k w l h

put_changes_lem : (b : Bool) (f : ℕ → Bool) (v : Vcpu) (x : ℕ) → x < 256 → has (put_irr b f v).irr x ≡ cond (f x) b (has v.irr x)
put_changes_lem true f v x l = has_collect (λ y. f y || has v.irr y) x l ∙ pick (f x)
  where
    pick : (c : Bool) → (c || has v.irr x) ≡ cond c true (has v.irr x)
    pick true = refl
    pick false = refl
put_changes_lem false f v x l = has_collect (λ y. not (f y) && has v.irr y) x l ∙ pick (f x)
  where
    pick : (c : Bool) → (not c && has v.irr x) ≡ cond c false (has v.irr x)
    pick true = refl
    pick false = refl

-- the byte made anew, bit by bit
module _ (b : Bool) (f : ℕ → Bool) (v : Vcpu) where
  put_bit : (k : ℕ) → k < 8 → bit_at (put_irr b f v).summary k ≡ cond (holds (collect f) k) (holds (put_irr b f v).irr k) (bit_at v.summary k)
  unfolding remade
  put_bit k l =
      let e : 0 + k ≡ k = omega arith in
      bits_bit (λ j. cond (holds (collect f) j) (holds (put_irr b f v).irr j) (bit_at v.summary j)) 0 8 k l
      ∙ ap (λ j. cond (holds (collect f) j) (holds (put_irr b f v).irr j) (bit_at v.summary j)) e

  put_anew_lem : (x : ℕ) → x < 256 → f x ≡ true → bit_at (put_irr b f v).summary (x / 32) ≡ bit_at (summary_of (put_irr b f v).irr) (x / 32)
  put_anew_lem x l h =
      let s = (put_irr b f v).irr in
      put_bit (x / 32) (omega arith)
      ∙ ap (λ (c : Bool). cond c (holds s (x / 32)) (bit_at v.summary (x / 32))) (member_held (collect f) x (has_collect f x l ∙ h))
      ∙ sym (summary_bit s (x / 32) (omega arith))

  put_others_lem : (k : ℕ) → k < 8 → ((x : ℕ) → x < 256 → x / 32 ≡ k → f x ≡ false) → bit_at (put_irr b f v).summary k ≡ bit_at v.summary k
  put_others_lem k l h =
      put_bit k l
      ∙ ap (λ (c : Bool). cond c (holds (put_irr b f v).irr k) (bit_at v.summary k))
      (none_held (collect f) k (collect_words f) l (λ x m d. has_collect f x m ∙ h x m d))

-- ---- an entry
same_answer : {a b : Answer} → answers a ≡ answers b → a ≡ b
same_answer e = cc

entry_looks_lem : (m : Module) (i : ℕ) (iF sh bl : Bool) (a : Answer) → (step m (at i (entry iF sh bl))).result ≡ answers a
    → a ≡ offered m i iF sh bl (in_marked (vcpu_at m i).summary (vcpu_at m i).irr)
unfolding concluded effect offer
entry_looks_lem m i iF sh bl a =
    by_verdict_lem m (at i (entry iF sh bl))
    (λ o. o.result ≡ answers a → a ≡ offered m i iF sh bl (in_marked (vcpu_at m i).summary (vcpu_at m i).irr))
    (λ c h e. clash (cc)) (λ h e. sym (same_answer e))

unmarked_apart_lem : (iF sh bl : Bool) (v : Vcpu) (s : List ℕ) → ((x : ℕ) → x < 256 → bit_at v.summary (x / 32) ≡ true → has s x ≡ has v.irr x)
    → offer iF sh bl (with_irr s v) ≡ offer iF sh bl v
unfolding offer offer_with in_marked ppr
unmarked_apart_lem iF sh bl v s h =
    ap (λ (t : List ℕ). offer_with (highest t) iF sh bl v)
    (collect_ext (λ x. bit_at v.summary (x / 32) && has s x) (λ x. bit_at v.summary (x / 32) && has v.irr x)
    (λ x l. pick x l (bit_at v.summary (x / 32)) refl))
  where
    pick : (x : ℕ) → x < 256 → (c : Bool) → bit_at v.summary (x / 32) ≡ c → (c && has s x) ≡ (c && has v.irr x)
    pick x l true e = h x l e
    pick x l false e = refl

-- where the summary is true the marked words have all of P
all_seen : (v : Vcpu) → Summed v → in_marked v.summary v.irr ≡ v.irr
all_seen v h = ap (λ (b : ℕ). in_marked b v.irr) h.1 ∙ summary_shows v.irr h.0

entry_full_lem : (m : Module) (i : ℕ) (iF sh bl : Bool) (a : Answer) → Summed (vcpu_at m i) → (step m (at i (entry iF sh bl))).result ≡ answers a
    → a ≡ offered m i iF sh bl (vcpu_at m i).irr
entry_full_lem m i iF sh bl a h e = entry_looks_lem m i iF sh bl a e ∙ ap (offered m i iF sh bl) (all_seen (vcpu_at m i) h)

-- ---- the verdict on an entry
accepted : (m : Module) (i : ℕ) (iF sh bl : Bool) → i < size m → is_active (vcpu_at m i).phase ≡ true → verdict m (at i (entry iF sh bl)) ≡ accept
unfolding verdict vcpu_verdict
accepted m i iF sh bl l on =
    ap (λ (b : Bool). need b UnknownVcpu (need (is_active (vcpu_at m i).phase) NotActive accept)) (lt-ltb i (size m) l)
    ∙ ap (λ (b : Bool). need b NotActive accept) on

entry_step : (m : Module) (i : ℕ) (iF sh bl : Bool) → i < size m → is_active (vcpu_at m i).phase ≡ true
    → step m (at i (entry iF sh bl)) ≡ decided accept m (at i (entry iF sh bl))
unfolding step
entry_step m i iF sh bl l on = ap (λ (g : Verdict). decided g m (at i (entry iF sh bl))) (accepted m i iF sh bl l on)

answered : (m : Module) (i : ℕ) (iF sh bl : Bool) → i < size m → is_active (vcpu_at m i).phase ≡ true
    → (step m (at i (entry iF sh bl))).result ≡ answers (offer iF sh bl (vcpu_at m i))
unfolding concluded effect
answered m i iF sh bl l on = ap (λ (o : Out). o.result) (entry_step m i iF sh bl l on)

-- ---- the question
asks_entry_lem : (m : Module) (i : ℕ) (a : Answer) → (step m (at i (entry true false false))).result ≡ answers a → would_present m i ≡ is_some (presented_in a)
unfolding would_present
asks_entry_lem m i a e = ap (λ (r : Result). is_some (presented_by r)) e

asks_refused_lem : (m : Module) (i c : ℕ) → (step m (at i (entry true false false))).result ≡ refused c → would_present m i ≡ false
unfolding would_present
asks_refused_lem m i c e = ap (λ (r : Result). is_some (presented_by r)) e

unknown_no_lem : (m : Module) (i : ℕ) → size m ≤ i → would_present m i ≡ false
unfolding would_present step verdict
unknown_no_lem m i h =
    ap (λ (b : Bool). is_some (presented_by (decided (need b UnknownVcpu (vcpu_verdict i m.registrations (vcpu_at m i) (entry true false false))) m
    (at i (entry true false false))).result)) (le-ltb i (size m) h)

inactive_no_lem : (m : Module) (i : ℕ) → is_active (vcpu_at m i).phase ≡ false → would_present m i ≡ false
unfolding would_present step verdict vcpu_verdict
inactive_no_lem m i h =
    ap (λ (b : Bool). is_some (presented_by (decided (need (ltb i (size m)) UnknownVcpu (need b NotActive accept)) m (at i (entry true false false))).result)) h
    ∙ pick (ltb i (size m))
  where
    pick : (b : Bool) → is_some (presented_by (decided (need b UnknownVcpu (refuse NotActive)) m (at i (entry true false false))).result) ≡ false
    pick true = refl
    pick false = refl

asks_offer : (m : Module) (i : ℕ) → i < size m → is_active (vcpu_at m i).phase ≡ true
    → would_present m i ≡ is_some (presented_in (offer true false false (vcpu_at m i)))
asks_offer m i l on = asks_entry_lem m i (offer true false false (vcpu_at m i)) (answered m i true false false l on)

check_yes_lem : (v : Vcpu) → v.machine_check ≡ true → is_some (presented_in (offer true false false v)) ≡ true
unfolding offer offer_with
check_yes_lem v h =
    ap (λ (b : Bool). is_some (presented_in (cond b (presents item.MachineCheck)
    (cond (v.nmi && true) (presents item.Nmi) (offer_highest true (ppr v) (highest (in_marked v.summary v.irr))))))) h

nmi_yes_lem : (v : Vcpu) → v.nmi ≡ true → is_some (presented_in (offer true false false v)) ≡ true
unfolding offer offer_with
nmi_yes_lem v h = ap (λ (b : Bool). is_some (presented_in (by_marks v.machine_check b))) h ∙ pick v.machine_check
  where
    by_marks : Bool → Bool → Answer
    by_marks m n =
        cond m (presents item.MachineCheck) (cond (n && true) (presents item.Nmi) (offer_highest true (ppr v) (highest (in_marked v.summary v.irr))))

    pick : (m : Bool) → is_some (presented_in (by_marks m true)) ≡ true
    pick true = refl
    pick false = refl

asks_full_lem : (m : Module) (i : ℕ) → i < size m → is_active (vcpu_at m i).phase ≡ true → Summed (vcpu_at m i)
    → would_present m i ≡ is_some (presented_in (offered m i true false false (vcpu_at m i).irr))
unfolding offer
asks_full_lem m i l on h = asks_offer m i l on ∙ ap (λ (s : List ℕ). is_some (presented_in (offered m i true false false s))) (all_seen (vcpu_at m i) h)

-- ---- an entry that finds nothing
pub none_marked_lem : (s : List ℕ) → highest (in_marked 0 s) ≡ None
unfolding in_marked
none_marked_lem s = highest_no _ (λ x l. has_collect (λ x. bit_at 0 (x / 32) && has s x) x l ∙ ap (λ (b : Bool). b && has s x) (bit_zero (x / 32)))

-- by the marks
quiet : (iF sh bl : Bool) (v : Vcpu) → v.nmi ≡ false → v.machine_check ≡ false → v.summary ≡ 0 → offer iF sh bl v ≡ nothing
unfolding offer offer_with offer_highest
quiet iF sh bl v n c z =
    ap (λ (b : ℕ). by_parts v.machine_check v.nmi (highest (in_marked b v.irr))) z
    ∙ ap (by_parts v.machine_check v.nmi) (none_marked_lem v.irr)
    ∙ ap (λ (b : Bool). by_parts v.machine_check b None) n ∙ ap (λ (b : Bool). by_parts b false None) c
  where
    by_parts : Bool → Bool → Option ℕ → Answer
    by_parts m n o = cond m (presents item.MachineCheck) (cond (n && not (sh || bl)) (presents item.Nmi) (offer_highest (iF && not sh) (ppr v) o))

entry_rests_lem : (m : Module) (i : ℕ) (iF sh bl : Bool) → i < size m → is_active (vcpu_at m i).phase ≡ true → (vcpu_at m i).flight ≡ flight.Nothing
    → (vcpu_at m i).nmi ≡ false → (vcpu_at m i).machine_check ≡ false → (vcpu_at m i).summary ≡ 0
    → step m (at i (entry iF sh bl)) ≡ record { result = answers nothing; after = m; page = [] }
unfolding concluded effect entered
entry_rests_lem m i iF sh bl l on f n c z =
    entry_step m i iF sh bl l on
    ∙ ap (λ (a : Answer). out a (with_registrations m.registrations (with_vcpu m i (entered a (forget (vcpu_at m i)))))) (quiet iF sh bl (vcpu_at m i) n c z)
    ∙ ap (out nothing) (count_same m i (forget (vcpu_at m i)) ∙ ap (λ (x : InFlight). with_vcpu m i (with_flight x (vcpu_at m i))) (sym f) ∙ put_same m i)
  where
    out : Answer → Module → Out
    out a g = record { result = answers a; after = g; page = [] }

pub summary_claims : SummaryClaims
unfolding offer offer_with ppr
summary_claims =
    record {
      byte = summary_byte;
      member_marks = member_marks_lem;
      empty_unmarked = empty_unmarked_lem;
      put_changes = put_changes_lem;
      put_keeps = put_summed;
      put_anew = put_anew_lem;
      put_others = put_others_lem;
      event_keeps = next_summed;
      always = reached_summed;
      entry_looks = entry_looks_lem;
      unmarked_apart = unmarked_apart_lem;
      entry_full = entry_full_lem;
      entry_always = λ n l es i iF sh bl a. entry_full_lem (final (start n l) es) i iF sh bl a (reached_summed n l es i);
      entry_rests = entry_rests_lem;
      asks_entry = asks_entry_lem;
      asks_refused = asks_refused_lem;
      unknown_no = unknown_no_lem;
      inactive_no = inactive_no_lem;
      check_yes = λ m i l on h. asks_offer m i l on ∙ check_yes_lem (vcpu_at m i) h;
      nmi_yes = λ m i l on h. asks_offer m i l on ∙ nmi_yes_lem (vcpu_at m i) h;
      flight_apart = λ iF sh bl v f. refl;
      asks_full = asks_full_lem;
    }
