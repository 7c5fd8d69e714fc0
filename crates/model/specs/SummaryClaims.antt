-- What is claimed of the summary of P, of an entry that looks by it, and of the question (13.76 to 13.86).
-- Assumes nothing.
use Rattle.std.specs.Prelude.{◌≡◌, Bool, true, false, cond, List, [], ℕ, ◌/◌, ◌^◌, ◌<◌, ◌≤◌, is_some}
use Rattle.model.specs.declared.InFlight.{InFlight}
use Rattle.model.specs.declared.InFlight.TheVariants.{Nothing}
use Rattle.model.specs.declared.Vcpu.{Vcpu}
use Rattle.model.specs.declared.Module.{Module}
use Rattle.model.specs.State.{is_active, size, vcpu_at, start, with_irr, with_flight}
use Rattle.model.specs.Codes.{Answer, nothing, answers, refused, presented_in}
use Rattle.model.specs.Items.{put_irr}
use Rattle.model.specs.Events.{entry, at, Event, offer_with, offer, step, next, final, would_present}
use Rattle.model.specs.Reached.{Summarised}
use Rattle.vector_set.specs.Bits.{bit_at}
use Rattle.vector_set.specs.Sets.{Words, has, highest}
use Rattle.vector_set.specs.Summaries.{summary_of, in_marked}

-- P is a set, and the summary is true of it (2.19)
abbrev pub Summed : Vcpu → Type 0
Summed v = Words v.irr × Summarised v

-- what an entry answers on the module m's record i where the vector that it finds is the highest of s
abbrev pub offered : Module → ℕ → Bool → Bool → Bool → List ℕ → Answer
offered m i iF sh bl s = offer_with (highest s) iF sh bl (vcpu_at m i)

pub record SummaryClaims : Type 0 where
  -- ---- the summary
  -- a byte whose bit for the word of a member is set, and for a word without members is clear (13.76)
  pub byte : (s : List ℕ) → summary_of s < 2 ^ 8
  pub member_marks : (s : List ℕ) (x : ℕ) → x < 256 → has s x ≡ true → bit_at (summary_of s) (x / 32) ≡ true
  pub empty_unmarked : (s : List ℕ) (k : ℕ) → Words s → k < 8 → ((x : ℕ) → x < 256 → x / 32 ≡ k → has s x ≡ false) → bit_at (summary_of s) k ≡ false
  -- the one change of P: the vectors of f become pending or not, no other does, and a summary that was true is true (13.77)
  pub put_changes : (b : Bool) (f : ℕ → Bool) (v : Vcpu) (x : ℕ) → x < 256 → has (put_irr b f v).irr x ≡ cond (f x) b (has v.irr x)
  pub put_keeps : (b : Bool) (f : ℕ → Bool) (v : Vcpu) → Summed v → Summed (put_irr b f v)
  -- true or not before, its bit is true for the word of a vector of f, and stays for every other word (2.21, 13.77)
  pub put_anew : (b : Bool) (f : ℕ → Bool) (v : Vcpu) (x : ℕ) → x < 256 → f x ≡ true
      → bit_at (put_irr b f v).summary (x / 32) ≡ bit_at (summary_of (put_irr b f v).irr) (x / 32)
  pub put_others : (b : Bool) (f : ℕ → Bool) (v : Vcpu) (k : ℕ) → k < 8 → ((x : ℕ) → x < 256 → x / 32 ≡ k → f x ≡ false)
      → bit_at (put_irr b f v).summary k ≡ bit_at v.summary k
  -- of every module value: where it was true of a record, it is after an event (13.78)
  pub event_keeps : (m : Module) (e : Event) (j : ℕ) → Summed (vcpu_at m j) → Summed (vcpu_at (next m e) j)
  -- of every list, from what start gives: it is true of every record (13.79)
  pub always : (n l : ℕ) (es : List Event) (i : ℕ) → Summed (vcpu_at (final (start n l) es) i)
  -- ---- an entry
  -- of every module value: an accepted entry answers by the highest pending vector in a marked word (13.80)
  pub entry_looks : (m : Module) (i : ℕ) (iF sh bl : Bool) (a : Answer) → (step m (at i (entry iF sh bl))).result ≡ answers a
      → a ≡ offered m i iF sh bl (in_marked (vcpu_at m i).summary (vcpu_at m i).irr)
  -- what an unmarked word holds has no part in it (13.81)
  pub unmarked_apart : (iF sh bl : Bool) (v : Vcpu) (s : List ℕ) → ((x : ℕ) → x < 256 → bit_at v.summary (x / 32) ≡ true → has s x ≡ has v.irr x)
      → offer iF sh bl (with_irr s v) ≡ offer iF sh bl v
  -- where the summary is true, it answers by the highest pending vector of all (13.82)
  pub entry_full : (m : Module) (i : ℕ) (iF sh bl : Bool) (a : Answer) → Summed (vcpu_at m i) → (step m (at i (entry iF sh bl))).result ≡ answers a
      → a ≡ offered m i iF sh bl (vcpu_at m i).irr
  -- and so it does after every list (13.82)
  pub entry_always : (n l : ℕ) (es : List Event) (i : ℕ) (iF sh bl : Bool) (a : Answer) → (step (final (start n l) es) (at i (entry iF sh bl))).result ≡ answers a
      → a ≡ offered (final (start n l) es) i iF sh bl (vcpu_at (final (start n l) es) i).irr
  -- of every module value: with nothing in flight, no mark and no word marked it presents nothing and leaves the module as it was (13.83)
  pub entry_rests : (m : Module) (i : ℕ) (iF sh bl : Bool) → i < size m → is_active (vcpu_at m i).phase ≡ true → (vcpu_at m i).flight ≡ Nothing
      → (vcpu_at m i).nmi ≡ false → (vcpu_at m i).machine_check ≡ false → (vcpu_at m i).summary ≡ 0
      → step m (at i (entry iF sh bl)) ≡ record { result = answers nothing; after = m; page = [] }
  -- ---- the question, of every module value
  -- it is what an entry with IF and without shadow and NMI-blocked presents, or that it is refused (13.84)
  pub asks_entry : (m : Module) (i : ℕ) (a : Answer) → (step m (at i (entry true false false))).result ≡ answers a → would_present m i ≡ is_some (presented_in a)
  pub asks_refused : (m : Module) (i c : ℕ) → (step m (at i (entry true false false))).result ≡ refused c → would_present m i ≡ false
  -- no for an unknown vCPU, and for one that is not active (13.85)
  pub unknown_no : (m : Module) (i : ℕ) → size m ≤ i → would_present m i ≡ false
  pub inactive_no : (m : Module) (i : ℕ) → is_active (vcpu_at m i).phase ≡ false → would_present m i ≡ false
  -- yes where the machine check or the NMI is pending on an active one (13.85)
  pub check_yes : (m : Module) (i : ℕ) → i < size m → is_active (vcpu_at m i).phase ≡ true → (vcpu_at m i).machine_check ≡ true → would_present m i ≡ true
  pub nmi_yes : (m : Module) (i : ℕ) → i < size m → is_active (vcpu_at m i).phase ≡ true → (vcpu_at m i).nmi ≡ true → would_present m i ≡ true
  -- what is in flight has no part in an entry's answer, and so none in it (13.85)
  pub flight_apart : (iF sh bl : Bool) (v : Vcpu) (f : InFlight) → offer iF sh bl (with_flight f v) ≡ offer iF sh bl v
  -- where the summary is true, it is answered over all of P (13.86)
  pub asks_full : (m : Module) (i : ℕ) → i < size m → is_active (vcpu_at m i).phase ≡ true → Summed (vcpu_at m i)
      → would_present m i ≡ is_some (presented_in (offered m i true false false (vcpu_at m i).irr))
