-- Why lists that differ in bytes of notices alone, and that admit the same, give the same.
-- Assumes nothing.
use mathlib.Core.Path.{◌≡◌, refl, sym, ap, ◌∙◌}
use mathlib.Core.Bool.{cond}
use mathlib.Core.List.{List, ◌∷◌}
use Prim.Native.Nat.{ℕ}
use lib.ListN.{length}
use Rattle.model.specs.declared.Module.{Module}
use Rattle.model.specs.State.{vcpu_at}
use Rattle.model.specs.Codes.{Verdict, accept, refuse}
use Rattle.model.specs.Doorbell.{admitted}
use Rattle.model.specs.Events.{notice, at, Bytes, Event, vcpu_verdict, verdict, effect, concluded, decided, step, next, run, final}
use Rattle.model.specs.Causes.{is_hand_back}
use Rattle.lists.specs.Book.{note, book_of, part_by, parts}
use Rattle.lists.specs.Lists.{results, hand_back_pages, pages, Alike, same, notices, AllAlike, neither, both}
use Rattle.lists.proofs.Follow.{follow, part_accepted}
use Rattle.model.proofs.Stays.{vmpl_next}

-- ---- one step: what two such events on one module leave equal, which is all but the page of a notice
pub record Agree (m : Module) (d e : Event) : Type 0 where
  pub result : (step m d).result ≡ (step m e).result
  pub after : next m d ≡ next m e
  pub page : (ps : List Bytes)
      → cond (is_hand_back d.act) ((step m d).page ∷ ps) ps ≡ cond (is_hand_back e.act) ((step m e).page ∷ ps) ps
  pub noted : note d ≡ note e

same_verdict : (m : Module) (i : ℕ) (p q : Bytes) → length p ≡ length q → verdict m (at i (notice p)) ≡ verdict m (at i (notice q))
unfolding verdict vcpu_verdict
same_verdict m i p q l = rw l

-- by the verdict, which is the same, and behind acceptance by the parts
same_notice : (g : Verdict) (m : Module) (i : ℕ) (p q : Bytes)
    → (g ≡ accept → admitted m.vmpl (vcpu_at m i).allowed p ≡ admitted m.vmpl (vcpu_at m i).allowed q)
    → ((decided g m (at i (notice p))).result ≡ (decided g m (at i (notice q))).result)
    × ((decided g m (at i (notice p))).after ≡ (decided g m (at i (notice q))).after)
unfolding concluded effect
same_notice (refuse c) m i p q h = (refl, refl)
same_notice accept m i p q h =
    let d : admitted m.vmpl (vcpu_at m i).allowed p ≡ admitted m.vmpl (vcpu_at m i).allowed q = h refl in
    (rw d, rw d)

pub agree : {d e : Event} (m : Module) → Alike d e → part_by m.vmpl (book_of m) d ≡ part_by m.vmpl (book_of m) e → Agree m d e
unfolding step
agree m same h = record { result = refl; after = refl; page = λ ps. refl; noted = refl }
agree m (notices {i = i} {p = p} {q = q} l) h =
    let w : verdict m (at i (notice p)) ≡ verdict m (at i (notice q)) = same_verdict m i p q l in
    let r = same_notice (verdict m (at i (notice q))) m i p q (λ g. sym (part_accepted m i p (w ∙ g)) ∙ h ∙ part_accepted m i q g) in
    record { result = rw w r.0; after = rw (w, next) r.1; page = λ ps. refl; noted = ap (λ n. at i (notice n)) l }

-- ---- lists
pub alike : {ds es : List Event} (m : Module) → AllAlike ds es → parts m.vmpl (book_of m) ds ≡ parts m.vmpl (book_of m) es
    → (results m ds ≡ results m es) × (pages m ds ≡ pages m es) × (final m ds ≡ final m es)
unfolding parts results pages hand_back_pages run final
alike m neither h = (refl, refl, refl)
alike m (both {d} {e} {ds} {es} p ps) h =
    let a : Agree m d e = agree m p (cc) in
    let t : parts (next m d).vmpl (book_of (next m d)) ds ≡ parts (next m d).vmpl (book_of (next m d)) es =
    rw (vmpl_next m d) (cc (follow m d, follow m e)) in
    let ih = alike (next m d) ps t in
    (cc, a.page _ ∙ cc, cc)
