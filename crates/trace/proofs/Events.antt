-- How the parts of a line's definition answer to the tests and calls of the code.
-- Assumes nothing.
use mathlib.Core.Path.{◌≡◌, refl, sym, ap, ◌∙◌, subst}
use mathlib.Core.Bool.{true, false}
use mathlib.Core.List.{List, [], ◌∷◌}
use Prim.Native.Nat.{ℕ, zero, suc, ◌≤◌, ◌<◌}
use lib.ListN.{length, drop}
use borrow.Author.Tests.{lt-ltb, le-ltb}
use Rattle.std.specs.Prelude.{Option, Some, None}
use Rattle.trace.specs.declared.Event.{Event}
use Rattle.trace.specs.declared.Event.TheVariants.{Nothing, Unreadable, State}
use Rattle.trace.specs.declared.Name.{Name}
use Rattle.trace.specs.Words.{words, first, rest}
use Rattle.trace.specs.Lines.{Made, given, taking, only, paged, start, notice, call, entry, non_delivery, hand_back, allow, ask}
use Rattle.trace.specs.Lines.{name_of, named, spoken, is_comment, event_of, PageIs, ValuesAre}

-- ---- the words after the first ones
drop_more : (k : ℕ) (ws : List (List ℕ)) → rest (drop k ws) ≡ drop (suc k) ws
unfolding rest
drop_more zero [] = refl
drop_more zero (w ∷ ws) = refl
drop_more (suc k) [] = refl
drop_more (suc k) (w ∷ ws) = drop_more k ws

pub rest_drop : (k : ℕ) (ws us ts : List (List ℕ)) → us ≡ drop k ws → ts ≡ rest us → ts ≡ drop (suc k) ws
rest_drop k ws us ts e f = f ∙ ap rest e ∙ drop_more k ws

-- ---- events without a page, without a list, without either
abbrev pub Pageless : Event → Type 0
Pageless e = (ws : List (List ℕ)) (p : List ℕ) → PageIs ws e p

abbrev pub Listless : Event → Type 0
Listless e = (ws : List (List ℕ)) (vs : List ℕ) → ValuesAre ws e vs

abbrev pub Plain : Event → Type 0
Plain e = (ws : List (List ℕ)) (p vs : List ℕ) → PageIs ws e p × ValuesAre ws e vs

-- what holds of an unreadable line, and of an event whatever its arguments are
module _ (Q : Event → Type 0) (none : Q Unreadable) where
  by_given : (n : Option ℕ) (f : ℕ → Event) → ((v : ℕ) → Q (f v)) → Q (given n f)
  unfolding given
  by_given (Some v) f h = h v
  by_given None f h = none

  by_only : (us : List (List ℕ)) (e : Event) → Q e → Q (only us e)
  unfolding only
  by_only [] e h = h
  by_only (u ∷ us) e h = none

  by_paged : (b : Option (List ℕ)) (e : Event) → Q e → Q (paged b e)
  unfolding paged
  by_paged (Some p) e h = h
  by_paged None e h = none

  abbrev ByMade : (limits : List ℕ) → Made limits → Type 0
  ByMade [] f = (us : List (List ℕ)) → Q (f us)
  ByMade (m ∷ ms) f = (v : ℕ) → ByMade ms (f v)

  by_taking : (limits : List ℕ) (us : List (List ℕ)) (f : Made limits) → ByMade limits f → Q (taking limits us f)
  unfolding taking
  by_taking [] us f h = h us
  by_taking (m ∷ ms) us f h = by_given (first m us) _ λ v. by_taking ms (rest us) (f v) (h v)

plain_none : Plain Unreadable
plain_none ws p vs = (tt, tt)

pub plain_start : (us : List (List ℕ)) → Plain (start us)
unfolding start
plain_start us = by_taking Plain plain_none _ us _ λ n l ts. by_only Plain plain_none ts _ λ ws p vs. (tt, tt)

pub plain_call : (us : List (List ℕ)) → Plain (call us)
unfolding call
plain_call us = by_taking Plain plain_none _ us _ λ i c ecx rdx ts. by_only Plain plain_none ts _ λ ws p vs. (tt, tt)

pub plain_entry : (us : List (List ℕ)) → Plain (entry us)
unfolding entry
plain_entry us = by_taking Plain plain_none _ us _ λ i f s b ts. by_only Plain plain_none ts _ λ ws p vs. (tt, tt)

pub plain_non_delivery : (us : List (List ℕ)) → Plain (non_delivery us)
unfolding non_delivery
plain_non_delivery us = by_taking Plain plain_none _ us _ λ i ts. by_only Plain plain_none ts _ λ ws p vs. (tt, tt)

pub plain_ask : (us : List (List ℕ)) → Plain (ask us)
unfolding ask
plain_ask us = by_taking Plain plain_none _ us _ λ i ts. by_only Plain plain_none ts _ λ ws p vs. (tt, tt)

pub plain_state : (us : List (List ℕ)) → Plain (only us State)
plain_state us = by_only Plain plain_none us _ λ ws p vs. (tt, tt)

pub listless_notice : (us : List (List ℕ)) → Listless (notice us)
unfolding notice
listless_notice us = by_taking Listless (λ ws vs. tt) _ us _ λ i long ts. by_paged Listless (λ ws vs. tt) _ _ λ ws vs. tt

pub listless_hand_back : (us : List (List ℕ)) → Listless (hand_back us)
unfolding hand_back
listless_hand_back us = by_taking Listless (λ ws vs. tt) _ us _ λ i f s long ts. by_paged Listless (λ ws vs. tt) _ _ λ ws vs. tt

pub pageless_allow : (us : List (List ℕ)) → Pageless (allow us)
unfolding allow
pageless_allow us = by_taking Pageless (λ ws p. tt) _ us _ λ i long x ts. by_given Pageless (λ ws p. tt) _ _ λ n ws p. tt

-- an event that equals one without them has none
pub plainly : (Q : Event → Type 0) (e f : Event) → e ≡ f → Q f → Q e
plainly Q e f h q = subst Q (sym h) q

-- ---- lines
module _ (line : List ℕ) where
  pub event_comment : is_comment line ≡ true → Nothing ≡ event_of line
  unfolding event_of
  event_comment c = rw c

  pub event_long : is_comment line ≡ false → 65536 < length line → Unreadable ≡ event_of line
  unfolding event_of
  event_long c l = rw (c, lt-ltb 65536 (length line) l)

  module _ (c : is_comment line ≡ false) (l : length line ≤ 65536) where
    pub event_blank : words line ≡ [] → Nothing ≡ event_of line
    unfolding event_of spoken
    event_blank e = rw (c, le-ltb 65536 (length line) l, e)

    module _ (w : List ℕ) (ws : List (List ℕ)) (e : words line ≡ w ∷ ws) where
      pub event_named : (n : Name) → Some n ≡ name_of w → named n ws ≡ event_of line
      unfolding event_of spoken given
      event_named n h = rw (c, le-ltb 65536 (length line) l, e, sym h)

      pub event_unnamed : None ≡ name_of w → Unreadable ≡ event_of line
      unfolding event_of spoken given
      event_unnamed h = rw (c, le-ltb 65536 (length line) l, e, sym h)

-- ---- equal parts
pub renamed : (ws : List (List ℕ)) (n m : Name) → n ≡ m → named n ws ≡ named m ws
renamed ws n m e = ap (λ (k : Name). named k ws) e

pub repaged : (e : Event) (p : List ℕ) (ws us : List (List ℕ)) → ws ≡ us → PageIs ws e p → PageIs us e p
repaged e p ws us h q = subst (λ (k : List (List ℕ)). PageIs k e p) h q

pub relisted : (e : Event) (vs : List ℕ) (ws us : List (List ℕ)) → ws ≡ us → ValuesAre ws e vs → ValuesAre us e vs
relisted e vs ws us h q = subst (λ (k : List (List ℕ)). ValuesAre k e vs) h q
