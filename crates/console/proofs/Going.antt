-- How a session goes on, by what the code tested.
-- Assumes nothing.
use Rattle.std.proofs.Common.{◌≡◌, ◌<◌, ◌≤◌, Bool, true, false, cond, sym, refl, ap, ◌∙◌, subst, le-ltb, lt-ltb, le-leb}
use borrow.Author.Tests.{lt-leb}
use Rattle.console.specs.declared.Session.{Session}
use Rattle.console.specs.Sessions.{renewed, kept_on, is_unread, advanced}

module _ (s : Session) where
  gone : (b : Bool) → is_unread s ≡ b → {n r : Session} → n ≡ renewed s → r ≡ cond b (kept_on n) n → r ≡ advanced s
  unfolding advanced
  gone b u e g = g ∙ ap (λ (n : Session). cond b (kept_on n) n) e ∙ ap (λ (t : Bool). cond t (kept_on (renewed s)) (renewed s)) (sym u)

  pub goes_on : {n r : Session} → n ≡ renewed s → n.from < n.to → n.to ≤ 65536 → r ≡ kept_on n → r ≡ advanced s
  unfolding renewed
  goes_on e h k g =
      let a : s.from < s.to = subst (λ (n : Session). n.from < n.to) e h in
      let b : s.to ≤ 65536 = subst (λ (n : Session). n.to ≤ 65536) e k in gone true (rw (lt-ltb s.from s.to a, le-leb s.to 65536 b)) e g

  pub ill_bounded : {n : Session} → n ≡ renewed s → n.from < n.to → 65536 < n.to → n ≡ advanced s
  unfolding renewed
  ill_bounded e h k =
      let a : s.from < s.to = subst (λ (n : Session). n.from < n.to) e h in
      let b : 65536 < s.to = subst (λ (n : Session). 65536 < n.to) e k in gone false (rw (lt-ltb s.from s.to a, lt-leb s.to 65536 b)) e refl

  pub all_read : {n : Session} → n ≡ renewed s → n.to ≤ n.from → n ≡ advanced s
  unfolding renewed
  all_read e h = let a : s.to ≤ s.from = subst (λ (n : Session). n.to ≤ n.from) e h in gone false (rw (le-ltb s.from s.to a)) e refl
