-- The book follows the module: fed an event's note, the book of a module is the book of the module after the event.
-- Assumes nothing.
use mathlib.Core.Path.{◌≡◌, refl, sym, ap, ◌∙◌}
use mathlib.Core.List.{List, [], ◌∷◌, map}
use Prim.Native.Nat.{ℕ}
use lib.Dec.{ltb}
use Rattle.model.specs.declared.Phase.TheVariants.{Left}
use Rattle.model.specs.declared.Refusal.{Refusal}
use Rattle.model.specs.declared.Refusal.TheVariants.{UnknownVcpu, ShortPage, NotActive, BadList}
use Rattle.model.specs.declared.Vcpu.{Vcpu}
use Rattle.model.specs.declared.Module.{Module}
use Rattle.model.specs.State.{is_active, is_leaving, size, vcpu_at, with_vcpu, with_registrations}
use Rattle.model.specs.Codes.{accept, refuse}
use Rattle.model.specs.Items.{item_in_flight, unmark_all}
use Rattle.model.specs.Doorbell.{long_enough, no_part, admitted}
use Rattle.model.specs.Requests.{request_of, forget}
use Rattle.model.specs.Events.{Act, notice, call, entry, non_delivery, hand_back, allow, at, Bytes, Event, list_fits, offer}
use Rattle.model.specs.Events.{emptied, hand_back_refusal, vcpu_verdict, verdict, list_after, effect, concluded, next, final}
use Rattle.model.specs.Demand2.{singles}
use Rattle.lists.specs.Book.{note, Book, record_of, book_of, permits, permits_each, called, leaves, feed_act, feed, feed_all, part_on, part_by}
use Rattle.lists.specs.Lists.{struck}
use Rattle.vector_set.specs.Sets.{empty}
use Rattle.model.proofs.Stored.{count_same, taken, left_alone, all_three, not_three, by_verdict_lem, Known, known_of}
use Rattle.model.proofs.Listed.{known_next, all_after}
use Rattle.lists.proofs.BookLaws.{record_book, book_put, record_noticed, record_entered, record_undelivered}
use Rattle.lists.proofs.FollowCalls.{called_requests, nothing_stored, follow_request, refused_request}

-- ---- an event, and a list
record_emptied : (v : Vcpu) → record_of (emptied v) ≡ record { phase = Left; allowed = empty }
unfolding emptied unmark_all
record_emptied v = refl

follow_hand_back : (m : Module) (i : ℕ) → leaves i (book_of m) ≡ book_of (with_registrations m.registrations (with_vcpu m i (emptied (vcpu_at m i))))
unfolding leaves
follow_hand_back m i = rw (count_same, book_put, record_emptied (vcpu_at m i))

-- a call
follow_call : (m : Module) (i op c x : ℕ) → feed (book_of m) (note (at i (call op c x))) ≡ book_of (next m (at i (call op c x)))
unfolding feed_act effect concluded verdict vcpu_verdict book_of
follow_call m i op c x =
    by_verdict_lem m (at i (call op c x)) (λ o. feed (book_of m) (at i (call op c x)) ≡ book_of o.after)
    (λ d e. rw (record_book m i, called_requests i (book_of m) op c x)
    (left_alone (ltb i (size m)) (is_active (vcpu_at m i).phase) UnknownVcpu NotActive d _ _ _ e (refused_request (request_of op c x) m i d)))
    (λ e. rw (record_book m i, called_requests i (book_of m) op c x)
    (taken (ltb i (size m)) (is_active (vcpu_at m i).phase) UnknownVcpu NotActive _ _ _ _ e (follow_request (request_of op c x) m i)))

-- one value of a list, on an active vCPU
follow_value : (m : Module) (i c : ℕ) → Known m i is_active → permits i c (book_of m) ≡ book_of (next m (at i (call 4 c 0)))
unfolding feed_act called book_of
follow_value m i c k = rw (record_book m i, k.below, k.phase) at (follow_call m i 4 c 0)

follow_values : (cs : List ℕ) (m : Module) (i : ℕ) → Known m i is_active → permits_each i cs (book_of m) ≡ book_of (final m (singles i 0 cs))
unfolding permits_each final
follow_values [] m i k = refl
follow_values (c ∷ cs) m i k = ap (permits_each i cs) (follow_value m i c k) ∙ follow_values cs (next m (at i (call 4 c 0))) i (known_next m i c 0 k)

follow_list : (m : Module) (i : ℕ) (cs : List ℕ) → Known m i is_active
    → permits_each i cs (book_of m) ≡ book_of (with_registrations m.registrations (with_vcpu m i (list_after i m.registrations cs (vcpu_at m i))))
follow_list m i cs k =
    follow_values cs m i k ∙ ap book_of (all_after i 0 cs m k) ∙ ap book_of (sym (count_same m i (list_after i m.registrations cs (vcpu_at m i))))

pub follow_at : (m : Module) (i : ℕ) (a : Act Bytes) → feed (book_of m) (note (at i a)) ≡ book_of (next m (at i a))
unfolding feed_act effect concluded verdict vcpu_verdict book_of
follow_at m i (notice p) =
    by_verdict_lem m (at i (notice p)) (λ o. book_of m ≡ book_of o.after) (λ c e. refl)
    (λ e. nothing_stored _ i m (record_noticed (admitted m.vmpl (vcpu_at m i).allowed p) (vcpu_at m i)))
follow_at m i (call op c x) = follow_call m i op c x
follow_at m i (entry iF sh bl) =
    by_verdict_lem m (at i (entry iF sh bl)) (λ o. book_of m ≡ book_of o.after) (λ c e. refl)
    (λ e. nothing_stored _ i m (record_entered (offer iF sh bl (vcpu_at m i)) (forget (vcpu_at m i))))
follow_at m i non_delivery =
    by_verdict_lem m (at i non_delivery) (λ o. book_of m ≡ book_of o.after) (λ c e. refl)
    (λ e. nothing_stored _ i m (record_undelivered (item_in_flight (vcpu_at m i).flight) (vcpu_at m i)))
follow_at m i (hand_back p iF sh) =
    by_verdict_lem m (at i (hand_back p iF sh)) (λ o. feed (book_of m) (note (at i (hand_back p iF sh))) ≡ book_of o.after)
    (λ d e. rw (record_book m i)
    (not_three (ltb i (size m)) (is_leaving (vcpu_at m i).phase) (long_enough p) UnknownVcpu (hand_back_refusal (vcpu_at m i).phase) ShortPage d _ _ e))
    (λ e. rw (record_book m i)
    (all_three (ltb i (size m)) (is_leaving (vcpu_at m i).phase) (long_enough p) UnknownVcpu (hand_back_refusal (vcpu_at m i).phase) ShortPage _ _ e
    ∙ follow_hand_back m i))
follow_at m i (allow cs q) =
    by_verdict_lem m (at i (allow cs q)) (λ o. feed (book_of m) (note (at i (allow cs q))) ≡ book_of o.after)
    (λ d e. rw (record_book m i)
    (not_three (ltb i (size m)) (is_active (vcpu_at m i).phase) (list_fits cs q) UnknownVcpu NotActive BadList d _ _ e))
    (λ e. rw (record_book m i)
    (all_three (ltb i (size m)) (is_active (vcpu_at m i).phase) (list_fits cs q) UnknownVcpu NotActive BadList _ _ e
    ∙ follow_list m i cs (known_of m i (allow cs q) e)))

pub follow : (m : Module) (e : Event) → feed (book_of m) (note e) ≡ book_of (next m e)
follow m e = follow_at m e.vcpu e.act

pub follow_all : (es : List Event) (m : Module) → feed_all (book_of m) (map note es) ≡ book_of (final m es)
unfolding feed_all final
follow_all [] m = refl
follow_all (e ∷ es) m = ap (λ w. feed_all w (map note es)) (follow m e) ∙ follow_all es (next m e)

-- the book reads no notice
pub struck_book : (es : List Event) (w : Book) → feed_all w (map note (struck es)) ≡ feed_all w (map note es)
unfolding feed_all feed_act struck
struck_book [] w = refl
struck_book (e ∷ es) w = pick e.vcpu e.act (λ u. struck_book es u)
  where
    pick : (i : ℕ) (a : Act Bytes) → ((u : Book) → feed_all u (map note (struck es)) ≡ feed_all u (map note es))
        → feed_all w (map note (struck (at i a ∷ es))) ≡ feed_all (feed w (note (at i a))) (map note es)
    pick i (notice p) h = h w
    pick i (call op c x) h = h _
    pick i (entry iF sh bl) h = h _
    pick i non_delivery h = h _
    pick i (hand_back p iF sh) h = h _
    pick i (allow cs q) h = h _

-- where a notice is accepted, what it admits by the book is what the machine takes; where it is refused, nothing
pub part_accepted : (m : Module) (i : ℕ) (p : Bytes) → verdict m (at i (notice p)) ≡ accept
    → part_by m.vmpl (book_of m) (at i (notice p)) ≡ admitted m.vmpl (vcpu_at m i).allowed p
unfolding verdict vcpu_verdict part_on book_of
part_accepted m i p h =
    rw (record_book m i) (all_three (ltb i (size m)) (is_active (vcpu_at m i).phase) (long_enough p) UnknownVcpu NotActive ShortPage _ _ h)

pub part_refused : (m : Module) (i : ℕ) (p : Bytes) (d : Refusal) → verdict m (at i (notice p)) ≡ refuse d
    → part_by m.vmpl (book_of m) (at i (notice p)) ≡ no_part
unfolding verdict vcpu_verdict part_on book_of
part_refused m i p d h =
    rw (record_book m i) (not_three (ltb i (size m)) (is_active (vcpu_at m i).phase) (long_enough p) UnknownVcpu NotActive ShortPage d _ _ h)
