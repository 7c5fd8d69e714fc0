-- What an event does to any book, by its kind.
-- Assumes nothing.
use mathlib.Core.Path.{◌≡◌, refl, ap, ◌∙◌}
use mathlib.Core.Bool.{Bool, true, false, cond, ◌&&◌}
use mathlib.Core.List.{List, [], ◌∷◌}
use Rattle.std.specs.Prelude.{Option, None, Some}
use Prim.Native.Nat.{ℕ, ◌+◌, ◌≤◌}
use native.Mathlib.Omega.{arith}
use lib.Dec.{leb, ltb, eqb}
use lib.ListN.{length}
use borrow.Author.Tests.{leb-true, le-ltb}
use Rattle.model.specs.declared.Phase.TheVariants.{Leaving}
use Rattle.model.specs.State.{is_active, is_leaving}
use Rattle.model.specs.Requests.{nameable}
use Rattle.model.specs.Events.{Act, notice, call, entry, non_delivery, hand_back, allow, Bytes, Event}
use Rattle.model.specs.Doorbell.{no_part}
use Rattle.model.specs.Continued.{only_reads}
use Rattle.model.proofs.Continued.{by_read}
use Rattle.lists.specs.Book.{Note, note, map_page, BookRecord, Book, record_at, with_record, with_count, with_phase, leaves_at_zero, takes_one, adds_one, registers}
use Rattle.lists.specs.Book.{permits, permits_each, called, leaves, feed_act, feed, notice_page, part_on, part_by}
use Rattle.lists.specs.Feeds.{is_registration, Feeds}
use Rattle.vector_set.specs.Bits.{one, bit_at}
use Rattle.vector_set.proofs.Laws.{clash}

-- ---- a call that reads
pub read_feeds : (w : Book) (e : Event) → only_reads e.act ≡ true → feed w (note e) ≡ w
unfolding feed_act called
read_feeds w e h = over e.vcpu e.act h
  where
    same : (b : Bool) → cond b w w ≡ w
    same true = refl
    same false = refl

    over : (i : ℕ) (a : Act Bytes) → only_reads a ≡ true → feed_act i (map_page length a) w ≡ w
    over i (notice p) h = clash (cc)
    over i (call op c x) h =
        by_read op (λ o. feed_act i (call o c x) w ≡ w) h
        (same (ltb i w.n && is_active (record_at w i).phase)) (same (ltb i w.n && is_active (record_at w i).phase))
    over i (entry iF sh bl) h = clash (cc)
    over i non_delivery h = clash (cc)
    over i (hand_back p iF sh) h = clash (cc)
    over i (allow cs q) h = clash (cc)

-- ---- the count
-- from k to x at most one is added, and none but where b says so; 0 stays
pub record Grows (b : Bool) (k x : ℕ) : Type 0 where
  pub most : x ≤ k + one b
  pub none : k ≡ 0 → x ≡ 0

less : (b : Bool) (k x : ℕ) → x ≤ k → Grows b k x
less true k x h = record { most = omega (arith, h); none = λ (e : k ≡ 0). omega (arith, h, e) }
less false k x h = record { most = omega (arith, h); none = λ (e : k ≡ 0). omega (arith, h, e) }

grows_cond : (b t : Bool) (k : ℕ) (v w : Book) → Grows b k v.count → Grows b k w.count → Grows b k (cond t v w).count
grows_cond b true k v w p q = p
grows_cond b false k v w p q = q

module _ (i : ℕ) (w : Book) where
  same : (b : Bool) → Grows b w.count w.count
  same b = less b _ _ (omega arith)

  grows_leaves : (b : Bool) (v : Book) → v.count ≤ w.count → Grows b w.count (leaves_at_zero i v).count
  unfolding leaves_at_zero with_record
  grows_leaves b v h =
      grows_cond b (eqb v.count 0) w.count (with_record i (with_phase Leaving (record_at v i)) v) v (less b _ _ h) (less b _ _ h)

  grows_one : Grows true w.count (adds_one w).count
  unfolding adds_one with_count
  grows_one = over (leb 1 w.count) (leb w.count 254) refl
    where
      over : (a b : Bool) → leb 1 w.count ≡ a → Grows true w.count (cond (a && b) (with_count (w.count + 1) w) w).count
      over true true h =
          let g = leb-true 1 w.count h in
          record { most = omega arith; none = λ (e : w.count ≡ 0). clash (omega (arith, g, e)) }
      over true false h = same true
      over false b h = same true

  grows_registers : (c : ℕ) → Grows (eqb c 2) w.count (registers i c w).count
  unfolding registers takes_one with_count
  grows_registers c = over (eqb c 0) (eqb c 1) (eqb c 2)
    where
      over : (x y z : Bool) → Grows z w.count (cond x (leaves_at_zero i w) (cond y (leaves_at_zero i (takes_one w)) (cond z (adds_one w) w))).count
      over true y z = grows_leaves z w (omega arith)
      over false true z = grows_leaves z (takes_one w) (omega arith)
      over false false true = grows_one
      over false false false = same false

-- call 4 and a list leave it
permits_count : (i c : ℕ) (w : Book) → (permits i c w).count ≡ w.count
unfolding permits with_record
permits_count i c w = over (nameable c) (bit_at c 8) _ _
  where
    over : (a b : Bool) (r q : BookRecord) → (cond a (cond b (with_record i r w) (with_record i q w)) w).count ≡ w.count
    over true true r q = refl
    over true false r q = refl
    over false b r q = refl

each_count : (i : ℕ) (cs : List ℕ) (w : Book) → (permits_each i cs w).count ≡ w.count
unfolding permits_each
each_count i [] w = refl
each_count i (c ∷ cs) w = each_count i cs (permits i c w) ∙ permits_count i c w

grows_called : (i op c : ℕ) (w : Book) → Grows (eqb op 1 && eqb c 2) w.count (called i op c w).count
unfolding called
grows_called i op c w = over (eqb op 1)
  where
    over : (x : Bool) → Grows (x && eqb c 2) w.count (cond x (registers i c w) (cond (eqb op 4) (permits i c w) w)).count
    over true = grows_registers i w c
    over false = grows_cond false (eqb op 4) w.count (permits i c w) w (rw (permits_count i c w) (same i w false)) (same i w false)

pub grows_act : (i : ℕ) (a : Act ℕ) (w : Book) → Grows (is_registration a) w.count (feed_act i a w).count
unfolding feed_act leaves with_record
grows_act i (notice k) w = same i w false
grows_act i (call op c x) w =
    grows_cond (eqb op 1 && eqb c 2) (ltb i w.n && is_active (record_at w i).phase) w.count (called i op c w) w (grows_called i op c w)
    (same i w (eqb op 1 && eqb c 2))
grows_act i (entry iF sh bl) w = same i w false
grows_act i non_delivery w = same i w false
grows_act i (hand_back k iF sh) w =
    grows_cond false (ltb i w.n && is_leaving (record_at w i).phase && leb 256 k) w.count (leaves i w) w (same i w false) (same i w false)
grows_act i (allow cs k) w =
    grows_cond false (ltb i w.n && is_active (record_at w i).phase && (leb (length cs) 256 && leb (length cs) k)) w.count (permits_each i cs w) w
    (rw (each_count i cs w) (same i w false)) (same i w false)

-- ---- a vCPU that is not below n
pub unknown_feeds : (w : Book) (e : Note) → w.n ≤ e.vcpu → feed w e ≡ w
unfolding feed_act
unknown_feeds w e h = over e.vcpu e.act (le-ltb e.vcpu w.n h)
  where
    over : (i : ℕ) (a : Act ℕ) → ltb i w.n ≡ false → feed_act i a w ≡ w
    over i (notice k) n = refl
    over i (call op c x) n = rw n
    over i (entry iF sh bl) n = refl
    over i non_delivery n = refl
    over i (hand_back k iF sh) n = rw n
    over i (allow cs k) n = rw n

pub unknown_admits_lem : (l : ℕ) (w : Book) (e : Event) → w.n ≤ e.vcpu → part_by l w e ≡ no_part
unfolding part_on
unknown_admits_lem l w e h = over (notice_page e.act)
  where
    over : (o : Option Bytes) → part_on l w e.vcpu o ≡ no_part
    over None = refl
    over (Some p) = rw (le-ltb e.vcpu w.n h)

-- ---- an event that is no notice
pub others_admit_lem : (l : ℕ) (w : Book) (e : Event) → notice_page e.act ≡ None → part_by l w e ≡ no_part
unfolding part_on
others_admit_lem l w e h = ap (part_on l w e.vcpu) h

pub feeds : Feeds
feeds =
    record {
      reads = read_feeds;
      adds = λ w e. (grows_act e.vcpu e.act w).most;
      none_stays = λ w e. (grows_act e.vcpu e.act w).none;
      unknown = unknown_feeds;
      unknown_admits = unknown_admits_lem;
      others_admit = others_admit_lem;
    }
