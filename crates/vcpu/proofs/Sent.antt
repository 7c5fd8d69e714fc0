-- An IPI that goes from record to record leaves the module that the model says, and names the same vCPUs.
-- Assumes nothing.
use mathlib.Core.Path.{◌≡◌, refl, sym, ap, ap₂, ◌∙◌}
use mathlib.Core.Bool.{Bool, true, false, cond, not, ◌&&◌, ◌||◌}
use mathlib.Core.List.{List, [], ◌∷◌}
use Prim.Native.Nat.{ℕ, zero, suc, ◌+◌, ◌-◌, ◌*◌, ◌^◌, ◌<◌, ◌≤◌}
use native.Mathlib.Omega.{arith}
use native.Mathlib.Nat.{le_of_suc-le-suc, not-suc-le-zero, pow-succ', zero-mul}
use lib.Bits.{bit_or, or_lt, or_zero_r}
use lib.Pow.{pow_pos}
use lib.Dec.{ltb, eqb}
use lib.ListN.{length, get_or, set}
use borrow.Author.Tests.{lt-ltb, le-ltb, ltb-true, ltb-false, eqb-true, eqb-false}
use Rattle.vector_set.proofs.BitLaws.{bits_bit, bits_lt, bits_unique, bit_or_lem, bit_pow, bit_above}
use Rattle.vector_set.specs.Bits.{one, bits, bit_at}
use Rattle.model.specs.declared.Vcpu.{Vcpu}
use Rattle.model.specs.declared.Module.{Module}
use Rattle.model.specs.State.{is_active, absent, size, vcpu_at, with_vcpu}
use Rattle.model.specs.Items.{pending, mark}
use Rattle.model.proofs.Stored.{map_from_at}
use Rattle.model.specs.Ipi.{icr_item, icr_target, hits, reached, reach, map_from, sent, new_bits}
use mathlib.Core.Bool.{or-true, or-false}
use Rattle.vcpu.specs.Records.{Sending, send_at, send_below}
use Rattle.vcpu.proofs.Stores.{with_vcpus, put_same, size_le}

-- ---- bits
-- the bits below k + 1, from those below k
bits_more : (f : ℕ → Bool) (k : ℕ) → f k ≡ true → bit_or (bits f 0 k) (2 ^ k) ≡ bits f 0 (suc k)
bits_more f k e = bits_unique f 0 (suc k) (bit_or (bits f 0 k) (2 ^ k)) (or_lt (suc k) (bits f 0 k) (2 ^ k) low top) at
  where
    low : bits f 0 k < 2 ^ suc k
    low = let h = bits_lt f 0 k in let d = pow-succ' 2 k in omega arith

    top : 2 ^ k < 2 ^ suc k
    top = let h = pow_pos k in let d = pow-succ' 2 k in omega arith

    pick : (b : ℕ) → b < suc k → (t : Bool) → eqb b k ≡ t → bit_at (bits f 0 k) b || t ≡ f (0 + b)
    pick b h true q =
        let z : 0 + k ≡ k = omega arith in
        rw (eqb-true b k q, z, e) (or-true (bit_at (bits f 0 k) k))
    pick b h false q =
        let l : b < k = (let n = eqb-false b k q in omega arith) in
        rw (bits_bit f 0 k b l) (or-false (f (0 + b)))

    at : (b : ℕ) → b < suc k → bit_at (bit_or (bits f 0 k) (2 ^ k)) b ≡ f (0 + b)
    at b h = rw (bit_or_lem (bits f 0 k) (2 ^ k) b, bit_pow k b) (pick b h (eqb b k) refl)

bits_less : (f : ℕ → Bool) (k : ℕ) → f k ≡ false → bits f 0 k ≡ bits f 0 (suc k)
bits_less f k e = bits_unique f 0 (suc k) (bits f 0 k) low at
  where
    low : bits f 0 k < 2 ^ suc k
    low = let h = bits_lt f 0 k in let d = pow-succ' 2 k in omega arith

    pick : (b : ℕ) → b < suc k → (t : Bool) → eqb b k ≡ t → bit_at (bits f 0 k) b ≡ f (0 + b)
    pick b h true q =
        let z : 0 + k ≡ k = omega arith in
        rw (eqb-true b k q, z, e) (bit_above k (bits f 0 k) k (bits_lt f 0 k) (omega arith))
    pick b h false q =
        let l : b < k = (let n = eqb-false b k q in omega arith) in
        bits_bit f 0 k b l

    at : (b : ℕ) → b < suc k → bit_at (bits f 0 k) b ≡ f (0 + b)
    at b h = pick b h (eqb b k) refl

bits_next : (f : ℕ → Bool) (k : ℕ) (t : Bool) → f k ≡ t → bit_or (bits f 0 k) (one t * 2 ^ k) ≡ bits f 0 (suc k)
bits_next f k true e = ap (bit_or (bits f 0 k)) (omega arith) ∙ bits_more f k e
bits_next f k false e = ap (bit_or (bits f 0 k)) (zero-mul (2 ^ k)) ∙ or_zero_r (bits f 0 k) ∙ bits_less f k e

-- no more bits where there are none from n on
bits_end : (f : ℕ → Bool) (n k : ℕ) → ((j : ℕ) → n ≤ j → f j ≡ false) → bits f 0 n ≡ bits f 0 (n + k)
bits_end f n zero h = let z : n + 0 ≡ n = omega arith in rw z
bits_end f n (suc k) h =
    let z : n + suc k ≡ suc (n + k) = omega arith in
    rw z (bits_end f n k h ∙ bits_less f (n + k) (h (n + k) (omega arith)))

-- ---- records
map_from_ext : (f g : ℕ → Vcpu → Vcpu) (a : ℕ) (l : List Vcpu) → ((j : ℕ) (v : Vcpu) → f (a + j) v ≡ g (a + j) v) → map_from f a l ≡ map_from g a l
unfolding map_from
map_from_ext f g a [] h = refl
map_from_ext f g a (v ∷ l) h =
    let z : a + 0 ≡ a = omega arith in
    ap₂ (λ (u : Vcpu) (us : List Vcpu). u ∷ us) (rw z at (h 0 v))
    (map_from_ext f g (suc a) l (λ j u. let e : a + suc j ≡ suc a + j = omega arith in rw e at (h (suc j) u)))

map_from_get : (f : ℕ → Vcpu → Vcpu) (a : ℕ) (l : List Vcpu) (k : ℕ) (d : Vcpu) → k < length l → get_or (map_from f a l) k d ≡ f (a + k) (get_or l k d)
map_from_get f a l k d h = map_from_at f a l k d (λ q. absurd (let z : ⊥ = omega arith in z))

-- the record k changed from f's to g's, which agree at every other number
set_map_from : (f g : ℕ → Vcpu → Vcpu) (a : ℕ) (l : List Vcpu) (k : ℕ) (d : Vcpu) → k < length l
    → ((j : ℕ) → (j ≡ k → ⊥) → (v : Vcpu) → f (a + j) v ≡ g (a + j) v)
    → set (map_from f a l) k (g (a + k) (get_or l k d)) ≡ map_from g a l
unfolding map_from
set_map_from f g a [] k d h e = absurd (not-suc-le-zero h)
set_map_from f g a (v ∷ l) zero d h e =
    let z : a + 0 ≡ a = omega arith in
    rw z
    (ap (λ (us : List Vcpu). g a v ∷ us)
    (map_from_ext f g (suc a) l (λ j u. let s : a + suc j ≡ suc a + j = omega arith in rw s at (e (suc j) (λ (q : suc j ≡ 0). omega arith) u))))
set_map_from f g a (v ∷ l) (suc k) d h e =
    let z : a + 0 ≡ a = omega arith in
    let s : a + suc k ≡ suc a + k = omega arith in
    rw s
    (ap₂ (λ (u : Vcpu) (us : List Vcpu). u ∷ us) (rw z at (e 0 (λ (q : 0 ≡ suc k). omega arith) v))
    (set_map_from f g (suc a) l k d (le_of_suc-le-suc h)
    (λ j n u. let r : a + suc j ≡ suc a + j = omega arith in rw r at (e (suc j) (λ (q : suc j ≡ suc k). n (let w : j ≡ k = omega arith in w)) u))))

map_from_id : (f : ℕ → Vcpu → Vcpu) (a : ℕ) (l : List Vcpu) → ((j : ℕ) (v : Vcpu) → f (a + j) v ≡ v) → map_from f a l ≡ l
unfolding map_from
map_from_id f a [] h = refl
map_from_id f a (v ∷ l) h =
    let z : a + 0 ≡ a = omega arith in
    ap₂ (λ (u : Vcpu) (us : List Vcpu). u ∷ us) (rw z at (h 0 v))
    (map_from_id f (suc a) l (λ j u. let e : a + suc j ≡ suc a + j = omega arith in rw e at (h (suc j) u)))

module _ (i x : ℕ) (m : Module) (whole : size m ≤ length m.vcpus) where
  -- the vCPU j is reached
  abbrev reaches : ℕ → Bool
  reaches j = reached (icr_target x) i (size m) j (vcpu_at m j).phase

  -- the item becomes pending there
  abbrev names : ℕ → Bool
  names j = reaches j && not (pending (icr_item x) (vcpu_at m j))

  -- the record j once the vCPUs below k have been gone through
  abbrev up_to : ℕ → ℕ → Vcpu → Vcpu
  up_to k j v = cond (ltb j k) (reach (icr_item x) (icr_target x) i (size m) j v) v

  abbrev below : ℕ → Sending
  below k =
      record {
        mask = bits names 0 k;
        after = with_vcpus m (map_from (up_to k) 0 m.vcpus);
      }

  at_below : (k : ℕ) → k < size m → vcpu_at (below k).after k ≡ vcpu_at m k
  unfolding vcpu_at
  at_below k h =
      let z : 0 + k ≡ k = omega arith in
      rw (map_from_get (up_to k) 0 m.vcpus k absent (omega arith), z, le-ltb k k (omega arith))

  same_test : (j k : ℕ) → (j ≡ k → ⊥) → ltb j k ≡ ltb j (suc k)
  same_test j k n = pick (ltb j k) refl
    where
      pick : (t : Bool) → ltb j k ≡ t → t ≡ ltb j (suc k)
      pick true e = let l = ltb-true j k e in sym (lt-ltb j (suc k) (omega arith))
      pick false e = let l = ltb-false j k e in sym (le-ltb j (suc k) (omega arith))

  -- the record k stored as the IPI leaves it
  stored : (k : ℕ) (u : Vcpu) → k < size m → u ≡ up_to (suc k) k (vcpu_at m k) → with_vcpu (below k).after k u ≡ (below (suc k)).after
  unfolding with_vcpu vcpu_at
  stored k u h e =
      let z : 0 + k ≡ k = omega arith in
      rw e
      (ap (with_vcpus m)
      (rw z at
      (set_map_from (up_to k) (up_to (suc k)) 0 m.vcpus k absent (omega arith)
      (λ j n v. let w : 0 + j ≡ j = omega arith in rw (w, same_test j k n)))))

  -- the vCPU k is an active target
  abbrev hit : ℕ → Bool
  hit k = hits (icr_target x) i k && is_active (vcpu_at m k).phase

  is_reached : (k : ℕ) (t : Bool) → k < size m → hit k ≡ t → reaches k ≡ t
  is_reached k t h e = rw (lt-ltb k (size m) h) e

  left : (k : ℕ) (t : Bool) → k < size m → hit k ≡ t → cond t (mark (icr_item x) (vcpu_at m k)) (vcpu_at m k) ≡ up_to (suc k) k (vcpu_at m k)
  unfolding reach
  left k t h e = rw (lt-ltb k (suc k) (omega arith), lt-ltb k (size m) h, e)

  one_more : (k : ℕ) → k < size m → send_at i x k (below k) ≡ below (suc k)
  unfolding send_at
  one_more k h = rw (at_below k h) (pick (hit k) refl)
    where
      fresh : Bool
      fresh = not (pending (icr_item x) (vcpu_at m k))

      pick : (t : Bool) → hit k ≡ t
          → cond t (record { mask = bit_or (bits names 0 k) (one fresh * 2 ^ k); after = with_vcpu (below k).after k (mark (icr_item x) (vcpu_at m k)) }) (below k)
          ≡ below (suc k)
      pick true e =
          ap₂ (λ (b : ℕ) (a : Module). record { mask = b; after = a }) (bits_next names k fresh (ap (λ (t : Bool). t && fresh) (is_reached k true h e)))
          (stored k _ h (left k true h e))
      pick false e =
          ap₂ (λ (b : ℕ) (a : Module). record { mask = b; after = a }) (bits_less names k (ap (λ (t : Bool). t && fresh) (is_reached k false h e)))
          (sym (put_same (below k).after k) ∙ stored k _ h (at_below k h ∙ left k false h e))

  none_yet : send_below i x m 0 ≡ below 0
  unfolding send_below bits
  none_yet =
      ap (λ (l : List Vcpu). record { mask = 0; after = with_vcpus m l })
      (sym (map_from_id (up_to 0) 0 m.vcpus (λ j v. rw (le-ltb (0 + j) 0 (omega arith)))))

  goes : (k : ℕ) → k ≤ size m → send_below i x m k ≡ below k
  unfolding send_below
  goes zero h = none_yet
  goes (suc k) h = ap (send_at i x k) (goes k (omega arith)) ∙ one_more k (omega arith)

  up_to_all : (j : ℕ) (v : Vcpu) → up_to (size m) j v ≡ reach (icr_item x) (icr_target x) i (size m) j v
  unfolding reach
  up_to_all j v = pick (ltb j (size m))
    where
      pick : (t : Bool)
          → cond t (cond (t && hits (icr_target x) i j && is_active v.phase) (mark (icr_item x) v) v) v
          ≡ cond (t && hits (icr_target x) i j && is_active v.phase) (mark (icr_item x) v) v
      pick true = refl
      pick false = refl

  all_bits : bits names 0 (size m) ≡ new_bits (icr_item x) (icr_target x) i m
  unfolding new_bits
  all_bits =
      let s = size_le m in
      let e : size m + (32 - size m) ≡ 32 = omega arith in
      bits_end names (size m) (32 - size m) (λ j h. rw (le-ltb j (size m) h)) ∙ ap (bits names 0) e

  -- every vCPU gone through, the IPI is sent
  pub all_sent : send_below i x m (size m) ≡ record { mask = new_bits (icr_item x) (icr_target x) i m; after = sent (icr_item x) (icr_target x) i m }
  unfolding sent
  all_sent =
      goes (size m) (omega arith)
      ∙ ap₂ (λ (b : ℕ) (l : List Vcpu). record { mask = b; after = with_vcpus m l })
      all_bits (map_from_ext (up_to (size m)) (reach (icr_item x) (icr_target x) i (size m)) 0 m.vcpus (λ j v. up_to_all (0 + j) v))
