-- The laws of bits, at any width: `bits_bit` (the bits of what was made from bits) and `number_ext` (two numbers of n bits with the same bits are equal) serve
-- all others.
-- Assumes nothing.
use mathlib.Core.Path.{◌≡◌, refl, sym, ap, ◌∙◌, subst}
use mathlib.Core.Bool.{Bool, true, false, not, ◌&&◌, ◌||◌}
use Prim.Native.Nat.{ℕ, zero, suc, ◌+◌, ◌-◌, ◌*◌, ◌/◌, ◌%◌, ◌^◌, ◌<◌, ◌≤◌, min, max}
use native.Mathlib.Omega.{arith}
use native.Mathlib.Nat.{div-div-eq-div-mul, pow-succ', not-suc-le-zero, le_of_suc-le-suc, div-one, div-eq_of_lt, zero-mul, add_comm}
use native.Mathlib.Numerals.{add-one}
use lib.Dec.{eqb, eqb-suc-suc}
use lib.Bits.{bit_and, bit_or, and_shr, or_shr, and_step, or_step, and_high}
use lib.Pow.{pow_pos, pow_mono, shr-shr, high, low, field, mod-mod-pow}
use borrow.Author.Tests.{eqb-true, eqb-false, ne_eqb}
use Rattle.vector_set.specs.Bits.{one, bit_at, bits}

-- anything follows where two constructors would be equal: `clash (cc)`
pub clash : {A : Type 0} → ◌≡◌ {A = ℕ} 0 1 → A
clash e = let z : ⊥ = omega arith in absurd z

-- ---- one bit
one_odd : (b : Bool) (y : ℕ) → (one b + 2 * y) % 2 ≡ one b
one_odd true y = omega arith
one_odd false y = omega arith

one_half : (b : Bool) (y : ℕ) → (one b + 2 * y) / 2 ≡ y
one_half true y = omega arith
one_half false y = omega arith

pub one_eqb : (b : Bool) → eqb (one b) 1 ≡ b
one_eqb true = refl
one_eqb false = refl

pub one_le : (b : Bool) → one b ≤ 1
one_le true = omega arith
one_le false = omega arith

-- the bit as a number
pub bit_number : (x b : ℕ) → one (bit_at x b) ≡ x / 2 ^ b % 2
bit_number x b = go (x / 2 ^ b % 2) (omega arith)
  where
    go : (y : ℕ) → y < 2 → one (eqb y 1) ≡ y
    go zero h = refl
    go (suc zero) h = refl
    go (suc (suc y)) h = let z : ⊥ = omega arith in absurd z

shift : (x b : ℕ) → x / 2 ^ suc b ≡ x / 2 / 2 ^ b
shift x b = rw (div-div-eq-div-mul, pow-succ')

-- the bits above the lowest are those of the half
pub bit_suc : (x b : ℕ) → bit_at x (suc b) ≡ bit_at (x / 2) b
bit_suc x b = rw shift

-- a shift to the right
pub bit_shr : (x k b : ℕ) → bit_at (x / 2 ^ k) b ≡ bit_at x (k + b)
bit_shr x k b = rw shr-shr

-- no bit above a number's length
pub bit_above : (n x b : ℕ) → x < 2 ^ n → n ≤ b → bit_at x b ≡ false
bit_above n x b h l =
    let m : x < 2 ^ b = omega (arith, pow_mono {i = n} {j = b} l) in rw (div-eq_of_lt m)

-- the highest bit of a number
pub bit_top : (j x : ℕ) → 2 ^ j ≤ x → x < 2 ^ suc j → bit_at x j ≡ true
bit_top j x l h =
    let p : 2 ^ suc j ≡ 2 * 2 ^ j = pow-succ' 2 j in
    let e : x ≡ 1 * 2 ^ j + (x - 2 ^ j) = omega arith in
    let d : x / 2 ^ j ≡ 1 = ap (λ (y : ℕ). y / 2 ^ j) e ∙ high 1 j {lo = x - 2 ^ j} (omega arith) in
    rw d

pub bit_zero : (b : ℕ) → bit_at 0 b ≡ false
bit_zero b = bit_above 0 0 b (omega arith) (omega arith)

-- ---- a number made from its bits
pub bits_at : (f : ℕ → Bool) (k n b : ℕ) → b < n → bits f k n / 2 ^ b % 2 ≡ one (f (k + b))
unfolding bits
bits_at f k zero b h = absurd (not-suc-le-zero h)
bits_at f k (suc n) zero h =
    let e : k + 0 ≡ k = omega arith in rw (e, div-one, one_odd)
bits_at f k (suc n) (suc b) h =
    let e : k + suc b ≡ suc k + b = omega arith in
    rw (e, shift, one_half) (bits_at f (suc k) n b (le_of_suc-le-suc h))

pub bits_bit : (f : ℕ → Bool) (k n b : ℕ) → b < n → bit_at (bits f k n) b ≡ f (k + b)
bits_bit f k n b h = rw (bits_at f k n b h) (one_eqb (f (k + b)))

pub bits_lt : (f : ℕ → Bool) (k n : ℕ) → bits f k n < 2 ^ n
unfolding bits
bits_lt f k zero = omega arith
bits_lt f k (suc n) = go (f k) (bits_lt f (suc k) n)
  where
    go : (b : Bool) {y : ℕ} → y < 2 ^ n → one b + 2 * y < 2 ^ suc n
    go true h = omega arith
    go false h = omega arith

pub bits_ext : (f g : ℕ → Bool) (k n : ℕ) → ((b : ℕ) → b < n → f (k + b) ≡ g (k + b)) → bits f k n ≡ bits g k n
unfolding bits
bits_ext f g k zero h = refl
bits_ext f g k (suc n) h =
    let e : k + 0 ≡ k = omega arith in
    let z : f k ≡ g k = subst (λ (j : ℕ). f j ≡ g j) e (h 0 (omega arith)) in
    let t = bits_ext f g (suc k) n (λ b l. let d : k + suc b ≡ suc k + b = omega arith in subst (λ (j : ℕ). f j ≡ g j) d (h (suc b) (omega arith))) in
    rw (z, t)

-- ---- two numbers are equal by their bits
eqb_one : (x y : ℕ) → x < 2 → y < 2 → eqb x 1 ≡ eqb y 1 → x ≡ y
eqb_one x y hx hy e = go (eqb x 1) (eqb y 1) refl refl e
  where
    go : (a b : Bool) → eqb x 1 ≡ a → eqb y 1 ≡ b → a ≡ b → x ≡ y
    go true true p q r = omega (arith, eqb-true x 1 p, eqb-true y 1 q)
    go false false p q r =
        let nx : x ≡ 1 → ⊥ = eqb-false x 1 p in
        let ny : y ≡ 1 → ⊥ = eqb-false y 1 q in
        omega arith
    go true false p q r = clash (cc)
    go false true p q r = clash (cc)

pub number_ext : (n x y : ℕ) → x < 2 ^ n → y < 2 ^ n → ((b : ℕ) → b < n → bit_at x b ≡ bit_at y b) → x ≡ y
number_ext zero x y hx hy h = omega arith
number_ext (suc n) x y hx hy h =
    let up : x / 2 ≡ y / 2 = number_ext n (x / 2) (y / 2) (omega arith) (omega arith)
    (λ b l. subst (λ (t : ℕ). eqb (t % 2) 1 ≡ eqb (y / 2 / 2 ^ b % 2) 1) (shift x b)
    (subst (λ (t : ℕ). eqb (x / 2 ^ suc b % 2) 1 ≡ eqb (t % 2) 1) (shift y b) (h (suc b) (omega arith)))) in
    let z : bit_at x 0 ≡ bit_at y 0 = h 0 (omega arith) in
    let low : x % 2 ≡ y % 2 = eqb_one (x % 2) (y % 2) (omega arith) (omega arith) (rw (div-one x, div-one y) at z) in
    omega arith

-- a number of n bits is `bits f k n` if its bit b is f (k + b)
pub bits_unique : (f : ℕ → Bool) (k n x : ℕ) → x < 2 ^ n → ((b : ℕ) → b < n → bit_at x b ≡ f (k + b)) → x ≡ bits f k n
bits_unique f k n x h e = number_ext n x (bits f k n) h (bits_lt f k n) (λ b l. e b l ∙ sym (bits_bit f k n b l))

-- ---- the operations on words, bit by bit
min_bit : (p q : ℕ) → p < 2 → q < 2 → eqb (min p q) 1 ≡ (eqb p 1 && eqb q 1)
min_bit zero zero hp hq = refl
min_bit zero (suc zero) hp hq = refl
min_bit (suc zero) zero hp hq = refl
min_bit (suc zero) (suc zero) hp hq = refl
min_bit (suc (suc p)) q hp hq = let z : ⊥ = omega arith in absurd z
min_bit zero (suc (suc q)) hp hq = let z : ⊥ = omega arith in absurd z
min_bit (suc zero) (suc (suc q)) hp hq = let z : ⊥ = omega arith in absurd z

max_bit : (p q : ℕ) → p < 2 → q < 2 → eqb (max p q) 1 ≡ (eqb p 1 || eqb q 1)
max_bit zero zero hp hq = refl
max_bit zero (suc zero) hp hq = refl
max_bit (suc zero) zero hp hq = refl
max_bit (suc zero) (suc zero) hp hq = refl
max_bit (suc (suc p)) q hp hq = let z : ⊥ = omega arith in absurd z
max_bit zero (suc (suc q)) hp hq = let z : ⊥ = omega arith in absurd z
max_bit (suc zero) (suc (suc q)) hp hq = let z : ⊥ = omega arith in absurd z

and_low : (x y : ℕ) → bit_and x y % 2 ≡ min (x % 2) (y % 2)
and_low x y = let e = and_step x y in let l : min (x % 2) (y % 2) < 2 = omega arith in omega arith

or_low : (x y : ℕ) → bit_or x y % 2 ≡ max (x % 2) (y % 2)
or_low x y = let e = or_step x y in let l : max (x % 2) (y % 2) < 2 = omega arith in omega arith

pub bit_and_lem : (x y b : ℕ) → bit_at (bit_and x y) b ≡ (bit_at x b && bit_at y b)
bit_and_lem x y b = rw (and_shr, and_low) (min_bit (x / 2 ^ b % 2) (y / 2 ^ b % 2) (omega arith) (omega arith))

pub bit_or_lem : (x y b : ℕ) → bit_at (bit_or x y) b ≡ (bit_at x b || bit_at y b)
bit_or_lem x y b = rw (or_shr, or_low) (max_bit (x / 2 ^ b % 2) (y / 2 ^ b % 2) (omega arith) (omega arith))

other : (p q : ℕ) → p < 2 → q + p ≡ 1 → eqb q 1 ≡ not (eqb p 1)
other zero q h e = let z : q ≡ 1 = omega arith in rw z
other (suc zero) q h e = let z : q ≡ 0 = omega arith in rw z
other (suc (suc p)) q h e = let z : ⊥ = omega arith in absurd z

-- the complement within n bits
pub bit_not : (n x b : ℕ) → x < 2 ^ n → b < n → bit_at ((2 ^ n - 1) - x) b ≡ not (bit_at x b)
bit_not zero x b h l = absurd (not-suc-le-zero l)
bit_not (suc n) x zero h l =
    let p : 2 ^ suc n ≡ 2 * 2 ^ n = pow-succ' 2 n in
    rw (div-one (2 ^ suc n - 1 - x), div-one x) (other (x % 2) ((2 ^ suc n - 1 - x) % 2) (omega arith) (omega arith))
bit_not (suc n) x (suc b) h l =
    let p : 2 ^ suc n ≡ 2 * 2 ^ n = pow-succ' 2 n in
    let e : (2 ^ suc n - 1 - x) / 2 ≡ 2 ^ n - 1 - x / 2 = omega arith in
    bit_suc (2 ^ suc n - 1 - x) b ∙ ap (λ (y : ℕ). bit_at y b) e ∙ bit_not n (x / 2) b (omega arith) (omega arith) ∙ ap not (sym (bit_suc x b))

-- a single bit
pub bit_pow : (k b : ℕ) → bit_at (2 ^ k) b ≡ eqb b k
bit_pow zero zero = refl
bit_pow zero (suc b) = bit_suc 1 b ∙ bit_zero b ∙ sym (ne_eqb (suc b) 0 (λ (q : suc b ≡ 0). omega arith))
bit_pow (suc k) zero =
    let p : 2 ^ suc k ≡ 2 * 2 ^ k = pow-succ' 2 k in
    let e : 2 ^ suc k / 2 ^ 0 % 2 ≡ 0 = rw div-one (omega arith) in
    ap (λ (y : ℕ). eqb y 1) e ∙ sym (ne_eqb 0 (suc k) (λ (q : 0 ≡ suc k). omega arith))
bit_pow (suc k) (suc b) =
    let p : 2 ^ suc k ≡ 2 * 2 ^ k = pow-succ' 2 k in
    let e : 2 ^ suc k / 2 ≡ 2 ^ k = omega arith in
    bit_suc (2 ^ suc k) b ∙ ap (λ (y : ℕ). bit_at y b) e ∙ bit_pow k b ∙ sym (eqb-suc-suc b k)

-- ---- a number of a high and a low part
pub bit_mod : (n x b : ℕ) → b < n → bit_at (x % 2 ^ n) b ≡ bit_at x b
bit_mod n x b l =
    let e : n ≡ (n - (1 + b)) + (1 + b) = omega arith in
    let m : x % 2 ^ n % 2 ^ (1 + b) ≡ x % 2 ^ (1 + b) = ap (λ (k : ℕ). x % 2 ^ k % 2 ^ (1 + b)) e ∙ mod-mod-pow x (n - (1 + b)) (1 + b) in
    ap (λ (y : ℕ). eqb y 1) (sym (field (x % 2 ^ n) 1 b) ∙ ap (λ (y : ℕ). y / 2 ^ b) m ∙ field x 1 b)

pub bit_low : (n hi lo b : ℕ) → lo < 2 ^ n → b < n → bit_at (hi * 2 ^ n + lo) b ≡ bit_at lo b
bit_low n hi lo b h l = sym (bit_mod n (hi * 2 ^ n + lo) b l) ∙ ap (λ (y : ℕ). bit_at y b) (low hi n h)

pub bit_high : (n hi lo b : ℕ) → lo < 2 ^ n → bit_at (hi * 2 ^ n + lo) (n + b) ≡ bit_at hi b
bit_high n hi lo b h = sym (bit_shr (hi * 2 ^ n + lo) n b) ∙ ap (λ (y : ℕ). bit_at y b) (high hi n h)

-- ---- one bit of a number, by a mask
mask_bit : (k x : ℕ) → bit_and x (2 ^ k) ≡ one (bit_at x k) * 2 ^ k
mask_bit k x =
    let p : 2 ^ (1 + k) ≡ 2 * 2 ^ k = rw (add_comm 1 k, add-one k) (pow-succ' 2 k) in
    let e : 2 ^ (1 + k) - 2 ^ k ≡ 2 ^ k = omega arith in
    ap (bit_and x) (sym e) ∙ and_high x 1 k ∙ ap (λ (y : ℕ). y * 2 ^ k) (sym (bit_number x k))

pub mask_clear : (k x : ℕ) → bit_and x (2 ^ k) ≡ 0 → bit_at x k ≡ false
mask_clear k x e = go (bit_at x k) (sym (mask_bit k x) ∙ e)
  where
    go : (b : Bool) → one b * 2 ^ k ≡ 0 → b ≡ false
    go false h = refl
    go true h = let z : ⊥ = omega (arith, pow_pos k) in absurd z

pub mask_set : (k x : ℕ) → (bit_and x (2 ^ k) ≡ 0 → ⊥) → bit_at x k ≡ true
mask_set k x n = go (bit_at x k) (mask_bit k x)
  where
    go : (b : Bool) → bit_and x (2 ^ k) ≡ one b * 2 ^ k → b ≡ true
    go true h = refl
    go false h = absurd (n (h ∙ zero-mul (2 ^ k)))

-- the bit by the test that code makes
pub mask_test : (k x : ℕ) → not (eqb (bit_and x (2 ^ k)) 0) ≡ bit_at x k
mask_test k x = go (eqb (bit_and x (2 ^ k)) 0) refl
  where
    go : (b : Bool) → eqb (bit_and x (2 ^ k)) 0 ≡ b → not b ≡ bit_at x k
    go true e = sym (mask_clear k x (eqb-true (bit_and x (2 ^ k)) 0 e))
    go false e = sym (mask_set k x (eqb-false (bit_and x (2 ^ k)) 0 e))
