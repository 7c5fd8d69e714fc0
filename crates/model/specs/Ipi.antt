-- The ICR's legal values, whom an IPI is for, and what it does (section 7).
-- Assumes nothing.
use Rattle.std.specs.Prelude.{Bool, true, cond, not, ◌&&◌, ◌||◌, List, [], ◌∷◌, ℕ, suc, ◌/◌, ◌%◌, ◌^◌, ltb, eqb}
use Rattle.model.specs.declared.Phase.{Phase}
use Rattle.model.specs.declared.Item.{Item}
use Rattle.model.specs.declared.Item.TheVariants.{Nmi, Vector}
use Rattle.model.specs.declared.Target.{Target}
use Rattle.model.specs.declared.Target.TheVariants.{Caller, All, Others, Physical, Logical}
use Rattle.model.specs.declared.Vcpu.{Vcpu}
use Rattle.model.specs.declared.Module.{Module}
use Rattle.model.specs.State.{is_active, size, vcpu_at}
use Rattle.model.specs.Items.{pending, mark}
use Rattle.vector_set.specs.Bits.{bit_at, bits}
use Rattle.vector_set.specs.Sets.{is_vector}

-- ---- the fields of the ICR
-- the vector (7.2)
abbrev pub icr_vector : ℕ → ℕ
icr_vector x = x % 256

-- the type: 0 Fixed, 4 NMI (7.3)
abbrev pub icr_type : ℕ → ℕ
icr_type x = x / 2 ^ 8 % 8

-- the shorthand: 0 where the destination counts (7.6)
abbrev pub icr_shorthand : ℕ → ℕ
icr_shorthand x = x / 2 ^ 18 % 4

-- the destination (7.7)
abbrev pub icr_destination : ℕ → ℕ
icr_destination x = x / 2 ^ 32

-- ---- the legal values
-- the reserved bits, 12 and 13, 16 and 17, 20 to 31, are clear; 14 and 15 are not among them (7.5, 7.8)
unfoldable pub icr_reserved_clear : ℕ → Bool
icr_reserved_clear x = eqb (x / 2 ^ 12 % 4) 0 && eqb (x / 2 ^ 16 % 4) 0 && eqb (x / 2 ^ 20 % 2 ^ 12) 0

-- Fixed, with a vector that may be sent (7.9, 7.27)
unfoldable pub icr_is_fixed : ℕ → Bool
icr_is_fixed x = eqb (icr_type x) 0 && is_vector (icr_vector x)

-- NMI, with a shorthand that it may have (7.9, 7.10)
unfoldable pub icr_is_nmi : ℕ → Bool
icr_is_nmi x = eqb (icr_type x) 4 && not (eqb (icr_shorthand x) 1 || eqb (icr_shorthand x) 2)

-- the value may be written (7.11)
unfoldable pub icr_legal : ℕ → Bool
icr_legal x = icr_reserved_clear x && (icr_is_fixed x || icr_is_nmi x)

-- ---- what a legal value sends, and to whom
-- the item that it sends (7.3, 7.17, 7.27)
unfoldable pub icr_item : ℕ → Item
icr_item x = cond (eqb (icr_type x) 4) Nmi (Vector (icr_vector x))

-- whom it is for (7.4, 7.6, 7.12, 7.15)
unfoldable pub icr_target : ℕ → Target
icr_target x =
    cond (eqb (icr_shorthand x) 1) Caller
    (cond (eqb (icr_shorthand x) 2) All
    (cond (eqb (icr_shorthand x) 3) Others
    (cond (eqb (icr_destination x) 0xFFFFFFFF) All
    (cond (bit_at x 11) (Logical (icr_destination x)) (Physical (icr_destination x))))))

-- the vCPU k is a target of an IPI that i sends (7.6, 7.12 to 7.15)
unfoldable pub hits : Target → ℕ → ℕ → Bool
hits Caller i k = eqb k i
hits All i k = true
hits Others i k = not (eqb k i)
hits (Physical d) i k = eqb k d
hits (Logical d) i k = eqb (d / 2 ^ 16) (k / 16) && bit_at d (k % 16)

-- the vCPU k, in phase p, is reached: a target below n that is active (7.16, 7.18)
abbrev pub reached : Target → ℕ → ℕ → ℕ → Phase → Bool
reached t i n k p = ltb k n && hits t i k && is_active p

-- ---- what it does
-- the record v of the vCPU k, when i sends the item y to the target t (5.4, 7.17)
unfoldable pub reach : Item → Target → ℕ → ℕ → ℕ → Vcpu → Vcpu
reach y t i n k v = cond (reached t i n k v.phase) (mark y v) v

-- f at each record from number k on, told its number
unfoldable pub map_from : (ℕ → Vcpu → Vcpu) → ℕ → List Vcpu → List Vcpu
map_from f k [] = []
map_from f k (v ∷ vs) = f k v ∷ map_from f (suc k) vs

-- the module after i sent the item y to the target t (7.16, 7.17)
unfoldable pub sent : Item → Target → ℕ → Module → Module
sent y t i m =
    record { n = m.n; vmpl = m.vmpl; registrations = m.registrations; vcpus = map_from (reach y t i (size m)) 0 m.vcpus }

-- of the item y, from i to the target t: bit k says that y becomes pending at the vCPU k, which is reached and where it was not (7.20, 7.21)
unfoldable pub new_bits : Item → Target → ℕ → Module → ℕ
new_bits y t i m = bits (λ k. reached t i (size m) k (vcpu_at m k).phase && not (pending y (vcpu_at m k))) 0 32
