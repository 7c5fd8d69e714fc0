-- The doorbell page: what a notice admits, the page after a notice and after a hand-back (sections 4 and 10).
-- Assumes nothing.
use Rattle.std.specs.Prelude.{Bool, true, false, cond, not, ◌&&◌, ◌||◌, List, [], ◌∷◌, ◌++◌, ℕ, zero, suc, ◌+◌, ◌*◌, ◌-◌, ◌/◌, ◌%◌, leb, ltb, eqb, length, get_or, take, drop, is_some}
use Rattle.std.specs.Prelude.{unwrap_or}
use Rattle.std.specs.Prelude.{Option, None, Some}
use Rattle.model.specs.declared.Item.{Item}
use Rattle.model.specs.declared.Item.TheVariants as item
use Rattle.model.specs.Items.{member_of}
use Rattle.vector_set.specs.Bits.{one, bit_at, bits}
use Rattle.vector_set.specs.Sets.{has, collect, empty, highest, count, is_empty}
pub use Rattle.vector_set.specs.Sets.{is_vector}

-- ---- bytes by their bits
-- bit k of bytes: bit k mod 8 of byte k div 8 (4.8)
unfoldable pub bit_of : List ℕ → ℕ → Bool
bit_of p k = bit_at (get_or p (k / 8) 0) (k % 8)

-- the n bytes from byte j on whose bit k is f k
unfoldable pub bytes_from : (ℕ → Bool) → ℕ → ℕ → List ℕ
bytes_from f j zero = []
bytes_from f j (suc n) = bits f (8 * j) 8 ∷ bytes_from f (suc j) n

-- the bytes p with each bit k changed to f k (bit k of p)
unfoldable pub map_bits : (ℕ → Bool → Bool) → List ℕ → List ℕ
map_bits f p = bytes_from (λ k. f k (bit_of p k)) 0 (length p)

-- ---- the doorbell page
-- the page has 256 bytes or more (4.2)
abbrev pub long_enough : List ℕ → Bool
long_enough p = leb 256 (length p)

-- bit 7 + L of InjectionInfo, which begins at byte 2, as a bit of the page (4.4, 4.5)
abbrev pub announcing_bit : ℕ → ℕ
announcing_bit l = 8 * 2 + (7 + l)

-- the page announces work at the VMPL l (4.5)
unfoldable pub announces : ℕ → List ℕ → Bool
announces l p = bit_of p (announcing_bit l)

-- the byte at which the descriptor of the VMPL l begins (4.7)
abbrev pub descriptor_at : ℕ → ℕ
descriptor_at l = 64 * l

-- the 32 bytes of the descriptor (4.7)
unfoldable pub descriptor : ℕ → List ℕ → List ℕ
descriptor l p = take 32 (drop (descriptor_at l) p)

-- bits 7:0 of the descriptor d, which are its byte 0 (4.9)
abbrev pub vector_field : List ℕ → ℕ
vector_field d = get_or d 0 0

-- the bit for the NMI (4.10)
abbrev pub nmi_bit : ℕ
nmi_bit = 8

-- the bit for the machine check (4.11)
abbrev pub machine_check_bit : ℕ
machine_check_bit = 9

-- the bit that makes the single vector level-sensitive (4.12)
abbrev pub level_bit : ℕ
level_bit = 10

-- the bit that makes the marks count (4.13)
abbrev pub many_bit : ℕ
many_bit = 14

-- ---- what a notice admits
-- the admitted part (a term of document 01): nothing else of a page reaches the record (4.14)
pub record Part : Type 0 where
  pub nmi : Bool
  pub machine_check : Bool
  pub level : Option ℕ
  pub edge : List ℕ

-- nothing is admitted (4.20)
unfoldable pub no_part : Part
no_part = record { nmi = false; machine_check = false; level = None; edge = empty }

-- v is the vector that there may be
abbrev pub is_level : Option ℕ → ℕ → Bool
is_level None v = false
is_level (Some x) v = eqb v x

-- the item x is in a part
abbrev pub in_part : Item → Part → Bool
in_part item.Nmi a = a.nmi
in_part item.MachineCheck a = a.machine_check
in_part (item.Vector v) a = has a.edge v || is_level a.level v

-- an item with a mark is admitted: bit k of the descriptor asks for it, and x stands for it in the set A (4.16, 4.40)
unfoldable pub admits_mark : ℕ → ℕ → List ℕ → List ℕ → Bool
admits_mark k x a d = bit_of d k && has a x

-- the single vector, admitted as level-sensitive (4.17, 4.22, 4.23, 4.41)
unfoldable pub admits_level : List ℕ → List ℕ → Option ℕ
admits_level a d =
    cond (bit_of d level_bit && is_vector (vector_field d) && has a (vector_field d)) (Some (vector_field d)) None

-- with bit 14 every marked vector but the level-sensitive one; with bits 10 and 14 clear the one in bits 7:0 (4.18, 4.19, 4.21 to 4.24, 4.41)
unfoldable pub admits_edge : List ℕ → List ℕ → ℕ → Bool
admits_edge a d v =
    is_vector v && has a v
    && cond (bit_of d many_bit) (bit_of d v && not (is_level (admits_level a d) v)) (not (bit_of d level_bit) && eqb v (vector_field d))

-- the admitted part of a descriptor under the set A (4.15)
unfoldable pub admits : List ℕ → List ℕ → Part
admits a d =
    record {
      nmi = admits_mark nmi_bit (member_of item.Nmi) a d;
      machine_check = admits_mark machine_check_bit (member_of item.MachineCheck) a d;
      level = admits_level a d;
      edge = collect (admits_edge a d);
    }

-- the admitted part of a page under the set A, at the VMPL l (4.6, 4.20)
unfoldable pub admitted : ℕ → List ℕ → List ℕ → Part
admitted l a p = cond (announces l p) (admits a (descriptor l p)) no_part

-- the number of admitted items, new and merged together (4.30)
unfoldable pub items : Part → ℕ
items a = one a.nmi + one a.machine_check + one (is_some a.level) + count a.edge

-- ---- the page after a notice
-- k is a bit of the descriptor that is cleared, given its bit 14 (4.31, 4.32, 4.34, 4.35, 4.43)
unfoldable pub clears_bit : Bool → ℕ → Bool
clears_bit many k = leb k 10 || eqb k many_bit || (many && leb 31 k)

-- the first bit of the descriptor, as a bit of the page
abbrev pub descriptor_bit : ℕ → ℕ
descriptor_bit l = 8 * descriptor_at l

-- k is a bit of the page that is cleared (4.31)
unfoldable pub clears : ℕ → Bool → ℕ → Bool
clears l many k =
    eqb k (announcing_bit l)
    || (leb (descriptor_bit l) k && ltb k (descriptor_bit l + 256) && clears_bit many (k - descriptor_bit l))

-- the page after a notice: where work was announced, those bits are cleared and no other (4.3, 4.6, 4.31, 4.33)
unfoldable pub noticed_page : ℕ → List ℕ → List ℕ
noticed_page l p =
    cond (announces l p) (map_bits (λ k b. b && not (clears l (bit_of (descriptor l p) many_bit) k)) p) p

-- ---- the page after a hand-back
-- bit k of the descriptor for P, PL and the marks of the NMI and of the machine check (10.5 to 10.9, 10.11, 10.17)
unfoldable pub handed_bit : List ℕ → List ℕ → Bool → Bool → ℕ → Bool
handed_bit irr level nmi mc k =
    (leb k 7 && bit_at (unwrap_or (highest level) 0) k)
    || (eqb k nmi_bit && nmi)
    || (eqb k machine_check_bit && mc)
    || (eqb k level_bit && not (is_empty level))
    || (eqb k many_bit && not (is_empty (collect (λ v. is_vector v && has irr v && not (has level v)))))
    || (is_vector k && has irr k && not (has level k))

-- bit k of the 32 bytes for S and SL (10.10, 10.11)
unfoldable pub serving_bit : List ℕ → List ℕ → ℕ → Bool
serving_bit isr level k = is_vector k && has isr k && not (has level k)

-- the 64 bytes that a hand-back writes (10.4)
unfoldable pub handed_bytes : List ℕ → List ℕ → Bool → Bool → List ℕ → List ℕ → List ℕ
handed_bytes irr irr_level nmi mc isr isr_level =
    bytes_from (handed_bit irr irr_level nmi mc) 0 32 ++ bytes_from (serving_bit isr isr_level) 0 32

-- the page with 64 bytes written where the descriptor begins (10.3)
unfoldable pub written : ℕ → List ℕ → List ℕ → List ℕ
written l bytes p = take (descriptor_at l) p ++ bytes ++ drop (descriptor_at l + 64) p
