-- What a descriptor asks for beside its marks, as code hands it on: bits of one word (4.16, 4.17, 4.19, 4.21 to 4.24, 4.40, 4.41).
-- Assumes nothing.
use Rattle.std.specs.Prelude.{Bool, cond, ◌&&◌, List, ℕ, ◌/◌, ◌%◌, ◌^◌}
use Rattle.vector_set.specs.Sets.{has}
use Rattle.model.specs.Doorbell.{bit_of, level_bit, many_bit, vector_field, is_vector, nmi_bit, machine_check_bit, admits_mark}
use Rattle.ipi.specs.declared.Posting.{Posting}

-- a `Requested`: what is posted, the vector's bit again where it is level-sensitive, and bit 14
pub record Asked : Type 0 where
  pub posting : Posting
  pub level : ℕ
  pub many : Bool

-- the bit of the vector v in its word, where it may be named under the set A (4.13, 4.22, 4.23)
unfoldable pub single_bit : List ℕ → ℕ → ℕ
single_bit a v = cond (is_vector v && has a v) (2 ^ (v % 32)) 0

-- the same where it is level-sensitive (4.17)
unfoldable pub level_of : List ℕ → List ℕ → ℕ
level_of a d = cond (bit_of d level_bit) (single_bit a (vector_field d)) 0

-- the NMI, the machine check and the single vector; with bit 14 the vector is admitted as level-sensitive alone (4.16 to 4.19, 4.40)
unfoldable pub requested_in : List ℕ → List ℕ → Asked
requested_in a d =
    record {
      posting = record {
        nmi = admits_mark nmi_bit 2 a d;
        machine_check = admits_mark machine_check_bit 18 a d;
        word = vector_field d / 32;
        bits = cond (bit_of d many_bit) (level_of a d) (single_bit a (vector_field d));
      };
      level = level_of a d;
      many = bit_of d many_bit;
    }
