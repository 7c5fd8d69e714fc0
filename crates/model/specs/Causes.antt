-- The causes of refusal in the order of section 11, each with its code and whether it holds of a module and an event. It is a second
-- statement of the verdict.
-- Assumes nothing.
use Rattle.std.specs.Prelude.{Bool, true, false, cond, not, ◌&&◌, ◌||◌, List, [], ◌∷◌, ℕ, ◌/◌, ◌%◌, ◌^◌, leb, ltb, eqb, length}
use Rattle.std.specs.Prelude.{Option, None, Some}
use Rattle.model.specs.declared.Kind.{Kind}
use Rattle.model.specs.declared.Kind.TheVariants as kind
use Rattle.model.specs.declared.Module.{Module}
use Rattle.model.specs.State.{is_active, has_left, is_in_flight, vcpu_at}
use Rattle.vector_set.specs.Sets.{is_vector}
use Rattle.model.specs.Registers.{within, kind_of}
use Rattle.model.specs.Ipi.{icr_legal}
use Rattle.model.specs.Events.{Act, notice, call, entry, non_delivery, hand_back, allow, Bytes, Event}

-- a cause: its code, and whether it holds
pub data Cause : Type 0 where
  cause : ℕ → Bool → Cause

-- the code of the first cause that holds, if any does (11.12)
unfoldable pub first_cause : List Cause → Option ℕ
first_cause [] = None
first_cause (cause c b ∷ cs) = cond b (Some c) (first_cause cs)

-- ---- of an act
abbrev pub is_hand_back : {P : Type 0} → Act P → Bool
is_hand_back (notice p) = false
is_hand_back (call op c x) = false
is_hand_back (entry iF sh bl) = false
is_hand_back non_delivery = false
is_hand_back (hand_back p iF sh) = true
is_hand_back (allow cs q) = false

abbrev pub is_non_delivery : {P : Type 0} → Act P → Bool
is_non_delivery (notice p) = false
is_non_delivery (call op c x) = false
is_non_delivery (entry iF sh bl) = false
is_non_delivery non_delivery = true
is_non_delivery (hand_back p iF sh) = false
is_non_delivery (allow cs q) = false

-- it has a page, and that is short (11.2)
abbrev pub is_short : Act Bytes → Bool
is_short (notice p) = ltb (length p) 256
is_short (call op c x) = false
is_short (entry iF sh bl) = false
is_short non_delivery = false
is_short (hand_back p iF sh) = ltb (length p) 256
is_short (allow cs q) = false

-- it is a list of more than 256 values, or one whose second list is shorter (11.21)
abbrev pub is_bad_list : Act Bytes → Bool
is_bad_list (notice p) = false
is_bad_list (call op c x) = false
is_bad_list (entry iF sh bl) = false
is_bad_list non_delivery = false
is_bad_list (hand_back p iF sh) = false
is_bad_list (allow cs q) = ltb 256 (length cs) || ltb (length q) (length cs)

-- ---- of a guest call: its number, ECX and RDX
abbrev pub names_register : ℕ → Bool
names_register op = eqb op 2 || eqb op 3

abbrev pub is_kind_none : Kind → Bool
is_kind_none kind.None = true
is_kind_none kind.Read = false
is_kind_none kind.Write = false
is_kind_none kind.Both = false

abbrev pub is_kind_read : Kind → Bool
is_kind_read kind.None = false
is_kind_read kind.Read = true
is_kind_read kind.Write = false
is_kind_read kind.Both = false

abbrev pub is_kind_write : Kind → Bool
is_kind_write kind.None = false
is_kind_write kind.Read = false
is_kind_write kind.Write = true
is_kind_write kind.Both = false

-- the register c is in the table (6.1)
unfoldable pub in_table : ℕ → Bool
in_table c = within 0x800 0x8FF c

-- the value x is not one that the register c takes (6.21 to 6.24, 7.11)
unfoldable pub bad_value : ℕ → ℕ → Bool
bad_value c x =
    (eqb c 0x80B && not (eqb x 0))
    || (eqb c 0x83F && not (is_vector x))
    || (eqb c 0x808 && ltb 255 x)
    || (eqb c 0x830 && not (icr_legal x))

-- a vector that call 4 takes (5.17)
abbrev pub allowable : ℕ → Bool
allowable v = within 31 255 v || eqb v 18 || eqb v 2

-- the ECX of call 1 or 4 is not one that it takes: of call 4 also where a bit of 31:9 is set (5.7, 5.17)
unfoldable pub bad_ecx : ℕ → ℕ → Bool
bad_ecx op c = (eqb op 1 && ltb 2 c) || (eqb op 4 && not (eqb (c / 2 ^ 9) 0 && allowable (c % 2 ^ 8)))

abbrev pub registering : ℕ → ℕ → Bool
registering op c = eqb op 1 && eqb c 2

-- the causes of a call's numbers at the count k (11.7 to 11.12)
unfoldable pub call_causes : ℕ → ℕ → ℕ → ℕ → List Cause
call_causes k op c x =
    -- no such call
    cause 0x80000002 (ltb 4 op)
    -- a register outside the table, of kind none, or read though of kind write
    ∷ cause 0x80000003 (names_register op && not (in_table c))
    ∷ cause 0x80000003 (names_register op && is_kind_none (kind_of c))
    ∷ cause 0x80000003 (eqb op 2 && is_kind_write (kind_of c))
    -- a register written though of kind read
    ∷ cause 0x80000005 (eqb op 3 && is_kind_read (kind_of c))
    -- the value written, the ECX of calls 1 and 4
    ∷ cause 0x80000005 (eqb op 3 && bad_value c x)
    ∷ cause 0x80000005 (bad_ecx op c)
    -- registering at the count 0, and at 255: no count of 8 bits is above it
    ∷ cause 0x80001000 (registering op c && eqb k 0)
    ∷ cause 0x80000007 (registering op c && leb 255 k)
    ∷ []

abbrev pub number_causes : ℕ → Act Bytes → List Cause
number_causes k (notice p) = []
number_causes k (call op c x) = call_causes k op c x
number_causes k (entry iF sh bl) = []
number_causes k non_delivery = []
number_causes k (hand_back p iF sh) = []
number_causes k (allow cs q) = []

-- ---- all of them, in order
-- the module has a vCPU of that number: n is at most 32, L is 1 to 3, and the number is below n (2.15, 11.1)
abbrev pub has_vcpu : Module → ℕ → Bool
has_vcpu m i = leb m.n 32 && within 1 3 m.vmpl && ltb i m.n

-- of an event on a module value (11.1 to 11.4, 11.6, 11.12, 11.17, 11.21 to 11.24)
unfoldable pub causes : Module → Event → List Cause
causes m e =
    cause 1 (not (has_vcpu m e.vcpu))
    ∷ cause 0x80000001 (not (is_hand_back e.act) && not (is_active (vcpu_at m e.vcpu).phase))
    ∷ cause 3 (is_hand_back e.act && is_active (vcpu_at m e.vcpu).phase)
    ∷ cause 7 (is_hand_back e.act && has_left (vcpu_at m e.vcpu).phase)
    ∷ cause 6 (is_bad_list e.act)
    ∷ cause 2 (is_short e.act)
    ∷ cause 4 (is_non_delivery e.act && not (is_in_flight (vcpu_at m e.vcpu).flight))
    ∷ number_causes m.registrations e.act

-- of start (11.5)
unfoldable pub start_causes : ℕ → ℕ → List Cause
start_causes n l = cause 5 (not (within 1 32 n && within 1 3 l)) ∷ []
