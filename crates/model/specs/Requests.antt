-- Guest calls: what the numbers of a call ask for, and the rule of each request (section 5).
-- Assumes nothing.
use Rattle.std.specs.Prelude.{Ok, Err, Bool, true, false, cond, not, ◌&&◌, ◌||◌, ℕ, ◌+◌, ◌-◌, ◌%◌, leb, ltb, eqb}
use Rattle.model.specs.declared.Phase.TheVariants.{Leaving}
use Rattle.model.specs.declared.InFlight.TheVariants.{Nothing}
use Rattle.model.specs.declared.Item.TheVariants as item
use Rattle.model.specs.declared.Kind.{Kind}
use Rattle.model.specs.declared.Kind.TheVariants as kind
use Rattle.model.specs.declared.Refusal.TheVariants.{UnknownCall, BadRegister, BadParameter, NotRegistered, RegistrationsFull}
use Rattle.model.specs.declared.Local.{Local}
use Rattle.model.specs.declared.Local.TheVariants.{Features, Leave, Release, Register, Allow, Disallow, Read, SetTpr, Eoi, SelfIpi}
use Rattle.model.specs.declared.Request.{Request}
use Rattle.model.specs.declared.Request.TheVariants as request
use Rattle.model.specs.declared.Vcpu.{Vcpu}
use Rattle.model.specs.State.{with_allowed, with_tpr, with_phase, with_flight}
use Rattle.model.specs.Codes.{Answered, Verdict, accept, refuse, need}
use Rattle.model.specs.Items.{pending, mark}
use Rattle.model.specs.Registers.{kind_of, register_value, ended, ended_level}
use Rattle.model.specs.Ipi.{icr_legal}
use Rattle.vector_set.specs.Bits.{bit_at, bits}
use Rattle.vector_set.specs.Sets.{insert, remove, is_vector}

-- ---- what the numbers ask for
-- a request, or why there is none: what is refused before the count is looked at (11.14)
abbrev pub Parsed : Type 0
Parsed = Answered Request

abbrev pub bad : Parsed
bad = Err BadParameter

-- call 1, by ECX (5.7)
unfoldable pub registration : ℕ → Parsed
registration c =
    cond (eqb c 0) (Ok (request.Local Leave))
    (cond (eqb c 1) (Ok (request.Local Release)) (cond (eqb c 2) (Ok (request.Local Register)) bad))

-- call 2, by the kind of the register (6.15)
abbrev pub read_by : Kind → ℕ → Parsed
read_by kind.None r = Err BadRegister
read_by kind.Read r = Ok (request.Local (Read r))
read_by kind.Write r = Err BadRegister
read_by kind.Both r = Ok (request.Local (Read r))

-- the value written to EOI, self-IPI, TPR or ICR; no other register may be written (6.6, 6.12, 6.21 to 6.24)
unfoldable pub write_value : ℕ → ℕ → Parsed
write_value r x =
    cond (eqb r 0x80B) (cond (eqb x 0) (Ok (request.Local Eoi)) bad)
    (cond (eqb r 0x83F) (cond (is_vector x) (Ok (request.Local (SelfIpi x))) bad)
    (cond (eqb r 0x808) (cond (leb x 255) (Ok (request.Local (SetTpr x))) bad)
    (cond (eqb r 0x830) (cond (icr_legal x) (Ok (request.Icr x)) bad) (Err BadRegister))))

-- call 3, by the kind of the register (6.15)
abbrev pub write_by : Kind → ℕ → ℕ → Parsed
write_by kind.None r x = Err BadRegister
write_by kind.Read r x = bad
write_by kind.Write r x = write_value r x
write_by kind.Both r x = write_value r x

-- a member that an allowed set may have: the NMI's, the machine check's, or a vector (5.17)
abbrev pub may_name : ℕ → Bool
may_name x = eqb x 2 || eqb x 18 || is_vector x

-- ECX of call 4 is within the rule (5.17, 5.18)
unfoldable pub nameable : ℕ → Bool
nameable c = may_name (c % 256) && ltb c 512

-- call 4, by ECX (5.15, 5.16)
unfoldable pub permission : ℕ → Parsed
permission c =
    cond (nameable c) (cond (bit_at c 8) (Ok (request.Local (Allow (c % 256)))) (Ok (request.Local (Disallow (c % 256))))) bad

-- a call by its number, ECX and RDX (5.1, 5.5, 5.6, 5.21, 5.24, 11.14)
unfoldable pub request_of : ℕ → ℕ → ℕ → Parsed
request_of op c x =
    cond (eqb op 0) (Ok (request.Local Features))
    (cond (eqb op 1) (registration c)
    (cond (eqb op 2) (read_by (kind_of c) c)
    (cond (eqb op 3) (write_by (kind_of c) c x)
    (cond (eqb op 4) (permission c) (Err UnknownCall)))))

-- ---- the rule of each request
-- whether the count lets it be served, the number that it gives, and the caller's record and the count after it
pub record Served : Type 0 where
  pub verdict : Verdict
  pub value : ℕ
  pub vcpu : Vcpu
  pub registrations : ℕ

-- nothing is in flight any more (5.3)
abbrev pub forget : Vcpu → Vcpu
forget v = with_flight Nothing v

-- leaving, if so (5.8)
abbrev pub leave_if : Bool → Vcpu → Vcpu
leave_if true v = with_phase Leaving v
leave_if false v = v

-- served at every count
abbrev pub always : ℕ → Vcpu → ℕ → Served
always x v k = record { verdict = accept; value = x; vcpu = v; registrations = k }

-- a request on the record v of the vCPU i, which has forgotten what was in flight, at the count k; k - 1 is 0 at 0
-- (5.5, 5.8 to 5.14, 5.16, 5.19, 5.20, 5.22, 5.23, 6.22, 6.25, 7.20, 7.22, 7.23, 7.26, 11.18)
unfoldable pub serve : Local → ℕ → ℕ → Vcpu → Served
serve Features i k v = always 0 v k
serve Leave i k v = always 0 (leave_if (eqb k 0) v) k
serve Release i k v = always 0 (leave_if (eqb (k - 1) 0) v) (k - 1)
serve Register i k v =
    record {
      verdict = need (leb 1 k) NotRegistered (need (leb k 254) RegistrationsFull accept);
      value = 0;
      vcpu = v;
      registrations = k + 1;
    }
serve (Allow x) i k v = always 0 (with_allowed (insert x v.allowed) v) k
serve (Disallow x) i k v = always 0 (with_allowed (remove x v.allowed) v) k
serve (Read r) i k v = always (register_value i v r) v k
serve (SetTpr x) i k v = always 0 (with_tpr x v) k
serve Eoi i k v = always (ended_level v) (ended v) k
serve (SelfIpi x) i k v = always (bits (λ j. eqb j i && not (pending (item.Vector x) v)) 0 32) (mark (item.Vector x) v) k

-- whether a request is served at the count k, on the record v of the vCPU i (5.12, 11.14)
unfoldable pub call_verdict : Parsed → ℕ → ℕ → Vcpu → Verdict
call_verdict (Ok (request.Local o)) i k v = (serve o i k v).verdict
call_verdict (Ok (request.Icr x)) i k v = accept
call_verdict (Err c) i k v = refuse c
