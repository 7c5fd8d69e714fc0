-- The module, its records, and what start gives (sections 2 and 3 of docs/SPECIFICATION.md).
-- The sets of a record are named A, P, S, PL and SL there: `allowed`, `irr`, `isr`, `irr_level` and `isr_level` here.
-- Assumes nothing.
use Rattle.std.specs.Prelude.{Bool, true, false, cond, ◌&&◌, List, ◌++◌, ℕ, ◌-◌, leb, get_or, set, replicate}
use Rattle.model.specs.declared.Phase.{Phase}
use Rattle.model.specs.declared.Phase.TheVariants.{Active, Leaving, Left}
use Rattle.model.specs.declared.InFlight.{InFlight}
use Rattle.model.specs.declared.InFlight.TheVariants.{Nothing, Nmi, MachineCheck, Vector}
use Rattle.model.specs.declared.Vcpu.{Vcpu}
use Rattle.model.specs.declared.Module.{Module}
use Rattle.vector_set.specs.Sets.{empty}

-- the phase is active (2.10)
abbrev pub is_active : Phase → Bool
is_active Active = true
is_active Leaving = false
is_active Left = false

-- the phase is leaving (2.10)
abbrev pub is_leaving : Phase → Bool
is_leaving Active = false
is_leaving Leaving = true
is_leaving Left = false

-- the phase is left (2.10)
abbrev pub has_left : Phase → Bool
has_left Active = false
has_left Leaving = false
has_left Left = true

-- something is in flight (2.11)
abbrev pub is_in_flight : InFlight → Bool
is_in_flight Nothing = false
is_in_flight Nmi = true
is_in_flight MachineCheck = true
is_in_flight (Vector v) = true

-- ---- a record by its fields: A, P, S, PL, SL, the marks of the NMI and of the machine check, TPR, ICR, the phase, what is in flight, the summary of P
-- the record with these fields (2.3, 2.8 to 2.12, 2.16, 2.19)
abbrev pub vcpu : List ℕ → List ℕ → List ℕ → List ℕ → List ℕ → Bool → Bool → ℕ → ℕ → Phase → InFlight → ℕ → Vcpu
vcpu a p s pl sl nmi mc tpr icr ph fl sm =
    record {
      allowed = a;
      irr = p;
      isr = s;
      irr_level = pl;
      isr_level = sl;
      nmi = nmi;
      machine_check = mc;
      tpr = tpr;
      icr = icr;
      phase = ph;
      flight = fl;
      summary = sm;
    }

-- a record with nothing in it, in a phase (3.4)
unfoldable pub bare : Phase → Vcpu
bare p = vcpu empty empty empty empty empty false false 0 0 p Nothing 0

-- a fresh record (3.3, 3.4)
abbrev pub fresh : Vcpu
fresh = bare Active

-- what stands in the array where the module has no vCPU: an empty record in the phase left (2.13)
abbrev pub absent : Vcpu
absent = bare Left

-- a record with one field changed
abbrev pub with_allowed : List ℕ → Vcpu → Vcpu
with_allowed x v = vcpu x v.irr v.isr v.irr_level v.isr_level v.nmi v.machine_check v.tpr v.icr v.phase v.flight v.summary

abbrev pub with_irr : List ℕ → Vcpu → Vcpu
with_irr x v = vcpu v.allowed x v.isr v.irr_level v.isr_level v.nmi v.machine_check v.tpr v.icr v.phase v.flight v.summary

abbrev pub with_isr : List ℕ → Vcpu → Vcpu
with_isr x v = vcpu v.allowed v.irr x v.irr_level v.isr_level v.nmi v.machine_check v.tpr v.icr v.phase v.flight v.summary

abbrev pub with_irr_level : List ℕ → Vcpu → Vcpu
with_irr_level x v = vcpu v.allowed v.irr v.isr x v.isr_level v.nmi v.machine_check v.tpr v.icr v.phase v.flight v.summary

abbrev pub with_isr_level : List ℕ → Vcpu → Vcpu
with_isr_level x v = vcpu v.allowed v.irr v.isr v.irr_level x v.nmi v.machine_check v.tpr v.icr v.phase v.flight v.summary

abbrev pub with_nmi : Bool → Vcpu → Vcpu
with_nmi x v = vcpu v.allowed v.irr v.isr v.irr_level v.isr_level x v.machine_check v.tpr v.icr v.phase v.flight v.summary

abbrev pub with_machine_check : Bool → Vcpu → Vcpu
with_machine_check x v = vcpu v.allowed v.irr v.isr v.irr_level v.isr_level v.nmi x v.tpr v.icr v.phase v.flight v.summary

abbrev pub with_tpr : ℕ → Vcpu → Vcpu
with_tpr x v = vcpu v.allowed v.irr v.isr v.irr_level v.isr_level v.nmi v.machine_check x v.icr v.phase v.flight v.summary

abbrev pub with_icr : ℕ → Vcpu → Vcpu
with_icr x v = vcpu v.allowed v.irr v.isr v.irr_level v.isr_level v.nmi v.machine_check v.tpr x v.phase v.flight v.summary

abbrev pub with_phase : Phase → Vcpu → Vcpu
with_phase x v = vcpu v.allowed v.irr v.isr v.irr_level v.isr_level v.nmi v.machine_check v.tpr v.icr x v.flight v.summary

abbrev pub with_flight : InFlight → Vcpu → Vcpu
with_flight x v = vcpu v.allowed v.irr v.isr v.irr_level v.isr_level v.nmi v.machine_check v.tpr v.icr v.phase x v.summary

abbrev pub with_summary : ℕ → Vcpu → Vcpu
with_summary x v = vcpu v.allowed v.irr v.isr v.irr_level v.isr_level v.nmi v.machine_check v.tpr v.icr v.phase v.flight x

-- ---- the module
-- how many vCPUs a module value with this n and L is answered for: none where n is over 32 or L is not 1 to 3 (2.15)
abbrev pub served_count : ℕ → ℕ → ℕ
served_count n l = cond (leb n 32 && leb 1 l && leb l 3) n 0

unfoldable pub size : Module → ℕ
size m = served_count m.n m.vmpl

-- the record of the vCPU i (2.2)
unfoldable pub vcpu_at : Module → ℕ → Vcpu
vcpu_at m i = get_or m.vcpus i absent

unfoldable pub with_vcpu : Module → ℕ → Vcpu → Module
with_vcpu m i v =
    record { n = m.n; vmpl = m.vmpl; registrations = m.registrations; vcpus = set m.vcpus i v }

unfoldable pub with_registrations : ℕ → Module → Module
with_registrations k m = record { n = m.n; vmpl = m.vmpl; registrations = k; vcpus = m.vcpus }

-- ---- start
-- n and L with which start is accepted (3.1)
abbrev pub may_start : ℕ → ℕ → Bool
may_start n l = leb 1 n && leb n 32 && leb 1 l && leb l 3

-- n fresh records, and the count 1 (3.2 to 3.4, 2.13)
unfoldable pub started : ℕ → ℕ → Module
started n l =
    record { n = n; vmpl = l; registrations = 1; vcpus = replicate n fresh ++ replicate (32 - n) absent }

-- what a refused start gives (2.13, 3.6)
unfoldable pub stopped : Module
stopped = record { n = 0; vmpl = 1; registrations = 0; vcpus = replicate 32 absent }

-- the module that start gives for n and L, refused or not (3.2, 3.6)
unfoldable pub start : ℕ → ℕ → Module
start n l = cond (may_start n l) (started n l) stopped
