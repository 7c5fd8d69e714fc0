-- The type and the shorthand of an ICR value by their names. Assumes nothing.
use Rattle.std.specs.Prelude.{ℕ, cond, eqb, Option, None, Some}
use Rattle.model.specs.Ipi.{icr_type, icr_shorthand}
use Rattle.icr.specs.declared.Delivery.{Delivery}
use Rattle.icr.specs.declared.Delivery.TheVariants.{Fixed, Nmi}
use Rattle.icr.specs.declared.Shorthand.{Shorthand}
use Rattle.icr.specs.declared.Shorthand.TheVariants.{Caller, All, Others}

-- the type, if it is one that may be written (7.3, 7.9)
unfoldable pub delivery : ℕ → Option Delivery
delivery x = cond (eqb (icr_type x) 0) (Some Fixed) (cond (eqb (icr_type x) 4) (Some Nmi) None)

-- the shorthand, if there is one (7.6)
unfoldable pub shorthand : ℕ → Option Shorthand
shorthand x =
    cond (eqb (icr_shorthand x) 1) (Some Caller)
    (cond (eqb (icr_shorthand x) 2) (Some All) (cond (eqb (icr_shorthand x) 3) (Some Others) None))
