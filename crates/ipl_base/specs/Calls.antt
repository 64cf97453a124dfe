-- Which faults say that a call of the chip failed.
use Rattle.ipl_base.specs.declared.fault.ChipFault.{ChipFault}
use Rattle.ipl_base.specs.declared.fault.ChipFault.TheVariants.{ReadFault, Stopped, Damaged, Malformed, WornOut}

-- a read or a write failed, or an erase found its place worn; else the fault is of what the chip holds
abbrev pub IsFailedCall : ChipFault → Type 0
IsFailedCall ReadFault = Unit {0}
IsFailedCall Stopped = Unit {0}
IsFailedCall (Damaged p s stored computed) = ⊥
IsFailedCall (Malformed p s) = ⊥
IsFailedCall (WornOut n) = Unit {0}
