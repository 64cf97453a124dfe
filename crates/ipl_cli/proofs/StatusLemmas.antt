-- The statuses of the ends.
use Rattle.std.proofs.Common.{◌≡◌, ◌⊎◌, ◌<◌, ◌==◌, ℕ, false, Ok, Err, inl, inr, refl, arith}
use Rattle.ipl_base.specs.declared.fault.ChipFault.TheVariants.{ReadFault, Stopped, Damaged, Malformed, WornOut}
use Rattle.ipl_base.specs.declared.fault.ImageFault.{ImageFault}
use Rattle.ipl_base.specs.declared.fault.ImageFault.TheVariants as image
use Rattle.command_line.specs.Ends.{status_of, fault_status}
use Rattle.command_line.specs.declared.end.End.{End}
use Rattle.command_line.specs.declared.end.End.TheVariants.{Words, Chip, OutOfMemory, Script, Output, TooLong}
use Rattle.ipl_cli.specs.Ending.{Ending, status_at}

-- a fault of the chip has the status 3, 4, 9 or 10
pub chip_status : (e : ImageFault) → (fault_status e ≡ 3) ⊎ (fault_status e ≡ 4)
    ⊎ (fault_status e ≡ 9) ⊎ (fault_status e ≡ 10)
chip_status image.Geometry = inr (inl refl)
chip_status image.NotFormatted = inr (inl refl)
chip_status (image.Missing u) = inr (inl refl)
chip_status (image.Chip ReadFault) = inl refl
chip_status (image.Chip Stopped) = inl refl
chip_status (image.Chip (Damaged p s stored computed)) = inr (inl refl)
chip_status (image.Chip (Malformed p s)) = inr (inl refl)
chip_status (image.Chip (WornOut n)) = inr (inr (inr refl))
chip_status image.Spent = inr (inr (inl refl))
chip_status (image.NoSpare n) = inr (inl refl)
chip_status image.TooManyNumbers = inr (inl refl)

-- no end has the status 0
pub above_zero : (end : End) → 0 < status_of end
above_zero Words = omega arith
above_zero (Chip e) = omega (arith, chip_status e)
above_zero OutOfMemory = omega arith
above_zero Script = omega arith
above_zero Output = omega arith
above_zero TooLong = omega arith

pub not_zero : (n : ℕ) → 0 < n → (n == 0) ≡ false
not_zero n low = grind (arith, low)

-- at 0 all was done
pub done_at_zero : (ending : Ending) → status_at ending ≡ 0 → ending ≡ Ok tt
done_at_zero (Ok u) is = refl
done_at_zero (Err end) is = absurd (let above = above_zero end in omega (arith, is, above))
