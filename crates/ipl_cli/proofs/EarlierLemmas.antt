-- What is so since a later moment is so since an earlier one: counts that rose, and a script that is too long.
use Rattle.std.proofs.Common.{◌≤◌, ℕ, ◌∙◌, ap, subst, arith}
use Rattle.chip_trait.specs.Told.{Told, Beside, Counts, Grew, Rose}
use Rattle.ipl_cli.specs.Top.{IsTooLong}

rose_earlier : (first old new : ℕ) → first ≤ old → Rose old new → Rose first new
rose_earlier first old new before rose = omega (arith, before, rose)

module _ (old mid new : Told) (counts : Counts old mid) where
  pub reads_earlier : Rose mid.read_faults new.read_faults → Rose old.read_faults new.read_faults
  reads_earlier rose = rose_earlier old.read_faults mid.read_faults new.read_faults counts.reads
      rose

  pub writes_earlier : Rose mid.write_faults new.write_faults → Rose old.write_faults new.write_faults
  writes_earlier rose = rose_earlier old.write_faults mid.write_faults new.write_faults
      counts.writes rose

  pub worn_earlier : Rose mid.worn_erases new.worn_erases → Rose old.worn_erases new.worn_erases
  worn_earlier rose = rose_earlier old.worn_erases mid.worn_erases new.worn_erases counts.worn rose

  pub script_earlier : Rose mid.beside.script_faults new.beside.script_faults
      → Rose old.beside.script_faults new.beside.script_faults
  script_earlier rose = subst (λ (b : Beside). Rose b.script_faults new.beside.script_faults)
      counts.beside rose

  pub says_earlier : Rose mid.beside.say_faults new.beside.say_faults
      → Rose old.beside.say_faults new.beside.say_faults
  says_earlier rose = subst (λ (b : Beside). Rose b.say_faults new.beside.say_faults) counts.beside
      rose

  pub long_earlier : IsTooLong mid new → IsTooLong old new
  long_earlier long = record {
    grew = subst (λ (b : Beside). Grew b.script_bytes 4294967295 new.beside.script_bytes)
        counts.beside long.grew;
    told = λ source left. long.told source (ap (λ (b : Beside). b.left) counts.beside ∙ left);
  }
