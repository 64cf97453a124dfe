use Rattle.std.proofs.Common.{◌≡◌, ◌≤◌, ◌/◌, All, length}
use Rattle.ipl_format.specs.Header.{IsWithin}
use Rattle.restart.specs.Kept.{retired_of}
use Rattle.restart.specs.Filled.{with_all_aside}
use Rattle.restart.proofs.RetireLemmas.{left_from}
use Rattle.restart.proofs.filling.retire_listed.Given as goal

abbrev pub invariant-loop-i : goal.invariant-loop-i
invariant-loop-i l = record {
  left : with_all_aside l.directory (left_from (length l.listed / 4) l.i l.listed) ≡ with_all_aside l.fn.directory (retired_of l.status);
  within : All (IsWithin (length l.fn.directory.in_use)) (left_from (length l.listed / 4) l.i l.listed);
  few : length l.directory.retired ≤ l.i;
  places : length l.directory.in_use ≡ length l.fn.directory.in_use;
  units : length l.directory.current ≡ length l.fn.directory.current;
}
