use Rattle.std.proofs.Common.{◌≡◌}
use Rattle.std.specs.List.{All}
use Rattle.ipl_base.specs.declared.limits.TheConstants.{VERSION}
use Rattle.ipl_format.specs.Record.{IsRecord}
use Rattle.ipl_meaning.specs.Masks.{mask_of, mask_after}
use Rattle.log_records.specs.Reading.{records_of}
use Rattle.unit_log.proofs.pages.mask_of.Given as goal

-- with the pages of those that are left it is the mask of all
abbrev pub invariant-loop-logged : goal.invariant-loop-logged
invariant-loop-logged l = record {
  left : mask_after l.mask (records_of l.logged-iterator.version l.logged-iterator.bytes)
      ≡ mask_of (records_of l.payload.version l.payload.bytes);
  valid : All (IsRecord VERSION) (records_of l.logged-iterator.version l.logged-iterator.bytes);
}
