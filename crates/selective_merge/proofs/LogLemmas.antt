-- A log that was read, and how many bytes records have.
use Rattle.std.proofs.Common.{◌≡◌, ℕ, List, [], ◌∷◌, ◌++◌, length, map, refl, ◌∙◌, ap, arith, suc, length-append}
use Rattle.std.specs.List.{All}
use Rattle.std.proofs.lemmas.List.Sums.{sum_by-cons}
use Rattle.ipl_format.specs.Record.{Record, SpellsLog, record_bytes, log_bytes}
use Rattle.ipl_format.proofs.RecordLemmas.{records_have_sizes}
use Rattle.ipl_meaning.specs.Last.{size_of, size_of_all}
use Rattle.ipl_meaning.specs.Layout.{Entry, records_of as records_in}
use Rattle.log_records.specs.Reading.{records_of}
use Rattle.log_records.proofs.RecordsLemmas.{records_list}
use Rattle.unit_log.specs.Kept.{kept_of, records_kept}

-- how many bytes records have
pub bytes_size : (version : ℕ) (records : List Record)
    → length (log_bytes version records) ≡ size_of_all records
bytes_size version [] = refl
bytes_size version (r ∷ records) =
    let rest = bytes_size version records in
    omega (
      arith,
      length-append (record_bytes version r) (log_bytes version records),
      records_have_sizes version r,
      rest,
      sum_by-cons size_of r records,
    )

-- its records are those of the layout
pub kept_records : (log : List Entry)
    → All (λ e. SpellsLog e.sector.version e.sector.payload e.records) log
    → records_kept (map kept_of log) ≡ records_in log
kept_records [] each = refl
kept_records (e ∷ log) each =
    let first : records_of e.sector.version e.sector.payload ≡ e.records =
    records_list e.sector.version e.records e.sector.payload (each 0 e (omega arith)) in
    ap (λ (l : List Record). l ++ records_kept (map kept_of log)) first
    ∙ ap (λ (l : List Record). e.records ++ l)
    (kept_records log (λ i d within. each (suc i) d (omega (arith, within))))
