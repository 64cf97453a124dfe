-- The log sectors that a merge writes: what it carries, packed.
use Rattle.std.specs.Prelude.{ℕ, zero, suc, ◌≡◌, ◌<◌, ◌≤◌, ◌+◌, ◌==◌, Bool, List, [], ◌∷◌, map, slice_index_or, Some}
use Rattle.std.specs.List.{list_any}
use Rattle.log_records.specs.View.{Versioned}
use Rattle.ipl_base.specs.declared.limits.TheConstants.{FIRST_LOG_SECTOR, VERSION}
use Rattle.ipl_format.specs.Sector.{Sector}
use Rattle.ipl_format.specs.Record.{Record, log_bytes}
use Rattle.ipl_meaning.specs.Chart.{Chart}
use Rattle.ipl_meaning.specs.Layout.{Entry}
use Rattle.ipl_meaning.specs.Masks.{mask_of}
use Rattle.ipl_meaning.specs.Last.{pack, carried}
use Rattle.ipl_meaning.specs.Steps.{entry_at}

-- the number is one of these
abbrev pub among : List ℕ → ℕ → Bool
among numbers n = list_any (λ k. k == n) numbers

-- what a merge carries of a log where these numbers are active, packed into sectors
abbrev pub packs_of : List ℕ → List Record → List (List Record)
packs_of active records = pack (carried (among active) records)

-- the payload of these records, in the version that is written
abbrev pub payload_of : List Record → Versioned
payload_of records = record { version = VERSION; bytes = log_bytes VERSION records }

-- their payloads
abbrev pub payloads_of : List (List Record) → List Versioned
payloads_of packs = map payload_of packs

-- a log sector of a unit with this payload, as it is written
abbrev pub log_sector : ℕ → ℕ → ℕ → List ℕ → Sector
log_sector u generation serial payload = record {
  kind = 5;
  version = VERSION;
  unit = u;
  generation = generation;
  serial = serial;
  payload = payload;
}

-- the log sectors of these packs, one after another from a sector and a serial on
abbrev pub entries_from : ℕ → ℕ → ℕ → ℕ → ℕ → List (List Record) → List Entry
entries_from p u generation s serial [] = []
entries_from p u generation s serial (records ∷ packs) =
    entry_at p s (log_sector u generation serial (log_bytes VERSION records)) records
    ∷ entries_from p u generation (s + 1) (serial + 1) packs

-- the spots of the first n log sectors
abbrev pub IsLogSpotBelow : ℕ → ℕ → Type 0
IsLogSpotBelow n s = (FIRST_LOG_SECTOR ≤ s) × (s < FIRST_LOG_SECTOR + n)

-- the first n of these payloads stand in the log sectors of the place, under serials from one on,
-- and elsewhere the chart is as it was
pub record HasLogs (p u generation serial : ℕ) (payloads : List Versioned) (n : ℕ)
    (c y : Chart) : Type 0 where
  pub here : (i : ℕ) → i < n → y p (FIRST_LOG_SECTOR + i)
      ≡ Some (log_sector u generation (serial + i) (slice_index_or payloads i (payload_of [])).bytes)
  pub others : (q s : ℕ) → (q ≡ p → ¬ IsLogSpotBelow n s) → y q s ≡ c q s

-- which pages the log sectors of these packs name, of n log sectors; those behind them name none
abbrev pub masks_of_packs : ℕ → List (List Record) → List ℕ
masks_of_packs zero packs = []
masks_of_packs (suc n) [] = 0 ∷ masks_of_packs n []
masks_of_packs (suc n) (records ∷ packs) = mask_of records ∷ masks_of_packs n packs
