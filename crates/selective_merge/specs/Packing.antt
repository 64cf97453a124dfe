-- Records packed into log sectors, one after another, and which pages these name.
use Rattle.std.specs.Prelude.{ℕ, zero, suc, ◌≡◌, Bool, List, [], ◌∷◌, ◌++◌, not, ◌&&◌}
use Rattle.std.specs.List.{list_any, All}
use Rattle.log_records.specs.View.{Versioned}
use Rattle.ipl_base.specs.declared.limits.TheConstants.{VERSION}
use Rattle.ipl_format.specs.Record.{Record, IsRecord}
use Rattle.log_records.specs.Reading.{records_of}
use Rattle.ipl_meaning.specs.Masks.{mask_of}
use Rattle.ipl_meaning.specs.Last.{pack, pack_after, carried}
use Rattle.ipl_meaning.specs.Values.{counts_for}
use Rattle.selective_merge.specs.Packs.{payload_of, payloads_of}

-- the record is carried, where these come after it
abbrev pub is_kept : (ℕ → Bool) → Record → List Record → Bool
is_kept active r later = active r.tid && not (list_any (counts_for active r.page r.slot) later)

-- the records behind those of the open sector, where there are such
abbrev pub pack_open : List Record → List Record → List (List Record)
pack_open [] rest = pack rest
pack_open (r ∷ full) rest = pack_after (r ∷ full) rest

-- the payload is these records, in the version that is written
pub record IsPayload (payload : Versioned) (records : List Record) : Type 0 where
  pub is : payload ≡ payload_of records
  pub valid : All (IsRecord VERSION) records

-- The closed sectors have these payloads and the open one has this; with what is carried of the
-- rest they are all that is carried, packed.
pub record IsPacking (active : ℕ → Bool) (all rest : List Record) (closed : List Versioned)
    (last : Versioned) : Type 0 where
  pub full : List Record
  pub spelled : IsPayload last full
  pub same : closed ++ payloads_of (pack_open full (carried active rest))
      ≡ payloads_of (pack (carried active all))

-- The record was added: with any records behind it, the payloads are those of before with the
-- record and these.
pub record IsAdded (closed : List Versioned) (full : List Record) (r : Record)
    (after : List Versioned) (last : Versioned) : Type 0 where
  pub next : List Record
  pub spelled : IsPayload last next
  pub same : (rest : List Record) → after ++ payloads_of (pack_open next rest)
      ≡ closed ++ payloads_of (pack_open full (r ∷ rest))

-- which pages the log sectors with these payloads name, of n log sectors; those behind them name none
abbrev pub masks_of_payloads : ℕ → List Versioned → List ℕ
masks_of_payloads zero payloads = []
masks_of_payloads (suc n) [] = 0 ∷ masks_of_payloads n []
masks_of_payloads (suc n) (payload ∷ payloads) = mask_of (records_of payload.version payload.bytes)
    ∷ masks_of_payloads n payloads
