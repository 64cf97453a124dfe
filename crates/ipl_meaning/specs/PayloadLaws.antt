-- The tests of payloads are their grammars.
use Rattle.std.specs.Prelude.{ℕ, ◌≡◌, ◌≤◌, List, Some, true}
use Rattle.ipl_base.specs.declared.limits.TheConstants.{MOST_PLACES}
use Rattle.ipl_format.specs.Numbers.{IsBytes, word_at}
use Rattle.ipl_format.specs.Record.{Record, SpellsLog}
use Rattle.ipl_format.specs.Commit.{SpellsCommit}
use Rattle.ipl_format.specs.Header.{SpellsDataHeader, SpellsStatusHeader}
use Rattle.log_records.specs.Reading.{records_of}
use Rattle.unit_layout.specs.Retired.{retired_in}
use Rattle.ipl_meaning.specs.Payloads.{units_said_in, pieces_in, is_data_payload, is_status_payload, numbers_in, is_commit_payload, is_log_payload}

-- bytes that pass as a data header's payload say how many units there are, and how many pieces each page has
abbrev pub DataPayloadsAreSpelled : Type 0
DataPayloadsAreSpelled =
    (version : ℕ) (payload : List ℕ) → IsBytes payload → is_data_payload version payload ≡ true
    → SpellsDataHeader version (word_at 0 payload) (pieces_in payload) payload

-- a data header's payload passes, says its number of units, and has its pieces
abbrev pub SpelledDataPasses : Type 0
SpelledDataPasses =
    (version units : ℕ) (pieces payload : List ℕ) → SpellsDataHeader version units pieces payload
    → (is_data_payload version payload ≡ true) × (units_said_in payload ≡ Some units) × (pieces_in payload ≡ pieces)

-- bytes that pass as a status header's payload say how many units there are
abbrev pub StatusPayloadsAreSpelled : Type 0
StatusPayloadsAreSpelled =
    (version places : ℕ) (payload : List ℕ) → IsBytes payload → is_status_payload version places payload ≡ true
    → SpellsStatusHeader version places (word_at 0 payload) payload

-- a status header's payload passes, says its number of units, and lists its retired places
abbrev pub SpelledStatusPasses : Type 0
SpelledStatusPasses =
    (version places units : ℕ) (payload : List ℕ) → places ≤ MOST_PLACES
    → (spelled : SpellsStatusHeader version places units payload)
    → (is_status_payload version places payload ≡ true) × (units_said_in payload ≡ Some units)
    × (retired_in version payload ≡ spelled.retired)

-- bytes that pass as a commit sector's payload say its numbers
abbrev pub CommitPayloadsAreSpelled : Type 0
CommitPayloadsAreSpelled =
    (payload : List ℕ) → IsBytes payload → is_commit_payload payload ≡ true → SpellsCommit payload (numbers_in payload)

-- a commit sector's payload passes, and has its numbers
abbrev pub SpelledCommitsPass : Type 0
SpelledCommitsPass =
    (payload numbers : List ℕ) → SpellsCommit payload numbers
    → (is_commit_payload payload ≡ true) × (numbers_in payload ≡ numbers)

-- bytes that pass as a log sector's payload say its records
abbrev pub LogPayloadsAreSpelled : Type 0
LogPayloadsAreSpelled =
    (version : ℕ) (payload : List ℕ) → IsBytes payload → is_log_payload version payload ≡ true
    → SpellsLog version payload (records_of version payload)

-- a log sector's payload passes, and has its records
abbrev pub SpelledLogsPass : Type 0
SpelledLogsPass =
    (version : ℕ) (payload : List ℕ) (records : List Record) → SpellsLog version payload records
    → (is_log_payload version payload ≡ true) × (records_of version payload ≡ records)
