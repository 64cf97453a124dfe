-- What an opening does for marks: before it writes anything, and once the status place is a new one.
use Rattle.std.specs.Prelude.{ℕ, zero, suc, ◌≡◌, ◌⊎◌, ◌<◌, ◌≤◌, ◌||◌, Bool, true, false, length, slice_index, Result, Ok, if◌then◌else◌}
use Rattle.chip_trait.specs.Told.{Told}
use Rattle.ipl_base.specs.declared.fault.ChipFault.{ChipFault}
use Rattle.ipl_meaning.specs.Tables.{Places, MARKED_LOGS, UNKNOWN_LOGS}
use Rattle.unit_directory.specs.Directory.{is_known}
use Rattle.unit_io.specs.Leads.{Waited}

-- something is known of the log sectors of one of the first n units
abbrev pub is_known_below : Places → ℕ → Bool
is_known_below it zero = false
is_known_below it (suc n) = is_known_below it n || is_known it n

-- of one of all units
abbrev pub knows_logs : Places → Bool
knows_logs it = is_known_below it (length it.current)

-- for that one barrier is asked
abbrev pub waits_for : Places → ℕ
waits_for it = if knows_logs it then 1 else 0

-- a barrier was passed, or it wasn't; or there was none to wait for, and the chip wasn't asked
abbrev pub WaitsWhere : Bool → Result (Unit {0}) ChipFault → Told → Told → Type 0
WaitsWhere true result old new = Waited result old new
WaitsWhere false result old new = (result ≡ Ok tt) × (new ≡ old)

-- of no unit's log sectors something is known by a mark: what is known clean may be written
abbrev pub NoneMarked : Places → Type 0
NoneMarked it = (u : ℕ) → u < length it.current
    → (slice_index it.written u < MARKED_LOGS) ⊎ (UNKNOWN_LOGS ≤ slice_index it.written u)
