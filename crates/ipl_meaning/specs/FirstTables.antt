-- The tables of a chip that was just formatted, no sector being known as clean, with room for all numbers of a status place.
use Rattle.std.specs.Prelude.{ℕ, ◌+◌, ◌-◌, true, false, [], ◌++◌, replicate}
use Rattle.std.specs.List.{range_with_len}
use Rattle.ipl_base.specs.declared.limits.TheConstants.{SECTORS, LOG_SECTORS, STATUS_NUMBERS}
use Rattle.ipl_meaning.specs.Layout.{Layout}
use Rattle.ipl_meaning.specs.Formatted.{no_pieces, first_head, first_status}
use Rattle.ipl_meaning.specs.Tables.{Tables, UNKNOWN_LOGS}

-- how a formatted chip is laid out
abbrev pub first_layout : ℕ → Layout
first_layout units = record {
  status = units;
  head = first_status units;
  committed = λ tid. false;
  count = units;
  units = λ u. record { home = u; head = first_head units u; pieces = no_pieces; log = [] };
}

-- its tables
abbrev pub first_tables : ℕ → ℕ → Tables
first_tables places units = record {
  places = record {
    current = range_with_len 0 units;
    in_use = replicate (units + 1) true ++ replicate (places - units - 1) false;
    erases = replicate places 1;
    retired = [];
    written = replicate units UNKNOWN_LOGS;
    generations = range_with_len 1 units;
    masks = replicate units (replicate LOG_SECTORS 0);
  };
  overflow = record { places = places; spots = replicate units []; masks = replicate units []; in_use = [] };
  status = record {
    place = units;
    generation = units + 1;
    numbers = [];
    most = STATUS_NUMBERS;
    first = SECTORS;
  };
  next = units + 2;
  active = [];
}
