-- Laws of the status of transactions.
use Rattle.std.specs.Prelude.{ℕ, ◌≡◌, ◌-◌, ◌↔◌, List, Contains}
use Rattle.ipl_base.specs.declared.limits.TheConstants.{SECTORS, STATUS_NUMBERS}
use Rattle.ipl_meaning.specs.Chart.{Chart}
use Rattle.ipl_meaning.specs.Layout.{Layout}
use Rattle.ipl_meaning.specs.Tables.{StatusTable, Tables}
use Rattle.ipl_meaning.specs.Mirrors.{Mirrors}
use Rattle.txn_status.specs.Status.{room_of, IsSoundStatus}

-- the tables with another list of committed numbers
abbrev pub with_committed_list : Tables → List ℕ → Tables
with_committed_list t numbers = record t { status = record t.status { numbers = numbers } }

-- tables mirror a chart by which numbers are committed: in what order they stand is all the same
abbrev pub MirrorsLooksAtTheSet : Type 0
MirrorsLooksAtTheSet =
    (places : ℕ) (c : Chart) (it : Layout) (t : Tables) (numbers : List ℕ)
    → ((n : ℕ) → Contains t.status.numbers n ↔ Contains numbers n)
    → Mirrors places c it t → Mirrors places c it (with_committed_list t numbers)

-- where all numbers of a status place have room, it takes as many commit sectors more as are known clean
abbrev pub CleanSectorsAreRoom : Type 0
CleanSectorsAreRoom = (it : StatusTable) → IsSoundStatus it → it.most ≡ STATUS_NUMBERS
    → room_of it ≡ SECTORS - it.first
