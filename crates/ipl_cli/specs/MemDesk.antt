-- What a desk in memory tells, and which of its calls fail.
use Rattle.std.specs.Prelude.{ℕ, ◌==◌, ◌+◌, min, nat_lt, nat_le, Bool, not, ◌&&◌, List, [], ◌++◌, length, take, drop, get_or, Option, Some, None, Result, OnOk, OnErr, if◌then◌else◌}
use Rattle.std.specs.List.{list_any}
use Rattle.chip_trait.specs.declared.event.Event.TheVariants.{Said}
use Rattle.chip_trait.specs.Told.{Told, Beside, IsConsistent, Appends, FailsToSay, SayCounts, Rose}
use Rattle.chip_mem.specs.Views.{history_of, told_of}
use Rattle.chip_mem.specs.Sectors.{contents_of}
use Rattle.chip_mem.specs.Tells.{all_consistently, appended}
use Rattle.chip_mem.specs.Plan.{Plan, is_full}
use Rattle.ipl_cli.specs.declared.mem_desk.MemDesk.{MemDesk}
use Rattle.ipl_cli.specs.declared.failing.FailingSay.{FailingSay}

-- what stands beside its chip
abbrev pub beside_of : MemDesk → Beside
beside_of d = record {
  left = Some (drop d.at d.script.items);
  script_bytes = d.script_bytes;
  script_faults = d.script_faults;
  say_faults = d.say_faults;
  noted = if d.all_noted then Some d.noted.items else None;
}

-- all that it tells
abbrev pub desk_told : MemDesk → Told
desk_told d = record (told_of d.chip) { beside = beside_of d }

-- which is consistent, since its chip is
pub desk_consistently : (d : MemDesk) → IsConsistent (desk_told d)
desk_consistently d =
    let chip = all_consistently d.chip.places d.chip.faults d.chip.worn_erases (history_of d.chip)
    (contents_of d.chip.sectors.items) d.chip.replayed in
    record { settled = chip.settled; replayed = chip.replayed }

-- the piece is said, or fails to be for its cause
pub record SaysOrFails {T E : Type 0} (piece : List ℕ) (result : Result T E) (old new : Told)
    : Type 0 where
  pub ok : OnOk result (Appends (Said piece) old new)
  pub err : OnErr result (FailsToSay piece old new)
  pub counts : SayCounts old new
  pub cause : OnErr result (Rose old.beside.say_faults new.beside.say_faults)

-- beside a new desk's chip stands the script, and nothing was read, said or noted
abbrev pub new_beside : List ℕ → Beside
new_beside script = record {
  left = Some script;
  script_bytes = 0;
  script_faults = 0;
  say_faults =
      0;
  noted = Some [];
}

-- how many reads of the script and sayings there were, which of them fail, and how many bytes each
-- read gives at most
pub record DeskPlan : Type 0 where
  pub reads : ℕ
  pub says : ℕ
  pub failing_reads : List ℕ
  pub failing_says : List FailingSay
  pub cuts : List ℕ

abbrev pub desk_plan : MemDesk → DeskPlan
desk_plan d = record {
  reads = d.reads;
  says = d.says;
  failing_reads = d.failing_reads.items;
  failing_says = d.failing_says.items;
  cuts = d.cuts.items;
}

-- of a new desk
abbrev pub new_desk_plan : List ℕ → DeskPlan
new_desk_plan cuts = record {
  reads = 0;
  says = 0;
  failing_reads = [];
  failing_says = [];
  cuts =
      cuts;
}

-- the next read is one of those that fail
abbrev pub read_fails : DeskPlan → Bool
read_fails plan = list_any (λ k. k == plan.reads) plan.failing_reads

-- how many bytes the next read gives into a buffer of so many: at most its cut, where that is above
-- 0
abbrev pub read_count : DeskPlan → ℕ → ℕ → ℕ
read_count plan room left =
    let cut = get_or plan.cuts plan.reads 0 in
    min (if nat_lt 0 cut then cut else room) (min room left)

-- what the chip tells after a saying that keeps so many bytes of its piece: they are said, unless
-- there are none or there is
-- no room
abbrev pub told_in_part : ℕ → List ℕ → Plan → Told → Told
told_in_part kept piece plan t = if nat_lt 0 kept && not (is_full plan) then appended
    (Said (take kept piece)) t else t

-- the noted bytes after a piece more: they are told while they are at most 1,024
abbrev pub noted_with : Option (List ℕ) → List ℕ → Option (List ℕ)
noted_with None piece = None
noted_with (Some bytes) piece = if nat_le (length bytes + length piece) 1024 then Some
    (bytes ++ piece) else None
