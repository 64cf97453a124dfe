use Rattle.std.proofs.Common.{rules, ◌≡◌, ◌∙◌, ◌+◌, ◌*◌, Option, Some, ap, sym, subst}
use Rattle.std.specs.Option.{option_map}
use Rattle.ipl_meaning.specs.First.{at, with_one}
use Rattle.ipl_format.specs.Sector.{Sector}
use Rattle.sector_format.specs.Decode.{sector_of}
use Rattle.ipl_meaning.specs.FoundLogs.{mask_of_sector}
use Rattle.ipl_meaning.specs.Live.{kept, is_log, mark_of}
use Rattle.unit_io.specs.Kinds.{sector_named}
use Rattle.restart.specs.Notes.{IsNoted}
use Rattle.restart.specs.LogSpots.{live_found}
use Rattle.restart.proofs.logs.take_found.Goals as goal

pub returns-in_ok-fits-in-Some-clause-takes : goal.returns-in_ok-fits-in-Some-clause-takes
returns-in_ok-fits-in-Some-clause-takes c =
    let log : kept is_log (sector_named c.args.bytes.now c.args.found) ≡ Some (sector_of c.in-Some.head c.payload_in-payload.result.now) = search rules in record {
      fault = search rules;
      image = search rules;
      noted = λ marks noted.
          subst (λ (found : Option Sector). IsNoted c.take_log.new.findings.noted.now c.take_log.new.findings.overflow.now
          (with_one marks (option_map (mark_of (at c.args.heads.now.all.now) (c.args.spot.place * 256 + c.args.spot.sector))
          (live_found c.args.heads.now c.args.spot.place found)))) (sym log)
          (c.in_ok-fits-in-Some.ensures.takes.noted marks noted);
      masked = λ masks are.
          c.in_ok-fits-in-Some.ensures.takes.masked masks
          (λ u. are u ∙ ap (λ (found : Option Sector). mask_of_sector u (live_found c.args.heads.now c.args.spot.place found)) log);
      places = search rules;
      room = record { roomy = search rules; sized = c.take_log.ensures.takes.room.sized };
      still = search rules;
    }
