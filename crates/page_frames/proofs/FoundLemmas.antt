-- Room for a log sector, in the terms of a store, from what the call leaves that makes it.
use Rattle.std.proofs.Common.{◌≡◌, ℕ, Ok, Err}
use Rattle.chip_trait.specs.Told.{Told, adds_all}
use Rattle.ipl_base.specs.declared.fault.ChipFault.{ChipFault}
use Rattle.ipl_base.specs.declared.spot.Spot.{Spot}
use Rattle.ipl_meaning.specs.Chart.{chart_of}
use Rattle.ipl_meaning.specs.Mirrors.{NoneIsLost}
use Rattle.ipl_meaning.specs.Rests.{now, EachStands, StoryRests}
use Rattle.ipl_meaning.specs.Tables.{Tables}
use Rattle.unit_io.specs.Charts.{Charts}
use Rattle.unit_io.specs.Steps.{RestsAgreeing}
use Rattle.selective_merge.specs.Merging.{StaysMirrored}
use Rattle.selective_merge.specs.Placing.{IsPlaced, MakesRoom, RestsWithRoom, MakesRoomInSteps}
use Rattle.store_laws.specs.Advances.{TurnsTables}
use Rattle.store_laws.proofs.StepLemmas.{steps_weaker}
use Rattle.page_frames.specs.Rooms.{MakesLogRoom, RestsWithLogRoom, FindsRoomInSteps}
use Rattle.page_frames.proofs.RecordRoomLemmas.{turned_same, log_room}

module _ (places u : ℕ) (t after : Tables) (old new : Told) (none : NoneIsLost places after)
    (active : after.active ≡ t.active) where
  -- what the chip holds, where there is room
  pub found_told : (at : Spot) → Charts (MakesRoom IsPlaced places u t after at) old new
      → Charts (MakesLogRoom places u t after at) old new
  found_told at made x told =
      let (y, there, makes) = made x told in (
        y,
        there,
        λ it mirrors. log_room places (chart_of x) (chart_of y) it t u after at (makes it mirrors)
            none active,
      )

  -- and where there is none
  pub unplaced_told : Charts (StaysMirrored places t after) old new
      → Charts (TurnsTables places t after) old new
  unplaced_told stays x told =
      let (y, there, keeps) = stays x told in (
        y,
        there,
        λ it mirrors _.
            let same = keeps it mirrors in
            turned_same places (chart_of x) (chart_of y) it t after same.0 same.1 none active,
      )

  -- what a power cut leaves, where there is room
  pub found_steps : (at : Spot) → MakesRoomInSteps IsPlaced places u t after old (Ok at) new
      → FindsRoomInSteps places u t after old (Ok at) new
  found_steps at made m it h steady rests agrees =
      let did = made m it h steady rests agrees in record {
        added = did.added;
        places = did.places;
        history = did.history;
        each_moment = did.each_moment;
        marks = did.marks;
        does = did.does;
        steady = did.steady;
        ends = λ done.
            let there = did.ends done in record {
              rests = there.rests;
              room = log_room places (now h) (now (adds_all did.added h)) it t u after at there.room
                  none active;
              tidy = there.tidy;
            };
      }

  -- and where there is none
  pub unplaced_steps : (e : ChipFault)
      → MakesRoomInSteps IsPlaced places u t after old (Err e) new
      → FindsRoomInSteps places u t after old (Err e) new
  unplaced_steps e made m it h steady rests agrees =
      steps_weaker (EachStands places m) (EachStands places m) t after
      (λ at k. RestsWithRoom IsPlaced places m (now h) it t u after at k)
      (λ at k. RestsWithLogRoom places m (now h) it t u after at k)
      (λ k. RestsAgreeing places m it after k) (λ k. StoryRests places m k) h (Err e) old new
      (λ k is. is)
      (λ at k is. record {
        rests = is.rests;
        room = log_room places (now h) (now k) it t u after at is.room none active;
        tidy = is.tidy;
      })
      (λ k is. is.rests) (made m it h steady rests agrees)
