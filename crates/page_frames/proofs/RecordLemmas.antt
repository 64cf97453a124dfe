-- Records written out, from room that was found and a log sector that was written there.
use Rattle.std.proofs.Common.{◌≡◌, ℕ, List, Result, Ok, Err, sym, subst}
use Rattle.std.specs.List.{All, Contains}
use Rattle.chip_trait.specs.Told.{History, Told, Counts, adds_all}
use Rattle.log_records.specs.View.{Versioned}
use Rattle.ipl_base.specs.declared.fault.ChipFault.{ChipFault}
use Rattle.ipl_base.specs.declared.fault.ChipFault.TheVariants.{Stopped}
use Rattle.ipl_format.specs.Record.{Record}
use Rattle.ipl_meaning.specs.Chart.{chart_of}
use Rattle.ipl_meaning.specs.Rests.{now, EachStands, StoryRests}
use Rattle.ipl_meaning.specs.Tables.{Tables}
use Rattle.unit_io.specs.Charts.{Charts}
use Rattle.unit_io.specs.Steps.{NoOtherEnd}
use Rattle.store_laws.proofs.StepLemmas.{steps_then, steps_weaker}
use Rattle.ipl_base.specs.declared.spot.Spot.{Spot}
use Rattle.page_frames.specs.Rooms.{MakesLogRoom, RestsWithLogRoom, FindsRoomInSteps}
use Rattle.page_frames.specs.Writing.{IsPayloadOf, WritesLog, WritesLogInSteps, WritesRecords, WritesOut, WritesOutInSteps}

-- the same sessions are open
payload_still : (t after : Tables) (payload : Versioned) (records : List Record)
    → after.active ≡ t.active → IsPayloadOf t payload records → IsPayloadOf after payload records
payload_still t after payload records same is = record {
  spelled = is.spelled;
  active = subst (λ (l : List ℕ). All (λ r. Contains l r.tid) records) (sym same) is.active;
}

-- a write failed, so that nothing is said of what the chip holds
pub stopped_told : (places u : ℕ) (payload : Versioned) (t after : Tables) (e : ChipFault)
    (old new : Told) → e ≡ Stopped → WritesOut places u payload t after old (Err e) new
stopped_told places u payload t after e old new is = λ soft. absurd (soft is)

module _ (places u : ℕ) (at : Spot) (payload : Versioned) (t between after : Tables)
    (old mid new : Told) where
  pub out_told : Charts (MakesLogRoom places u t between at) old mid
      → Charts (WritesLog places u at payload between after) mid new
      → Charts (WritesRecords places u payload t after) old new
  out_told found written x told =
      let (y, there, makes) = found x told in
      let (z, then_there, writes) = written y there in (
        z,
        then_there,
        λ it records mirrors payload_of.
            let room = makes it mirrors in record {
              middle = chart_of y;
              between = between;
              at = at;
              room = room;
              log = writes room.turned.layout records (record {
                mirrors = room.turned.mirrors;
                payload_of = payload_still t between payload records room.turned.active payload_of;
              });
            },
      )

  pub out_steps : (result : Result (Unit {0}) ChipFault) → Counts old mid
      → FindsRoomInSteps places u t between old (Ok at) mid
      → WritesLogInSteps places u at payload between after mid result new
      → WritesOutInSteps places payload t after old result new
  out_steps result counts found written m it records h steady rests agrees payload_of =
      let Each : History → Type 0 = EachStands places m in
      let first = found m it h steady rests agrees in
      let k = adds_all first.added h in
      let there = first.ends tt in
      let turned = there.room.turned in
      let second = written m turned.layout records k
      (first.steady tt) there.rests
      (record { mirrors = turned.mirrors; tidy = there.tidy }) (record {
        mirrors = turned.mirrors;
        payload_of = payload_still t between payload records turned.active payload_of;
      }) in
      steps_then Spot (Unit {0}) ChipFault ChipFault Each Each Each t between after
      (λ at k. RestsWithLogRoom places m (now h) it t u between at k) (λ k. StoryRests places m k)
      (λ v k. StoryRests places m k) (λ k. StoryRests places m k) h at result old mid new
      (λ k is. is) (λ k is. is) counts first
      (steps_weaker Each Each between after (λ v k. StoryRests places m k)
      (λ v k. StoryRests places m k) NoOtherEnd (λ k. StoryRests places m k) k result mid new
      (λ k is. is) (λ v k is. is) (λ k is. absurd is) second)
