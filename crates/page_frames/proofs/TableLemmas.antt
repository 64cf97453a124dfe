-- Calls that know the tables alone keep each state, whatever frames there are.
use Rattle.std.proofs.Common.{◌≡◌, ◌≢◌, ◌≤◌, ◌+◌, ◌^◌, ℕ, true, List, length, Result, Ok, Err, OnOk, inl, inr, refl, sym, ◌∙◌, ap, subst, arith}
use Rattle.std.specs.Prelude.{is_ok}
use Rattle.std.proofs.lemmas.Bool.{false≢true}
use Rattle.chip_trait.specs.Told.{Told}
use Rattle.ipl_base.specs.declared.fault.ChipFault.{ChipFault}
use Rattle.ipl_base.specs.declared.fault.ChipFault.TheVariants.{Stopped}
use Rattle.ipl_meaning.specs.Chart.{chart_of}
use Rattle.ipl_meaning.specs.Rests.{now, EachStands, StoryRests}
use Rattle.ipl_meaning.specs.Tables.{Places, StatusTable, Tables}
use Rattle.unit_io.specs.Accounts.{Accounts}
use Rattle.unit_io.specs.Charts.{Charts}
use Rattle.unit_io.specs.Costs.{Spends}
use Rattle.unit_io.proofs.CostLemmas.{spends_weaker}
use Rattle.place_taking.specs.Homes.{LeavesPlaces}
use Rattle.place_taking.specs.Spending.{ErasesFor, SparesUsed, is_worn_out}
use Rattle.place_taking.specs.Wear.{TellsOfWear}
use Rattle.place_taking.proofs.HomeLemmas.{erases_leave}
use Rattle.place_taking.proofs.WearLemmas.{spared_places_wear}
use Rattle.unit_io.specs.Steps.{Settled, RestsAgreeing, Tidies}
use Rattle.selective_merge.specs.Homes.{MergeCause}
use Rattle.selective_merge.specs.Merging.{Merges, StaysMirrored, MergesInSteps, RestsMerged}
use Rattle.selective_merge.proofs.UnbrokenLemmas.{steps_settled}
use Rattle.selective_merge.specs.Moving.{Holds}
use Rattle.selective_merge.proofs.HeldLemmas.{homes_used}
use Rattle.selective_merge.specs.Throughout.{ChartsThroughout}
use Rattle.store_laws.specs.Frames.{Frames}
use Rattle.store_laws.specs.Advances.{TurnsTables, KeepsState}
use Rattle.store_laws.proofs.KeeperLemmas.{table_calls_keep_states}
use Rattle.store_laws.proofs.StepLemmas.{steps_weaker}
use Rattle.page_frames.proofs.RecordRoomLemmas.{turned_same, turned_merged}
use Rattle.selective_merge.specs.Known.{KnowsPlaces}
use Rattle.buffer_pool.specs.Pools.{PoolView}
use Rattle.buffer_pool.specs.Holding.{IsAtRest, KeepsPins}
use Rattle.buffer_pool.proofs.HoldingLemmas.{nothing_keeps}
use Rattle.restart.specs.Passes.{RenewsTold, HoldsRenewed, KeepsInSteps, RenewCause}
use Rattle.restart.proofs.CauseLemmas.{merge_accounts}
use Rattle.page_frames.specs.Views.{frames_of}
use Rattle.page_frames.proofs.RenewLemmas.{renew_keeps}
use Rattle.page_frames.specs.declared.pages.Pages.{Pages}
use Rattle.page_frames.specs.Pages.{tables_in, frames_in, ArePagesReady, Upholds, PageCause}

-- a merge that failed and left the write count as it was wasn't stopped
unstopped : (then : Places) (place : ℕ) (spots : List (ℕ × ℕ)) (e : ChipFault) (old new : Told)
    → MergeCause then place spots e old new → Settled {T = Unit {0}} (Err e) old new → e ≢ Stopped
unstopped then place spots e old new cause unrisen is =
    let rose = subst (λ (f : ChipFault). MergeCause then place spots f old new) is cause in
    omega (arith, rose, unrisen)

-- what a merge makes of the tables
merge_turns : (places u place : ℕ) (spots : List (ℕ × ℕ)) (t after : Tables)
    (result : Result (Unit {0}) ChipFault) (old new : Told) → Holds places t after
    → ChartsThroughout (λ done. Merges places u t after) (StaysMirrored places t after) result old new
    → Accounts (MergeCause after.places place spots) result old new → Settled result old new
    → Charts (TurnsTables places t after) old new
merge_turns places u place spots t after (Ok v) old new holds tells accounts settled x told =
    let (y, there, did) = tells x told in (
      y,
      there,
      λ it mirrors none. turned_merged places (chart_of x) (chart_of y) it t u after
          (did it mirrors) holds.known.none_lost holds.active,
    )
merge_turns places u place spots t after (Err e) old new holds tells accounts settled x told =
    let (y, there, stays) = tells (unstopped after.places place spots e old new accounts.cause settled) x told in (
      y,
      there,
      λ it mirrors none.
          let still = stays it mirrors in
          turned_same places (chart_of x) (chart_of y) it t after still.0 still.1 holds.known.none_lost
          holds.active,
    )

-- so it keeps each state
pub merge_keeps : (u place : ℕ) (spots : List (ℕ × ℕ)) (t after : Tables) (frames : Frames)
    (result : Result (Unit {0}) ChipFault) (old new : Told) → Holds old.places t after
    → ChartsThroughout (λ done. Merges old.places u t after) (StaysMirrored old.places t after) result
    old new
    → MergesInSteps old.places u t after old result new
    → Accounts (MergeCause after.places place spots) result old new
    → KeepsState t frames old result after frames new
merge_keeps u place spots t after frames result old new holds tells steps accounts =
    table_calls_keep_states t after frames result old new
    (λ places same settled. subst (λ (n : ℕ). Charts (TurnsTables n t after) old new) same
    (merge_turns old.places u place spots t after result old new holds tells accounts settled))
    (λ places m it h same steady rests agrees.
    let merging = subst (λ (n : ℕ). MergesInSteps n u t after old result new) same steps in
    steps_weaker (EachStands places m) (EachStands places m) t after
    (λ done k. RestsMerged places m (now h) it t u after k) (λ done k. StoryRests places m k)
    (λ k. RestsAgreeing places m it after k) (λ k. StoryRests places m k) h result old new
    (λ k is. is) (λ v k is. is.rests) (λ k is. is.rests)
    (steps_settled (EachStands places m) t after (λ done k. RestsMerged places m (now h) it t u after k)
    (λ k. RestsAgreeing places m it after k) h result old new (merging m it h steady rests agrees)))

-- ---- what is worn

-- a merge writes a free place alone
pub merge_wears : (places place : ℕ) (t after : Tables) (result : Result (Unit {0}) ChipFault)
    (old new : Told) → KnowsPlaces places t → Holds places t after
    → OnOk result (SparesUsed t.places old new)
    → Spends (ErasesFor t.places after.places 3 place (is_ok result) (is_worn_out result)) old new
    → TellsOfWear t after (is_ok result) (is_worn_out result) old new
merge_wears places place t after result old new known holds spares costs =
    spared_places_wear t after (is_ok result) (is_worn_out result) old new
    (known.used t.status.place (inr (inl refl))) (ap (λ (it : StatusTable). it.place) holds.status)
    (spends_weaker (ErasesFor t.places after.places 3 place (is_ok result) (is_worn_out result))
    (LeavesPlaces t.places after.places (is_worn_out result)) old new
    (λ added does. erases_leave t.places after.places 3 (is_worn_out result) added
    (homes_used places t known) holds.homes does.erases) costs) (where_done result spares)
  where
    where_done : (r : Result (Unit {0}) ChipFault) → OnOk r (SparesUsed t.places old new)
        → is_ok r ≡ true → SparesUsed t.places old new
    where_done (Ok v) spared done = spared
    where_done (Err e) spared done = absurd (false≢true done)

-- ---- the pages

-- they are ready still, in the same frames
pub tables_uphold : (most : ℕ) (old new : Pages) (result : Result (Unit {0}) ChipFault)
    (before after : Told) → ArePagesReady before.places old → new.pool ≡ old.pool
    → KnowsPlaces before.places (tables_in new)
    → length new.parts.directory.current ≡ length old.parts.directory.current
    → new.parts.active ≡ old.parts.active → new.parts.status.most ≡ old.parts.status.most
    → KeepsState (tables_in old) (frames_in old) before result (tables_in new) (frames_in old) after
    → Tidies (tables_in old) result (tables_in new) before after
    → TellsOfWear (tables_in old) (tables_in new) (is_ok result) (is_worn_out result) before after
    → (old.parts.counter ≤ new.parts.counter) × (new.parts.counter ≤ old.parts.counter + most)
    → Accounts (PageCause new.parts.directory) result before after
    → Upholds most old before result new after
tables_uphold most old new result before after ready same known units active room keeps tidy wears draws
    accounts = record {
      keeps = subst (λ (f : Frames). KeepsState (tables_in old) (frames_in old) before result
          (tables_in new) f after) (ap frames_of (sym same)) keeps;
      tidy = tidy;
      wears = wears;
      ready = record {
        known = known;
        within = λ u page f there.
            let was =
            ready.within u page f (ap (λ (p : PoolView). frames_of p u page) (sym same) ∙ there) in
            omega (arith, was, units);
        rest = subst IsAtRest (sym same) ready.rest;
      };
      units = units;
      room = room;
      active = active;
      pins = subst (KeepsPins old.pool) (sym same) (nothing_keeps old.pool);
      least = draws.0;
      drawn = draws.1;
      accounts = accounts;
    }

-- a merge
pub merge_upholds : (u : ℕ) (old new : Pages) (result : Result (Unit {0}) ChipFault)
    (before after : Told) → ArePagesReady before.places old → new.pool ≡ old.pool
    → Holds before.places (tables_in old) (tables_in new)
    → ChartsThroughout (λ done. Merges before.places u (tables_in old) (tables_in new))
    (StaysMirrored before.places (tables_in old) (tables_in new)) result before after
    → MergesInSteps before.places u (tables_in old) (tables_in new) before result after
    → Tidies (tables_in old) result (tables_in new) before after
    → TellsOfWear (tables_in old) (tables_in new) (is_ok result) (is_worn_out result) before after
    → (old.parts.counter ≤ new.parts.counter) × (new.parts.counter ≤ old.parts.counter + 13)
    → (place : ℕ) (spots : List (ℕ × ℕ))
    → Accounts (MergeCause new.parts.directory place spots) result before after
    → Upholds 13 old before result new after
merge_upholds u old new result before after ready same holds tells steps tidy wears draws place spots
    accounts =
    tables_uphold 13 old new result before after ready same holds.known holds.units holds.active
    (ap (λ (it : StatusTable). it.most) holds.status)
    (merge_keeps u place spots (tables_in old) (tables_in new) (frames_in old) result before after
    holds tells steps accounts) tidy wears draws
    (merge_accounts new.parts.directory place spots before after result accounts)

-- a renewal
pub renew_upholds : (old new : Pages) (result : Result (Unit {0}) ChipFault) (before after : Told)
    → ArePagesReady before.places old → new.pool ≡ old.pool
    → HoldsRenewed before.places (tables_in old) result (tables_in new)
    → RenewsTold before.places (tables_in old) (tables_in new) before result after
    → KeepsInSteps before.places (tables_in old) (tables_in new) before result after
    → Tidies (tables_in old) result (tables_in new) before after
    → TellsOfWear (tables_in old) (tables_in new) (is_ok result) (is_worn_out result) before after
    → (old.parts.counter ≤ new.parts.counter) × (new.parts.counter ≤ old.parts.counter + 2 ^ 14)
    → Accounts (RenewCause new.parts.directory) result before after → Upholds (2 ^ 14) old before result new after
renew_upholds old new result before after ready same holds tells steps tidy wears draws accounts =
    tables_uphold (2 ^ 14) old new result before after ready same holds.known holds.units holds.active holds.most
    (renew_keeps (tables_in old) (tables_in new) (frames_in old) result before after holds tells steps
    accounts) tidy wears draws accounts
