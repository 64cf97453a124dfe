-- What the calls leave that make room.
use Rattle.std.proofs.Common.{◌≡◌, ℕ, List, ◌++◌, Some, Result, Ok, Err, IfOk, inl, ◌∙◌, subst}
use Rattle.chip_trait.specs.Story.{Contents, held}
use Rattle.chip_trait.specs.Told.{History, Told}
use Rattle.ipl_base.specs.declared.fault.ChipFault.{ChipFault}
use Rattle.ipl_base.specs.declared.spot.Spot.{Spot}
use Rattle.ipl_meaning.specs.Chart.{Chart, chart_of}
use Rattle.ipl_meaning.specs.Layout.{Layout}
use Rattle.ipl_meaning.specs.Mirrors.{Mirrors}
use Rattle.ipl_meaning.specs.Rests.{now, EachStands}
use Rattle.ipl_meaning.specs.Steps.{KeepsPages}
use Rattle.ipl_meaning.specs.Tables.{Tables, IsCountedClean}
use Rattle.unit_io.specs.Costs.{Spends}
use Rattle.unit_io.specs.ReadsAt.{ReadsAt}
use Rattle.unit_log.specs.Often.{ReadsListed}
use Rattle.unit_io.specs.Steps.{Settled, TidyWork, Steps, RestsAgreeing}
use Rattle.unit_io.proofs.StepLemmas.{outcome_none, outcome_weaker}
use Rattle.unit_io.proofs.StepTidyLemmas.{tidy_none}
use Rattle.selective_merge.specs.Merging.{MergesUnit, StaysMirrored, RestsMerged}
use Rattle.selective_merge.specs.Placing.{OpensOverflow, SaysCounts, RestsOpened, OpensInSteps, IsMergedSpot, MakesRoom, RestsWithRoom, MakesRoomInSteps, PlacesLog}
use Rattle.selective_merge.specs.Spotting.{IsHomeSpot}
use Rattle.selective_merge.specs.Throughout.{ChartsThroughout}
use Rattle.selective_merge.proofs.CompleteLemmas.{fails_behind}
use Rattle.selective_merge.proofs.LeavingLemmas.{finds_behind, finds_merged, finds_unmerged}
use Rattle.selective_merge.proofs.ThroughoutLemmas.{settled_later}
use Rattle.selective_merge.proofs.UnbrokenLemmas.{steps_settled}
use Rattle.selective_merge.proofs.WholeLemmas.{steps_behind, read_failed}

-- what room there is, by the charts before and after, the tables before and after, and the spot
abbrev pub RoomOf : Type 1
RoomOf = ℕ → Chart → Chart → Layout → Tables → ℕ → Tables → ℕ → ℕ → Type 0

-- ---- ends of calls

-- more is said where a call was done
steps_done : {T U : Type 0} (Each : History → Type 0) (t after : Tables)
    (Then1 : T → History → Type 0) (Then2 : U → History → Type 0) (Else : History → Type 0)
    (h : History) (v : T) (w : U) (old new : Told) → ((k : History) → Then1 v k → Then2 w k)
    → Steps {E = ChipFault} Each t after Then1 Else h (Ok v) old new
    → Steps {E = ChipFault} Each t after Then2 Else h (Ok w) old new
steps_done Each t after Then1 Then2 Else h v w old new more did =
    outcome_weaker Each Each (TidyWork (IsCountedClean t) (IsCountedClean after) (Unit {0}))
    (TidyWork (IsCountedClean t) (IsCountedClean after) (Unit {0})) (Unit {0}) (Unit {0})
    (Then1 v) (Then2 w) h old new (λ k is. is) (λ a is. is) (λ is. is) (λ done k is. more k is) did

pub if_ok : {T E : Type 0} (P Q : T → Type 0) (result : Result T E) → ((v : T) → P v → Q v)
    → IfOk result P → IfOk result Q
if_ok P Q (Ok v) more is = more v is
if_ok P Q (Err e) more is = is

pub all_ok : {T E : Type 0} (P : T → Type 0) (result : Result T E) → ((v : T) → P v) → IfOk result P
all_ok P (Ok v) each = each v
all_ok P (Err e) each = tt

-- ---- a call that asks nothing of the chip

pub makes_none : (Is : RoomOf) (places u : ℕ) (t : Tables) (spot : Spot) (told : Told)
    → ((c : Chart) (it : Layout) → Mirrors places c it t
    → Is places c c it t u t spot.place spot.sector)
    → MakesRoomInSteps Is places u t t told (Ok spot) told
makes_none Is places u t spot told is m it h steady rests agrees =
    outcome_none (EachStands places m)
    (TidyWork (IsCountedClean t) (IsCountedClean t) (Unit {0})) (Unit {0})
    (λ k. RestsWithRoom Is places m (now h) it t u t spot k) h told steady rests.each
    (tidy_none (IsCountedClean t) (Unit {0})) (record {
      rests = rests;
      room = is (now h) it agrees.mirrors;
      tidy = agrees.tidy;
    })

pub told_none : (Is : RoomOf) (places u : ℕ) (t : Tables) (spot : Spot) (told : Told)
    → ((c : Chart) (it : Layout) → Mirrors places c it t
    → Is places c c it t u t spot.place spot.sector)
    → ChartsThroughout (MakesRoom Is places u t t) (StaysMirrored places t t) (Ok spot) told told
told_none Is places u t spot told is x there =
    (x, there, λ it mirrors. is (chart_of x) it mirrors)

-- ---- a merge

-- the unit was merged
pub merged_room : (listed : List (ℕ × ℕ)) (u : ℕ) (t after : Tables) (spot : Spot) (old new : Told)
    → IsHomeSpot after u spot.place spot.sector → MergesUnit listed u t after (Ok tt) old new
    → PlacesLog IsMergedSpot listed u t after (Ok spot) old new
merged_room listed u t after spot old new home merges = record {
  tells = λ x told.
      let (y, told_y, merged) = merges.tells x told in
      (y, told_y, λ it mirrors. record { merged = merged it mirrors; spot = home });
  steps = λ m it h steady rests agrees.
      steps_done (EachStands old.places m) t after
      (λ (v : Unit {0}) k. RestsMerged old.places m (now h) it t u after k)
      (λ v k. RestsWithRoom IsMergedSpot old.places m (now h) it t u after v k)
      (λ k. RestsAgreeing old.places m it after k) h tt spot old new
      (λ k done. record {
        rests = done.rests;
        room = record { merged = done.unit; spot = home };
        tidy = done.tidy;
      }) (steps_settled (EachStands old.places m) t after
      (λ (v : Unit {0}) k. RestsMerged old.places m (now h) it t u after k)
      (λ k. RestsAgreeing old.places m it after k) h (Ok tt) old new (merges.steps m it h steady rests agrees));
  fault = λ x told it mirrors. tt;
  spot = inl home;
  finds = finds_merged listed u t after tt spot old new merges.moves;
}

-- or wasn't
pub unmerged_room : (listed : List (ℕ × ℕ)) (u : ℕ) (t after : Tables) (fault : ChipFault) (old new : Told)
    → MergesUnit listed u t after (Err fault) old new
    → PlacesLog IsMergedSpot listed u t after (Err fault) old new
unmerged_room listed u t after fault old new merges = record {
  tells = merges.tells;
  steps = λ m it h steady rests agrees.
      steps_settled (EachStands old.places m) t after
      (λ (v : Unit {0}) k. RestsMerged old.places m (now h) it t u after k)
      (λ k. RestsAgreeing old.places m it after k) h (Err fault) old new
      (merges.steps m it h steady rests agrees);
  fault = λ x told it mirrors. merges.fault x told it mirrors;
  spot = tt;
  finds = finds_unmerged listed u t after fault old new merges.moves;
}

-- ---- a new overflow place

module _ (Is : RoomOf) (places u : ℕ) (t after : Tables) (old new : Told) where
  pub makes_by_opening : (result : Result Spot ChipFault)
      → OpensInSteps places t after old result new
      → IfOk result (λ spot. (c y : Chart) (it : Layout) → Mirrors places y it after
      → KeepsPages places c it y it → SaysCounts after spot.place y
      → Is places c y it t u after spot.place spot.sector)
      → MakesRoomInSteps Is places u t after old result new
  makes_by_opening (Ok spot) says is m it h steady rests agrees =
      steps_done (EachStands places m) t after
      (λ (v : Spot) k. RestsOpened places m (now h) it after v.place k)
      (λ v k. RestsWithRoom Is places m (now h) it t u after v k)
      (λ k. RestsAgreeing places m it after k) h spot spot old new
      (λ k done. record {
        rests = done.rests;
        room = is (now h) (now k) it done.agrees.mirrors done.keeps done.says;
        tidy = done.agrees.tidy;
      }) (says m it h steady rests agrees)
  makes_by_opening (Err e) says is m it h steady rests agrees = says m it h steady rests agrees

  pub told_by_opening : (result : Result Spot ChipFault)
      → ChartsThroughout (λ (spot : Spot). OpensOverflow places t after spot.place) (StaysMirrored places t after)
      result old new
      → IfOk result (λ spot. (c y : Chart) (it : Layout) → Mirrors places y it after
      → KeepsPages places c it y it → SaysCounts after spot.place y
      → Is places c y it t u after spot.place spot.sector)
      → ChartsThroughout (MakesRoom Is places u t after) (StaysMirrored places t after)
      result old new
  told_by_opening (Ok spot) tells is = λ x there.
      let (y, told_y, opens) = tells x there in (
        y,
        told_y,
        λ it mirrors.
            let made = opens it mirrors in is (chart_of x) (chart_of y) it made.0 made.1 made.2,
      )
  told_by_opening (Err e) tells is = tells

-- ---- behind reads

-- a call that failed, where only reads were made
pub makes_unread : (Is : RoomOf) (At : ℕ → ℕ → Type 0) (places u : ℕ) (t : Tables)
    (e : ChipFault) (old new : Told) → ReadsAt At old new
    → MakesRoomInSteps Is places u t t old (Err e) new
makes_unread Is At places u t e old new did m it h steady rests agrees =
    steps_settled {T = Spot} (EachStands places m) t t
    (λ spot k. RestsWithRoom Is places m (now h) it t u t spot k)
    (λ k. RestsAgreeing places m it t k) h (Err e) old new
    (read_failed {T = Spot} At places m it t
    (λ spot k. RestsWithRoom Is places m (now h) it t u t spot k) h e old new steady rests agrees
    did)

module _ (One Two : RoomOf) (At : ℕ → ℕ → Type 0) (u : ℕ) (t after : Tables) (old mid new : Told)
    (did : ReadsAt At old mid) where
  -- what is so of the spot, by what the chip held before
  abbrev pub Gives : Spot → Type 0
  Gives spot = (x : Contents) (y : Chart) (it : Layout) → old.contents ≡ Some x
      → Mirrors old.places (chart_of x) it t
      → One old.places (chart_of x) y it t u after spot.place spot.sector
      → Two old.places (chart_of x) y it t u after spot.place spot.sector

  pub placed_behind : (result : Result Spot ChipFault) → IfOk result Gives
      → MakesRoomInSteps One old.places u t after mid result new
      → MakesRoomInSteps Two old.places u t after old result new
  placed_behind (Ok spot) gives says m it h steady rests agrees =
      steps_done (EachStands old.places m) t after
      (λ v k. RestsWithRoom One old.places m (now h) it t u after v k)
      (λ v k. RestsWithRoom Two old.places m (now h) it t u after v k)
      (λ k. RestsAgreeing old.places m it after k) h spot spot old new
      (λ k done. record {
        rests = done.rests;
        room = gives (held h.start h.story) (now k) it
            steady.holds agrees.mirrors done.room;
        tidy = done.tidy;
      })
      (steps_behind At old.places m it t after (Unit {0}) (Unit {0})
      (λ c spot k. RestsWithRoom One old.places m c it t u after spot k)
      (λ k. RestsAgreeing old.places m it after k) h old mid new (Ok spot) steady rests agrees did
      (λ is. is) (λ k steady_k rests_k agrees_k. says m it k steady_k rests_k agrees_k))
  placed_behind (Err e) gives says m it h steady rests agrees =
      steps_behind At old.places m it t after (Settled {T = Spot} (Err e) mid new)
      (Settled {T = Spot} (Err e) old new)
      (λ c spot k. RestsWithRoom One old.places m c it t u after spot k)
      (λ k. RestsAgreeing old.places m it after k) h old mid new (Err e) steady rests agrees did
      (settled_later {T = Spot} (Err e) old mid new did.counts) (λ k steady_k rests_k agrees_k. says m it k steady_k rests_k agrees_k)

  pub placed_told : (result : Result Spot ChipFault) → IfOk result Gives
      → ChartsThroughout (MakesRoom One old.places u t after) (StaysMirrored old.places t after)
      result mid new
      → ChartsThroughout (MakesRoom Two old.places u t after)
      (StaysMirrored old.places t after) result old new
  placed_told (Ok spot) gives tells = λ x there.
      let (y, told_y, makes) = tells x (did.contents ∙ there) in
      (y, told_y, λ it mirrors. gives x (chart_of y) it there mirrors (makes it mirrors))
  placed_told (Err e) gives tells = λ soft x there. tells soft x (did.contents ∙ there)

  pub places_behind : (result : Result Spot ChipFault) (first then : List (ℕ × ℕ)) → IfOk result Gives
      → Spends (ReadsListed first) old mid → PlacesLog One then u t after result mid new
      → PlacesLog Two (first ++ then) u t after result old new
  places_behind result first then gives often says = record {
    tells = placed_told result gives (subst (λ (q : ℕ). ChartsThroughout (MakesRoom One q u t after)
        (StaysMirrored q t after) result mid new) did.counts.places says.tells);
    steps = placed_behind result gives (subst (λ (q : ℕ). MakesRoomInSteps One q u t after mid result new)
        did.counts.places says.steps);
    fault = fails_behind t u old mid result did.counts.places did.contents says.fault;
    spot = says.spot;
    finds = finds_behind At u t after result old mid new first then did often says.finds;
  }
