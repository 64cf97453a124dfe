-- The steps of a pass, and how they end.
use Rattle.std.proofs.Common.{◌≡◌, ◌≢◌, ◌⊎◌, inl, inr, ℕ, ◌<◌, ◌+◌, Bool, true, false, IsTrue, List, length, Result, Ok, Err, MatchResult, refl, sym, ◌∙◌, ap, subst, arith}
use Rattle.std.specs.List.{Contains}
use Rattle.std.proofs.lemmas.Bool.{cases_eq, le-leb, false≢true}
use Rattle.chip_trait.specs.Story.{Contents}
use Rattle.chip_trait.specs.Told.{Told}
use Rattle.ipl_base.specs.Calls.{IsFailedCall}
use Rattle.ipl_base.specs.declared.fault.ChipFault.{ChipFault}
use Rattle.ipl_base.specs.declared.fault.ChipFault.TheVariants.{Stopped}
use Rattle.ipl_meaning.specs.Chart.{chart_of}
use Rattle.ipl_meaning.specs.Layout.{Entry, Shape, Layout, records_of}
use Rattle.ipl_meaning.specs.Tables.{Tables, StatusTable}
use Rattle.number_set.specs.Numbers.{AreRising}
use Rattle.number_set.proofs.NumberLemmas.{rising_with_numbers}
use Rattle.selective_merge.specs.Known.{KnowsPlaces}
use Rattle.selective_merge.specs.Merging.{Merges, StaysMirrored, MergesUnit, TellsMergeFault}
use Rattle.unit_io.specs.Charts.{Charts}
use Rattle.txn_status.specs.Status.{keeps_of}
use Rattle.restart.specs.Joins.{committed_in, joined}
use Rattle.restart.specs.Keeps.{IsLogged, JoinsLog}
use Rattle.restart.specs.Passes.{fits, HasFound, HasStopped, TellsChart, StuckDontFit}
use Rattle.restart.specs.Passing.{IsPassing, IsStuckBelow, IsPassedBelow, HasHeld, Begins, HasPassed, StepEnds, IsJoined, JoinsUnit}
use Rattle.restart.specs.Stuck.{OneIsStuck}
use Rattle.restart.specs.Turns.{turn_of, ends, merges, sticks, is_ended, is_merged, is_stuck, IsSet}
use Rattle.restart.specs.declared.turns.Turn.TheVariants.{Open, Merged, Stuck}
use Rattle.restart.specs.declared.turns.Turns.{Turns}
use Rattle.restart.proofs.FoundLemmas.{no_more}
use Rattle.restart.proofs.KeepsLemmas.{joined_numbers_join}
use Rattle.restart.proofs.PassLemmas.{passing_as, passing_joined, passing_merged, passing_read, passing_stuck, stopped_from, stopped_still, alike}
use Rattle.restart.proofs.TurnLemmas.{stuck_others, ended_turn, open_turn, stuck_unmerged}

-- ---- how a step ends

-- a call of the chip failed
pub call_ends : {T : Type 0} (places : ℕ) (x : Contents) (it : Layout) (t : Tables) (e : ChipFault)
    (new : Told) (after : Tables) (Done : T → Type 0) → IsFailedCall e
    → TellsChart (HasStopped places (chart_of x) it t after) new
    → StepEnds places x it t (Err e) new after Done
call_ends places x it t e new after Done failed stopped =
    (λ unfailed. absurd (unfailed failed), λ soft. stopped)

module _ (places : ℕ) (x : Contents) (it : Layout) (t : Tables) where
  -- ---- a unit's numbers

  module _ (Of : ℕ → Type 0) (n : ℕ) (turns : Turns) (kept : List ℕ) (old : Told) (before : Tables)
      (was : IsPassing Of n places x it t turns kept old before) (unit : ℕ) (next : List ℕ) where
    pub joins_at : (result : Result Bool ChipFault)
        → JoinsUnit old.places unit before kept next result old
        → MatchResult result (IsJoined before.status (was.state.now.units unit) kept next) IsFailedCall
    joins_at result joins = subst (λ (q : ℕ). JoinsUnit q unit before kept next result old) was.state.sized joins
        was.state.contents was.state.told was.state.now was.state.mirrors

    -- they couldn't be read
    pub join_failed : {T : Type 0} (e : ChipFault) (mid : Told) (after : Tables) (Done : T → Type 0)
        → JoinsUnit old.places unit before kept next (Err e) old
        → mid.contents ≡ old.contents → mid.places ≡ old.places → after ≡ before
        → StepEnds places x it t (Err e) mid after Done
    join_failed e mid after Done joins same sized still =
        call_ends places x it t e mid after Done (joins_at (Err e) joins)
        (subst (λ (s : Tables). TellsChart (HasStopped places (chart_of x) it t s) mid) (sym still)
        (stopped_from places x it t Of n turns kept mid before
        (passing_read places x it t Of n turns kept old before was mid same sized)))

    -- where they don't fit now, they didn't at first
    pub never_fits : is_merged turns unit ≡ false → unit < it.count
        → IsJoined before.status (was.state.now.units unit) kept next false
        → fits t.status (it.units unit).log kept ≡ false
    never_fits unmerged low (full, same) =
        sym (rw (was.state.status, was.state.same unit low unmerged) refl) ∙ full

  -- ---- units that are stuck

  module _ (unit : ℕ) (low : unit < it.count) (turns : Turns) (kept : List ℕ) (old : Told) (before : Tables)
      (was : HasHeld unit places x it t turns kept old before) where
    pub held_skipped : is_stuck turns unit ≡ false → HasHeld (unit + 1) places x it t turns kept old before
    held_skipped free = passing_as places x it t (IsStuckBelow turns unit) 0 turns kept old before was
        (IsStuckBelow turns (unit + 1)) 0 (λ u of. inl (omega (arith, of.0), of.1))
        (λ u more. inl (earlier u more, more.1)) was.order
      where
        earlier : (u : ℕ) → IsStuckBelow turns (unit + 1) u → u < unit
        earlier u (less, is) = elim (cases_eq u unit) [
          | inl at ↦ absurd (false≢true (sym free ∙ ap (is_stuck turns) (sym at) ∙ is))
          | inr other ↦ omega (arith, less, other)
        ]

    module _ (stuck : is_stuck turns unit ≡ true) where
      one : OneIsStuck (chart_of x) it t
      one = (unit, low, (x, refl, was.state.stuck unit low stuck))

      pub held_joined : (new : List ℕ)
          → IsJoined before.status (was.state.now.units unit) kept new true
          → HasHeld (unit + 1) places x it t turns new old before
      held_joined new (room, joins) =
          let next = passing_joined places x it t (IsStuckBelow turns unit) 0 turns kept old before was unit low
          (stuck_unmerged (turn_of turns unit) stuck) (inr one) new room joins in
          passing_as places x it t (λ u. IsStuckBelow turns unit u ⊎ (u ≡ unit)) 1 turns new old before next
          (IsStuckBelow turns (unit + 1)) 0 (λ u of. inl (elim of [
            | inl stuck_one ↦ (omega (arith, stuck_one.0), stuck_one.1)
            | inr at ↦ (omega (arith, at), ap (is_stuck turns) at ∙ stuck)
          ])) (λ u more. inl (elim (cases_eq u unit) [
            | inl at ↦ inr at
            | inr other ↦ let less = more.0 in inl (omega (arith, less, other), more.1)
          ])) (inr one)

      -- their numbers are too many
      pub held_full : AreRising kept → fits t.status (it.units unit).log kept ≡ false
          → StuckDontFit x it t
      held_full rising full = record {
        some = is_stuck turns;
        stuck = was.state.stuck;
        many = λ (numbers, few, all).
            let records = records_of (it.units unit).log in
            let next = joined t.status.numbers records kept in
            let rise = rising_with_numbers (committed_in t.status.numbers records) kept rising in
            let most = no_more next numbers rise (λ tid has. within numbers all tid has) in
            let over = full in absurd (false≢true (sym full ∙ le-leb (length next) (keeps_of t.status.most) (omega (arith, most, few))));
      }
        where
          log_is : (u : ℕ) → u < it.count → is_stuck turns u ≡ true
              → (was.state.now.units u).log ≡ (it.units u).log
          log_is u below is = ap (λ (s : Shape). s.log)
              (was.state.same u below (stuck_unmerged (turn_of turns u) is))

          within : (numbers : List ℕ) → ((u tid : ℕ) → u < it.count → is_stuck turns u ≡ true
              → IsTrue (it.committed tid) → IsLogged (it.units u).log tid → Contains numbers tid)
              → (tid : ℕ) → Contains (joined t.status.numbers (records_of (it.units unit).log) kept) tid
              → Contains numbers tid
          within numbers all tid has =
              let joins : JoinsLog was.state.now.committed (it.units unit).log kept
              (joined t.status.numbers (records_of (it.units unit).log) kept) =
              subst (λ (s : StatusTable). JoinsLog was.state.now.committed (it.units unit).log kept
              (joined s.numbers (records_of (it.units unit).log) kept)) was.state.status
              (joined_numbers_join was.state.now.committed before.status.numbers (it.units unit).log kept
              was.state.mirrors.status.numbers) in
              elim ((joins tid).0 has) [
                | inl there ↦
                    let (is, (u, (less, is_it), logged)) = (was.keeps tid).0 there in
                    let below : u < it.count = omega (arith, less, low) in
                    all u tid below is_it (subst (λ (f : ℕ → Bool). IsTrue (f tid)) was.state.committed is)
                    (subst (λ (l : List Entry). IsLogged l tid) (log_is u below is_it) logged)
                | inr (is, logged) ↦ all unit tid low stuck
                    (subst (λ (f : ℕ → Bool). IsTrue (f tid)) was.state.committed is) logged
              ]

      -- so it fails with what is wrong with the one that was stuck last, which is where it was
      pub held_ends : {T : Type 0} (new : Told) (Done : T → Type 0) → AreRising kept
          → fits t.status (it.units unit).log kept ≡ false
          → new.contents ≡ old.contents → new.places ≡ old.places
          → StepEnds places x it t (Err turns.fault) new before Done
      held_ends new Done rising full same sized =
          let (v, below, stuck_one, wrong) = was.state.noted unit low stuck in (
            λ unfailed. record {
              is = record { unit = v; low = below; fault = wrong; many = held_full rising full };
              stays = was.state.mirrors.directory.current v (omega (arith, below, was.state.count))
                  ∙ ap (λ (s : Shape). s.home)
                  (was.state.same v below (stuck_unmerged (turn_of turns v) stuck_one));
            },
            λ soft. stopped_from places x it t (IsStuckBelow turns unit) 0 turns kept new before
                (passing_read places x it t (IsStuckBelow turns unit) 0 turns kept old before was new same sized),
          )

  -- all of them
  pub held_all : (turns : Turns) (kept : List ℕ) (old : Told) (before : Tables)
      → HasHeld it.count places x it t turns kept old before
      → HasPassed 0 places x it t turns kept old before
  held_all turns kept old before was =
      passing_as places x it t (IsStuckBelow turns it.count) 0 turns kept old before was
      (IsPassedBelow turns it.count 0) 0 (λ u of. inl (inr of))
      (λ u more. inl (elim more [
        | inl none ↦ absurd (omega (arith, none))
        | inr of ↦ of
      ])) was.order

  -- ---- unit by unit

  module _ (unit : ℕ) (low : unit < it.count) (turns : Turns) (kept : List ℕ) (old : Told) (before : Tables)
      (was : HasPassed unit places x it t turns kept old before) where
    abbrev Of : ℕ → Type 0
    Of = IsPassedBelow turns it.count unit

    pub passed_skipped : is_ended turns unit ≡ true → HasPassed (unit + 1) places x it t turns kept old before
    passed_skipped is = passing_as places x it t (IsPassedBelow turns it.count unit) unit turns kept old before was
        (IsPassedBelow turns it.count (unit + 1)) (unit + 1)
        (λ u of. inl (elim of [
          | inl less ↦ inl (omega (arith, less))
          | inr stuck ↦ inr stuck
        ]))
        (λ u more. elim more [
          | inr stuck ↦ inl (inr stuck)
          | inl less ↦ elim (cases_eq u unit) [
            | inr other ↦ inl (inl (omega (arith, less, other)))
            | inl at ↦ elim (ended_turn (turn_of turns unit) is) [
              | inl merged ↦ inr (subst (λ (v : ℕ). v < it.count) (sym at) low, ap (is_merged turns) at ∙ merged)
              | inr stuck ↦ inl (inr (subst (λ (v : ℕ). v < it.count) (sym at) low, ap (is_stuck turns) at ∙ stuck))
            ]
          ]
        ])
        (elim was.order [
          | inr stuck ↦ inr stuck
          | inl first ↦ absurd (false≢true (sym (ap ends (first.idle unit low (omega arith))) ∙ is))
        ])

    module _ (idle : is_ended turns unit ≡ false) where
      here : turn_of turns unit ≡ Open
      here = open_turn (turn_of turns unit) idle

      pub unmerged_here : is_merged turns unit ≡ false
      unmerged_here = ap merges here

      pub unpassed : (u : ℕ) → IsPassedBelow turns it.count unit u → u ≢ unit
      unpassed u (inl less) at = omega (arith, less, at)
      unpassed u (inr stuck) at =
          false≢true (sym (ap sticks here) ∙ ap (is_stuck turns) (sym at) ∙ stuck.1)

      pub passed_joined : (new : List ℕ)
          → IsJoined before.status (was.state.now.units unit) kept new true
          → HasPassed (unit + 1) places x it t turns new old before
      passed_joined new (room, joins) =
          let next = passing_joined places x it t (IsPassedBelow turns it.count unit) unit turns kept old before was
          unit low unmerged_here (inl refl) new room joins in
          passing_as places x it t (λ u. IsPassedBelow turns it.count unit u ⊎ (u ≡ unit)) (unit + 1) turns new old
          before next (IsPassedBelow turns it.count (unit + 1)) (unit + 1)
          (λ u of. inl (elim of [
            | inr at ↦ inl (omega (arith, at))
            | inl passed ↦ elim passed [
              | inl less ↦ inl (omega (arith, less))
              | inr stuck ↦ inr stuck
            ]
          ]))
          (λ u more. inl (elim more [
            | inr stuck ↦ inl (inr stuck)
            | inl less ↦ elim (cases_eq u unit) [
              | inl at ↦ inr at
              | inr other ↦ inl (inl (omega (arith, less, other)))
            ]
          ])) next.order

      pub passed_merged : (ended : Turns) (new : Told) (after : Tables) → IsSet turns ended unit Merged turns.fault
          → IsPassing (IsPassedBelow turns it.count unit) (unit + 1) places x it t ended kept new after
          → HasPassed (unit + 1) places x it t ended kept new after
      passed_merged ended new after set next =
          passing_as places x it t (IsPassedBelow turns it.count unit) (unit + 1) ended kept new after next
          (IsPassedBelow ended it.count (unit + 1)) (unit + 1)
          (λ u of. let other = unpassed u of in inl (elim of [
            | inl less ↦ inl (omega (arith, less))
            | inr stuck ↦ inr (stuck.0, stuck_others turns ended unit Merged turns.fault set u other ∙ stuck.1)
          ]))
          (λ u more. elim (cases_eq u unit) [
            | inl at ↦ inr (
              subst (λ (v : ℕ). v < it.count) (sym at) low,
              ap (is_merged ended) at ∙ ap merges set.here,
            )
            | inr other ↦ inl (elim more [
              | inl less ↦ inl (omega (arith, less, other))
              | inr stuck ↦ inr (stuck.0, sym (stuck_others turns ended unit Merged turns.fault set u other) ∙ stuck.1)
            ])
          ]) next.order

      unstuck_here : is_stuck turns unit ≡ false
      unstuck_here = ap sticks here

      module _ (full : fits t.status (it.units unit).log kept ≡ false)
          (known : KnowsPlaces old.places before) (listed : List (ℕ × ℕ)) (new : Told) (after : Tables) where
        -- it was merged
        pub room_made : (ended : Turns) → IsSet turns ended unit Merged turns.fault
            → MergesUnit listed unit before after (Ok tt) old new
            → HasPassed (unit + 1) places x it t ended kept new after
        room_made ended set did =
            passed_merged ended new after set
            (passing_merged places x it t (IsPassedBelow turns it.count unit) unit turns kept old before was unit low
            unmerged_here (inl refl) ended new after set
            (did.moves.leaves.accounts.counts.places ∙ was.state.sized)
            (did.moves.leaves.holds.active ∙ was.state.active) (did.moves.leaves.holds.status ∙ was.state.status)
            unpassed full unstuck_here (subst (λ (q : ℕ). KnowsPlaces q before) was.state.sized known)
            (subst (λ (q : ℕ). Charts (Merges q unit before after) old new) was.state.sized did.tells)
            did.moves.leaves.spares)

        module _ (e : ChipFault) (did : MergesUnit listed unit before after (Err e) old new) where
          stays : e ≢ Stopped → Charts (StaysMirrored places before after) old new
          stays = subst (λ (q : ℕ). e ≢ Stopped → Charts (StaysMirrored q before after) old new) was.state.sized
              did.tells

          -- a call of the chip failed
          pub room_failed : {T : Type 0} (Done : T → Type 0) → IsFailedCall e
              → StepEnds places x it t (Err e) new after Done
          room_failed Done failed = (
            λ unfailed. absurd (unfailed failed),
            λ soft.
                stopped_still places x it t (IsPassedBelow turns it.count unit) unit turns kept old before was new
                after (stays soft),
          )

          -- it is stuck
          pub room_stuck : (ended : Turns) → IsSet turns ended unit Stuck e → ¬ IsFailedCall e
              → Begins places x it t ended new after
          room_stuck ended set unfailed =
              let wrong = subst (λ (q : ℕ). TellsMergeFault {T = Unit {0}} q before unit (Err e) old) was.state.sized
              did.fault was.state.contents was.state.told was.state.now was.state.mirrors unfailed in
              passing_stuck places x it t (IsPassedBelow turns it.count unit) unit turns kept old before was unit low
              unmerged_here (inl refl) e ended new after set
              (did.moves.leaves.accounts.counts.places ∙ was.state.sized)
              (did.moves.leaves.holds.active ∙ was.state.active) (did.moves.leaves.holds.status ∙ was.state.status)
              (subst (λ (q : ℕ). KnowsPlaces q before) was.state.sized known) wrong
              (stays (λ stopped. unfailed (subst IsFailedCall (sym stopped) tt)))
              (did.moves.leaves.spares unfailed)

  -- all units
  pub passed_found : (turns : Turns) (kept : List ℕ) (old : Told) (before : Tables)
      → HasPassed it.count places x it t turns kept old before
      → HasFound places (chart_of x) it t kept old before
  passed_found turns kept old before was = record {
    contents = was.state.contents;
    told = was.state.told;
    now = was.state.now;
    mirrors = was.state.mirrors;
    pages = was.state.pages;
    alike = record { count = was.state.count; units = alike places x it t turns old before was.state };
    passed = elim was.order [
      | inl first ↦ inl (first.passed, first.kept_is)
      | inr stuck ↦ inr stuck
    ];
    committed = was.state.committed;
    keeps = λ tid. (
      λ has.
          let (is, (u, of, logged)) = (was.keeps tid).0 has in
          (is, (u, below u of, logged)),
      λ (is, (u, less, logged)). (was.keeps tid).1 (is, (u, inl (omega (arith, less, was.state.count)), logged)),
    );
  }
    where
      below : (u : ℕ) → IsPassedBelow turns it.count it.count u → u < was.state.now.count
      below u (inl less) = omega (arith, less, was.state.count)
      below u (inr stuck) = let less = stuck.0 in omega (arith, less, was.state.count)
