-- Passes over the units, unit by unit.
use Rattle.std.proofs.Common.{◌≡◌, ◌≢◌, ◌⊎◌, inl, inr, ℕ, ◌<◌, ◌+◌, true, false, List, [], slice_index, Some, refl, sym, ◌∙◌, ap, ap₂, subst, arith}
use Rattle.std.specs.Prelude.{nat_le, if◌then◌else◌}
use Rattle.std.specs.List.{All}
use Rattle.std.proofs.lemmas.Bool.{cases_Bool, cases_eq, eq-eqb, ne_eqb, false≢true}
use Rattle.std.proofs.lemmas.List.Elements.{Contains-get_or}
use Rattle.std.proofs.lemmas.Option.{same_Some}
use Rattle.chip_trait.specs.Story.{Contents}
use Rattle.chip_trait.specs.Told.{Told}
use Rattle.ipl_base.specs.declared.fault.ChipFault.{ChipFault}
use Rattle.ipl_base.specs.declared.fault.ChipFault.TheVariants.{Malformed}
use Rattle.ipl_meaning.proofs.StandsLemmas.{pages_then}
use Rattle.ipl_meaning.specs.Chart.{chart_of}
use Rattle.ipl_meaning.specs.Last.{carried_count}
use Rattle.ipl_meaning.specs.Layout.{Shape, Layout, records_of}
use Rattle.ipl_meaning.specs.Mirrors.{Mirrors}
use Rattle.ipl_meaning.specs.Steps.{AllWait, with_unit}
use Rattle.ipl_meaning.specs.Tables.{IsFree, Tables, StatusTable}
use Rattle.place_taking.specs.Spending.{SparesUsed}
use Rattle.selective_merge.specs.Faults.{merge_fault, pages_fault}
use Rattle.selective_merge.specs.Known.{KnowsPlaces}
use Rattle.selective_merge.specs.Merged.{IsMergedUnit, merged_shape, source_of}
use Rattle.selective_merge.specs.Merging.{StaysMirrored}
use Rattle.selective_merge.specs.Packs.{among, packs_of, entries_from}
use Rattle.selective_merge.proofs.FaultLemmas.{faults_are_of_the_place}
use Rattle.unit_io.specs.Charts.{Charts}
use Rattle.restart.specs.Joins.{joined}
use Rattle.restart.specs.Keeps.{JoinsLog, KeepsOf}
use Rattle.restart.specs.Passes.{fits, kept_below, has_room, IsRepacked, HasStopped, TellsChart}
use Rattle.restart.specs.Passing.{IsBetween, IsFirst, IsPassing, IsStuckBelow, Begins}
use Rattle.restart.specs.Stuck.{HasFault, OneIsStuck}
use Rattle.restart.specs.Turns.{turn_of, merges, sticks, is_merged, is_stuck, IsSet}
use Rattle.restart.specs.declared.turns.Turn.TheVariants.{Open, Merged, Stuck}
use Rattle.restart.specs.declared.turns.Turns.{Turns}
use Rattle.restart.proofs.KeepsLemmas.{joined_numbers_join, keeps_as, keeps_join, keeps_still}
use Rattle.restart.proofs.TurnLemmas.{merged_others, stuck_others}
use Rattle.restart.proofs.UnitLemmas.{kept_fits, kept_stays, repacked_waits}

-- ---- layouts

unit_here : (it : Layout) (u : ℕ) (shape : Shape) → (with_unit it u shape).units u ≡ shape
unit_here it u shape = rw (eq-eqb u u refl) refl

unit_elsewhere : (it : Layout) (u v : ℕ) (shape : Shape) → v ≢ u
    → (with_unit it u shape).units v ≡ it.units v
unit_elsewhere it u v shape apart = rw (ne_eqb v u apart) refl

-- ---- between two steps

module _ (places : ℕ) (x : Contents) (it : Layout) (t : Tables) where
  module _ (turns : Turns) (told : Told) (after : Tables)
      (state : IsBetween places x it t turns told after) where
    -- what a merge carried waits
    merged_waits : (u : ℕ) → u < it.count → is_merged turns u ≡ true
        → AllWait state.now.committed (records_of (state.now.units u).log)
    merged_waits u low is =
        repacked_waits state.now.committed t.active u (it.units u) (state.now.units u)
        (subst (All (λ m. state.now.committed m ≡ false)) state.active state.mirrors.numbers.waits)
        (state.merged u low is)

    -- the chip tells the same contents
    abbrev pub between_read : (new : Told) → new.contents ≡ told.contents → new.places ≡ told.places
        → IsBetween places x it t turns new after
    between_read new same sized = record {
      sized = sized ∙ state.sized;
      contents = state.contents;
      told = same ∙ state.told;
      now = state.now;
      mirrors = state.mirrors;
      active = state.active;
      status = state.status;
      pages = state.pages;
      count = state.count;
      committed = state.committed;
      same = state.same;
      bytes = state.bytes;
      merged = state.merged;
      stuck = state.stuck;
      noted = state.noted;
    }

    pub alike : (u : ℕ) → u < it.count
        → (state.now.units u ≡ it.units u) ⊎ IsRepacked t.active u (it.units u) (state.now.units u)
    alike u low = elim (cases_Bool (is_merged turns u)) [
      | inl is ↦ inr (state.merged u low is)
      | inr other ↦ inl (state.same u low other)
    ]

  module _ (Of : ℕ → Type 0) (n : ℕ) (turns : Turns) (kept : List ℕ) (told : Told) (after : Tables)
      (was : IsPassing Of n places x it t turns kept told after) where
    abbrev pub passing_read : (new : Told) → new.contents ≡ told.contents → new.places ≡ told.places
        → IsPassing Of n places x it t turns kept new after
    passing_read new same sized = record {
      state = between_read turns told after was.state new same sized;
      keeps = was.keeps;
      order = was.order;
    }

    -- of other units: merged ones make no difference
    pub passing_as : (More : ℕ → Type 0) (m : ℕ)
        → ((u : ℕ) → Of u → More u ⊎ ((u < it.count) × (is_merged turns u ≡ true)))
        → ((u : ℕ) → More u → Of u ⊎ ((u < it.count) × (is_merged turns u ≡ true)))
        → IsFirst m it t turns kept was.state.now ⊎ OneIsStuck (chart_of x) it t
        → IsPassing More m places x it t turns kept told after
    passing_as More m to from order = record {
      state = was.state;
      keeps = keeps_as Of More was.state.now kept was.keeps (λ u of. elim (to u of) [
        | inl more ↦ inl more
        | inr (low, is) ↦ inr (merged_waits turns told after was.state u low is)
      ]) (λ u more. elim (from u more) [
        | inl of ↦ inl of
        | inr (low, is) ↦ inr (merged_waits turns told after was.state u low is)
      ]);
      order = order;
    }

    -- it ended here
    pub stopped_from : TellsChart (HasStopped places (chart_of x) it t after) told
    stopped_from = (
      was.state.contents,
      was.state.told,
      record {
        now = was.state.now;
        mirrors = was.state.mirrors;
        pages = was.state.pages;
        alike = record { count = was.state.count; units = alike turns told after was.state };
        passed = elim was.order [
          | inl first ↦ inl (n, first.passed)
          | inr stuck ↦ inr stuck
        ];
        committed = was.state.committed;
      },
    )

    -- and a call left the layout
    pub stopped_still : (new : Told) (last : Tables) → Charts (StaysMirrored places after last) told new
        → TellsChart (HasStopped places (chart_of x) it t last) new
    stopped_still new last stays =
        let (y, told_y, still) = stays was.state.contents was.state.told in
        let (mirrors, pages) = still was.state.now was.state.mirrors in (
          y,
          told_y,
          record {
            now = was.state.now;
            mirrors = mirrors;
            pages = pages_then places (chart_of x) (chart_of was.state.contents) (chart_of y) it was.state.now
                was.state.now was.state.count was.state.pages pages;
            alike = record { count = was.state.count; units = alike turns told after was.state };
            passed = elim was.order [
              | inl first ↦ inl (n, first.passed)
              | inr stuck ↦ inr stuck
            ];
            committed = was.state.committed;
          },
        )

    -- the place of a unit that isn't merged is in use
    still_used : KnowsPlaces places after → (u : ℕ) → u < it.count → is_merged turns u ≡ false
        → ¬ IsFree after.places (it.units u).home
    still_used known u within is free =
        let there : u < was.state.now.count = omega (arith, within, was.state.count) in
        let home : slice_index after.places.current u ≡ (it.units u).home =
        was.state.mirrors.directory.current u there
        ∙ ap (λ (s : Shape). s.home) (was.state.same u within is) in
        known.used (slice_index after.places.current u)
        (inl (Contains-get_or after.places.current u 0
        (omega (arith, there, was.state.mirrors.directory.units))))
        (subst (IsFree after.places) (sym home) free)

    -- ---- a unit that isn't merged

    module _ (unit : ℕ) (low : unit < it.count) (idle : is_merged turns unit ≡ false)
        (when : (n ≡ unit) ⊎ OneIsStuck (chart_of x) it t) where
      same_unit : was.state.now.units unit ≡ it.units unit
      same_unit = was.state.same unit low idle

      -- its numbers joined
      pub passing_joined : (new : List ℕ)
          → fits after.status (was.state.now.units unit).log kept ≡ true
          → new ≡ joined after.status.numbers (records_of (was.state.now.units unit).log) kept
          → IsPassing (λ u. Of u ⊎ (u ≡ unit)) (n + 1) places x it t turns new told after
      unfolding same_unit
      passing_joined new room joins = record {
        state = was.state;
        keeps = keeps_join Of unit was.state.now kept new was.keeps
            (subst (λ (l : List ℕ). JoinsLog was.state.now.committed (was.state.now.units unit).log kept l)
            (sym joins) (joined_numbers_join was.state.now.committed after.status.numbers
            (was.state.now.units unit).log kept was.state.mirrors.status.numbers));
        order = elim was.order [
          | inr stuck ↦ inr stuck
          | inl first ↦ elim when [
            | inr stuck ↦ inr stuck
            | inl at ↦ inl (first_joined new room joins first at)
          ]
        ];
      }
        where
          first_joined : (new : List ℕ)
              → fits after.status (was.state.now.units unit).log kept ≡ true
              → new ≡ joined after.status.numbers (records_of (was.state.now.units unit).log) kept
              → IsFirst n it t turns kept was.state.now → n ≡ unit
              → IsFirst (n + 1) it t turns new was.state.now
          first_joined new room joins first at =
              let log : (was.state.now.units unit).log ≡ (it.units n).log =
              ap (λ (s : Shape). s.log) same_unit ∙ ap (λ (u : ℕ). (it.units u).log) (sym at) in
              let here : has_room t.status it n ≡ true =
              sym (rw (was.state.status, log, first.kept_is) refl) ∙ room in
              let all : joined after.status.numbers (records_of (was.state.now.units unit).log) kept
              ≡ joined t.status.numbers (records_of (it.units n).log) (kept_below t.status it n) =
              rw (ap (λ (s : StatusTable). s.numbers) was.state.status, log, first.kept_is) refl in
              record {
                passed = record {
                  count = first.passed.count;
                  same = λ u within either. first.passed.same u within (elim either [
                    | inl behind ↦ inl (omega (arith, behind))
                    | inr fits_it ↦ inr fits_it
                  ]);
                  merged = λ u before full. first.passed.merged u (elim (cases_eq u n) [
                    | inl same ↦ absurd (false≢true
                        (sym full ∙ ap (λ (v : ℕ). has_room t.status it v) same ∙ here))
                    | inr other ↦ omega (arith, before, other)
                  ]) full;
                };
                kept_is = joins ∙ all ∙ sym (kept_fits t.status it n here);
                idle = λ u within behind. first.idle u within (omega (arith, behind));
                unstuck = first.unstuck;
              }

      -- its numbers don't fit
      no_room : fits t.status (it.units unit).log kept ≡ false
          → IsFirst n it t turns kept was.state.now → n ≡ unit → has_room t.status it unit ≡ false
      no_room full first at = sym (rw (sym at, first.kept_is) refl) ∙ full

      -- it was merged
      pub passing_merged : (ended : Turns) (new : Told) (last : Tables)
          → IsSet turns ended unit Merged turns.fault → new.places ≡ places
          → last.active ≡ t.active → last.status ≡ t.status → ((u : ℕ) → Of u → u ≢ unit)
          → fits t.status (it.units unit).log kept ≡ false
          → is_stuck turns unit ≡ false → KnowsPlaces places after
          → Charts (λ d y. (l : Layout) → Mirrors places d l after
          → IsMergedUnit places d y l after unit last) told new
          → SparesUsed after.places told new
          → IsPassing Of (n + 1) places x it t ended kept new last
      unfolding same_unit
      passing_merged ended new last set sized active status apart full free known merges_it spares =
          let (y, told_y, made) = merges_it was.state.contents was.state.told in
          let (z, told_z, spared) = spares was.state.contents was.state.told in
          let one = made was.state.now was.state.mirrors in
          let shape = merged_shape after (was.state.now.units unit) unit one.place one.head one.pieces
          one.serial in
          let now_is : Layout = with_unit was.state.now unit shape in
          let repacked : IsRepacked t.active unit (was.state.now.units unit) shape = record {
            serial = one.serial;
            log_is = ap (λ (a : List ℕ). entries_from one.place unit one.head.generation 241
                one.serial (packs_of a (records_of (was.state.now.units unit).log))) was.state.active;
          } in
          record {
            state = record {
              sized = sized;
              contents = y;
              told = told_y;
              now = now_is;
              mirrors = one.mirrors;
              active = active;
              status = status;
              pages = pages_then places (chart_of x) (chart_of was.state.contents) (chart_of y) it
                  was.state.now now_is was.state.count was.state.pages one.keeps;
              count = was.state.count;
              committed = was.state.committed;
              same = λ u within is. unit_elsewhere was.state.now unit u shape (unmerged ended set u is)
                  ∙ was.state.same u within (sym (merged_others turns ended unit Merged turns.fault set u
                  (unmerged ended set u is)) ∙ is);
              bytes = λ u within is s.
                  let still = sym (merged_others turns ended unit Merged turns.fault set u (unmerged ended set u is)) ∙ is in
                  ap (λ (c : Contents). c (it.units u).home s) (same_Some y z (sym told_y ∙ told_z))
                  ∙ spared (it.units u).home s (still_used known u within still)
                  ∙ was.state.bytes u within still s;
              merged = λ u within is. elim (cases_eq u unit) [
                | inl at ↦ subst (λ (v : ℕ). IsRepacked t.active v (it.units v) (now_is.units v)) (sym at)
                    (subst (λ (s : Shape). IsRepacked t.active unit (it.units unit) s)
                    (sym (unit_here was.state.now unit shape))
                    (subst (λ (s : Shape). IsRepacked t.active unit s shape) same_unit repacked))
                | inr other ↦ subst (λ (s : Shape). IsRepacked t.active u (it.units u) s)
                    (sym (unit_elsewhere was.state.now unit u shape other))
                    (was.state.merged u within (sym (merged_others turns ended unit Merged turns.fault set u other) ∙ is))
              ];
              stuck = λ u within is. was.state.stuck u within
                  (sym (stuck_others turns ended unit Merged turns.fault set u (unstuck_here ended set u is)) ∙ is);
              noted = λ u within is.
                  let (v, below, stuck_one, wrong) = was.state.noted u within
                  (sym (stuck_others turns ended unit Merged turns.fault set u (unstuck_here ended set u is)) ∙ is) in (
                    v,
                    below,
                    stuck_others turns ended unit Merged turns.fault set v (λ at. false≢true
                        (sym free ∙ ap (is_stuck turns) (sym at) ∙ stuck_one)) ∙ stuck_one,
                    wrong ∙ ap Some (sym set.fault_is),
                  );
            };
            keeps = keeps_still Of was.state.now now_is kept was.keeps refl
                (λ u of. unit_elsewhere was.state.now unit u shape (apart u of));
            order = elim was.order [
              | inr stuck ↦ inr stuck
              | inl first ↦ elim when [
                | inr stuck ↦ inr stuck
                | inl at ↦ inl (first_merged ended set full shape repacked first at)
              ]
            ];
          }
        where
          unmerged : (ended : Turns) → IsSet turns ended unit Merged turns.fault → (u : ℕ)
              → is_merged ended u ≡ false → u ≢ unit
          unmerged ended set u is at =
              let no_way : false ≡ true = sym is ∙ ap (is_merged ended) at ∙ ap merges set.here in
              false≢true no_way

          unstuck_here : (ended : Turns) → IsSet turns ended unit Merged turns.fault → (u : ℕ)
              → is_stuck ended u ≡ true → u ≢ unit
          unstuck_here ended set u is at =
              let no_way : false ≡ true = sym (ap (is_stuck ended) at ∙ ap sticks set.here) ∙ is in
              false≢true no_way

          first_merged : (ended : Turns) → IsSet turns ended unit Merged turns.fault
              → fits t.status (it.units unit).log kept ≡ false
              → (shape : Shape) → IsRepacked t.active unit (was.state.now.units unit) shape
              → IsFirst n it t turns kept was.state.now → n ≡ unit
              → IsFirst (n + 1) it t ended kept (with_unit was.state.now unit shape)
          first_merged ended set full shape repacked first at =
              let here : has_room t.status it unit ≡ false = no_room full first at in
              let at_n : has_room t.status it n ≡ false =
              ap (λ (v : ℕ). has_room t.status it v) at ∙ here in
              record {
                passed = record {
                  count = first.passed.count;
                  same = λ u within either. unit_elsewhere was.state.now unit u shape (λ same. elim either [
                    | inl behind ↦ omega (arith, behind, same, at)
                    | inr room ↦ false≢true (sym here
                        ∙ ap (λ (v : ℕ). has_room t.status it v) (sym same) ∙ room)
                  ]) ∙ first.passed.same u within (elim either [
                    | inl behind ↦ inl (omega (arith, behind))
                    | inr fits_it ↦ inr fits_it
                  ]);
                  merged = λ u before none. elim (cases_eq u unit) [
                    | inl same ↦ subst (λ (v : ℕ). IsRepacked t.active v (it.units v)
                        ((with_unit was.state.now unit shape).units v)) (sym same)
                        (subst (λ (s : Shape). IsRepacked t.active unit (it.units unit) s)
                        (sym (unit_here was.state.now unit shape))
                        (subst (λ (s : Shape). IsRepacked t.active unit s shape) same_unit repacked))
                    | inr other ↦ subst (λ (s : Shape). IsRepacked t.active u (it.units u) s)
                        (sym (unit_elsewhere was.state.now unit u shape other))
                        (first.passed.merged u (omega (arith, before, other, at)) none)
                  ];
                };
                kept_is = first.kept_is ∙ sym (kept_stays t.status it n at_n);
                idle = λ u within behind. set.others u (λ same. omega (arith, behind, same, at))
                    ∙ first.idle u within (omega (arith, behind));
                unstuck = λ u within. elim (cases_eq u unit) [
                  | inl same ↦ ap (is_stuck ended) same ∙ ap sticks set.here
                  | inr other ↦ stuck_others turns ended unit Merged turns.fault set u other ∙ first.unstuck u within
                ];
              }

      -- what is wrong with it now was so at first
      fault_is : merge_fault was.state.contents after (was.state.now.units unit) unit
          ≡ merge_fault x t (it.units unit) unit
      fault_is =
          ap (λ (s : Shape). merge_fault was.state.contents after s unit) same_unit
          ∙ ap₂ (λ (a numbers : List ℕ). if nat_le (carried_count (among a) (it.units unit).log) 12
          then pages_fault was.state.contents
          (record (source_of t (it.units unit) unit) { committed = among numbers })
          else Some (Malformed (it.units unit).home 0)) was.state.active
          (ap (λ (s : StatusTable). s.numbers) was.state.status)
          ∙ faults_are_of_the_place x was.state.contents t (it.units unit) unit
          (was.state.bytes unit low idle)

      -- it can't be merged, since this is wrong with it, and a pass begins anew
      pub passing_stuck : (e : ChipFault) (ended : Turns) (new : Told) (last : Tables)
          → IsSet turns ended unit Stuck e → new.places ≡ places
          → last.active ≡ t.active → last.status ≡ t.status → KnowsPlaces places after
          → merge_fault was.state.contents after (was.state.now.units unit) unit ≡ Some e
          → Charts (StaysMirrored places after last) told new → SparesUsed after.places told new
          → Begins places x it t ended new last
      unfolding same_unit
      passing_stuck e ended new last set sized active status known wrong stays spares =
          let (y, told_y, still) = stays was.state.contents was.state.told in
          let (z, told_z, spared) = spares was.state.contents was.state.told in
          let (mirrors, pages) = still was.state.now was.state.mirrors in
          let at_first : merge_fault x t (it.units unit) unit ≡ Some e = sym fault_is ∙ wrong in
          record {
            state = record {
              sized = sized;
              contents = y;
              told = told_y;
              now = was.state.now;
              mirrors = mirrors;
              active = active;
              status = status;
              pages = pages_then places (chart_of x) (chart_of was.state.contents) (chart_of y) it
                  was.state.now was.state.now was.state.count was.state.pages pages;
              count = was.state.count;
              committed = was.state.committed;
              same = λ u within is. was.state.same u within (sym (as_before e ended set u) ∙ is);
              bytes = λ u within is s.
                  let before = sym (as_before e ended set u) ∙ is in
                  ap (λ (c : Contents). c (it.units u).home s) (same_Some y z (sym told_y ∙ told_z))
                  ∙ spared (it.units u).home s (still_used known u within before)
                  ∙ was.state.bytes u within before s;
              merged = λ u within is. was.state.merged u within (sym (as_before e ended set u) ∙ is);
              stuck = λ u within is. elim (cases_eq u unit) [
                | inl at ↦ subst (HasFault x it t) (sym at) (e, at_first)
                | inr other ↦ was.state.stuck u within
                    (sym (stuck_others turns ended unit Stuck e set u other) ∙ is)
              ];
              noted = λ u within is.
                  (unit, low, ap sticks set.here, at_first ∙ ap Some (sym set.fault_is));
            };
            keeps = λ tid. (
              λ has. absurd (let within = has.1 in omega (arith, within)),
              λ (is, (u, of, logged)). absurd (let none = of.0 in omega (arith, none)),
            );
            order = inr (unit, low, (x, refl, (e, at_first)));
          }
        where
          as_before : (e : ChipFault) (ended : Turns) → IsSet turns ended unit Stuck e → (u : ℕ)
              → is_merged ended u ≡ is_merged turns u
          as_before e ended set u = elim (cases_eq u unit) [
            | inl at ↦ ap (is_merged ended) at ∙ ap merges set.here ∙ sym idle ∙ ap (is_merged turns) (sym at)
            | inr other ↦ merged_others turns ended unit Stuck e set u other
          ]

  -- ---- a pass

  -- it begins
  pub begins : (turns : Turns) (told : Told) → told.places ≡ places → told.contents ≡ Some x
      → Mirrors places (chart_of x) it t → ((u : ℕ) → turn_of turns u ≡ Open)
      → Begins places x it t turns told t
  unfolding kept_below
  begins turns told sized is mirrors idle = record {
    state = record {
      sized = sized;
      contents = x;
      told = is;
      now = it;
      mirrors = mirrors;
      active = refl;
      status = refl;
      pages = record {
        shown = λ u page now low few shows. shows;
        no_more = λ u page base low few reads. (base, reads);
      };
      count = refl;
      committed = refl;
      same = λ u low none. refl;
      bytes = λ u low none s. refl;
      merged = λ u low is. absurd (false≢true (sym (ap merges (idle u)) ∙ is));
      stuck = λ u low is. absurd (false≢true (sym (ap sticks (idle u)) ∙ is));
      noted = λ u low is. absurd (false≢true (sym (ap sticks (idle u)) ∙ is));
    };
    keeps = nothing_kept it turns;
    order = inl (record {
      passed = record {
        count = refl;
        same = λ u low either. refl;
        merged = λ u low full. absurd (omega (arith, low));
      };
      kept_is = refl;
      idle = λ u low behind. idle u;
      unstuck = λ u low. ap sticks (idle u);
    });
  }
    where
      nothing_kept : (l : Layout) (turns : Turns) → KeepsOf (IsStuckBelow turns 0) l []
      nothing_kept l turns tid = (
        λ has. absurd (let within = has.1 in omega (arith, within)),
        λ (is, (u, of, logged)). absurd (let none = of.0 in omega (arith, none)),
      )
