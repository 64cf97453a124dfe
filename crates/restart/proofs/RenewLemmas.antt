-- All units passed, and a new status place with the numbers that are kept.
use Rattle.std.proofs.Common.{arith, ◌≡◌, ◌≤◌, ◌∙◌, ℕ, Bool, IsTrue, List, length, Result, Ok, Err, OnOk, IfErr, MatchResult, inl, inr, refl, sym, ap, subst}
use Rattle.chip_trait.specs.Told.{Told}
use Rattle.ipl_base.specs.declared.fault.ChipFault.{ChipFault}
use Rattle.ipl_format.specs.Header.{erases_said}
use Rattle.ipl_meaning.specs.Chart.{Chart, chart_of}
use Rattle.ipl_meaning.specs.Layout.{Layout}
use Rattle.ipl_meaning.specs.Steps.{with_status}
use Rattle.ipl_meaning.specs.Tables.{Places, StatusTable, Tables}
use Rattle.number_set.specs.Numbers.{among}
use Rattle.ipl_meaning.proofs.PayloadLemmas.{spelled_status_passes}
use Rattle.ipl_meaning.proofs.StandsLemmas.{pages_then}
use Rattle.place_taking.specs.Homes.{KeepsHomes}
use Rattle.place_taking.specs.Takes.{IsAsideFrom}
use Rattle.place_taking.proofs.HomeLemmas.{homes_same}
use Rattle.unit_directory.proofs.AsideLemmas.{next_places_are_aside}
use Rattle.ipl_base.specs.declared.limits.TheConstants.{LEAST_NUMBERS}
use Rattle.txn_status.proofs.RoomLemmas.{room_clean}
use Rattle.txn_status.specs.Status.{room_of, switched_to, FitStatusPlace}
use Rattle.unit_io.specs.Charts.{Charts}
use Rattle.selective_merge.specs.Throughout.{ChartsThroughout}
use Rattle.selective_merge.proofs.TakenLemmas.{told_not}
use Rattle.restart.specs.Passes.{HasFound, HasRenewed, HasStopped, TellsChart, PassEnds}
use Rattle.restart.specs.Renewed.{with_tables, IsGivenBack, MayRenew, MovesStatus, Renews}
use Rattle.restart.proofs.KeepsLemmas.{kept_numbers_keep, kept_numbers_are_exact}
use Rattle.restart.proofs.ReadyLemmas.{kept_numbers_are_old}
use Rattle.restart.proofs.TidyLemmas.{back_is_same}

module _ (places : ℕ) (c : Chart) (it : Layout) (t : Tables) (kept : List ℕ) (mid : Told)
    (between : Tables) (was : HasFound places c it t kept mid between) where
  -- the numbers may be kept
  pub may_renew : MayRenew was.now between kept
  may_renew = record {
    keeps = kept_numbers_keep was.now kept was.keeps;
    may = kept_numbers_are_old places was.now.count (chart_of was.contents) was.now between kept
        was.mirrors was.keeps;
  }

  module _ (directory : Places) (status : StatusTable) (drawn : ℕ) (new : Told) where
    pub renewed : Charts (Renews places between.places between.status between.next kept directory
        status drawn) mid new
        → TellsChart (HasRenewed places c it t (with_tables between directory status drawn)) new
    renewed renews =
        let (y, told_y, made) = renews was.contents was.told in
        let switched = made was.now between
        (record { places_is = refl; status_is = refl; next_is = refl }) was.mirrors may_renew in (
          y,
          told_y,
          record {
            now = with_status was.now status.place switched.head (among kept);
            mirrors = switched.mirrors;
            pages = pages_then places c (chart_of was.contents) (chart_of y) it was.now _ was.alike.count was.pages (switched.pages may_renew.keeps);
            alike = record { count = was.alike.count; units = λ u low. was.alike.units u low };
            passed = elim was.passed [
              | inr stuck ↦ inr stuck
              | inl first ↦ inl (
                record {
                  count = first.0.count;
                  same = λ u low either. first.0.same u low either;
                  merged = λ u before full. first.0.merged u before full;
                },
                ap among first.1,
              )
            ];
            exact = λ tid.
                let both = kept_numbers_are_exact was.now kept was.keeps tid in (
                  λ is. let (committed, logged) = both.0 is in
                      (subst (λ (f : ℕ → Bool). IsTrue (f tid)) was.committed committed, logged),
                  λ is. both.1
                      (subst (λ (f : ℕ → Bool). IsTrue (f tid)) (sym was.committed) is.0, is.1),
                );
            unmarked = switched.unmarked;
            says = ap erases_said switched.mirrors.laid.chosen.here ∙ switched.is_head.says;
            lists = (
              switched.head,
              switched.mirrors.laid.chosen.here,
              (spelled_status_passes switched.head.version places was.now.count switched.head.payload
                  switched.mirrors.laid.most switched.is_head.counts).2 ∙ switched.is_head.lists,
            );
          },
        )

    -- none was written, and the tables have the places that were found worn, and the number that was
    -- drawn
    unrenewed : IsAsideFrom between.places directory → status ≡ between.status → between.next ≤ drawn
        → Charts (λ d y. y ≡ d) mid new
        → TellsChart (HasStopped places c it t (with_tables between directory status drawn)) new
    unrenewed from still more untouched =
        let after : Tables = with_tables between directory status drawn in
        let (y, told_y, stays) = told_not places between after directory drawn mid new from
        (rw still refl) more untouched was.contents was.told in (
          y,
          told_y,
          record {
            now = was.now;
            mirrors = (stays was.now was.mirrors).0;
            pages = pages_then places c (chart_of was.contents) (chart_of y) it was.now was.now was.alike.count was.pages (stays was.now was.mirrors).1;
            alike = was.alike;
            passed = elim was.passed [
              | inr stuck ↦ inr stuck
              | inl first ↦ inl (it.count, first.0)
            ];
            committed = was.committed;
          },
        )

    -- however the writing of the status place ended
    pub renew_ends : (result : Result (Unit {0}) ChipFault)
        → ChartsThroughout (λ done. Renews places between.places between.status between.next kept
        directory status drawn) (λ d y. y ≡ d) result mid new
        → IfErr result (λ fault. IsGivenBack between.places fault directory × (status ≡ between.status))
        → between.next ≤ drawn
        → PassEnds places c it t result new (with_tables between directory status drawn)
        (TellsChart (HasRenewed places c it t (with_tables between directory status drawn)) new)
    renew_ends (Ok v) renews same more = renewed renews
    renew_ends (Err e) renews same more = λ soft. elim same.0 [
      | inl from ↦ unrenewed from same.1 more (renews soft)
      | inr stopped ↦ absurd (soft stopped.0)
    ]

-- a new status place takes many commit sectors more
pub room_switched : (most place generation : ℕ) (kept : List ℕ) → LEAST_NUMBERS ≤ most → FitStatusPlace most kept
    → 191 ≤ room_of (switched_to most place generation kept)
room_switched most place generation kept least fits =
    omega (arith, room_clean (switched_to most place generation kept) (omega (arith, least, fits.few)), fits.few)

-- as many numbers have room, however its writing ended
pub most_still : (result : Result (Unit {0}) ChipFault) (before after : Places) (old new : StatusTable)
    (next : ℕ) (kept : List ℕ) → OnOk result (MovesStatus before old next kept after new)
    → IfErr result (λ fault. IsGivenBack before fault after × (new ≡ old)) → new.most ≡ old.most
most_still (Ok v) before after old new next kept moved same = ap (λ (s : StatusTable). s.most) moved.status_is
most_still (Err e) before after old new next kept moved same = ap (λ (s : StatusTable). s.most) same.1

-- what the status has, however its writing ended
pub status_ends : (result : Result (Unit {0}) ChipFault) (before after : Places)
    (old between new : StatusTable) → OnOk result (191 ≤ room_of new)
    → IfErr result (λ fault. IsGivenBack before fault after × (new ≡ between)) → between ≡ old
    → MatchResult result (λ _. 191 ≤ room_of new) (λ _. new ≡ old)
status_ends (Ok v) before after old between new room same was = room
status_ends (Err e) before after old between new room same was = same.1 ∙ was

-- and the directory: as many units as before
-- each unit of which nothing is known stays so
pub homes_still : (result : Result (Unit {0}) ChipFault) (before after : Places) (old new : StatusTable)
    (next : ℕ) (kept : List ℕ) → OnOk result (MovesStatus before old next kept after new)
    → IfErr result (λ fault. IsGivenBack before fault after × (new ≡ old))
    → KeepsHomes before after
homes_still (Ok v) before after old new next kept moved same =
    let others = next_places_are_aside before moved.taken.worn moved.taken.in_turn in
    homes_same before after
    (ap (λ (e : Places). e.current) moved.places_is
    ∙ ap (λ (e : Places). e.current) moved.taken.places_is ∙ others.current)
    (ap (λ (e : Places). e.written) moved.places_is
    ∙ ap (λ (e : Places). e.written) moved.taken.places_is ∙ others.written)
homes_still (Err e) before after old new next kept moved same =
    let still = back_is_same before after e same.0 in
    homes_same before after still.0 still.1

pub units_still : (result : Result (Unit {0}) ChipFault) (before after : Places) (old new : StatusTable)
    (next : ℕ) (kept : List ℕ) → OnOk result (MovesStatus before old next kept after new)
    → IfErr result (λ fault. IsGivenBack before fault after × (new ≡ old))
    → length after.current ≡ length before.current
units_still (Ok v) before after old new next kept moved same =
    ap (λ (e : Places). length e.current) moved.places_is
    ∙ ap (λ (e : Places). length e.current) moved.taken.places_is
    ∙ ap (λ (l : List ℕ). length l)
    (next_places_are_aside before moved.taken.worn moved.taken.in_turn).current
units_still (Err e) before after old new next kept moved same =
    ap (λ (l : List ℕ). length l) (back_is_same before after e same.0).0
