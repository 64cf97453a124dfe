-- What frames tell, and what each step makes of them.
use Rattle.std.proofs.Common.{List, None, Option, Some, [], ap, false, inl, inr, refl, sym, ℕ, ◌++◌, ◌<◌, ◌∙◌, ◌∷◌, ◌≡◌, ◌≢◌}
use Rattle.std.specs.FinMap.{get}
use Rattle.std.specs.List.{Contains}
use Rattle.std.specs.Option.{option_map_or}
use Rattle.std.proofs.lemmas.Bool.{cases_eq, cond-false, cond-true, eq-eqb, ne_eqb, false_from_ne_true}
use Rattle.std.proofs.lemmas.List.Elements.{All-contains}
use Rattle.std.proofs.lemmas.Option.{none-some, same_Some}
use Rattle.ipl_model.specs.State.{see}
use Rattle.ipl_format.specs.Record.{Change, Record}
use Rattle.ipl_meaning.specs.Last.{is_number, last_that}
use Rattle.ipl_meaning.specs.Layout.{records_of}
use Rattle.ipl_meaning.specs.Stands.{page_in}
use Rattle.ipl_meaning.specs.Steps.{with_unit}
use Rattle.ipl_meaning.specs.Values.{counts_for}
use Rattle.ipl_meaning.proofs.OnceLemmas.{shows_once}
use Rattle.page_ops.specs.Pending.{seen_by, without_pending, with_pending}
use Rattle.store_laws.specs.Pending.{with_records, name_at, records_at, change_in, HasOtherNumber}
use Rattle.store_laws.specs.Frames.{pending_of}
use Rattle.store_laws.specs.FrameLaws.{FramesTell, BeginsKeepFrames, WritesKeepFrames, LogSectorsKeepFrames, MergesKeepFrames, OtherStepsKeepFrames}
use Rattle.store_laws.proofs.ElementLemmas.{all_listed}
use Rattle.store_laws.proofs.LastLemmas.{counted, counts, counts_alike, last_that-none, last_that-agree, last_pushed}
use Rattle.store_laws.proofs.OwnerLemmas.{whose}
use Rattle.store_laws.proofs.CarriedLemmas.{last_carried, merged_or_same}
use Rattle.store_laws.proofs.MemoryLemmas.{records_here}
use Rattle.store_laws.proofs.FollowLemmas.{of_one_at}
use Rattle.store_laws.proofs.LogSectorLemmas.{last_same}
use Rattle.store_laws.proofs.ActiveLemmas.{others_alike}

-- ---- a change in a slot

pub seen_own : (tid : ℕ) (value : Option (List ℕ)) (r : Record) → r.tid ≡ tid
    → seen_by tid value (pending_of (Some r)) ≡ r.change
seen_own tid value r same = cond-true _ r.change value (eq-eqb r.tid tid same)

pub seen_else : (tid : ℕ) (value : Option (List ℕ)) (o : Option Record)
    → ((r : Record) → o ≡ Some r → r.tid ≢ tid) → seen_by tid value (pending_of o) ≡ value
seen_else tid value None other = refl
seen_else tid value (Some r) other = cond-false _ r.change value (ne_eqb r.tid tid (other r refl))

pub drops_own : (tid : ℕ) (r : Record) → r.tid ≡ tid → without_pending tid (pending_of (Some r)) ≡ None
drops_own tid r same = cond-true _ None (pending_of (Some r)) (eq-eqb r.tid tid same)

pub drops_else : (tid : ℕ) (o : Option Record) → ((r : Record) → o ≡ Some r → r.tid ≢ tid)
    → without_pending tid (pending_of o) ≡ pending_of o
drops_else tid None other = refl
drops_else tid (Some r) other = cond-false _ None (pending_of (Some r)) (ne_eqb r.tid tid (other r refl))

-- ---- what a frame tells

pub frames_tell : FramesTell
frames_tell units c it logs numbers state active u page slot values pending has one tells shows low few less framed =
    record { committed = value; seen = seen }
  where
    value : values slot ≡ get state.map (name_at u page slot)
    value =
        shows_once c it.committed it.committed u (it.units u) page values (page_in state.map u page) (λ tid. refl)
        framed.shows shows slot less

    through : Option Change → Option (List ℕ)
    through o = option_map_or (λ change. change) o (get state.map (name_at u page slot))

    seen : (s tid : ℕ) → numbers s ≡ Some tid
        → seen_by tid (values slot) (pending slot) ≡ see state s (name_at u page slot)
    seen s tid mine =
        let records = records_at it logs u page in
        let own = has.last s tid u page slot mine low few less in
        let of_one = of_one_at units it logs numbers state active has one tells u page slot low in
        elim (whose active tid page slot records ((tells tid).1 (s, mine)) of_one) [
          | inl its ↦
              ap (seen_by tid (values slot)) (framed.changes slot less ∙ ap pending_of its.last)
              ∙ seen_own tid (values slot) its.r its.number
              ∙ ap through (sym (ap change_in its.last_own) ∙ own)
          | inr not_its ↦
              let none = last_that-none (counts_for (is_number tid) page slot) records None not_its.none in
              ap (seen_by tid (values slot)) (framed.changes slot less)
              ∙ seen_else tid (values slot) (last_that (counts_for active page slot) records None) not_its.other
              ∙ value
              ∙ ap through (sym (ap change_in none) ∙ own)
        ]

-- ---- sessions that are opened, and that write

pub begins_keep_frames : BeginsKeepFrames
begins_keep_frames units c it logs numbers active rest s tid u page values pending tells after closed nowhere low
    framed =
    record { shows = framed.shows; changes = changes }
  where
    alike : (slot : ℕ) (r : Record) → Contains (records_at it logs u page) r
        → counts_for active page slot r ≡ counts_for rest page slot r
    alike slot r there =
        let other = All-contains (HasOtherNumber tid) (records_at it logs u page) r (nowhere u page low) there in
        counts_alike active rest page slot r (λ _ _.
        others_alike numbers active rest s (Some tid) tells after r.tid
        (λ mine. none-some r.tid (sym closed ∙ mine)) (λ new. other (sym (same_Some tid r.tid new))))

    changes : (slot : ℕ) → slot < 64
        → pending slot ≡ pending_of (last_that (counts_for rest page slot) (records_at it logs u page) None)
    changes slot less =
        framed.changes slot less
        ∙ ap pending_of (last_that-agree (counts_for active page slot) (counts_for rest page slot)
        (records_at it logs u page) None
        (all_listed (λ r. counts_for active page slot r ≡ counts_for rest page slot r) (records_at it logs u page)
        (alike slot)))

pub writes_keep_frames : WritesKeepFrames
writes_keep_frames c it logs numbers active s u r values pending tells mine framed =
    record { shows = framed.shows; changes = changes }
  where
    log_is : with_records logs u r.page (logs u r.page ++ r ∷ []) u r.page ≡ logs u r.page ++ r ∷ []
    log_is = records_here logs u r.page (logs u r.page ++ r ∷ []) u r.page refl refl

    not_there : (slot : ℕ) → r.slot ≢ slot → counts_for active r.page slot r ≡ false
    not_there slot other = false_from_ne_true (counts_for active r.page slot r)
        (λ is. other (counted active r.page slot r is).1)

    changes : (slot : ℕ) → slot < 64 → with_pending pending r.slot (r.tid, r.change) slot
        ≡ pending_of (last_that (counts_for active r.page slot)
        (records_at it (with_records logs u r.page (logs u r.page ++ r ∷ [])) u r.page) None)
    changes slot less =
        let test = counts_for active r.page slot in
        let live = records_of (it.units u).log in
        let before = last_that test (live ++ logs u r.page) None in
        let after = ap (λ (l : List Record). last_that test (live ++ l) None) log_is
        ∙ last_pushed test live (logs u r.page) r in
        elim (cases_eq slot r.slot) [
          | inl here ↦
              let counts_it = counts active r.page slot r refl (sym here) ((tells r.tid).1 (s, mine)) in
              cond-true _ (Some (r.tid, r.change)) (pending slot) (eq-eqb slot r.slot here)
              ∙ sym (ap pending_of (after ∙ cond-true (test r) (Some r) before counts_it))
          | inr other ↦
              let fails = not_there slot (λ is. other (sym is)) in
              cond-false _ (Some (r.tid, r.change)) (pending slot) (ne_eqb slot r.slot other)
              ∙ framed.changes slot less
              ∙ sym (ap pending_of (after ∙ cond-false (test r) (Some r) before fails))
        ]

-- ---- the chip's steps

pub log_sectors_keep_frames : LogSectorsKeepFrames
log_sectors_keep_frames places c y it logs numbers state active u page v q e values pending has its keeps low few
    framed =
    record {
      shows = keeps.shown v q values low few framed.shows;
      changes = λ slot less.
          framed.changes slot less
          ∙ ap pending_of (sym (last_same it.count it logs numbers state u page e has its active v q slot));
    }

pub other_steps_keep_frames : OtherStepsKeepFrames
other_steps_keep_frames places c y it new logs active v q values pending alike keeps low few framed = record {
  shows = keeps.shown v q values low few framed.shows;
  changes = λ slot less.
      framed.changes slot less
      ∙ ap pending_of (sym (last_carried active q slot (it.units v) (new.units v) (logs v q) alike));
}

pub merges_keep_frames : MergesKeepFrames
merges_keep_frames places c y it logs active u v q fresh values pending its =
    other_steps_keep_frames places c y it (with_unit it u fresh) logs active v q values pending
    (merged_or_same active it u v fresh its)
