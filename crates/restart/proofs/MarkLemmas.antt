-- What the mark of a clean close leaves.
use Rattle.std.proofs.Common.{◌≡◌, ◌<◌, ◌≤◌, ◌+◌, ◌↔◌, ℕ, List, [], ◌∷◌, length, None, Some, Result, Ok, Err, OnOk, IfErr, is_ok, refl, sym, ◌∙◌, ap, subst, arith}
use Rattle.std.proofs.lemmas.Bool.{lt-ltb, ltb-true, ne_eqb}
use Rattle.chip_trait.specs.declared.event.Event.TheVariants.{Program}
use Rattle.chip_trait.specs.Story.{held}
use Rattle.chip_trait.specs.Chart.{with_sector}
use Rattle.chip_trait.specs.Told.{History, Told}
use Rattle.chip_trait.proofs.ClosedLemmas.{held_program}
use Rattle.ipl_base.specs.declared.fault.ChipFault.{ChipFault}
use Rattle.ipl_format.specs.Sector.{Sector, sector_in}
use Rattle.ipl_format.specs.Mark.{SpellsMark, has_unit}
use Rattle.ipl_format.proofs.SectorLemmas.{blank_says_nothing}
use Rattle.ipl_meaning.specs.Legible.{Legible}
use Rattle.ipl_meaning.specs.Agrees.{Agrees}
use Rattle.ipl_meaning.specs.Chart.{chart_of}
use Rattle.ipl_meaning.specs.Layout.{Shape, Layout, Laid}
use Rattle.ipl_meaning.specs.Marks.{IsMarked}
use Rattle.ipl_meaning.specs.MarkLaws.{MarksWhatIsKnown}
use Rattle.ipl_meaning.specs.Rests.{now, EachStands}
use Rattle.ipl_meaning.specs.Steps.{MayMark}
use Rattle.ipl_meaning.specs.Tables.{StatusTable, Tables, IsCountedClean}
use Rattle.ipl_meaning.proofs.ApartLemmas.{home_not_status}
use Rattle.ipl_meaning.proofs.CloseLemmas.{bare_is_counted, closes_mark_what_is_clean}
use Rattle.ipl_meaning.proofs.MarkLemmas.{marks_wait}
use Rattle.ipl_meaning.proofs.MirrorLemmas.{marks_may_go}
use Rattle.ipl_meaning.proofs.OnceLemmas.{laid_once}
use Rattle.unit_directory.specs.Directory.{is_known}
use Rattle.unit_io.specs.Costs.{Spends}
use Rattle.unit_io.specs.Leads.{IsStopped, IsSectorAdded, RestsAdded}
use Rattle.unit_io.specs.Spots.{AddsSector, Programs, IsSpot}
use Rattle.unit_io.proofs.CostLemmas.{spends_weaker}
use Rattle.unit_io.specs.Steps.{Settled, NoOtherEnd, EndsWith, TidyWork}
use Rattle.unit_io.proofs.StepLemmas.{outcome_weaker}
use Rattle.unit_io.proofs.StepTidyLemmas.{tidy_programs}
use Rattle.txn_status.specs.Marking.{mark_sector, IsReadyToMark, MarksInSteps}
use Rattle.txn_status.specs.Status.{after_mark}
use Rattle.selective_merge.specs.Known.{KnowsPlaces}
use Rattle.restart.specs.Closing.{MarksWhatCounts, MarksUnits, RestsMarked, EndsWithMark, ClosesClosed}
use Rattle.restart.proofs.LayoutLemmas.{layout_says}
use Rattle.restart.proofs.CloseCleanLemmas.{with_status, mark_shrinks, spot_counted, counted_at_home}

-- the payload has exactly the units of which something is known
abbrev pub HasWhatIsKnown : Tables → List ℕ → Type 0
HasWhatIsKnown t payload = (u : ℕ) → u < length t.places.current → has_unit payload u ≡ is_known t.places u

known_is_marked : (t : Tables) (payload : List ℕ) → HasWhatIsKnown t payload
    → MarksWhatIsKnown t (mark_sector t.status.generation t.next payload)
known_is_marked t payload has u low = (
  λ is. ltb-true _ _ (sym (has u low) ∙ is),
  λ known. has u low ∙ lt-ltb _ _ known,
)

-- the mark that is written then
abbrev pub mark_of : Tables → List ℕ → Sector
mark_of t payload = mark_sector t.status.generation t.next payload

module _ (places : ℕ) (m : Legible) (h : History) (it : Layout) (t : Tables) (payload : List ℕ)
    (least : 1 ≤ t.status.first) (room : t.status.first < 256) (agrees : Agrees places h it t)
    (spelled : SpellsMark (length t.places.current) payload) (has : HasWhatIsKnown t payload) where
  may_mark : MayMark (now h) it t.status.first (mark_of t payload)
  may_mark = marks_may_go places (now h) it t (mark_of t payload) agrees.mirrors least room refl refl spelled

  -- what counts is marked, and no more
  added_marks : (k : History) (next : ℕ) → IsSectorAdded t.status.place t.status.first (mark_of t payload) h k
      → MarksWhatCounts places (with_status t (after_mark t.status) next) (held k.start k.story)
  added_marks k next added u n low =
      let after = with_status t (after_mark t.status) next in
      let mark = mark_of t payload in
      let within : u < it.count = omega (arith, low, agrees.mirrors.directory.units) in
      let home = (it.units u).home in
      let there = subst (λ (p : ℕ). IsSectorAdded p t.status.first mark h k) agrees.mirrors.status.place added in
      let marks = closes_mark_what_is_clean places h it t t.status.first there.bytes mark agrees may_mark (omega arith)
      (known_is_marked t payload has) there.spelled u n within in
      let same = counted_at_home places h it t (t.status.first + 1) next u n agrees.mirrors within in
      subst (λ (p : ℕ). IsMarked places (held k.start k.story) p n ↔ IsCountedClean after p n)
      (sym (agrees.mirrors.directory.current u within))
      (subst (λ (j : History). IsMarked places (held j.start j.story) home n ↔ IsCountedClean after home n) (sym there.is)
      (λ is. same.0 (marks.0 is), λ counted. marks.1 (same.1 counted)))

  -- and where something is known of a unit, what holds FF is
  blanks_marked : (status : StatusTable) (next : ℕ) (bytes : List ℕ) → sector_in bytes ≡ Some (mark_of t payload)
      → MarksUnits places (with_status t status next) (held h.start (Program it.status t.status.first bytes ∷ h.story))
  blanks_marked status next bytes spells other laid u low =
      let s = t.status.first in
      let mark = mark_of t payload in
      let x = held h.start (Program it.status s bytes ∷ h.story) in
      let same : chart_of x ≡ with_sector (now h) it.status s mark =
      held_program sector_in h.start h.story it.status s bytes mark spells in
      let laid_x : Laid places (chart_of x) it = rw same (marks_wait places (now h) it s mark agrees.mirrors.laid may_mark).0 in
      let one = laid_once places (chart_of x) other it laid laid_x in
      let within : u < it.count = omega (arith, low, one.count) in
      let home = (it.units u).home in
      let is : (other.units u).home ≡ home = ap (λ (shape : Shape). shape.home) (one.units u low) in
      let there : (n : ℕ) → x home n ≡ held h.start h.story home n = λ n.
      rw (ne_eqb it.status home (λ at. home_not_status places (now h) it agrees.mirrors.laid u within (sym at))) refl in record {
        low = omega (arith, within, agrees.mirrors.directory.units);
        current = agrees.mirrors.directory.current u within ∙ sym is;
        blanks = λ known n least most blank_there.
            let none : now h home n ≡ None =
            ap sector_in (sym (there n) ∙ ap (λ (p : ℕ). x p n) (sym is) ∙ blank_there) ∙ blank_says_nothing in
            subst (λ (p : ℕ). IsMarked places x p n) (sym is)
            ((closes_mark_what_is_clean places h it t s bytes mark agrees may_mark (omega arith)
            (known_is_marked t payload has) spells u n within).1
            (bare_is_counted places (now h) it t agrees.mirrors u n within known least most none));
      }

  added_units : (k : History) (status : StatusTable) (next : ℕ) → IsSectorAdded t.status.place t.status.first (mark_of t payload) h k
      → MarksUnits places (with_status t status next) (held k.start k.story)
  added_units k status next added =
      let there = subst (λ (p : ℕ). IsSectorAdded p t.status.first (mark_of t payload) h k) agrees.mirrors.status.place added in
      subst (λ (j : History). MarksUnits places (with_status t status next) (held j.start j.story)) (sym there.is)
      (blanks_marked status next there.bytes there.spelled)

  -- the story rests on the map, and exactly that is marked
  rests_marked : (status : StatusTable) (next : ℕ) (r : Result (Unit {0}) ChipFault) → OnOk r (status ≡ after_mark t.status)
      → (k : History)
      → EndsWith r (λ done k. RestsAdded places m t.status.place t.status.first (mark_of t payload) h k) NoOtherEnd k
      → EndsWith r (λ v k. RestsMarked places m (with_status t status next) k) NoOtherEnd k
  rests_marked status next (Ok v) is k end = record {
    rests = end.rests;
    marks = subst (λ (w : StatusTable). MarksWhatCounts places (with_status t w next) (held k.start k.story)) (sym is)
        (added_marks k next end.added);
    units = added_units k status next end.added;
  }
  rests_marked status next (Err e) is k end = end

-- a mark of what is known, where nothing is open
pub mark_closes : (places : ℕ) (t : Tables) (status : StatusTable) (next : ℕ) (payload : List ℕ)
    (result : Result (Unit {0}) ChipFault) (old new : Told)
    → KnowsPlaces places t → 1 ≤ t.status.first → t.status.first < 256
    → SpellsMark (length t.places.current) payload → HasWhatIsKnown t payload
    → OnOk result (status ≡ after_mark t.status) → IfErr result (λ fault. IsStopped fault old new)
    → MarksInSteps places t.status t.next payload result old new
    → ClosesClosed places t (with_status t status next) old result new
mark_closes places t status next payload result old new known least room spelled has marked stopped marks m it h steady
    rests closed agrees =
    let place = t.status.place in
    let first = t.status.first in
    let after = with_status t status next in
    let Settles = Settled result old new in
    let ready : IsReadyToMark places h it t m (mark_of t payload) = record {
      rests = rests;
      closed = closed;
      agrees = agrees;
      says = layout_says places h it m rests agrees.mirrors.laid;
      spelled = spelled;
      known = known_is_marked t payload has;
    } in
    outcome_weaker (EachStands places m) (EachStands places m) (Programs place (IsSpot first) (is_ok result))
    (TidyWork (IsCountedClean t) (IsCountedClean after) Settles) Settles Settles
    (EndsWith result (λ done k. RestsAdded places m place first (mark_of t payload) h k) NoOtherEnd)
    (EndsWith result (λ v k. RestsMarked places m after k) NoOtherEnd) h old new (λ k each. each)
    (λ a did. tidy_programs place (IsSpot first) (is_ok result) (IsCountedClean t) (IsCountedClean after) Settles a did
    (spot_counted t room) (mark_shrinks places t status next result old new known marked stopped))
    (λ settled. settled)
    (λ settled. rests_marked places m h it t payload least room agrees spelled has status next result marked)
    (marks h it t m steady (record { status_is = refl; next_is = refl }) ready)

-- the last two events are a mark and a barrier
pub mark_ends : {T E : Type 0} (p s : ℕ) (sector : Sector) (result : Result T E) (old new : Told) → sector.kind ≡ 7
    → OnOk result (Spends (AddsSector p s sector) old new) → OnOk result (Spends EndsWithMark old new)
mark_ends p s sector (Ok v) old new kind adds =
    spends_weaker (AddsSector p s sector) EndsWithMark old new
    (λ added is. record {
      place = p;
      number = s;
      bytes = is.bytes;
      mark = sector;
      spelled = is.spelled;
      kind = kind;
      before = [];
      events = is.events;
    }) adds
mark_ends p s sector (Err e) old new kind adds = tt
