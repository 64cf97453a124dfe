-- What a close mark leaves, at each moment and in the end.
use Rattle.std.proofs.Common.{◌≡◌, ℕ, ◌<◌, ◌≤◌, List, Some, Result, IfErr, inr, refl, sym, ◌∙◌, ap, subst, arith}
use Rattle.chip_trait.specs.declared.event.Event.TheVariants.{Program}
use Rattle.chip_trait.specs.Chart.{with_sector}
use Rattle.chip_trait.specs.Told.{History, Told, adds}
use Rattle.ipl_base.specs.declared.fault.ChipFault.{ChipFault}
use Rattle.ipl_format.specs.Sector.{Sector, sector_in}
use Rattle.ipl_meaning.specs.Legible.{Legible}
use Rattle.ipl_meaning.specs.Chart.{Chart}
use Rattle.ipl_meaning.specs.Layout.{Layout}
use Rattle.ipl_meaning.specs.Marks.{AreUnused, KeepsMarks}
use Rattle.ipl_meaning.specs.Rests.{now, IsUntouched, EachStands, WornAreIdle}
use Rattle.ipl_meaning.specs.Stands.{StandsBeside}
use Rattle.ipl_meaning.specs.Steps.{MayMark}
use Rattle.ipl_meaning.specs.Tables.{StatusTable, Tables, IsCountedClean}
use Rattle.ipl_meaning.proofs.CloseLemmas.{closes_keep_marks}
use Rattle.ipl_meaning.proofs.MarkLemmas.{marks_wait}
use Rattle.ipl_meaning.proofs.MirrorLemmas.{marks_may_go}
use Rattle.ipl_meaning.proofs.StandsLemmas.{stands_after_marks}
use Rattle.ipl_meaning.proofs.WornLemmas.{worn_by_layout, idle_after_marks}
use Rattle.unit_io.specs.Leads.{IsSteady, IsStopped, LeadsWhere, RestsAdded}
use Rattle.unit_io.specs.Spots.{Programs, IsSpot}
use Rattle.sector_format.specs.declared.sector.Head.{Head}
use Rattle.sector_format.specs.Decode.{sector_of}
use Rattle.sector_format.specs.Written.{written_head}
use Rattle.unit_io.specs.Steps.{NoOtherEnd}
use Rattle.unit_io.proofs.StepLemmas.{outcome_written}
use Rattle.txn_status.specs.Adding.{HasStatus}
use Rattle.txn_status.specs.Marking.{mark_sector, IsReadyToMark, MarksInSteps}
use Rattle.unit_io.specs.Writing.{LeadsMark}

module _ (places : ℕ) (status : StatusTable) (next : ℕ) (payload : List ℕ) (least : 1 ≤ status.first)
    (room : status.first < 256) (h : History) (it : Layout) (t : Tables) (m : Legible)
    (has : HasStatus t status next)
    (ready : IsReadyToMark places h it t m (mark_sector status.generation next payload)) where
  abbrev mark : Sector
  mark = mark_sector status.generation next payload

  abbrev s : ℕ
  s = status.first

  abbrev y : Chart
  y = with_sector (now h) it.status s mark

  first : t.status.first ≡ s
  first = ap (λ (w : StatusTable). w.first) has.status_is

  may_mark : MayMark (now h) it s mark
  may_mark = subst (λ (n : ℕ). MayMark (now h) it n mark) first
      (marks_may_go places (now h) it t mark ready.agrees.mirrors (omega (arith, first, least))
      (omega (arith, first, room)) refl (ap (λ (w : StatusTable). w.generation) (sym has.status_is))
      ready.spelled)

  fresh : IsUntouched h it.status s
  fresh = ready.agrees.tidy it.status s
      (room, inr (inr (sym ready.agrees.mirrors.status.place, omega (arith, first))))

  stands : StandsBeside places (now h) y m
  stands = stands_after_marks places (now h) it m s mark ready.agrees.mirrors.laid ready.says
      may_mark

  worn : WornAreIdle places h.story y
  worn = worn_by_layout places h.story y it
      (marks_wait places (now h) it s mark ready.agrees.mirrors.laid may_mark).0
      (λ q on. idle_after_marks places (now h) it s mark q may_mark
      (ready.rests.worn it ready.agrees.mirrors.laid q on))

  -- what the tables count as clean is unused
  abbrev pub Unused : Type 0
  Unused = AreUnused (IsCountedClean t) h.story

  kept : Unused → (bytes : List ℕ) → sector_in bytes ≡ Some mark
      → KeepsMarks places h (adds (Program it.status s bytes) h)
  kept unused bytes is = closes_keep_marks places m h it t s bytes mark ready.rests ready.closed
      ready.agrees unused may_mark (omega (arith, has.next_is)) ready.known fresh is

  -- the mark keeps the map, at the status place of the layout
  pub mark_keeps : (result : Result (Unit {0}) ChipFault) (old new : Told) → IsSteady h old
      → LeadsMark places it.status s mark old result new
      → LeadsWhere Unused (EachStands places m) (Programs it.status (IsSpot s))
      (λ done k. RestsAdded places m it.status s mark h k) h old result new
  mark_keeps result old new steady leads =
      leads t m h steady ready.rests ready.closed fresh stands worn kept

pub marked_in_steps : (places : ℕ) (status : StatusTable) (next : ℕ) (payload : List ℕ)
    (result : Result (Unit {0}) ChipFault) (old new : Told) → 1 ≤ status.first → status.first < 256
    → LeadsMark places status.place status.first (mark_sector status.generation next payload)
    old result new
    → IfErr result (λ fault. IsStopped fault old new)
    → MarksInSteps places status next payload result old new
marked_in_steps places status next payload result old new least room leads stopped h it t m steady
    has ready =
    let s = status.first in
    let mark = mark_sector status.generation next payload in
    let at : status.place ≡ it.status =
    ap (λ (w : StatusTable). w.place) (sym has.status_is) ∙ ready.agrees.mirrors.status.place in
    let keeps = subst (λ (p : ℕ).
    LeadsWhere (AreUnused (IsCountedClean t) h.story) (EachStands places m) (Programs p (IsSpot s))
    (λ done k. RestsAdded places m p s mark h k) h old result new) (sym at)
    (mark_keeps places status next payload least room h it t m has ready result old new steady
    (subst (λ (p : ℕ). LeadsMark places p s mark old result new) at leads)) in
    outcome_written (Unit {0}) (EachStands places m) (Programs status.place (IsSpot s))
    (λ done k. RestsAdded places m status.place s mark h k) NoOtherEnd h old new result keeps
    stopped

-- a mark as it is written
pub same_mark : (head : Head) (payload : List ℕ) (generation serial : ℕ)
    → head ≡ written_head 7 0 generation serial
    → sector_of head payload ≡ mark_sector generation serial payload
same_mark head payload generation serial is = ap (λ (z : Head). sector_of z payload) is
