-- What the calls for pages leave.
use Rattle.std.proofs.Common.{◌≡◌, ◌≢◌, ◌<◌, ◌≤◌, ◌+◌, ℕ, List, length, true, false, None, Result, Ok, Err, IfErr, IfOk, is_ok, refl, ◌∙◌, ap, subst, arith, slice_index, slice_set}
use Rattle.chip_trait.specs.Lawful.{Clean, age}
use Rattle.chip_trait.specs.Told.{History, Told, Counts, adds_all}
use Rattle.ipl_base.specs.declared.limits.TheConstants.{VERSION}
use Rattle.ipl_base.specs.declared.fault.ChipFault.{ChipFault}
use Rattle.ipl_meaning.specs.Legible.{Legible}
use Rattle.ipl_format.specs.Page.{Slots, IsPage}
use Rattle.ipl_meaning.specs.Chart.{Chart, chart_of}
use Rattle.ipl_meaning.specs.Rests.{now, StoryRests}
use Rattle.unit_io.specs.Charts.{Charts, HasPageSectors}
use Rattle.unit_io.specs.Faults.{HoldsPage}
use Rattle.unit_io.specs.Leads.{IsSteady, KeepsMap, IsStopped}
use Rattle.unit_io.specs.Reads.{OfContents}
use Rattle.unit_io.specs.ReadsAt.{ReadsAt}
use Rattle.unit_io.specs.Spots.{Programs, IsPieceSpot}
use Rattle.unit_io.proofs.SpotLemmas.{programs_none, programs_then, programs_wider}
use Rattle.selective_merge.specs.Moved.{Source, IsRebased, MovesPage, HasMoved, IsAside}
use Rattle.selective_merge.specs.Pages.{IsBaseSpotBelow, IsFew}
use Rattle.selective_merge.specs.Throughout.{KeepsThroughout, ChartsThroughout}
use Rattle.selective_merge.specs.Writing.{MovesOnePage}
use Rattle.selective_merge.proofs.MoveLemmas.{moved_none, moved_more, moved_aside, aside_then, aside_none}
use Rattle.selective_merge.proofs.ReadLemmas.{reads_program, programs_behind, of_now, so_far_read, keeps_unread}
use Rattle.selective_merge.proofs.ThroughoutLemmas.{SoFar, so_far_none, keeps_written, keeps_then, keeps_failed, told_written}

-- ---- one page

-- what a program of a page says
abbrev pub ProgramsPage : ℕ → ℕ → ℕ → ℕ → ℕ → Slots → Told → Result ℕ ChipFault → Told → Type 0
ProgramsPage places p u g page slots old result new = (m : Legible) (h : History)
    → IsSteady h old → StoryRests places m h → now h p 0 ≡ None
    → ((s : ℕ) → IsPieceSpot page 16 s → age h.story p s ≡ Clean)
    → KeepsMap places m (Programs p (IsPieceSpot page 16)) (λ n. HasPageSectors p u g page slots n)
    h old result new

module _ (places : ℕ) (from : Source) (p g page : ℕ) where
  -- the read failed
  pub page_unread : (e : ChipFault) (old new : Told) → ReadsAt (λ q s. q ≡ from.place) old new
      → MovesOnePage places from p g page old (Err e) new
  page_unread e old new did m h steady rests bare clean =
      keeps_unread (λ q s. q ≡ from.place) places m h old new steady rests did
      (Programs p (IsPieceSpot page 16)) (MovesPage from p g page) (IsAside p) e
      (reads_program (λ q s. q ≡ from.place) p (IsPieceSpot page 16) false old new did)
      (aside_none p)

  module _ (base slots : Slots) (fits : IsPage VERSION slots)
      (rebased : IsRebased from.committed from.records page base slots) (old mid late : Told)
      (did : ReadsAt (λ q s. q ≡ from.place) old mid) (count : ℕ)
      (count_is : count ≡ slice_index from.pieces page) (unit : ℕ) (unit_is : unit ≡ from.unit)
      (held_with : OfContents old (λ x.
      HoldsPage (chart_of x) from.place from.version from.unit from.generation page count base)) where
    abbrev Held : Chart → Type 0
    Held c = HoldsPage c from.place from.version from.unit from.generation page
        (slice_index from.pieces page) base

    held_there : OfContents old (λ x. Held (chart_of x))
    held_there x told = subst (λ (n : ℕ).
        HoldsPage (chart_of x) from.place from.version from.unit from.generation page n base) count_is
        (held_with x told)

    moves : (n : ℕ) (c d y : Chart) → (d ≡ c) × Held c → HasPageSectors p unit g page slots n d y
        → MovesPage from p g page n c y
    moves n c d y is has = record {
      new = slots;
      fits = fits;
      of = record { base = base; held = is.1; applied = rebased };
      has = subst (λ (k : ℕ). HasPageSectors p k g page slots n c y) unit_is
          (subst (λ (z : Chart). HasPageSectors p unit g page slots n z y) is.0 has);
    }

    pub page_moves : (result : Result ℕ ChipFault)
        → ProgramsPage mid.places p unit g page slots mid result late
        → mid.places ≡ places → IfErr result (λ fault. IsStopped fault mid late)
        → MovesOnePage places from p g page old result late
    page_moves result says sized stopped m h steady rests bare clean =
        let At : ℕ → ℕ → Type 0 = λ q s. q ≡ from.place in
        let first = so_far_read At places m h old mid steady rests did p Held
        (of_now (λ x. Held (chart_of x)) h old steady held_there) in
        let k = adds_all first.added h in
        let here : ProgramsPage places p unit g page slots mid result late =
        subst (λ (q : ℕ). ProgramsPage q p unit g page slots mid result late) sized says in
        let second = keeps_written places m k (Programs p (IsPieceSpot page 16))
        (λ n. HasPageSectors p unit g page slots n) (IsAside p) mid late result
        (here m k (first.steady tt) (first.ends tt).0
        (ap (λ (c : Chart). c p 0) (first.ends tt).1.0 ∙ bare)
        (λ s spot. first.does.others h.story p s (λ same none. none) (clean s spot))) stopped in
        keeps_then places m h (Programs p (λ s. ⊥) true) (Programs p (IsPieceSpot page 16))
        (Programs p (IsPieceSpot page 16)) (λ c y. (y ≡ c) × Held c)
        (λ n. HasPageSectors p unit g page slots n) (MovesPage from p g page) (IsAside p) (IsAside p)
        old mid late result first did.counts second
        (λ a b one two. programs_behind p (IsPieceSpot page 16) (is_ok result) b a one two)
        (each result)
        (λ c d e is aside. subst (λ (z : Chart). IsAside p z e) is.0 aside)
      where
        each : (r : Result ℕ ChipFault) → IfOk r (λ n. (c d e : Chart) → (d ≡ c) × Held c
            → HasPageSectors p unit g page slots n d e → MovesPage from p g page n c e)
        each (Ok n) = moves n
        each (Err e) = tt

    pub page_tells : (result : Result ℕ ChipFault)
        → IfOk result (λ n. Charts (HasPageSectors p unit g page slots n) mid late)
        → IfErr result (λ fault. IsStopped fault mid late)
        → ChartsThroughout (MovesPage from p g page) (IsAside p) result old late
    page_tells result tells stopped =
        told_written (MovesPage from p g page) (IsAside p) mid old late result
        (each result tells) stopped
      where
        each : (r : Result ℕ ChipFault)
            → IfOk r (λ n. Charts (HasPageSectors p unit g page slots n) mid late)
            → IfOk r (λ n. Charts (MovesPage from p g page n) old late)
        each (Ok n) tells = λ x told.
            let (y, told_y, has) = tells x (did.contents ∙ told) in
            (y, told_y, moves n (chart_of x) (chart_of x) (chart_of y) (refl, held_there x told) has)
        each (Err e) tells = tt

-- ---- all pages

module _ (places : ℕ) (from : Source) (p g : ℕ) (m : Legible) (h : History) where
  -- after k pages
  abbrev pub MovedSoFar : ℕ → List ℕ → Told → Told → Type 0
  MovedSoFar k pieces old t =
      SoFar places m (Programs p (IsBaseSpotBelow k) true) (HasMoved from p g pieces k) h old t

  pub moved_so_far_none : (pieces : List ℕ) (t : Told) → IsSteady h t → StoryRests places m h
      → MovedSoFar 0 pieces t t
  moved_so_far_none pieces t steady rests =
      so_far_none places m h (Programs p (IsBaseSpotBelow 0) true) (HasMoved from p g pieces 0) t
      steady rests (programs_none p (IsBaseSpotBelow 0) true)
      (moved_none from p g pieces (now h))

  module _ (old : Told) (apart : from.place ≢ p) (bare : now h p 0 ≡ None)
      (clean : (s : ℕ) → IsBaseSpotBelow 15 s → age h.story p s ≡ Clean) (k : ℕ) (low : k < 15)
      (pieces : List ℕ) (mid : Told) (counts : Counts old mid)
      (first : MovedSoFar k pieces old mid) where
    -- one page more
    pub next_page : (F : ℕ → Chart → Chart → Type 0) (new : Told) (result : Result ℕ ChipFault)
        → MovesOnePage places from p g k mid result new
        → IfOk result (λ n. (c d e : Chart) → HasMoved from p g pieces k c d
        → MovesPage from p g k n d e → F n c e)
        → KeepsThroughout places m (Programs p (IsBaseSpotBelow (k + 1))) F (IsAside p)
        h result old new
    next_page F new result says done =
        let j = adds_all first.added h in
        keeps_then places m h (Programs p (IsBaseSpotBelow k) true)
        (Programs p (IsPieceSpot k 16)) (Programs p (IsBaseSpotBelow (k + 1)))
        (HasMoved from p g pieces k) (MovesPage from p g k) F (IsAside p) (IsAside p)
        old mid new result first counts
        (says m j (first.steady tt) (first.ends tt).0
        ((moved_aside from p g pieces k (now h) (now j) (first.ends tt).1).header ∙ bare)
        (λ s spot. first.does.others h.story p s (λ same is. omega (arith, is.1, spot.0))
        (clean s (omega (arith, spot.0), omega (arith, spot.1, low)))))
        (λ a b one two. programs_then p (IsBaseSpotBelow k) (IsPieceSpot k 16)
        (IsBaseSpotBelow (k + 1)) true (is_ok result) b a
        (λ s is spot. omega (arith, is.1, spot.0)) (λ s is. (is.0, omega (arith, is.1)))
        (λ s spot. (omega (arith, spot.0), omega (arith, spot.1))) one two)
        done
        (λ c d e moved aside. aside_then p c d e (moved_aside from p g pieces k c d moved) aside)

    pub moved_so_far_more : (n : ℕ) (new : Told) → k < length pieces → IsFew pieces → n ≤ 16
        → MovesOnePage places from p g k mid (Ok n) new
        → MovedSoFar (k + 1) (slice_set pieces k n) old new
    moved_so_far_more n new room few small says =
        next_page (λ n. HasMoved from p g (slice_set pieces k n) (k + 1)) new (Ok n) says
        (λ c d e moved page. moved_more from p g pieces k n c d e apart room few small moved page)

    pub page_failed : {U : Type 0} (F : U → Chart → Chart → Type 0) (e f : ChipFault) (new : Told) → f ≡ e
        → MovesOnePage places from p g k mid (Err e) new
        → KeepsThroughout {T = U} places m (Programs p (IsBaseSpotBelow 15)) F (IsAside p)
        h (Err f) old new
    page_failed F e f new same says =
        keeps_failed places m h (Programs p (IsBaseSpotBelow (k + 1)))
        (Programs p (IsBaseSpotBelow 15)) (λ (n : ℕ) c y. Unit {0}) F (IsAside p) (IsAside p)
        old new e f same (next_page (λ n c y. Unit {0}) new (Err e) says tt)
        (λ a did. programs_wider p (IsBaseSpotBelow (k + 1)) (IsBaseSpotBelow 15) false false a
        (λ s is. (is.0, omega (arith, is.1, low))) did) (λ c d is. is)
