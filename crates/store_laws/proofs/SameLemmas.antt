-- The same records, numbers and frames in other words; and all frames after a change of one, or of each.
use Rattle.std.proofs.Common.{Bool, List, None, Option, Some, [], ap, ap₂, eqb, inl, inr, refl, subst, sym, ℕ, ◌++◌, ◌<◌, ◌∙◌, ◌≡◌, arith}
use Rattle.std.specs.Option.{option_map_or}
use Rattle.std.proofs.lemmas.Bool.{and_from, and_left, and_right, cases_eq, cond-false, cond-true, eq-eqb, ne_eqb}
use Rattle.std.proofs.lemmas.Option.{same_Some}
use Rattle.ipl_meaning.proofs.RoomLemmas.{same_sizes}
use Rattle.ipl_model.specs.State.{State}
use Rattle.ipl_format.specs.Record.{Record}
use Rattle.ipl_meaning.specs.Chart.{Chart}
use Rattle.ipl_meaning.specs.Last.{last_that}
use Rattle.ipl_meaning.specs.Layout.{Layout, records_of}
use Rattle.ipl_meaning.specs.Tables.{Tables}
use Rattle.ipl_meaning.specs.Values.{Values, counts_for}
use Rattle.page_ops.specs.Pending.{Pending, Pendings}
use Rattle.store_laws.specs.Pending.{Logs, SessionNumbers, with_records, HasPending}
use Rattle.store_laws.specs.PendingLaws.{AreActive}
use Rattle.store_laws.specs.Frames.{pending_of, PageFrame, Frames, logs_of, with_frame_at, IsFrameOf, AreFramesOf, ChangesSo, EachFrameChanges}
use Rattle.store_laws.specs.Fits.{is_active}
use Rattle.store_laws.proofs.MemoryLemmas.{records_here, records_other, cases_page}
use Rattle.store_laws.proofs.ActiveLemmas.{active_same}

-- ---- records and numbers

pub pending_with_logs : (units : ℕ) (it : Layout) (logs later : Logs) (numbers : SessionNumbers) (state : State)
    → ((u page : ℕ) → logs u page ≡ later u page) → HasPending units it logs numbers state
    → HasPending units it later numbers state
pending_with_logs units it logs later numbers state same has =
    subst (λ (l : Logs). HasPending units it l numbers state) (λ i u page. same u page i) has

pub pending_with_numbers : (units : ℕ) (it : Layout) (logs : Logs) (numbers later : SessionNumbers) (state : State)
    → later ≡ numbers → HasPending units it logs numbers state → HasPending units it logs later state
pending_with_numbers units it logs numbers later state same has =
    subst (λ (l : SessionNumbers). HasPending units it logs l state) (sym same) has

pub active_with_numbers : (numbers later : SessionNumbers) (active : ℕ → Bool) → later ≡ numbers → AreActive numbers active
    → AreActive later active
active_with_numbers numbers later active same tells = subst (λ (l : SessionNumbers). AreActive l active) (sym same) tells

-- ---- one frame

-- with the same records in memory
pub frame_as : (c : Chart) (it : Layout) (logs later : Logs) (active : ℕ → Bool) (u page : ℕ)
    (values after : Values) (pending next : Pendings) → logs u page ≡ later u page
    → ((slot : ℕ) → slot < 64 → after slot ≡ values slot) → ((slot : ℕ) → slot < 64 → next slot ≡ pending slot)
    → IsFrameOf c it logs active u page values pending → IsFrameOf c it later active u page after next
frame_as c it logs later active u page values after pending next same to_values to_pending framed = record {
  shows = record {
    base = framed.shows.base;
    reads = framed.shows.reads;
    says = λ slot less. to_values slot less ∙ framed.shows.says slot less;
    room = let was = framed.shows.room in omega (arith, was, same_sizes after values to_values);
  };
  changes = λ slot less.
      let last : List Record → Option Pending = λ l.
      pending_of (last_that (counts_for active page slot) (records_of (it.units u).log ++ l) None) in
      to_pending slot less ∙ framed.changes slot less ∙ ap last same;
}

-- the frame is of the page, which is one of the chip's
abbrev pub IsPlaced : ℕ → Chart → Layout → Logs → (ℕ → Bool) → ℕ → ℕ → PageFrame → Type 0
IsPlaced units c it logs active u page f =
    (u < units) × (page < 15) × IsFrameOf c it logs active u page f.values f.pending

pub placed : (units : ℕ) (c : Chart) (it : Layout) (active : ℕ → Bool) (frames : Frames)
    → AreFramesOf units c it active frames → (u page : ℕ) (f : PageFrame) → frames u page ≡ Some f
    → IsPlaced units c it (logs_of frames) active u page f
placed units c it active frames framed u page f is =
    let (low, few) = framed.within u page f is in (low, few, framed.each u page f is)

-- ---- the frames after a change of one

pub frame_here : (frames : Frames) (u page : ℕ) (o : Option PageFrame) (v q : ℕ) → v ≡ u → q ≡ page
    → with_frame_at frames u page o v q ≡ o
frame_here frames u page o v q same also =
    cond-true _ o (frames v q) (and_from _ _ (eq-eqb v u same) (eq-eqb q page also))

pub frame_other : (frames : Frames) (u page : ℕ) (o : Option PageFrame) (v q : ℕ) → (v ≡ u → q ≡ page → ⊥)
    → with_frame_at frames u page o v q ≡ frames v q
frame_other frames u page o v q apart = elim (cases_eq v u) [
  | inl same ↦ cond-false _ o (frames v q) (and_right (eqb v u) (eqb q page) (ne_eqb q page (apart same)))
  | inr other ↦ cond-false _ o (frames v q) (and_left (eqb v u) (eqb q page) (ne_eqb v u other))
]

abbrev pub log_in : Option PageFrame → List Record
log_in o = option_map_or (λ f. f.log) o []

-- the records in memory are those of the frames still
pub logs_with : (frames : Frames) (u page : ℕ) (o : Option PageFrame) (v q : ℕ)
    → with_records (logs_of frames) u page (log_in o) v q ≡ logs_of (with_frame_at frames u page o) v q
logs_with frames u page o v q = elim (cases_page u page v q) [
  | inl (same, also) ↦
      records_here (logs_of frames) u page (log_in o) v q same also
      ∙ sym (ap log_in (frame_here frames u page o v q same also))
  | inr apart ↦
      records_other (logs_of frames) u page (log_in o) v q apart
      ∙ sym (ap log_in (frame_other frames u page o v q apart))
]

pub logs_unchanged : (frames : Frames) (u page : ℕ) (o : Option PageFrame) → log_in o ≡ log_in (frames u page)
    → (v q : ℕ) → logs_of frames v q ≡ logs_of (with_frame_at frames u page o) v q
logs_unchanged frames u page o same v q = elim (cases_page u page v q) [
  | inl (here, also) ↦
      ap₂ (λ (a b : ℕ). logs_of frames a b) here also ∙ sym same
      ∙ sym (ap log_in (frame_here frames u page o v q here also))
  | inr apart ↦ sym (ap log_in (frame_other frames u page o v q apart))
]

-- each is of its page, where this one is, and the others are
pub frames_with : (units : ℕ) (c : Chart) (it : Layout) (active : ℕ → Bool) (frames : Frames) (u page : ℕ)
    (o : Option PageFrame)
    → ((f : PageFrame) → o ≡ Some f → IsPlaced units c it (logs_of (with_frame_at frames u page o)) active u page f)
    → ((v q : ℕ) (f : PageFrame) → (v ≡ u → q ≡ page → ⊥) → frames v q ≡ Some f
    → IsPlaced units c it (logs_of (with_frame_at frames u page o)) active v q f)
    → AreFramesOf units c it active (with_frame_at frames u page o)
frames_with units c it active frames u page o here others = record {
  within = λ v q f is. let all = each v q f is in (all.0, all.1);
  each = λ v q f is. let all = each v q f is in all.2;
}
  where
    at_page : (v q : ℕ) (f : PageFrame) → u ≡ v → page ≡ q → o ≡ Some f
        → IsPlaced units c it (logs_of (with_frame_at frames u page o)) active v q f
    at_page v q f same also is =
        let later = logs_of (with_frame_at frames u page o) in
        subst (λ (a : ℕ). IsPlaced units c it later active a q f) same
        (subst (λ (b : ℕ). IsPlaced units c it later active u b f) also (here f is))

    each : (v q : ℕ) (f : PageFrame) → with_frame_at frames u page o v q ≡ Some f
        → IsPlaced units c it (logs_of (with_frame_at frames u page o)) active v q f
    each v q f is = elim (cases_page u page v q) [
      | inl (same, also) ↦ at_page v q f (sym same) (sym also) (sym (frame_here frames u page o v q same also) ∙ is)
      | inr apart ↦ others v q f apart (sym (frame_other frames u page o v q apart) ∙ is)
    ]

-- the page has a frame then
pub frames_put : (units : ℕ) (c : Chart) (it : Layout) (active : ℕ → Bool) (frames : Frames) (u page : ℕ) (g : PageFrame)
    → IsPlaced units c it (logs_of (with_frame_at frames u page (Some g))) active u page g
    → ((v q : ℕ) (f : PageFrame) → (v ≡ u → q ≡ page → ⊥) → frames v q ≡ Some f
    → IsPlaced units c it (logs_of (with_frame_at frames u page (Some g))) active v q f)
    → AreFramesOf units c it active (with_frame_at frames u page (Some g))
frames_put units c it active frames u page g here others =
    let later = logs_of (with_frame_at frames u page (Some g)) in
    frames_with units c it active frames u page (Some g)
    (λ f is. subst (IsPlaced units c it later active u page) (same_Some g f is) here) others

-- the others, where nothing but this page changed
pub other_frames : (units : ℕ) (c : Chart) (it : Layout) (active : ℕ → Bool) (frames : Frames) (u page : ℕ)
    (o : Option PageFrame) → AreFramesOf units c it active frames
    → (v q : ℕ) (f : PageFrame) → (v ≡ u → q ≡ page → ⊥) → frames v q ≡ Some f
    → IsPlaced units c it (logs_of (with_frame_at frames u page o)) active v q f
other_frames units c it active frames u page o framed v q f apart is =
    let (low, few, was) = placed units c it active frames framed v q f is in
    let same = sym (ap log_in (frame_other frames u page o v q apart)) in (
      low,
      few,
      frame_as c it (logs_of frames) (logs_of (with_frame_at frames u page o)) active v q f.values f.values
          f.pending f.pending same (λ slot less. refl) (λ slot less. refl) was,
    )

-- ---- the frames after a change of each

pub frames_still : (units : ℕ) (c : Chart) (it : Layout) (t after : Tables) (frames : Frames)
    → after.active ≡ t.active → AreFramesOf units c it (is_active t) frames
    → AreFramesOf units c it (is_active after) frames
frames_still units c it t after frames same framed =
    subst (λ (a : ℕ → Bool). AreFramesOf units c it a frames) (sym (active_same t after same)) framed

-- a frame has one from before
both_some : (R : PageFrame → PageFrame → Type 0) (o : Option PageFrame) (b : PageFrame) → ChangesSo R o (Some b)
    → (a : PageFrame) × (o ≡ Some a) × R a b
both_some R None b is = absurd is
both_some R (Some a) b is = (a, refl, is)

pub both_logs : (R : PageFrame → PageFrame → Type 0) (f : List Record → List Record) → f [] ≡ []
    → ((a b : PageFrame) → R a b → b.log ≡ f a.log) → (o p : Option PageFrame) → ChangesSo R o p → f (log_in o) ≡ log_in p
both_logs R f nothing each None None is = nothing
both_logs R f nothing each None (Some b) is = absurd is
both_logs R f nothing each (Some a) None is = absurd is
both_logs R f nothing each (Some a) (Some b) is = sym (each a b is)

pub frames_all : (units : ℕ) (c y : Chart) (it new : Layout) (active later : ℕ → Bool) (frames after : Frames)
    (R : PageFrame → PageFrame → Type 0) → AreFramesOf units c it active frames → EachFrameChanges R frames after
    → ((u page : ℕ) (a b : PageFrame) → IsPlaced units c it (logs_of frames) active u page a → R a b
    → IsFrameOf y new (logs_of after) later u page b.values b.pending)
    → AreFramesOf units y new later after
frames_all units c y it new active later frames after R framed all step = record {
  within = λ u page b is. let (a, was, _) = from u page b is in framed.within u page a was;
  each = λ u page b is.
      let (a, was, changed) = from u page b is in
      step u page a b (placed units c it active frames framed u page a was) changed;
}
  where
    from : (u page : ℕ) (b : PageFrame) → after u page ≡ Some b → (a : PageFrame) × (frames u page ≡ Some a) × R a b
    from u page b is = both_some R (frames u page) b (subst (ChangesSo R (frames u page)) is (all u page))
