-- Calls that only read, one after another, and what they leave.
use Rattle.std.proofs.Common.{◌≡◌, ℕ, [], ◌∷◌, ◌++◌, append_assoc, Option, Some, None, Result, Ok, Err, inl, inr, refl, sym, ◌∙◌, ap}
use Rattle.std.specs.Option.{option_map}
use Rattle.std.specs.List.{All}
use Rattle.std.proofs.lemmas.Iterator.Adapters.{option_map_id}
use Rattle.std.proofs.lemmas.List.Elements.{All-nil, All-cons, All-head, All-tail, All-append, All-weaker}
use Rattle.chip_trait.specs.declared.event.Event.{Event}
use Rattle.chip_trait.specs.declared.event.Event.TheVariants.{Read, Program, Erase, Worn, Barrier, Said}
use Rattle.chip_trait.specs.Story.{Story, held}
use Rattle.chip_trait.specs.Told.{History, Told, Counts, adds, adds_all}
use Rattle.ipl_base.specs.declared.fault.ChipFault.{ChipFault}
use Rattle.ipl_meaning.specs.Legible.{Legible}
use Rattle.ipl_meaning.specs.Layout.{Layout}
use Rattle.ipl_meaning.specs.Rests.{now, StoryRests}
use Rattle.ipl_meaning.specs.Tables.{Tables}
use Rattle.ipl_meaning.specs.Agrees.{Agrees}
use Rattle.ipl_meaning.specs.Marks.{KeepsMarks}
use Rattle.ipl_meaning.proofs.StoryLemmas.{reads_keep}
use Rattle.ipl_meaning.proofs.AgreeLemmas.{reads_agree}
use Rattle.ipl_meaning.proofs.MarkStoryLemmas.{idle_events_keep_marks}
use Rattle.chip_trait.proofs.CountsLemmas.{counts_none, counts_then}
use Rattle.unit_io.specs.Leads.{IsSteady}
use Rattle.unit_io.specs.Reads.{Asked}
use Rattle.unit_io.specs.ReadsAt.{IsReadAt, ReadsAt}

pub none_added : (o : Option History) → o ≡ option_map (adds_all []) o
none_added None = refl
none_added (Some h) = refl

pub history_then : (later earlier : Story) (o : Option History) → option_map (adds_all later) (option_map (adds_all earlier) o) ≡ option_map (adds_all (later ++ earlier)) o
history_then later earlier None = refl
history_then later earlier (Some h) = ap Some (twice later earlier h)
  where
    twice : (later earlier : Story) (h : History) → adds_all later (adds_all earlier h) ≡ adds_all (later ++ earlier) h
    twice later earlier h = ap (λ (s : Story). record { start = h.start; story = s }) (sym (append_assoc later earlier h.story))

pub at_none : (At : ℕ → ℕ → Type 0) (t : Told) → ReadsAt At t t
at_none At t = record {
  settled = refl;
  contents = refl;
  added = [];
  each = All-nil (IsReadAt At);
  history = none_added t.history;
  counts = counts_none t;
}

pub at_then : (At : ℕ → ℕ → Type 0) (old mid new : Told) → ReadsAt At old mid → ReadsAt At mid new → ReadsAt At old new
at_then At old mid new first second = record {
  settled = second.settled ∙ first.settled;
  contents = second.contents ∙ first.contents;
  added = second.added ++ first.added;
  each = All-append (IsReadAt At) second.added first.added second.each first.each;
  history = second.history ∙ ap (option_map (adds_all second.added)) first.history ∙ history_then second.added first.added old.history;
  counts = counts_then old mid new first.counts second.counts;
}

still_at : (At More : ℕ → ℕ → Type 0) → ((p s : ℕ) → At p s → More p s) → (e : Event) → IsReadAt At e → IsReadAt More e
still_at At More wider (Read p s) is = wider p s is
still_at At More wider (Program p s bytes) is = is
still_at At More wider (Erase p) is = is
still_at At More wider Barrier is = is
still_at At More wider (Worn q) is = is
still_at At More wider (Said piece) is = is

pub at_wider : (At More : ℕ → ℕ → Type 0) (old new : Told) → ((p s : ℕ) → At p s → More p s) → ReadsAt At old new → ReadsAt More old new
at_wider At More old new wider did = record {
  settled = did.settled;
  contents = did.contents;
  added = did.added;
  each = All-weaker (IsReadAt At) (IsReadAt More) (still_at At More wider) did.added did.each;
  history = did.history;
  counts = did.counts;
}

-- one read, done or not
pub at_asked : {T : Type 0} (At : ℕ → ℕ → Type 0) (p s : ℕ) (result : Result T ChipFault) (old new : Told) → At p s → Asked (Read p s) result old new → Counts old new → ReadsAt At old new
at_asked At p s (Ok v) old new is did counts = record {
  settled = did.settled;
  contents = did.contents ∙ option_map_id old.contents;
  added = Read p s ∷ [];
  each = All-cons (IsReadAt At) (Read p s) [] is (All-nil (IsReadAt At));
  history = did.history;
  counts = counts;
}
at_asked At p s (Err e) old new is did counts = elim did.history [
  | inl some ↦ record {
    settled = did.settled;
    contents = did.contents;
    added = Read p s ∷ [];
    each = All-cons (IsReadAt At) (Read p s) [] is (All-nil (IsReadAt At));
    history = some;
    counts = counts;
  }
  | inr none ↦ record {
    settled = did.settled;
    contents = did.contents;
    added = [];
    each = All-nil (IsReadAt At);
    history = none ∙ none_added old.history;
    counts = counts;
  }
]

-- ---- what such reads leave

-- the chip holds what it held
pub at_held : (At : ℕ → ℕ → Type 0) (h : History) (added : Story) → All (IsReadAt At) added → held h.start (added ++ h.story) ≡ held h.start h.story
at_held At h [] each = refl
at_held At h (e ∷ added) each = go e (All-head (IsReadAt At) e added each) (at_held At h added (All-tail (IsReadAt At) e added each))
  where
    go : (e : Event) → IsReadAt At e → held h.start (added ++ h.story) ≡ held h.start h.story → held h.start (e ∷ added ++ h.story) ≡ held h.start h.story
    go (Read p s) is before = before
    go (Program p s bytes) is before = absurd is
    go (Erase p) is before = absurd is
    go Barrier is before = absurd is
    go (Worn q) is before = absurd is
    go (Said piece) is before = absurd is

-- so it goes on holding what its history leaves
pub at_steady : (At : ℕ → ℕ → Type 0) (old new : Told) (h : History) → (did : ReadsAt At old new) → IsSteady h old → IsSteady (adds_all did.added h) new
at_steady At old new h did steady = record {
  holds = did.contents ∙ steady.holds ∙ ap Some (sym (at_held At h did.added did.each));
  settled = did.settled ∙ steady.settled;
}

pub at_rests : (At : ℕ → ℕ → Type 0) (places : ℕ) (m : Legible) (h : History) (added : Story) → All (IsReadAt At) added → StoryRests places m h → StoryRests places m (adds_all added h)
at_rests At places m h [] each rests = rests
at_rests At places m h (e ∷ added) each rests = go e (All-head (IsReadAt At) e added each) (at_rests At places m h added (All-tail (IsReadAt At) e added each) rests)
  where
    go : (e : Event) → IsReadAt At e → StoryRests places m (adds_all added h) → StoryRests places m (adds e (adds_all added h))
    go (Read p s) is before = reads_keep places m (adds_all added h) p s before
    go (Program p s bytes) is before = absurd is
    go (Erase p) is before = absurd is
    go Barrier is before = absurd is
    go (Worn q) is before = absurd is
    go (Said piece) is before = absurd is

pub at_agrees : (At : ℕ → ℕ → Type 0) (places : ℕ) (h : History) (it : Layout) (t : Tables) (added : Story) → All (IsReadAt At) added → Agrees places h it t → Agrees places (adds_all added h) it t
at_agrees At places h it t [] each agrees = agrees
at_agrees At places h it t (e ∷ added) each agrees = go e (All-head (IsReadAt At) e added each) (at_agrees At places h it t added (All-tail (IsReadAt At) e added each) agrees)
  where
    go : (e : Event) → IsReadAt At e → Agrees places (adds_all added h) it t → Agrees places (adds e (adds_all added h)) it t
    go (Read p s) is before = reads_agree places (adds_all added h) it t p s before
    go (Program p s bytes) is before = absurd is
    go (Erase p) is before = absurd is
    go Barrier is before = absurd is
    go (Worn q) is before = absurd is
    go (Said piece) is before = absurd is

pub at_marks : (At : ℕ → ℕ → Type 0) (places : ℕ) (h : History) (added : Story) → All (IsReadAt At) added → KeepsMarks places h (adds_all added h)
at_marks At places h [] each = λ unused. unused
at_marks At places h (e ∷ added) each = λ unused. go e (All-head (IsReadAt At) e added each) (at_marks At places h added (All-tail (IsReadAt At) e added each) unused)
  where
    go : (e : Event) → IsReadAt At e → KeepsMarks places (adds_all added h) (adds e (adds_all added h))
    go (Read p s) is = (idle_events_keep_marks places (adds_all added h)).0 p s
    go (Program p s bytes) is = absurd is
    go (Erase p) is = absurd is
    go Barrier is = absurd is
    go (Worn q) is = absurd is
    go (Said piece) is = absurd is

pub at_now : (At : ℕ → ℕ → Type 0) (h : History) (added : Story) → All (IsReadAt At) added → now (adds_all added h) ≡ now h
at_now At h [] each = refl
at_now At h (e ∷ added) each = go e (All-head (IsReadAt At) e added each) (at_now At h added (All-tail (IsReadAt At) e added each))
  where
    go : (e : Event) → IsReadAt At e → now (adds_all added h) ≡ now h → now (adds e (adds_all added h)) ≡ now h
    go (Read p s) is before = before
    go (Program p s bytes) is before = absurd is
    go (Erase p) is before = absurd is
    go Barrier is before = absurd is
    go (Worn q) is before = absurd is
    go (Said piece) is before = absurd is
