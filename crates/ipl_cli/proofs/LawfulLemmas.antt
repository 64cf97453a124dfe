-- What the program adds is lawful, one part after another.
use Rattle.std.proofs.Common.{◌≡◌, ◌++◌, [], ◌∷◌, ℕ, List, Result, Ok, Err, Option, Some, None, Bool, true, false, inl, inr, refl, sym, ◌∙◌, ap, subst, append_assoc}
use Rattle.std.specs.Option.{option_map}
use Rattle.chip_trait.specs.declared.event.Event.TheVariants.{Said}
use Rattle.chip_trait.specs.Lawful.{IsLawful, AreClean}
use Rattle.chip_trait.specs.Story.{Story}
use Rattle.chip_trait.specs.Told.{History, Told, Appends, FailsToSay, adds, adds_all}
use Rattle.chip_trait.proofs.HistoryLemmas.{same_history, history_then}
use Rattle.ipl_base.specs.Places.{units_on}
use Rattle.ipl_base.specs.declared.fault.FormatFault.{FormatFault}
use Rattle.ipl_base.specs.declared.fault.ImageFault.{ImageFault}
use Rattle.ipl_meaning.specs.Marks.{IsMarked}
use Rattle.ipl_meaning.specs.Tables.{Tables, IsCountedClean}
use Rattle.restart.specs.Fresh.{Formats}
use Rattle.restart.specs.Looks.{OnlyReads}
use Rattle.restart.proofs.ReadingLemmas.{reads_lawful}
use Rattle.store_trait.specs.Keeping.{LeavesTidy}
use Rattle.store_trait.specs.Onward.{Still, sayings}
use Rattle.page_frames.specs.Pages.{tables_in}
use Rattle.unit_io.specs.Reads.{OfContents}
use Rattle.ipl_store.specs.Openings.{Tries}
use Rattle.script_store.specs.declared.store.ScriptStore.{ScriptStore}
use Rattle.store_laws.specs.Keeps.{all_pages}
use Rattle.script_store.specs.Keeps.{script_keeping}
use Rattle.command_line.specs.declared.end.End.{End}
use Rattle.command_line.specs.declared.asked.Request.TheVariants.{Format, Run, Serial, Check, Trial, Records}
use Rattle.ipl_cli.specs.Adds.{AddsLawful, AddsLawfulByMark, AddsAsAsked}
use Rattle.ipl_cli.specs.Ending.{AskedFor, but_noted}
use Rattle.ipl_cli.specs.Runs.{StartsOpened, IsNotOpened, StartsFormatted, IsNotStarted, EndsClosed}
use Rattle.ipl_cli.proofs.CloseLemmas.{closed_since}
use Rattle.ipl_cli.proofs.CountLemmas.{counts_clean, counts_as_counted, counted_counts}

-- ---- parts

-- nothing was added
pub adds_nothing : (old new : Told) → new.history ≡ old.history → AddsLawful old new
adds_nothing old new same = record {
  added = [];
  history = same ∙ same_history old.history;
  lawful = λ base is. is;
}

pub adds_then : (old mid new : Told) → AddsLawful old mid → AddsLawful mid new → AddsLawful old new
adds_then old mid new first second = record {
  added = second.added ++ first.added;
  history = second.history ∙ ap (option_map (adds_all second.added)) first.history
      ∙ history_then second.added first.added old.history;
  lawful = λ base is. subst IsLawful (sym (append_assoc second.added first.added base))
      (second.lawful (first.added ++ base) (first.lawful base is));
}

-- reads alone
pub adds_reads : (old new : Told) → OnlyReads old new → AddsLawful old new
adds_reads old new reads = record {
  added = reads.added;
  history = reads.history;
  lawful = λ base is. reads_lawful reads.added base reads.each is;
}

-- ---- what is said

one_added : (piece : List ℕ) (o : Option History)
    → option_map (adds (Said piece)) o ≡ option_map (adds_all (Said piece ∷ [])) o
one_added piece None = refl
one_added piece (Some h) = refl

adds_piece : (piece : List ℕ) (old new : Told)
    → new.history ≡ option_map (adds (Said piece)) old.history → AddsLawful old new
adds_piece piece old new is = record {
  added = Said piece ∷ [];
  history = is ∙ one_added piece old.history;
  lawful = λ base lawful. lawful;
}

pub adds_said : (piece : List ℕ) (old new : Told) → Appends (Said piece) old new → AddsLawful old new
adds_said piece old new did = adds_piece piece old new did.history

pub adds_unsaid : (piece : List ℕ) (old new : Told) → FailsToSay piece old new → AddsLawful old new
adds_unsaid piece old new did = elim did.history [
  | inl some ↦ adds_piece some.0 old new some.2
  | inr none ↦ adds_nothing old new none
]

lawful_sayings : (pieces : List (List ℕ)) (base : Story) → IsLawful base
    → IsLawful (sayings pieces ++ base)
lawful_sayings [] base is = is
lawful_sayings (piece ∷ pieces) base is = lawful_sayings pieces base is

pub adds_sayings : (old new : Told) → Still old new → AddsLawful old new
adds_sayings old new still = record {
  added = sayings still.pieces;
  history = still.history;
  lawful = lawful_sayings still.pieces;
}

-- a note is no event
pub adds_noted : (old mid new : Told) → AddsLawful old mid → new ≡ but_noted mid new.beside.noted
    → AddsLawful old new
adds_noted old mid new did only =
    adds_then old mid new did (adds_nothing mid new (ap (λ (t : Told). t.history) only))

-- ---- a format

-- a history, of which nothing is asked
abbrev some_history : History
some_history = record { start = λ p s. []; story = [] }

pub adds_format : {T : Type 0} (places units : ℕ) (old : Told) (result : Result T FormatFault)
    (new : Told) → ((h : History) → Formats places units h old result new) → AddsLawful old new
adds_format places units old result new formats =
    let did = formats some_history in record {
      added = did.added;
      history = did.history;
      lawful = did.lawful;
    }

-- ---- an opening that looks for no mark

adds_unmarked : (places : ℕ) (old : Told) (result : Result (Unit {0}) ImageFault) (t : Tables)
    (new : Told) → Tries false places old result t new → AddsLawful old new
adds_unmarked places old result t new tries =
    let tidies = tries.tidy.tidies in record {
      added = tidies.added;
      history = tidies.history;
      lawful = λ base is.
          tidies.does.lawful.lawful base is (λ p s counted. absurd (tries.tidy.takes.none refl p s counted));
    }

-- it wasn't started
pub unstarted_adds : (end : End) (old new : Told) → IsNotStarted end old new → AddsLawful old new
unstarted_adds end old new (inl did) = adds_nothing old new (ap (λ (t : Told). t.history) did.1)
unstarted_adds end old new (inr (inl did)) =
    let stops = did.stops some_history in
    adds_noted old stops.stopped new (record {
      added = stops.formats.added;
      history = stops.formats.history;
      lawful = stops.formats.lawful;
    }) stops.noted
unstarted_adds end old new (inr (inr (formatted, formats, numbers, did))) =
    adds_then old formatted new
    (adds_format {T = Unit {0}} old.places (units_on old.places) old (Ok tt) formatted
    formats.formats)
    (adds_unmarked formatted.places formatted (Err did.fault) did.tables new did.tries)

-- a run, after an opening that leaves clean what the store counts so
unmarked_adds : (old mid new : Told) (before then : ScriptStore) (done : Bool)
    → StartsOpened false old before mid
    → LeavesTidy (script_keeping mid.places all_pages) before then mid new done → AddsLawful old new
unmarked_adds old mid new before then done opened run =
    let first = opened.tries.tidy.tidies in
    let none = opened.tries.tidy.takes.none refl in record {
      added = run.added ++ first.added;
      history = run.history ∙ ap (option_map (adds_all run.added)) first.history
          ∙ history_then run.added first.added old.history;
      lawful = λ base is. subst IsLawful (sym (append_assoc run.added first.added base))
          (run.lawful.lawful (first.added ++ base)
          (first.does.lawful.lawful base is (λ p s counted. absurd (none p s counted)))
          (first.does.clean refl base (λ p s counted. absurd (none p s counted))));
    }

-- after a format
pub formatted_adds : (old mid new : Told) (before then : ScriptStore) (done : Bool)
    → StartsFormatted old before mid
    → LeavesTidy (script_keeping mid.places all_pages) before then mid new done
    → AddsLawful old new
formatted_adds old mid new before then done started run =
    adds_then old started.formatted new
    (adds_format {T = Unit {0}} old.places (units_on old.places) old (Ok tt) started.formatted
    started.formats.formats)
    (unmarked_adds started.formatted mid new before then done started.opened run)

-- what was done last of all behind it, was so behind the format
pub formatted_closed : (old mid new : Told) (store : ScriptStore) → StartsFormatted old store mid
    → EndsClosed mid new → EndsClosed old new
formatted_closed old mid new store s closed =
    let did = s.formats.formats some_history in
    let tidies = s.opened.tries.tidy.tidies in
    closed_since did.added old s.formatted new did.history
    (closed_since tidies.added s.formatted mid new tidies.history closed)

-- ---- an opening that looks for a mark

-- nothing was taken from one
pub by_no_mark : (old new : Told) → AddsLawful old new → AddsLawfulByMark old new
by_no_mark old new did = record {
  added = did.added;
  history = did.history;
  marked = λ p s. false;
  right = λ x told p s is. absurd cc;
  lawful = λ base is clean. did.lawful base is;
}

-- a note is no event
pub by_mark_noted : (old mid new : Told) → AddsLawfulByMark old mid → new ≡ but_noted mid new.beside.noted
    → AddsLawfulByMark old new
by_mark_noted old mid new did only = record {
  added = did.added;
  history = ap (λ (t : Told). t.history) only ∙ did.history;
  marked = did.marked;
  right = did.right;
  lawful = did.lawful;
}

-- events that are lawful where what an opening took from a mark is clean
module _ (old new : Told) (result : Result (Unit {0}) ImageFault) (t : Tables) (tries : Tries true old.places old result t new) where
  abbrev took : Tables
  took = tries.tidy.first

  right : OfContents old (λ x. (p s : ℕ) → counts_clean took p s ≡ true → IsMarked old.places x p s)
  right x told p s is = tries.tidy.takes.marked x told p s (counts_as_counted took p s is)

  took_clean : (base : Story) → AreClean (λ p s. counts_clean took p s ≡ true) base
      → AreClean (IsCountedClean took) base
  took_clean base clean p s counted = clean p s (counted_counts took p s counted)

  opening_adds : AddsLawfulByMark old new
  opening_adds = record {
    added = tries.tidy.tidies.added;
    history = tries.tidy.tidies.history;
    marked = counts_clean took;
    right = right;
    lawful = λ base is clean. tries.tidy.tidies.does.lawful.lawful base is (took_clean base clean);
  }

-- it wasn't opened
pub unopened_adds : (numbers : ℕ) (end : End) (old new : Told) → IsNotOpened true numbers end old new → AddsLawfulByMark old new
unopened_adds numbers end old new did = opening_adds old new (Err did.fault) did.tables did.tries

-- a run
pub opened_adds : (old mid new : Told) (before then : ScriptStore) (done : Bool)
    → StartsOpened true old before mid
    → LeavesTidy (script_keeping mid.places all_pages) before then mid new done → AddsLawfulByMark old new
opened_adds old mid new before then done opened run =
    let tries = opened.tries in
    let first = tries.tidy.tidies in
    let t = tables_in before.store.transactions.pages in
    let taken = took_clean old mid (Ok tt) t tries in record {
      added = run.added ++ first.added;
      history = run.history ∙ ap (option_map (adds_all run.added)) first.history
          ∙ history_then run.added first.added old.history;
      marked = counts_clean tries.tidy.first;
      right = right old mid (Ok tt) t tries;
      lawful = λ base is clean. subst IsLawful (sym (append_assoc run.added first.added base))
          (run.lawful.lawful (first.added ++ base)
          (first.does.lawful.lawful base is (taken base clean))
          (first.does.clean refl base (taken base clean)));
    }

-- ---- as the words ask

pub nothing_as_asked : (asked : AskedFor) (t : Told) → AddsAsAsked asked t t
nothing_as_asked None t = adds_nothing t t refl
nothing_as_asked (Some (Format spares)) t = adds_nothing t t refl
nothing_as_asked (Some (Run frames sessions numbers true closes)) t = adds_nothing t t refl
nothing_as_asked (Some (Run frames sessions numbers false closes)) t = by_no_mark t t (adds_nothing t t refl)
nothing_as_asked (Some (Serial sessions)) t = adds_nothing t t refl
nothing_as_asked (Some Check) t = adds_nothing t t refl
nothing_as_asked (Some Records) t = adds_nothing t t refl
nothing_as_asked (Some (Trial seed count frames sessions numbers)) t = adds_nothing t t refl

pub noted_as_asked : (asked : AskedFor) (old mid new : Told) → AddsAsAsked asked old mid
    → new ≡ but_noted mid new.beside.noted → AddsAsAsked asked old new
noted_as_asked None old mid new did only = adds_noted old mid new did only
noted_as_asked (Some (Format spares)) old mid new did only = adds_noted old mid new did only
noted_as_asked (Some (Run frames sessions numbers true closes)) old mid new did only = adds_noted old mid new did only
noted_as_asked (Some (Run frames sessions numbers false closes)) old mid new did only = by_mark_noted old mid new did only
noted_as_asked (Some (Serial sessions)) old mid new did only = adds_noted old mid new did only
noted_as_asked (Some Check) old mid new did only = adds_noted old mid new did only
noted_as_asked (Some Records) old mid new did only = adds_noted old mid new did only
noted_as_asked (Some (Trial seed count frames sessions numbers)) old mid new did only = adds_noted old mid new did only
