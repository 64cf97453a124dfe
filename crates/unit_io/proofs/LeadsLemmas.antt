-- What calls leave, one after another.
use Rattle.std.proofs.Common.{◌≡◌, ℕ, Bool, true, false, [], ◌∷◌, ◌++◌, Result, Ok, Err, IfOk, is_ok, inl, inr, refl, sym, ◌∙◌, ap, subst, append_assoc, arith}
use Rattle.std.specs.Option.{option_map}
use Rattle.chip_trait.specs.declared.event.Event.{Event}
use Rattle.chip_trait.specs.declared.event.Event.TheVariants.{Barrier}
use Rattle.chip_trait.specs.Story.{Story, after}
use Rattle.chip_trait.specs.Moment.{AtEachMoment}
use Rattle.chip_trait.specs.Told.{History, Told, Appends, adds, adds_all}
use Rattle.chip_trait.proofs.HistoryLemmas.{same_history}
use Rattle.chip_trait.proofs.MomentLemmas.{at_start, at_next, at_end, at_both}
use Rattle.ipl_base.specs.declared.fault.ChipFault.{ChipFault}
use Rattle.ipl_meaning.specs.Tables.{Tables, IsCountedClean}
use Rattle.ipl_meaning.specs.Marks.{AreUnused, MarksAreUnused, KeepsMarks}
use Rattle.ipl_meaning.proofs.MarkStoryLemmas.{idle_events_keep_marks}
use Rattle.unit_io.specs.Leads.{IsSteady, LeadsWhere, Leads, Did, Waited}
use Rattle.unit_io.proofs.ReadsAtLemmas.{history_then}

-- two parts of events, added one after the other
pub twice_added : (later earlier : Story) (h : History) → adds_all later (adds_all earlier h) ≡ adds_all (later ++ earlier) h
twice_added later earlier h = ap (λ (s : Story). record { start = h.start; story = s }) (sym (append_assoc later earlier h.story))

-- ---- marks, kept at each moment

pub marks_none : (places : ℕ) (h : History) → AtEachMoment (λ e. KeepsMarks places h (adds_all e h)) []
marks_none places h = at_start (λ e. KeepsMarks places h (adds_all e h)) (λ unused. unused)

-- of one event
pub marks_one : (places : ℕ) (h : History) (e : Event) → KeepsMarks places h (adds e h)
    → AtEachMoment (λ f. KeepsMarks places h (adds_all f h)) (e ∷ [])
marks_one places h e keeps = at_next (λ f. KeepsMarks places h (adds_all f h)) e [] (marks_none places h) keeps

-- of one part of events, and then another
pub marks_then : (places : ℕ) (h : History) (later earlier : Story) → AtEachMoment (λ e. KeepsMarks places h (adds_all e h)) earlier
    → AtEachMoment (λ e. KeepsMarks places (adds_all earlier h) (adds_all e (adds_all earlier h))) later
    → AtEachMoment (λ e. KeepsMarks places h (adds_all e h)) (later ++ earlier)
marks_then places h later earlier first second =
    at_both (λ e. KeepsMarks places h (adds_all e h)) later earlier first
    (λ more e split unused. subst (MarksAreUnused places) (twice_added e earlier h)
    (second more e split (at_end (λ f. KeepsMarks places h (adds_all f h)) earlier first unused)))

-- ---- one event

-- where the chip stands after an event
pub steady_then : (e : Event) (h : History) (old new : Told) → IsSteady h old → Appends e old new → IsSteady (adds e h) new
steady_then e h old new steady did = record {
  holds = did.contents ∙ ap (option_map (after e)) steady.holds;
  settled = did.settled ∙ steady.settled;
}

-- where the chip stands after a call that was done
pub steady_after : {T E : Type 0} {Sound : Type 0} (Each : History → Type 0) (Does : Bool → Story → Type 0) (Then : T → History → Type 0) (h : History) (v : T) (old new : Told)
    → (did : LeadsWhere {T = T} {E = E} Sound Each Does Then h old (Ok v) new) → IsSteady (adds_all did.added h) new
steady_after Each Does Then h v old new did = did.ends.0

module _ (Each : History → Type 0) (Does : Bool → Story → Type 0) (h : History) (old new : Told) (steady : IsSteady h old) where
  -- one event
  pub leads_did : {Sound : Type 0} (Then : Unit {0} → History → Type 0) (e : Event) (result : Result (Unit {0}) ChipFault) → Did e result old new → Each h → Each (adds e h)
      → (Sound → KeepsMarks old.places h (adds e h)) → ((done : Bool) → Does done (e ∷ [])) → Does false [] → Then tt (adds e h)
      → LeadsWhere Sound Each Does Then h old result new
  leads_did Then e (Ok v) did before after keeps does nothing then = record {
    added = e ∷ [];
    places = did.places;
    history = did.history;
    each_moment = at_next (λ f. Each (adds_all f h)) e [] (at_start (λ f. Each (adds_all f h)) before) after;
    marks = λ sound. marks_one old.places h e (keeps sound);
    does = does true;
    ends = (steady_then e h old new steady did, then);
  }
  leads_did Then e (Err fault) did before after keeps does nothing then = elim did.history [
    | inl some ↦ record {
      added = e ∷ [];
      places = did.places;
      history = some;
      each_moment = at_next (λ f. Each (adds_all f h)) e [] (at_start (λ f. Each (adds_all f h)) before) after;
      marks = λ sound. marks_one old.places h e (keeps sound);
      does = does false;
      ends = tt;
    }
    | inr none ↦ record {
      added = [];
      places = did.places;
      history = none ∙ same_history old.history;
      each_moment = at_start (λ f. Each (adds_all f h)) before;
      marks = λ sound. marks_none old.places h;
      does = nothing;
      ends = tt;
    }
  ]

  -- a barrier
  pub leads_waited : {Sound : Type 0} (Then : Unit {0} → History → Type 0) (result : Result (Unit {0}) ChipFault) → Waited result old new → Each h → Each (adds Barrier h)
      → Does true (Barrier ∷ []) → Does false [] → Then tt (adds Barrier h) → LeadsWhere Sound Each Does Then h old result new
  leads_waited Then (Ok v) did before after does nothing then = record {
    added = Barrier ∷ [];
    places = did.places;
    history = did.history;
    each_moment = at_next (λ f. Each (adds_all f h)) Barrier [] (at_start (λ f. Each (adds_all f h)) before) after;
    marks = λ sound. marks_one old.places h Barrier (idle_events_keep_marks old.places h).2;
    does = does;
    ends = (steady_then Barrier h old new steady did, then);
  }
  leads_waited Then (Err fault) did before after does nothing then = record {
    added = [];
    places = did.places;
    history = did.history ∙ same_history old.history;
    each_moment = at_start (λ f. Each (adds_all f h)) before;
    marks = λ sound. marks_none old.places h;
    does = nothing;
    ends = tt;
  }

-- nothing was done yet
pub leads_none : {T E : Type 0} (Each : History → Type 0) (Does : Bool → Story → Type 0) (Then : T → History → Type 0) (h : History) (t : Told) (v : T) → IsSteady h t
    → Each h → Does true [] → Then v h → Leads {T = T} {E = E} Each Does Then h t (Ok v) t
leads_none Each Does Then h t v steady each does then = record {
  added = [];
  places = refl;
  history = same_history t.history;
  each_moment = at_start (λ f. Each (adds_all f h)) each;
  marks = λ sound. marks_none t.places h;
  does = does;
  ends = (steady, then);
}

ends_by : {T E : Type 0} (new : Told) (P Q : T → History → Type 0) (k j : History) → k ≡ j → (result : Result T E) → ((v : T) → P v k → Q v k) → IfOk result (λ v. IsSteady k new × P v k) → IfOk result (λ v. IsSteady j new × Q v j)
ends_by new P Q k j same (Ok v) f ends = (subst (λ (i : History). IsSteady i new) same ends.0, subst (Q v) same (f v ends.1))
ends_by new P Q k j same (Err e) f ends = tt

-- a call, and then another
pub leads_then : {T U E F : Type 0} {Sound : Type 0} (Each : History → Type 0) (D1 D2 D3 : Bool → Story → Type 0) (T1 : T → History → Type 0) (T2 T3 : U → History → Type 0) (h : History) (v : T) (old mid new : Told) (result : Result U E)
    → (first : LeadsWhere {T = T} {E = F} Sound Each D1 T1 h old (Ok v) mid) → LeadsWhere Sound Each D2 T2 (adds_all first.added h) mid result new
    → ((a b : Story) → D1 true a → D2 (is_ok result) b → D3 (is_ok result) (b ++ a)) → ((w : U) (k : History) → T2 w k → T3 w k) → LeadsWhere Sound Each D3 T3 h old result new
leads_then Each D1 D2 D3 T1 T2 T3 h v old mid new result first second both then =
    let same = twice_added second.added first.added h in record {
      added = second.added ++ first.added;
      places = second.places ∙ first.places;
      history = second.history ∙ ap (option_map (adds_all second.added)) first.history ∙ history_then second.added first.added old.history;
      each_moment = at_both (λ e. Each (adds_all e h)) second.added first.added first.each_moment
          (λ later e split. subst Each (twice_added e first.added h) (second.each_moment later e split));
      marks = λ sound. marks_then old.places h second.added first.added (first.marks sound)
          (subst (λ (places : ℕ). AtEachMoment (λ e. KeepsMarks places (adds_all first.added h) (adds_all e (adds_all first.added h))) second.added) first.places (second.marks sound));
      does = both first.added second.added first.does second.does;
      ends = ends_by new T2 T3 (adds_all second.added (adds_all first.added h)) (adds_all (second.added ++ first.added) h) same result (λ w is. then w _ is) second.ends;
    }

-- a call that failed, where nothing else is done then
pub leads_failed : {T U E F : Type 0} {Sound : Type 0} (Each : History → Type 0) (D1 D2 : Bool → Story → Type 0) (T1 : T → History → Type 0) (T2 : U → History → Type 0) (h : History) (e : E) (f : F) (old new : Told)
    → LeadsWhere {T = T} {E = E} Sound Each D1 T1 h old (Err e) new → ((a : Story) → D1 false a → D2 false a) → LeadsWhere {T = U} {E = F} Sound Each D2 T2 h old (Err f) new
leads_failed Each D1 D2 T1 T2 h e f old new did weaker = record {
  added = did.added;
  places = did.places;
  history = did.history;
  each_moment = did.each_moment;
  marks = did.marks;
  does = weaker did.added did.does;
  ends = tt;
}

-- the same call, said less of
pub leads_weaker : {T E : Type 0} {Sound : Type 0} (E1 E2 : History → Type 0) (D1 D2 : Bool → Story → Type 0) (T1 T2 : T → History → Type 0) (h : History) (old : Told) (result : Result T E) (new : Told)
    → ((k : History) → E1 k → E2 k) → ((done : Bool) (a : Story) → D1 done a → D2 done a) → ((v : T) (k : History) → T1 v k → T2 v k)
    → LeadsWhere Sound E1 D1 T1 h old result new → LeadsWhere Sound E2 D2 T2 h old result new
leads_weaker E1 E2 D1 D2 T1 T2 h old result new each does then did = record {
  added = did.added;
  places = did.places;
  history = did.history;
  each_moment = λ later e split. each _ (did.each_moment later e split);
  marks = did.marks;
  does = does (is_ok result) did.added did.does;
  ends = ends_by new T1 T2 (adds_all did.added h) (adds_all did.added h) refl result (λ v is. then v _ is) did.ends;
}

-- the condition on which marks are kept holds
pub leads_sound : {T E : Type 0} {Sound : Type 0} (Each : History → Type 0) (Does : Bool → Story → Type 0)
    (Then : T → History → Type 0) (h : History) (old : Told) (result : Result T E) (new : Told)
    → Sound → LeadsWhere Sound Each Does Then h old result new → Leads Each Does Then h old result new
leads_sound Each Does Then h old result new sound did = record {
  added = did.added;
  places = did.places;
  history = did.history;
  each_moment = did.each_moment;
  marks = λ _. did.marks sound;
  does = did.does;
  ends = did.ends;
}

-- it does by tables that count no sector as clean
pub count_nothing : Tables
count_nothing = record {
  places = record { current = []; in_use = []; erases = []; retired = []; written = []; generations = []; masks = [] };
  overflow = record { places = 0; in_use = []; spots = []; masks = [] };
  status = record { place = 0; generation = 0; numbers = []; most = 0; first = 256 };
  next = 0;
  active = [];
}

pub nothing_is_unused : (h : History) → AreUnused (IsCountedClean count_nothing) h.story
unfolding count_nothing
nothing_is_unused h p s (small, inl (u, less, is, first)) = absurd (omega (arith, less))
nothing_is_unused h p s (small, inr (inl (first, (k, within, is), above))) = absurd (omega (arith, within))
nothing_is_unused h p s (small, inr (inr (is, above))) = absurd (omega (arith, small, above))

-- the same call, where what it did and what holds then say together what else holds
pub leads_and : {T E : Type 0} (Each : History → Type 0) (Does : Bool → Story → Type 0)
    (T1 T2 : T → History → Type 0) (h : History) (old : Told) (result : Result T E) (new : Told)
    → ((v : T) (a : Story) → Does true a → T1 v (adds_all a h) → T2 v (adds_all a h))
    → Leads Each Does T1 h old result new → Leads Each Does T2 h old result new
leads_and Each Does T1 T2 h old (Ok v) new then did = record {
  added = did.added;
  places = did.places;
  history = did.history;
  each_moment = did.each_moment;
  marks = did.marks;
  does = did.does;
  ends = (did.ends.0, then v did.added did.does did.ends.1);
}
leads_and Each Does T1 T2 h old (Err e) new then did = record {
  added = did.added;
  places = did.places;
  history = did.history;
  each_moment = did.each_moment;
  marks = did.marks;
  does = did.does;
  ends = tt;
}
