-- A place taken: from the erase to the barrier behind it.
use Rattle.std.proofs.Common.{◌≡◌, ◌<◌, ℕ, Bool, true, false, [], ◌∷◌, ◌++◌, Result, Ok, Err, OnOk, is_ok, refl, sym, ◌∙◌, ap, subst}
use Rattle.std.specs.Option.{option_map}
use Rattle.std.proofs.lemmas.Bool.{eq-eqb, ne_eqb, false≢true}
use Rattle.chip_trait.specs.declared.event.Event.TheVariants.{Erase, Worn, Barrier}
use Rattle.chip_trait.specs.declared.wear.Wear.{Wear}
use Rattle.chip_trait.specs.declared.wear.Wear.TheVariants.{Done, Worn as IsWorn}
use Rattle.chip_trait.proofs.MomentLemmas.{at_start, at_next}
use Rattle.chip_trait.specs.Story.{Story, Contents, after, held}
use Rattle.chip_trait.specs.Told.{History, Told, Appends, Breaks, Halts, adds, adds_all}
use Rattle.chip_trait.specs.Wears.{Wears, erase_event}
use Rattle.ipl_base.specs.declared.fault.ChipFault.{ChipFault}
use Rattle.ipl_base.specs.declared.fault.ChipFault.TheVariants.{Stopped}
use Rattle.ipl_meaning.specs.Legible.{Legible}
use Rattle.ipl_format.proofs.SectorLemmas.{blank_says_nothing}
use Rattle.ipl_meaning.specs.Chart.{chart_of}
use Rattle.ipl_meaning.specs.Layout.{Layout, Laid}
use Rattle.ipl_meaning.specs.Rests.{now, EachStands, StoryRests}
use Rattle.ipl_meaning.specs.Steps.{IsIdle}
use Rattle.ipl_meaning.proofs.StoryLemmas.{held_stands, barriers_rest, worns_keep, erases_keep}
use Rattle.ipl_meaning.proofs.MarkStoryLemmas.{erases_keep_marks, worns_keep_marks}
use Rattle.unit_io.specs.Leads.{IsSteady, Leads, RestsWith, KeepsMap, Did, Waited}
use Rattle.unit_io.specs.Spots.{Clears}
use Rattle.unit_io.specs.Charts.{Charts, Begun, IsCleared}
use Rattle.unit_io.proofs.LeadsLemmas.{marks_one, leads_did, leads_waited, leads_then, leads_failed, steady_then, steady_after}
use Rattle.unit_io.proofs.SpotLemmas.{clears_none, clears_erase, clears_worn, clears_all}

-- what an erase makes of a chart
pub erased_chart : (p : ℕ) (x : Contents) → IsCleared p (chart_of x) (chart_of (after (Erase p) x))
erased_chart p x = record {
  bare = λ s. rw (eq-eqb p p refl) blank_says_nothing;
  others = λ q s apart. rw (ne_eqb p q (λ same. apart (sym same))) refl;
}

module _ (old : Told) (m : Legible) (it : Layout) (h : History) (p : ℕ) (rests : StoryRests old.places m h) (laid : Laid old.places (now h) it) (within : p < old.places)
    (idle : IsIdle old.places (now h) it p) where
  -- the erase: what it added, where it was done
  Erased : Bool → Story → Type 0
  Erased done added = Clears p false added × (done ≡ true → added ≡ Erase p ∷ [])

  erase_leads : (new : Told) (result : Result (Unit {0}) ChipFault) → IsSteady h old → Did (Erase p) result old new
      → Leads (EachStands old.places m) Erased (λ done then. then ≡ adds (Erase p) h) h old result new
  unfolding Erased
  erase_leads new result steady did =
      leads_did (EachStands old.places m) Erased h old new steady (λ done then. then ≡ adds (Erase p) h) (Erase p) result did
      rests.each (erases_keep old.places m h it p rests laid within idle).0 (λ _. erases_keep_marks old.places m h it p rests laid within idle)
      (λ done. (clears_erase p, λ is. refl)) (clears_none p, λ is. absurd (false≢true is)) refl

  -- both
  pub begin_leads : (mid new : Told) (result : Result (Unit {0}) ChipFault) → IsSteady h old → Did (Erase p) (Ok tt) old mid → Waited result mid new
      → KeepsMap old.places m (Clears p) (λ done. IsCleared p) h old result new
  unfolding Erased
  begin_leads mid new result steady erase wait =
      let first = erase_leads mid (Ok tt) steady erase in
      let (after, worn) = erases_keep old.places m h it p rests laid within idle in
      let at : adds_all first.added h ≡ adds (Erase p) h = first.ends.1 in
      let here : IsSteady (adds (Erase p) h) mid = subst (λ (k : History). IsSteady k mid) at (steady_after (EachStands old.places m) Erased (λ done then. then ≡ adds (Erase p) h) h tt old mid first) in
      let second : Leads (EachStands old.places m) (λ done b. Clears p done (b ++ Erase p ∷ [])) (λ done then. then ≡ adds Barrier (adds (Erase p) h)) (adds (Erase p) h) mid result new =
      leads_waited (EachStands old.places m) (λ done b. Clears p done (b ++ Erase p ∷ [])) (adds (Erase p) h) mid new here (λ done then. then ≡ adds Barrier (adds (Erase p) h)) result wait
      after (barriers_rest old.places m (adds (Erase p) h) (held_stands old.places m (adds (Erase p) h) after) worn).each (clears_all p) (clears_erase p) refl in
      leads_then (EachStands old.places m) Erased (λ done b. Clears p done (b ++ Erase p ∷ [])) (Clears p) (λ done then. then ≡ adds (Erase p) h)
      (λ done then. then ≡ adds Barrier (adds (Erase p) h)) (RestsWith old.places m (λ done. IsCleared p) h) h tt old mid new result first
      (subst (λ (k : History). Leads (EachStands old.places m) (λ done b. Clears p done (b ++ Erase p ∷ [])) (λ done then. then ≡ adds Barrier (adds (Erase p) h)) k mid result new) (sym at) second)
      (λ a b one two. subst (λ (l : Story). Clears p (is_ok result) (b ++ l)) (sym (one.1 refl)) two)
      (λ w k is. subst (λ (j : History). StoryRests old.places m j × IsCleared p (now h) (now j)) (sym is)
      (barriers_rest old.places m (adds (Erase p) h) (held_stands old.places m (adds (Erase p) h) after) worn, erased_chart p (held h.start h.story)))

  -- the erase failed
  pub begin_fails : {F : Type 0} (new : Told) (f : F) → IsSteady h old → Breaks (Erase p) old new
      → KeepsMap {T = Unit {0}} {E = F} old.places m (Clears p) (λ done. IsCleared p) h old (Err f) new
  unfolding Erased
  begin_fails new f steady erase =
      leads_failed (EachStands old.places m) Erased (Clears p) (λ done then. then ≡ adds (Erase p) h) (RestsWith old.places m (λ done. IsCleared p) h)
      h Stopped f old new (erase_leads new (Err Stopped) steady erase) (λ a one. one.0)

  -- the place is worn
  pub begin_worn : (new : Told) → IsSteady h old → Appends (Worn p) old new
      → Leads {T = Wear} {E = ChipFault} (EachStands old.places m) (λ ok. Clears p false) (RestsWith old.places m (Begun p) h) h old (Ok IsWorn) new
  begin_worn new steady did =
      let after = worns_keep old.places m h it p rests laid idle in
      record {
        added = Worn p ∷ [];
        places = did.places;
        history = did.history;
        each_moment = at_next (λ f. EachStands old.places m (adds_all f h)) (Worn p) [] (at_start (λ f. EachStands old.places m (adds_all f h)) rests.each) after.each;
        marks = λ _. marks_one old.places h (Worn p) (worns_keep_marks old.places m h it p rests laid idle);
        does = clears_worn p;
        ends = (steady_then (Worn p) h old new steady did, (after, refl));
      }

-- what is told of the contents
pub begin_tells : (p : ℕ) (old mid new : Told) (result : Result (Unit {0}) ChipFault) → Did (Erase p) (Ok tt) old mid → Waited result mid new → OnOk result (Charts (IsCleared p) old new)
begin_tells p old mid new (Ok v) erase wait = λ x told.
    (after (Erase p) x, wait.contents ∙ ap (option_map (after Barrier)) (erase.contents ∙ ap (option_map (after (Erase p))) told), erased_chart p x)
begin_tells p old mid new (Err e) erase wait = tt

-- the same call, with another answer
pub leads_answers : {T U E : Type 0} (Each : History → Type 0) (D1 D2 : Bool → Story → Type 0) (T1 : T → History → Type 0) (T2 : U → History → Type 0) (h : History) (v : T) (w : U) (old new : Told)
    → ((a : Story) → D1 true a → D2 true a) → ((k : History) → T1 v k → T2 w k) → Leads {T = T} {E = E} Each D1 T1 h old (Ok v) new → Leads {T = U} {E = E} Each D2 T2 h old (Ok w) new
leads_answers Each D1 D2 T1 T2 h v w old new does then did = record {
  added = did.added;
  places = did.places;
  history = did.history;
  each_moment = did.each_moment;
  marks = did.marks;
  does = does did.added did.does;
  ends = (did.ends.0, then _ did.ends.1);
}

pub worn_tells : (p : ℕ) (old new : Told) → Appends (Worn p) old new → Charts (Begun p IsWorn) old new
worn_tells p old new did = λ x told. (x, did.contents ∙ ap (option_map (after (Worn p))) told, refl)

-- an erase that found its place worn, or was done
pub wears_worn : (p : ℕ) (wear : Wear) (old new : Told) → wear ≡ IsWorn → Wears wear p old new → Appends (Worn p) old new
wears_worn p wear old new is did = subst (λ (w : Wear). Appends (erase_event w p) old new) is did.appends

pub wears_done : (p : ℕ) (wear : Wear) (old new : Told) → wear ≡ Done → Wears wear p old new → Appends (Erase p) old new
wears_done p wear old new is did = subst (λ (w : Wear). Appends (erase_event w p) old new) is did.appends

-- the erase failed, or the barrier behind it, or both were done
module _ (old : Told) (m : Legible) (it : Layout) (h : History) (p : ℕ) (rests : StoryRests old.places m h) (laid : Laid old.places (now h) it) (within : p < old.places)
    (idle : IsIdle old.places (now h) it p) where
  pub begun_failed : (new : Told) (f : ChipFault) → IsSteady h old → Breaks (Erase p) old new
      → Leads {T = Wear} {E = ChipFault} (EachStands old.places m) (λ ok. Clears p false) (RestsWith old.places m (Begun p) h) h old (Err f) new
  begun_failed new f steady broke =
      let did = begin_fails old m it h p rests laid within idle new f steady broke in
      leads_failed (EachStands old.places m) (Clears p) (λ ok. Clears p false) (RestsWith old.places m (λ done. IsCleared p) h) (RestsWith old.places m (Begun p) h) h f f old new did (λ a is. is)

  pub begun_halted : (mid new : Told) (f : ChipFault) → IsSteady h old → Appends (Erase p) old mid → Halts mid new
      → Leads {T = Wear} {E = ChipFault} (EachStands old.places m) (λ ok. Clears p false) (RestsWith old.places m (Begun p) h) h old (Err f) new
  begun_halted mid new f steady did halted =
      leads_failed (EachStands old.places m) (Clears p) (λ ok. Clears p false) (RestsWith old.places m (λ done. IsCleared p) h) (RestsWith old.places m (Begun p) h) h f f old new
      (begin_leads old m it h p rests laid within idle mid new (Err f) steady did halted) (λ a is. is)

  pub begun_done : (mid new : Told) → IsSteady h old → Appends (Erase p) old mid → Appends Barrier mid new
      → Leads {T = Wear} {E = ChipFault} (EachStands old.places m) (λ ok. Clears p true) (RestsWith old.places m (Begun p) h) h old (Ok Done) new
  begun_done mid new steady did waited =
      leads_answers (EachStands old.places m) (Clears p) (λ ok. Clears p true) (RestsWith old.places m (λ done. IsCleared p) h) (RestsWith old.places m (Begun p) h) h tt Done old new
      (λ a is. is) (λ k is. is) (begin_leads old m it h p rests laid within idle mid new (Ok tt) steady did waited)
