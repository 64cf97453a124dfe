-- What is marked behind a run that opened its chip is clean, after lawful events that leave clean what was marked before: it was
-- erased in the run and not programmed since, or the run left it alone and it was marked before. Shown of each run from what
-- is said of it over whatever history leaves what the chip holds: also one in which a sector was programmed with its own bytes.
use Rattle.std.proofs.Common.{ℕ, ◌≡◌, ◌≢◌, true, List, [], ◌++◌, ◌∷◌, ◌&&◌, Option, Some, inl, inr, refl, sym, ◌∙◌, ap, subst, eqb, append_assoc}
use Rattle.std.proofs.Math.Path.{fun_ext}
use Rattle.std.proofs.lemmas.Bool.{cases_Bool, and_parts, eq-eqb, eqb-true}
use Rattle.std.proofs.lemmas.List.{append-nil, append_cancel_right}
use Rattle.std.specs.Option.{option_map}
use Rattle.chip_trait.specs.declared.event.Event.TheVariants.{Read, Program, Erase, Worn, Barrier, Said}
use Rattle.chip_trait.specs.Chart.{says}
use Rattle.chip_trait.specs.Image.{IsImage, IsNoChanceImage}
use Rattle.chip_trait.specs.Lawful.{Age, Unknown, Erased, Clean, Used, IsLawful, AreClean, settled, age}
use Rattle.chip_trait.specs.Story.{Story, Contents, held, said}
use Rattle.chip_trait.specs.Told.{History, Told, Unrisen, adds_all}
use Rattle.chip_trait.proofs.HistoryLemmas.{same_history, history_then}
use Rattle.chip_trait.proofs.ImageLemmas.{held_is_image, image_if_closed}
use Rattle.chip_trait.proofs.MomentLemmas.{at_end}
use Rattle.ipl_format.specs.Sector.{sector_in}
use Rattle.ipl_meaning.specs.Chart.{chart_of}
use Rattle.ipl_meaning.specs.Legible.{Legible, of}
use Rattle.ipl_meaning.specs.Marks.{IsMarked, MarksAreUnused}
use Rattle.ipl_meaning.specs.Rests.{now, StoryRests}
use Rattle.ipl_meaning.specs.Stands.{Stands}
use Rattle.ipl_meaning.specs.Chosen.{units_at}
use Rattle.ipl_meaning.proofs.StoryLemmas.{barriers_rest, held_stands}
use Rattle.restart.specs.RenewalChains.{starts_at}
use Rattle.restart.proofs.ChainLemmas.{images_rest}
use Rattle.unit_io.specs.Leads.{IsSteady}
use Rattle.ipl_model.specs.State.{Map, State, Limits}
use Rattle.ipl_cli.specs.Ending.{Ending}
use Rattle.ipl_cli.specs.Top.{IsAbout, Runs, RunsOpened}
use Rattle.ipl_cli.specs.Frames.{AddsCleanly}
use Rattle.ipl_cli.specs.Chains.{RestsOn, TellsHistory}
use Rattle.store_laws.specs.Keeps.{limits_of}
use Rattle.ipl_cli.proofs.AgeLemmas.{quiet_unerased}

-- ---- ages, one part behind another

unsettled : (a : Age) → settled a ≡ Unknown → a ≡ Unknown
unsettled Unknown is = refl
unsettled Erased is = absurd (cc is)
unsettled Clean is = absurd (cc is)
unsettled Used is = absurd (cc is)

-- a sector that later events leave alone stands as it did, where a barrier leaves that as it is
left_alone : (added base : Story) (p s : ℕ) (a : Age) → settled a ≡ a → age added p s ≡ Unknown → age base p s ≡ a
    → age (added ++ base) p s ≡ a
left_alone [] base p s a lasts unknown is = is
left_alone (Read q t ∷ added) base p s a lasts unknown is = left_alone added base p s a lasts unknown is
left_alone (Said piece ∷ added) base p s a lasts unknown is = left_alone added base p s a lasts unknown is
left_alone (Barrier ∷ added) base p s a lasts unknown is =
    ap settled (left_alone added base p s a lasts (unsettled (age added p s) unknown) is) ∙ lasts
left_alone (Worn q ∷ added) base p s a lasts unknown is = elim (cases_Bool (eqb q p)) [
  | inl here ↦ absurd (let used : Used ≡ Unknown = rw here at unknown in cc used)
  | inr apart ↦ rw apart (left_alone added base p s a lasts (rw apart at unknown) is)
]
left_alone (Erase q ∷ added) base p s a lasts unknown is = elim (cases_Bool (eqb q p)) [
  | inl here ↦ absurd (let erased : Erased ≡ Unknown = rw here at unknown in cc erased)
  | inr apart ↦ rw apart (left_alone added base p s a lasts (rw apart at unknown) is)
]
left_alone (Program q t bytes ∷ added) base p s a lasts unknown is = elim (cases_Bool (eqb q p && eqb t s)) [
  | inl here ↦ absurd (let used : Used ≡ Unknown = rw here at unknown in cc used)
  | inr apart ↦ rw apart (left_alone added base p s a lasts (rw apart at unknown) is)
]

-- one that they don't leave alone stands as they say
not_alone : (added base : Story) (p s : ℕ) → age added p s ≢ Unknown → age (added ++ base) p s ≡ age added p s
not_alone [] base p s known = absurd (known refl)
not_alone (Read q t ∷ added) base p s known = not_alone added base p s known
not_alone (Said piece ∷ added) base p s known = not_alone added base p s known
not_alone (Barrier ∷ added) base p s known = ap settled (not_alone added base p s (λ is. known (ap settled is)))
not_alone (Worn q ∷ added) base p s known = elim (cases_Bool (eqb q p)) [
  | inl here ↦ rw here refl
  | inr apart ↦ rw apart (not_alone added base p s (rw apart at known))
]
not_alone (Erase q ∷ added) base p s known = elim (cases_Bool (eqb q p)) [
  | inl here ↦ rw here refl
  | inr apart ↦ rw apart (not_alone added base p s (rw apart at known))
]
not_alone (Program q t bytes ∷ added) base p s known = elim (cases_Bool (eqb q p && eqb t s)) [
  | inl here ↦ rw here refl
  | inr apart ↦ rw apart (not_alone added base p s (rw apart at known))
]

-- ---- a history in which one sector was programmed with the bytes that it has

abbrev rewritten : Contents → ℕ → ℕ → History
rewritten x p s = record { start = x; story = Barrier ∷ Program p s (x p s) ∷ [] }

rewritten_held : (x : Contents) (p s : ℕ) → held x (Barrier ∷ Program p s (x p s) ∷ []) ≡ x
rewritten_held x p s = fun_ext (λ q. fun_ext (λ t. elim (cases_Bool (eqb p q && eqb s t)) [
  | inl same ↦
      let (place, sector) = and_parts _ _ same in
      rw same (subst (λ (v : ℕ). x p s ≡ x v t) (eqb-true p q place) (ap (x p) (eqb-true s t sector)))
  | inr other ↦ rw other refl
]))

-- it rests on what its start stands for
rewritten_rests : (places : ℕ) (m : Legible) (x : Contents) (p s : ℕ) → Stands places (chart_of x) m
    → StoryRests places m (rewritten x p s)
rewritten_rests places m x p s stands =
    barriers_rest places m (record { start = x; story = Program p s (x p s) ∷ [] })
    (subst (λ (y : Contents). Stands places (chart_of y) m) (sym (rewritten_held x p s)) stands)
    (λ it laid q is. absurd (cc is))

-- and a power cut leaves it alone
rewritten_image : (x y : Contents) (p s : ℕ) → IsImage x (Barrier ∷ Program p s (x p s) ∷ []) y → y ≡ x
rewritten_image x y p s image = fun_ext (λ q. fun_ext (λ t.
    image_if_closed x (Barrier ∷ Program p s (x p s) ∷ []) y q t refl refl image))
    ∙ rewritten_held x p s

-- that sector alone is used in it
rewritten_used : (x : Contents) (p s q t : ℕ) → age (rewritten x p s).story q t ≡ Used → (p ≡ q) × (s ≡ t)
rewritten_used x p s q t used = elim (cases_Bool (eqb p q && eqb s t)) [
  | inl same ↦ let (place, sector) = and_parts _ _ same in (eqb-true p q place, eqb-true s t sector)
  | inr other ↦ absurd (let none : Unknown ≡ Used = rw other at used in cc none)
]

own_used : (x : Contents) (p s : ℕ) → age (rewritten x p s).story p s ≡ Used
own_used x p s = rw (eq-eqb p p refl, eq-eqb s s refl) refl

-- ---- one run

-- two stories that a history grew by to the same are one
one_story : (old new : Told) (k : History) (a b : Story) → old.history ≡ Some k
    → new.history ≡ option_map (adds_all a) (option_map (adds_all []) old.history)
    → new.history ≡ option_map (adds_all b) (option_map (adds_all []) old.history) → a ≡ b
one_story old new k a b told first second =
    let both : Some (adds_all a k) ≡ Some (adds_all b k) =
    sym (first ∙ ap (λ (o : Option History). option_map (adds_all a) (option_map (adds_all []) o)) told)
    ∙ (second ∙ ap (λ (o : Option History). option_map (adds_all b) (option_map (adds_all []) o)) told) in
    let same : adds_all a k ≡ adds_all b k = cc both in
    append_cancel_right a b k.story (ap (λ (h : History). h.story) same)

-- of the state that is left, whichever it is
whichever : (P : Type 0) (Q : State → Type 0) (limits : Limits) (m : Map) (script bytes : List ℕ)
    → ((s : State) → Q s → P) → IsAbout Q limits m script bytes → P
whichever P Q limits m script bytes so (inl is) = so _ is
whichever P Q limits m script bytes so (inr is) = so _ is

module _ {sessions : ℕ} (old new : Told) (m : Legible) (script : List ℕ) (on : RestsOn m script old) (ending : Ending)
    (runs : RunsOpened sessions old new ending) (unrisen : Unrisen old new) where
  abbrev x : Contents
  x = held on.history.start on.history.story

  abbrev RunsFrom : History → Type 0
  RunsFrom h = Runs true old.places (limits_of sessions (units_at (now h) old.places)) m script h [] old new ending

  x_stands : Stands old.places (chart_of x) m
  x_stands = held_stands old.places m on.history on.rests.each

  -- from what the chip holds
  from_start : RunsFrom (starts_at x)
  from_start = runs (starts_at x) script (record { holds = on.steady.holds; settled = on.steady.settled }) on.left m
      (images_rest old.places m x x_stands) on.apart

  -- and from the same, with one sector programmed
  from_rewritten : (p s : ℕ) → RunsFrom (rewritten x p s)
  from_rewritten p s = runs (rewritten x p s) script
      (record { holds = on.steady.holds ∙ ap Some (sym (rewritten_held x p s)); settled = on.steady.settled }) on.left m
      (rewritten_rests old.places m x p s x_stands) on.apart

  -- behind such a run nothing that is marked was used
  unused_behind : (h : History) (run : RunsFrom h) → MarksAreUnused old.places h → (z : Contents) → new.contents ≡ Some z
      → (p s : ℕ) → IsMarked old.places z p s → age (run.added ++ h.story) p s ≢ Used
  unused_behind h run were z told p s marked =
      let k = adds_all run.added (adds_all [] h) in
      let held_then : Some z ≡ Some (held k.start k.story) = sym told ∙ (run.steady unrisen).holds in
      let same : held k.start k.story ≡ z = sym (cc held_then) in
      at_end (λ e. MarksAreUnused old.places (adds_all e (adds_all [] h))) run.added (run.unused were) z
      (subst (IsNoChanceImage (says sector_in) k.start k.story) same (held_is_image (says sector_in) k.start k.story))
      p s marked

  module _ (k : History) (tells : old.history ≡ Some k) (z : Contents) (told : new.contents ≡ Some z) (p s : ℕ)
      (marked : IsMarked old.places z p s) where
    -- it isn't used in the run
    never_used : age from_start.added p s ≢ Used
    never_used = subst (λ (story : Story). age story p s ≢ Used) (append-nil from_start.added)
        (unused_behind (starts_at x) from_start (λ y image q t is used. absurd (cc used)) z told p s marked)

    -- nor is it erased with no barrier behind that
    never_open : age from_start.added p s ≢ Erased
    never_open = subst (λ (story : Story). age story p s ≢ Erased) (append-nil from_start.added)
        (whichever (age (from_start.added ++ []) p s ≢ Erased)
        (λ state. StoryRests old.places (of m.pages state.map) (adds_all from_start.added (adds_all [] (starts_at x))))
        (limits_of sessions (units_at (now (starts_at x)) old.places)) m.map script (said from_start.added)
        (λ state rests. quiet_unerased x (from_start.added ++ []) p s rests.quiet) (from_start.rests unrisen))

    -- and where the run left it alone, it was marked before
    left_marked : age from_start.added p s ≡ Unknown → (IsMarked old.places x p s → ⊥) → ⊥
    left_marked unknown unmarked =
        let run = from_rewritten p s in
        let same = one_story old new k from_start.added run.added tells from_start.history run.history in
        unused_behind (rewritten x p s) run (λ y image q t is used.
        let (place, sector) = rewritten_used x p s q t used in
        unmarked (subst (λ (v : ℕ). IsMarked old.places x v s) (sym place)
        (subst (λ (v : ℕ). IsMarked old.places x q v) (sym sector)
        (subst (λ (c : Contents). IsMarked old.places c q t) (rewritten_image x y p s image.image) is)))) z told p s marked
        (left_alone run.added (rewritten x p s).story p s Used refl
        (subst (λ (story : Story). age story p s ≡ Unknown) same unknown) (own_used x p s))

    module _ (base : Story) (clean : AreClean (IsMarked old.places x) base) where
      -- so it is clean
      by_run : (a : Age) → age from_start.added p s ≡ a → age (from_start.added ++ base) p s ≡ Clean
      by_run Unknown is = by_base (age (from_start.added ++ base) p s) refl
        where
          otherwise : age (from_start.added ++ base) p s ≢ Clean → ⊥
          otherwise other = left_marked is (λ before.
              other (left_alone from_start.added base p s Clean refl is (clean p s before)))

          by_base : (a : Age) → age (from_start.added ++ base) p s ≡ a → age (from_start.added ++ base) p s ≡ Clean
          by_base Clean here = here
          by_base Unknown here = absurd (otherwise (λ no. let clash : Unknown ≡ Clean = sym here ∙ no in cc clash))
          by_base Erased here = absurd (otherwise (λ no. let clash : Erased ≡ Clean = sym here ∙ no in cc clash))
          by_base Used here = absurd (otherwise (λ no. let clash : Used ≡ Clean = sym here ∙ no in cc clash))
      by_run Erased is = absurd (never_open is)
      by_run Used is = absurd (never_used is)
      by_run Clean is = not_alone from_start.added base p s
          (λ unknown. let clash : Clean ≡ Unknown = sym is ∙ unknown in cc clash) ∙ is

      marked_is_clean : age (from_start.added ++ base) p s ≡ Clean
      marked_is_clean = by_run (age from_start.added p s) refl

  pub run_adds_cleanly : (k : History) → old.history ≡ Some k → AddsCleanly old.places on.history old new
  run_adds_cleanly k tells = record {
    added = from_start.added;
    history = from_start.history ∙ ap (option_map (adds_all from_start.added)) (sym (same_history old.history));
    lawful = record { lawful = λ base good clean. from_start.lawful base good clean };
    clean = λ z told. record { clean = λ base good clean p s marked. marked_is_clean k tells z told p s marked base clean };
  }

  -- what it leaves is a start for the next one
  pub run_leaves_start : new.places ≡ old.places → (rest : Legible) × (left : List ℕ) × RestsOn rest left new
  run_leaves_start places = whichever ((rest : Legible) × (left : List ℕ) × RestsOn rest left new)
      (λ state. StoryRests old.places (of m.pages state.map) (adds_all from_start.added (adds_all [] (starts_at x))))
      (limits_of sessions (units_at (now (starts_at x)) old.places)) m.map script (said from_start.added) (λ state rests. (
        of m.pages state.map,
        from_start.unread,
        record {
          history = adds_all from_start.added (adds_all [] (starts_at x));
          steady = from_start.steady unrisen;
          rests = subst (λ (n : ℕ). StoryRests n (of m.pages state.map) (adds_all from_start.added (adds_all [] (starts_at x))))
              (sym places) rests;
          apart = on.apart;
          left = from_start.left_is;
        },
      )) (from_start.rests unrisen)

-- ---- one run and another

-- a chip that tells its history goes on telling it
pub still_tells : (old new : Told) → TellsHistory old → (added : Story)
    → new.history ≡ option_map (adds_all added) old.history → TellsHistory new
still_tells old new (h, told) added grew = (adds_all added h, grew ∙ ap (option_map (adds_all added)) told)

-- what the second leaves clean, it does behind the first
pub cleanly_then : (places : ℕ) (h k : History) (old mid new : Told) → IsSteady k mid → AddsCleanly places h old mid
    → AddsCleanly places k mid new → AddsCleanly places h old new
cleanly_then places h k old mid new steady first second =
    let between = first.clean (held k.start k.story) steady.holds in record {
      added = second.added ++ first.added;
      history = second.history ∙ ap (option_map (adds_all second.added)) first.history
          ∙ history_then second.added first.added old.history;
      lawful = record {
        lawful = λ base good clean. subst IsLawful (sym (append_assoc second.added first.added base))
            (second.lawful.lawful (first.added ++ base) (first.lawful.lawful base good clean) (between.clean base good clean));
      };
      clean = λ z told. record {
        clean = λ base good clean. subst (AreClean (IsMarked places z)) (sym (append_assoc second.added first.added base))
            ((second.clean z told).clean (first.added ++ base) (first.lawful.lawful base good clean)
            (between.clean base good clean));
      };
    }
