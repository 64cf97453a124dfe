-- The bytes of a place that wasn't free, behind calls that take free places alone; and a page's fault there,
-- which stands as long as they do.
use Rattle.std.proofs.Common.{◌≡◌, ◌≢◌, ◌≤◌, ◌<◌, ◌==◌, ◌&&◌, ◌||◌, ℕ, suc, Bool, true, false, List, [], ◌∷◌, ◌++◌, length, Option, Some, None, slice_index, Result, Ok, Err, IfErr, inl, inr, refl, sym, ◌∙◌, ap, ap₂, subst, arith}
use Rattle.std.specs.Prelude.{if◌then◌else◌}
use Rattle.std.specs.Option.{option_map, option_or}
use Rattle.std.proofs.lemmas.Bool.{cases_Bool, eqb-true, false≢true}
use Rattle.std.proofs.lemmas.Option.{same_Some}
use Rattle.std.proofs.Math.Path.{fun_ext}
use Rattle.chip_trait.specs.declared.event.Event.TheVariants.{Read, Program, Erase, Worn, Barrier, Said}
use Rattle.chip_trait.specs.Story.{Story, Contents, held}
use Rattle.chip_trait.specs.Told.{History, Told, IsConsistent, adds_all}
use Rattle.ipl_base.specs.declared.fault.ChipFault.{ChipFault}
use Rattle.ipl_base.specs.declared.fault.ChipFault.TheVariants.{Stopped}
use Rattle.ipl_base.specs.Calls.{IsFailedCall}
use Rattle.ipl_meaning.specs.Chart.{chart_of}
use Rattle.ipl_meaning.specs.Layout.{Shape, Layout, Laid, records_of}
use Rattle.ipl_meaning.specs.Mirrors.{Mirrors}
use Rattle.ipl_meaning.specs.Tables.{Places, IsFree, Tables}
use Rattle.ipl_meaning.proofs.OnceLemmas.{laid_once}
use Rattle.number_set.specs.Numbers.{among}
use Rattle.unit_io.specs.Charts.{Charts}
use Rattle.unit_io.specs.Costs.{Spends, is_erased, is_tried, programs_outside}
use Rattle.unit_io.proofs.SparesLemmas.{pages_alike, texts_alike}
use Rattle.place_taking.specs.Homes.{HomesAreUsed}
use Rattle.place_taking.specs.Spending.{ErasesFree}
use Rattle.place_taking.proofs.HomeLemmas.{tried_free}
use Rattle.selective_merge.specs.Merging.{StaysMirrored}
use Rattle.page_ops.specs.Rebuilt.{values_of, with_records}
use Rattle.page_rebuild.specs.Loaded.{fill_fault, load_fault, loaded_pending}
use Rattle.page_frames.specs.Faulty.{TellsStory, FaultStands, StandsThen}
use Rattle.page_frames.specs.InPlace.{IsUnitUntouched, StaysUntouched}

-- ---- events

neither : (a b : Bool) → (a || b) ≡ false → (a ≡ false) × (b ≡ false)
neither true b none = absurd (false≢true (sym none))
neither false b none = (refl, none)

-- a place that wasn't tried wasn't erased
unerased : (added : Story) (p : ℕ) → is_tried added p ≡ false → is_erased added p ≡ false
unerased [] p none = refl
unerased (Read q s ∷ older) p none = unerased older p none
unerased (Program q s bytes ∷ older) p none = unerased older p none
unerased (Erase q ∷ older) p none =
    let (apart, rest) = neither (q == p) (is_tried older p) none in
    rw (apart, unerased older p rest) refl
unerased (Worn q ∷ older) p none =
    unerased older p (neither (q == p) (is_tried older p) none).1
unerased (Barrier ∷ older) p none = unerased older p none
unerased (Said piece ∷ older) p none = unerased older p none

-- where nothing is programmed but what was erased before, it holds what it held
pub held_untried : (start : Contents) (story added : Story) (p s : ℕ) → is_tried added p ≡ false
    → programs_outside added ≤ 0 → held start (added ++ story) p s ≡ held start story p s
held_untried start story [] p s none within = refl
held_untried start story (Read q t ∷ older) p s none within =
    held_untried start story older p s none within
held_untried start story (Program q t bytes ∷ older) p s none within =
    by_test (is_erased older q) (q == p) refl refl (held_untried start story older p s none)
  where
    by_test : (a b : Bool) → is_erased older q ≡ a → (q == p) ≡ b
        → (programs_outside older ≤ 0 → held start (older ++ story) p s ≡ held start story p s)
        → (if (q == p) && (t == s) then bytes else held start (older ++ story) p s) ≡ held start story p s
    by_test false b erased at before =
        let few = subst (λ (e : Bool). (if e then programs_outside older else suc (programs_outside older)) ≤ 0)
        erased within in absurd (omega (arith, few))
    by_test true true erased at before =
        let same : q ≡ p = eqb-true q p at in
        let never = subst (λ (n : ℕ). is_erased older n ≡ true) same erased in
        absurd (false≢true (sym (unerased older p none) ∙ never))
    by_test true false erased at before =
        let few = subst (λ (e : Bool). (if e then programs_outside older else suc (programs_outside older)) ≤ 0)
        erased within in
        rw at (before few)
held_untried start story (Erase q ∷ older) p s none within =
    let (apart, rest) = neither (q == p) (is_tried older p) none in
    rw apart (held_untried start story older p s rest within)
held_untried start story (Worn q ∷ older) p s none within =
    held_untried start story older p s (neither (q == p) (is_tried older p) none).1 within
held_untried start story (Barrier ∷ older) p s none within =
    held_untried start story older p s none within
held_untried start story (Said piece ∷ older) p s none within =
    held_untried start story older p s none within

-- ---- a call that takes free places alone

untaken : (before after : Places) (n p : ℕ) (worn_out : Bool) (added : Story) → ¬ IsFree before p
    → ErasesFree before after n worn_out added → is_tried added p ≡ false
untaken before after n p worn_out added used does = elim (cases_Bool (is_tried added p)) [
  | inl is ↦ absurd (used (tried_free before after added does.tries p is))
  | inr none ↦ none
]

-- a place that wasn't free has the bytes that it had
pub used_untouched : (before after : Places) (n p : ℕ) (worn_out : Bool) (old new : Told) (x y : Contents)
    → IsConsistent old → IsConsistent new → ¬ IsFree before p
    → Spends (ErasesFree before after n worn_out) old new → old.contents ≡ Some x
    → new.contents ≡ Some y → TellsStory new → (s : ℕ) → y p s ≡ x p s
used_untouched before after n p worn_out old new x y was is used spends told told_y (k, story) s =
    by_history old.history refl
  where
    by_history : (h : Option History) → old.history ≡ h → y p s ≡ x p s
    by_history None none =
        let clash = sym story ∙ spends.history ∙ ap (option_map (adds_all spends.added)) none in cc clash
    by_history (Some h) some =
        let now = spends.history ∙ ap (option_map (adds_all spends.added)) some in
        let before_is = same_Some x (held h.start h.story)
        (sym told ∙ was.replayed h some (was.settled x told)) in
        let after_is = same_Some y (held h.start (spends.added ++ h.story))
        (sym told_y ∙ is.replayed (adds_all spends.added h) now (is.settled y told_y)) in
        ap (λ (z : Contents). z p s) after_is
        ∙ held_untried h.start h.story spends.added p s
        (untaken before after n p worn_out spends.added used spends.does) spends.does.costs.programmed
        ∙ sym (ap (λ (z : Contents). z p s) before_is)

-- so where it leaves the layout, a unit is untouched
pub unit_untouched : {T : Type 0} (t after : Tables) (n u : ℕ) (worn_out : Bool) (result : Result T ChipFault)
    (old new : Told) → IsConsistent old → IsConsistent new → new.places ≡ old.places
    → HomesAreUsed t.places → u < length t.places.current
    → Spends (ErasesFree t.places after.places n worn_out) old new
    → IfErr result (λ e. e ≢ Stopped → Charts (StaysMirrored old.places t after) old new)
    → StaysUntouched t u after result old new
unit_untouched t after n u worn_out (Ok v) old new was is sized used low spends tells x told it mirrors = tt
unit_untouched t after n u worn_out (Err e) old new was is sized used low spends tells x told it mirrors = λ fine.
    let (y, there, still) = tells (λ stopped. fine (subst IsFailedCall (sym stopped) tt)) x told in
    let unit : u < it.count = omega (arith, low, mirrors.directory.units) in
    let home = mirrors.directory.current u unit in record {
      contents = y;
      told = there;
      mirrors = subst (λ (places : ℕ). Mirrors places (chart_of y) it after) (sym sized) (still it mirrors).0;
      bytes = λ story. subst (λ (p : ℕ). (s : ℕ) → y p s ≡ x p s) home
          (used_untouched t.places after.places n (slice_index t.places.current u) worn_out old new x y was is
          (used u low) spends told there story);
    }

-- ---- what is wrong with a page

-- by the bytes of its unit's place alone
load_alike : (x y : Contents) (it : Layout) (active : ℕ → Bool) (u page : ℕ)
    → ((s : ℕ) → y (it.units u).home s ≡ x (it.units u).home s)
    → load_fault y it active u page ≡ load_fault x it active u page
load_alike x y it active u page same =
    let unit = it.units u in
    let pieces = slice_index unit.pieces page in
    ap₂ option_or
    (pages_alike x y unit.home same unit.head.version u unit.head.generation page pieces)
    (ap (λ (text : List ℕ). fill_fault unit.home
    (with_records it.committed page (records_of unit.log) (values_of unit.head.version text))
    (loaded_pending it active u page))
    (texts_alike x y unit.home same page pieces))

-- in whatever layout the chart has
load_once : (places : ℕ) (x : Contents) (it now : Layout) (active : ℕ → Bool) (u page : ℕ)
    → Laid places (chart_of x) it → Laid places (chart_of x) now → u < it.count
    → load_fault x it active u page ≡ load_fault x now active u page
load_once places x it now active u page laid other low =
    let one = laid_once places (chart_of x) it now laid other in
    ap₂ (λ (shape : Shape) (committed : ℕ → Bool).
    load_fault x (record it { committed = committed; units = λ v. shape }) active u page)
    (one.units u low) (fun_ext one.committed)

-- it stands then, where the unit is untouched
pub untouched_stands : (x : Contents) (it : Layout) (t after : Tables) (u page : ℕ) (e : ChipFault)
    (new : Told) → u < it.count → after.active ≡ t.active
    → load_fault x it (among t.active) u page ≡ Some e → IsUnitUntouched x it u after new
    → StandsThen after new u page e
untouched_stands x it t after u page e new low alike found is story y told now mirrors =
    let same = same_Some is.contents y (sym is.told ∙ told) in
    let theirs = subst (λ (z : Contents). Mirrors new.places (chart_of z) it after) same is.mirrors in
    let bytes = subst (λ (z : Contents). (s : ℕ) → z (it.units u).home s ≡ x (it.units u).home s) same
    (is.bytes story) in
    sym (load_once new.places y it now (among after.active) u page theirs.laid mirrors.laid low)
    ∙ ap (λ (l : List ℕ). load_fault y it (among l) u page) alike
    ∙ load_alike x y it (among t.active) u page bytes ∙ found

-- or where nothing was written at all
pub read_stands : (x : Contents) (it : Layout) (t after : Tables) (u page : ℕ) (e : ChipFault)
    (old new : Told) → u < it.count → after ≡ t → Mirrors old.places (chart_of x) it t
    → new.places ≡ old.places → new.contents ≡ old.contents → old.contents ≡ Some x
    → load_fault x it (among t.active) u page ≡ Some e → FaultStands after new u page e
read_stands x it t after u page e old new low same mirrors sized kept told found y there now theirs =
    let here = same_Some x y (sym told ∙ sym kept ∙ there) in
    let laid = subst (λ (z : Contents). Laid new.places (chart_of z) it) here
    (subst (λ (n : ℕ). Laid n (chart_of x) it) (sym sized) mirrors.laid) in
    sym (load_once new.places y it now (among after.active) u page laid theirs.laid low)
    ∙ ap (λ (w : Tables). load_fault y it (among w.active) u page) same
    ∙ subst (λ (z : Contents). load_fault z it (among t.active) u page ≡ Some e) here found
