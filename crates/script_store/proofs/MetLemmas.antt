-- The fault that ends a call of the store was met: over what the chip held before the call, or after it.
use Rattle.std.proofs.Common.{ℕ, ◌≡◌, ◌⊎◌, ◌++◌, Bool, false, [], Some, Err, inl, inr, refl, sym, ◌∙◌, ap, subst, arith}
use Rattle.chip_trait.specs.Story.{Story, Contents, held}
use Rattle.chip_trait.specs.Told.{History, Told, adds_all}
use Rattle.ipl_base.specs.Calls.{IsFailedCall}
use Rattle.ipl_base.specs.declared.fault.ChipFault.{ChipFault}
use Rattle.ipl_base.specs.declared.fault.ChipFault.TheVariants.{ReadFault, Stopped}
use Rattle.ipl_base.specs.declared.fault.ImageFault.{ImageFault}
use Rattle.ipl_base.specs.declared.fault.ImageFault.TheVariants as image
use Rattle.ipl_base.specs.declared.fault.StoreFault.TheVariants as store
use Rattle.ipl_model.specs.State.{State, Limits}
use Rattle.ipl_meaning.specs.Chart.{chart_of}
use Rattle.ipl_meaning.specs.Faults.{first_fault}
use Rattle.ipl_meaning.specs.LaidOut.{layout_in}
use Rattle.ipl_meaning.specs.Mirrors.{Mirrors}
use Rattle.ipl_meaning.specs.Tables.{Tables}
use Rattle.ipl_meaning.proofs.NoFaultLemmas.{no_fault_is_laid}
use Rattle.page_frames.specs.Faulty.{TellsStory}
use Rattle.page_frames.specs.Pages.{tables_in}
use Rattle.restart.specs.Recovers.{IsOpeningFault, FailsApart}
use Rattle.store_laws.specs.Advances.{MemoryFits}
use Rattle.store_laws.specs.Keeps.{KnownPages, KeepsStore}
use Rattle.ipl_store.specs.Calls.{memory_of_store, view_of, BlamesPages}
use Rattle.ipl_store.specs.Openings.{Tries}
use Rattle.script_store.specs.declared.store.ScriptStore.{ScriptStore}
use Rattle.script_store.specs.Met.{IsOfAPage, IsMetFault, ImageMet}

module _ (known : KnownPages) (places : ℕ) (a b : ScriptStore) (before after : Told) (limits : Limits) (state : State)
    (h : History) (added : Story) (was : KeepsStore places known.pages limits (view_of a.store) before h state)
    (is : KeepsStore places known.pages limits (view_of b.store) after (adds_all added h) state) (up : a.store.down ≡ false)
    (still : b.store.down ≡ false) (units : b.store.units ≡ a.store.units) (here : before.places ≡ places)
    (there : after.places ≡ places) where
  pub call_met : (T : Type 0) (e : ChipFault) → BlamesPages {T = T} a.store before (Err (store.Chip e)) b.store after
      → TellsStory after → IsMetFault places e (adds_all added h)
  call_met T e blames tells unfailed =
      let shown = (was.up up).shows in
      let then = (is.up still).shows in
      let fits = shown.fits in
      let bad = blames (held h.start h.story) was.steady.holds shown.layout state
      (subst (λ (n : ℕ). MemoryFits n (chart_of (held h.start h.story)) shown.layout (memory_of_store a.store) state)
      (sym here) fits) in
      let same : e ≡ bad.0 = cc bad.1 in
      let named = bad.2 (λ failed. unfailed (subst IsFailedCall (sym same) failed)) in
      elim named.found [
        | inl found ↦ record {
          later = added;
          earlier = h.story;
          split = refl;
          found = inr (record {
            layout = shown.layout;
            laid = fits.mirrors.laid;
            unit = named.unit;
            low = named.low;
            found = inr (_, named.page, named.few, found ∙ ap Some (sym same));
          });
        }
        | inr found ↦ record {
          later = [];
          earlier = added ++ h.story;
          split = refl;
          found = inr (record {
            layout = then.layout;
            laid = then.fits.mirrors.laid;
            unit = named.unit;
            low = (let low = named.low in omega (arith, low, shown.count, then.count, units));
            found = inr (
              _,
              named.page,
              named.few,
              found tells (held h.start (added ++ h.story)) is.steady.holds
                  then.layout (subst (λ (n : ℕ). Mirrors n (chart_of (held h.start (added ++ h.story))) then.layout
                  (tables_in b.store.transactions.pages)) (sym there) then.fits.mirrors) ∙ ap Some (sym same),
            );
          });
        }
      ]

-- what ended an opening was met: over what the chip held then
pub opening_met : (marks : Bool) (places : ℕ) (e : ImageFault) (before after : Told) (t : Tables)
    → Tries marks places before (Err e) t after → (h : History) (added : Story)
    → before.contents ≡ Some (held h.start h.story) → ImageMet places e (adds_all added h)
opening_met marks places image.Geometry before after t tries h added told = tt
opening_met marks places image.NotFormatted before after t tries h added told = tt
opening_met marks places (image.Missing u) before after t tries h added told = tt
opening_met marks places image.Spent before after t tries h added told = tt
opening_met marks places (image.NoSpare n) before after t tries h added told = tt
opening_met marks places image.TooManyNumbers before after t tries h added told = tt
opening_met marks places (image.Chip e) before after t tries h added told = λ unfailed.
    record {
      later = added;
      earlier = h.story;
      split = refl;
      found = by_fault (alone unfailed) (tries.tells x told (alone unfailed));
    }
  where
    x : Contents
    x = held h.start h.story

    no_room : image.Chip e ≡ image.TooManyNumbers → ⊥
    no_room is = cc is

    alone : ¬ IsFailedCall e → ¬ FailsApart (image.Chip e)
    alone unfailed (inr is) = no_room is
    alone unfailed (inl (f, is, failed)) = let same : e ≡ f = cc is in unfailed (subst IsFailedCall (sym same) failed)

    by_fault : ¬ FailsApart (image.Chip e) → IsOpeningFault places x (image.Chip e)
        → (first_fault (chart_of x) places ≡ Some (image.Chip e)) ⊎ IsOfAPage places x e
    by_fault called (inl first) = inl first
    by_fault called (inr (none, is)) =
        let bytes = tries.bytes x told (λ read. called (inl (ReadFault, read, tt)))
        (λ stopped. called (inl (Stopped, stopped, tt))) no_room
        (inr none) in
        let chip = is.is in
        let same : is.fault ≡ e = cc chip in
        inr (record {
          layout = layout_in (chart_of x) places;
          laid = no_fault_is_laid (chart_of x) places bytes none;
          unit = is.unit;
          low = is.low;
          found = inl (is.page ∙ ap Some same);
        })
