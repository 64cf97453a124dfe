-- That nothing is used which is marked: of a chip that is opened, and behind a format.
use Rattle.std.proofs.Common.{◌≡◌, ◌≢◌, ◌<◌, ℕ, Bool, true, false, not, List, ◌++◌, Some, None, Ok, is_some, sym, ◌∙◌, ap, subst, arith}
use Rattle.std.proofs.lemmas.Bool.{ne_eqb}
use Rattle.ipl_base.specs.declared.limits.TheConstants.{SECTORS}
use Rattle.chip_trait.specs.declared.event.Event.TheVariants.{Said}
use Rattle.chip_trait.specs.Story.{Story, Contents}
use Rattle.chip_trait.specs.Chart.{says}
use Rattle.chip_trait.specs.Image.{IsNoChanceImage}
use Rattle.chip_trait.specs.Told.{History, Told, adds, adds_all}
use Rattle.chip_trait.proofs.ImageLemmas.{named_if_closed}
use Rattle.ipl_format.specs.Sector.{Sector, sector_in}
use Rattle.ipl_meaning.specs.Formatted.{formatted}
use Rattle.ipl_meaning.specs.Rests.{now}
use Rattle.ipl_meaning.specs.Marks.{MarksAreUnused}
use Rattle.restart.specs.Events.{format_events}
use Rattle.restart.specs.Fresh.{Formats}
use Rattle.ipl_cli.specs.Top.{WereUnused}

-- where marks count and where they don't
pub were_unused : (marks : Bool) (places : ℕ) (h : History) → WereUnused marks places h
    → WereUnused (not marks) places h → MarksAreUnused places h
were_unused true places h were besides = were
were_unused false places h were besides = besides

-- what is said changes nothing of that
pub said_unused : (places : ℕ) (h : History) (piece : List ℕ) → MarksAreUnused places h
    → MarksAreUnused places (adds (Said piece) h)
said_unused places h piece unused x image =
    unused x (record { image = image.image; chance = image.chance })

-- Nothing is open behind a format, so what checks in a chip that a power cut leaves is held: headers alone.
module _ (places units : ℕ) (h : History) (old new : Told)
    (did : Formats {A = Unit {0}} places units h old (Ok tt) new) where
  nothing_held : (p n : ℕ) (mark : Sector) → p < places → n < SECTORS → n ≢ 0
      → now (adds_all did.added h) p n ≢ Some mark
  nothing_held p n mark within low past here =
      let there : formatted units p n ≡ Some mark = sym (did.done.fresh.same p n within low) ∙ here in
      let none : None ≡ Some mark = rw (ne_eqb n 0 past) at there in cc none

  unmarked : (x : Contents) (p n : ℕ) (mark : Sector)
      → IsNoChanceImage (says sector_in) h.start (did.added ++ h.story) x → p < places → n < SECTORS
      → n ≢ 0 → sector_in (x p n) ≢ Some mark
  unmarked x p n mark image within low past here =
      let held_here = named_if_closed h.start (did.added ++ h.story) p n (x p n) (did.done.closed p n)
      (image.chance p n (ap is_some here)) in
      nothing_held p n mark within low past (sym (ap sector_in held_here) ∙ here)

  pub format_unused : MarksAreUnused places (adds_all (format_events places units) h)
  format_unused = subst (λ (s : Story). MarksAreUnused places (adds_all s h)) did.done.exact
      (λ x image p n marked used.
      let counts = marked.marked.counts.is in
      unmarked x marked.layout.status marked.marked.number marked.marked.mark image
      marked.laid.chosen.within counts.where_it_is.1
      (λ none. omega (arith, none, counts.where_it_is.0)) counts.here)
