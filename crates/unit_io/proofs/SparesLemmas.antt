-- A call that writes to one place leaves the bytes of all others; and what is wrong with a page there
-- stays wrong.
use Rattle.std.proofs.Common.{◌≡◌, ◌+◌, ◌*◌, ℕ, zero, suc, List, ◌++◌, Result, Ok, Err, OnOk, refl, sym, ◌∙◌, ap, ap₂}
use Rattle.std.specs.Option.{option_map, option_or}
use Rattle.std.specs.Prelude.{◌==◌}
use Rattle.std.proofs.lemmas.Bool.{ne_eqb}
use Rattle.chip_trait.specs.declared.event.Event.TheVariants.{Program, Erase, Barrier}
use Rattle.chip_trait.specs.Story.{Contents, after}
use Rattle.chip_trait.specs.Told.{Told}
use Rattle.ipl_base.specs.declared.fault.ChipFault.{ChipFault}
use Rattle.ipl_base.proofs.FirstLemmas.{first_alike}
use Rattle.ipl_format.specs.Sector.{sector_in}
use Rattle.ipl_format.specs.Place.{base_sector_of}
use Rattle.ipl_meaning.specs.Chart.{chart_of}
use Rattle.unit_io.specs.Charts.{Spares}
use Rattle.unit_io.specs.Faults.{page_fault, piece_fault, piece_fault_at, payload_of, text_below, text_fault}
use Rattle.unit_io.specs.Leads.{Did, Waited}

-- ---- calls

pub spares_none : (p : ℕ) (old new : Told) → new.contents ≡ old.contents → Spares p old new
spares_none p old new same x told = (x, same ∙ told, λ q s apart. refl)

pub spares_then : (p : ℕ) (old mid new : Told) → Spares p old mid → Spares p mid new
    → Spares p old new
spares_then p old mid new first second x told =
    let (y, told_y, one) = first x told in
    let (z, told_z, two) = second y told_y in
    (z, told_z, λ q s apart. two q s apart ∙ one q s apart)

pub spares_behind : {T : Type 0} (p : ℕ) (old mid new : Told) (result : Result T ChipFault)
    → Spares p old mid → OnOk result (Spares p mid new) → OnOk result (Spares p old new)
spares_behind p old mid new (Ok v) first second = spares_then p old mid new first second
spares_behind p old mid new (Err e) first second = tt

pub spares_programmed : (p s : ℕ) (bytes : List ℕ) (old new : Told)
    (result : Result (Unit {0}) ChipFault) → Did (Program p s bytes) result old new
    → OnOk result (Spares p old new)
spares_programmed p s bytes old new (Ok v) did = λ x told. (
  after (Program p s bytes) x,
  did.contents ∙ ap (option_map (after (Program p s bytes))) told,
  λ q t apart. rw (ne_eqb p q (λ same. apart (sym same))) refl,
)
spares_programmed p s bytes old new (Err e) did = tt

pub spares_erased : (p : ℕ) (old new : Told) (result : Result (Unit {0}) ChipFault)
    → Did (Erase p) result old new → OnOk result (Spares p old new)
spares_erased p old new (Ok v) did = λ x told. (
  after (Erase p) x,
  did.contents ∙ ap (option_map (after (Erase p))) told,
  λ q t apart. rw (ne_eqb p q (λ same. apart (sym same))) refl,
)
spares_erased p old new (Err e) did = tt

pub spares_waited : (p : ℕ) (old new : Told) (result : Result (Unit {0}) ChipFault)
    → Waited result old new → OnOk result (Spares p old new)
spares_waited p old new (Ok v) did = λ x told.
    (x, did.contents ∙ ap (option_map (after Barrier)) told, λ q t apart. refl)
spares_waited p old new (Err e) did = tt

-- ---- pages

module _ (x y : Contents) (place : ℕ) (same : (s : ℕ) → y place s ≡ x place s) where
  pub texts_alike : (page n : ℕ)
      → text_below (chart_of y) place page n ≡ text_below (chart_of x) place page n
  texts_alike page zero = refl
  texts_alike page (suc n) =
      ap₂ (λ (a b : List ℕ). a ++ b) (texts_alike page n)
      (ap (λ (bytes : List ℕ). payload_of (sector_in bytes)) (same (base_sector_of page n)))

  -- what is wrong with a page is so by the bytes of its place alone
  pub pages_alike : (version u g page pieces : ℕ)
      → page_fault y place version u g page pieces ≡ page_fault x place version u g page pieces
  unfolding page_fault
  pages_alike version u g page pieces =
      ap₂ option_or
      (first_alike (piece_fault_at y place version u g page pieces) (piece_fault_at x place version u g page pieces)
      pieces (λ i low. ap (piece_fault place (base_sector_of page i) version u g (page * 16 + i)
      (i + 1 == pieces)) (same (base_sector_of page i))))
      (ap (text_fault place version page) (texts_alike page pieces))
