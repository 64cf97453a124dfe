-- Calls that program no log sector and no commit sector.
use Rattle.std.proofs.Common.{◌≡◌, ℕ, List, [], ◌∷◌, ◌++◌, Some, Result, Ok, Err, inl, inr, sym, ◌∙◌, ap, append_assoc, option_map, subst}
use Rattle.std.proofs.lemmas.Option.{same_Some}
use Rattle.chip_trait.specs.declared.event.Event.{Event}
use Rattle.chip_trait.specs.declared.event.Event.TheVariants.{Barrier}
use Rattle.chip_trait.specs.Story.{Story}
use Rattle.chip_trait.specs.Told.{Told, adds, adds_all}
use Rattle.ipl_base.specs.declared.fault.ChipFault.{ChipFault}
use Rattle.unit_io.specs.Leads.{Did, Waited}
use Rattle.ipl_format.specs.Sector.{Sector, sector_in}
use Rattle.unit_io.specs.Plain.{IsPlain, IsPlainSector, IsPlainEvent, ArePlain, AddsPlain}

pub are_plain_both : (later earlier : Story) → ArePlain later → ArePlain earlier → ArePlain (later ++ earlier)
are_plain_both [] earlier one other = other
are_plain_both (e ∷ later) earlier one other = (one.0, are_plain_both later earlier one.1 other)

pub plain_none : (t : Told) → AddsPlain t t
plain_none t h told = ([], tt, told)

pub plain_then : (old mid new : Told) → AddsPlain old mid → AddsPlain mid new → AddsPlain old new
plain_then old mid new first second h told =
    let (earlier, plain, history) = first h told in
    let (later, plain_too, then) = second (adds_all earlier h) history in
    (later ++ earlier, are_plain_both later earlier plain_too plain, then ∙ ap (λ (s : Story). Some (record { start = h.start; story = s })) (sym (append_assoc later earlier h.story)))

-- one event was added, or it wasn't
plain_one : (e : Event) (old new : Told) → IsPlainEvent e → new.history ≡ option_map (adds e) old.history → AddsPlain old new
plain_one e old new plain history h told = (e ∷ [], (plain, tt), history ∙ ap (option_map (adds e)) told)

plain_same : (old new : Told) → new.history ≡ old.history → AddsPlain old new
plain_same old new same h told = ([], tt, same ∙ told)

pub plain_did : (e : Event) (old new : Told) → IsPlainEvent e → (result : Result (Unit {0}) ChipFault) → Did e result old new → AddsPlain old new
plain_did e old new plain (Ok u) did = plain_one e old new plain did.history
plain_did e old new plain (Err fault) did = elim did.history [
  | inl added ↦ plain_one e old new plain added
  | inr same ↦ plain_same old new same
]

pub plain_waited : (old new : Told) (result : Result (Unit {0}) ChipFault) → Waited result old new → AddsPlain old new
plain_waited old new (Ok u) did = plain_one Barrier old new tt did.history
plain_waited old new (Err fault) did = plain_same old new did.history

-- bytes that say one sector say no other
pub plain_said : (bytes : List ℕ) (sector : Sector) → sector_in bytes ≡ Some sector → IsPlainSector sector → IsPlain bytes
plain_said bytes sector said plain other is = subst IsPlainSector (same_Some _ _ (sym said ∙ is)) plain
