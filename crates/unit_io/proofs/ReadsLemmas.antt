-- Reads, one after another.
use Rattle.std.proofs.Common.{◌≡◌, ◌≤◌, ◌<◌, ◌+◌, ℕ, zero, suc, [], ◌∷◌, inl, inr, refl, ◌∙◌, ap, arith, add-one}
use Rattle.std.specs.Option.{option_map}
use Rattle.std.proofs.lemmas.Iterator.Adapters.{option_map_id}
use Rattle.std.proofs.lemmas.List.Elements.{All-cons}
use Rattle.chip_trait.specs.declared.event.Event.{Event}
use Rattle.chip_trait.specs.declared.event.Event.TheVariants.{Read, Program, Erase, Worn, Barrier, Said}
use Rattle.chip_trait.specs.Story.{Story}
use Rattle.chip_trait.specs.Told.{Told, Appends, Misses, adds}
use Rattle.chip_trait.proofs.HistoryLemmas.{same_history, history_then}
use Rattle.ipl_format.specs.Place.{base_sector_of}
use Rattle.unit_io.specs.Reads.{Reads, page_reads, IsPageRead}
use Rattle.unit_io.specs.Laws.{PageReadsAreOfThePage}

pub reads_none : (t : Told) → Reads [] t t
reads_none t = record { places = refl; settled = refl; history = same_history t.history; contents = refl }

module _ (added : Story) (p s : ℕ) (first mid new : Told) (so_far : Reads added first mid) where
  pub reads_more : Appends (Read p s) mid new → Reads (Read p s ∷ added) first new
  reads_more did = record {
    places = did.places ∙ so_far.places;
    settled = did.settled ∙ so_far.settled;
    history = did.history ∙ (ap (option_map (adds (Read p s))) so_far.history ∙ history_then (Read p s ∷ []) added first.history);
    contents = did.contents ∙ (option_map_id mid.contents ∙ so_far.contents);
  }

  reads_same : (places : new.places ≡ mid.places) (settled : new.settled ≡ mid.settled) → new.history ≡ mid.history → new.contents ≡ mid.contents → Reads added first new
  reads_same places settled history contents = record {
    places = places ∙ so_far.places;
    settled = settled ∙ so_far.settled;
    history = history ∙ so_far.history;
    contents = contents ∙ so_far.contents;
  }

  reads_tried : Misses (Read p s) mid new → new.history ≡ option_map (adds (Read p s)) mid.history → Reads (Read p s ∷ added) first new
  reads_tried missed some = record {
    places = missed.places ∙ so_far.places;
    settled = missed.settled ∙ so_far.settled;
    history = some ∙ (ap (option_map (adds (Read p s))) so_far.history ∙ history_then (Read p s ∷ []) added first.history);
    contents = missed.contents ∙ so_far.contents;
  }

-- one base sector more
pub page_more : (place page n : ℕ) (first mid new : Told) → Reads (page_reads place page n) first mid → Appends (Read place (base_sector_of page n)) mid new
    → Reads (page_reads place page (n + 1)) first new
page_more place page n first mid new so_far did =
    rw (add-one n) (reads_more (page_reads place page n) place (base_sector_of page n) first mid new so_far did)

-- or a read that failed
pub page_missed : (place page pieces n : ℕ) (first mid new : Told) → n < pieces → Reads (page_reads place page n) first mid → Misses (Read place (base_sector_of page n)) mid new
    → (k : ℕ) × (k ≤ pieces) × Reads (page_reads place page k) first new
page_missed place page pieces n first mid new few so_far missed = elim missed.history [
  | inl some ↦ (suc n, omega (arith, few), reads_tried (page_reads place page n) place (base_sector_of page n) first mid new so_far missed some)
  | inr none ↦ (n, omega (arith, few), reads_same (page_reads place page n) place (base_sector_of page n) first mid new so_far missed.places missed.settled none missed.contents)
]

-- ---- which they are

wider : (place page n : ℕ) (e : Event) → IsPageRead place page n e → IsPageRead place page (suc n) e
wider place page n (Read p s) (here, at) = (here, (at.0, omega (arith, at.1)))
wider place page n (Program p s bytes) none = absurd none
wider place page n (Erase p) none = absurd none
wider place page n Barrier none = absurd none
wider place page n (Worn q) none = absurd none
wider place page n (Said piece) none = absurd none

pub page_reads_of : PageReadsAreOfThePage
page_reads_of place page zero = λ i d within. absurd (omega arith)
page_reads_of place page (suc n) =
    All-cons (IsPageRead place page (suc n)) (Read place (base_sector_of page n)) (page_reads place page n) (refl, (omega arith, omega arith))
    (λ i d within. wider place page n _ (page_reads_of place page n i d within))
