-- The masks of payloads are those of their packs.
use Rattle.std.proofs.Common.{◌≡◌, ℕ, zero, suc, ◌<◌, ◌+◌, List, [], ◌∷◌, get_or, slice_set, take, length, refl, ◌∙◌, ap, ap₂, arith}
use Rattle.std.specs.List.{All}
use Rattle.std.proofs.lemmas.List.Elements.{All-head, All-tail}
use Rattle.log_records.specs.View.{Versioned}
use Rattle.ipl_base.specs.declared.limits.TheConstants.{VERSION}
use Rattle.ipl_format.specs.Record.{Record, IsRecord, log_bytes}
use Rattle.log_records.specs.Reading.{records_of}
use Rattle.log_records.proofs.RecordsLemmas.{records_list}
use Rattle.ipl_meaning.specs.Masks.{mask_of}
use Rattle.selective_merge.specs.Packs.{payloads_of, masks_of_packs}
use Rattle.selective_merge.specs.Packing.{masks_of_payloads}

-- the records of a payload
abbrev pub read : Versioned → List Record
read p = records_of p.version p.bytes

pub one_more_mask : (n i : ℕ) (payloads : List Versioned) (d : Versioned) → i < n → i < length payloads
    → slice_set (masks_of_payloads n (take i payloads)) i (mask_of (read (get_or payloads i d)))
    ≡ masks_of_payloads n (take (i + 1) payloads)
one_more_mask n i payloads d less within =
    let next : suc i ≡ i + 1 = omega arith in
    go n i payloads less within ∙ ap (λ (k : ℕ). masks_of_payloads n (take k payloads)) next
  where
    go : (n i : ℕ) (payloads : List Versioned) → i < n → i < length payloads
        → slice_set (masks_of_payloads n (take i payloads)) i (mask_of (read (get_or payloads i d)))
        ≡ masks_of_payloads n (take (suc i) payloads)
    go zero i payloads less within = absurd (omega (arith, less))
    go (suc n) i [] less within = absurd (omega (arith, within))
    go (suc n) zero (payload ∷ payloads) less within = refl
    go (suc n) (suc i) (payload ∷ payloads) less within =
        ap (λ (l : List ℕ). mask_of (read payload) ∷ l) (go n i payloads (omega (arith, less)) (omega (arith, within)))

pub packs_masks : (n : ℕ) (packs : List (List Record)) → All (All (IsRecord VERSION)) packs
    → masks_of_payloads n (payloads_of packs) ≡ masks_of_packs n packs
packs_masks zero packs valid = refl
packs_masks (suc n) [] valid = ap (λ (l : List ℕ). 0 ∷ l) (packs_masks n [] valid)
packs_masks (suc n) (records ∷ packs) valid =
    ap₂ (λ (m : ℕ) (l : List ℕ). m ∷ l)
    (ap mask_of (records_list VERSION records (log_bytes VERSION records) (record { bytes = refl; valid = All-head (All (IsRecord VERSION)) records packs valid })))
    (packs_masks n packs (All-tail (All (IsRecord VERSION)) records packs valid))
