-- The masks of what a merge carried.
use Rattle.std.proofs.Common.{◌≡◌, ℕ, zero, suc, ◌<◌, ◌≤◌, ◌+◌, ◌-◌, List, [], ◌∷◌, length, slice_index, refl, ◌∙◌, ap, arith}
use Rattle.ipl_base.specs.declared.limits.TheConstants.{VERSION}
use Rattle.ipl_format.specs.Record.{Record, log_bytes}
use Rattle.ipl_meaning.specs.Layout.{Entry}
use Rattle.ipl_meaning.specs.Masks.{mask_at}
use Rattle.ipl_meaning.specs.Steps.{entry_at}
use Rattle.ipl_meaning.proofs.MaskLemmas.{stands_here, stands_away}
use Rattle.selective_merge.specs.Packs.{log_sector, entries_from, masks_of_packs}
use Rattle.selective_merge.specs.Merged.{packs_in}
use Rattle.selective_merge.specs.Laws.{PacksAreTold}

masks_size : (n : ℕ) (packs : List (List Record)) → length (masks_of_packs n packs) ≡ n
masks_size zero packs = refl
masks_size (suc n) [] = ap suc (masks_size n [])
masks_size (suc n) (records ∷ packs) = ap suc (masks_size n packs)

none_masked : (n i : ℕ) → slice_index (masks_of_packs n []) i ≡ 0
none_masked zero i = refl
none_masked (suc n) zero = refl
none_masked (suc n) (suc i) = none_masked n i

pack_masked : (p u g : ℕ) (n i s serial : ℕ) (packs : List (List Record)) → i < n → length packs ≤ n
    → slice_index (masks_of_packs n packs) i ≡ mask_at (entries_from p u g s serial packs) p (s + i)
pack_masked p u g zero i s serial packs less few = absurd (omega (arith, less))
pack_masked p u g (suc n) i s serial [] less few = none_masked (suc n) i
pack_masked p u g (suc n) zero s serial (records ∷ packs) less few =
    let e : Entry = entry_at p s (log_sector u g serial (log_bytes VERSION records)) records in
    rw (stands_here e p (s + 0) refl (omega arith)) refl
pack_masked p u g (suc n) (suc i) s serial (records ∷ packs) less few =
    let e : Entry = entry_at p s (log_sector u g serial (log_bytes VERSION records)) records in
    rw (stands_away e p (s + suc i) (λ place number. omega (arith, number)))
    (pack_masked p u g n i (s + 1) (serial + 1) packs (omega (arith, less)) (omega (arith, few))
    ∙ ap (mask_at (entries_from p u g (s + 1) (serial + 1) packs) p) (omega arith))

pub packs_are_told : PacksAreTold
packs_are_told t before after it u p head pieces serial few generation home elsewhere = record {
  generation = generation;
  masks = masks_of_packs 15 (packs_in t it);
  sectors = masks_size 15 (packs_in t it);
  each = λ s least most.
      pack_masked p u head.generation 15 (s - 241) 241 serial (packs_in t it) (omega (arith, least, most)) (omega (arith, few))
      ∙ ap (mask_at (entries_from p u head.generation 241 serial (packs_in t it)) p) (omega (arith, least));
  home = home;
  elsewhere = elsewhere;
}
