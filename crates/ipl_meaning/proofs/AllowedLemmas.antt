-- A page is rebuilt from the allowed sectors alone.
use Rattle.std.proofs.Common.{◌≡◌, ℕ, ◌<◌, Some, inl, inr, refl, ◌∙◌, sym}
use Rattle.std.specs.List.{Contains}
use Rattle.std.proofs.lemmas.List.Elements.{All-contains}
use Rattle.ipl_format.specs.Page.{value_in}
use Rattle.ipl_meaning.specs.Chart.{Chart}
use Rattle.ipl_meaning.specs.Values.{Values}
use Rattle.ipl_meaning.specs.Layout.{Entry, Layout, Laid, IsEntry}
use Rattle.ipl_meaning.specs.Masks.{of_page}
use Rattle.ipl_meaning.specs.Stands.{Shows}
use Rattle.ipl_meaning.specs.Allowed.{IsAllowed}
use Rattle.ipl_meaning.specs.Laws.{with_page_log, AllowedSectorsSuffice}
use Rattle.ipl_meaning.proofs.MaskLemmas.{page_applied, page_has}

module _ (places : ℕ) (c y : Chart) (it : Layout) (u page : ℕ) (laid : Laid places c it) (low : u < it.count) (same : (p s : ℕ) → IsAllowed it u page p s → y p s ≡ c p s) where
  entry_there : (e : Entry) → Contains (of_page page (it.units u).log) e → y e.place e.number ≡ Some e.sector
  entry_there e listed =
      let (has, is) = page_has page (it.units u).log e listed in
      let entry = All-contains (IsEntry c places u (it.units u).home (it.units u).head.generation) (it.units u).log e (laid.each u low).log.each has in
      same e.place e.number (inr (record { entry = e; has = has; place = refl; number = refl; of_page = is })) ∙ entry.live.here

  shown : (now : Values) → Shows c it.committed u (it.units u) page now → Shows y it.committed u (with_page_log (it.units u) page) page now
  shown now was = let r = was.reads in record {
    base = was.base;
    reads = record { fits = r.fits; cut = r.cut; here = λ i within. same (it.units u).home _ (inl (refl, inr (i, within, refl))) ∙ r.here i within };
    says = λ slot less. was.says slot less ∙ sym (page_applied it.committed page slot (it.units u).log (value_in was.base slot));
    room = was.room;
  }

pub allowed_sectors_suffice : AllowedSectorsSuffice
allowed_sectors_suffice places c y it u page now laid low same was = record {
  head = same (it.units u).home 0 (inl (refl, inl refl)) ∙ (laid.each u low).chosen.here;
  shows = shown places c y it u page laid low same now was;
  log = entry_there places c y it u page laid low same;
}
