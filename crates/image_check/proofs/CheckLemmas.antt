-- A checker finds no fault exactly where a chip stands for records, and counts them.
use Rattle.std.proofs.Common.{◌≡◌, ℕ, ◌<◌, ◌≤◌, ◌+◌, ◌*◌, ◌/◌, ◌%◌, Bool, List, [], Option, Some, None, is_some, refl, sym, ◌∙◌, ap, ap₂, subst, arith}
use Rattle.std.specs.Option.{option_or, option_map}
use Rattle.std.specs.FinMap.{get}
use Rattle.ipl_base.specs.declared.fault.ChipFault.{ChipFault}
use Rattle.ipl_base.specs.declared.fault.ImageFault.{ImageFault}
use Rattle.ipl_base.specs.declared.fault.ImageFault.TheVariants.{Chip}
use Rattle.ipl_base.specs.Sizes.{size_of_values}
use Rattle.ipl_base.proofs.FirstLemmas.{or_none, first_none, none_before}
use Rattle.std.proofs.lemmas.Bool.{false≢true}
use Rattle.chip_trait.specs.Story.{Contents}
use Rattle.ipl_model.specs.State.{Map}
use Rattle.ipl_format.specs.Page.{value_in}
use Rattle.ipl_meaning.specs.Legible.{whole}
use Rattle.ipl_meaning.specs.Chart.{Chart, chart_of}
use Rattle.ipl_meaning.specs.Values.{Values, after_records}
use Rattle.ipl_meaning.specs.Layout.{Shape, Layout, Laid, records_of}
use Rattle.ipl_meaning.specs.Stands.{Shows, Says, Stands, page_in}
use Rattle.ipl_meaning.specs.Laws.{AreOneLayout}
use Rattle.ipl_meaning.proofs.OnceLemmas.{laid_once}
use Rattle.ipl_meaning.proofs.RoomLemmas.{same_sizes}
use Rattle.ipl_meaning.proofs.SwitchLemmas.{same_applied}
use Rattle.number_set.specs.Numbers.{among}
use Rattle.ipl_meaning.specs.Faults.{shape_fault}
use Rattle.ipl_meaning.specs.First.{count_below}
use Rattle.ipl_meaning.specs.Chosen.{units_at}
use Rattle.ipl_meaning.specs.OpeningLaws.{IsByteChart}
use Rattle.ipl_meaning.specs.LaidOut.{layout_in}
use Rattle.ipl_meaning.proofs.NoFaultLemmas.{no_shape_fault_is_laid}
use Rattle.ipl_meaning.proofs.LaidLemmas.{laid_has_no_shape_fault, laid_says_its_units}
use Rattle.page_ops.specs.Pending.{fill_by}
use Rattle.page_rebuild.specs.Loaded.{loaded_values, loaded_pending}
use Rattle.page_rebuild.proofs.LoadedLemmas.{loaded_slot, sound_pages_show_values}
use Rattle.image_check.specs.Checked.{fault_of_page, fault_of_unit, pages_fault, check_fault, records_on, records_of_unit, records_below, records_in}
use Rattle.image_check.specs.Laws.{CheckedChipsStand, StandingChipsHaveNoFault, RecordsAreCounted}
use Rattle.image_check.proofs.BuildLemmas.{Built, build}
use Rattle.image_check.proofs.SumLemmas.{count_same, count_blocks}
use Rattle.image_check.proofs.NothingLemmas.{nothing_pending, fills_alone}

none_mapped : (o : Option ChipFault) → option_map (λ fault. Chip fault) o ≡ None → o ≡ None
none_mapped None e = refl
none_mapped (Some f) e = absurd (cc e)

-- ---- no fault

module _ (x : Contents) (places : ℕ) (it : Layout) (laid : Laid places (chart_of x) it)
    (none : pages_fault x it ≡ None) where
  -- the value of a name, as its page has it
  abbrev value : ℕ → Option (List ℕ)
  value n = loaded_values x it (n / 960) (n / 64 % 15) (n % 64)

  all : Built value (960 * it.count)
  all = build value (960 * it.count)

  shows : (u page : ℕ) → u < it.count → page < 15
      → Shows (chart_of x) it.committed u (it.units u) page (page_in all.map u page)
  shows u page low few =
      let of_unit = none_before (fault_of_unit x it) it.count none u low in
      let of_page = none_before (fault_of_page x it u) 15 of_unit page few in
      let (now, shown, fits) = (sound_pages_show_values x it (among []) u page).0 of_page in
      let has : (slot : ℕ) → slot < 64 → page_in all.map u page slot ≡ loaded_values x it u page slot =
      λ slot less.
      let k = 960 * u + 64 * page + slot in
      let unit : k / 960 ≡ u = omega (arith, few, less) in
      let its_page : k / 64 % 15 ≡ page = omega (arith, few, less) in
      let its_slot : k % 64 ≡ slot = omega (arith, less) in
      all.has k (omega (arith, low, few, less))
      ∙ (ap (λ (a : ℕ). loaded_values x it a (k / 64 % 15) (k % 64)) unit
      ∙ (ap (λ (b : ℕ). loaded_values x it u b (k % 64)) its_page
      ∙ ap (λ (d : ℕ). loaded_values x it u page d) its_slot)) in
      let says : (slot : ℕ) → slot < 64 → page_in all.map u page slot
      ≡ after_records it.committed page slot (records_of (it.units u).log) (value_in shown.base slot) =
      λ slot less. has slot less ∙ loaded_slot x it u page shown.base shown.reads slot less in
      record {
        base = shown.base;
        reads = shown.reads;
        says = says;
        room = omega (
          arith,
          shown.room,
          same_sizes (page_in all.map u page) now (λ slot less. says slot less ∙ sym (shown.says slot less)),
        );
      }

  pub pages_stand : (m : Map) × Stands places (chart_of x) (whole m)
  pages_stand = (
    all.map,
    record {
      layout = it;
      laid = laid;
      says = record { pages = λ u page low few reads. shows u page low few; rotten = λ u page base low few is reads. false≢true is; nowhere_else = λ n high. all.none n high };
    },
  )

pub checked_chips_stand : CheckedChipsStand
checked_chips_stand x places bytes none =
    let it = layout_in (chart_of x) places in
    let both = or_none (shape_fault (chart_of x) places) (option_map (λ fault. Chip fault) (pages_fault x it)) none in
    pages_stand x places it (no_shape_fault_is_laid (chart_of x) places bytes both.0) (none_mapped (pages_fault x it) both.1)

-- ---- a chip that stands

module _ (x : Contents) (places : ℕ) (it : Layout) (laid : Laid places (chart_of x) it) (m : Map)
    (stands : Stands places (chart_of x) (whole m)) where
  alike : AreOneLayout it stands.layout
  alike = laid_once places (chart_of x) it stands.layout laid stands.laid

  theirs : (u page : ℕ) → u < it.count → page < 15
      → Shows (chart_of x) stands.layout.committed u (it.units u) page (page_in m u page)
  theirs u page low few =
      subst (λ (s : Shape). Shows (chart_of x) stands.layout.committed u s page (page_in m u page))
      (sym (alike.units u low)) (stands.says.pages u page (omega (arith, low, alike.count)) few refl)

  shown : (u page : ℕ) → u < it.count → page < 15
      → Shows (chart_of x) it.committed u (it.units u) page (page_in m u page)
  shown u page low few =
      let other = theirs u page low few in record {
        base = other.base;
        reads = other.reads;
        says = λ slot less.
            other.says slot less
            ∙ sym (same_applied it.committed stands.layout.committed page slot (records_of (it.units u).log)
            (value_in other.base slot) (λ i d within. sym (alike.committed _)));
        room = other.room;
      }

  pub no_page_fault : pages_fault x it ≡ None
  no_page_fault =
      first_none (fault_of_unit x it) it.count (λ u low.
      first_none (fault_of_page x it u) 15 (λ page few.
      let is = shown u page low few in
      (sound_pages_show_values x it (among []) u page).1 (
        page_in m u page,
        is,
        omega (
          arith,
          is.room,
          fills_alone (page_in m u page) (loaded_pending it (among []) u page)
              (nothing_pending it u page),
        ),
      )))

  -- each name has the value of its page
  value_is : (u page slot : ℕ) → u < it.count → page < 15 → slot < 64
      → loaded_values x it u page slot ≡ get m (960 * u + (64 * page + slot))
  value_is u page slot low few less =
      let is = shown u page low few in
      let name : 960 * u + 64 * page + slot ≡ 960 * u + (64 * page + slot) = omega arith in
      loaded_slot x it u page is.base is.reads slot less
      ∙ sym (is.says slot less)
      ∙ ap (get m) name

  of_unit : (u : ℕ) → u < it.count → records_of_unit x it u ≡ count_below (λ j. is_some (get m (960 * u + j))) 960
  of_unit u low =
      count_blocks (λ j. is_some (get m (960 * u + j))) 64 (records_on x it u) 15 (λ page few.
      count_same (λ slot. is_some (loaded_values x it u page slot))
      (λ j. is_some (get m (960 * u + (64 * page + j)))) 64 (λ slot less.
      ap (λ (o : Option (List ℕ)). is_some o) (value_is u page slot low few less)))

  pub all_counted : records_below x it it.count ≡ records_in it.count m
  all_counted = count_blocks (λ n. is_some (get m n)) 960 (records_of_unit x it) it.count of_unit

pub standing_chips_have_no_fault : StandingChipsHaveNoFault
standing_chips_have_no_fault x places m bytes stands =
    let c = chart_of x in
    let shape = laid_has_no_shape_fault c places stands.layout stands.laid in
    let pages = no_page_fault x places (layout_in c places) (no_shape_fault_is_laid c places bytes shape) m stands in
    rw (shape, pages) refl

pub records_are_counted : RecordsAreCounted
records_are_counted x places m bytes stands =
    let c = chart_of x in
    let it = layout_in c places in
    let laid = no_shape_fault_is_laid c places bytes (laid_has_no_shape_fault c places stands.layout stands.laid) in
    let units : units_at c places ≡ it.count = laid_says_its_units c places it laid in
    subst (λ (n : ℕ). records_below x it n ≡ records_in n m) (sym units)
    (all_counted x places it laid m stands)
