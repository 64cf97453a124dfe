-- What each program makes of the marks, in all that a power cut may leave.
use Rattle.std.proofs.Common.{◌≡◌, ◌≢◌, ◌⊎◌, ℕ, ◌<◌, ◌∷◌, List, false, ◌&&◌, eqb, Some, None, inl, inr, refl, sym, ◌∙◌, ap, subst, arith}
use Rattle.std.proofs.lemmas.Bool.{cases_Bool, false_from_ne_true, and_parts, eqb-true, eq-eqb, ne_eqb}
use Rattle.chip_trait.specs.declared.event.Event.TheVariants.{Program}
use Rattle.chip_trait.specs.Story.{Story, Contents, held}
use Rattle.chip_trait.specs.Image.{is_worn, IsNoChanceImage, IsQuiet, IsClosed, KeepsWorn}
use Rattle.chip_trait.specs.Lawful.{Used, age}
use Rattle.chip_trait.specs.Chart.{says, with_sector}
use Rattle.chip_trait.specs.Told.{History, adds}
use Rattle.chip_trait.proofs.AgeLemmas.{age_apart}
use Rattle.chip_trait.proofs.ImageLemmas.{held_is_named, image_if_closed, headers_in_quiet}
use Rattle.chip_trait.proofs.ProgramLemmas.{part_in_quiet, headers_there, without, without_is_image, without_is_whole, there, as_with, as_without}
use Rattle.chip_trait.proofs.ClosedLemmas.{held_program}
use Rattle.chip_trait.proofs.LossLemmas.{put}
use Rattle.ipl_meaning.specs.Legible.{Legible}
use Rattle.ipl_format.specs.Sector.{Sector, sector_in}
use Rattle.ipl_format.specs.Record.{Record}
use Rattle.ipl_format.proofs.SectorLemmas.{blank_says_nothing}
use Rattle.ipl_meaning.specs.Chart.{Chart, chart_of, IsOverflow}
use Rattle.ipl_meaning.specs.Layout.{Layout, Laid}
use Rattle.ipl_meaning.specs.Rests.{now, StoryRests}
use Rattle.ipl_meaning.specs.Steps.{IsPart, MayLog, with_log, entry_at}
use Rattle.ipl_meaning.specs.Rests.{IsUntouched}
use Rattle.ipl_meaning.specs.Marks.{IsMarkedUnit, IsMarked, MarksAreUnused}
use Rattle.ipl_meaning.specs.MarkLaws.{AsidesKeepMarks, LogSectorsKeepMarks, ProgramsKeepMarks}
use Rattle.ipl_meaning.proofs.IdleLemmas.{idle_places_do_not_count, bare_is_idle, bare_comes_to_nothing}
use Rattle.ipl_meaning.proofs.WaitLemmas.{log_sectors_wait}
use Rattle.ipl_meaning.proofs.PartLemmas.{still_laid, may_log_there}
use Rattle.ipl_meaning.proofs.ApartLemmas.{homes_apart, home_not_over, none_still}
use Rattle.ipl_meaning.proofs.LogFollowLemmas.{same_home, same_head}
use Rattle.ipl_meaning.proofs.StoryLemmas.{put_same, put_left, log_sectors_keep}
use Rattle.ipl_meaning.proofs.MarkLemmas.{marked_by_status, marked_before}
use Rattle.ipl_meaning.proofs.MarkStoryLemmas.{in_layout, marked_there, marked_put}

-- ---- a program

module _ (places : ℕ) (m : Legible) (h : History) (p s : ℕ) (bytes : List ℕ) (sector : Sector) (rests : StoryRests places m h)
    (untouched : IsUntouched h p s) (spelled : sector_in bytes ≡ Some sector) (x : Contents)
    (image : IsNoChanceImage (says sector_in) h.start (Program p s bytes ∷ h.story) x) where
  -- the image as it would be without the program
  abbrev pub before : Contents
  before = without sector_in blank_says_nothing h.start h.story rests.quiet p s bytes sector untouched.1 untouched.0 spelled x

  pub earlier : IsNoChanceImage (says sector_in) h.start h.story before
  earlier = without_is_image sector_in blank_says_nothing h.start h.story rests.quiet p s bytes sector untouched.1 untouched.0 spelled x image

  -- the sector is there, or the chart is that of before
  pub with_or_without : ((chart_of x p s ≡ Some sector) × (chart_of x ≡ with_sector (chart_of before) p s sector)) ⊎ (chart_of x ≡ chart_of before)
  with_or_without =
      let found = there sector_in blank_says_nothing h.start h.story rests.quiet p s bytes sector untouched.1 untouched.0 spelled x image
      (sector_in (x p s)) refl in
      elim found [
        | inl some ↦ inl (some, as_with sector_in blank_says_nothing h.start h.story rests.quiet p s bytes sector untouched.1 untouched.0 spelled x some)
        | inr none ↦ inr (as_without sector_in blank_says_nothing h.start h.story rests.quiet p s bytes sector untouched.1 untouched.0 spelled x none)
      ]

  -- nothing was there before
  pub free_before : chart_of before p s ≡ None
  free_before = rw (eq-eqb p p refl, eq-eqb s s refl) blank_says_nothing

  -- a place without a header had none
  pub bare_before : now h p 0 ≡ None → chart_of before p 0 ≡ None
  bare_before bare = ap sector_in (headers_in_quiet h.start h.story before rests.quiet earlier.image p untouched.2) ∙ bare

  -- and another place had what it has
  pub same_away : (q t : ℕ) → p ≢ q → before q t ≡ x q t
  same_away q t apart = rw (ne_eqb p q apart) refl

  -- what is marked was so before, where its unit was, and it isn't the sector itself
  pub unused_then : MarksAreUnused places h → (it : Layout) → Laid places (chart_of before) it → (q n u : ℕ) → u < it.count
      → q ≡ (it.units u).home → IsMarkedUnit (chart_of before) it u → (eqb p q && eqb s n) ≡ false → IsMarked places x q n
      → age (Program p s bytes ∷ h.story) q n ≢ Used
  unused_then unused it laid q n u low home unit apart marked used =
      unused before earlier q n (marked_there places x before it q n u laid low home unit (rw apart refl) marked)
      (sym (age_apart h.story p s bytes q n apart) ∙ used)

pub asides_keep_marks : AsidesKeepMarks
asides_keep_marks places m h p s bytes sector rests untouched spelled bare other unused x image q n marked =
    let z = before places m h p s bytes sector rests untouched spelled x image in
    let z_is = earlier places m h p s bytes sector rests untouched spelled x image in
    let away = same_away places m h p s bytes sector rests untouched spelled x image in
    let stands = (rests.each.1 z z_is).stands in
    let kt = stands.layout in
    let bare_z = bare_before places m h p s bytes sector rests untouched spelled x image bare in
    let idle = bare_is_idle places (chart_of z) kt p stands.laid bare_z in
    let y = with_sector (chart_of z) p s sector in
    let bare_y = none_still (chart_of z) p s sector p 0 bare_z (λ _ at. other (sym at)) in
    let nothing = bare_comes_to_nothing places (chart_of z) kt p stands.laid bare_z y bare_y in
    let laid_y = (idle_places_do_not_count places (chart_of z) kt p y stands.laid idle (λ r t apart. rw (ne_eqb p r (λ is. apart (sym is))) refl) nothing).0 in
    let laid_x : Laid places (chart_of x) kt = elim (with_or_without places m h p s bytes sector rests untouched spelled x image) [
      | inl (some, same) ↦ rw same laid_y
      | inr same ↦ rw same stands.laid
    ] in
    let (u, low, home, unit) = in_layout places x kt q n laid_x marked in
    let elsewhere : p ≢ q = λ at. idle.not_home u low (sym home ∙ sym at) in
    unused_then places m h p s bytes sector rests untouched spelled x image unused kt stands.laid q n u low home
    (marked_by_status (chart_of z) (chart_of x) kt kt (λ t. ap sector_in (sym (away kt.status t (λ at. idle.not_status (sym at))))) refl u refl unit)
    (rw (ne_eqb p q elsewhere) refl) marked

-- ---- a log sector

-- where nothing is lost at worn places
module _ (places : ℕ) (m : Legible) (h : History) (it : Layout) (u p s : ℕ) (bytes : List ℕ) (sector : Sector) (records : List Record)
    (rests : StoryRests places m h) (untouched : IsUntouched h p s) (spelled : sector_in bytes ≡ Some sector) (laid : Laid places (now h) it)
    (may : MayLog places (now h) it u p s sector records) (unused : MarksAreUnused places h)
    (x : Contents) (image : IsNoChanceImage (says sector_in) h.start (Program p s bytes ∷ h.story) x)
    (whole : KeepsWorn h.start (Program p s bytes ∷ h.story) x) (q n : ℕ) (marked : IsMarked places x q n) where
  abbrev z : Contents
  z = before places m h p s bytes sector rests untouched spelled x image

  z_is : IsNoChanceImage (says sector_in) h.start h.story z
  z_is = earlier places m h p s bytes sector rests untouched spelled x image

  abbrev kt : Layout
  kt = (rests.each.1 z z_is).stands.layout

  laid_z : Laid places (chart_of z) kt
  laid_z = (rests.each.1 z z_is).stands.laid

  part : IsPart (chart_of z) (now h)
  part = record {
    each = part_in_quiet sector_in blank_says_nothing h.start h.story z rests.quiet z_is;
    headers = headers_there sector_in h.start h.story z rests.quiet z_is
        (without_is_whole sector_in blank_says_nothing h.start h.story rests.quiet p s bytes sector untouched.1 untouched.0 spelled x whole);
  }

  may_z : MayLog places (chart_of z) kt u p s sector records
  may_z = may_log_there places (chart_of z) (now h) part kt it laid_z laid u p s sector records may

  -- no marked unit stands where the log sector may go
  not_marked : (v : ℕ) → v < kt.count → p ≡ (kt.units v).home → ¬ IsMarkedUnit (chart_of z) kt v
  not_marked v low home is = elim may_z.counts [
    | inl at_home ↦
        let same : u ≡ v = homes_apart places (chart_of z) kt laid_z u v may_z.unit low (sym at_home.0 ∙ home) in
        let has = rw (← same) at is.has in
        let passed = may_z.unmarked at_home.0 is.number is.mark is.counts.is has in
        let behind : (kt.units u).head.serial < is.mark.serial = rw (← same) at is.behind in
        omega (arith, passed, behind)
    | inr over ↦ home_not_over places (chart_of z) kt laid_z v low (subst (IsOverflow (chart_of z)) home over.0)
  ]

  pub log_keeps_marks : age (Program p s bytes ∷ h.story) q n ≢ Used
  log_keeps_marks = elim (with_or_without places m h p s bytes sector rests untouched spelled x image) [
    | inl (some, same) ↦
        let new = with_log kt u (entry_at p s sector records) in
        let laid_x : Laid places (chart_of x) new = rw same (log_sectors_wait places (chart_of z) kt u p s sector records laid_z may_z).0 in
        let (v, low, home, unit) = in_layout places x new q n laid_x marked in
        let head = same_head places (chart_of z) kt u p s sector records may_z v in
        let home_z = home ∙ same_home places (chart_of z) kt u p s sector records may_z v in
        let unit_z = marked_before (chart_of z) kt p s sector may_z.free (λ is. omega (arith, is, may_z.kind)) new refl refl v head (rw same at unit) in
        unused_then places m h p s bytes sector rests untouched spelled x image unused kt laid_z q n v low home_z unit_z
        (elim (cases_Bool (eqb p q && eqb s n)) [
          | inl here ↦ absurd (
              let both = and_parts _ _ here in
              let none : chart_of x p s ≡ None = rw (eqb-true p q both.0, eqb-true s n both.1) (ap sector_in marked.is_blank ∙ blank_says_nothing) in
              cc (none, some))
          | inr apart ↦ apart
        ]) marked
    | inr same ↦
        let (v, low, home, unit) = in_layout places x kt q n (rw same laid_z) marked in
        let unit_z : IsMarkedUnit (chart_of z) kt v = rw same at unit in
        unused_then places m h p s bytes sector rests untouched spelled x image unused kt laid_z q n v low home unit_z
        (elim (cases_Bool (eqb p q && eqb s n)) [
          | inl here ↦ absurd (not_marked v low (eqb-true p q (and_parts _ _ here).0 ∙ home) unit_z)
          | inr apart ↦ apart
        ]) marked
  ]

pub log_sectors_keep_marks : LogSectorsKeepMarks
log_sectors_keep_marks places m h it u p s bytes sector records rests untouched spelled laid may unused x image q n marked =
    let k : History = adds (Program p s bytes) h in
    let rests_k = log_sectors_keep places m h it u p s bytes sector records rests untouched spelled laid may in
    let new = with_log it u (entry_at p s sector records) in
    let laid_k : Laid places (now k) new = rw (held_program sector_in h.start h.story p s bytes sector spelled)
    (log_sectors_wait places (now h) it u p s sector records laid may).0 in
    let y = put sector_in blank_says_nothing k.start k.story rests_k.quiet (is_worn k.story) (λ r worn. worn) x in
    let y_is = whole_is_image k.start k.story rests_k.quiet x image in
    let (was, off) = marked_put places m k rests_k new laid_k (is_worn k.story) (λ r worn. worn) (rests_k.worn new laid_k) x y_is
    (λ r t other on told. part_in_quiet sector_in blank_says_nothing k.start k.story x rests_k.quiet image r t other told) q n marked in
    log_keeps_marks places m h it u p s bytes sector records rests untouched spelled laid may unused y y_is (λ r t worn. rw worn refl) q n was
  where
    whole_is_image : (start : Contents) (story : Story) (quiet : IsQuiet start story) (x : Contents) → IsNoChanceImage (says sector_in) start story x
        → IsNoChanceImage (says sector_in) start story (put sector_in blank_says_nothing start story quiet (is_worn story) (λ r worn. worn) x)
    whole_is_image start story quiet x image = record {
      image = λ r t. elim (cases_Bool (is_worn story r)) [
        | inl worn ↦ rw worn (inl (held_is_named start story r t))
        | inr lasting ↦ rw lasting (elim (image.image r t) [ inl named ↦ inl named | inr torn ↦ inr (rw lasting at torn.0, torn.1) ])
      ];
      chance = λ r t told. elim (cases_Bool (is_worn story r)) [
        | inl worn ↦ rw worn (held_is_named start story r t)
        | inr lasting ↦ rw lasting (image.chance r t (rw lasting at told))
      ];
    }

-- ---- where nothing else is open

module _ (places : ℕ) (m : Legible) (h : History) (it : Layout) (rests : StoryRests places m h) (closed : IsClosed h.story) (laid : Laid places (now h) it)
    (z : Contents) (image : IsNoChanceImage (says sector_in) h.start h.story z) where
  pub as_held : (q t : ℕ) → is_worn h.story q ≡ false → z q t ≡ held h.start h.story q t
  as_held q t lasting = image_if_closed h.start h.story z q t (closed q t) lasting image.image

  pub what_is_left : (q t : ℕ) (sector : Sector) → chart_of z q t ≡ Some sector → now h q t ≡ Some sector
  what_is_left q t sector told = part_in_quiet sector_in blank_says_nothing h.start h.story z rests.quiet image q t sector told

  pub laid_there : Laid places (chart_of z) it
  laid_there = (still_laid places (now h) (chart_of z) it (is_worn h.story) laid (λ q on. rests.worn it laid q on)
      (λ q t off. ap sector_in (as_held q t off)) (λ q t sector on told. what_is_left q t sector told)).0

  pub status_as_held : (t : ℕ) → z it.status t ≡ held h.start h.story it.status t
  status_as_held t = as_held it.status t (false_from_ne_true (is_worn h.story it.status) (λ worn. (rests.worn it laid it.status worn).not_status refl))

  pub home_as_held : (u t : ℕ) → u < it.count → z (it.units u).home t ≡ held h.start h.story (it.units u).home t
  home_as_held u t low = as_held (it.units u).home t
      (false_from_ne_true (is_worn h.story (it.units u).home) (λ worn. (rests.worn it laid (it.units u).home worn).not_home u low refl))

pub programs_keep_marks : ProgramsKeepMarks
programs_keep_marks places m h p s bytes sector rests closed untouched spelled worn no_more unused x image q n marked =
    let z = before places m h p s bytes sector rests untouched spelled x image in
    let z_is = earlier places m h p s bytes sector rests untouched spelled x image in
    let it = no_more.before in
    let laid = no_more.laid_before in
    let laid_z = laid_there places m h it rests closed laid z z_is in
    let finish = unused_then places m h p s bytes sector rests untouched spelled x image unused it laid_z q n in
    let elsewhere : (u : ℕ) → u < it.count → q ≡ (it.units u).home → (eqb p q && eqb s n) ≡ false = λ u low home.
    rw (ne_eqb p q (λ at. no_more.no_home u low (sym home ∙ sym at))) refl in
    elim (with_or_without places m h p s bytes sector rests untouched spelled x image) [
      | inl (some, same) ↦
          let new = no_more.then in
          let y = with_sector (now h) p s sector in
          let idle = worn new no_more.laid_then in
          let same_now : (r t : ℕ) → is_worn h.story r ≡ false → with_sector (chart_of z) p s sector r t ≡ y r t = λ r t off.
          put_same (chart_of z) (now h) p s sector r t (ap sector_in (as_held places m h it rests closed laid z z_is r t off)) in
          let laid_x : Laid places (chart_of x) new = rw same (still_laid places y (with_sector (chart_of z) p s sector) new (is_worn h.story)
          no_more.laid_then idle
          same_now (λ r t other on. put_left (chart_of z) (now h) p s sector r t other (what_is_left places m h it rests closed laid z z_is r t other))).0 in
          let (u, low, home, unit) = in_layout places x new q n laid_x marked in
          let lasting : is_worn h.story new.status ≡ false = false_from_ne_true (is_worn h.story new.status) (λ on. (idle new.status on).not_status refl) in
          let as_then : (t : ℕ) → chart_of x new.status t ≡ y new.status t = λ t. ap (λ (c : Chart). c new.status t) same ∙ same_now new.status t lasting in
          let (low_before, was, at) = no_more.each u low (marked_by_status y (chart_of x) new new as_then refl u refl unit) in
          let home_before : q ≡ (it.units u).home = home ∙ sym at in
          finish u low_before home_before
          (marked_by_status (chart_of z) (now h) it it (λ t. ap sector_in (sym (status_as_held places m h it rests closed laid z z_is t))) refl u refl was)
          (elsewhere u low_before home_before) marked
      | inr same ↦
          let (u, low, home, unit) = in_layout places x it q n (rw same laid_z) marked in
          finish u low home (rw same at unit) (elsewhere u low home) marked
    ]
