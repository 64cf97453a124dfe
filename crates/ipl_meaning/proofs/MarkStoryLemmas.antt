-- What each call makes of the marks, in all that a power cut may leave.
use Rattle.std.proofs.Common.{◌≡◌, ℕ, ◌<◌, ◌∷◌, Bool, true, false, ◌||◌, eqb, Some, inl, inr, refl, ◌∙◌, ap, subst}
use Rattle.std.proofs.lemmas.Bool.{cases_Bool, false_from_ne_true, eqb-true}
use Rattle.chip_trait.specs.declared.event.Event.TheVariants.{Erase, Worn}
use Rattle.chip_trait.specs.Story.{Contents}
use Rattle.chip_trait.specs.Image.{is_worn, IsNoChanceImage}
use Rattle.chip_trait.specs.Lawful.{Age, Unknown, Erased, Clean, Used, settled, age}
use Rattle.chip_trait.specs.Chart.{says}
use Rattle.chip_trait.specs.Told.{History}
use Rattle.chip_trait.proofs.ImageLemmas.{held_is_named, image_before_barrier}
use Rattle.chip_trait.proofs.ProgramLemmas.{part_in_quiet}
use Rattle.chip_trait.proofs.LossLemmas.{put, put_headers, lossy, covers_worn, put_is_image, left_there}
use Rattle.ipl_meaning.specs.Legible.{Legible}
use Rattle.ipl_format.specs.Sector.{Sector, sector_in}
use Rattle.ipl_format.proofs.SectorLemmas.{blank_says_nothing}
use Rattle.ipl_meaning.specs.Chart.{chart_of}
use Rattle.ipl_meaning.specs.Layout.{Shape, Layout, Laid}
use Rattle.ipl_meaning.specs.Rests.{now, StoryRests}
use Rattle.ipl_meaning.specs.Steps.{IsPart, IsIdle}
use Rattle.ipl_meaning.specs.Marks.{IsMarkedUnit, IsMarked}
use Rattle.ipl_meaning.specs.MarkLaws.{IdleEventsKeepMarks, ErasesKeepMarks, WornsKeepMarks}
use Rattle.ipl_meaning.proofs.OnceLemmas.{laid_once}
use Rattle.ipl_meaning.proofs.PartLemmas.{losses_do_not_count, idle_there}
use Rattle.ipl_meaning.proofs.MarkLemmas.{marked_by_status}

-- ---- what is marked

-- what is marked is at the home of a marked unit, in each layout of the contents
pub in_layout : (places : ℕ) (x : Contents) (it : Layout) (p n : ℕ) → Laid places (chart_of x) it → IsMarked places x p n
    → (u : ℕ) × (u < it.count) × (p ≡ (it.units u).home) × IsMarkedUnit (chart_of x) it u
in_layout places x it p n laid is =
    let one = laid_once places (chart_of x) is.layout it is.laid laid in
    let unit = one.units is.unit is.within in (
      is.unit,
      subst (λ (k : ℕ). is.unit < k) one.count is.within,
      is.home ∙ ap (λ (z : Shape). z.home) unit,
      marked_by_status (chart_of x) (chart_of x) it is.layout (λ s. ap (λ (q : ℕ). chart_of x q s) one.status) one.head is.unit
          (ap (λ (z : Shape). z.head) unit) is.marked,
    )

-- the same sector is marked in other contents, where it stands at the home of a marked unit and holds the same bytes
pub marked_there : (places : ℕ) (x z : Contents) (it : Layout) (p n u : ℕ) → Laid places (chart_of z) it → u < it.count → p ≡ (it.units u).home
    → IsMarkedUnit (chart_of z) it u → z p n ≡ x p n → IsMarked places x p n → IsMarked places z p n
marked_there places x z it p n u laid low home unit bytes is = record {
  layout = it;
  laid = laid;
  unit = u;
  within = low;
  home = home;
  marked = unit;
  region = is.region;
  is_blank = bytes ∙ is.is_blank;
}

-- ---- events that program nothing

settled_used : (a : Age) → settled a ≡ Used → a ≡ Used
settled_used Unknown is = is
settled_used Erased is = absurd (cc is)
settled_used Clean is = absurd (cc is)
settled_used Used is = refl

pub idle_events_keep_marks : IdleEventsKeepMarks
idle_events_keep_marks places h = (
  λ p s unused x image. unused x (record { image = image.image; chance = image.chance }),
  λ piece unused x image. unused x (record { image = image.image; chance = image.chance }),
  λ unused x image q n marked used. unused x (image_before_barrier _ h.start h.story x image) q n marked (settled_used (age h.story q n) used),
)

-- idle places may lose what they have
module _ (places : ℕ) (m : Legible) (h : History) (rests : StoryRests places m h) (it : Layout) (laid : Laid places (now h) it) (w : ℕ → Bool)
    (covers : (q : ℕ) → is_worn h.story q ≡ true → w q ≡ true) (all_idle : (q : ℕ) → w q ≡ true → IsIdle places (now h) it q) (x : Contents)
    (image : IsNoChanceImage (says sector_in) h.start h.story (put sector_in blank_says_nothing h.start h.story rests.quiet w covers x))
    (left : (q t : ℕ) (sector : Sector) → w q ≡ true → chart_of x q t ≡ Some sector → now h q t ≡ Some sector) where
  -- what is marked was so with nothing lost, and stands at none of these places
  pub marked_put : (q n : ℕ) → IsMarked places x q n
      → IsMarked places (put sector_in blank_says_nothing h.start h.story rests.quiet w covers x) q n × (w q ≡ false)
  marked_put q n marked =
      let z = put sector_in blank_says_nothing h.start h.story rests.quiet w covers x in
      let stands = (rests.each.1 z image).stands in
      let kt = stands.layout in
      let part : IsPart (chart_of z) (now h) = record {
        each = part_in_quiet sector_in blank_says_nothing h.start h.story z rests.quiet image;
        headers = put_headers sector_in blank_says_nothing h.start h.story rests.quiet w covers x image;
      } in
      let idle_z : (r : ℕ) → w r ≡ true → IsIdle places (chart_of z) kt r = λ r on.
      idle_there places (chart_of z) (now h) part kt it stands.laid laid r (all_idle r on) in
      let laid_x = (losses_do_not_count places (now h) (chart_of z) (chart_of x) it kt w laid stands.laid part all_idle (λ r s off. rw off refl) left).0 in
      let (u, low, home, unit) = in_layout places x kt q n laid_x marked in
      let status_off : w kt.status ≡ false = false_from_ne_true (w kt.status) (λ on. (idle_z kt.status on).not_status refl) in
      let off : w q ≡ false = rw home (false_from_ne_true (w (kt.units u).home) (λ on. (idle_z (kt.units u).home on).not_home u low refl)) in
      let unit_z = marked_by_status (chart_of z) (chart_of x) kt kt (λ s. rw status_off refl) refl u refl unit in
      (marked_there places x z kt q n u stands.laid low home unit_z (rw off refl) marked, off)

-- this place and the worn ones are idle
these_are_idle : (places : ℕ) (m : Legible) (h : History) (it : Layout) (p : ℕ) → StoryRests places m h → Laid places (now h) it → IsIdle places (now h) it p
    → (q : ℕ) → (eqb p q || is_worn h.story q) ≡ true → IsIdle places (now h) it q
these_are_idle places m h it p rests laid idle q on = elim (cases_Bool (eqb p q)) [
  | inl here ↦ rw (← eqb-true p q here) idle
  | inr elsewhere ↦ rests.worn it laid q (rw elsewhere at on)
]

pub erases_keep_marks : ErasesKeepMarks
erases_keep_marks places m h it p rests laid within idle unused x image q n marked used =
    let quiet = rests.quiet in
    let w : ℕ → Bool = lossy sector_in blank_says_nothing h.start h.story quiet p in
    let covers = covers_worn sector_in blank_says_nothing h.start h.story quiet p in
    let earlier = put_is_image sector_in blank_says_nothing h.start h.story quiet p x image in
    let (was, off) = marked_put places m h rests it laid w covers (these_are_idle places m h it p rests laid idle) x earlier
    (λ r t sector on told. left_there sector_in blank_says_nothing h.start h.story quiet p x image r t sector told) q n marked in
    unused _ earlier q n was (age_off (is_worn h.story q) off used)
  where
    age_off : (b : Bool) → (eqb p q || b) ≡ false → age (Erase p ∷ h.story) q n ≡ Used → age h.story q n ≡ Used
    age_off b off now_used = elim (cases_Bool (eqb p q)) [
      | inl here ↦ absurd (let no = rw here at off in cc no)
      | inr elsewhere ↦ rw elsewhere at now_used
    ]

pub worns_keep_marks : WornsKeepMarks
worns_keep_marks places m h it p rests laid idle unused x image q n marked used =
    let quiet = rests.quiet in
    let w : ℕ → Bool = lossy sector_in blank_says_nothing h.start h.story quiet p in
    let covers = covers_worn sector_in blank_says_nothing h.start h.story quiet p in
    let earlier : IsNoChanceImage (says sector_in) h.start h.story (put sector_in blank_says_nothing h.start h.story quiet w covers x) = record {
      image = λ r t. elim (cases_Bool (w r)) [
        | inl on ↦ rw on (inl (held_is_named h.start h.story r t))
        | inr off ↦ rw off (elim (image.image r t) [ inl named ↦ inl named | inr torn ↦ inr (rw (apart r off) at torn.0, torn.1) ])
      ];
      chance = λ r t told. elim (cases_Bool (w r)) [
        | inl on ↦ rw on (held_is_named h.start h.story r t)
        | inr off ↦ rw off (image.chance r t (rw off at told))
      ];
    } in
    let (was, off) = marked_put places m h rests it laid w covers (these_are_idle places m h it p rests laid idle) x earlier
    (λ r t sector on told. part_in_quiet sector_in blank_says_nothing h.start (Worn p ∷ h.story) x quiet image r t sector told) q n marked in
    unused _ earlier q n was (rw (apart q off) at used)
  where
    apart : (r : ℕ) → (eqb p r || is_worn h.story r) ≡ false → eqb p r ≡ false
    apart r off = elim (cases_Bool (eqb p r)) [
      | inl here ↦ absurd (let no = rw here at off in cc no)
      | inr elsewhere ↦ elsewhere
    ]
