-- From bytes to charts.
use Rattle.std.proofs.Common.{Some, ◌≡◌, ◌≢◌, ◌⊎◌, ℕ, None, inl, inr, refl, sym, ◌∙◌, subst, List, arith, eqb, ◌&&◌, ◌||◌, Bool, [], ◌∷◌, ◌<◌, true, false}
use Rattle.std.proofs.lemmas.Bool.{cases_Bool, and_parts, eqb-true, ne_eqb, eq-eqb}
use Rattle.chip_trait.specs.declared.event.Event.{Event}
use Rattle.chip_trait.specs.declared.event.Event.TheVariants.{Read, Program, Erase, Worn, Barrier, Said}
use Rattle.chip_trait.specs.Story.{Story, Contents, held}
use Rattle.chip_trait.specs.Image.{is_worn, IsNamedValue, IsNoChanceImage, IsQuiet}
use Rattle.chip_trait.specs.Chart.{with_sector, says}
use Rattle.chip_trait.specs.Moment.{AtEachMoment}
use Rattle.chip_trait.specs.Told.{History, adds, adds_all}
use Rattle.chip_trait.proofs.MomentLemmas.{at_end, at_part}
use Rattle.chip_trait.proofs.ImageLemmas.{held_is_named, held_is_image, image_before_barrier, closed_is_quiet}
use Rattle.chip_trait.proofs.ClosedLemmas.{held_program, closed_means, program_leads}
use Rattle.chip_trait.proofs.ProgramLemmas.{EachWholeMeans, part_in_quiet, headers_there, program_keeps}
use Rattle.chip_trait.proofs.LossLemmas.{Loses, each_by_whole, worn_keeps, erase_keeps}
use Rattle.ipl_format.specs.Sector.{Sector, sector_in}
use Rattle.ipl_format.specs.Record.{Record}
use Rattle.ipl_format.proofs.SectorLemmas.{blank_says_nothing}
use Rattle.ipl_meaning.specs.Chart.{Chart, chart_of}
use Rattle.ipl_meaning.specs.Layout.{Entry, Layout, Laid}
use Rattle.ipl_meaning.specs.Stands.{StandsIn}
use Rattle.ipl_meaning.specs.Legible.{Legible, whole}
use Rattle.ipl_meaning.specs.Rests.{now, EachStands, EachStandsIn, EachStandsEither, EachStandsEitherIn, WornAreIdle, StoryRests}
use Rattle.ipl_meaning.specs.Steps.{IsPart, KeepsPages, IsIdle, MayLog, with_log, entry_at}
use Rattle.ipl_meaning.specs.StoryLaws.{QuietImagesAreParts, HeldStands, RestsOnce, StoriesAgree, FewerPagesRest, ChipsRestOnce, ClosedRests, BarriersRest, BarriersKeepEither, ReadsKeep, SaysKeep, WornsKeep, ErasesKeep, LogSectorsKeep, AsidesKeep, ProgramsLead, OneIsEither, EitherIsKept, MomentsKeepUnits}
use Rattle.ipl_meaning.proofs.OnceLemmas.{same_count, stands_once, charts_agree, fewer_pages_say}
use Rattle.ipl_meaning.proofs.StandsLemmas.{stands_by}
use Rattle.ipl_meaning.proofs.IdleLemmas.{idle_places_do_not_count, bare_is_idle, bare_comes_to_nothing}
use Rattle.ipl_meaning.proofs.WaitLemmas.{log_sectors_wait}
use Rattle.ipl_meaning.proofs.PartLemmas.{losses_do_not_count, still_laid, idle_once, idle_still, may_log_there}

-- away from where the sector is put, the chart is as before
apart_at : (c : Chart) (p s : ℕ) (sector : Sector) (q t : ℕ) → (eqb p q && eqb s t) ≡ false → with_sector c p s sector q t ≡ c q t
apart_at c p s sector q t other = rw other

away : (c : Chart) (p s : ℕ) (sector : Sector) (q t : ℕ) → q ≢ p → with_sector c p s sector q t ≡ c q t
away c p s sector q t apart = apart_at c p s sector q t (rw (ne_eqb p q (λ is. apart (sym is))))

apart_from : (c : Chart) (p s : ℕ) (sector : Sector) (t : ℕ) → s ≢ t → c p t ≡ None → with_sector c p s sector p t ≡ None
apart_from c p s sector t other none = apart_at c p s sector p t (rw (eq-eqb p p refl, ne_eqb s t other)) ∙ none

pub quiet_images_are_parts : QuietImagesAreParts
quiet_images_are_parts h x quiet image whole = record {
  each = part_in_quiet sector_in blank_says_nothing h.start h.story x quiet image;
  headers = headers_there sector_in h.start h.story x quiet image whole;
}

-- what stands in so many units does in as many
in_units : (places : ℕ) {few many : ℕ} {y : Chart} {n : Legible} → few ≡ many → StandsIn places few y n → StandsIn places many y n
in_units places same is = record { stands = is.stands; count = is.count ∙ same }

-- where idle places may lose what they have, a chart stands for the same map
loses_keep : (places units : ℕ) (m : Legible) (h : History) (quiet : IsQuiet h.start h.story) (w : ℕ → Bool) (it : Layout) → Laid places (now h) it → ((q : ℕ) → w q ≡ true → IsIdle places (now h) it q)
    → Loses sector_in blank_says_nothing h.start h.story quiet (λ c. StandsIn places units c m) w
loses_keep places units m h quiet w it laid idle c y part headers same left is =
    let stands = is.stands in
    let whole : IsPart c (now h) = record { each = part; headers = headers } in
    in_units places is.count
    (stands_by places m c y stands.layout stands.layout (losses_do_not_count places (now h) c y it stands.layout w laid stands.laid whole idle same left) refl stands.says)

-- what is held stands in as many units as all images
held_in : (places : ℕ) (m : Legible) (h : History) (each : EachStands places m h) → StandsIn places each.0 (now h) m
held_in places m h each = each.1 (held h.start h.story) (held_is_image _ h.start h.story)

pub held_stands : HeldStands
held_stands places m h each = (held_in places m h each).stands

-- in as many as each layout of it has
pub rests_in_units : (places : ℕ) (m : Legible) (h : History) (it : Layout) (rests : StoryRests places m h) → Laid places (now h) it → rests.each.0 ≡ it.count
rests_in_units places m h it rests laid =
    let is = held_in places m h rests.each in
    sym is.count ∙ same_count places (now h) is.stands.layout it is.stands.laid laid

pub rests_once : RestsOnce
rests_once places m n h one other = stands_once places (now h) m n (held_stands places (whole m) h one.each) (held_stands places (whole n) h other.each)

pub stories_agree : StoriesAgree
stories_agree places m n h one other = charts_agree places (now h) m n (held_stands places m h one.each) (held_stands places n h other.each)

pub fewer_pages_rest : FewerPagesRest
fewer_pages_rest places m reads h fewer rests = record {
  quiet = rests.quiet;
  each = (
    rests.each.0,
    λ x image. let is = rests.each.1 x image in record { stands = record { layout = is.stands.layout; laid = is.stands.laid; says = fewer_pages_say places (chart_of x) is.stands.layout m reads fewer is.stands.says }; count = is.count },
  );
  worn = rests.worn;
}

pub chips_rest_once : ChipsRestOnce
chips_rest_once m n t one other =
    let both : Some one.history ≡ Some other.history = sym one.told ∙ other.told in
    let same : one.history ≡ other.history = cc both in
    rests_once t.places m n other.history (rw same at one.story) other.story

pub closed_rests : ClosedRests
closed_rests places m h closed stands worn =
    let quiet = closed_is_quiet h.start h.story closed in
    record {
      quiet = quiet;
      each = (
        stands.layout.count,
        each_by_whole sector_in blank_says_nothing h.start h.story quiet (λ c. StandsIn places stands.layout.count c m)
            (loses_keep places stands.layout.count m h quiet (is_worn h.story) stands.layout stands.laid (worn stands.layout stands.laid))
            (closed_means sector_in (λ c. StandsIn places stands.layout.count c m) h.start h.story closed (record { stands = stands; count = refl })),
      );
      worn = worn;
    }

pub barriers_rest : BarriersRest
barriers_rest places m h stands worn = closed_rests places m (adds Barrier h) (λ p s. refl) stands (λ it laid p is. worn it laid p (and_parts _ _ is).0)

pub barriers_keep_either : BarriersKeepEither
barriers_keep_either places m n h each = (each.0, λ x image. each.1 x (image_before_barrier _ h.start h.story x image))

pub reads_keep : ReadsKeep
reads_keep places m h p s rests = record { quiet = rests.quiet; each = (rests.each.0, λ x is. rests.each.1 x (record { image = is.image; chance = is.chance })); worn = rests.worn }

pub says_keep : SaysKeep
says_keep places m h piece rests = record { quiet = rests.quiet; each = (rests.each.0, λ x is. rests.each.1 x (record { image = is.image; chance = is.chance })); worn = rests.worn }

-- one place more that is idle
module _ (places : ℕ) (h : History) (it : Layout) (laid : Laid places (now h) it) (p : ℕ) (idle : IsIdle places (now h) it p) (worn : WornAreIdle places h.story (now h)) where
  and_these : (q : ℕ) → (eqb p q || is_worn h.story q) ≡ true → IsIdle places (now h) it q
  and_these q on = elim (cases_Bool (eqb p q)) [
    | inl here ↦ rw (← eqb-true p q here) idle
    | inr elsewhere ↦ worn it laid q (rw elsewhere at on)
  ]

pub worns_keep : WornsKeep
worns_keep places m h it p rests laid idle = record {
  quiet = rests.quiet;
  each = (
    rests.each.0,
    each_by_whole sector_in blank_says_nothing h.start (Worn p ∷ h.story) rests.quiet (λ c. StandsIn places rests.each.0 c m)
        (loses_keep places rests.each.0 m (adds (Worn p) h) rests.quiet (is_worn (Worn p ∷ h.story)) it laid (and_these places h it laid p idle rests.worn))
        (worn_keeps sector_in blank_says_nothing h.start h.story rests.quiet (λ c. StandsIn places rests.each.0 c m) p rests.each.1),
  );
  worn = λ jt other q on. idle_once places (now h) it jt laid other q (and_these places h it laid p idle rests.worn q on);
}

-- the chart once the place is erased
module _ (places : ℕ) (h : History) (it : Layout) (laid : Laid places (now h) it) (p : ℕ) (idle : IsIdle places (now h) it p) (worn : WornAreIdle places h.story (now h)) where
  erased_elsewhere : (q s : ℕ) → eqb p q ≡ false → now (adds (Erase p) h) q s ≡ now h q s
  erased_elsewhere q s off = rw off refl

  erased_here : (q s : ℕ) (sector : Sector) → eqb p q ≡ true → now (adds (Erase p) h) q s ≡ Some sector → now h q s ≡ Some sector
  erased_here q s sector on there = absurd (let bare = rw on at there in cc (bare, blank_says_nothing))

  only_here : (q : ℕ) → eqb p q ≡ true → IsIdle places (now h) it q
  only_here q on = rw (← eqb-true p q on) idle

  erased_laid : Laid places (now (adds (Erase p) h)) it
  erased_laid = (still_laid places (now h) (now (adds (Erase p) h)) it (eqb p) laid only_here erased_elsewhere erased_here).0

  nothing_erased : (q : ℕ) → eqb p q ≡ true → IsIdle places (now (adds (Erase p) h)) it q
  nothing_erased q on = let was = only_here q on in record {
    not_status = was.not_status;
    not_home = was.not_home;
    no_live = λ u low s sector live. let here = live.here in let bare = rw on at here in cc (bare, blank_says_nothing);
  }

  erased_worn : WornAreIdle places (Erase p ∷ h.story) (now (adds (Erase p) h))
  erased_worn jt other q is = idle_once places (now (adds (Erase p) h)) it jt erased_laid other q (elim (cases_Bool (eqb p q)) [
    | inl here ↦ nothing_erased q here
    | inr elsewhere ↦ idle_still places (now h) (now (adds (Erase p) h)) it it q (λ s. erased_elsewhere q s elsewhere) refl refl (λ u low. (refl, refl)) (worn it laid q is)
  ])

pub erases_keep : ErasesKeep
erases_keep places m h it p rests laid within idle = (
  (
    rests.each.0,
    erase_keeps sector_in blank_says_nothing h.start h.story rests.quiet p (λ c. StandsIn places rests.each.0 c m)
        (loses_keep places rests.each.0 m h rests.quiet (λ q. eqb p q || is_worn h.story q) it laid (and_these places h it laid p idle rests.worn)) rests.each.1,
  ),
  erased_worn places h it laid p idle rests.worn,
)

no_header : (places : ℕ) (c : Chart) (it : Layout) (u p s : ℕ) (sector : Sector) (records : List Record) → MayLog places c it u p s sector records → s ≢ 0
no_header places c it u p s sector records may none = elim may.counts [ inl at_home ↦ omega (arith, at_home.1) | inr over ↦ omega (arith, over.1) ]

same_homes : (it : Layout) (u : ℕ) (e : Entry) (v : ℕ) → v < it.count → (((with_log it u e).units v).home ≡ (it.units v).home) × (((with_log it u e).units v).head ≡ (it.units v).head)
same_homes it u e v low = elim (cases_Bool (eqb v u)) [
  | inl here ↦ rw (eqb-true v u here, eq-eqb u u refl) (refl, refl)
  | inr elsewhere ↦ rw elsewhere (refl, refl)
]

-- one sector put into two charts that are the same there
pub put_same : (c d : Chart) (p s : ℕ) (sector : Sector) (q t : ℕ) → c q t ≡ d q t → with_sector c p s sector q t ≡ with_sector d p s sector q t
put_same c d p s sector q t same = elim (cases_Bool (eqb p q && eqb s t)) [ inl here ↦ rw here refl | inr elsewhere ↦ rw elsewhere same ]

pub put_left : (c d : Chart) (p s : ℕ) (sector : Sector) (q t : ℕ) (other : Sector) → (c q t ≡ Some other → d q t ≡ Some other) → with_sector c p s sector q t ≡ Some other → with_sector d p s sector q t ≡ Some other
put_left c d p s sector q t other left there = elim (cases_Bool (eqb p q && eqb s t)) [
  | inl here ↦ rw here (rw here at there)
  | inr elsewhere ↦ rw elsewhere (left (rw elsewhere at there))
]

-- a sector is programmed at a place that isn't worn, and the layout then has all units and the status where they were
module _ (places : ℕ) (h : History) (it : Layout) (laid : Laid places (now h) it) (p s : ℕ) (bytes : List ℕ) (sector : Sector) (spelled : sector_in bytes ≡ Some sector)
    (lasting : is_worn h.story p ≡ false) (worn : WornAreIdle places h.story (now h)) (jt : Layout) (then : Laid places (with_sector (now h) p s sector) jt) (status : jt.status ≡ it.status)
    (count : jt.count ≡ it.count) (units : (u : ℕ) → u < jt.count → ((jt.units u).home ≡ (it.units u).home) × ((jt.units u).head ≡ (it.units u).head)) where
  not_here : (q : ℕ) → is_worn h.story q ≡ true → q ≢ p
  not_here q on at = let off = rw (← at) at lasting in cc (on, off)

  worn_then : WornAreIdle places h.story (with_sector (now h) p s sector)
  worn_then kt other q on =
      idle_once places (with_sector (now h) p s sector) jt kt then other q
      (idle_still places (now h) (with_sector (now h) p s sector) it jt q (λ n. away (now h) p s sector q n (not_here q on)) status count units (worn it laid q on))

  programmed_worn : WornAreIdle places (Program p s bytes ∷ h.story) (now (adds (Program p s bytes) h))
  programmed_worn = rw (held_program sector_in h.start h.story p s bytes sector spelled) worn_then

-- what holds of whole images of a program holds of all
by_whole : (places units : ℕ) (m : Legible) (h : History) (p s : ℕ) (bytes : List ℕ) (sector : Sector) → sector_in bytes ≡ Some sector → (quiet : IsQuiet h.start (Program p s bytes ∷ h.story))
    → (jt : Layout) → Laid places (with_sector (now h) p s sector) jt → WornAreIdle places (Program p s bytes ∷ h.story) (now (adds (Program p s bytes) h))
    → EachWholeMeans sector_in (λ c. StandsIn places units c m) h.start (Program p s bytes ∷ h.story) → EachStands places m (adds (Program p s bytes) h)
by_whole places units m h p s bytes sector spelled quiet jt then worn all =
    let laid : Laid places (now (adds (Program p s bytes) h)) jt = rw (held_program sector_in h.start h.story p s bytes sector spelled) then in (
      units,
      each_by_whole sector_in blank_says_nothing h.start (Program p s bytes ∷ h.story) quiet (λ c. StandsIn places units c m)
          (loses_keep places units m (adds (Program p s bytes) h) quiet (is_worn h.story) jt laid (worn jt laid)) all,
    )

pub log_sectors_keep : LogSectorsKeep
log_sectors_keep places m h it u p s bytes sector records rests untouched spelled laid may =
    let quiet : IsQuiet h.start (Program p s bytes ∷ h.story) = (no_header places (now h) it u p s sector records may, untouched.0, untouched.1, rests.quiet) in
    let new = with_log it u (entry_at p s sector records) in
    let then : Laid places (with_sector (now h) p s sector) new = (log_sectors_wait places (now h) it u p s sector records laid may).0 in
    let worn = programmed_worn places h it laid p s bytes sector spelled untouched.2 rests.worn new then refl refl (same_homes it u (entry_at p s sector records)) in
    record {
      quiet = quiet;
      each = by_whole places rests.each.0 m h p s bytes sector spelled quiet new then worn
          (program_keeps sector_in blank_says_nothing h.start h.story rests.quiet p s bytes sector untouched.1 untouched.0 spelled (λ c. StandsIn places rests.each.0 c m)
          (λ c part headers is.
          let stands = is.stands in
          let whole : IsPart c (now h) = record { each = part; headers = headers } in
          let may_too = may_log_there places c (now h) whole stands.layout it stands.laid laid u p s sector records may in
          in_units places is.count
          (stands_by places m c (with_sector c p s sector) stands.layout _ (log_sectors_wait places c stands.layout u p s sector records stands.laid may_too) refl stands.says))
          rests.each.1);
      worn = worn;
    }

pub asides_keep : AsidesKeep
asides_keep places m h p s bytes sector rests untouched spelled bare other =
    let quiet : IsQuiet h.start (Program p s bytes ∷ h.story) = (other, untouched.0, untouched.1, rests.quiet) in
    let stands = held_stands places m h rests.each in
    let aside : (c : Chart) (it : Layout) → Laid places c it → c p 0 ≡ None → Laid places (with_sector c p s sector) it × KeepsPages places c it (with_sector c p s sector) it = λ c it laid bare_there.
    let idle = bare_is_idle places c it p laid bare_there in
    let nothing = bare_comes_to_nothing places c it p laid bare_there (with_sector c p s sector) (apart_from c p s sector 0 other bare_there) in
    idle_places_do_not_count places c it p (with_sector c p s sector) laid idle (λ q t apart. away c p s sector q t apart) nothing in
    let then = (aside (now h) stands.layout stands.laid bare).0 in
    let worn = programmed_worn places h stands.layout stands.laid p s bytes sector spelled untouched.2 rests.worn stands.layout then refl refl (λ u low. (refl, refl)) in
    record {
      quiet = quiet;
      each = by_whole places rests.each.0 m h p s bytes sector spelled quiet stands.layout then worn
          (program_keeps sector_in blank_says_nothing h.start h.story rests.quiet p s bytes sector untouched.1 untouched.0 spelled (λ c. StandsIn places rests.each.0 c m)
          (λ c part headers is.
          let stood = is.stands in
          in_units places is.count
          (stands_by places m c (with_sector c p s sector) stood.layout stood.layout (aside c stood.layout stood.laid (headers p ∙ bare)) refl stood.says))
          rests.each.1);
      worn = worn;
    }

pub programs_lead : ProgramsLead
programs_lead places m n h p s bytes sector rests closed untouched spelled beside worn =
    let new = with_sector (now h) p s sector in
    let units = rests.each.0 in
    let after = beside.stands in
    let before = held_in places m h rests.each in
    let count : after.layout.count ≡ units = beside.alike before.stands.layout before.stands.laid ∙ before.count in (
      (
        units,
        program_leads sector_in blank_says_nothing h.start h.story rests.quiet closed p s bytes sector untouched.0 spelled (λ c. StandsIn places units c m) (λ c. StandsIn places units c n)
            rests.each.1
            (λ c same left. in_units places count (stands_by places n new (with_sector c p s sector) after.layout after.layout
            (still_laid places new (with_sector c p s sector) after.layout (is_worn h.story) after.laid (worn after.layout after.laid)
            (λ q t off. put_same c (now h) p s sector q t (same q t off))
            (λ q t other on. put_left c (now h) p s sector q t other (left q t other on))) refl after.says)),
      ),
      rw (held_program sector_in h.start h.story p s bytes sector spelled) after,
      rw (held_program sector_in h.start h.story p s bytes sector spelled) worn,
    )

pub either_is_kept : EitherIsKept
either_is_kept places m h each = (each.0, λ x image. elim (each.1 x image) [ inl is ↦ is | inr is ↦ is ])

pub one_is_either : OneIsEither
one_is_either places m n h each = (each.0, λ x image. inl (each.1 x image))

-- ---- how many units there are

-- where an event is lost, what was held before it is left
lost_event : (start : Contents) (e : Event) (story : Story) → IsNoChanceImage (says sector_in) start (e ∷ story) (held start story)
lost_event start e story = record { image = λ p s. inl (named e p s); chance = λ p s checks. named e p s }
  where
    named : (e : Event) (p s : ℕ) → IsNamedValue start (e ∷ story) p s (held start story p s)
    named (Read q t) p s = held_is_named start story p s
    named (Program q t bytes) p s = inr (held_is_named start story p s)
    named (Erase q) p s = inr (held_is_named start story p s)
    named (Worn q) p s = held_is_named start story p s
    named Barrier p s = refl
    named (Said piece) p s = held_is_named start story p s

-- two numbers of units in which one chart stands are one
module _ (places : ℕ) (m n : Legible) where
  abbrev Either : ℕ → Chart → Type 0
  Either units c = StandsIn places units c m ⊎ StandsIn places units c n

  layout_of : (units : ℕ) (c : Chart) → Either units c → (it : Layout) × Laid places c it × (it.count ≡ units)
  layout_of units c (inl is) = (is.stands.layout, is.stands.laid, is.count)
  layout_of units c (inr is) = (is.stands.layout, is.stands.laid, is.count)

  number_is : (units : ℕ) (c : Chart) (it : Layout) → Either units c → Laid places c it → units ≡ it.count
  number_is units c it is laid =
      let (other, also, count) = layout_of units c is in sym count ∙ same_count places c other it also laid

  one_number : (units others : ℕ) (c : Chart) → Either units c → Either others c → units ≡ others
  one_number units others c is too = let (it, laid, count) = layout_of others c too in number_is units c it is laid ∙ count

  module _ (h : History) (it : Layout) (laid : Laid places (now h) it) where
    abbrev Found : Story → Type 0
    Found e = EachStandsEither places m n (adds_all e h)

    -- at the last moment there are as many as before the first one, since each event may be lost
    as_at_first : (added : Story) (each : AtEachMoment Found added) → (at_end Found added each).0 ≡ it.count
    as_at_first [] each =
        let here = at_end Found [] each in
        number_is here.0 (now h) it (here.1 (held h.start h.story) (held_is_image _ h.start h.story)) laid
    as_at_first (e ∷ older) each =
        let earlier = at_part Found (e ∷ []) older each in
        let here = at_end Found (e ∷ older) each in
        let was = at_end Found older earlier in
        let k : History = adds_all older h in
        let x = held k.start k.story in
        one_number here.0 was.0 (chart_of x) (here.1 x (lost_event k.start e k.story)) (was.1 x (held_is_image _ k.start k.story))
        ∙ as_at_first older earlier

pub moments_keep_units : MomentsKeepUnits
moments_keep_units places m n h it added laid each later e eq =
    let earlier = at_part (Found places m n h it laid) later e (subst (AtEachMoment (Found places m n h it laid)) (sym eq) each) in
    subst (λ (units : ℕ). EachStandsEitherIn places units m n (adds_all e h)) (as_at_first places m n h it laid e earlier)
    (at_end (Found places m n h it laid) e earlier).1

-- where each leaves one map, too
pub moments_of_one : (places : ℕ) (m : Legible) (h : History) (it : Layout) (added : Story) → Laid places (now h) it
    → AtEachMoment (λ e. EachStands places m (adds_all e h)) added → AtEachMoment (λ e. EachStandsIn places it.count m (adds_all e h)) added
moments_of_one places m h it added laid each later e eq x image =
    let found = moments_keep_units places m m h it added laid (λ rest f is. one_is_either places m m (adds_all f h) (each rest f is)) later e eq x image in
    elim found [ inl is ↦ is | inr is ↦ is ]
