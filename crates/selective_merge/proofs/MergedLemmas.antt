-- A merge, once the unit is written: what the chip stands for, and what the tables say.
use Rattle.std.proofs.Common.{◌≡◌, ◌⊎◌, ◌<◌, ◌≤◌, ◌+◌, ℕ, true, List, [], ◌++◌, length, get_or, slice_index, slice_set, Some, None, Ok, Err, inl, inr, refl, sym, ◌∙◌, ap, ap₂, subst, arith}
use Rattle.std.specs.List.{All, Contains}
use Rattle.std.proofs.lemmas.Bool.{cases_eq}
use Rattle.std.proofs.lemmas.List.{get_or-set_same, get_or-set_other, length-set, length-map}
use Rattle.std.proofs.lemmas.List.Elements.{All-contains, All-weaker}
use Rattle.chip_trait.specs.Lawful.{AreClean}
use Rattle.chip_trait.specs.Story.{Story}
use Rattle.chip_trait.specs.Told.{History, Told, adds_all}
use Rattle.log_records.specs.View.{Versioned}
use Rattle.ipl_format.proofs.RecordLemmas.{all_stay}
use Rattle.ipl_base.specs.declared.limits.TheConstants.{VERSION}
use Rattle.ipl_base.specs.declared.fault.ChipFault.{ChipFault}
use Rattle.ipl_format.specs.Record.{Record, IsRecord}
use Rattle.ipl_format.specs.Sector.{Sector}
use Rattle.ipl_meaning.specs.Legible.{Legible}
use Rattle.ipl_meaning.specs.Chart.{Chart}
use Rattle.ipl_meaning.specs.Layout.{Layout, records_of}
use Rattle.ipl_meaning.specs.Mirrors.{Mirrors}
use Rattle.ipl_meaning.specs.Rests.{now}
use Rattle.ipl_meaning.specs.Steps.{KeepsPages}
use Rattle.ipl_meaning.specs.Tables.{Places, IsFree, with_use, with_erased, OverflowLists, StatusTable, Tables, IsCountedClean}
use Rattle.ipl_meaning.specs.TableSteps.{IsMoved, taken, with_next}
use Rattle.ipl_meaning.proofs.CarriedLemmas.{tidy_is_carried}
use Rattle.ipl_meaning.proofs.IdleFollowLemmas.{counts_are_free, tables_follow_idle_places}
use Rattle.ipl_meaning.proofs.IdleLemmas.{idle_places_do_not_count}
use Rattle.ipl_meaning.proofs.KnownLogLemmas.{counted_few}
use Rattle.ipl_meaning.proofs.MirrorLemmas.{free_places_are_idle}
use Rattle.unit_directory.specs.Free.{AreNext, aside}
use Rattle.unit_directory.proofs.AsideLemmas.{next_places_are_aside}
use Rattle.unit_io.specs.Steps.{RestsAgreeing}
use Rattle.place_taking.specs.Spending.{WritesFree}
use Rattle.place_taking.proofs.JoinLemmas.{counted_alike, counted_used}
use Rattle.selective_merge.specs.Merged.{source_of, packs_in, IsToMerge, IsUnitHead, IsWritten, IsMergedUnit}
use Rattle.selective_merge.specs.Moved.{Source, IsUnsealed}
use Rattle.selective_merge.specs.Packs.{packs_of, payloads_of, masks_of_packs, payload_of}
use Rattle.selective_merge.proofs.MergeLemmas.{tables_follow_filling}
use Rattle.selective_merge.proofs.MergedMaskLemmas.{packs_are_told}
use Rattle.selective_merge.proofs.PacksLemmas.{packs_all, all_records}
use Rattle.selective_merge.specs.Packing.{masks_of_payloads}
use Rattle.selective_merge.proofs.PackedMaskLemmas.{packs_masks}
use Rattle.selective_merge.specs.Merging.{StepsMerging}
use Rattle.selective_merge.specs.Moving.{TellsUnit, set_aside}
use Rattle.selective_merge.specs.Throughout.{KeepsThroughout}
use Rattle.selective_merge.proofs.HeldLemmas.{recounted}
use Rattle.selective_merge.proofs.TakenLemmas.{aside_mirrors}

-- ---- what is clean then

module _ (t after : Tables) (u p used g : ℕ)
    (moved : IsMoved (with_next (taken t p) g) after u p used)
    (low : u < length t.places.current) (logs : u < length t.places.written) where
  counted_after : (q n : ℕ) → IsCountedClean after q n
      → IsCountedClean t q n ⊎ ((q ≡ p) × (241 + used ≤ n))
  counted_after q n (small, inl (v, less, is, first)) = elim (cases_eq v u) [
    | inl same ↦
        let at : q ≡ p = is ∙ (ap (λ (l : List ℕ). slice_index l v) moved.current
        ∙ (ap (λ (k : ℕ). slice_index (slice_set t.places.current u p) k) same
        ∙ get_or-set_same t.places.current u p 0 low)) in
        let count : slice_index after.places.written v ≡ used =
        ap (λ (l : List ℕ). slice_index l v) moved.written
        ∙ (ap (λ (k : ℕ). slice_index (slice_set t.places.written u used) k) same
        ∙ get_or-set_same t.places.written u used 0 logs) in
        inr (at, rw (count, counted_few used moved.few) at first)
    | inr other ↦
        let home : q ≡ slice_index t.places.current v =
        is ∙ (ap (λ (l : List ℕ). slice_index l v) moved.current
        ∙ get_or-set_other t.places.current u v p 0 other) in
        let count : slice_index after.places.written v ≡ slice_index t.places.written v =
        ap (λ (l : List ℕ). slice_index l v) moved.written
        ∙ get_or-set_other t.places.written u v used 0 other in
        inl (
          small,
          inl (
            v,
            omega (
              arith,
              less,
              ap (λ (l : List ℕ). length l) moved.current,
              length-set t.places.current u p,
            ),
            home,
            rw count at first,
          ),
        )
  ]
  counted_after q n (small, inr (inl (first, is, above))) =
      inl (
        small,
        inr (inl (
          first,
          All-contains (Contains t.overflow.in_use) after.overflow.in_use (q, first) moved.some is,
          above,
        )),
      )
  counted_after q n (small, inr (inr (is, above))) =
      let same : after.status.first ≡ t.status.first = ap (λ (s : StatusTable). s.first) moved.status in
      inl (
        small,
        inr (inr (
          is ∙ ap (λ (s : StatusTable). s.place) moved.status,
          omega (arith, above, same),
        )),
      )

-- ---- the unit at its new place

-- what the tables and the log that was read make of the unit
pub to_merge : (places : ℕ) (c : Chart) (it : Layout) (t : Tables) (u p g serial : ℕ)
    (from : Source) (payloads closed : List Versioned) (active : List ℕ) (log : List Record)
    → Mirrors places c it t → u < length t.places.current → IsFree t.places p → p < places
    → from ≡ source_of t (it.units u) u → t.next ≤ g → g < serial → payloads ≡ closed
    → closed ≡ payloads_of (packs_of active log) → active ≡ t.active → log ≡ from.records
    → length payloads ≤ 12 → IsToMerge places c it t u p g serial from payloads
to_merge places c it t u p g serial from payloads closed active log mirrors low free within source
    new later is packed same_active same_log few = record {
      mirrors = mirrors;
      low = omega (arith, low, mirrors.directory.units);
      free = free;
      within = within;
      source = source;
      new = new;
      later = later;
      carried = is ∙ (packed
          ∙ ap₂ (λ (a : List ℕ) (l : List Record). payloads_of (packs_of a l)) same_active
          (same_log ∙ ap (λ (s : Source). s.records) source));
      twelve = few;
    }

pub many_packs : (places : ℕ) (c : Chart) (it : Layout) (t : Tables) (u p g serial : ℕ)
    (from : Source) (payloads : List Versioned)
    → IsToMerge places c it t u p g serial from payloads
    → length payloads ≡ length (packs_in t (it.units u))
many_packs places c it t u p g serial from payloads what =
    ap length what.carried ∙ length-map (packs_in t (it.units u)) payload_of

-- the tables tell of the unit there: its generation, and the masks of these packs
pub record TellsPacks (t after : Tables) (u generation : ℕ) (packs : List (List Record)) : Type 0 where
  pub generation_is : after.places.generations ≡ slice_set t.places.generations u generation
  pub home : after.places.masks ≡ slice_set t.places.masks u (masks_of_packs 15 packs)
  pub elsewhere : after.overflow.masks ≡ slice_set t.overflow.masks u []

-- those of the payloads are
pub tells_packs : (places : ℕ) (c : Chart) (it : Layout) (t taken_t after : Tables) (u p g serial : ℕ) (from : Source)
    (payloads : List Versioned) (masks : List ℕ) → IsToMerge places c it t u p g serial from payloads
    → masks ≡ masks_of_payloads 15 payloads → TellsUnit taken_t after u g masks
    → taken_t.places ≡ with_erased (with_use t.places p true) p → taken_t.overflow ≡ t.overflow
    → TellsPacks t after u g (packs_in t (it.units u))
tells_packs places c it t taken_t after u p g serial from payloads masks what are told taken same = record {
  generation_is = told.generation_is ∙ ap (λ (d : Places). slice_set d.generations u g) taken;
  home = told.home ∙ ap (λ (d : Places). slice_set d.masks u masks) taken
      ∙ ap (slice_set t.places.masks u)
      (are ∙ ap (masks_of_payloads 15) what.carried ∙ packs_masks 15 (packs_in t (it.units u)) valid);
  elsewhere = told.elsewhere ∙ ap (λ (o : OverflowLists). slice_set o.masks u []) same;
}
  where
    valid : All (All (IsRecord VERSION)) (packs_in t (it.units u))
    valid = λ k d low. All-weaker (λ r. IsRecord VERSION r × Contains t.active r.tid) (IsRecord VERSION) (λ r is. is.0) (get_or (packs_in t (it.units u)) k d)
        (packs_all t.active (records_of (it.units u).log) (IsRecord VERSION)
        (all_records (it.units u).log (λ k d low. all_stay _ _ ((what.mirrors.laid.each u what.low).log.each k d low).records.valid)) k d low)

-- once the tables have it there
pub merged_there : (places : ℕ) (it : Layout) (t : Tables) (u p g serial n : ℕ) (after : Tables)
    (c z : Chart) → n ≡ length (packs_in t (it.units u))
    → IsMoved (with_next (taken t p) g) after u p n
    → TellsPacks t after u g (packs_in t (it.units u)) → serial + n ≤ after.next
    → IsWritten places c z it t u p g serial → IsMergedUnit places c z it t u after
merged_there places it t u p g serial n after c z used moved tells more is =
    let follows = tables_follow_filling places c is.filled it t after u p is.head is.pieces serial
    is.may
    (subst (λ (k : ℕ). IsMoved (with_next (taken t p) k) after u p
    (length (packs_in t (it.units u)))) (sym is.generation_is)
    (subst (λ (k : ℕ). IsMoved (with_next (taken t p) g) after u p k) used moved))
    (packs_are_told t (with_next (taken t p) is.head.generation) after (it.units u) u p is.head is.pieces serial is.may.twelve
    (tells.generation_is ∙ ap (slice_set t.places.generations u) (sym is.generation_is)) tells.home tells.elsewhere)
    (omega (arith, more, used)) in record {
      place = p;
      head = is.head;
      pieces = is.pieces;
      serial = serial;
      low = is.may.low;
      free = is.may.free;
      head_is = rw moved.erases is.may.head_is;
      new = is.may.new;
      later = is.may.later;
      mirrors = rw is.gains follows.0;
      keeps = rw is.gains follows.1;
    }

-- the tables mirror it, where the place was given back, and each page is shown still
pub stays_mirrored : (places : ℕ) (c y : Chart) (it : Layout) (t after : Tables) (erases : List ℕ)
    (p next : ℕ) → IsFree t.places p → after ≡ recounted t erases next
    → length erases ≡ length t.places.erases → t.next ≤ next → IsUnsealed p c y
    → Mirrors places c it t → Mirrors places y it after × KeepsPages places c it y it
stays_mirrored places c y it t after erases p next free is sized more left mirrors =
    let idle = free_places_are_idle places c it t p mirrors free in (
      rw is (counts_are_free places y it (with_next t next) erases
          (tables_follow_idle_places places c it t p y next mirrors idle
          (mirrors.directory.not_overflow p free) left.others left.bare more)
          (sized ∙ mirrors.directory.counts)),
      (idle_places_do_not_count places c it p y mirrors.laid idle left.others (record {
        unit_header = λ u low head there _. absurd (never head there);
        status = λ head there _. absurd (never head there);
        no_live = λ u low s sector live. elim live.counts [
          | inl home ↦ idle.not_home u low (sym home.0)
          | inr over ↦ never over.0.0 over.0.1
        ];
      })).1,
    )
  where
    never : (head : Sector) → y p 0 ≡ Some head → ⊥
    never head here = let e : None ≡ Some head = sym left.bare ∙ here in cc

-- a unit that was merged from tables with places set aside was merged from those before
pub merged_before : (places : ℕ) (it : Layout) (t : Tables) (worn : List ℕ) (u : ℕ) (after : Tables)
    (c z : Chart) → AreNext t.places worn → IsMergedUnit places c z it (set_aside t worn) u after
    → IsMergedUnit places c z it t u after
merged_before places it t worn u after c z in_turn is =
    let facts = next_places_are_aside t.places worn in_turn in record {
      place = is.place;
      head = is.head;
      pieces = is.pieces;
      serial = is.serial;
      low = is.low;
      free = ((facts.free is.place).0 is.free).0;
      head_is = subst (λ (l : List ℕ). IsUnitHead (length l) u is.head.generation is.pieces
          (length (packs_in t (it.units u))) (slice_index after.places.erases is.place) is.head)
          facts.current is.head_is;
      new = is.new;
      later = is.later;
      mirrors = is.mirrors;
      keeps = is.keeps;
    }

-- ---- what is left

module _ (places : ℕ) (m : Legible) (it : Layout) (t : Tables) (worn : List ℕ) (u p g serial n : ℕ)
    (h : History) (old new : Told) (here : RestsAgreeing places m it t h)
    (in_turn : AreNext t.places worn) (free : IsFree (set_aside t worn).places p) where
  abbrev between : Tables
  between = set_aside t worn

  mirrors : Mirrors places (now h) it between
  mirrors = aside_mirrors places (now h) it t worn here.agrees.mirrors in_turn

  -- what counts as clean then did before, and stands at a place that was in use
  was_counted : (q s : ℕ) → IsCountedClean between q s → IsCountedClean t q s
  was_counted =
      let facts = next_places_are_aside t.places worn in_turn in
      counted_alike t (aside t.places worn) facts.current facts.written

  in_use : (q s : ℕ) → IsCountedClean t q s → ¬ IsFree t.places q
  in_use = counted_used places m it h t here

  -- the merge was done
  pub merged_steps : (after : Tables) → u < it.count → n ≡ length (packs_in t (it.units u))
      → IsMoved (with_next (taken between p) g) after u p n
      → TellsPacks between after u g (packs_in t (it.units u)) → serial + n ≤ after.next
      → KeepsThroughout {T = Unit {0}} places m (WritesFree t.places p (241 + n))
      (λ done c y. IsWritten places c y it between u p g serial) (IsUnsealed p) h (Ok tt) old new
      → StepsMerging {T = Unit {0}} places m it t u after h (Ok tt) old new
  merged_steps after low used moved tells more did = record {
    added = did.added;
    places = did.places;
    history = did.history;
    each_moment = did.each_moment;
    marks = did.marks;
    does = record {
      silent = did.does.spares.silent;
      lawful = record { lawful = λ base is clean. did.does.spares.lawful base is };
      clean = λ done. clean;
    };
    steady = did.steady;
    ends = λ done. record {
      rests = (did.ends tt).0;
      unit = merged_before places it t worn u after (now h) (now (adds_all did.added h)) in_turn
          (merged_there places it between u p g serial n after (now h) (now (adds_all did.added h))
          used moved tells more (did.ends tt).1);
      tidy = tidy_is_carried places h it t after did.added here.agrees clean;
    };
  }
    where
      clean : (base : Story) → AreClean (IsCountedClean t) base
          → AreClean (IsCountedClean after) (did.added ++ base)
      clean base before q s counted =
          elim (counted_after between after u p n g moved
          (omega (arith, low, mirrors.directory.units))
          (omega (arith, low, mirrors.directory.logs)) q s counted) [
            | inl then ↦ let was = was_counted q s then in
                did.does.spares.others base q s (in_use q s was) (before q s was)
            | inr (at, above) ↦ rw at (did.does.fresh refl base s above)
          ]

  -- it wasn't: the place was given back
  pub merge_failed : (after : Tables) (erases : List ℕ) (next : ℕ) (e : ChipFault)
      → after ≡ recounted between erases next → length erases ≡ length between.places.erases
      → t.next ≤ next
      → KeepsThroughout {T = Unit {0}} places m (WritesFree t.places p (241 + n))
      (λ done c y. IsWritten places c y it between u p g serial) (IsUnsealed p) h (Err e) old new
      → StepsMerging {T = Unit {0}} places m it t u after h (Err e) old new
  merge_failed after erases next e is sized more did = record {
    added = did.added;
    places = did.places;
    history = did.history;
    each_moment = did.each_moment;
    marks = did.marks;
    does = record {
      silent = did.does.spares.silent;
      lawful = record { lawful = λ base is clean. did.does.spares.lawful base is };
      clean = λ unbroken. clean;
    };
    steady = did.steady;
    ends = λ unbroken.
        let ends = did.ends unbroken in record {
          rests = ends.0;
          agrees = record {
            mirrors = (stays_mirrored places (now h) (now (adds_all did.added h)) it between after erases
                p next free is sized more ends.1 mirrors).0;
            tidy = tidy_is_carried places h it t after did.added here.agrees clean;
          };
        };
  }
    where
      same : (q s : ℕ) → IsCountedClean after q s → IsCountedClean t q s
      same q s counted = was_counted q s (rw is at counted)

      clean : (base : Story) → AreClean (IsCountedClean t) base
          → AreClean (IsCountedClean after) (did.added ++ base)
      clean base before q s counted =
          did.does.spares.others base q s (in_use q s (same q s counted))
          (before q s (same q s counted))
