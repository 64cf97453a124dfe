-- What a chip stands for once a unit is merged.
use Rattle.std.proofs.Common.{◌≡◌, ◌≢◌, ◌<◌, ◌≤◌, ◌+◌, ◌-◌, ℕ, List, length, false, [], Some, None, get_or, slice_index, inl, inr, refl, sym, ◌∙◌, ap, subst, arith}
use Rattle.std.specs.Prelude.{slice_index_or}
use Rattle.std.specs.List.{All, Contains}
use Rattle.std.proofs.lemmas.List.Elements.{All-contains, All-weaker}
use Rattle.chip_trait.specs.Chart.{with_sector}
use Rattle.ipl_base.specs.declared.limits.TheConstants.{VERSION}
use Rattle.ipl_meaning.specs.Legible.{Legible}
use Rattle.ipl_format.specs.Sector.{Sector}
use Rattle.ipl_format.specs.Record.{Record, IsRecord, SpellsLog}
use Rattle.ipl_format.specs.Page.{Slots, value_in}
use Rattle.ipl_format.proofs.RecordLemmas.{logs_spell_once, all_stay}
use Rattle.ipl_meaning.specs.Chart.{Chart}
use Rattle.ipl_meaning.specs.Found.{MentionsBelow, IsPlaceBelow}
use Rattle.ipl_meaning.specs.Last.{last_that}
use Rattle.ipl_meaning.specs.Layout.{Entry, Shape, Layout, Laid, IsEntry, ReadsWell, records_of}
use Rattle.ipl_meaning.specs.Mirrors.{Mirrors}
use Rattle.ipl_meaning.specs.Stands.{Says, StandsBeside}
use Rattle.ipl_meaning.specs.Steps.{KeepsPages, AllWait, with_unit, entry_at, IsApplied, IsMerged}
use Rattle.ipl_meaning.specs.Tables.{Tables}
use Rattle.ipl_meaning.specs.TableSteps.{IsReady, IsMoved, TellsShape, taken, with_next}
use Rattle.ipl_meaning.specs.Values.{after_records, counts_for}
use Rattle.ipl_meaning.proofs.LastLemmas.{merges_carry_the_last}
use Rattle.ipl_meaning.proofs.MergeFollowLemmas.{tables_follow_merges}
use Rattle.ipl_meaning.proofs.MirrorLemmas.{headers_may_go}
use Rattle.ipl_meaning.proofs.OnceLemmas.{reads_once}
use Rattle.ipl_meaning.proofs.StandsLemmas.{stands_by, beside, pages_then}
use Rattle.ipl_meaning.proofs.SwitchLemmas.{headers_switch, merges_keep_pages, same_units_keep_pages, same_applied}
use Rattle.unit_io.proofs.HeldLemmas.{held_pages_read_well}
use Rattle.selective_merge.specs.Laws.{FilledPlacesAreReady, StandsAfterFilling, TablesFollowFilling, MergesKeepTheLast}
use Rattle.selective_merge.specs.Merged.{packs_in, merged_shape, MayMerge}
use Rattle.selective_merge.specs.Packs.{among, entries_from}
use Rattle.selective_merge.proofs.FilledLemmas.{sector_at, StandsFilled, stands_filled, mirrors_filled, pages_filled}
use Rattle.selective_merge.proofs.KnownLemmas.{taken_is_used}
use Rattle.selective_merge.proofs.PacksLemmas.{among_contains, among_test, all_records, carried_all, packs_all, packs_join, entries_length, entry_is, entries_records}

module _ (places : ℕ) (c y : Chart) (it : Layout) (t : Tables) (u p : ℕ) (head : Sector)
    (pieces : List ℕ) (serial : ℕ) (may : MayMerge places c y it t u p head pieces serial) where
  abbrev g : ℕ
  g = head.generation

  abbrev packs : List (List Record)
  packs = packs_in t (it.units u)

  abbrev fresh : Shape
  fresh = merged_shape t (it.units u) u p head pieces serial

  abbrev log : List Entry
  log = entries_from p u g 241 serial packs

  full : StandsFilled c may.filled.paged y p u g serial packs
  full = stands_filled places c y it t u p head pieces serial may

  abbrev t_taken : Tables
  t_taken = with_next (taken t p) g

  mirrors_taken : Mirrors places y it t_taken
  mirrors_taken = mirrors_filled places c y it t u p head pieces serial may

  -- ---- the log

  valid : All (IsRecord VERSION) (records_of (it.units u).log)
  valid = all_records (it.units u).log
      (λ k d low. all_stay _ _ ((may.mirrors.laid.each u may.low).log.each k d low).records.valid)

  packed : All (All (λ r. IsRecord VERSION r × Contains t.active r.tid)) packs
  packed = packs_all t.active (records_of (it.units u).log) (IsRecord VERSION) valid

  pack_valid : (i : ℕ) → i < length packs → All (IsRecord VERSION) (slice_index_or packs i [])
  pack_valid i low =
      All-weaker (λ r. IsRecord VERSION r × Contains t.active r.tid) (IsRecord VERSION) (λ r is. is.0)
      (slice_index_or packs i []) (packed i [] low)

  entry : ℕ → Entry
  entry i = entry_at p (241 + i) (sector_at u g serial packs i) (slice_index_or packs i [])

  is_entry : (i : ℕ) → i < length packs → IsEntry y places u p g (entry i)
  unfolding entry
  is_entry i low = record {
    live = record {
      here = full.log_at i low;
      kind = refl;
      of_unit = refl;
      of_generation = refl;
      within = (may.within, omega (arith, low, may.twelve));
      counts = inl (refl, omega arith);
    };
    records = record { bytes = refl; valid = pack_valid i low };
  }

  at_entry : (i : ℕ) (d : Entry) → i < length log → get_or log i d ≡ entry i
  unfolding entry
  at_entry i d low =
      entry_is p u g 241 serial packs i d (omega (arith, low, entries_length p u g 241 serial packs))

  long : length log ≡ length packs
  long = entries_length p u g 241 serial packs

  has_entry : (i : ℕ) → i < length packs → Contains log (entry i)
  has_entry i low =
      (i, omega (arith, low, long), at_entry i (entry i) (omega (arith, low, long)))

  ready : IsReady places y t_taken u p fresh
  unfolding entry
  ready = record {
    within = may.within;
    bare = full.no_header;
    home = refl;
    fits = (may.head_is.kind, may.head_is.of_unit);
    counts = may.head_is.counts;
    new_generation = omega arith;
    new_serial = omega (arith, may.head_is.serial);
    each = λ i d low. rw (at_entry i d low) (is_entry i (omega (arith, low, long)));
    gathered = λ i d low. rw (at_entry i d low) refl;
    all = λ s sector live. elim (full.there s sector live.here) [
      | inl is ↦ absurd (omega (arith, live.kind, is.0))
      | inr is ↦ (entry is.0, has_entry is.0 is.1, sym is.2)
    ];
    rising = λ i j d less low.
        rw (at_entry i d (omega (arith, less, low)), at_entry j d low) (omega (arith, less));
  }

  -- ---- the pages

  same_numbers : (tid : ℕ) → it.committed tid ≡ among t.status.numbers tid
  same_numbers tid =
      among_test (it.committed tid) t.status.numbers tid (may.mirrors.status.numbers tid)

  merged_pages : (page : ℕ) (base : Slots) → page < 15 → ReadsWell y u (it.units u) page base
      → (new : Slots) × ReadsWell y u fresh page new
      × IsApplied it.committed (it.units u).log page base new
  merged_pages page base low reads =
      let of = may.filled.moved.of page low in
      let home : (it.units u).home ≢ p = may.mirrors.directory.not_home p may.free u may.low in
      let before : ReadsWell c u (it.units u) page base = record {
        fits = reads.fits;
        cut = reads.cut;
        here = λ i few. sym (full.same_but (it.units u).home _ home) ∙ reads.here i few;
      } in
      let held : ReadsWell c u (it.units u) page of.base =
      (held_pages_read_well c u (it.units u) page of.base).0 (record {
        fits = of.held.fits;
        cut = of.held.cut;
        here = λ i few.
            sym (may.filled.cleared.others (it.units u).home _ home) ∙ of.held.here i few;
      }) in
      let same : of.base ≡ base = reads_once c u (it.units u) page of.base base held before in (
        may.filled.moved.slots page,
        record {
          fits = rw may.head_is.version (may.filled.moved.has.fits page low);
          cut = rw may.head_is.version (may.filled.moved.has.cut page low);
          here = λ i few. rw may.head_is.version (
              let most : slice_index pieces page ≤ 16 = may.few page in
              full.pages_at _ (λ is. omega (arith, is.0, few, most, low))
              ∙ may.filled.moved.has.here page i low few);
        },
        λ slot small. of.applied slot small
            ∙ ap (λ (b : Slots). after_records (among t.status.numbers) page slot
            (records_of (it.units u).log) (value_in b slot)) same
            ∙ sym (same_applied it.committed (among t.status.numbers) page slot
            (records_of (it.units u).log) (value_in base slot)
            (λ k d less. sym (same_numbers (get_or (records_of (it.units u).log) k d).tid))),
      )

  -- each page was read
  all_read : (page : ℕ) → page < 15 → (base : Slots) × ReadsWell y u (it.units u) page base
  all_read page low =
      let of = may.filled.moved.of page low in
      let home : (it.units u).home ≢ p = may.mirrors.directory.not_home p may.free u may.low in
      let held : ReadsWell c u (it.units u) page of.base =
      (held_pages_read_well c u (it.units u) page of.base).0 (record {
        fits = of.held.fits;
        cut = of.held.cut;
        here = λ i few.
            sym (may.filled.cleared.others (it.units u).home _ home) ∙ of.held.here i few;
      }) in (
        of.base,
        record { fits = held.fits; cut = held.cut; here = λ i few. full.same_but (it.units u).home _ home ∙ held.here i few },
      )

  active_wait : (tid : ℕ) → Contains t.active tid → it.committed tid ≡ false
  active_wait tid is =
      All-contains (λ (k : ℕ). it.committed k ≡ false) t.active tid may.mirrors.numbers.waits is

  waits : AllWait it.committed (records_of log)
  waits =
      let carried = carried_all (IsRecord VERSION) (among t.active) (records_of (it.units u).log) valid in
      rw (entries_records p u g 241 serial packs ∙ packs_join t.active (records_of (it.units u).log))
      (λ k d low. active_wait _ (among_contains t.active _ (carried k d low).1))

  merged : IsMerged y it u fresh
  merged = record { pages = merged_pages; all = all_read; waits = waits }

  -- ---- with the header

  kept : KeepsPages places c it y it
  kept = pages_filled places c y it t u p head pieces serial may

  switched : Laid places (with_sector y p 0 head) (with_unit it u fresh)
      × KeepsPages places y (with_unit it u fresh) (with_sector y p 0 head) (with_unit it u fresh)
  switched =
      headers_switch places y it u p fresh mirrors_taken.laid
      (headers_may_go places y it t_taken u p fresh mirrors_taken may.low ready)

  keeps : KeepsPages places c it (with_sector y p 0 head) (with_unit it u fresh)
  keeps = pages_then places c y (with_sector y p 0 head) it it (with_unit it u fresh) refl kept
      (pages_then places y y (with_sector y p 0 head) it (with_unit it u fresh) (with_unit it u fresh) refl
      (same_units_keep_pages places y it u fresh (merges_keep_pages y it u fresh merged)) switched.1)

  stands_then : (m : Legible) → Says places c it m → StandsBeside places y (with_sector y p 0 head) m
  stands_then m says =
      beside places m y (with_sector y p 0 head) it mirrors_taken.laid
      (stands_by places m c (with_sector y p 0 head) it (with_unit it u fresh)
      (switched.0, keeps) refl says)

  -- ---- the tables then

  module _ (after : Tables) (moved : IsMoved t_taken after u p (length packs))
      (masked : TellsShape t_taken after u fresh)
      (more : serial + length packs ≤ after.next) where
    mentions : MentionsBelow after.next head
    mentions number (inl is) = omega (arith, is, more, may.later)
    mentions number (inr (inl is)) = omega (arith, is, more, may.later, may.head_is.serial)
    mentions number (inr (inr (inl commit))) =
        absurd (omega (arith, commit.0, may.head_is.kind))
    mentions number (inr (inr (inr log))) = absurd (omega (arith, log.0, may.head_is.kind))

    -- the active numbers are below the counter
    active_below : (tid : ℕ) → Contains t.active tid → tid < after.next
    active_below tid is =
        let low = All-contains (λ (k : ℕ). k < t.next) t.active tid may.mirrors.numbers.below is in
        omega (arith, low, may.new, may.later, more)

    log_mentions : (i : ℕ) → i < length packs → (sector : Sector)
        → sector ≡ sector_at u g serial packs i → MentionsBelow after.next sector
    log_mentions i low sector is number (inl same) =
        let e : sector.generation ≡ g = ap (λ (x : Sector). x.generation) is in
        omega (arith, same, e, may.later, more)
    log_mentions i low sector is number (inr (inl same)) =
        let e : sector.serial ≡ serial + i = ap (λ (x : Sector). x.serial) is in
        omega (arith, same, e, low, more)
    log_mentions i low sector is number (inr (inr (inl commit))) =
        let e : sector.kind ≡ 5 = ap (λ (x : Sector). x.kind) is in
        absurd (omega (arith, e, commit.0))
    log_mentions i low sector is number (inr (inr (inr (kind, others, spelled, r, has, same)))) =
        let records : List Record = slice_index_or packs i [] in
        let mine : SpellsLog sector.version sector.payload records =
        subst (λ (x : Sector). SpellsLog x.version x.payload records) (sym is)
        (record { bytes = refl; valid = pack_valid i low }) in
        let one : others ≡ records =
        logs_spell_once sector.version sector.payload others records spelled mine in
        let listed : Contains records r = subst (λ (l : List Record). Contains l r) one has in
        let below = active_below r.tid
        (All-contains (λ (r : Record). IsRecord VERSION r × Contains t.active r.tid) records r
        (packed i [] low) listed).1 in
        omega (arith, below, same)

    place_below : IsPlaceBelow after.next y p
    place_below s sector here is = elim (full.there s sector here) [
      | inl base ↦ elim is [
        | inl log ↦ absurd (omega (arith, log, base.0))
        | inr other ↦ absurd (omega (arith, other, base.0))
      ]
      | inr log ↦ log_mentions log.0 log.1 sector log.3
    ]

    -- each log sector that is carried checks
    log_checks : (s : ℕ) → 241 ≤ s → s < 241 + length packs → y p s ≢ None
    log_checks s least less none =
        let there = full.log_at (s - 241) (omega (arith, least, less)) in
        let at : 241 + (s - 241) ≡ s = omega (arith, least) in
        let both : Some (sector_at u g serial packs (s - 241)) ≡ None =
        sym there ∙ ap (y p) at ∙ none in cc both

    mirrors_then : Mirrors places (with_sector y p 0 head) (with_unit it u fresh) after
    mirrors_then =
        tables_follow_merges places y it t_taken after u p (length packs) fresh mirrors_taken
        may.low ready (taken_is_used t p) moved masked mentions place_below
        (λ s high within. full.beyond s high) log_checks

pub filled_places_are_ready : FilledPlacesAreReady
filled_places_are_ready places c y it t u p head pieces serial may =
    (ready places c y it t u p head pieces serial may, merged places c y it t u p head pieces serial may)

pub stands_after_filling : StandsAfterFilling
stands_after_filling places c y it t u p head pieces serial m may says =
    stands_then places c y it t u p head pieces serial may m says

pub tables_follow_filling : TablesFollowFilling
tables_follow_filling places c y it t after u p head pieces serial may moved masked more = (
  mirrors_then places c y it t u p head pieces serial may after moved masked more,
  keeps places c y it t u p head pieces serial may,
)

pub merges_keep_the_last : MergesKeepTheLast
merges_keep_the_last t it u p head pieces serial page slot =
    ap (λ (l : List Record). last_that (counts_for (among t.active) page slot) l None)
    (entries_records p u head.generation 241 serial (packs_in t it)
    ∙ packs_join t.active (records_of it.log))
    ∙ merges_carry_the_last (among t.active) page slot (records_of it.log) None
