-- A log sector, written at a spot of its unit.
use Rattle.std.proofs.Common.{◌≡◌, ◌<◌, ◌+◌, ℕ, List, length, slice_index, Ok, Err, Result, IfErr, OnOk, inl, inr, refl, sym, ◌∙◌, ap, subst, arith}
use Rattle.std.specs.List.{Contains}
use Rattle.std.proofs.lemmas.List.Elements.{All-contains}
use Rattle.chip_trait.specs.Chart.{with_sector}
use Rattle.chip_trait.specs.Told.{History, Told}
use Rattle.log_records.specs.View.{Versioned}
use Rattle.ipl_base.specs.declared.fault.ChipFault.{ChipFault}
use Rattle.ipl_base.specs.declared.limits.TheConstants.{VERSION}
use Rattle.ipl_base.specs.declared.spot.Spot.{Spot}
use Rattle.ipl_format.specs.Record.{Record, SpellsLog}
use Rattle.ipl_format.specs.Sector.{Sector}
use Rattle.ipl_format.proofs.RecordLemmas.{logs_spell_once}
use Rattle.ipl_meaning.specs.Legible.{Legible}
use Rattle.ipl_meaning.specs.Chart.{Chart}
use Rattle.ipl_meaning.specs.Found.{MentionsBelow}
use Rattle.ipl_meaning.specs.Layout.{Entry, Layout, Laid}
use Rattle.log_records.proofs.RecordsLemmas.{records_list}
use Rattle.ipl_meaning.specs.Masks.{mask_of}
use Rattle.ipl_meaning.specs.Mirrors.{Mirrors, NoneIsLost}
use Rattle.ipl_meaning.specs.Rests.{now, IsUntouched, EachStands, StoryRests}
use Rattle.ipl_meaning.specs.Steps.{KeepsPages, MayLog, with_log, entry_at}
use Rattle.ipl_meaning.specs.Tables.{Tables}
use Rattle.ipl_meaning.specs.TableSteps.{IsFreshLog, CountedShrink}
use Rattle.ipl_meaning.proofs.CountedLemmas.{counted_follow}
use Rattle.ipl_meaning.proofs.HomeLogLemmas.{tables_follow_home_logs}
use Rattle.ipl_meaning.proofs.MirrorLemmas.{log_sectors_may_go_home, log_sectors_may_go_elsewhere}
use Rattle.ipl_meaning.proofs.OverflowLogLemmas.{tables_follow_overflow_logs}
use Rattle.ipl_meaning.proofs.WaitLemmas.{log_sectors_wait}
use Rattle.sector_format.specs.Decode.{sector_of}
use Rattle.sector_format.specs.Written.{written_head}
use Rattle.sector_format.specs.declared.sector.Head.{Head}
use Rattle.unit_io.specs.Charts.{Charts, Gains}
use Rattle.unit_io.specs.Leads.{IsSteady, IsStopped, KeepsMap, RestsWith}
use Rattle.unit_io.specs.Spots.{Programs, IsSpot}
use Rattle.unit_io.proofs.StepLemmas.{writes_are_steps, failed_writes_are_steps}
use Rattle.selective_merge.specs.Spotting.{IsSpotFor}
use Rattle.page_frames.specs.Writing.{mask_by, IsAfterLog, IsLogOf, IsToLog, HasLogSector, WritesLog, WritesLogInSteps}
use Rattle.page_frames.proofs.SpotLemmas.{spot_counted, spot_of_log, log_active}

-- a head that is written for it makes such a sector
pub log_of : (u generation serial g s : ℕ) (payload : Versioned) (head : Head)
    → payload.version ≡ VERSION → head ≡ written_head 5 u g s → g ≡ generation → s ≡ serial
    → IsLogOf u generation serial payload (sector_of head payload.bytes)
log_of u generation serial g s payload head version is of_generation of_serial = record {
  kind = ap (λ (h : Head). h.kind) is;
  version_is = ap (λ (h : Head). h.version) is ∙ sym version;
  of_unit = ap (λ (h : Head). h.unit) is;
  of_generation = ap (λ (h : Head). h.generation) is ∙ of_generation;
  serial_is = ap (λ (h : Head). h.serial) is ∙ of_serial;
  payload_is = refl;
}

module _ (places : ℕ) (c : Chart) (it : Layout) (t : Tables) (u : ℕ) (at : Spot)
    (payload : Versioned) (records : List Record) (sector : Sector) (low : u < length t.places.current)
    (asked : IsToLog places c it t payload records)
    (is : IsLogOf u (slice_index t.places.generations u) t.next payload sector) where
  abbrev p : ℕ
  p = at.place

  abbrev s : ℕ
  s = at.sector

  abbrev mirrors : Mirrors places c it t
  mirrors = asked.mirrors

  -- the unit is one of those that are laid out
  unit : u < it.count
  unit = subst (λ (n : ℕ). u < n) mirrors.directory.units low

  here : SpellsLog sector.version sector.payload records
  here =
      subst (λ (l : List ℕ). SpellsLog sector.version l records) (sym is.payload_is)
      (subst (λ (v : ℕ). SpellsLog v payload.bytes records) (sym is.version_is)
      asked.payload_of.spelled)

  fresh : IsFreshLog it t u sector records
  fresh = record {
    kind = is.kind;
    of_unit = is.of_unit;
    of_generation = is.of_generation ∙ mirrors.directory.generation u unit;
    new = let serial = is.serial_is in omega (arith, serial);
    spelled = here;
    active = asked.payload_of.active;
  }

  may : IsSpotFor t u p s → MayLog places c it u p s sector records
  may (inl home) = rw (home.place, home.sector)
      (log_sectors_may_go_home places c it t u sector records mirrors unit home.left fresh)
  may (inr over) =
      log_sectors_may_go_elsewhere places c it t u p s sector records mirrors unit over.first
      over.within.0 over.within.1 over.few fresh

  -- ---- the counter is above all that the sector mentions

  generation_low : slice_index t.places.generations u < t.next
  generation_low =
      let there = mirrors.laid.each u unit in
      let head = (it.units u).head in
      let below = mirrors.numbers.above head.generation (
        (it.units u).home,
        0,
        head,
        inl (
          refl,
          there.chosen.within,
          there.chosen.here,
          (
            omega (arith, there.chosen.fits.0),
            omega (arith, there.chosen.fits.0),
          ),
        ),
        inl refl,
      ) in
      let same = mirrors.directory.generation u unit in omega (arith, below, same)

  mentions : MentionsBelow (t.next + 1) sector
  mentions n (inl same) = let e = is.of_generation in omega (arith, same, e, generation_low)
  mentions n (inr (inl same)) = let e = is.serial_is in omega (arith, same, e)
  mentions n (inr (inr (inl commit))) =
      let e = is.kind in absurd (omega (arith, commit.0, e))
  mentions n (inr (inr (inr (kind, others, says, r, listed, same)))) =
      let one : others ≡ records = logs_spell_once sector.version sector.payload others records says here in
      let mine : Contains records r = subst (λ (l : List Record). Contains l r) one listed in
      let open_one = All-contains (λ (x : Record). Contains t.active x.tid) records r
      asked.payload_of.active mine in
      let below = All-contains (λ (x : ℕ). x < t.next) t.active r.tid mirrors.numbers.below
      open_one in
      omega (arith, below, same)

  -- ---- the tables follow

  mask_is : mask_by payload ≡ mask_of records
  mask_is = ap mask_of (records_list payload.version records payload.bytes asked.payload_of.spelled)

  abbrev entry : Entry
  entry = entry_at p s sector records

  follows : (after : Tables) → IsAfterLog t after u p s (mask_by payload) (t.next + 1)
      → Mirrors places (with_sector c p s sector) (with_log it u entry) after
  follows after (inl (home, then_is)) = rw (then_is, mask_is, home.place, home.sector)
      (tables_follow_home_logs places c it t u (t.next + 1) sector records mirrors unit home.left
      fresh (omega arith) mentions)
  follows after (inr (over, then_is)) = rw (then_is, mask_is)
      (tables_follow_overflow_logs places c it t u p s (t.next + 1) sector records mirrors unit
      over.first over.within.0 over.within.1 over.few fresh (omega arith) mentions)

  pub shrinks : (after : Tables) → IsAfterLog t after u p s (mask_by payload) (t.next + 1)
      → CountedShrink t after p s
  shrinks after (inl (home, then_is)) = rw (then_is, home.place, home.sector)
      ((counted_follow places c it t mirrors).0 u (mask_by payload) (t.next + 1) unit home.left)
  shrinks after (inr (over, then_is)) = rw then_is
      ((counted_follow places c it t mirrors).1 u p s (mask_by payload) (t.next + 1) over.first)

  pub sector_stands : (after : Tables) (y : Chart) → IsAfterLog t after u p s (mask_by payload) (t.next + 1)
      → NoneIsLost places after → Gains p s sector c y
      → HasLogSector places c it t u at payload records y after
  sector_stands after y tables none gains = record {
    sector = sector;
    is = is;
    gains = gains;
    tables = tables;
    logged = record {
      entry = entry;
      records_are = refl;
      mirrors = subst (λ (z : Chart). Mirrors places z (with_log it u entry) after) (sym gains)
          (follows after tables);
      none_lost = none;
      active = log_active t after u p s (mask_by payload) (t.next + 1) tables;
      pages = subst (λ (z : Chart). KeepsPages places c it z (with_log it u entry)) (sym gains)
          (log_sectors_wait places c it u p s sector records mirrors.laid
          (may (spot_of_log t after u p s (mask_by payload) (t.next + 1) tables))).1;
    };
    entry_is = refl;
  }

-- ---- the call

-- what a program of a log sector leaves that joins its unit's
abbrev pub JoinsLog : ℕ → ℕ → ℕ → Sector → Told → Result (Unit {0}) ChipFault → Told → Type 0
JoinsLog places p s sector old result new =
    (m : Legible) (it : Layout) (h : History) (u : ℕ) (records : List Record)
    → IsSteady h old → StoryRests places m h → Laid places (now h) it
    → MayLog places (now h) it u p s sector records → IsUntouched h p s
    → KeepsMap places m (Programs p (IsSpot s)) (λ done. Gains p s sector) h old result new

module _ (places u : ℕ) (at : Spot) (payload : Versioned) (t after : Tables) (sector : Sector)
    (old new : Told) (low : u < length t.places.current) (is : IsLogOf u (slice_index t.places.generations u) t.next payload sector)
  where
    pub log_told : IsAfterLog t after u at.place at.sector (mask_by payload) (t.next + 1)
        → NoneIsLost places after
        → Charts (Gains at.place at.sector sector) old new
        → Charts (WritesLog places u at payload t after) old new
    log_told tables none gained x told =
        let (y, there, gains) = gained x told in (
          y,
          there,
          λ it records asked. sector_stands places _ it t u at payload records sector low asked is
              after _ tables none gains,
        )

    abbrev Spot_p : ℕ
    Spot_p = at.place

    abbrev Spot_s : ℕ
    Spot_s = at.sector

    pub log_steps : (result : Result (Unit {0}) ChipFault) → IsSpotFor t u Spot_p Spot_s
        → OnOk result (IsAfterLog t after u Spot_p Spot_s (mask_by payload) (t.next + 1))
        → JoinsLog places Spot_p Spot_s sector old result new
        → IfErr result (λ fault. IsStopped fault old new)
        → WritesLogInSteps places u at payload t after old result new
    log_steps (Ok v) spot tables joins stopped m it records h steady rests agrees asked =
        let counted = spot_counted t u Spot_p Spot_s low spot in
        let first = agrees.tidy Spot_p Spot_s counted in
        writes_are_steps (Unit {0}) (EachStands places m) (Programs Spot_p (IsSpot Spot_s))
        (RestsWith places m (λ done. Gains Spot_p Spot_s sector) h) (λ done k. StoryRests places m k)
        t after h old new (Ok v)
        (joins m it h u records steady rests agrees.mirrors.laid
        (may places (now h) it t u at payload records sector low asked is spot) first) tt
        (λ done a programs. (
          programs.silent,
          record {
            lawful = λ base lawful clean. programs.lawful base lawful
                (λ n same. rw same (clean Spot_p Spot_s counted));
          },
        ))
        (λ done a programs ends base clean q n still.
        let (was, apart) = shrinks places (now h) it t u at payload records sector low asked is after
        tables q n still in
        programs.others base q n (λ same is_s. apart same is_s) (clean q n was))
        (λ done a programs ends. ends.0)
    log_steps (Err e) spot tables joins stopped m it records h steady rests agrees asked =
        let counted = spot_counted t u Spot_p Spot_s low spot in
        let first = agrees.tidy Spot_p Spot_s counted in
        failed_writes_are_steps (Unit {0}) (Unit {0}) (EachStands places m)
        (Programs Spot_p (IsSpot Spot_s))
        (RestsWith places m (λ done. Gains Spot_p Spot_s sector) h) (λ done k. StoryRests places m k)
        t after h old new e e
        (joins m it h u records steady rests agrees.mirrors.laid
        (may places (now h) it t u at payload records sector low asked is spot) first) stopped
        (λ a programs. (
          programs.silent,
          record {
            lawful = λ base lawful clean. programs.lawful base lawful
                (λ n same. rw same (clean Spot_p Spot_s counted));
          },
        ))
