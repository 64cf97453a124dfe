-- A place sealed.
use Rattle.std.proofs.Common.{◌≡◌, ◌≤◌, ◌*◌, ℕ, List, length, true, None, Result, Ok, Err, IfErr, IfOk, OnOk, is_ok, refl, sym, ◌∙◌, ap, subst, arith}
use Rattle.std.proofs.lemmas.List.{length-map}
use Rattle.chip_trait.specs.Chart.{with_sector}
use Rattle.chip_trait.specs.Lawful.{Clean, age}
use Rattle.chip_trait.specs.Told.{History, Told, Counts, adds_all}
use Rattle.log_records.specs.View.{Versioned}
use Rattle.selective_merge.specs.Packs.{payload_of}
use Rattle.ipl_base.specs.declared.fault.ChipFault.{ChipFault}
use Rattle.ipl_meaning.specs.Legible.{Legible}
use Rattle.ipl_base.specs.declared.limits.TheConstants.{VERSION}
use Rattle.ipl_format.proofs.HeaderOnceLemmas.{data_headers_say_erases}
use Rattle.ipl_format.specs.Sector.{Sector}
use Rattle.ipl_meaning.specs.Chart.{Chart}
use Rattle.ipl_meaning.specs.Layout.{Layout, Laid, Shape, ReadsWell, records_of}
use Rattle.ipl_meaning.specs.Marks.{MarksNoMore}
use Rattle.ipl_meaning.specs.Rests.{now, EachStands, EachStandsEither, WornAreIdle, StoryRests}
use Rattle.ipl_meaning.specs.Stands.{Shows, Says, Stands, StandsBeside, page_in}
use Rattle.ipl_meaning.specs.Steps.{with_unit}
use Rattle.ipl_meaning.specs.Tables.{Tables}
use Rattle.ipl_meaning.specs.TableSteps.{taken, with_next}
use Rattle.txn_status.specs.Switching.{HasCounts}
use Rattle.unit_layout.specs.declared.header.DataHeader.{DataHeader}
use Rattle.unit_layout.specs.Header.{SpellsHeader}
use Rattle.ipl_meaning.proofs.MarkLemmas.{headers_mark_no_more}
use Rattle.ipl_meaning.proofs.MirrorLemmas.{headers_may_go}
use Rattle.ipl_meaning.proofs.OnceLemmas.{laid_once}
use Rattle.ipl_meaning.proofs.StoryLemmas.{held_stands, either_is_kept}
use Rattle.ipl_meaning.proofs.SwitchLemmas.{headers_switch, same_applied}
use Rattle.ipl_meaning.proofs.WornLemmas.{worn_by_layout, idle_after_headers}
use Rattle.unit_io.specs.Charts.{Charts, Gains}
use Rattle.unit_io.specs.Leads.{IsSteady, SwitchesMap, IsStopped}
use Rattle.unit_io.specs.Spots.{Programs, IsSpot}
use Rattle.unit_io.proofs.LeadsLemmas.{leads_weaker}
use Rattle.selective_merge.specs.Merged.{source_of, packs_in, merged_shape, IsUnitHead, IsFilled, MayMerge, IsToMerge, IsWritten}
use Rattle.selective_merge.specs.Moved.{Source, IsAside}
use Rattle.selective_merge.specs.Pages.{IsFew}
use Rattle.selective_merge.proofs.FilledLemmas.{mirrors_filled}
use Rattle.selective_merge.proofs.MergeLemmas.{filled_places_are_ready, stands_after_filling}
use Rattle.selective_merge.specs.Throughout.{KeepsThroughout, ChartsThroughout}
use Rattle.selective_merge.specs.Writing.{GainsUnit, IsCleanPlace, IsFilledSpot, IsSealed, IsUnitSpot, SealsUnit, TellsWritten}
use Rattle.selective_merge.proofs.FillLemmas.{clean_bare, worn_apart, programs_unit, programs_unsealed, filled_by}
use Rattle.selective_merge.proofs.ThroughoutLemmas.{so_far_and, keeps_written, keeps_then, keeps_failed, told_then, told_written}

-- ---- the header

-- a sector whose payload says what a data header says is a unit's header
pub unit_head : (header : DataHeader) (head : Sector) → head.kind ≡ 1 → head.version ≡ VERSION
    → head.serial ≡ head.generation → SpellsHeader VERSION header head.payload
    → IsUnitHead header.units head.unit head.generation header.pieces header.carried header.erases head
unit_head header head kind version serial spells =
    let is : SpellsHeader head.version header head.payload =
    subst (λ (v : ℕ). SpellsHeader v header head.payload) (sym version) spells in record {
      kind = kind;
      version = version;
      of_unit = refl;
      of_generation = refl;
      serial = serial;
      counts = is.spelled;
      carries = is.carried_is;
      says = data_headers_say_erases head header.units header.pieces kind is.spelled ∙ is.erases_are;
    }

-- a header that switches a map to itself keeps it
pub sealed_keeps : (places p units erases u g : ℕ) (pieces : List ℕ) (carried : ℕ) (head : Sector)
    (old : Told) (result : Result (Unit {0}) ChipFault) (new : Told)
    → IsUnitHead units u g pieces carried erases head
    → ((m n : Legible) (h : History) → IsSteady h old → StoryRests places m h
    → age h.story p 0 ≡ Clean → StandsBeside places (now h) (with_sector (now h) p 0 head) n
    → WornAreIdle places h.story (with_sector (now h) p 0 head)
    → MarksNoMore places (now h) (with_sector (now h) p 0 head) p
    → SwitchesMap places m n (Programs p (IsSpot 0)) (λ done. Gains p 0 head) h old result new)
    → SealsUnit places p units erases u g pieces carried old result new
sealed_keeps places p units erases u g pieces carried head old result new is says m h steady rests clean
    stands =
    leads_weaker (EachStandsEither places m m) (EachStands places m)
    (Programs p (IsSpot 0)) (Programs p (IsSpot 0))
    (λ done k. StoryRests places m k × Gains p 0 head (now h) (now k))
    (λ done k. StoryRests places m k × IsSealed p units erases u g pieces carried (now h) (now k))
    h old result new (λ k each. either_is_kept places m k each) (λ done a same. same)
    (λ done k held. (held.0, (head, is, held.1)))
    (says m m h steady rests clean (stands head is).0 (stands head is).1 (stands head is).2)

pub sealed_tells : (p units erases u g : ℕ) (pieces : List ℕ) (carried : ℕ) (head : Sector) (old : Told)
    (result : Result (Unit {0}) ChipFault) (new : Told) → IsUnitHead units u g pieces carried erases head
    → OnOk result (Charts (Gains p 0 head) old new)
    → OnOk result (Charts (IsSealed p units erases u g pieces carried) old new)
sealed_tells p units erases u g pieces carried head old (Ok v) new is tells =
    λ x told. let (z, there, gains) = tells x told in (z, there, (head, is, gains))
sealed_tells p units erases u g pieces carried head old (Err e) new is tells = tt

-- ---- what a map says of the layout in hand

-- the map that a chart stands for is what its layout says
pub says_of : (places : ℕ) (c : Chart) (it : Layout) (m : Legible) → Laid places c it
    → Stands places c m → Says places c it m
says_of places c it m laid stands =
    let one = laid_once places c it stands.layout laid stands.laid in record {
      pages = λ u page low few reads.
          let theirs = rw one.count at low in
          let there = stands.says.pages u page theirs few reads in
          let units : stands.layout.units u ≡ it.units u = sym (one.units u low) in
          let here : Shows c stands.layout.committed u (it.units u) page (page_in m.map u page) =
          subst (λ (s : Shape). Shows c stands.layout.committed u s page (page_in m.map u page))
          units there in record {
            base = here.base;
            reads = here.reads;
            room = here.room;
            says = λ slot small. here.says slot small
                ∙ sym (same_applied it.committed stands.layout.committed page slot
                (records_of (it.units u).log) _ (λ k d within. sym (one.committed _)));
          };
      rotten = λ u page base low few is reads.
          let theirs = rw one.count at low in
          let units : stands.layout.units u ≡ it.units u = sym (one.units u low) in
          stands.says.rotten u page base theirs few is
          (subst (λ (s : Shape). ReadsWell c u s page base) (sym units) reads);
      nowhere_else = λ n high.
          stands.says.nowhere_else n (subst (λ (k : ℕ). 960 * k ≤ n) one.count high);
    }

-- ---- worn places

-- with the header of a unit that was written to a clean place, nothing counts at worn ones still
worn_after_filling : (places : ℕ) (c : Chart) (it : Layout) (t : Tables) (u p : ℕ) (head : Sector)
    (pieces : List ℕ) (serial : ℕ) (m : Legible) (k : History)
    → MayMerge places c (now k) it t u p head pieces serial → StoryRests places m k
    → age k.story p 0 ≡ Clean → WornAreIdle places k.story (with_sector (now k) p 0 head)
worn_after_filling places c it t u p head pieces serial m k may rests clean =
    let fresh = merged_shape t (it.units u) u p head pieces serial in
    let taken_then = with_next (taken t p) head.generation in
    let mirrors = mirrors_filled places c (now k) it t u p head pieces serial may in
    let ready = (filled_places_are_ready places c (now k) it t u p head pieces serial may).0 in
    let seal = headers_may_go places (now k) it taken_then u p fresh mirrors may.low ready in
    worn_by_layout places k.story (with_sector (now k) p 0 head) (with_unit it u fresh)
    (headers_switch places (now k) it u p fresh mirrors.laid seal).0
    (λ q worn. idle_after_headers places (now k) it u p fresh q seal
    (worn_apart k.story p q 0 clean worn) (rests.worn it mirrors.laid q worn))

-- and no more is marked
marks_after_filling : (places : ℕ) (c y : Chart) (it : Layout) (t : Tables) (u p : ℕ) (head : Sector)
    (pieces : List ℕ) (serial : ℕ) → MayMerge places c y it t u p head pieces serial
    → MarksNoMore places y (with_sector y p 0 head) p
marks_after_filling places c y it t u p head pieces serial may =
    headers_mark_no_more places y it (with_next (taken t p) head.generation) u p
    (merged_shape t (it.units u) u p head pieces serial)
    (mirrors_filled places c y it t u p head pieces serial may) may.low
    (filled_places_are_ready places c y it t u p head pieces serial may).0

-- ---- a unit written

module _ (places units erases p g serial carried : ℕ) (from : Source) (payloads : List Versioned)
    (pieces : List ℕ) (few : IsFew pieces) (carried_is : carried ≡ length payloads) where
  -- what is known of a place that was filled gives what a merge asks
  may_merge : (c y : Chart) (it : Layout) (t : Tables) (u : ℕ) (head : Sector)
      → HasCounts (taken t p) p units erases → IsToMerge places c it t u p g serial from payloads
      → IsUnitHead units from.unit g pieces carried erases head
      → IsFilled from p g serial pieces payloads c y
      → MayMerge places c y it t u p head pieces serial
  may_merge c y it t u head all what is filled =
      let unit : from.unit ≡ u = ap (λ (s : Source). s.unit) what.source in
      let gen : head.generation ≡ g = is.of_generation in
      let many : length payloads ≡ length (packs_in t (it.units u)) =
      ap length what.carried ∙ length-map (packs_in t (it.units u)) payload_of in record {
        mirrors = what.mirrors;
        low = what.low;
        free = what.free;
        within = what.within;
        head_is = rw (all.units_are, all.erases_are, ← many, ← carried_is, ← unit)
            (subst (λ (k : ℕ). IsUnitHead units from.unit k pieces carried erases head) (sym gen) is);
        new = omega (arith, what.new, gen);
        later = omega (arith, what.later, gen);
        few = few;
        twelve = omega (arith, what.twelve, many);
        filled = subst
            (λ (l : List Versioned). IsFilled (source_of t (it.units u) u) p head.generation serial
            pieces l c y) what.carried
            (subst (λ (s : Source). IsFilled s p head.generation serial pieces payloads c y)
            what.source
            (subst (λ (k : ℕ). IsFilled from p k serial pieces payloads c y) (sym gen) filled));
      }

  -- what was written to a place at which nothing checked
  filled_on : (c y : Chart) → ((s : ℕ) → c p s ≡ None)
      → GainsUnit from p g serial pieces payloads c y → IsFilled from p g serial pieces payloads c y
  filled_on c y bare gains = filled_by from p g serial pieces payloads c c y
      (record { bare = bare; others = λ q s apart. refl }) gains

  written : (c y z : Chart) (it : Layout) (t : Tables) (u : ℕ) → ((s : ℕ) → c p s ≡ None)
      → HasCounts (taken t p) p units erases → IsToMerge places c it t u p g serial from payloads
      → GainsUnit from p g serial pieces payloads c y
      → IsSealed p units erases from.unit g pieces carried y z
      → IsWritten places c z it t u p g serial
  written c y z it t u bare all what gains (head, is, sealed) = record {
    head = head;
    pieces = pieces;
    filled = y;
    generation_is = is.of_generation;
    may = may_merge c y it t u head all what is (filled_on c y bare gains);
    gains = sealed;
  }

  -- what is known of the place before
  abbrev Was : Layout → Tables → ℕ → Chart → Type 0
  Was it t u c = IsToMerge places c it t u p g serial from payloads × ((s : ℕ) → c p s ≡ None)

  pub unit_written : (m : Legible) (it : Layout) (t : Tables) (u : ℕ) (h : History) (old mid new : Told)
      (result : Result (Unit {0}) ChipFault) → HasCounts (taken t p) p units erases
      → IsToMerge places (now h) it t u p g serial from payloads → StoryRests places m h
      → IsCleanPlace p h → Counts old mid
      → KeepsThroughout {T = List ℕ} places m
      (Programs p (IsFilledSpot (length payloads)))
      (λ pieces. GainsUnit from p g serial pieces payloads) (IsAside p) h (Ok pieces) old mid
      → SealsUnit places p units erases from.unit g pieces carried mid result new
      → IfErr result (λ fault. IsStopped fault mid new)
      → KeepsThroughout places m (Programs p (IsUnitSpot (length payloads)))
      (λ done c y. IsWritten places c y it t u p g serial) (IsAside p) h result old new
  unit_written m it t u h old mid new result all what rests clean counts filled seals stopped =
      let bare : (s : ℕ) → now h p s ≡ None = λ s. clean_bare h p s (clean s) in
      let first = so_far_and places m h (Programs p (IsFilledSpot (length payloads)) true)
      (GainsUnit from p g serial pieces payloads) (Was it t u) old mid (what, bare) filled in
      let k = adds_all first.added h in
      let there = (first.ends tt).1 in
      let says = says_of places (now h) it m what.mirrors.laid (held_stands places m h rests.each) in
      let ready : age k.story p 0 ≡ Clean = first.does.others h.story p 0
      (λ same is. omega (arith, is.0)) (clean 0) in
      keeps_then places m h (Programs p (IsFilledSpot (length payloads)) true)
      (Programs p (IsSpot 0)) (Programs p (IsUnitSpot (length payloads)))
      (λ c y. GainsUnit from p g serial pieces payloads c y × Was it t u c)
      (λ (done : Unit {0}). IsSealed p units erases from.unit g pieces carried)
      (λ done c y. IsWritten places c y it t u p g serial) (λ c y. ⊥) (IsAside p)
      old mid new result first counts
      (keeps_written places m k (Programs p (IsSpot 0))
      (λ done. IsSealed p units erases from.unit g pieces carried) (λ c y. ⊥) mid new result
      (seals m k (first.steady tt) (first.ends tt).0 ready
      (λ head is.
      let may = may_merge (now h) (now k) it t u head all what is
      (filled_on (now h) (now k) bare there.0) in (
        stands_after_filling places (now h) (now k) it t u p head pieces serial m may says,
        worn_after_filling places (now h) it t u p head pieces serial m k may (first.ends tt).0
            ready,
        marks_after_filling places (now h) (now k) it t u p head pieces serial may,
      ))) stopped)
      (λ a b one two. programs_unit p (length payloads) (is_ok result) b a one two)
      (each result) (λ c d e is none. absurd none)
    where
      each : (r : Result (Unit {0}) ChipFault) → IfOk r (λ done. (c d e : Chart)
          → GainsUnit from p g serial pieces payloads c d × Was it t u c
          → IsSealed p units erases from.unit g pieces carried d e
          → IsWritten places c e it t u p g serial)
      each (Ok done) = λ c d e is sealed. written c d e it t u is.1.1 all is.1.0 is.0 sealed
      each (Err e) = tt

  pub written_told : (old mid new : Told) (result : Result (Unit {0}) ChipFault)
      → Charts (GainsUnit from p g serial pieces payloads) old mid
      → OnOk result (Charts (IsSealed p units erases from.unit g pieces carried) mid new)
      → IfErr result (λ fault. IsStopped fault mid new)
      → ChartsThroughout (λ done. TellsWritten places units erases from p g serial payloads) (IsAside p)
      result old new
  written_told old mid new result one two stopped =
      told_then (GainsUnit from p g serial pieces payloads)
      (λ (done : Unit {0}). IsSealed p units erases from.unit g pieces carried)
      (λ done. TellsWritten places units erases from p g serial payloads) (λ c y. ⊥) (IsAside p)
      old mid new result one
      (told_written (λ (done : Unit {0}). IsSealed p units erases from.unit g pieces carried) (λ c y. ⊥)
      mid mid new result (on_ok result two) stopped) (each result) (λ c d e is none. absurd none)
    where
      on_ok : (r : Result (Unit {0}) ChipFault)
          → OnOk r (Charts (IsSealed p units erases from.unit g pieces carried) mid new)
          → IfOk r (λ done. Charts (IsSealed p units erases from.unit g pieces carried) mid new)
      on_ok (Ok done) is = is
      on_ok (Err e) is = tt

      each : (r : Result (Unit {0}) ChipFault) → IfOk r (λ done. (c d e : Chart)
          → GainsUnit from p g serial pieces payloads c d
          → IsSealed p units erases from.unit g pieces carried d e
          → TellsWritten places units erases from p g serial payloads c e)
      each (Ok done) = λ c d e gains sealed it t u bare all what.
          written c d e it t u bare all what gains sealed
      each (Err e) = tt

-- the place wasn't filled
pub fill_failed : (places p g serial : ℕ) (from : Source) (payloads : List Versioned) (m : Legible)
    (it : Layout) (t : Tables) (u : ℕ) (h : History) (old new : Told) (e f : ChipFault)
    → f ≡ e → KeepsThroughout {T = List ℕ} places m (Programs p (IsFilledSpot (length payloads)))
    (λ pieces. GainsUnit from p g serial pieces payloads) (IsAside p) h (Err e) old new
    → KeepsThroughout {T = Unit {0}} places m (Programs p (IsUnitSpot (length payloads)))
    (λ done c y. IsWritten places c y it t u p g serial) (IsAside p) h (Err f) old new
fill_failed places p g serial from payloads m it t u h old new e f same did =
    keeps_failed places m h (Programs p (IsFilledSpot (length payloads)))
    (Programs p (IsUnitSpot (length payloads)))
    (λ pieces. GainsUnit from p g serial pieces payloads)
    (λ (done : Unit {0}) c y. IsWritten places c y it t u p g serial) (IsAside p) (IsAside p)
    old new e f same did (programs_unsealed p (length payloads)) (λ c d is. is)
