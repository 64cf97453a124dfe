-- A new overflow place.
use Rattle.std.proofs.Common.{◌≡◌, ◌⊎◌, ◌<◌, ◌≤◌, ◌+◌, ℕ, zero, suc, List, [], ◌∷◌, ◌++◌, length, slice_index, None, Some, Result, Ok, Err, IfErr, IfOk, OnOk, is_ok, inl, inr, refl, sym, ◌∙◌, ap, subst, arith}
use Rattle.std.specs.List.{Contains}
use Rattle.std.proofs.lemmas.Bool.{eq-eqb}
use Rattle.std.proofs.lemmas.List.Elements.{Contains-append_cases}
use Rattle.chip_trait.specs.Chart.{with_sector}
use Rattle.chip_trait.specs.Lawful.{Clean, age, AreClean}
use Rattle.chip_trait.specs.Story.{Story}
use Rattle.chip_trait.specs.Told.{History, Told, Counts, adds_all}
use Rattle.ipl_base.specs.declared.fault.ChipFault.{ChipFault}
use Rattle.ipl_format.specs.Header.{SpellsOverflowHeader, erases_said}
use Rattle.ipl_base.specs.declared.limits.TheConstants.{VERSION}
use Rattle.ipl_format.proofs.HeaderOnceLemmas.{overflow_headers_say_erases}
use Rattle.ipl_format.specs.Sector.{Sector}
use Rattle.unit_layout.specs.Header.{SpellsOverflow}
use Rattle.ipl_meaning.specs.Legible.{Legible}
use Rattle.ipl_meaning.specs.Chart.{Chart, chart_of}
use Rattle.ipl_meaning.specs.Found.{MentionsBelow}
use Rattle.ipl_meaning.specs.Layout.{Layout, Laid}
use Rattle.ipl_meaning.specs.Marks.{MarksNoMore}
use Rattle.ipl_meaning.specs.Mirrors.{Mirrors}
use Rattle.ipl_meaning.specs.Rests.{now, EachStands, EachStandsEither, WornAreIdle, StoryRests}
use Rattle.ipl_meaning.specs.Stands.{StandsBeside}
use Rattle.ipl_meaning.specs.Steps.{KeepsPages}
use Rattle.ipl_meaning.specs.Tables.{Places, OverflowLists, IsFree, Tables, IsCountedClean}
use Rattle.ipl_meaning.specs.TableSteps.{taken, with_overflow}
use Rattle.ipl_meaning.proofs.CarriedLemmas.{tidy_is_carried}
use Rattle.ipl_meaning.proofs.IdleFollowLemmas.{tables_follow_idle_places, places_may_be_taken}
use Rattle.ipl_meaning.proofs.IdleLemmas.{idle_places_do_not_count}
use Rattle.ipl_meaning.proofs.MarkLemmas.{overflows_mark_no_more}
use Rattle.ipl_meaning.proofs.MirrorLemmas.{free_places_are_idle, overflow_headers_may_go}
use Rattle.ipl_meaning.proofs.OverflowFollowLemmas.{tables_follow_overflows}
use Rattle.ipl_meaning.proofs.StandsLemmas.{stands_after_overflows, pages_then}
use Rattle.ipl_meaning.proofs.StoryLemmas.{held_stands, either_is_kept}
use Rattle.ipl_meaning.proofs.SwitchLemmas.{overflow_headers_wait}
use Rattle.ipl_meaning.proofs.WornLemmas.{worn_by_layout, idle_after_overflows}
use Rattle.unit_directory.specs.Free.{AreNext, aside}
use Rattle.unit_directory.proofs.AsideLemmas.{next_places_are_aside}
use Rattle.txn_status.specs.Switching.{HasCounts}
use Rattle.unit_io.specs.Charts.{Charts, IsCleared, Gains}
use Rattle.unit_io.specs.Leads.{IsSteady, SwitchesMap, IsStopped}
use Rattle.unit_io.specs.Spots.{Programs, IsSpot}
use Rattle.unit_io.proofs.LeadsLemmas.{leads_weaker}
use Rattle.unit_io.specs.Steps.{Steps, RestsAgreeing}
use Rattle.place_taking.specs.Spending.{WritesFree}
use Rattle.place_taking.specs.Takes.{ClearsNext, TakesPlace}
use Rattle.place_taking.proofs.JoinLemmas.{counted_alike, counted_used, writes_taken}
use Rattle.selective_merge.proofs.KnownLemmas.{taken_is_used}
use Rattle.selective_merge.specs.Moving.{set_aside}
use Rattle.selective_merge.specs.Placing.{HasOverflowHeader, OpensPlace, SaysCounts, RestsOpened}
use Rattle.selective_merge.specs.Throughout.{KeepsThroughout}
use Rattle.selective_merge.proofs.FillLemmas.{clean_bare, worn_apart}
use Rattle.selective_merge.proofs.SealLemmas.{says_of}
use Rattle.selective_merge.proofs.TakenLemmas.{aside_mirrors, cleared_mirrors, taken_so_far}
use Rattle.selective_merge.proofs.ThroughoutLemmas.{so_far_and, keeps_written, keeps_then, charts_then}

-- ---- on the chip

-- a header of an overflow place, which says how often it was erased
pub record IsOverflowHead (units erases g : ℕ) (head : Sector) : Type 0 where
  pub kind : head.kind ≡ 3
  pub of_generation : head.generation ≡ g
  pub serial : head.serial ≡ g
  pub counts : SpellsOverflowHeader head.version units head.payload
  pub says : erases_said (Some head) ≡ erases

-- a sector whose payload says what an overflow header says is one
pub overflow_head : (units erases g : ℕ) (head : Sector) → head.kind ≡ 3 → head.version ≡ VERSION
    → head.generation ≡ g → head.serial ≡ g → SpellsOverflow VERSION units erases head.payload
    → IsOverflowHead units erases g head
overflow_head units erases g head kind version generation serial spells =
    let is : SpellsOverflow head.version units erases head.payload =
    subst (λ (v : ℕ). SpellsOverflow v units erases head.payload) (sym version) spells in record {
      kind = kind;
      of_generation = generation;
      serial = serial;
      counts = is.spelled;
      says = overflow_headers_say_erases head units kind is.spelled ∙ is.erases_are;
    }

opened_by : (p units erases g : ℕ) (c y : Chart) (head : Sector) → IsOverflowHead units erases g head
    → Gains p 0 head c y → HasOverflowHeader p units erases g c y
opened_by p units erases g c y head is gains = record {
  head = head;
  kind = is.kind;
  of_generation = is.of_generation;
  serial = is.serial;
  counts = is.counts;
  says = is.says;
  gains = gains;
}

pub opened_told : (p units erases g : ℕ) (head : Sector) (old new : Told) → IsOverflowHead units erases g head
    → (result : Result (Unit {0}) ChipFault) → OnOk result (Charts (Gains p 0 head) old new)
    → OnOk result (Charts (HasOverflowHeader p units erases g) old new)
opened_told p units erases g head old new is (Ok w) tells = λ x told.
    let (y, told_y, gains) = tells x told in
    (y, told_y, opened_by p units erases g (chart_of x) (chart_of y) head is gains)
opened_told p units erases g head old new is (Err e) tells = tt

-- a cleared place that is free is laid out as before
cleared_kept : (places p : ℕ) (c y : Chart) (it : Layout) (t : Tables) → Mirrors places c it t
    → IsFree t.places p → IsCleared p c y → Laid places y it × KeepsPages places c it y it
cleared_kept places p c y it t mirrors free cleared =
    idle_places_do_not_count places c it p y mirrors.laid
    (free_places_are_idle places c it t p mirrors free) cleared.others (record {
      unit_header = λ u low head here is. absurd (never 0 head here);
      status = λ head here is. absurd (never 0 head here);
      no_live = λ u low s sector live. never s sector live.here;
    })
  where
    never : (s : ℕ) (sector : Sector) → y p s ≡ Some sector → ⊥
    never s sector here = let e : None ≡ Some sector = sym (cleared.bare s) ∙ here in cc

-- the sector that was put there
sector_here : (c : Chart) (p s : ℕ) (sector : Sector) → with_sector c p s sector p s ≡ Some sector
sector_here c p s sector = rw (eq-eqb p p refl, eq-eqb s s refl) refl

-- what the seal says
abbrev pub HeaderSays : ℕ → ℕ → Sector → Told → Result (Unit {0}) ChipFault → Told → Type 0
HeaderSays places p head old result new = (m n : Legible) (h : History) → IsSteady h old
    → StoryRests places m h → age h.story p 0 ≡ Clean
    → StandsBeside places (now h) (with_sector (now h) p 0 head) n
    → WornAreIdle places h.story (with_sector (now h) p 0 head)
    → MarksNoMore places (now h) (with_sector (now h) p 0 head) p
    → SwitchesMap places m n (Programs p (IsSpot 0)) (λ done. Gains p 0 head) h old result new

pub place_opened : (places p units erases g : ℕ) (head : Sector) (old new : Told)
    (result : Result (Unit {0}) ChipFault) → IsOverflowHead units erases g head
    → HeaderSays places p head old result new → OpensPlace places p units erases g old result new
place_opened places p units erases g head old new result is seal m it h steady rests laid clean =
    let may = overflow_headers_may_go places (now h) it p head (λ s. clean_bare h p s (clean s)) is.kind in
    let says = says_of places (now h) it m laid (held_stands places m h rests.each) in
    let worn = worn_by_layout places h.story (with_sector (now h) p 0 head) it
    (overflow_headers_wait places (now h) it p head laid may).0
    (λ q worn. idle_after_overflows places (now h) it p head q
    (worn_apart h.story p q 0 (clean 0) worn) (rests.worn it laid q worn)) in
    leads_weaker (EachStandsEither places m m) (EachStands places m) (Programs p (IsSpot 0))
    (Programs p (IsSpot 0)) (λ done k. StoryRests places m k × Gains p 0 head (now h) (now k))
    (λ done k. StoryRests places m k × HasOverflowHeader p units erases g (now h) (now k)) h old result new
    (λ k either. either_is_kept places m k either) (λ done a does. does)
    (λ done k both. (both.0, opened_by p units erases g (now h) (now k) head is both.1))
    (seal m m h steady rests (clean 0)
    (stands_after_overflows places (now h) it m p head laid says may) worn
    (overflows_mark_no_more places (now h) it p head laid may))

-- the place was cleared, and then opened
pub record WasOpened (p units erases g : ℕ) (c z : Chart) : Type 0 where
  pub bare : Chart
  pub cleared : IsCleared p c bare
  pub opened : HasOverflowHeader p units erases g bare z

-- ---- in the tables

-- the tables mirror the chart with the header, and each page is shown still
pub opened_mirrors : (places p units erases g : ℕ) (c z : Chart) (it : Layout) (t : Tables)
    → Mirrors places c it t → IsFree t.places p → p < places → t.next ≤ g
    → length t.overflow.in_use < 2 → WasOpened p units erases g c z
    → Mirrors places z it (with_overflow (taken t p) p (g + 1)) × KeepsPages places c it z it
opened_mirrors places p units erases g c z it t mirrors free within new two is =
    let idle = free_places_are_idle places c it t p mirrors free in
    let no_overflow = mirrors.directory.not_overflow p free in
    let bare = tables_follow_idle_places places c it (taken t p) p is.bare t.next
    (places_may_be_taken places c it t p mirrors within) idle no_overflow is.cleared.others
    (is.cleared.bare 0) (omega arith) in
    let then = is.opened in
    let may = overflow_headers_may_go places is.bare it p then.head is.cleared.bare then.kind in
    let mentions : MentionsBelow (g + 1) then.head = λ number how. elim how [
      | inl same ↦ omega (arith, same, then.of_generation)
      | inr (inl same) ↦ omega (arith, same, then.serial)
      | inr (inr (inl commit)) ↦ absurd (omega (arith, commit.0, then.kind))
      | inr (inr (inr log)) ↦ absurd (omega (arith, log.0, then.kind))
    ] in
    let waits = overflow_headers_wait places is.bare it p then.head bare.laid may in
    let kept = (cleared_kept places p c is.bare it t mirrors free is.cleared).1 in (
      rw then.gains (tables_follow_overflows places is.bare it (taken t p) p (g + 1) then.head bare may
          within (taken_is_used t p) two (omega (arith, new)) mentions is.cleared.bare),
      rw then.gains (pages_then places c is.bare (with_sector is.bare p 0 then.head) it it it refl kept waits.1),
    )

-- and the header says what the tables count, and how many units they have
pub opened_says : (p units erases g : ℕ) (c z : Chart) (t after : Tables) (next : ℕ)
    → HasCounts (taken t p) p units erases → after ≡ with_overflow (taken t p) p next
    → WasOpened p units erases g c z → SaysCounts after p z
opened_says p units erases g c z t after next has is opened =
    let head = opened.opened.head in
    let here : z p 0 ≡ Some head = ap (λ (d : Chart). d p 0) opened.opened.gains
    ∙ sector_here opened.bare p 0 head in record {
      erases = ap erases_said here ∙ opened.opened.says ∙ sym has.erases_are
          ∙ sym (ap (λ (x : Tables). slice_index x.places.erases p) is);
      units = (
        head,
        here,
        opened.opened.kind,
        subst (λ (n : ℕ). SpellsOverflowHeader head.version n head.payload)
            (sym has.units_are ∙ sym (ap (λ (x : Tables). length x.places.current) is))
            opened.opened.counts,
      );
    }

opened_counted : (t : Tables) (p next : ℕ) (q n : ℕ)
    → IsCountedClean (with_overflow (taken t p) p next) q n
    → IsCountedClean t q n ⊎ ((q ≡ p) × (1 ≤ n))
opened_counted t p next q n (small, inl home) = inl (small, inl home)
opened_counted t p next q n (small, inr (inl (first, has, above))) =
    elim (Contains-append_cases t.overflow.in_use ((p, 1) ∷ []) (q, first) has) [
      | inl before ↦ inl (small, inr (inl (first, before, above)))
      | inr here ↦ let both = only here in inr (both.0, omega (arith, above, both.1))
    ]
  where
    only : Contains {X = ℕ × ℕ} ((p, 1) ∷ []) (q, first) → (q ≡ p) × (first ≡ 1)
    only (zero, within, same) =
        (sym (ap (λ (z : ℕ × ℕ). z.0) same), sym (ap (λ (z : ℕ × ℕ). z.1) same))
    only (suc k, within, same) = absurd (omega (arith, within))
opened_counted t p next q n (small, inr (inr status)) = inl (small, inr (inr status))

-- what a power cut leaves
module _ (p units erases g : ℕ) (m : Legible) (it : Layout) (t : Tables) (after : Places) (h : History)
    (old mid new : Told) (free : IsFree t.places p) (steady : IsSteady h old)
    (here : RestsAgreeing old.places m it t h) (takes : TakesPlace t.places old (Ok p) after mid)
    (counts : Counts old mid) (result : Result (Unit {0}) ChipFault)
    (opens : OpensPlace mid.places p units erases g mid result new)
    (stopped : IfErr result (λ fault. IsStopped fault mid new)) where
  -- the place taken, and its header
  opened_all : KeepsThroughout old.places m (WritesFree t.places p 1) (λ done. WasOpened p units erases g)
      (λ c y. ⊥) h result old new
  opened_all =
      let Mirror : Chart → Type 0 = λ c. Mirrors old.places c it t in
      let first = so_far_and old.places m h (ClearsNext t.places (Ok p)) (IsCleared p) Mirror old mid
      here.agrees.mirrors (taken_so_far t after p m it h old mid steady here takes) in
      let k = adds_all first.added h in
      let there = (first.ends tt).1 in
      let says = subst (λ (q : ℕ). OpensPlace q p units erases g mid result new) counts.places opens in
      keeps_then old.places m h (ClearsNext t.places (Ok p)) (Programs p (IsSpot 0))
      (WritesFree t.places p 1)
      (λ c y. IsCleared p c y × Mirror c) (λ (done : Unit {0}). HasOverflowHeader p units erases g)
      (λ done. WasOpened p units erases g) (λ c y. ⊥) (λ c y. ⊥) old mid new result first counts
      (keeps_written old.places m k (Programs p (IsSpot 0)) (λ done. HasOverflowHeader p units erases g) (λ c y. ⊥) mid
      new result
      (says m it k (first.steady tt) (first.ends tt).0
      (cleared_mirrors old.places (now h) (now k) it t p there.1 free there.0).laid
      (λ s. first.does.fresh h.story s (omega arith))) stopped)
      (λ a b one two. writes_taken t.places p 1 (IsSpot 0) (is_ok result) (is_ok result) b a free
      (λ s above spot. omega (arith, above, spot)) one two)
      (each result) (λ c d e is none. none)
    where
      each : (r : Result (Unit {0}) ChipFault) → IfOk r (λ done. (c d e : Chart)
          → IsCleared p c d × Mirrors old.places c it t → HasOverflowHeader p units erases g d e
          → WasOpened p units erases g c e)
      each (Ok done) = λ c d e is opened. record { bare = d; cleared = is.0; opened = opened }
      each (Err e) = tt

-- the place was opened
pub opened_steps : (p units erases g : ℕ) (m : Legible) (it : Layout) (t then : Tables) (worn : List ℕ)
    (after : Places) (h : History) (old mid new : Told) → AreNext t.places worn
    → IsFree (set_aside t worn).places p → (steady : IsSteady h old)
    → RestsAgreeing old.places m it t h → TakesPlace t.places old (Ok p) after mid → Counts old mid
    → OpensPlace mid.places p units erases g mid (Ok tt) new → (T : Type 0) (v : T) → p < old.places
    → t.next ≤ g → length t.overflow.in_use < 2
    → then ≡ with_overflow (taken (set_aside t worn) p) p (g + 1)
    → HasCounts (taken (set_aside t worn) p) p units erases
    → Steps {T = T} {E = ChipFault} (EachStands old.places m) t then
    (λ v k. RestsOpened old.places m (now h) it then p k)
    (λ k. RestsAgreeing old.places m it then k) h (Ok v) old new
opened_steps p units erases g m it t then worn after h old mid new in_turn free steady here takes counts
    opens T v within newer two is has =
    let facts = next_places_are_aside t.places worn in_turn in
    let did = opened_all p units erases g m it t after h old mid new ((facts.free p).0 free).0 steady here
    takes counts (Ok tt) opens tt in
    let there = opened_mirrors old.places p units erases g (now h) (now (adds_all did.added h)) it
    (set_aside t worn) (aside_mirrors old.places (now h) it t worn here.agrees.mirrors in_turn) free
    within newer two (did.ends tt).1 in
    let clean : (base : Story) → AreClean (IsCountedClean t) base
    → AreClean (IsCountedClean then) (did.added ++ base) = λ base before q s counted.
    elim (opened_counted (set_aside t worn) p (g + 1) q s (rw is at counted)) [
      | inl between ↦
          let was = counted_alike t (aside t.places worn) facts.current facts.written q s between in
          did.does.spares.others base q s (counted_used old.places m it h t here q s was) (before q s was)
      | inr (at, above) ↦ rw at (did.does.fresh refl base s above)
    ] in record {
      added = did.added;
      places = did.places;
      history = did.history;
      each_moment = did.each_moment;
      marks = did.marks;
      does = record {
        silent = did.does.spares.silent;
        lawful = record { lawful = λ base lawful clean. did.does.spares.lawful base lawful };
        clean = λ done. clean;
      };
      steady = λ done. did.steady tt;
      ends = λ done. record {
        rests = (did.ends tt).0;
        agrees = record {
          mirrors = rw is there.0;
          tidy = tidy_is_carried old.places h it t then did.added here.agrees clean;
        };
        keeps = there.1;
        says = opened_says p units erases g (now h) (now (adds_all did.added h)) (set_aside t worn) then
            (g + 1) has is (did.ends tt).1;
      };
    }

-- it wasn't: a write failed
pub open_failed : (p units erases g : ℕ) (m : Legible) (it : Layout) (t then : Tables) (after : Places)
    (h : History) (old mid new : Told) → IsFree t.places p → (steady : IsSteady h old)
    → RestsAgreeing old.places m it t h → TakesPlace t.places old (Ok p) after mid → Counts old mid
    → (T : Type 0) (e f : ChipFault) → IsStopped e mid new
    → OpensPlace mid.places p units erases g mid (Err e) new
    → Steps {T = T} {E = ChipFault} (EachStands old.places m) t then
    (λ v k. RestsOpened old.places m (now h) it then p k)
    (λ k. RestsAgreeing old.places m it then k) h (Err f) old new
open_failed p units erases g m it t then after h old mid new free steady here takes counts T e f stopped
    opens =
    let did = opened_all p units erases g m it t after h old mid new free steady here takes counts (Err e)
    opens stopped in record {
      added = did.added;
      places = did.places;
      history = did.history;
      each_moment = did.each_moment;
      marks = did.marks;
      does = record {
        silent = did.does.spares.silent;
        lawful = record { lawful = λ base lawful clean. did.does.spares.lawful base lawful };
        clean = λ unrisen. absurd (did.ends (inl unrisen)).1;
      };
      steady = λ unrisen. did.steady (inl unrisen);
      ends = λ unrisen. absurd (did.ends (inl unrisen)).1;
    }

-- what the chip tells once the place was taken and opened
pub taken_told : (p units erases g : ℕ) (old mid new : Told) → Charts (IsCleared p) old mid
    → Charts (HasOverflowHeader p units erases g) mid new → Charts (WasOpened p units erases g) old new
taken_told p units erases g old mid new first second =
    charts_then (IsCleared p) (HasOverflowHeader p units erases g) (WasOpened p units erases g) old mid new first second
    (λ c d e cleared opened. record { bare = d; cleared = cleared; opened = opened })

pub tables_same : (t : Tables) (a b : Places) (x y : OverflowLists) (n k : ℕ) → a ≡ b → x ≡ y
    → n ≡ k → ◌≡◌ {A = Tables} (record {
      places = a;
      overflow = x;
      status = t.status;
      next = n;
      active = t.active;
    }) (record {
      places = b;
      overflow = y;
      status = t.status;
      next = k;
      active = t.active;
    })
tables_same t a b x y n k same_places same_lists same_next =
    rw (same_places, same_lists, same_next) refl
