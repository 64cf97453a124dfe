-- All committed numbers were found before, so that no pass is needed.
use Rattle.std.proofs.Common.{◌≡◌, inl, inr, ℕ, zero, suc, ◌<◌, ◌≤◌, ◌+◌, Bool, true, false, List, [], length, Some, refl, sym, ◌∙◌, ap, subst, arith, add-one}
use Rattle.std.specs.Bool.{OnTrue}
use Rattle.std.specs.List.{Contains}
use Rattle.std.proofs.lemmas.Bool.{cases_eq, le-leb, false≢true}
use Rattle.chip_trait.specs.Story.{Contents}
use Rattle.chip_trait.specs.Told.{Told}
use Rattle.ipl_meaning.specs.Chart.{Chart, chart_of}
use Rattle.ipl_meaning.specs.Layout.{Shape, Layout, Laid, records_of}
use Rattle.ipl_meaning.specs.Mirrors.{Mirrors}
use Rattle.ipl_meaning.specs.Tables.{StatusTable, Tables}
use Rattle.ipl_meaning.proofs.OnceLemmas.{laid_once}
use Rattle.number_set.specs.Numbers.{with_numbers, AreRising}
use Rattle.number_set.proofs.NumberLemmas.{numbers_are_a_union, length_with_numbers, with_numbers_grow, rising_with_numbers, rising_lists_are_one}
use Rattle.txn_status.specs.Status.{keeps_of}
use Rattle.restart.specs.Joins.{Kept, committed_in, joined}
use Rattle.restart.specs.Keeps.{IsLogged, KeepsBelow}
use Rattle.restart.proofs.KeepsLemmas.{none_are_kept, units_join, joined_numbers_join}
use Rattle.ipl_meaning.specs.LaidOut.{layout_in}
use Rattle.restart.specs.Collected.{AreCollected}
use Rattle.unit_io.specs.Costs.{Spends}
use Rattle.unit_io.specs.ReadsAt.{Anywhere, ReadsOnce}
use Rattle.unit_io.specs.Unread.{ReadsNothing}
use Rattle.unit_io.proofs.UnreadLemmas.{unread_then, once_then_unread}
use Rattle.restart.specs.Passes.{KeepsAll, kept_below, has_room, HasFound}
use Rattle.restart.specs.Recovers.{ReadsOnceWhereFit}
use Rattle.restart.proofs.UnitLemmas.{kept_fits}

-- ---- how many numbers

no_numbers : AreRising []
no_numbers = λ i j d less within. absurd (omega (arith, within))

-- rising numbers that are all among others are no more than those
fewer : (a b : List ℕ) → AreRising a → AreRising b → ((n : ℕ) → Contains a n → Contains b n)
    → length a ≤ length b
fewer a b rise rises within =
    let both : with_numbers b a ≡ b =
    rising_lists_are_one (with_numbers b a) b (rising_with_numbers b a rise) rises (λ n. (
      λ has. elim ((numbers_are_a_union b a n).0 has) [
        | inl there ↦ there
        | inr own ↦ within n own
      ],
      λ has. (numbers_are_a_union b a n).1 (inl has),
    )) in
    let grow = with_numbers_grow b a in
    let same = ap (λ (l : List ℕ). length l) both in omega (arith, grow, same)

-- in whatever order those stand
pub no_more : (a numbers : List ℕ) → AreRising a → ((n : ℕ) → Contains a n → Contains numbers n)
    → length a ≤ length numbers
no_more a numbers rise within =
    let sorted = with_numbers numbers [] in
    let few = fewer a sorted rise (rising_with_numbers numbers [] no_numbers)
    (λ n has. (numbers_are_a_union numbers [] n).1 (inl (within n has))) in
    let all = length_with_numbers numbers [] in omega (arith, few, all)

-- ---- what a pass would find

-- the numbers of each of the first n units fit
record AllFit (status : StatusTable) (it : Layout) (n : ℕ) : Type 0 where
  keeps : KeepsBelow n it (kept_below status it n)
  rises : AreRising (kept_below status it n)
  rooms : (u : ℕ) → u < n → has_room status it u ≡ true

module _ (places : ℕ) (x : Contents) (it : Layout) (t : Tables)
    (mirrors : Mirrors places (chart_of x) it t) (kept : List ℕ) (rising : AreRising kept)
    (few : length kept ≤ keeps_of t.status.most) (keeps : KeepsBelow it.count it kept) where
  -- one more unit: its numbers are among those that are kept
  fits_more : (n : ℕ) → n < it.count → AllFit t.status it n
      → AllFit t.status it (n + 1)
  fits_more n low so =
      let before = kept_below t.status it n in
      let records = records_of (it.units n).log in
      let next = joined t.status.numbers records before in
      let exact : KeepsBelow (n + 1) it next =
      units_join n it before next so.keeps
      (joined_numbers_join it.committed t.status.numbers (it.units n).log before
      mirrors.status.numbers) in
      let rise : AreRising next =
      rising_with_numbers (committed_in t.status.numbers records) before so.rises in
      let small : length next ≤ length kept = fewer next kept rise rising (λ tid has.
      let (is, (u, less, logged)) = (exact tid).0 has in
      (keeps tid).1 (is, (u, omega (arith, less, low), logged))) in
      let room : has_room t.status it n ≡ true =
      le-leb (length next) (keeps_of t.status.most) (omega (arith, small, few)) in
      let is : kept_below t.status it (n + 1) ≡ next =
      kept_fits t.status it n room in
      record {
        keeps = subst (λ (l : List ℕ). KeepsBelow (n + 1) it l) (sym is) exact;
        rises = subst AreRising (sym is) rise;
        rooms = λ u less. elim (cases_eq u n) [
          | inl at ↦ ap (has_room t.status it) at ∙ room
          | inr other ↦ so.rooms u (omega (arith, less, other))
        ];
      }

  fits_to : (n : ℕ) → n ≤ it.count → AllFit t.status it n
  unfolding kept_below
  fits_to zero low = record {
    keeps = none_are_kept it;
    rises = no_numbers;
    rooms = λ u less. absurd (omega (arith, less));
  }
  fits_to (suc n) low =
      subst (AllFit t.status it) (add-one n)
      (fits_more n (omega (arith, low)) (fits_to n (omega (arith, low))))

  -- so it is as if all units were passed
  pub passed_all : (told : Told) → told.contents ≡ Some x
      → HasFound places (chart_of x) it t kept told t
  passed_all told is =
      let all = fits_to it.count (omega arith) in record {
        contents = x;
        told = is;
        now = it;
        mirrors = mirrors;
        pages = record {
          shown = λ u page now low few shows. shows;
          no_more = λ u page base low few reads. (base, reads);
        };
        alike = record { count = refl; units = λ u low. inl refl };
        passed = inl (
          record {
            count = refl;
            same = λ u low either. refl;
            merged = λ u low full.
                let no_way : true ≡ false = sym (all.rooms u low) ∙ full in cc no_way;
          },
          rising_lists_are_one kept (kept_below t.status it it.count) rising
              all.rises (λ tid. (
                λ has. (all.keeps tid).1 ((keeps tid).0 has),
                λ has. (keeps tid).1 ((all.keeps tid).0 has),
              )),
        );
        committed = refl;
        keeps = keeps;
      }

-- ---- what an opening collected

-- it is so for each layout of the chart
collected_keeps : (places : ℕ) (c : Chart) (it : Layout) (numbers : Kept)
    → AreCollected places c true numbers → Laid places c (layout_in c places) → Laid places c it
    → KeepsBelow it.count it numbers.list
collected_keeps places c it numbers all laid also tid =
    let one = laid_once places c (layout_in c places) it laid also in
    let count : (layout_in c places).count ≡ it.count = one.count in (
      λ has.
          let (is, (u, low, logged)) =
          (all.exact tid).0 (subst (λ (l : List ℕ). Contains l tid) all.kept.all has) in (
            sym (one.committed tid) ∙ is,
            (
              u,
              omega (arith, low, count),
              subst (λ (s : Shape). IsLogged s.log tid) (one.units u low) logged,
            ),
          ),
      λ (is, (u, low, logged)).
          let there : u < (layout_in c places).count = omega (arith, low, count) in
          subst (λ (l : List ℕ). Contains l tid) (sym all.kept.all)
          ((all.exact tid).1 (
            one.committed tid ∙ is,
            (u, there, subst (λ (s : Shape). IsLogged s.log tid) (sym (one.units u there)) logged),
          )),
    )

pub all_kept : (places : ℕ) (t : Tables) (fits : Bool) (numbers : Kept) (old mid : Told)
    → mid.contents ≡ old.contents
    → ((x : Contents) → old.contents ≡ Some x → AreCollected places (chart_of x) fits numbers)
    → ((x : Contents) → old.contents ≡ Some x
    → Laid places (chart_of x) (layout_in (chart_of x) places))
    → fits ≡ true → KeepsAll places t numbers.list mid
all_kept places t true numbers old mid same collected laid fit x told it mirrors =
    let there = sym same ∙ told in
    collected_keeps places (chart_of x) it numbers (collected x there) (laid x there) mirrors.laid
all_kept places t false numbers old mid same collected laid fit x told it mirrors =
    absurd (false≢true fit)

-- ---- how often it reads

pub unread_both : (found : Bool) (old mid new : Told) → OnTrue found (Spends ReadsNothing old mid)
    → Spends ReadsNothing mid new → OnTrue found (Spends ReadsNothing old new)
unread_both true old mid new first second = unread_then old mid new first second
unread_both false old mid new first second = tt

-- a call that reads nothing, and then one that reads nothing where they were found
pub unread_first : (found : Bool) (old mid new : Told) → Spends ReadsNothing old mid
    → OnTrue found (Spends ReadsNothing mid new) → OnTrue found (Spends ReadsNothing old new)
unread_first true old mid new first second = unread_then old mid new first second
unread_first false old mid new first second = tt

pub once_where_fit : (most places : ℕ) (fits : Bool) (numbers : Kept) (old mid new : Told) → numbers.limit ≡ keeps_of most
    → ReadsOnce Anywhere old mid → OnTrue fits (Spends ReadsNothing mid new)
    → ((x : Contents) → old.contents ≡ Some x → AreCollected places (chart_of x) fits numbers)
    → ReadsOnceWhereFit most places old new
once_where_fit most places true numbers old mid new limit reads unread collected x told fit =
    once_then_unread Anywhere old mid new reads unread
once_where_fit most places false numbers old mid new limit reads unread collected x told (some, few, has_all) =
    let it = collected x told in
    let within = no_more it.found some it.rising (λ tid has.
    let (is, logged) = (it.exact tid).0 has in has_all tid is logged) in
    absurd (omega (arith, it.kept.more, within, few, limit))
