-- How the tables follow a commit sector.
use Rattle.std.proofs.Common.{◌≡◌, ◌≢◌, ℕ, ◌<◌, ◌≤◌, List, get_or, inl, inr, refl, arith, Bool, false}
use Rattle.std.specs.List.{All, AllPairs, Contains}
use Rattle.std.proofs.lemmas.Bool.{cases_Bool}
use Rattle.std.proofs.lemmas.List.Elements.{All-contains, Contains-append_left, Contains-append_right, Contains-append_cases}
use Rattle.chip_trait.specs.Chart.{with_sector}
use Rattle.ipl_format.specs.Sector.{Sector}
use Rattle.ipl_meaning.specs.Chart.{Chart}
use Rattle.ipl_meaning.specs.Layout.{Layout, IsLiveIn}
use Rattle.ipl_meaning.specs.Steps.{with_committed, MayCommit}
use Rattle.ipl_meaning.specs.Found.{MentionsBelow}
use Rattle.ipl_meaning.specs.Tables.{Tables}
use Rattle.ipl_meaning.specs.Mirrors.{AreApart, MirrorsOverflow, MirrorsStatus, MirrorsNumbers, Mirrors}
use Rattle.ipl_meaning.specs.TableSteps.{after_commit}
use Rattle.ipl_meaning.specs.FollowingLaws.{TablesFollowCommits}
use Rattle.ipl_meaning.proofs.PutLemmas.{kept, live_still, live_back, mark_before}
use Rattle.ipl_meaning.proofs.CommitLemmas.{commit_sectors_add}
use Rattle.ipl_meaning.proofs.CounterLemmas.{commit_sectors_keep_the_counter}
use Rattle.ipl_meaning.proofs.ApartLemmas.{none_still, some_still}
use Rattle.ipl_meaning.proofs.KnownLogLemmas.{logs_still}
use Rattle.ipl_meaning.proofs.CountedLemmas.{commit_counted}

module _ (places : ℕ) (c : Chart) (it : Layout) (t : Tables) (sector : Sector) (numbers : List ℕ) (committed : ℕ → Bool) (next : ℕ) (active : List ℕ) (mirrors : Mirrors places c it t)
    (may : MayCommit c it t.status.first sector numbers committed) (more : t.next ≤ next) (below : MentionsBelow next sector)
    (open_still : All (Contains t.active) active) (once : AllPairs AreApart active) (not_now : All (λ n. ¬ Contains numbers n) active) where
  abbrev first : ℕ
  first = t.status.first

  abbrev y : Chart
  y = with_sector c it.status first sector

  abbrev jt : Layout
  jt = with_committed it committed

  abbrev tables : Tables
  tables = after_commit t numbers next active

  no_header : first ≢ 0
  no_header none = omega (arith, may.where_it_is.0)

  live_then : (v q n : ℕ) (x : Sector) → IsLiveIn c places it v q n x → IsLiveIn y places jt v q n x
  live_then v q n x live = live_still c it.status first sector may.free places v (it.units v).home (it.units v).head.generation q n x live

  was_live : (v q n : ℕ) (x : Sector) → IsLiveIn y places jt v q n x → IsLiveIn c places it v q n x
  was_live v q n x live = live_back c it.status first sector may.free (λ none. absurd (no_header none)) places v (it.units v).home (it.units v).head.generation (λ is _. omega (arith, is, may.kind)) q n x live

  overflow : MirrorsOverflow places y jt tables
  overflow = let was = mirrors.overflow in record {
    units = was.units;
    listed = λ v q n x less live away. was.listed v q n x less (was_live v q n x live) away;
    only = λ v q n less is. let (away, x, live) = was.only v q n less is in (away, x, live_then v q n x live);
    once = was.once;
    few = was.few;
    in_overflow = was.in_overflow;
    headed = λ q is. let (within, over) = was.headed q is in (within, (over.0, kept c it.status first sector may.free q 0 over.0 over.1, over.2));
    two = was.two;
    apart = was.apart;
  }

  status : MirrorsStatus jt tables
  status = let was = mirrors.status in record {
    place = was.place;
    generation = was.generation;
    numbers = λ tid. (
      λ is_so. elim (may.no_more tid is_so) [
        | inl old ↦ Contains-append_left t.status.numbers numbers tid ((was.numbers tid).0 old)
        | inr new ↦ Contains-append_right t.status.numbers numbers tid new
      ],
      λ is. elim (Contains-append_cases t.status.numbers numbers tid is) [
        | inl old ↦ may.old_too tid ((was.numbers tid).1 old)
        | inr new ↦ may.new_too tid new
      ],
    );
  }

  numbers_there : MirrorsNumbers places y jt tables
  numbers_there = let was = mirrors.numbers in record {
    above = commit_sectors_keep_the_counter places c it first sector numbers committed next may below (λ n found. let low = was.above n found in omega (arith, low, more));
    below = λ k none within. let low = All-contains (λ n. n < t.next) t.active (get_or active k none) was.below (open_still k none within) in omega (arith, low, more);
    once = once;
    waits = λ k none within.
        let n = get_or active k none in
        let before : it.committed n ≡ false = All-contains (λ n. it.committed n ≡ false) t.active n was.waits (open_still k none within) in
        elim (cases_Bool (committed n)) [
          | inl is_so ↦ absurd (elim (may.no_more n is_so) [ inl old ↦ cc (old, before) | inr new ↦ not_now k none within new ])
          | inr is_not ↦ is_not
        ];
  }

  commit_followed : Mirrors places y jt tables
  commit_followed = record {
    laid = (commit_sectors_add places c it first sector numbers committed mirrors.laid may).0;
    directory = let was = mirrors.directory in record { units = was.units; logs = was.logs; all = was.all; counts = was.counts; current = was.current; heads = was.heads; generation = was.generation; not_home = was.not_home; not_status = was.not_status; not_overflow = was.not_overflow };
    overflow = overflow;
    status = status;
    numbers = numbers_there;
    masks = let was = mirrors.masks in record { units = was.units; lists = was.lists; sectors = was.sectors; home = was.home; elsewhere = was.elsewhere };
    logs = logs_still c y it jt (mark_before c it.status first sector may.free (λ is. omega (arith, is, may.kind)) it.status it.head.generation)
        refl (λ v. refl) (λ v. refl) (λ v n low. some_still c it.status first sector (it.units v).home n) t tables (λ v. refl) mirrors.logs;
    counted_clean = λ q n is. let (before, apart) = commit_counted places c it t mirrors numbers active next q n is in none_still c it.status first sector q n (mirrors.counted_clean q n before) apart;
  }

pub tables_follow_commits : TablesFollowCommits
tables_follow_commits places c it t sector numbers committed next active mirrors may more below open_still once not_now = commit_followed places c it t sector numbers committed next active mirrors may more below open_still once not_now
