-- What keeps the pages keeps the map, and what a chart stands for after each step.
use Rattle.std.proofs.Common.{◌≡◌, ◌≤◌, ◌*◌, ℕ, refl, ◌∙◌, subst}
use Rattle.chip_trait.specs.Chart.{with_sector}
use Rattle.ipl_meaning.specs.Legible.{Legible}
use Rattle.ipl_meaning.specs.Chart.{Chart}
use Rattle.ipl_meaning.specs.Layout.{Layout, Laid}
use Rattle.ipl_meaning.specs.Stands.{Says, StandsIn, StandsBeside}
use Rattle.ipl_meaning.specs.Steps.{KeepsPages, with_unit, with_status, with_committed}
use Rattle.ipl_meaning.specs.Laws.{KeptPagesKeepTheMap}
use Rattle.ipl_meaning.specs.StandingLaws.{StandsAfterIdle, StandsAfterLogs, StandsAfterCommits, StandsAfterMarks, StandsAfterHeaders, StandsAfterMerges, StandsAfterRenewals, StandsAfterOverflows}
use Rattle.ipl_meaning.proofs.OnceLemmas.{same_count}
use Rattle.ipl_meaning.proofs.IdleLemmas.{idle_places_do_not_count}
use Rattle.ipl_meaning.proofs.WaitLemmas.{log_sectors_wait}
use Rattle.ipl_meaning.proofs.CommitLemmas.{commit_sectors_add}
use Rattle.ipl_meaning.proofs.MarkLemmas.{marks_wait}
use Rattle.ipl_meaning.proofs.SwitchLemmas.{headers_switch, merges_keep_pages, same_units_keep_pages, status_headers_switch, kept_numbers_keep_pages, overflow_headers_wait}

pub kept_pages_keep_the_map : KeptPagesKeepTheMap
kept_pages_keep_the_map places c y it new m keeps count says = record {
  pages = λ u page low few reads. let was = rw count at low in keeps.shown u page _ was few (says.pages u page was few reads);
  rotten = λ u page base low few is reads. let was = rw count at low in let before = keeps.no_more u page base was few reads in says.rotten u page before.0 was few is before.1;
  nowhere_else = λ n high. says.nowhere_else n (subst (λ (k : ℕ). 960 * k ≤ n) count high);
}

-- what keeps the pages, and then keeps them again
pub pages_then : (places : ℕ) (c y z : Chart) (it jt kt : Layout) → jt.count ≡ it.count → KeepsPages places c it y jt → KeepsPages places y jt z kt → KeepsPages places c it z kt
pages_then places c y z it jt kt count one two = record {
  shown = λ u page now low few shows. let there = rw (← count) at low in two.shown u page now there few (one.shown u page now low few shows);
  no_more = λ u page base low few reads. let there = rw (← count) at low in let was = two.no_more u page base there few reads in one.no_more u page was.0 low few was.1;
}

-- a chart that is laid out, with as many units, and shows its pages as the one before did, stands for the same map
pub stands_by : (places : ℕ) (m : Legible) (c y : Chart) (it new : Layout) → Laid places y new × KeepsPages places c it y new → new.count ≡ it.count → Says places c it m → StandsIn places it.count y m
stands_by places m c y it new (laid, keeps) count says = record {
  stands = record { layout = new; laid = laid; says = kept_pages_keep_the_map places c y it new m keeps count says };
  count = count;
}

-- in as many units as another that is laid out in so many
pub beside : (places : ℕ) (m : Legible) (c y : Chart) (it : Layout) → Laid places c it → StandsIn places it.count y m → StandsBeside places c y m
beside places m c y it laid is = record { stands = is.stands; alike = λ other too. is.count ∙ same_count places c it other laid too }

pub stands_after_idle : StandsAfterIdle
stands_after_idle places c it m p y laid says idle same nothing = beside places m c y it laid (stands_by places m c y it it (idle_places_do_not_count places c it p y laid idle same nothing) refl says)

pub stands_after_logs : StandsAfterLogs
stands_after_logs places c it m u p s sector records laid says may =
    beside places m c (with_sector c p s sector) it laid (stands_by places m c (with_sector c p s sector) it _ (log_sectors_wait places c it u p s sector records laid may) refl says)

pub stands_after_commits : StandsAfterCommits
stands_after_commits places c it n s sector numbers committed laid may says =
    let new = with_committed it committed in
    beside places n c (with_sector c it.status s sector) it laid
    (stands_by places n c (with_sector c it.status s sector) new new (commit_sectors_add places c it s sector numbers committed laid may) refl says)

pub stands_after_marks : StandsAfterMarks
stands_after_marks places c it m s mark laid says may =
    beside places m c (with_sector c it.status s mark) it laid
    (stands_by places m c (with_sector c it.status s mark) it it (marks_wait places c it s mark laid may) refl says)

pub stands_after_headers : StandsAfterHeaders
stands_after_headers places c it n u p fresh laid may says =
    let new = with_unit it u fresh in
    beside places n c (with_sector c p 0 fresh.head) it laid
    (stands_by places n c (with_sector c p 0 fresh.head) new new (headers_switch places c it u p fresh laid may) refl says)

pub stands_after_merges : StandsAfterMerges
stands_after_merges places c it m u p fresh laid says may merged =
    let same = same_units_keep_pages places c it u fresh (merges_keep_pages c it u fresh merged) in
    stands_after_headers places c it m u p fresh laid may (kept_pages_keep_the_map places c c it (with_unit it u fresh) m same refl says)

pub stands_after_renewals : StandsAfterRenewals
stands_after_renewals places c it m p head committed laid says may keeps =
    let new = with_status it p head committed in
    let same = kept_numbers_keep_pages places c it p head committed keeps in
    beside places m c (with_sector c p 0 head) it laid
    (stands_by places m c (with_sector c p 0 head) new new (status_headers_switch places c it p head committed laid may) refl (kept_pages_keep_the_map places c c it new m same refl says))

pub stands_after_overflows : StandsAfterOverflows
stands_after_overflows places c it m p head laid says may =
    beside places m c (with_sector c p 0 head) it laid (stands_by places m c (with_sector c p 0 head) it it (overflow_headers_wait places c it p head laid may) refl says)
