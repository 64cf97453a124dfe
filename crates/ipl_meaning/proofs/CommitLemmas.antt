-- A commit sector adds exactly its numbers.
use Rattle.std.proofs.Common.{◌≡◌, ◌≢◌, ◌⊎◌, ℕ, inl, inr, subst, arith, Bool, IsTrue, List, Contains}
use Rattle.chip_trait.specs.Chart.{with_sector}
use Rattle.ipl_format.specs.Sector.{Sector}
use Rattle.ipl_format.specs.Commit.{SpellsCommit}
use Rattle.ipl_meaning.specs.Chart.{Chart, IsStatusHeader}
use Rattle.ipl_meaning.specs.Layout.{IsCommitSector, IsCommitted, Layout, Laid}
use Rattle.ipl_meaning.specs.Steps.{with_committed, MayCommit}
use Rattle.ipl_meaning.specs.Laws.{CommitSectorsAdd}
use Rattle.ipl_meaning.proofs.PutLemmas.{new_or_old, here, chosen_still, live_back, unit_still, committed_still, marks_still, pages_still}
use Rattle.ipl_format.proofs.PayloadLemmas.{commits_spell_once}

module _ (places : ℕ) (c : Chart) (it : Layout) (s : ℕ) (sector : Sector) (numbers : List ℕ) (committed : ℕ → Bool) (laid : Laid places c it) (may : MayCommit c it s sector numbers committed) where
  abbrev y : Chart
  y = with_sector c it.status s sector

  pub no_header : s ≢ 0
  no_header none = omega (arith, may.where_it_is.0)

  new_or_old_sector : (t : ℕ) (x : Sector) → IsCommitSector y it.status it.head.generation t x → (sector ≡ x) ⊎ IsCommitSector c it.status it.head.generation t x
  new_or_old_sector t x w = elim (new_or_old c it.status s sector may.free it.status t x w.here) [
    | inl new ↦ inl new.2
    | inr old ↦ inr (record { here = old; kind = w.kind; of_generation = w.of_generation; where_it_is = w.where_it_is })
  ]

  told : (tid : ℕ) → IsTrue (it.committed tid) ⊎ Contains numbers tid → IsCommitted y it.status it.head.generation tid
  told tid (inl old) = committed_still c it.status s sector may.free it.status it.head.generation tid (laid.commits.told tid old)
  told tid (inr new) = record {
    number = s;
    sector = sector;
    is = record { here = here c it.status s sector may.free; kind = may.kind; of_generation = may.of_generation; where_it_is = may.where_it_is };
    numbers = numbers;
    spelled = may.spelled;
    has = new;
  }

  all_told : (tid : ℕ) → IsCommitted y it.status it.head.generation tid → IsTrue (committed tid)
  all_told tid w = elim (new_or_old_sector w.number w.sector w.is) [
    | inl new ↦
        let mine : SpellsCommit w.sector.payload numbers = subst (λ (x : Sector). SpellsCommit x.payload numbers) new may.spelled in
        may.new_too tid (subst (λ (l : List ℕ). Contains l tid) (commits_spell_once w.sector.payload w.numbers numbers w.spelled mine) w.has)
    | inr old ↦ may.old_too tid (laid.commits.all_told tid (record { number = w.number; sector = w.sector; is = old; numbers = w.numbers; spelled = w.spelled; has = w.has }))
  ]

  spelled : (t : ℕ) (x : Sector) → IsCommitSector y it.status it.head.generation t x → (l : List ℕ) × SpellsCommit x.payload l
  spelled t x w = elim (new_or_old_sector t x w) [
    | inl new ↦ (numbers, subst (λ (z : Sector). SpellsCommit z.payload numbers) new may.spelled)
    | inr old ↦ laid.commits.spelled t x old
  ]

  added : Laid places y (with_committed it committed)
  added = record {
    least = laid.least;
    most = laid.most;
    count = laid.count;
    chosen = chosen_still c it.status s sector may.free places IsStatusHeader it.status it.head (λ none. absurd (no_header none)) laid.chosen;
    counts = laid.counts;
    commits = record { spelled = spelled; told = λ tid is_so. told tid (may.no_more tid is_so); all_told = all_told };
    marks = marks_still c it.status s sector may.free (λ is. omega (arith, is, may.kind)) it.status it.head.generation it.count laid.marks;
    each = λ u low. unit_still c it.status s sector may.free places it.count u (it.units u) (λ none. absurd (no_header none))
        (live_back c it.status s sector may.free (λ none. absurd (no_header none)) places u (it.units u).home (it.units u).head.generation (λ is _. omega (arith, is, may.kind))) (laid.each u low);
    overflows = laid.overflows;
    two = laid.two;
    in_overflow = laid.in_overflow;
  }

pub commit_sectors_add : CommitSectorsAdd
commit_sectors_add places c it s sector numbers committed laid may = (added places c it s sector numbers committed laid may, pages_still c it.status s sector may.free places (with_committed it committed) (λ is. omega (arith, is, may.kind)))
