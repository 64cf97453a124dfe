-- The numbers of a chip for which the memory stands have room there.
use Rattle.std.proofs.Common.{ℕ, ◌≡◌, ◌<◌, ◌≤◌, List, [], length, Option, Some, None, inl, inr, refl, sym, ◌∙◌, ap, subst, arith}
use Rattle.std.specs.Prelude.{IsTrue, ◌↔◌}
use Rattle.std.specs.List.{Contains}
use Rattle.chip_trait.specs.Story.{Contents}
use Rattle.chip_trait.specs.Told.{Told}
use Rattle.ipl_format.specs.Sector.{Sector}
use Rattle.ipl_meaning.specs.Chart.{Chart, chart_of}
use Rattle.ipl_meaning.specs.Chosen.{Winner, head_of, status_at}
use Rattle.ipl_meaning.specs.First.{joined_below}
use Rattle.ipl_meaning.specs.LaidOut.{numbers_of, committed_numbers}
use Rattle.ipl_meaning.specs.Layout.{Layout, Laid, IsCommitted}
use Rattle.ipl_meaning.specs.Live.{commit_at, sectors}
use Rattle.ipl_meaning.specs.Tables.{StatusTable}
use Rattle.ipl_meaning.proofs.BelowLemmas.{joined_has, joined_from}
use Rattle.ipl_meaning.proofs.HeaderLemmas.{chosen_are_status}
use Rattle.ipl_meaning.proofs.LiveLemmas.{sectors_are, commit_from, commit_to}
use Rattle.ipl_meaning.proofs.PayloadLemmas.{spelled_commits_pass}
use Rattle.number_set.specs.Numbers.{AreRising}
use Rattle.number_set.proofs.NumberLemmas.{numbers_are_a_union, rising_with_numbers, rising_lists_are_one}
use Rattle.txn_status.specs.Status.{IsSoundStatus}
use Rattle.restart.specs.Looks.{AreTooMany, numbers_in}

pub none_rise : AreRising []
none_rise = λ i j d first second. absurd (omega (arith, second))

module _ (places : ℕ) (c : Chart) (it : Layout) (laid : Laid places c it) where
  abbrev status : Winner
  status = record { place = it.status; head = head_of places it.head }

  status_is : status_at c places ≡ Some status
  status_is = chosen_are_status c places it.status it.head laid.chosen

  abbrev numbers_at_sector : ℕ → List ℕ
  numbers_at_sector s = numbers_of (commit_at c (Some status) s)

  -- a number that a sector of the status place tells is committed
  committed_there : (tid s : ℕ) (o : Option Sector) → s < sectors → commit_at c (Some status) s ≡ o
      → Contains (numbers_of o) tid → IsTrue (it.committed tid)
  committed_there tid s None low at has = absurd (let some = has.1 in omega (arith, some))
  committed_there tid s (Some sector) low at has =
      let of_it = commit_from c status s sector (omega (arith, low, sectors_are)) at in
      let spelled = laid.commits.spelled s sector of_it in
      let read = (spelled_commits_pass sector.payload spelled.0 spelled.1).1 in
      laid.commits.all_told tid (record {
        number = s;
        sector = sector;
        is = of_it;
        numbers = spelled.0;
        spelled = spelled.1;
        has = subst (λ (xs : List ℕ). Contains xs tid) read has;
      })

  -- and a committed number is told by one
  told_there : (tid : ℕ) → IsCommitted c it.status it.head.generation tid
      → Contains (joined_below numbers_at_sector sectors) tid
  told_there tid is =
      let here = commit_to c status is.number is.sector is.is in
      let read = (spelled_commits_pass is.sector.payload is.numbers is.spelled).1 in
      joined_has numbers_at_sector sectors is.number tid (omega (arith, is.is.where_it_is, sectors_are))
      (subst (λ (xs : List ℕ). Contains xs tid) (sym (ap numbers_of here ∙ read)) is.has)

  numbers_are : (tid : ℕ) → Contains (numbers_in places c) tid ↔ IsTrue (it.committed tid)
  numbers_are tid = (
    λ has. elim ((numbers_are_a_union (committed_numbers c (status_at c places)) [] tid).0 has) [
      | inl one ↦ (let (s, low, there) = joined_from numbers_at_sector sectors tid
          (subst (λ (o : Option Winner). Contains (committed_numbers c o) tid) status_is one) in
          committed_there tid s (commit_at c (Some status) s) low refl there)
      | inr none ↦ absurd (let some = none.1 in omega (arith, some))
    ],
    λ is. (numbers_are_a_union (committed_numbers c (status_at c places)) [] tid).1
        (inl (subst (λ (o : Option Winner). Contains (committed_numbers c o) tid) (sym status_is)
        (told_there tid (laid.commits.told tid is)))),
  )

  -- a rising list that mirrors it is that of all
  pub all_numbers : (numbers : List ℕ) → ((tid : ℕ) → IsTrue (it.committed tid) ↔ Contains numbers tid)
      → AreRising numbers → numbers_in places c ≡ numbers
  all_numbers numbers mirrors rising = rising_lists_are_one (numbers_in places c) numbers
      (rising_with_numbers (committed_numbers c (status_at c places)) [] none_rise) rising (λ tid. (
        λ has. (mirrors tid).0 ((numbers_are tid).0 has),
        λ has. (numbers_are tid).1 ((mirrors tid).1 has),
      ))

-- so there are never too many numbers
pub never_many : {told : Told} {x : Contents} (it : Layout) (t : StatusTable) → told.contents ≡ Some x
    → Laid told.places (chart_of x) it → ((tid : ℕ) → IsTrue (it.committed tid) ↔ Contains t.numbers tid)
    → IsSoundStatus t → AreTooMany t.most (numbers_in told.places) told → ⊥
never_many {told = told} {x = x} it t there laid mirrors sound many =
    let more = many.many x there in
    let same = all_numbers told.places (chart_of x) it laid t.numbers mirrors sound.rising in
    let within = sound.within in omega (arith, more, ap length same, within)
