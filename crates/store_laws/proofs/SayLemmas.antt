-- The map after a commit.
use Rattle.std.proofs.Common.{Bool, List, None, Option, Some, ap, arith, max, refl, subst, sym, ℕ, ◌+◌, ◌-◌, ◌<◌, ◌≤◌, ◌∙◌, ◌≡◌}
use Rattle.std.specs.FinMap.{get}
use Rattle.std.specs.Option.{option_map_or}
use Rattle.std.proofs.Math.Nat.{le-max_left, le-max_right, max-le}
use Rattle.ipl_base.specs.Sizes.{size_in_page}
use Rattle.ipl_base.specs.declared.limits.TheConstants.{PAGE_LEN, PAGES, SLOTS}
use Rattle.ipl_model.specs.Peaks.{peaks}
use Rattle.ipl_model.specs.Operations.{after_commit}
use Rattle.ipl_model.specs.State.{State, last_write, writes_of}
use Rattle.ipl_model.proofs.RulePeakLemmas.{le_trans, last_most, own_most, removed_most}
use Rattle.ipl_model.proofs.SeenLemmas.{get-with_writes}
use Rattle.ipl_format.specs.Page.{value_in}
use Rattle.ipl_format.specs.Record.{Change, Record}
use Rattle.ipl_meaning.specs.Chart.{Chart}
use Rattle.ipl_meaning.specs.Last.{applied, is_number, last_that}
use Rattle.ipl_meaning.specs.Layout.{Layout, records_of}
use Rattle.ipl_meaning.specs.Stands.{Shows, page_in}
use Rattle.ipl_meaning.specs.Steps.{with_committed}
use Rattle.ipl_meaning.specs.Values.{Values, counts_for}
use Rattle.ipl_meaning.proofs.LastLemmas.{commits_apply_the_last}
use Rattle.page_ops.proofs.FillLemmas.{fills_less, room_in_fill}
use Rattle.store_laws.specs.Pending.{Logs, SessionNumbers, name_at, records_at, change_in, HasPending, IsWrittenOut}
use Rattle.store_laws.specs.PendingLaws.{NumberJoins, CommitsSayWrites}
use Rattle.store_laws.specs.Room.{fill_at, PageHasRoom, PagesHaveRoom}
use Rattle.store_laws.proofs.LastLemmas.{last_that-append, last_that-none, no_record}
use Rattle.store_laws.proofs.RoomLemmas.{shown_fill, one_less}

-- what a last write says of the value
last_says : (o : Option Record) (value : Option (List ℕ))
    → applied o value ≡ option_map_or (λ (change : Change). change) (change_in o) value
last_says None value = refl
last_says (Some r) value = refl

-- a number that no record in memory has is on the chip as a whole
pub on_chip : (it : Layout) (logs : Logs) (tid u page slot : ℕ) → IsWrittenOut logs tid
    → last_that (counts_for (is_number tid) page slot) (records_of (it.units u).log) None
    ≡ last_that (counts_for (is_number tid) page slot) (records_at it logs u page) None
on_chip it logs tid u page slot out =
    let test = counts_for (is_number tid) page slot in
    let live = records_of (it.units u).log in
    sym (last_that-append test live (logs u page) None
    ∙ last_that-none test (logs u page) (last_that test live None)
    (no_record tid page slot (logs u page) (out u page)))

-- ---- the commit of a session that is on the chip as a whole

module _ (units : ℕ) (c : Chart) (it : Layout) (logs : Logs) (numbers : SessionNumbers) (state : State) (s tid : ℕ)
    (after : ℕ → Bool) (has : HasPending units it logs numbers state) (filled : PagesHaveRoom units c it state)
    (mine : numbers s ≡ Some tid) (out : IsWrittenOut logs tid) (joins : NumberJoins it.committed tid after)
    (u page : ℕ) (low : u < units) (few : page < PAGES) where
  abbrev its_last : ℕ → Option Record
  its_last slot = last_that (counts_for (is_number tid) page slot) (records_of (it.units u).log) None

  -- its last record on a name is its last write there
  is_last : (slot : ℕ) → slot < SLOTS
      → change_in (its_last slot) ≡ last_write (writes_of state s) (name_at u page slot)
  is_last slot less =
      ap change_in (on_chip it logs tid u page slot out) ∙ has.last s tid u page slot mine low few less

  -- with its changes a slot takes no more than it may come to take
  pub applied_most : (slot : ℕ) (value : Option (List ℕ)) → slot < SLOTS
      → size_in_page (applied (its_last slot) value) ≤ max (size_in_page value) (peaks state (name_at u page slot) - 1)
  applied_most slot value less = by_last (its_last slot) (is_last slot less)
    where
      one_fewer : {size own most : ℕ} → 1 + size ≤ own → own ≤ most → size ≤ most - 1
      one_fewer own most = omega (arith, own, most)

      by_last : (o : Option Record) → change_in o ≡ last_write (writes_of state s) (name_at u page slot)
          → size_in_page (applied o value) ≤ max (size_in_page value) (peaks state (name_at u page slot) - 1)
      by_last None is = le-max_left (size_in_page value) (peaks state (name_at u page slot) - 1)
      by_last (Some r) is =
          let own = last_most (writes_of state s) (name_at u page slot) r.change (sym is) in
          let most = own_most state s (name_at u page slot) in
          le_trans (one_fewer own most)
          (le-max_right (size_in_page value) (peaks state (name_at u page slot) - 1))

  -- the page shows its values with the session's changes, for which it has room
  pub applied_shows : (values now : Values)
      → ((slot : ℕ) → slot < SLOTS → now slot ≡ applied (its_last slot) (values slot))
      → Shows c it.committed u (it.units u) page values → Shows c after u (it.units u) page now
  applied_shows values now is shows = record {
    base = shows.base;
    reads = shows.reads;
    says = λ slot less.
        is slot less
        ∙ ap (applied (its_last slot)) (shows.says slot less)
        ∙ sym (commits_apply_the_last it.committed after tid (records_of (it.units u).log) joins
        (has.none_behind s tid u mine low) page slot (value_in shows.base slot));
    room = le_trans (room_in_fill (λ slot. peaks state (name_at u page slot)) now values (λ slot less.
        same_size (is slot less) (applied_most slot (values slot) less)))
        (shown_fill units c it state u page values filled low few shows);
  }
    where
      same_size : {a b : Option (List ℕ)} {m : ℕ} → a ≡ b → size_in_page b ≤ m → size_in_page a ≤ m
      same_size {m = m} same most = subst (λ (o : Option (List ℕ)). size_in_page o ≤ m) (sym same) most

  -- and they have room with all that is written then
  applied_fill : (values : Values) → Shows c it.committed u (it.units u) page values
      → fill_at (peaks (after_commit state s)) u page (λ slot. applied (its_last slot) (values slot)) ≤ PAGE_LEN
  applied_fill values shows =
      le_trans (fills_less _ _ (λ slot. applied (its_last slot) (values slot)) values (λ slot less.
      max-le (applied_most slot (values slot) less)
      (le_trans (one_less (removed_most state.sessions s (name_at u page slot)))
      (le-max_right (size_in_page (values slot)) (peaks state (name_at u page slot) - 1)))))
      (shown_fill units c it state u page values filled low few shows)

  pub room_applied : PageHasRoom c it state u page
      → PageHasRoom c (with_committed it after) (after_commit state s) u page
  room_applied is = record {
    values = λ slot. applied (its_last slot) (is.values slot);
    shows = applied_shows is.values (λ slot. applied (its_last slot) (is.values slot)) (λ slot less. refl) is.shows;
    room = applied_fill is.values is.shows;
  }

  -- a page that shows the map shows with the number the map after the commit
  pub commit_shows : Shows c it.committed u (it.units u) page (page_in state.map u page)
      → Shows c after u (it.units u) page (page_in (after_commit state s).map u page)
  commit_shows shows = applied_shows (page_in state.map u page) (page_in (after_commit state s).map u page) says shows
    where
      says : (slot : ℕ) → slot < SLOTS
          → page_in (after_commit state s).map u page slot ≡ applied (its_last slot) (page_in state.map u page slot)
      says slot less =
          let before = page_in state.map u page slot in
          get-with_writes (writes_of state s) state.map (name_at u page slot)
          ∙ ap (λ (o : Option Change). option_map_or (λ change. change) o before) (sym (is_last slot less))
          ∙ sym (last_says (its_last slot) before)

pub room_committed : (units : ℕ) (c : Chart) (it : Layout) (logs : Logs) (numbers : SessionNumbers) (state : State) (s tid : ℕ)
    (after : ℕ → Bool) → HasPending units it logs numbers state → PagesHaveRoom units c it state → numbers s ≡ Some tid
    → IsWrittenOut logs tid → NumberJoins it.committed tid after
    → PagesHaveRoom units c (with_committed it after) (after_commit state s)
room_committed units c it logs numbers state s tid after has filled mine out joins u page slot low few less peaked =
    room_applied units c it logs numbers state s tid after has filled mine out joins u page low few
    (filled u page slot low few less (le_trans peaked (removed_most state.sessions s (name_at u page slot))))

pub commits_say_writes : CommitsSayWrites
commits_say_writes places pages c it logs numbers state s tid after has filled mine out joins says = record {
  pages = λ u page low few reads.
      commit_shows it.count c it logs numbers state s tid after has filled mine out joins u page low few
      (says.pages u page low few reads);
  rotten = says.rotten;
  nowhere_else = λ n high.
      get-with_writes (writes_of state s) state.map n
      ∙ ap (λ (o : Option Change). option_map_or (λ change. change) o (get state.map n)) (has.nowhere_else s n high)
      ∙ says.nowhere_else n high;
}
