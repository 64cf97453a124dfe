-- Several sessions are committed by one sector: on paper one after the other.
use Rattle.std.proofs.Common.{◌≡◌, ℕ, ◌<◌, ◌++◌, Bool, true, false, cond, ◌||◌, List, [], ◌∷◌, Some, None, inl, inr, refl, sym, ◌∙◌, subst}
use Rattle.std.specs.List.{Contains, list_any}
use Rattle.std.proofs.lemmas.Bool.{false_from_ne_true}
use Rattle.ipl_model.proofs.RuleBatchLemmas.{Distinct, batches_keep}
use Rattle.ipl_model.specs.Operations.{after_commit, after_batch}
use Rattle.ipl_model.specs.State.{State}
use Rattle.record_locks.specs.Held.{SessionSlots, number_of, written_of, writer_number, writer_numbers}
use Rattle.ipl_meaning.specs.Chart.{Chart}
use Rattle.ipl_meaning.specs.Last.{is_number}
use Rattle.ipl_meaning.specs.Layout.{Layout}
use Rattle.ipl_meaning.specs.Stands.{Shows, page_in}
use Rattle.ipl_meaning.specs.Steps.{with_committed}
use Rattle.store_laws.specs.Pending.{Logs, SessionNumbers, with_number, wrote, HasPending, IsWrittenOut}
use Rattle.store_laws.specs.PendingLaws.{StateHasOneWriter, NumberJoins, NumbersJoin, JoinsIfWritten, JoinInTurn, without_sessions, BatchesKeepPending, BatchesSayWrites}
use Rattle.store_laws.specs.Room.{PagesHaveRoom}
use Rattle.store_laws.specs.Frames.{Frames, logs_of, CommitInTurn}
use Rattle.store_laws.proofs.ElementLemmas.{contains_here, contains_there, contains_nil}
use Rattle.store_laws.proofs.PendingNumberLemmas.{number_other}
use Rattle.store_laws.proofs.TurnLemmas.{wrote_before, one_writer_then, turn_pending, turn_room, turn_shows, Waits, logs_stay, turn_waits}

-- ---- the committed numbers

-- the numbers with one of them first
joined : (ℕ → Bool) → ℕ → ℕ → Bool
joined committed tid n = cond (is_number tid n) true (committed n)

join_rest : (committed : ℕ → Bool) (tid : ℕ) (tids : List ℕ) (after : ℕ → Bool)
    → NumbersJoin committed (tid ∷ tids) after → NumbersJoin (joined committed tid) tids after
unfolding joined
join_rest committed tid tids after join n =
    join n ∙ go (is_number tid n) (list_any (λ k. is_number k n) tids)
  where
    go : (a b : Bool) → cond (a || b) true (committed n) ≡ cond b true (cond a true (committed n))
    go true true = refl
    go true false = refl
    go false true = refl
    go false false = refl

join_first : (committed : ℕ → Bool) (tid : ℕ) → NumberJoins committed tid (joined committed tid)
unfolding joined
join_first committed tid n = refl

-- where a session that holds no written name wrote nothing, its number joins if it wrote something, and then the others
one_joins : (state : State) (s tid : ℕ) (names tids : List ℕ) (committed after : ℕ → Bool)
    → (names ≡ [] → (n : ℕ) → wrote state s n ≡ false)
    → NumbersJoin committed (writer_number names (Some tid) ++ tids) after
    → (between : ℕ → Bool) × JoinsIfWritten state s tid committed between × NumbersJoin between tids after
one_joins state s tid [] tids committed after none join = (committed, inr (none refl, refl), join)
one_joins state s tid (n ∷ names) tids committed after none join =
    (joined committed tid, inl (join_first committed tid), join_rest committed tid tids after join)

-- ---- the sessions that are left

-- these sessions have their numbers still, and what they wrote is among the names that they hold
pub record AreLeft (slots : SessionSlots) (numbers : SessionNumbers) (state : State) (ss : List ℕ) : Type 0 where
  pub number : (s : ℕ) → Contains ss s → numbers s ≡ number_of slots s
  pub listed : (s n : ℕ) → Contains ss s → wrote state s n ≡ true → Contains (written_of slots s) n

-- so the others are, once the first is committed
pub left_then : (slots : SessionSlots) (numbers : SessionNumbers) (state : State) (s : ℕ) (ss : List ℕ) → Distinct (s ∷ ss)
    → AreLeft slots numbers state (s ∷ ss) → AreLeft slots (with_number numbers s None) (after_commit state s) ss
left_then slots numbers state s ss distinct left = record {
  number = λ t there.
      number_other numbers s None t (λ same. distinct.0 (subst (Contains ss) same there))
      ∙ left.number t (contains_there s ss t there);
  listed = λ t n there is. left.listed t n (contains_there s ss t there) (wrote_before state s t n is);
}

-- a session that holds no written name wrote nothing
left_nothing : (slots : SessionSlots) (numbers : SessionNumbers) (state : State) (ss : List ℕ) (s : ℕ) → Contains ss s
    → AreLeft slots numbers state ss → written_of slots s ≡ [] → (n : ℕ) → wrote state s n ≡ false
left_nothing slots numbers state ss s there left none n =
    false_from_ne_true (wrote state s n) (λ is.
    contains_nil n (subst (λ (l : List ℕ). Contains l n) none (left.listed s n there is)))

-- the numbers of those that wrote something join together, and so one after the other
pub join_in_turn : (slots : SessionSlots) (numbers : SessionNumbers) (logs : Logs) (state : State) (ss : List ℕ)
    (committed after : ℕ → Bool) → Distinct ss → AreLeft slots numbers state ss
    → ((s : ℕ) → Contains ss s → (tid : ℕ) × (number_of slots s ≡ Some tid) × IsWrittenOut logs tid)
    → NumbersJoin committed (writer_numbers slots ss) after → JoinInTurn numbers logs state ss committed after
join_in_turn slots numbers logs state [] committed after distinct left out join = λ i n. join n i
join_in_turn slots numbers logs state (s ∷ ss) committed after distinct left out join =
    let here = contains_here s ss in
    let (tid, number, written) = out s here in
    let its : NumbersJoin committed (writer_number (written_of slots s) (Some tid) ++ writer_numbers slots ss) after =
    subst (λ o. NumbersJoin committed (writer_number (written_of slots s) o ++ writer_numbers slots ss) after) number
    join in
    let (between, joins, rest) = one_joins state s tid (written_of slots s) (writer_numbers slots ss) committed after
    (left_nothing slots numbers state (s ∷ ss) s here left) its in (
      tid,
      between,
      left.number s here ∙ number,
      written,
      joins,
      join_in_turn slots (with_number numbers s None) logs (after_commit state s) ss between after distinct.1
          (left_then slots numbers state s ss distinct left) (λ t there. out t (contains_there s ss t there)) rest,
    )

-- ---- what the commits make of the records and the map

pub batches_keep_pending : BatchesKeepPending
batches_keep_pending units it logs numbers state [] after has one join =
    subst (λ (f : ℕ → Bool). HasPending units (with_committed it f) logs numbers state) (sym join) has
batches_keep_pending units it logs numbers state (s ∷ ss) after has one join =
    let (tid, between, mine, out, joins, rest) = join in
    batches_keep_pending units (with_committed it between) logs (with_number numbers s None) (after_commit state s) ss
    after (turn_pending units it logs numbers state s tid between has mine out one joins) (one_writer_then state s one)
    rest

-- a page that shows the map shows the map after them
pub batch_shows : (units : ℕ) (c : Chart) (it : Layout) (logs : Logs) (numbers : SessionNumbers) (state : State)
    (ss : List ℕ) (after : ℕ → Bool) → HasPending units it logs numbers state → PagesHaveRoom units c it state
    → StateHasOneWriter state
    → JoinInTurn numbers logs state ss it.committed after → (u page : ℕ) → u < units → page < 15
    → Shows c it.committed u (it.units u) page (page_in state.map u page)
    → Shows c after u (it.units u) page (page_in (after_batch state ss).map u page)
batch_shows units c it logs numbers state [] after has filled one join u page low few shows =
    subst (λ (f : ℕ → Bool). Shows c f u (it.units u) page (page_in state.map u page)) (sym join) shows
batch_shows units c it logs numbers state (s ∷ ss) after has filled one join u page low few shows =
    let (tid, between, mine, out, joins, rest) = join in
    batch_shows units c (with_committed it between) logs (with_number numbers s None) (after_commit state s) ss after
    (turn_pending units it logs numbers state s tid between has mine out one joins)
    (turn_room units it logs numbers state s tid between has mine out joins c filled) (one_writer_then state s one) rest
    u page low few
    (turn_shows units it logs numbers state s tid between has mine out joins c filled u page low few shows)

pub batches_say_writes : BatchesSayWrites
batches_say_writes places pages c it logs numbers state ss after has filled one join says = record {
  pages = λ u page low few reads.
      batch_shows it.count c it logs numbers state ss after has filled one join u page low few
      (says.pages u page low few reads);
  rotten = says.rotten;
  nowhere_else = λ n high. batches_keep state ss n (λ t there. has.nowhere_else t n high) ∙ says.nowhere_else n high;
}

-- ---- and of all that waits

pub batch_waits : (places : ℕ) (c : Chart) (it : Layout) (frames later : Frames) (numbers : SessionNumbers) (state : State)
    (ss : List ℕ) (after : ℕ → Bool) → Waits places c it frames numbers state
    → JoinInTurn numbers (logs_of frames) state ss it.committed after → CommitInTurn numbers ss frames later
    → Waits places c (with_committed it after) later (without_sessions numbers ss) (after_batch state ss)
batch_waits places c it frames later numbers state [] after waits join same =
    subst (λ (f : ℕ → Bool). Waits places c (with_committed it f) later numbers state) (sym join)
    (subst (λ (k : Frames). Waits places c it k numbers state) (sym same) waits)
batch_waits places c it frames later numbers state (s ∷ ss) after waits join changes =
    let (tid, between, mine, out, joins, rest) = join in
    let (middle, first, others) = changes in
    let logs = logs_stay tid frames middle (first tid mine) in
    batch_waits places c (with_committed it between) middle later (with_number numbers s None) (after_commit state s) ss
    after (turn_waits places c it frames middle numbers state s tid between waits mine out joins (first tid mine))
    (subst (λ (l : Logs). JoinInTurn (with_number numbers s None) l (after_commit state s) ss between after) logs rest)
    others
