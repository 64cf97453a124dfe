-- Several sessions that are committed together.
use Rattle.std.proofs.Common.{◌≡◌, ℕ, ◌++◌, Bool, List, [], ◌∷◌, Option, Some, None, inl, inr, refl, sym, ◌∙◌, ap, subst}
use Rattle.std.specs.List.{All, Contains}
use Rattle.std.proofs.lemmas.List.Elements.{All-append, All-contains, Contains-append_left, Contains-append_right}
use Rattle.std.proofs.lemmas.Option.{same_Some}
use Rattle.ipl_model.proofs.RuleBatchLemmas.{Distinct}
use Rattle.ipl_model.specs.Operations.{after_commit}
use Rattle.ipl_model.specs.State.{State}
use Rattle.record_locks.specs.Held.{SessionSlots, number_of, written_of, written_by, writer_number, writer_numbers}
use Rattle.ipl_meaning.specs.Chart.{Chart}
use Rattle.ipl_meaning.specs.Layout.{Layout}
use Rattle.ipl_meaning.specs.Steps.{with_committed}
use Rattle.store_laws.specs.Pending.{Logs, SessionNumbers, with_number}
use Rattle.store_laws.specs.PendingLaws.{JoinInTurn}
use Rattle.store_laws.specs.Frames.{Frames, logs_of, IsCommittedFrame, EachFrameChanges, CommitInTurn}
use Rattle.store_laws.proofs.PendingBatchLemmas.{AreLeft, left_then}
use Rattle.store_laws.proofs.ElementLemmas.{all_listed, contains_cons, contains_here, contains_nil, contains_there}
use Rattle.store_laws.proofs.TurnLemmas.{Waits, logs_stay, turn_waits}
use Rattle.store_laws.specs.NamedFrames.{NamedFramesChange, ApplyInTurn}
use Rattle.store_laws.proofs.ChangeLemmas.{named_none, commits_joined}
use Rattle.store_laws.proofs.NamedLemmas.{all_applied}

-- ---- the names that they wrote

-- a name that one of them wrote is among those of all
written_among : (slots : SessionSlots) (ss : List ℕ) (s n : ℕ) → Contains ss s
    → Contains (written_of slots s) n → Contains (written_by slots ss) n
written_among slots [] s n there by_it = absurd (contains_nil s there)
written_among slots (k ∷ ss) s n there by_it = elim (contains_cons k ss s there) [
  | inl same ↦
      Contains-append_left (written_of slots k) (written_by slots ss) n
      (subst (λ (j : ℕ). Contains (written_of slots j) n) (sym same) by_it)
  | inr later ↦
      Contains-append_right (written_of slots k) (written_by slots ss) n
      (written_among slots ss s n later by_it)
]

-- what holds of all these names holds of those of each session
pub all_written : (P : ℕ → Type 0) (slots : SessionSlots) (ss : List ℕ) (s : ℕ)
    → All P (written_by slots ss) → Contains ss s → All P (written_of slots s)
all_written P slots ss s all there = all_listed P (written_of slots s) (λ n by_it.
    All-contains P (written_by slots ss) n all (written_among slots ss s n there by_it))

-- where there is no such name, none of them wrote any
pub none_written : (slots : SessionSlots) (ss : List ℕ) (s : ℕ) → written_by slots ss ≡ [] → Contains ss s
    → written_of slots s ≡ []
none_written slots ss s none there = empty (written_of slots s) (λ n by_it.
    contains_nil n (subst (λ (l : List ℕ). Contains l n) none
    (written_among slots ss s n there by_it)))
  where
    empty : (names : List ℕ) → ((n : ℕ) → Contains names n → ⊥) → names ≡ []
    empty [] nothing = refl
    empty (n ∷ names) nothing = absurd (nothing n (contains_here n names))

-- ---- the numbers of those that wrote something

number_holds : (P : ℕ → Type 0) (names : List ℕ) (o : Option ℕ) → ((tid : ℕ) → o ≡ Some tid → P tid)
    → All P (writer_number names o)
number_holds P [] o each = all_listed P [] (λ n there. absurd (contains_nil n there))
number_holds P (n ∷ names) None each = all_listed P [] (λ n there. absurd (contains_nil n there))
number_holds P (n ∷ names) (Some tid) each = all_listed P (tid ∷ []) (λ k there.
    elim (contains_cons tid [] k there) [
      | inl same ↦ subst P same (each tid refl)
      | inr later ↦ absurd (contains_nil k later)
    ])

-- what holds of each session's number holds of them
pub numbers_hold : (P : ℕ → Type 0) (slots : SessionSlots) (ss : List ℕ)
    → ((s tid : ℕ) → Contains ss s → number_of slots s ≡ Some tid → P tid)
    → All P (writer_numbers slots ss)
numbers_hold P slots [] each = all_listed P [] (λ n there. absurd (contains_nil n there))
numbers_hold P slots (s ∷ ss) each =
    All-append P (writer_number (written_of slots s) (number_of slots s)) (writer_numbers slots ss)
    (number_holds P (written_of slots s) (number_of slots s)
    (λ tid mine. each s tid (contains_here s ss) mine))
    (numbers_hold P slots ss (λ t tid there mine. each t tid (contains_there s ss t there) mine))

-- there is none where none wrote anything
pub no_numbers : (slots : SessionSlots) (ss : List ℕ)
    → ((s : ℕ) → Contains ss s → written_of slots s ≡ []) → writer_numbers slots ss ≡ []
no_numbers slots [] none = refl
no_numbers slots (s ∷ ss) none =
    ap (λ (names : List ℕ). writer_number names (number_of slots s) ++ writer_numbers slots ss)
    (none s (contains_here s ss))
    ∙ no_numbers slots ss (λ t there. none t (contains_there s ss t there))

-- ---- the frames

-- where the frames of the names change that each session wrote, each frame changes as it should
pub applied_in_turn : (places : ℕ) (c : Chart) (it : Layout) (frames later : Frames) (slots : SessionSlots)
    (numbers : SessionNumbers) (state : State) (ss : List ℕ) (committed : ℕ → Bool)
    → Waits places c it frames numbers state → Distinct ss → AreLeft slots numbers state ss
    → JoinInTurn numbers (logs_of frames) state ss it.committed committed
    → ApplyInTurn slots ss frames later → CommitInTurn numbers ss frames later
applied_in_turn places c it frames later slots numbers state [] committed waits distinct left join
    settles = settles
applied_in_turn places c it frames later slots numbers state (s ∷ ss) committed waits distinct left
    join settles =
    let (tid, between, mine, out, joins, rest) = join in
    let (middle, first, others) = settles in
    let here = contains_here s ss in
    let all = all_applied it.count c it waits.tables frames numbers state s tid
    (written_of slots s) waits.pending waits.framed mine (λ n is. left.listed s n here is) middle
    (first tid (sym (left.number s here) ∙ mine)) in
    let logs = logs_stay tid frames middle all in (
      middle,
      λ k is.
          subst (λ (n : ℕ). EachFrameChanges (IsCommittedFrame n) frames middle)
          (same_Some tid k (sym mine ∙ is)) all,
      applied_in_turn places c (with_committed it between) middle later slots
          (with_number numbers s None) (after_commit state s) ss committed
          (turn_waits places c it frames middle numbers state s tid between waits mine out joins
          all) distinct.1 (left_then slots numbers state s ss distinct left)
          (subst (λ (l : Logs). JoinInTurn (with_number numbers s None) l (after_commit state s) ss
          between committed) logs rest) others,
    )

-- sessions that wrote nothing change none
pub none_applied : (slots : SessionSlots) (ss : List ℕ) (frames : Frames)
    → ((s : ℕ) → Contains ss s → written_of slots s ≡ []) → ApplyInTurn slots ss frames frames
none_applied slots [] frames none = refl
none_applied slots (s ∷ ss) frames none = (
  frames,
  λ tid mine.
      subst (λ (names : List ℕ). NamedFramesChange (IsCommittedFrame tid) names frames frames)
      (sym (none s (contains_here s ss)))
      (named_none (IsCommittedFrame tid) (commits_joined tid) frames),
  none_applied slots ss frames (λ t there. none t (contains_there s ss t there)),
)
