-- Pages that stay in their frames where calls change what the frames have.
use Rattle.std.proofs.Common.{◌≡◌, ℕ, ◌+◌, ◌<◌, List, [], ◌∷◌, ◌++◌, map, length, take, get_or, Contains, Option, Some, None, IsSome, refl, sym, ◌∙◌, ap, subst}
use Rattle.std.proofs.lemmas.List.{take_more}
use Rattle.ipl_base.specs.declared.name.Name.{Name}
use Rattle.ipl_model.proofs.RuleBatchLemmas.{first_in, later_in}
use Rattle.record_locks.specs.Held.{SessionSlots, number_of, written_of}
use Rattle.store_laws.specs.Frames.{PageFrame, Frames, ChangesSo, EachFrameChanges, IsCommittedFrame}
use Rattle.store_laws.specs.NamedFrames.{IsSameOr, NamedFramesChange, ApplyInTurn}
use Rattle.store_laws.specs.Refusals.{IsOpenSession}
use Rattle.page_frames.specs.declared.pages.Pages.{Pages}
use Rattle.page_frames.specs.Pages.{frames_in, KeepsFramed}
use Rattle.page_frames.proofs.FramedLemmas.{pool_framed}

some_changed : (R : PageFrame → PageFrame → Type 0) (a b : Option PageFrame) → ChangesSo R a b → IsSome a
    → IsSome b
some_changed R None None so is = is
some_changed R None (Some b) so is = absurd so
some_changed R (Some a) None so is = absurd so
some_changed R (Some a) (Some b) so is = refl

-- the frames of names change, and then none
pub named_framed : (R : PageFrame → PageFrame → Type 0) (names : List ℕ) (old mid new : Pages)
    → NamedFramesChange R names (frames_in old) (frames_in mid) → new.pool ≡ mid.pool
    → KeepsFramed old new
named_framed R names old mid new did same u page is =
    pool_framed mid new same u page
    (some_changed (IsSameOr R) (frames_in old u page) (frames_in mid u page) (did.each u page) is)

-- ---- the frames of several sessions, one session after the other

-- a page has a frame before and after, or none
abbrev pub StaysFramed : PageFrame → PageFrame → Type 0
StaysFramed a b = Unit {0}

-- so it is where the frame changes somehow
change_stays : (R : PageFrame → PageFrame → Type 0) (a b : Option PageFrame) → ChangesSo R a b
    → ChangesSo StaysFramed a b
change_stays R None None so = tt
change_stays R None (Some b) so = absurd so
change_stays R (Some a) None so = absurd so
change_stays R (Some a) (Some b) so = tt

-- or is the same
same_stays : (a : Option PageFrame) → ChangesSo StaysFramed a a
same_stays None = tt
same_stays (Some a) = tt

-- or two such changes follow one another
stays_twice : (a b c : Option PageFrame) → ChangesSo StaysFramed a b → ChangesSo StaysFramed b c
    → ChangesSo StaysFramed a c
stays_twice None None c one two = two
stays_twice None (Some b) c one two = absurd one
stays_twice (Some a) None c one two = absurd one
stays_twice (Some a) (Some b) None one two = absurd two
stays_twice (Some a) (Some b) (Some c) one two = tt

-- the same pages are in frames
pub in_turn_stays : (slots : SessionSlots) (ss : List ℕ) (old new : Frames)
    → ((s : ℕ) → Contains ss s → IsOpenSession slots s) → ApplyInTurn slots ss old new
    → EachFrameChanges StaysFramed old new
in_turn_stays slots [] old new opens same u page =
    subst (λ (frames : Frames). ChangesSo StaysFramed (old u page) (frames u page)) (sym same)
    (same_stays (old u page))
in_turn_stays slots (s ∷ ss) old new opens (between, first, rest) u page =
    let mine = opens s (first_in s ss) in
    let R = IsSameOr (IsCommittedFrame mine.number) in
    stays_twice (old u page) (between u page) (new u page)
    (change_stays R (old u page) (between u page) ((first mine.number mine.number_is).each u page))
    (in_turn_stays slots ss between new (λ t at. opens t (later_in s ss t at)) rest u page)

-- and then none changes
pub in_turn_framed : (slots : SessionSlots) (ss : List ℕ) (old mid new : Pages)
    → ((s : ℕ) → Contains ss s → IsOpenSession slots s)
    → ApplyInTurn slots ss (frames_in old) (frames_in mid) → new.pool ≡ mid.pool
    → KeepsFramed old new
in_turn_framed slots ss old mid new opens did same u page is =
    pool_framed mid new same u page
    (some_changed StaysFramed (frames_in old u page) (frames_in mid u page)
    (in_turn_stays slots ss (frames_in old) (frames_in mid) opens did u page) is)

-- one session more, after the others
applied_last : (slots : SessionSlots) (ss : List ℕ) (s tid : ℕ) (old mid new : Frames)
    → number_of slots s ≡ Some tid → ApplyInTurn slots ss old mid
    → NamedFramesChange (IsCommittedFrame tid) (written_of slots s) mid new
    → ApplyInTurn slots (ss ++ s ∷ []) old new
applied_last slots [] s tid old mid new mine same change = (
  new,
  λ k is. let own : tid ≡ k = cc (mine, is) in
      subst (λ (n : ℕ). NamedFramesChange (IsCommittedFrame n) (written_of slots s) old new) own
      (subst (λ (frames : Frames). NamedFramesChange (IsCommittedFrame tid) (written_of slots s)
      frames new) same change),
  refl,
)
applied_last slots (t ∷ ss) s tid old mid new mine (between, first, rest) change =
    (between, first, applied_last slots ss s tid between mid new mine rest change)

-- the next one of a list
applied_more : (slots : SessionSlots) (ss : List ℕ) (i tid : ℕ) (old mid new : Frames) → i < length ss
    → number_of slots (get_or ss i 0) ≡ Some tid → ApplyInTurn slots (take i ss) old mid
    → NamedFramesChange (IsCommittedFrame tid) (written_of slots (get_or ss i 0)) mid new
    → ApplyInTurn slots (take (i + 1) ss) old new
applied_more slots ss i tid old mid new within mine so_far change =
    subst (λ (l : List ℕ). ApplyInTurn slots l old new) (sym (take_more ss i 0 within))
    (applied_last slots (take i ss) (get_or ss i 0) tid old mid new mine so_far change)

-- so it is in a loop, where the sessions are what they were first
pub applied_next : (first now : SessionSlots) (ss : List ℕ) (i tid : ℕ) (names : List Name)
    (old mid new : Frames) → now ≡ first → i < length ss
    → number_of now (get_or ss i 0) ≡ Some tid
    → map (λ (n : Name). n.0) names ≡ written_of now (get_or ss i 0)
    → ApplyInTurn first (take i ss) old mid
    → NamedFramesChange (IsCommittedFrame tid) (map (λ (n : Name). n.0) names) mid new
    → ApplyInTurn first (take (i + 1) ss) old new
applied_next first now ss i tid names old mid new same within mine written so_far change =
    applied_more first ss i tid old mid new within
    (ap (λ (slots : SessionSlots). number_of slots (get_or ss i 0)) (sym same) ∙ mine) so_far
    (subst (λ (l : List ℕ). NamedFramesChange (IsCommittedFrame tid) l mid new)
    (written ∙ ap (λ (slots : SessionSlots). written_of slots (get_or ss i 0)) same) change)
