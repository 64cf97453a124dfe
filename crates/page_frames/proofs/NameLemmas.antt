-- Frames of the pages of names, one name after the other.
use Rattle.std.proofs.Common.{◌≡◌, ◌<◌, ◌≤◌, ◌+◌, ℕ, List, map, take, get_or, length, Option, Some, None, refl, sym, ◌∙◌, ap, subst}
use Rattle.std.proofs.lemmas.List.{map_more, take_all}
use Rattle.ipl_base.specs.Places.{home_of}
use Rattle.ipl_base.specs.declared.name.Name.{Name}
use Rattle.ipl_base.specs.declared.spot.Home.{Home}
use Rattle.store_laws.specs.Frames.{PageFrame, Frames, ChangesSo}
use Rattle.store_laws.specs.NamedFrames.{NamedFramesChange}
use Rattle.store_laws.proofs.ChangeLemmas.{AreJoined, named_more}
use Rattle.buffer_pool.specs.Pools.{PoolView}
use Rattle.buffer_pool.proofs.HoldingLemmas.{nothing_keeps, both_keep}
use Rattle.page_frames.specs.Changes.{FrameChanges, KeepsPool, OnlyPageChanges}
use Rattle.page_frames.proofs.FrameViewLemmas.{frame_here, frame_elsewhere}

-- ---- one name

changes_some : (R : PageFrame → PageFrame → Type 0) (a b : Option PageFrame) (was now : PageFrame) → a ≡ Some was
    → b ≡ Some now → R was now → ChangesSo R a b
changes_some R a b was now first second did =
    subst (λ (o : Option PageFrame). ChangesSo R o b) (sym first)
    (subst (λ (o : Option PageFrame). ChangesSo R (Some was) o) (sym second) did)

-- the page of the name has a frame, which changes
pub only_this : (R : PageFrame → PageFrame → Type 0) (old new : Frames) (n : ℕ) (at : Home)
    → at ≡ home_of n → FrameChanges R old new at.unit at.page → OnlyPageChanges R old new n
only_this R old new n at same did =
    let u = (home_of n).unit in
    let page = (home_of n).page in
    let is = subst (λ (h : Home). FrameChanges R old new h.unit h.page) same did in record {
      here = changes_some R (old u page) (new u page) is.was is.now is.there
          (ap (λ (f : Frames). f u page) is.frames ∙ frame_here old u page (Some is.now)) is.changes;
      others = λ v q other.
          ap (λ (f : Frames). f v q) is.frames
          ∙ frame_elsewhere old u page v q (Some is.now) (λ unit of. other (unit, of));
    }

-- or has none
pub none_changes : (R : PageFrame → PageFrame → Type 0) (frames : Frames) (n : ℕ) (at : Home)
    → at ≡ home_of n → frames at.unit at.page ≡ None → OnlyPageChanges R frames frames n
none_changes R frames n at same absent =
    let none = subst (λ (h : Home). frames h.unit h.page ≡ None) same absent in record {
      here = subst (λ (o : Option PageFrame). ChangesSo R o o) (sym none) tt;
      others = λ v q other. refl;
    }

-- ---- a list of names, up to a place

module _ (R : PageFrame → PageFrame → Type 0) (names : List Name) (i : ℕ) (old now : Frames)
    (so : NamedFramesChange R (map (λ n. n.0) (take i names)) old now) where
  pub names_turn : AreJoined R → (new : Frames) (first : Name) → i < length names
      → OnlyPageChanges R now new (get_or names i first).0
      → NamedFramesChange R (map (λ n. n.0) (take (i + 1) names)) old new
  names_turn joined new first within did =
      subst (λ (l : List ℕ). NamedFramesChange R l old new)
      (sym (map_more (λ (n : Name). n.0) names i first within))
      (named_more R joined (map (λ n. n.0) (take i names)) (get_or names i first).0 old now new so
      (λ u page other. did.others u page (λ is. other is.0 is.1)) did.here)

  pub names_all : length names ≤ i → NamedFramesChange R (map (λ n. n.0) names) old now
  names_all past =
      subst (λ (l : List Name). NamedFramesChange R (map (λ n. n.0) l) old now) (take_all i names past) so

-- ---- the pool

pub stays_none : (p : PoolView) → KeepsPool p p
stays_none p = record { pins = nothing_keeps p; uses = refl; order = refl }

pub stays_both : (p q r : PoolView) → KeepsPool p q → KeepsPool q r → KeepsPool p r
stays_both p q r a b = record {
  pins = both_keep p q r a.pins b.pins;
  uses = b.uses ∙ a.uses;
  order = b.order ∙ a.order;
}
