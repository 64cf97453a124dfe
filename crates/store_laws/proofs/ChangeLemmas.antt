-- Frames that change name by name.
use Rattle.std.proofs.Common.{◌≡◌, ℕ, ◌==◌, Bool, List, [], ◌∷◌, ◌++◌, Option, Some, None, inl, inr, refl, sym, ◌∙◌, ap, subst}
use Rattle.std.specs.List.{Contains, filter}
use Rattle.std.proofs.lemmas.Bool.{cases_Bool, cases_eq}
use Rattle.std.proofs.lemmas.List.Elements.{Contains-push_cases}
use Rattle.ipl_base.specs.Places.{home_of}
use Rattle.page_ops.specs.Pending.{Pending, seen_by, without_pending}
use Rattle.store_laws.specs.Pending.{is_other}
use Rattle.store_laws.specs.Frames.{PageFrame, Frames, IsCommittedFrame, IsAbortedFrame, ChangesSo}
use Rattle.store_laws.proofs.ElementLemmas.{contains_nil}
use Rattle.store_laws.specs.NamedFrames.{IsSameOr, ChangesPageOf, NamedFramesChange}

-- two such changes are one
abbrev pub AreJoined : (PageFrame → PageFrame → Type 0) → Type 0
AreJoined R = (a b d : PageFrame) → R a b → R b d → R a d

module _ (R : PageFrame → PageFrame → Type 0) (joined : AreJoined R) where
  same_then : (o p q : Option PageFrame) → ChangesSo (IsSameOr R) o p → ChangesSo R p q
      → ChangesSo R o q
  same_then None None None first second = tt
  same_then None None (Some d) first second = absurd second
  same_then None (Some b) q first second = absurd first
  same_then (Some a) None q first second = absurd first
  same_then (Some a) (Some b) None first second = absurd second
  same_then (Some a) (Some b) (Some d) (inl same) second = subst (λ (f : PageFrame). R f d) same second
  same_then (Some a) (Some b) (Some d) (inr did) second = joined a b d did second

  wider : (o p : Option PageFrame) → ChangesSo R o p → ChangesSo (IsSameOr R) o p
  wider None None did = tt
  wider None (Some b) did = absurd did
  wider (Some a) None did = absurd did
  wider (Some a) (Some b) did = inr did

  unchanged : (o : Option PageFrame) → ChangesSo (IsSameOr R) o o
  unchanged None = tt
  unchanged (Some a) = inl refl

  -- no name yet
  pub named_none : (frames : Frames) → NamedFramesChange R [] frames frames
  named_none frames = record {
    each = λ u page. unchanged (frames u page);
    named = λ n there. absurd (contains_nil n there);
  }

  -- one name more, on whose page alone the frames change then
  pub named_more : (names : List ℕ) (n : ℕ) (old mid new : Frames)
      → NamedFramesChange R names old mid
      → ((u page : ℕ) → (u ≡ (home_of n).unit → page ≡ (home_of n).page → ⊥)
      → new u page ≡ mid u page)
      → ChangesPageOf R mid new n → NamedFramesChange R (names ++ n ∷ []) old new
  named_more names n old mid new before others did = record {
    each = λ u page. elim (cases_eq u (home_of n).unit) [
      | inr other ↦ stays u page (λ unit of_page. other unit)
      | inl unit ↦ elim (cases_eq page (home_of n).page) [
        | inr other ↦ stays u page (λ unit of_page. other of_page)
        | inl of_page ↦ wider (old u page) (new u page) (at_home u page unit of_page)
      ]
    ];
    named = λ k there. elim (Contains-push_cases names n k there) [
      | inr same ↦ at_home (home_of k).unit (home_of k).page
          (ap (λ (j : ℕ). (home_of j).unit) (sym same)) (ap (λ (j : ℕ). (home_of j).page) (sym same))
      | inl earlier ↦ elim (cases_eq (home_of k).unit (home_of n).unit) [
        | inr other ↦ stays_changed k earlier (λ unit of_page. other unit)
        | inl unit ↦ elim (cases_eq (home_of k).page (home_of n).page) [
          | inr other ↦ stays_changed k earlier (λ unit of_page. other of_page)
          | inl of_page ↦ at_home (home_of k).unit (home_of k).page unit of_page
        ]
      ]
    ];
  }
    where
      at_home : (u page : ℕ) → u ≡ (home_of n).unit → page ≡ (home_of n).page
          → ChangesSo R (old u page) (new u page)
      at_home u page unit of_page =
          let on_page = subst (λ (q : ℕ). ChangesSo R (mid (home_of n).unit q)
          (new (home_of n).unit q)) (sym of_page) did in
          same_then (old u page) (mid u page) (new u page) (before.each u page)
          (subst (λ (v : ℕ). ChangesSo R (mid v page) (new v page)) (sym unit) on_page)

      stays : (u page : ℕ) → (u ≡ (home_of n).unit → page ≡ (home_of n).page → ⊥)
          → ChangesSo (IsSameOr R) (old u page) (new u page)
      stays u page other = subst (ChangesSo (IsSameOr R) (old u page)) (sym (others u page other))
          (before.each u page)

      stays_changed : (k : ℕ) → Contains names k
          → ((home_of k).unit ≡ (home_of n).unit → (home_of k).page ≡ (home_of n).page → ⊥)
          → ChangesPageOf R old new k
      stays_changed k earlier other =
          subst (ChangesSo R (old (home_of k).unit (home_of k).page))
          (sym (others (home_of k).unit (home_of k).page other)) (before.named k earlier)

-- ---- commits and aborts

seen_without : (tid : ℕ) (value : Option (List ℕ)) (o : Option Pending)
    → seen_by tid value (without_pending tid o) ≡ value
seen_without tid value None = refl
seen_without tid value (Some p) = elim (cases_Bool (p.0 == tid)) [
  | inl its ↦ rw its refl
  | inr other ↦ rw other (rw other refl)
]

without_twice : (tid : ℕ) (o : Option Pending)
    → without_pending tid (without_pending tid o) ≡ without_pending tid o
without_twice tid None = refl
without_twice tid (Some p) = elim (cases_Bool (p.0 == tid)) [
  | inl its ↦ rw its refl
  | inr other ↦ rw other (rw other refl)
]

filter_twice : {X : Type 0} (p : X → Bool) (xs : List X) → filter p (filter p xs) ≡ filter p xs
filter_twice p [] = refl
filter_twice p (x ∷ xs) = elim (cases_Bool (p x)) [
  | inl passes ↦ rw passes (rw passes (ap (λ l. x ∷ l) (filter_twice p xs)))
  | inr fails ↦ rw fails (filter_twice p xs)
]

pub commits_joined : (tid : ℕ) → AreJoined (IsCommittedFrame tid)
commits_joined tid a b d first second = record {
  values = λ slot less.
      second.values slot less
      ∙ ap (seen_by tid (b.values slot)) (first.pending slot less)
      ∙ seen_without tid (b.values slot) (a.pending slot)
      ∙ first.values slot less;
  pending = λ slot less.
      second.pending slot less ∙ ap (without_pending tid) (first.pending slot less)
      ∙ without_twice tid (a.pending slot);
  log = second.log ∙ first.log;
}

pub aborts_joined : (tid : ℕ) → AreJoined (IsAbortedFrame tid)
aborts_joined tid a b d first second = record {
  values = λ slot less. second.values slot less ∙ first.values slot less;
  pending = λ slot less.
      second.pending slot less ∙ ap (without_pending tid) (first.pending slot less)
      ∙ without_twice tid (a.pending slot);
  log = second.log ∙ ap (filter (is_other tid)) first.log ∙ filter_twice (is_other tid) a.log;
}
