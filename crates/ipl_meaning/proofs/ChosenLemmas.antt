-- Which of several headers counts.
use Rattle.std.proofs.Common.{ℕ, zero, suc, ◌≡◌, ◌⊎◌, inl, inr, ⊎_elim, ◌+◌, ◌<◌, ◌≤◌, Bool, true, false, nat_lt, ◌&&◌, Option, Some, None, refl, sym, ◌∙◌, ap, subst, arith, add-one}
use Rattle.std.proofs.lemmas.Bool.{cases_eq, cases_Bool, ltb-true, ltb-false, both_ways}
use Rattle.std.proofs.lemmas.Option.{same_Some}
use Rattle.ipl_meaning.specs.Chosen.{KeptHeader, Winner, picked, chosen}

-- the greatest serial, and on a tie the lowest place
pub record IsBest (fits : KeptHeader → Bool) (heads : ℕ → Option KeptHeader) (n : ℕ) (winner : Winner) : Type 0 where
  pub within : winner.place < n
  pub here : heads winner.place ≡ Some winner.head
  pub of_kind : fits winner.head ≡ true
  pub best : (q : ℕ) (other : KeptHeader) → q < n → heads q ≡ Some other → fits other ≡ true
      → (other.serial < winner.head.serial) ⊎ ((other.serial ≡ winner.head.serial) × (winner.place ≤ q))

pub chosen_step : (fits : KeptHeader → Bool) (heads : ℕ → Option KeptHeader) (n : ℕ) → chosen fits heads (n + 1) ≡ picked fits (chosen fits heads n) n (heads n)
chosen_step fits heads n = rw add-one refl

-- only what stands below n counts
pub chosen_alike : (fits : KeptHeader → Bool) (f g : ℕ → Option KeptHeader) (n : ℕ) → ((k : ℕ) → k < n → f k ≡ g k) → chosen fits f n ≡ chosen fits g n
chosen_alike fits f g zero same = refl
chosen_alike fits f g (suc n) same = rw (chosen_alike fits f g n (λ k below. same k (omega arith)), same n (omega arith)) refl

-- a header that doesn't fit changes nothing
pub picked_other : (fits : KeptHeader → Bool) (before : Option Winner) (p : ℕ) (head : KeptHeader) → fits head ≡ false → picked fits before p (Some head) ≡ before
picked_other fits None p head not_it = rw not_it refl
picked_other fits (Some best) p head not_it = rw not_it refl

pub picked_none : (fits : KeptHeader → Bool) (before : Option Winner) (p : ℕ) → picked fits before p None ≡ before
picked_none fits None p = refl
picked_none fits (Some best) p = refl

none_picked : (fits : KeptHeader → Bool) (o : Option Winner) (n : ℕ) (h : Option KeptHeader) → picked fits o n h ≡ None → (o ≡ None) × ((head : KeptHeader) → h ≡ Some head → fits head ≡ false)
none_picked fits None n None e = (refl, λ head is. cc)
none_picked fits None n (Some head) e = elim (cases_Bool (fits head)) [
  | inl fit ↦ let k = rw fit at e in cc
  | inr unfit ↦ (refl, λ other is. ap fits (sym (same_Some _ _ is)) ∙ unfit)
]
none_picked fits (Some best) n None e = cc
none_picked fits (Some best) n (Some head) e = elim (cases_Bool (fits head && nat_lt best.head.serial head.serial)) [
  | inl more ↦ let k = rw more at e in cc
  | inr less ↦ let k = rw less at e in cc
]

pub none_chosen : (fits : KeptHeader → Bool) (heads : ℕ → Option KeptHeader) (n : ℕ) → chosen fits heads n ≡ None
    → (q : ℕ) (other : KeptHeader) → q < n → heads q ≡ Some other → fits other ≡ false
none_chosen fits heads zero e q other below here = absurd (omega arith)
none_chosen fits heads (suc n) e q other below here =
    let parts : (chosen fits heads n ≡ None) × ((head : KeptHeader) → heads n ≡ Some head → fits head ≡ false) = none_picked fits (chosen fits heads n) n (heads n) e in
    elim (cases_eq q n) [
      | inl same ↦ parts.1 other (ap heads (sym same) ∙ here)
      | inr apart ↦ none_chosen fits heads n parts.0 q other (omega arith) here
    ]

-- the one before stays, and the new one doesn't beat it
keeps : (fits : KeptHeader → Bool) (heads : ℕ → Option KeptHeader) (n : ℕ) (best : Winner) → IsBest fits heads n best
    → ((other : KeptHeader) → heads n ≡ Some other → fits other ≡ true → other.serial ≤ best.head.serial) → IsBest fits heads (suc n) best
keeps fits heads n best it last = record {
  within = omega (arith, it.within);
  here = it.here;
  of_kind = it.of_kind;
  best = λ q other below at fit. elim (cases_eq q n) [
    | inl same ↦
        let no_more : other.serial ≤ best.head.serial = last other (ap heads (sym same) ∙ at) fit in
        let w : best.place < n = it.within in
        elim (cases_eq other.serial best.head.serial) [
          | inl tie ↦ inr (tie, omega arith)
          | inr apart ↦ inl (omega arith)
        ]
    | inr apart ↦ it.best q other (omega arith) at fit
  ];
}

-- the new one beats all
beats : (fits : KeptHeader → Bool) (heads : ℕ → Option KeptHeader) (n : ℕ) (head : KeptHeader) → heads n ≡ Some head → fits head ≡ true
    → ((q : ℕ) (other : KeptHeader) → q < n → heads q ≡ Some other → fits other ≡ true → other.serial < head.serial) → IsBest fits heads (suc n) (record { place = n; head = head })
beats fits heads n head at fit all = record {
  within = omega arith;
  here = at;
  of_kind = fit;
  best = λ q other below there fits_too. elim (cases_eq q n) [
    | inl same ↦ inr (ap (λ (s : KeptHeader). s.serial) (same_Some other head (sym there ∙ ap heads same ∙ at)), omega arith)
    | inr apart ↦ inl (all q other (omega arith) there fits_too)
  ];
}

best_after : (fits : KeptHeader → Bool) (heads : ℕ → Option KeptHeader) (n : ℕ) (winner : Winner) (o : Option Winner) (h : Option KeptHeader) → chosen fits heads n ≡ o → heads n ≡ h
    → ((best : Winner) → o ≡ Some best → IsBest fits heads n best) → picked fits o n h ≡ Some winner → IsBest fits heads (suc n) winner
best_after fits heads n winner None None before at below some = cc
best_after fits heads n winner None (Some head) before at below some = elim (cases_Bool (fits head)) [
  | inl fit ↦ subst (λ (it : Winner). IsBest fits heads (suc n) it) (same_Some _ _ (rw fit at some))
      (beats fits heads n head at fit (λ q other under there fit_too. absurd (both_ways (fits other) (none_chosen fits heads n before q other under there) fit_too)))
  | inr unfit ↦ let k = rw unfit at some in cc
]
best_after fits heads n winner (Some best) None before at below some = subst (λ (it : Winner). IsBest fits heads (suc n) it) (same_Some _ _ some)
    (keeps fits heads n best (below best refl) (λ other there fit. cc))
best_after fits heads n winner (Some best) (Some head) before at below some =
    let it : IsBest fits heads n best = below best refl in
    elim (cases_Bool (fits head)) [
      | inr unfit ↦ subst (λ (p : Winner). IsBest fits heads (suc n) p) (same_Some _ _ (rw unfit at some))
          (keeps fits heads n best it (λ other there fit. absurd (both_ways (fits other) (ap fits (same_Some _ _ (sym there ∙ at)) ∙ unfit) fit)))
      | inl fit ↦ elim (cases_Bool (nat_lt best.head.serial head.serial)) [
        | inl more ↦ subst (λ (p : Winner). IsBest fits heads (suc n) p) (same_Some _ _ (rw (fit, more) at some))
            (beats fits heads n head at fit (λ q other under there fit_too. let less : best.head.serial < head.serial = ltb-true _ _ more in ⊎_elim (λ h. omega arith) (λ h. omega (arith, h.0)) (it.best q other under there fit_too)))
        | inr less ↦ subst (λ (p : Winner). IsBest fits heads (suc n) p) (same_Some _ _ (rw (fit, less) at some))
            (keeps fits heads n best it (λ other there fit_too. subst (λ (s : KeptHeader). s.serial ≤ best.head.serial) (same_Some head other (sym at ∙ there)) (ltb-false _ _ less)))
      ]
    ]

pub chosen_is_best : (fits : KeptHeader → Bool) (heads : ℕ → Option KeptHeader) (n : ℕ) (winner : Winner) → chosen fits heads n ≡ Some winner → IsBest fits heads n winner
chosen_is_best fits heads zero winner e = cc
chosen_is_best fits heads (suc n) winner e = best_after fits heads n winner (chosen fits heads n) (heads n) refl refl (chosen_is_best fits heads n) e

same_pick : (a b : Winner) → a.place ≡ b.place → a.head ≡ b.head → a ≡ b
same_pick a b place head =
    let by_place : (ℕ → Winner) = λ p. record { place = p; head = a.head } in
    let by_head : (KeptHeader → Winner) = λ h. record { place = b.place; head = h } in
    ap by_place place ∙ ap by_head head

-- there is one best at most
pub best_is_chosen : (fits : KeptHeader → Bool) (heads : ℕ → Option KeptHeader) (n : ℕ) (winner : Winner) → IsBest fits heads n winner → chosen fits heads n ≡ Some winner
best_is_chosen fits heads n winner it = go (chosen fits heads n) refl
  where
    go : (o : Option Winner) → chosen fits heads n ≡ o → o ≡ Some winner
    go None e = absurd (both_ways (fits winner.head) (none_chosen fits heads n e winner.place winner.head it.within it.here) it.of_kind)
    go (Some other) e =
        let that : IsBest fits heads n other = chosen_is_best fits heads n other e in
        let one : (other.head.serial < winner.head.serial) ⊎ ((other.head.serial ≡ winner.head.serial) × (winner.place ≤ other.place)) = it.best other.place other.head that.within that.here that.of_kind in
        let two : (winner.head.serial < other.head.serial) ⊎ ((winner.head.serial ≡ other.head.serial) × (other.place ≤ winner.place)) = that.best winner.place winner.head it.within it.here it.of_kind in
        let place : other.place ≡ winner.place = ⊎_elim (λ h. absurd (⊎_elim (λ k. omega arith) (λ k. omega (arith, k.0)) two)) (λ h. ⊎_elim (λ k. absurd (omega (arith, h.0))) (λ k. omega (arith, h.1, k.1)) two) one in
        let head : other.head ≡ winner.head = same_Some _ _ (sym that.here ∙ ap heads place ∙ it.here) in
        ap Some (same_pick other winner place head)
