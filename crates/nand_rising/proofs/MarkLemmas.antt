-- Good blocks, and what pages over them tell.
use Rattle.std.proofs.Common.{◌≡◌, ◌≤◌, ◌<◌, zero, suc, ℕ, ◌+◌, ◌*◌, Bool, true, false, cond, eqb, List, [], ◌∷◌, ◌++◌, length, get_or, Option, Some, None, IfSome, ◌∙◌, ap, sym, refl, subst, arith, inl, inr, length-append}
use Rattle.std.specs.Prelude.{◌&&◌}
use Rattle.std.specs.Option.{option_map}
use Rattle.std.proofs.Math.Path.{fun_ext}
use Rattle.std.proofs.lemmas.Bool.{cases_eq, cases_lt, cases_order, cases_Bool, eq-eqb, ne_eqb, lt-ltb, le-ltb, and_left, cond-true, cond-false}
use Rattle.std.proofs.lemmas.List.{get_or_append_left, get_or_push}
use Rattle.std.proofs.lemmas.Option.{IfSome_then}
use Rattle.chip_trait.specs.Story.{Contents, after, blank}
use Rattle.chip_trait.specs.declared.event.Event.TheVariants.{Program, Erase}
use Rattle.nand_2k.specs.declared.part.Status.{Status}
use Rattle.nand_2k.specs.Part.{PartTold, AsksPart, AsksErase}
use Rattle.nand_rising.specs.declared.shape.Shape.{Shape}
use Rattle.nand_rising.specs.Shapes.{slots_per_block, AreErasedFrom}
use Rattle.nand_rising.specs.Marks.{taking, good_in, blocks_in, telling_good, GoodAreGood, GoodRise, GoodAreAll}
use Rattle.nand_rising.proofs.PagesLemmas.{if_mapped, if_unmapped}

-- ---- the table

pub good_marked : (bad : ℕ → Bool) (n : ℕ) → bad n ≡ true → good_in bad (suc n) ≡ good_in bad n
good_marked bad n e = cond-true _ _ _ e

pub good_more : (bad : ℕ → Bool) (n : ℕ) → bad n ≡ false → good_in bad (suc n) ≡ good_in bad n ++ n ∷ []
good_more bad n e = cond-false _ _ _ e

pub good_count : (bad : ℕ → Bool) (n : ℕ) → length (good_in bad n) ≤ n
good_count bad zero = omega arith
good_count bad (suc n) = elim (cases_Bool (bad n)) [
  | inl marked ↦ let e = ap (λ (l : List ℕ). length l) (good_marked bad n marked) in let before = good_count bad n in omega arith
  | inr good ↦ let e : length (good_in bad (suc n)) ≡ length (good_in bad n) + 1 = ap (λ (l : List ℕ). length l) (good_more bad n good) ∙ length-append (good_in bad n) (n ∷ []) in let before = good_count bad n in omega arith
]

-- an item of a list with one more
pushed : (xs : List ℕ) (y i : ℕ) → i < length xs → get_or (xs ++ y ∷ []) i 0 ≡ get_or xs i 0
pushed xs y i below = get_or_append_left xs (y ∷ []) 0 i below

pub good_are_good : GoodAreGood
good_are_good bad zero i below = absurd (omega arith)
good_are_good bad (suc n) i below = elim (cases_Bool (bad n)) [
  | inl marked ↦
      let e = good_marked bad n marked in
      let before = good_are_good bad n i (subst (λ (l : List ℕ). i < length l) e below) in
      subst (λ (l : List ℕ). (get_or l i 0 < suc n) × (bad (get_or l i 0) ≡ false)) (sym e) (omega (arith, before.0), before.1)
  | inr good ↦
      let e = good_more bad n good in
      let long : length (good_in bad (suc n)) ≡ length (good_in bad n) + 1 = ap (λ (l : List ℕ). length l) e ∙ length-append (good_in bad n) (n ∷ []) in
      subst (λ (l : List ℕ). (get_or l i 0 < suc n) × (bad (get_or l i 0) ≡ false)) (sym e) (elim (cases_lt i (length (good_in bad n))) [
        | inl old ↦
            let before = good_are_good bad n i old in
            let same = pushed (good_in bad n) n i old in
            (omega (arith, before.0), ap bad same ∙ before.1)
        | inr new ↦
            let same : get_or (good_in bad n ++ n ∷ []) i 0 ≡ n = get_or_push (good_in bad n) n 0 i (omega arith) in
            (omega arith, ap bad same ∙ good)
      ])
]

pub good_rise : GoodRise
good_rise bad zero i j less below = absurd (omega arith)
good_rise bad (suc n) i j less below = elim (cases_Bool (bad n)) [
  | inl marked ↦
      let e = good_marked bad n marked in
      let before = good_rise bad n i j less (subst (λ (l : List ℕ). j < length l) e below) in
      subst (λ (l : List ℕ). get_or l i 0 < get_or l j 0) (sym e) before
  | inr good ↦
      let e = good_more bad n good in
      let long : length (good_in bad (suc n)) ≡ length (good_in bad n) + 1 = ap (λ (l : List ℕ). length l) e ∙ length-append (good_in bad n) (n ∷ []) in
      subst (λ (l : List ℕ). get_or l i 0 < get_or l j 0) (sym e) (elim (cases_lt j (length (good_in bad n))) [
        | inl old ↦
            let before = good_rise bad n i j less old in
            let first = pushed (good_in bad n) n i (omega arith) in
            let second = pushed (good_in bad n) n j old in
            omega arith
        | inr new ↦
            let first = pushed (good_in bad n) n i (omega arith) in
            let small = (good_are_good bad n i (omega arith)).0 in
            let second : get_or (good_in bad n ++ n ∷ []) j 0 ≡ n = get_or_push (good_in bad n) n 0 j (omega arith) in
            omega arith
      ])
]

pub good_are_all : GoodAreAll
good_are_all bad zero b below good = absurd (omega arith)
good_are_all bad (suc n) b below good = elim (cases_eq b n) [
  | inl last ↦
      let e = good_more bad n (ap bad (sym last) ∙ good) in
      let long : length (good_in bad (suc n)) ≡ length (good_in bad n) + 1 = ap (λ (l : List ℕ). length l) e ∙ length-append (good_in bad n) (n ∷ []) in
      (length (good_in bad n), (omega arith, ap (λ (l : List ℕ). get_or l (length (good_in bad n)) 0) e ∙ get_or_push (good_in bad n) n 0 (length (good_in bad n)) refl ∙ sym last))
  | inr other ↦
      let before = good_are_all bad n b (omega arith) good in
      elim (cases_Bool (bad n)) [
        | inl marked ↦
            let e = good_marked bad n marked in
            (before.0, subst (λ (l : List ℕ). (before.0 < length l) × (get_or l before.0 0 ≡ b)) (sym e) before.1)
        | inr more ↦
            let e = good_more bad n more in
            let long : length (good_in bad (suc n)) ≡ length (good_in bad n) + 1 = ap (λ (l : List ℕ). length l) e ∙ length-append (good_in bad n) (n ∷ []) in
            (before.0, (omega (arith, before.1.0), ap (λ (l : List ℕ). get_or l before.0 0) e ∙ pushed (good_in bad n) n before.0 before.1.0 ∙ before.1.1))
      ]
]

-- ---- pages over good blocks

at_good : (good : List ℕ) (x : Contents) (b t : ℕ) → b < length good → blocks_in good x b t ≡ x (get_or good b 0) t
at_good good x b t below = cond-true _ _ _ (lt-ltb b (length good) below)

past_good : (good : List ℕ) (x : Contents) (b t : ℕ) → length good ≤ b → blocks_in good x b t ≡ blank
past_good good x b t past = cond-false _ _ _ (le-ltb b (length good) past)

pub read_good : (good : List ℕ) (contents : Option Contents) (b t : ℕ) (bytes : List ℕ) → b < length good → IfSome contents (λ x. bytes ≡ x (get_or good b 0) t) → IfSome (option_map (blocks_in good) contents) (λ x. bytes ≡ x b t)
read_good good contents b t bytes below read = if_mapped contents (blocks_in good) (λ (x : Contents). bytes ≡ x b t) (IfSome_then contents read (λ x e. e ∙ sym (at_good good x b t below)))

slots_same : (shape : Shape) (n : ℕ) → slots_per_block shape ≡ slots_per_block (record shape { blocks = n })
unfolding slots_per_block
slots_same shape n = refl

pub rising_good : (good : List ℕ) (contents : Option Contents) (shape : Shape) (n b page chunk : ℕ) → b < length good
    → IfSome (option_map (blocks_in good) contents) (λ x. AreErasedFrom (record shape { blocks = n }) page chunk (x b)) → IfSome contents (λ x. AreErasedFrom shape page chunk (x (get_or good b 0)))
rising_good good contents shape n b page chunk below free =
    IfSome_then contents (if_unmapped contents (blocks_in good) (λ (x : Contents). AreErasedFrom (record shape { blocks = n }) page chunk (x b)) free)
    (λ (x : Contents) (erased : AreErasedFrom (record shape { blocks = n }) page chunk (blocks_in good x b)). λ h d from within used.
    sym (at_good good x b (h * shape.chunks + d) below) ∙ erased h d from within (subst (λ (k : ℕ). h * shape.chunks + d < k) (slots_same shape n) used))

module _ (good : List ℕ) (rise : (i j : ℕ) → i < j → j < length good → get_or good i 0 < get_or good j 0) where
  -- a good block is known by its number
  same_block : (b c : ℕ) → b < length good → c < length good → eqb (get_or good b 0) (get_or good c 0) ≡ eqb b c
  same_block b c below_b below_c = elim (cases_order b c) [
    | inl same ↦ eq-eqb (get_or good b 0) (get_or good c 0) (ap (λ (k : ℕ). get_or good k 0) same) ∙ sym (eq-eqb b c same)
    | inr other ↦ elim other [
      | inl less ↦ let r = rise b c less below_c in ne_eqb (get_or good b 0) (get_or good c 0) (λ e. omega arith) ∙ sym (ne_eqb b c (λ e. omega arith))
      | inr more ↦ let r = rise c b more below_b in ne_eqb (get_or good b 0) (get_or good c 0) (λ e. omega arith) ∙ sym (ne_eqb b c (λ e. omega arith))
    ]
  ]

  programmed_good : (x : Contents) (b t : ℕ) (bytes : List ℕ) → b < length good → (q u : ℕ) → blocks_in good (after (Program (get_or good b 0) t bytes) x) q u ≡ after (Program b t bytes) (blocks_in good x) q u
  programmed_good x b t bytes below q u = elim (cases_lt q (length good)) [
    | inl within ↦ at_good good (after (Program (get_or good b 0) t bytes) x) q u within
        ∙ ap (λ (k : Bool). cond (k && eqb t u) bytes (x (get_or good q 0) u)) (same_block b q below within)
        ∙ ap (λ (l : List ℕ). cond (eqb b q && eqb t u) bytes l) (sym (at_good good x q u within))
    | inr past ↦ past_good good (after (Program (get_or good b 0) t bytes) x) q u past
        ∙ sym (ap (λ (k : Bool). cond k bytes (blocks_in good x q u)) (and_left _ (eqb t u) (ne_eqb b q (λ e. omega arith))) ∙ past_good good x q u past)
  ]

  erased_good : (x : Contents) (b : ℕ) → b < length good → (q u : ℕ) → blocks_in good (after (Erase (get_or good b 0)) x) q u ≡ after (Erase b) (blocks_in good x) q u
  erased_good x b below q u = elim (cases_lt q (length good)) [
    | inl within ↦ at_good good (after (Erase (get_or good b 0)) x) q u within
        ∙ ap (λ (k : Bool). cond k blank (x (get_or good q 0) u)) (same_block b q below within)
        ∙ ap (λ (l : List ℕ). cond (eqb b q) blank l) (sym (at_good good x q u within))
    | inr past ↦ past_good good (after (Erase (get_or good b 0)) x) q u past
        ∙ sym (ap (λ (k : Bool). cond k blank (blocks_in good x q u)) (ne_eqb b q (λ e. omega arith)) ∙ past_good good x q u past)
  ]

  program_contents : (old : Option Contents) (b t : ℕ) (bytes : List ℕ) → b < length good → option_map (blocks_in good) (option_map (after (Program (get_or good b 0) t bytes)) old) ≡ option_map (after (Program b t bytes)) (option_map (blocks_in good) old)
  program_contents None b t bytes below = refl
  program_contents (Some x) b t bytes below = ap Some (fun_ext (λ q. fun_ext (λ u. programmed_good x b t bytes below q u)))

  erase_contents : (old : Option Contents) (b : ℕ) → b < length good → option_map (blocks_in good) (option_map (after (Erase (get_or good b 0))) old) ≡ option_map (after (Erase b)) (option_map (blocks_in good) old)
  erase_contents None b below = refl
  erase_contents (Some x) b below = ap Some (fun_ext (λ q. fun_ext (λ u. erased_good x b below q u)))

  pub asks_good : (answer : Status) (b t : ℕ) (bytes : List ℕ) (old new : PartTold) → b < length good → AsksPart answer (Program (get_or good b 0) t bytes) old new → AsksPart answer (Program b t bytes) (telling_good good old) (telling_good good new)
  asks_good answer b t bytes old new below asks = record {
    blocks = refl;
    status = asks.status;
    asked = refl;
    passed = λ e. ap (option_map (blocks_in good)) (asks.passed e) ∙ program_contents old.contents b t bytes below;
  }

  pub erases_good : (answer : Status) (b : ℕ) (old new : PartTold) → b < length good → AsksErase answer (Erase (get_or good b 0)) old new → AsksErase answer (Erase b) (telling_good good old) (telling_good good new)
  erases_good answer b old new below erases = record {
    asks = record {
      blocks = refl;
      status = erases.asks.status;
      asked = refl;
      passed = λ e. ap (option_map (blocks_in good)) (erases.asks.passed e) ∙ erase_contents old.contents b below;
    };
    failed = λ e. ap (option_map (blocks_in good)) (erases.failed e);
  }

-- ---- a table that was made so

pub good_next : (bad : ℕ → Bool) (n : ℕ) → taking (bad n) n (good_in bad n) ≡ good_in bad (n + 1)
good_next bad n = let one : suc n ≡ n + 1 = omega arith in ap (good_in bad) one

pub table_short : (bad : ℕ → Bool) (n : ℕ) (good : List ℕ) → good ≡ good_in bad n → length good ≤ n
table_short bad n good e = subst (λ (l : List ℕ). length l ≤ n) (sym e) (good_count bad n)

pub table_within : (bad : ℕ → Bool) (n : ℕ) (good : List ℕ) (i : ℕ) → good ≡ good_in bad n → i < length good → get_or good i 0 < n
table_within bad n good i e below = subst (λ (l : List ℕ). get_or l i 0 < n) (sym e) (good_are_good bad n i (subst (λ (l : List ℕ). i < length l) e below)).0

pub table_rises : (bad : ℕ → Bool) (n : ℕ) (good : List ℕ) → good ≡ good_in bad n → (i j : ℕ) → i < j → j < length good → get_or good i 0 < get_or good j 0
table_rises bad n good e = λ i j less below. subst (λ (l : List ℕ). get_or l i 0 < get_or l j 0) (sym e) (good_rise bad n i j less (subst (λ (l : List ℕ). j < length l) e below))
