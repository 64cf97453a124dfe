-- What pages cost that have records in memory, one after the other in the order of pages.
use Rattle.std.proofs.Common.{◌≡◌, ◌<◌, ◌≤◌, ◌+◌, ◌*◌, ◌/◌, ◌%◌, ◌&&◌, ℕ, Bool, true, false, cond, List, [], ◌∷◌, ◌++◌, count_by, get_or, length, take, refl, sym, ◌∙◌, ap, subst, arith}
use Rattle.std.specs.Prelude.{slice_index_or}
use Rattle.std.proofs.lemmas.Bool.{false≢true}
use Rattle.std.proofs.lemmas.List.Sums.{count_by_more_yes, count_by_more_no, sum_by-take-le}
use Rattle.ipl_meaning.specs.Tables.{Places}
use Rattle.chip_trait.specs.Told.{Told}
use Rattle.ipl_format.specs.Record.{Record}
use Rattle.unit_io.specs.Costs.{Spends}
use Rattle.unit_io.proofs.CostLemmas.{costs_none, spends_none, spends_then, spends_weaker}
use Rattle.place_taking.proofs.SpendingLemmas.{retiring_of, retiring_then, retiring_at_most, retires_none, retires_then}
use Rattle.buffer_pool.specs.Index.{page_number}
use Rattle.store_laws.specs.Frames.{Frames, logs_of}
use Rattle.page_frames.specs.Spending.{ErasesAndLogs}
use Rattle.page_frames.specs.Asks.{ErasesAndLogsOf}
use Rattle.page_frames.specs.Changed.{is_on_page, has_some, is_changed}

-- how many of the first n pages in the order are changed
abbrev pub changed_below : ℕ → List ℕ → Frames → List ℕ → ℕ
changed_below n names frames order = count_by (is_changed frames names) (take n order)

-- what so many pages cost
abbrev pub SpendsOn : ℕ → Places → Places → Bool → Told → Told → Type 0
SpendsOn k first now worn_out = Spends (ErasesAndLogsOf k first now worn_out)

pub none_below : (names order : List ℕ) (frames : Frames) (first : Places) (t : Told)
    → SpendsOn (changed_below 0 names frames order) first first false t t
none_below names order frames first t = spends_none (ErasesAndLogsOf 0 first first false) t (record {
  costs = retiring_of first first 0 0 0 (5 ∷ []) [] refl (costs_none (5 ∷ []));
  retires = retires_none first first false [] refl refl (λ p is. false≢true is);
})

fewer_below : (k n : ℕ) (first now : Places) (worn_out : Bool) (before after : Told) → k ≤ n
    → SpendsOn k first now worn_out before after → SpendsOn n first now worn_out before after
fewer_below k n first now worn_out before after few =
    spends_weaker (ErasesAndLogsOf k first now worn_out) (ErasesAndLogsOf n first now worn_out) before
    after (λ added does. record {
      costs = retiring_at_most first now k n k n (3 * k) (3 * n) (5 ∷ []) (5 ∷ []) added
          (omega (arith, few)) (omega (arith, few)) (omega (arith, few)) (λ kind has. has) does.costs;
      retires = does.retires;
    })

-- those below are among all
pub spends_all : (n : ℕ) (names order : List ℕ) (frames : Frames) (first now : Places)
    (worn_out : Bool) (before after : Told)
    → SpendsOn (changed_below n names frames order) first now worn_out before after
    → SpendsOn (count_by (is_changed frames names) order) first now worn_out before after
spends_all n names order frames first now worn_out before after =
    fewer_below (changed_below n names frames order) (count_by (is_changed frames names) order)
    first now worn_out before after
    (sum_by-take-le (λ number. cond (is_changed frames names number) 1 0) order n)

-- ---- one page more

-- whether this one is changed
pub changed_at : (names : List ℕ) (frames : Frames) (u page number : ℕ) → page < 15
    → page_number u page ≡ number
    → is_changed frames names number
    ≡ (has_some (logs_of frames u page) && is_on_page names u page)
changed_at names frames u page number few is =
    let unit_is : number / 15 ≡ u = omega (arith, few, is) in
    let page_is : number % 15 ≡ page = omega (arith, few, is) in
    λ i. has_some (logs_of frames (unit_is i) (page_is i))
    && is_on_page names (unit_is i) (page_is i)

pub and_off : (a b : Bool) → b ≡ false → (a && b) ≡ false
and_off true b off = off
and_off false b off = refl

-- it is none of the names'
pub spends_passed : (n u page : ℕ) (names order : List ℕ) (frames : Frames) (first now : Places)
    (worn_out : Bool) (before after : Told)
    → n < length order → page < 15 → page_number u page ≡ slice_index_or order n 0
    → is_on_page names u page ≡ false
    → SpendsOn (changed_below n names frames order) first now worn_out before after
    → SpendsOn (changed_below (n + 1) names frames order) first now worn_out before after
spends_passed n u page names order frames first now worn_out before after less few at off =
    subst (λ (k : ℕ). SpendsOn k first now worn_out before after)
    (sym (count_by_more_no (is_changed frames names) order n 0 less
    (changed_at names frames u page (get_or order n 0) few at
    ∙ and_off (has_some (logs_of frames u page)) (is_on_page names u page) off)))

-- or it is written out, however that ends
costs_more : (n : ℕ) (first mid last : Places) (worn_out : Bool) (before between after : Told)
    → SpendsOn n first mid false before between
    → Spends (ErasesAndLogs mid last worn_out) between after
    → SpendsOn (n + 1) first last worn_out before after
costs_more n first mid last worn_out before between after =
    spends_then (ErasesAndLogsOf n first mid false) (ErasesAndLogs mid last worn_out)
    (ErasesAndLogsOf (n + 1) first last worn_out) before between after (λ later earlier one two.
    record {
      costs = retiring_at_most first last (n + 1) (n + 1) (n + 1) (n + 1) (3 * n + 3) (3 * (n + 1))
          (5 ∷ []) (5 ∷ []) (later ++ earlier) (omega arith) (omega arith) (omega arith)
          (λ kind has. has)
          (retiring_then first mid last n 1 n 1 (3 * n) 3 (5 ∷ []) later earlier one.costs two.costs);
      retires = retires_then first mid last worn_out later earlier one.retires two.retires;
    })

-- where the page has no records, all stays as it is
pub record StaysIdle (mid last : Places) (worn_out : Bool) (between after : Told) : Type 0 where
  pub unworn : worn_out ≡ false
  pub places : last ≡ mid
  pub told : after ≡ between

pub spends_more : (n u page : ℕ) (names order : List ℕ) (frames now : Frames) (first mid last : Places)
    (worn_out : Bool) (before between after : Told) → n < length order → page < 15
    → page_number u page ≡ slice_index_or order n 0 → is_on_page names u page ≡ true
    → (logs_of frames u page ≡ [] → logs_of now u page ≡ [])
    → (logs_of now u page ≡ [] → StaysIdle mid last worn_out between after)
    → Spends (ErasesAndLogs mid last worn_out) between after
    → SpendsOn (changed_below n names frames order) first mid false before between
    → SpendsOn (changed_below (n + 1) names frames order) first last worn_out before after
spends_more n u page names order frames now first mid last worn_out before between after less few at on
    still idle costs so_far = by_records (logs_of frames u page) refl
  where
    is : (l : List Record) → logs_of frames u page ≡ l
        → is_changed frames names (get_or order n 0) ≡ (has_some l && is_on_page names u page)
    is l here = changed_at names frames u page (get_or order n 0) few at
        ∙ ap (λ (records : List Record). has_some records && is_on_page names u page) here

    by_records : (l : List Record) → logs_of frames u page ≡ l
        → SpendsOn (changed_below (n + 1) names frames order) first last worn_out before after
    by_records [] none =
        let stays = idle (still none) in
        rw (stays.unworn, stays.places, stays.told)
        (subst (λ (k : ℕ). SpendsOn k first mid false before between)
        (sym (count_by_more_no (is_changed frames names) order n 0 less (is [] none))) so_far)
    by_records (r ∷ l) some = subst (λ (k : ℕ). SpendsOn k first last worn_out before after)
        (sym (count_by_more_yes (is_changed frames names) order n 0 less (is (r ∷ l) some ∙ on)))
        (costs_more (changed_below n names frames order) first mid last worn_out before between after
        so_far costs)
