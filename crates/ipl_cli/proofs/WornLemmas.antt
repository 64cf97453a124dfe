-- Where the program meets places that are worn.
use Rattle.std.proofs.Common.{◌≡◌, ◌<◌, ◌-◌, ◌==◌, ℕ, true, List, [], ◌∷◌, ◌++◌, length, Some, Err, inl, inr, refl, sym, ◌∙◌, ap, subst, arith}
use Rattle.std.specs.List.{All, Contains}
use Rattle.std.specs.Option.{option_map}
use Rattle.std.proofs.lemmas.Bool.{eq-eqb}
use Rattle.chip_trait.specs.Story.{Story, Contents}
use Rattle.chip_trait.specs.Told.{History, Told, adds_all}
use Rattle.chip_trait.proofs.HistoryLemmas.{history_then}
use Rattle.ipl_base.specs.Places.{IsGeometry, units_on, spares_on}
use Rattle.ipl_base.specs.declared.fault.FormatFault.TheVariants as format
use Rattle.unit_layout.proofs.StatusLemmas.{status_retired}
use Rattle.ipl_meaning.specs.Chart.{Chart, chart_of}
use Rattle.ipl_meaning.specs.FirstTables.{first_layout}
use Rattle.ipl_meaning.specs.Chosen.{units_at}
use Rattle.ipl_meaning.specs.LaidOut.{retired_at}
use Rattle.place_taking.specs.Spending.{is_found_worn}
use Rattle.place_taking.proofs.SpendingLemmas.{found_later, or_left}
use Rattle.restart.specs.Events.{worn_events}
use Rattle.restart.specs.Fresh.{IsFresh, Formats, TellsFresh}
use Rattle.script_store.specs.Worn.{IsKnownWorn, TooManyAreWorn, WearsOut}
use Rattle.script_store.proofs.ReopenLemmas.{laid_retired}
use Rattle.ipl_cli.specs.Top.{FindsWorn}

-- ---- a format that finds its place worn

found_here : (p : ℕ) → is_found_worn (worn_events p) p ≡ true
found_here p = or_left (p == p) _ (eq-eqb p p refl)

pub format_finds : (old new : Told) (places units p : ℕ)
    → ((h : History) → Formats {A = Unit {0}} places units h old (Err (format.Worn p)) new)
    → FindsWorn old new
format_finds old new places units p formats x h told history =
    let did = formats h in (
      did.added,
      did.history ∙ ap (option_map (adds_all did.added)) history,
      (p, subst (λ (added : Story). is_found_worn added p ≡ true) (sym did.came.1) (found_here p)),
    )

-- ---- a chip that was just formatted, with no place to spare

module _ (places : ℕ) (c : Chart) (fits : IsGeometry places)
    (fresh : IsFresh places (units_on places) c) where
  -- it lists no place as retired
  none_listed : (p : ℕ) → Contains (retired_at c places) p → ⊥
  none_listed p has =
      let it = first_layout (units_on places) in
      let laid = fresh.mirrors.laid in
      let (i, low, is) = subst (λ (retired : List ℕ). Contains retired p)
      (laid_retired places c it laid
      ∙ status_retired it.head.version places it.count it.head.payload (omega (arith, fits.1))
      laid.counts) has in
      let few = laid.counts.listed.spare in
      let all : it.count ≡ places - 4 = refl in
      absurd (omega (arith, low, few, all, fits.0))

  -- so where too many are worn, one was found so
  one_found : (added : Story) → TooManyAreWorn places c added
      → (p : ℕ) × (is_found_worn added p ≡ true)
  one_found added many = by_first many.worn many.known many.more
    where
      by_first : (worn : List ℕ) → All (IsKnownWorn places c added) worn
          → spares_on places (units_at c places) < length worn
          → (p : ℕ) × (is_found_worn added p ≡ true)
      by_first [] known more = absurd (omega (arith, more))
      by_first (p ∷ worn) known more = elim (known 0 p (omega arith)) [
        | inl listed ↦ absurd (none_listed p listed)
        | inr found ↦ (p, found)
      ]

-- Where the chip told what it held and a history before the format, a place was found worn since.
pub fresh_finds : (old mid new : Told) → IsGeometry old.places → mid.places ≡ old.places
    → ((h : History) → (added : Story) × (mid.history ≡ option_map (adds_all added) old.history))
    → ((x : Contents) → old.contents ≡ Some x → TellsFresh old.places (units_on old.places) mid)
    → WearsOut mid new → FindsWorn old new
fresh_finds old mid new fits same formats contents wears x h told history =
    let fresh = contents x told in
    let (added, is) = formats h in
    let (later, then, many) = wears fresh.contents (adds_all added h) fresh.told
    (is ∙ ap (option_map (adds_all added)) history) in
    let (p, found) = one_found mid.places (chart_of fresh.contents) (subst IsGeometry (sym same) fits)
    (subst (λ (n : ℕ). IsFresh n (units_on n) (chart_of fresh.contents)) (sym same) fresh.fresh)
    later many in (
      later ++ added,
      then ∙ history_then later added (Some h),
      (p, found_later later added p found),
    )
