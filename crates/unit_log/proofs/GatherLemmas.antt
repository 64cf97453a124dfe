-- Log sectors gathered spot by spot.
use Rattle.std.proofs.Common.{◌≡◌, ◌⊎◌, ℕ, suc, ◌<◌, ◌+◌, ◌-◌, List, [], ◌∷◌, ◌++◌, length, map, drop, get_or, Option, Result, Ok, Err, OnOk, IfErr, inl, inr, refl, sym, ◌∙◌, ap, subst, arith}
use Rattle.std.proofs.lemmas.List.{drop_more, length-map, get_or-map}
use Rattle.chip_trait.specs.Told.{Told}
use Rattle.ipl_base.specs.declared.fault.ChipFault.{ChipFault}
use Rattle.ipl_base.specs.declared.fault.ChipFault.TheVariants.{ReadFault}
use Rattle.ipl_base.specs.declared.spot.Spot.{Spot}
use Rattle.ipl_format.specs.Sector.{Sector}
use Rattle.ipl_meaning.specs.Chart.{Chart, chart_of}
use Rattle.overflow.specs.Lists.{pair_of, IsSpotWithin, AreWithin}
use Rattle.unit_io.specs.Costs.{Spends}
use Rattle.unit_io.specs.Kinds.{log_only}
use Rattle.unit_io.specs.Reads.{OfContents}
use Rattle.unit_io.specs.ReadsAt.{IsAt, ReadsAt}
use Rattle.unit_io.proofs.ReadsAtLemmas.{at_none}
use Rattle.unit_log.specs.declared.scratch.LogSector.{LogSector}
use Rattle.unit_log.specs.Kept.{kept_if, with_found, gathered, CannotBeKept, HasUnfit}
use Rattle.unit_log.specs.Live.{spots_from, Gathers}
use Rattle.unit_log.specs.Looks.{IsListed, LooksAt}
use Rattle.unit_log.specs.Often.{ReadsListed}
use Rattle.unit_log.proofs.OftenLemmas.{ReadsBut, but_all, but_more, but_none}
use Rattle.unit_log.proofs.LooksLemmas.{at_one, looks_failed, reads_then}

-- what a call that gathers told, where it was done, and where it failed
abbrev pub Gathered : Told → ℕ → ℕ → List (ℕ × ℕ) → List LogSector → List LogSector → Type 0
Gathered told u g spots before kept =
    OfContents told (λ x. kept ≡ gathered (chart_of x) u g spots before)

abbrev pub Fails : Told → ℕ → ℕ → List (ℕ × ℕ) → List LogSector → ChipFault → Type 0
Fails told u g spots before fault =
    OfContents told (λ x. (fault ≡ ReadFault) ⊎ HasUnfit (chart_of x) u g spots before)

-- ---- one spot

-- what was read there is kept, or can't be
pub spot_gathers : (told : Told) (u g p s : ℕ) (before kept : List LogSector) (o : Option Sector)
    (result : Result (Unit {0}) ChipFault) → OfContents told (λ x. o ≡ log_only (chart_of x p s))
    → OnOk result (kept ≡ with_found (kept_if u g o) before)
    → IfErr result (λ fault. CannotBeKept (kept_if u g o) before)
    → Gathers told u g ((p, s) ∷ []) before kept result
spot_gathers told u g p s before kept o (Ok v) is done unfit = λ x here.
    done ∙ ap (λ (z : Option Sector). with_found (kept_if u g z) before) (is x here)
spot_gathers told u g p s before kept o (Err e) is done unfit = λ x here.
    inr (inl (subst (λ (z : Option Sector). CannotBeKept (kept_if u g z) before) (is x here) unfit))

-- no read of it was done
pub spot_missed : (told : Told) (u g p s : ℕ) (before kept : List LogSector)
    (fault other : ChipFault)
    (result : Result (Unit {0}) ChipFault) → result ≡ Err other → other ≡ fault → fault ≡ ReadFault
    → Gathers told u g ((p, s) ∷ []) before kept result
spot_missed told u g p s before kept fault other result is same read = λ x here.
    rw is (inl (same ∙ read))

-- ---- one spot after another

-- Of all the spots some were read. What those that are left are gathered into by now gives what all
-- are gathered into.
pub record AreRead (At : ℕ → ℕ → Type 0) (u g : ℕ) (all left : List (ℕ × ℕ))
    (before kept : List LogSector) (first now : Told) : Type 0 where
  pub gathers : OfContents first (λ x.
      gathered (chart_of x) u g all before ≡ gathered (chart_of x) u g left kept)
  pub unfit : OfContents first (λ x.
      HasUnfit (chart_of x) u g left kept → HasUnfit (chart_of x) u g all before)
  pub reads : ReadsAt At first now
  pub often : Spends (ReadsBut all left) first now

module _ (At : ℕ → ℕ → Type 0) (u g : ℕ) where
  pub read_none : (all : List (ℕ × ℕ)) (kept : List LogSector) (t : Told)
      → AreRead At u g all all kept kept t t
  read_none all kept t = record {
    gathers = λ x here. refl;
    unfit = λ x here unfit. unfit;
    reads = at_none At t;
    often = but_none all t;
  }

  module _ (all left rest : List (ℕ × ℕ)) (p s : ℕ) (before kept new : List LogSector)
      (first now next : Told) (step : left ≡ (p, s) ∷ rest) (here : At p s)
      (so_far : AreRead At u g all left before kept first now) where
    -- one more
    pub read_more : Gathered now u g ((p, s) ∷ []) kept new
        → ReadsAt (IsAt p s) now next → Spends (ReadsListed ((p, s) ∷ [])) now next
        → AreRead At u g all rest before new first next
    read_more done reads often = record {
      gathers = λ x told. so_far.gathers x told ∙ at_new x told;
      unfit = λ x told unfit. so_far.unfit x told (unfit_now x told unfit);
      reads = reads_then (IsAt p s) At (at_one At p s here) first now next so_far.reads reads;
      often = but_more all left rest p s first now next step so_far.often often;
    }
      where
        at_new : OfContents first (λ x. gathered (chart_of x) u g left kept ≡ gathered
            (chart_of x) u g rest new)
        at_new x told =
            rw step (ap (gathered (chart_of x) u g rest)
            (sym (done x (so_far.reads.contents ∙ told))))

        unfit_now : OfContents first (λ x. HasUnfit (chart_of x) u g rest new
            → HasUnfit (chart_of x) u g left kept)
        unfit_now x told unfit =
            rw step (inr (subst (HasUnfit (chart_of x) u g rest)
            (done x (so_far.reads.contents ∙ told)) unfit))

    -- one that can't be kept, or wasn't read
    pub read_fails : (fault other : ChipFault) (result : Result (Unit {0}) ChipFault)
        → result ≡ Err other → other ≡ fault
        → Fails now u g ((p, s) ∷ []) kept fault → Gathers first u g all before new result
    read_fails fault other result is same failed =
        λ x told. rw is (elim (failed x (so_far.reads.contents ∙ told)) [
          | inl read ↦ inl (same ∙ read)
          | inr (inl unfit) ↦ inr (so_far.unfit x told (rw step (inl unfit)))
          | inr (inr none) ↦ absurd none
        ])

    pub looks_fails : (fault other : ChipFault) (result : Result (Unit {0}) ChipFault)
        → result ≡ Err other → other ≡ fault
        → LooksAt {T = Unit {0}} (IsAt p s) (Err fault) now next → LooksAt At result first next
    looks_fails fault other result is same looks =
        looks_failed (IsAt p s) At (at_one At p s here) fault other result first now next is same
        so_far.reads looks

    -- however that ends
    pub often_fails : Spends (ReadsListed ((p, s) ∷ [])) now next → Spends (ReadsListed all) first next
    often_fails often = but_all all rest first next
        (but_more all left rest p s first now next step so_far.often often)

  -- all of them
  pub read_all : (all left : List (ℕ × ℕ)) (before kept : List LogSector) (first now : Told)
      → left ≡ [] → AreRead At u g all left before kept first now
      → Gathered first u g all before kept
  read_all all left before kept first now none so_far = λ x told.
      sym (so_far.gathers x told ∙ ap (λ (l : List (ℕ × ℕ)). gathered (chart_of x) u g l kept) none)

-- ---- the spots of a place, and those of a list

pub home_step : (p s end : ℕ) → s < end
    → spots_from p s (end - s) ≡ (p, s) ∷ spots_from p (s + 1) (end - (s + 1))
home_step p s end less =
    let more : end - s ≡ suc (end - (s + 1)) = omega (arith, less) in rw more refl

-- the spots from one on
abbrev pub rest_of : List Spot → ℕ → List (ℕ × ℕ)
rest_of spots i = map pair_of (drop i spots)

pub listed_step : (spots : List Spot) (i : ℕ) (spot : Spot) → i < length spots
    → rest_of spots i ≡ pair_of (get_or spots i spot) ∷ rest_of spots (i + 1)
listed_step spots i spot low = ap (map pair_of) (drop_more spots i spot low)

pub is_listed : (spots : List Spot) (i : ℕ) (spot : Spot) → i < length spots
    → IsListed (map pair_of spots) (get_or spots i spot).place (get_or spots i spot).sector
is_listed spots i spot low = (
  i,
  omega (arith, low, length-map spots pair_of),
  get_or-map pair_of spots i spot (pair_of (get_or spots i spot)) low,
)

pub listed_within : (places : ℕ) (spots : List Spot) (i : ℕ) (spot : Spot) → i < length spots
    → AreWithin places (map pair_of spots) → IsSpotWithin places (pair_of (get_or spots i spot))
listed_within places spots i spot low all = subst (IsSpotWithin places)
    (get_or-map pair_of spots i spot (0, 0) low)
    (all i (0, 0) (omega (arith, low, length-map spots pair_of)))

-- ---- two lists of spots

-- two rounds are one
pub gathered_append : (c : Chart) (u g : ℕ) (a b : List (ℕ × ℕ)) (kept : List LogSector)
    → gathered c u g (a ++ b) kept ≡ gathered c u g b (gathered c u g a kept)
gathered_append c u g [] b kept = refl
gathered_append c u g (spot ∷ a) b kept =
    gathered_append c u g a b (with_found (kept_if u g (log_only (c spot.0 spot.1))) kept)

-- unfit in a part is unfit in the whole
unfit_left : (c : Chart) (u g : ℕ) (a b : List (ℕ × ℕ)) (kept : List LogSector)
    → HasUnfit c u g a kept → HasUnfit c u g (a ++ b) kept
unfit_left c u g [] b kept none = absurd none
unfit_left c u g (x ∷ a) b kept (inl here) = inl here
unfit_left c u g (x ∷ a) b kept (inr later) =
    inr (unfit_left c u g a b (with_found (kept_if u g (log_only (c x.0 x.1))) kept) later)

unfit_right : (c : Chart) (u g : ℕ) (a b : List (ℕ × ℕ)) (kept : List LogSector)
    → HasUnfit c u g b (gathered c u g a kept) → HasUnfit c u g (a ++ b) kept
unfit_right c u g [] b kept unfit = unfit
unfit_right c u g (x ∷ a) b kept unfit =
    inr (unfit_right c u g a b (with_found (kept_if u g (log_only (c x.0 x.1))) kept) unfit)

-- the first ones failed
pub gathers_failed : (told : Told) (u g : ℕ) (a b : List (ℕ × ℕ)) (before kept : List LogSector)
    (fault other : ChipFault) (result : Result (Unit {0}) ChipFault) → result ≡ Err other
    → other ≡ fault
    → Fails told u g a before fault → Gathers told u g (a ++ b) before kept result
gathers_failed told u g a b before kept fault other result is same failed =
    λ x here. rw is (elim (failed x here) [
      | inl read ↦ inl (same ∙ read)
      | inr unfit ↦ inr (unfit_left (chart_of x) u g a b before unfit)
    ])

-- then the others are gathered
pub gathers_then : (told now : Told) (u g : ℕ) (a b : List (ℕ × ℕ))
    (before kept new : List LogSector)
    (result : Result (Unit {0}) ChipFault) → now.contents ≡ told.contents
    → Gathered told u g a before kept → Gathers now u g b kept new result
    → Gathers told u g (a ++ b) before new result
gathers_then told now u g a b before kept new (Ok v) same first second = λ x here.
    second x (same ∙ here) ∙ ap (gathered (chart_of x) u g b) (first x here)
    ∙ sym (gathered_append (chart_of x) u g a b before)
gathers_then told now u g a b before kept new (Err e) same first second =
    λ x here. elim (second x (same ∙ here)) [
      | inl read ↦ inl read
      | inr unfit ↦
          inr (unfit_right (chart_of x) u g a b before
          (subst (HasUnfit (chart_of x) u g b) (first x here) unfit))
    ]
