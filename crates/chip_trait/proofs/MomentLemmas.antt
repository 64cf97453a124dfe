-- How the moments of a call go on.
use Rattle.std.proofs.Common.{◌≡◌, [], ◌∷◌, ◌++◌, refl, sym, ◌∙◌, ap, subst, append_assoc}
use Rattle.chip_trait.specs.declared.event.Event.{Event}
use Rattle.chip_trait.specs.Story.{Story}
use Rattle.chip_trait.specs.Moment.{AtEachMoment}

pub at_start : (P : Story → Type 0) → P [] → AtEachMoment P []
at_start P here [] e eq = subst P (sym eq) here
at_start P here (l ∷ later) e eq = cc

-- one event more
pub at_next : (P : Story → Type 0) (new : Event) (added : Story) → AtEachMoment P added → P (new ∷ added) → AtEachMoment P (new ∷ added)
at_next P new added each here [] e eq = subst P (sym eq) here
at_next P new added each here (l ∷ later) e eq = let rest : later ++ e ≡ added = cc in each later e rest

-- at the last moment
pub at_end : (P : Story → Type 0) (added : Story) → AtEachMoment P added → P added
at_end P added each = each [] added refl

-- an earlier part of the events
pub at_part : (P : Story → Type 0) (later e : Story) → AtEachMoment P (later ++ e) → AtEachMoment P e
at_part P later e each more f eq = each (later ++ more) f (append_assoc later more f ∙ ap (λ (l : Story). later ++ l) eq)

pub at_weaker : (P Q : Story → Type 0) (added : Story) → ((e : Story) → P e → Q e) → AtEachMoment P added → AtEachMoment Q added
at_weaker P Q added f each later e eq = f e (each later e eq)

-- then more events
pub at_both : (P : Story → Type 0) (later earlier : Story) → AtEachMoment P earlier → AtEachMoment (λ f. P (f ++ earlier)) later → AtEachMoment P (later ++ earlier)
at_both P [] earlier first second = first
at_both P (f ∷ later) earlier first second =
    at_next P f (later ++ earlier) (at_both P later earlier first (λ more e eq. second (f ∷ more) e (ap (λ (l : Story). f ∷ l) eq))) (second [] (f ∷ later) refl)
