-- Histories and contents that are told, over one part of events after another.
use Rattle.std.proofs.Common.{◌≡◌, [], ◌∷◌, ◌++◌, Option, Some, None, refl, sym, ap, append_assoc}
use Rattle.std.specs.Option.{option_map}
use Rattle.chip_trait.specs.Story.{Story, Contents, after, held}
use Rattle.chip_trait.specs.Told.{History, adds_all}

-- what is held after one part and then another
pub held-append : (x : Contents) (later earlier : Story) → held x (later ++ earlier) ≡ held (held x earlier) later
held-append x [] earlier = refl
held-append x (e ∷ later) earlier = ap (after e) (held-append x later earlier)

-- no event
pub same_history : (o : Option History) → o ≡ option_map (adds_all []) o
same_history None = refl
same_history (Some h) = refl

pub same_contents : (o : Option Contents) → o ≡ option_map (λ x. held x []) o
same_contents None = refl
same_contents (Some x) = refl

-- one part, and then another
pub history_then : (later earlier : Story) (o : Option History)
    → option_map (adds_all later) (option_map (adds_all earlier) o) ≡ option_map (adds_all (later ++ earlier)) o
history_then later earlier None = refl
history_then later earlier (Some h) = ap (λ (story : Story). Some (record { start = h.start; story = story })) (sym (append_assoc later earlier h.story))

pub contents_then : (later earlier : Story) (o : Option Contents)
    → option_map (λ x. held x later) (option_map (λ x. held x earlier) o) ≡ option_map (λ x. held x (later ++ earlier)) o
contents_then later earlier None = refl
contents_then later earlier (Some x) = ap (λ (y : Contents). Some y) (sym (held-append x later earlier))
