-- Lawful events, one part after another.
use Rattle.std.proofs.Common.{◌≡◌, ℕ, Bool, true, false, cond, [], ◌∷◌, ◌++◌, ◌==◌, ◌&&◌, refl, sym, ap, subst, append_assoc}
use Rattle.chip_trait.specs.declared.event.Event.TheVariants.{Read, Program, Erase, Worn, Barrier, Said}
use Rattle.chip_trait.specs.Story.{Story}
use Rattle.chip_trait.specs.Lawful.{Age, Unknown, Erased, Clean, Used, settled, age, IsLawful, AreClean, IsLawfulAfter, LeavesClean}

-- what a story leaves of an age that it began with
abbrev aged : Age → Age → Age
aged Unknown before = before
aged Erased before = Erased
aged Clean before = Clean
aged Used before = Used

-- how a sector stands after more events, by how it stands after these alone
age-append : (later earlier : Story) (p s : ℕ) → (age later p s ≡ Clean → age (later ++ earlier) p s ≡ Clean) × (age later p s ≡ Erased → age (later ++ earlier) p s ≡ Erased)
age-append [] earlier p s = (λ clean. cc clean, λ erased. cc erased)
age-append (Read q t ∷ later) earlier p s = age-append later earlier p s
age-append (Program q t bytes ∷ later) earlier p s = by_test (q == p && t == s) (age-append later earlier p s)
  where
    by_test : (b : Bool) → (age later p s ≡ Clean → age (later ++ earlier) p s ≡ Clean) × (age later p s ≡ Erased → age (later ++ earlier) p s ≡ Erased)
        → (cond b Used (age later p s) ≡ Clean → cond b Used (age (later ++ earlier) p s) ≡ Clean) × (cond b Used (age later p s) ≡ Erased → cond b Used (age (later ++ earlier) p s) ≡ Erased)
    by_test true rest = (λ clean. cc clean, λ erased. cc erased)
    by_test false rest = rest
age-append (Erase q ∷ later) earlier p s = by_test (q == p) (age-append later earlier p s)
  where
    by_test : (b : Bool) → (age later p s ≡ Clean → age (later ++ earlier) p s ≡ Clean) × (age later p s ≡ Erased → age (later ++ earlier) p s ≡ Erased)
        → (cond b Erased (age later p s) ≡ Clean → cond b Erased (age (later ++ earlier) p s) ≡ Clean) × (cond b Erased (age later p s) ≡ Erased → cond b Erased (age (later ++ earlier) p s) ≡ Erased)
    by_test true rest = (λ clean. cc clean, λ erased. refl)
    by_test false rest = rest
age-append (Worn q ∷ later) earlier p s = by_test (q == p) (age-append later earlier p s)
  where
    by_test : (b : Bool) → (age later p s ≡ Clean → age (later ++ earlier) p s ≡ Clean) × (age later p s ≡ Erased → age (later ++ earlier) p s ≡ Erased)
        → (cond b Used (age later p s) ≡ Clean → cond b Used (age (later ++ earlier) p s) ≡ Clean) × (cond b Used (age later p s) ≡ Erased → cond b Used (age (later ++ earlier) p s) ≡ Erased)
    by_test true rest = (λ clean. cc clean, λ erased. cc erased)
    by_test false rest = rest
age-append (Barrier ∷ later) earlier p s = by_age (age later p s) (age (later ++ earlier) p s) (age-append later earlier p s)
  where
    by_age : (a b : Age) → (a ≡ Clean → b ≡ Clean) × (a ≡ Erased → b ≡ Erased) → (settled a ≡ Clean → settled b ≡ Clean) × (settled a ≡ Erased → settled b ≡ Erased)
    by_age Unknown b rest = (λ clean. cc clean, λ erased. cc erased)
    by_age Erased b rest = (λ clean. ap settled (rest.1 refl), λ erased. cc erased)
    by_age Clean b rest = (λ clean. ap settled (rest.0 refl), λ erased. cc erased)
    by_age Used b rest = (λ clean. cc clean, λ erased. cc erased)
age-append (Said piece ∷ later) earlier p s = age-append later earlier p s

pub clean-append : (later earlier : Story) (p s : ℕ) → age later p s ≡ Clean → age (later ++ earlier) p s ≡ Clean
clean-append later earlier p s clean = (age-append later earlier p s).0 clean

pub lawful-append : (later earlier : Story) → IsLawful later → IsLawful earlier → IsLawful (later ++ earlier)
lawful-append [] earlier f e = e
lawful-append (Read q t ∷ later) earlier f e = lawful-append later earlier f e
lawful-append (Program q t bytes ∷ later) earlier f e = (clean-append later earlier q t f.0, lawful-append later earlier f.1 e)
lawful-append (Erase q ∷ later) earlier f e = lawful-append later earlier f e
lawful-append (Worn q ∷ later) earlier f e = lawful-append later earlier f e
lawful-append (Barrier ∷ later) earlier f e = lawful-append later earlier f e
lawful-append (Said piece ∷ later) earlier f e = lawful-append later earlier f e

pub lawful-part : (later earlier : Story) → IsLawful (later ++ earlier) → IsLawful earlier
lawful-part [] earlier f = f
lawful-part (Read q t ∷ later) earlier f = lawful-part later earlier f
lawful-part (Program q t bytes ∷ later) earlier f = lawful-part later earlier f.1
lawful-part (Erase q ∷ later) earlier f = lawful-part later earlier f
lawful-part (Worn q ∷ later) earlier f = lawful-part later earlier f
lawful-part (Barrier ∷ later) earlier f = lawful-part later earlier f
lawful-part (Said piece ∷ later) earlier f = lawful-part later earlier f

-- ---- relative to what came before

pub lawful_none : (A : ℕ → ℕ → Type 0) → IsLawfulAfter A []
lawful_none A = record { lawful = λ base lawful clean. lawful }

pub clean_none : (A : ℕ → ℕ → Type 0) → LeavesClean A A []
clean_none A = record { clean = λ base lawful clean. clean }

-- one part after another
pub lawful_then : (A B : ℕ → ℕ → Type 0) (later earlier : Story) → IsLawfulAfter A earlier → LeavesClean A B earlier → IsLawfulAfter B later → IsLawfulAfter A (later ++ earlier)
lawful_then A B later earlier first leaves second = record {
  lawful = λ base lawful clean. subst IsLawful (sym (append_assoc later earlier base)) (second.lawful (earlier ++ base) (first.lawful base lawful clean) (leaves.clean base lawful clean));
}

pub clean_then : (A B C : ℕ → ℕ → Type 0) (later earlier : Story) → IsLawfulAfter A earlier → LeavesClean A B earlier → LeavesClean B C later → LeavesClean A C (later ++ earlier)
clean_then A B C later earlier first leaves second = record {
  clean = λ base lawful clean. subst (AreClean C) (sym (append_assoc later earlier base)) (second.clean (earlier ++ base) (first.lawful base lawful clean) (leaves.clean base lawful clean));
}

-- events that are lawful by themselves, of which nothing is left clean
pub lawful_alone : (A : ℕ → ℕ → Type 0) (added : Story) → IsLawful added → IsLawfulAfter A added
lawful_alone A added is = record { lawful = λ base lawful clean. lawful-append added base is lawful }

pub clean_nowhere : (A : ℕ → ℕ → Type 0) (added : Story) → LeavesClean A (λ p s. ⊥) added
clean_nowhere A added = record { clean = λ base lawful clean p s none. absurd none }
