-- What was said, in one part after another.
use Rattle.std.proofs.Common.{◌≡◌, ℕ, List, [], ◌∷◌, ◌++◌, refl, sym, ◌∙◌, ap, append_assoc}
use Rattle.std.proofs.lemmas.List.{append-nil}
use Rattle.chip_trait.specs.declared.event.Event.TheVariants.{Read, Program, Erase, Worn, Barrier, Said}
use Rattle.chip_trait.specs.Story.{Story, pieces, joined_pieces, said}

pub joined-append : (a b : List (List ℕ)) → joined_pieces (a ++ b) ≡ joined_pieces a ++ joined_pieces b
joined-append [] b = refl
joined-append (piece ∷ a) b = ap (λ (l : List ℕ). piece ++ l) (joined-append a b) ∙ sym (append_assoc piece (joined_pieces a) (joined_pieces b))

pub pieces-append : (later earlier : Story) → pieces (later ++ earlier) ≡ pieces earlier ++ pieces later
pieces-append [] earlier = sym (append-nil (pieces earlier))
pieces-append (Read q t ∷ later) earlier = pieces-append later earlier
pieces-append (Program q t bytes ∷ later) earlier = pieces-append later earlier
pieces-append (Erase q ∷ later) earlier = pieces-append later earlier
pieces-append (Worn q ∷ later) earlier = pieces-append later earlier
pieces-append (Barrier ∷ later) earlier = pieces-append later earlier
pieces-append (Said piece ∷ later) earlier = ap (λ (l : List (List ℕ)). l ++ piece ∷ []) (pieces-append later earlier) ∙ append_assoc (pieces earlier) (pieces later) (piece ∷ [])

pub said-append : (later earlier : Story) → said (later ++ earlier) ≡ said earlier ++ said later
said-append later earlier = ap joined_pieces (pieces-append later earlier) ∙ joined-append (pieces earlier) (pieces later)

nil_left : (xs ys : List (List ℕ)) → xs ++ ys ≡ [] → xs ≡ []
nil_left [] ys e = refl
nil_left (x ∷ xs) ys e = cc

-- an earlier part of events that say nothing
pub silent-part : (later earlier : Story) → pieces (later ++ earlier) ≡ [] → pieces earlier ≡ []
silent-part later earlier silent = nil_left (pieces earlier) (pieces later) (sym (pieces-append later earlier) ∙ silent)
