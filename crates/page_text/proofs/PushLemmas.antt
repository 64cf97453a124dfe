-- A page with one slot more behind others.
use Rattle.std.proofs.Common.{◌≡◌, ◌≤◌, ◌+◌, ℕ, zero, suc, List, [], ◌∷◌, ◌++◌, ◌∙◌, ap, ap₂, sym, refl, arith, length, get_or, All, Option, None, append_assoc, length-append}
use Rattle.std.proofs.lemmas.List.Elements.{All-nil, All-cons}
use Rattle.std.proofs.lemmas.List.{append-nil}
use Rattle.ipl_format.specs.Page.{Slots, IsShort, slot_bytes, text_from}
use Rattle.page_text.specs.Texts.{size_of, size_below}
use Rattle.page_text.proofs.SizeLemmas.{below_more}
use Rattle.ipl_base.specs.declared.limits.TheConstants.{VERSION}

pub text_push : (version k : ℕ) (xs : Slots) (o : Option (List ℕ))
    → text_from version k (xs ++ o ∷ []) ≡ text_from version k xs
    ++ slot_bytes version (k + length xs) o
unfolding text_from
text_push version k [] o = append-nil (slot_bytes version k o)
    ∙ ap (λ (n : ℕ). slot_bytes version n o) (omega arith)
text_push version k (x ∷ xs) o =
    ap (λ (t : List ℕ). slot_bytes version k x ++ t) (text_push version (suc k) xs o
    ∙ ap (λ (n : ℕ). text_from version (suc k) xs ++ slot_bytes version n o) (omega arith))
    ∙ sym (append_assoc (slot_bytes version k x) (text_from version (suc k) xs)
    (slot_bytes version (k + suc (length xs)) o))

pub below_push : (k : ℕ) (xs : Slots) (o : Option (List ℕ)) → k ≤ length xs
    → size_below k (xs ++ o ∷ []) ≡ size_below k xs
unfolding size_below
below_push zero xs o h = refl
below_push (suc k) [] o h = absurd (omega arith)
below_push (suc k) (x ∷ xs) o h = let more = below_push k xs o (omega arith) in omega (arith, more)

pub all_push : (xs : Slots) (o : Option (List ℕ)) → size_below (length xs + 1) (xs ++ o ∷ [])
    ≡ size_below (length xs) xs + size_of o
all_push xs o =
    below_more (length xs) (xs ++ o ∷ []) (omega (arith, length-append xs (o ∷ [])))
    ∙ ap₂ (λ (n : ℕ) (x : Option (List ℕ)). n + size_of x)
    (below_push (length xs) xs o (omega arith)) (last xs o)
  where
    last : (ys : Slots) (p : Option (List ℕ)) → get_or (ys ++ p ∷ []) (length ys) None ≡ p
    last [] p = refl
    last (y ∷ ys) p = last ys p

pub short_push : (xs : Slots) (o : Option (List ℕ)) → All (IsShort VERSION) xs → IsShort VERSION o
    → All (IsShort VERSION) (xs ++ o ∷ [])
short_push [] o h s = All-cons (IsShort VERSION) o [] s (All-nil (IsShort VERSION))
short_push (x ∷ xs) o h s = All-cons (IsShort VERSION) x (xs ++ o ∷ []) (h 0 None (omega arith))
    (short_push xs o (λ i d within. h (suc i) d (omega arith)) s)
