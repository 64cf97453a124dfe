-- Slots of a page: all empty, and one changed.
use Rattle.std.proofs.Common.{◌≡◌, ◌<◌, ◌≤◌, length, ℕ, zero, suc, List, [], ◌∷◌, ◌∙◌, sym, subst, arith, replicate, set, All, Option, None}
use Rattle.std.specs.Array.{AllOfLen}
use Rattle.std.proofs.lemmas.List.{same_lists, length-replicate, get_or-replicate, length-set}
use Rattle.std.proofs.lemmas.List.Elements.{All-cons}
use Rattle.ipl_base.specs.declared.limits.TheConstants.{PAGE_LEN}
use Rattle.ipl_format.specs.Page.{Slots, IsPage, IsShort, empty_page, page_text}

all_none : (n : ℕ) (xs : Slots) → AllOfLen (λ o. o ≡ None) xs n → xs ≡ replicate n None
all_none n xs h =
    same_lists xs (replicate n None) (h.long ∙ sym (length-replicate {A = Option (List ℕ)} n None))
    (λ k d below. let within : k < n = subst (λ (m : ℕ). k < m) h.long below in
    h.at k d within ∙ sym (get_or-replicate {A = Option (List ℕ)} n k None d within))

-- 64 slots with nothing are the empty page
pub is_empty : (xs : Slots) → AllOfLen (λ o. o ≡ None) xs 64 → xs ≡ empty_page
unfolding empty_page
is_empty xs h = all_none 64 xs h

-- all slots but the first
pub others_short : (version : ℕ) (o : Option (List ℕ)) (xs : Slots) → All (IsShort version) (o ∷ xs)
    → All (IsShort version) xs
others_short version o xs h = λ i d within. h (suc i) d (omega arith)

-- a page stays one when a slot is emptied, or gets a short value
pub short_set : (version : ℕ) (xs : Slots) (i : ℕ) (o : Option (List ℕ)) → IsShort version o
    → All (IsShort version) xs → All (IsShort version) (set xs i o)
short_set version [] i o s h = h
short_set version (x ∷ xs) zero o s h =
    All-cons (IsShort version) o xs s (others_short version x xs h)
short_set version (x ∷ xs) (suc i) o s h =
    All-cons (IsShort version) x (set xs i o) (h 0 None (omega arith))
    (short_set version xs i o s (others_short version x xs h))

pub page_set : (version : ℕ) (page : Slots) (slot : ℕ) (o : Option (List ℕ)) → IsShort version o
    → IsPage version page → length (page_text version (set page slot o)) ≤ PAGE_LEN
    → IsPage version (set page slot o)
page_set version page slot o s h room =
    record {
      slots = length-set page slot o ∙ h.slots;
      short = short_set version page slot o s h.short;
      fits = room;
    }
