-- Slots of the plain model.
use Rattle.std.proofs.Common.{◌≡◌, ◌≢◌, ◌⊎◌, inl, inr, ℕ, ◌+◌, ◌<◌, ◌≤◌, List, length, map, set, get_or, Option, None, sym, ◌∙◌, ap, arith}
use Rattle.std.proofs.lemmas.Bool.{cases_eq}
use Rattle.std.proofs.lemmas.List.{get_or-map, get_or_past, length-map, map-set, get_or-set_same, get_or-set_other, ext_get_or}
use Rattle.ipl_model.specs.State.{Session}
use Rattle.ipl_model.specs.declared.plain_model.log.LoggedSession as plain
use Rattle.ipl_model.specs.Plain.{slot_of}

pub slot_read : (sessions : List (Option plain.LoggedSession)) (i : ℕ) (x : Option plain.LoggedSession) → i < length sessions → x ≡ get_or sessions i x → get_or (map slot_of sessions) i None ≡ slot_of x
slot_read sessions i x within is = get_or-map slot_of sessions i x None within ∙ ap slot_of (sym is)

-- there is no session past the last slot
pub past_slots : (sessions : List (Option plain.LoggedSession)) (q : ℕ) → length sessions ≤ q → get_or (map slot_of sessions) q None ≡ None
past_slots sessions q le =
    let past : length (map slot_of sessions) ≤ q = omega (arith, length-map sessions slot_of) in
    get_or_past (map slot_of sessions) q None past

-- ---- copies

-- one slot more is the same
pub copied_more : (into slots : List (Option plain.LoggedSession)) (i : ℕ) (x y : Option plain.LoggedSession) → length into ≡ length slots
    → i < length slots → x ≡ get_or slots i x → slot_of y ≡ slot_of x
    → ((j : ℕ) → j < i → get_or (map slot_of into) j None ≡ get_or (map slot_of slots) j None)
    → (j : ℕ) → j < i + 1 → get_or (map slot_of (set into i y)) j None ≡ get_or (map slot_of slots) j None
copied_more into slots i x y long within is same before j low =
    ap (λ (xs : List (Option Session)). get_or xs j None) (map-set slot_of into i y) ∙ by_place (cases_eq j i)
  where
    inside : i < length (map slot_of into)
    inside = omega (arith, length-map into slot_of, long, within)

    by_place : (j ≡ i) ⊎ (j ≢ i) → get_or (set (map slot_of into) i (slot_of y)) j None ≡ get_or (map slot_of slots) j None
    by_place (inl here) =
        ap (λ (k : ℕ). get_or (set (map slot_of into) i (slot_of y)) k None) here ∙ get_or-set_same (map slot_of into) i (slot_of y) None inside
        ∙ same ∙ sym (slot_read slots i x within is) ∙ ap (λ (k : ℕ). get_or (map slot_of slots) k None) (sym here)
    by_place (inr other) = get_or-set_other (map slot_of into) i j (slot_of y) None other ∙ before j (omega (arith, low, other))

pub all_copied : (into slots : List (Option plain.LoggedSession)) (i : ℕ) → length into ≡ length slots → length slots ≤ i
    → ((j : ℕ) → j < i → get_or (map slot_of into) j None ≡ get_or (map slot_of slots) j None) → map slot_of into ≡ map slot_of slots
all_copied into slots i long past same =
    ext_get_or None (map slot_of into) (map slot_of slots) (length-map into slot_of ∙ long ∙ sym (length-map slots slot_of))
    (λ j low. same j (omega (arith, low, length-map into slot_of, long, past)))
