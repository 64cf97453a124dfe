-- The pieces of a page, programmed one after another.
use Rattle.std.proofs.Common.{◌≡◌, ◌≢◌, ◌<◌, ◌≤◌, ◌+◌, ◌*◌, ◌-◌, min, ℕ, List, length, take, drop, true, false, ◌++◌, Some, None, Result, Ok, Err, IfOk, inl, inr, refl, sym, ◌∙◌, arith}
use Rattle.std.proofs.lemmas.Bool.{cases_Bool, and_parts, eqb-true, eq-eqb, cases_lt}
use Rattle.std.proofs.lemmas.List.{length-drop}
use Rattle.std.proofs.lemmas.Grind.{common_steps}
use Rattle.std.specs.Prelude.{◌==◌, ◌&&◌}
use Rattle.chip_trait.specs.Story.{Story}
use Rattle.chip_trait.specs.Lawful.{Clean, age}
use Rattle.chip_trait.specs.Chart.{with_sector}
use Rattle.chip_trait.specs.Told.{History, Told, adds_all}
use Rattle.ipl_base.specs.declared.fault.ChipFault.{ChipFault}
use Rattle.ipl_base.specs.declared.limits.TheConstants.{VERSION}
use Rattle.ipl_meaning.specs.Legible.{Legible}
use Rattle.ipl_format.specs.Sector.{Sector}
use Rattle.ipl_format.specs.Page.{Slots, IsCutInto, page_text, piece_of}
use Rattle.ipl_format.specs.Place.{base_sector_of}
use Rattle.ipl_meaning.specs.Chart.{Chart}
use Rattle.ipl_meaning.specs.Layout.{base_sector}
use Rattle.ipl_meaning.specs.Rests.{now, EachStands, StoryRests}
use Rattle.unit_io.specs.Leads.{IsSteady, Leads, RestsWith, KeepsMap}
use Rattle.unit_io.specs.Spots.{Programs, IsSpot, IsPieceSpot}
use Rattle.unit_io.specs.Charts.{Charts, Gains, HasPieces, HasPageSectors}
use Rattle.unit_io.proofs.LeadsLemmas.{leads_none, leads_then, leads_failed}
use Rattle.unit_io.proofs.SpotLemmas.{programs_none, programs_then, programs_wider}

-- ---- charts

pub pieces_none : (p u g page : ℕ) (text : List ℕ) (c : Chart) → HasPieces p u g page text 0 c c
pieces_none p u g page text c = record { here = λ i low. absurd (omega arith); others = λ q s apart. refl }

apart_at : (c : Chart) (p s : ℕ) (sector : Sector) (q t : ℕ) → (q ≡ p → t ≡ s → ⊥) → with_sector c p s sector q t ≡ c q t
apart_at c p s sector q t apart = elim (cases_Bool ((p == q) && (s == t))) [
  | inl both ↦ let parts = and_parts _ _ both in absurd (apart (sym (eqb-true _ _ parts.0)) (sym (eqb-true _ _ parts.1)))
  | inr none ↦ rw none refl
]

at_itself : (c : Chart) (p s : ℕ) (sector : Sector) → with_sector c p s sector p s ≡ Some sector
at_itself c p s sector = rw (eq-eqb p p refl, eq-eqb s s refl) refl

pub pieces_more : (p u g page : ℕ) (text : List ℕ) (n : ℕ) (c mid y : Chart) → HasPieces p u g page text n c mid
    → Gains p (base_sector_of page n) (base_sector VERSION u g page n text) mid y → HasPieces p u g page text (n + 1) c y
pieces_more p u g page text n c mid y before gains = record {
  here = λ i low. rw gains (elim (cases_Bool (i == n)) [
    | inl last ↦ let same : i ≡ n = eqb-true _ _ last in rw same (at_itself mid p (base_sector_of page n) (base_sector VERSION u g page n text))
    | inr earlier ↦
        let other : i ≢ n = λ same. false≢true' (sym earlier ∙ eq-eqb i n same) in
        apart_at mid p (base_sector_of page n) (base_sector VERSION u g page n text) p (base_sector_of page i) (λ same at. other (omega (arith, at))) ∙ before.here i (omega (arith, low, other))
  ]);
  others = λ q s apart. rw gains (apart_at mid p (base_sector_of page n) (base_sector VERSION u g page n text) q s
      (λ same at. apart same (omega (arith, at), omega (arith, at))) ∙ before.others q s (λ same is. apart same (is.0, omega (arith, is.1))));
}
  where
    false≢true' : false ≡ true → ⊥
    false≢true' e = cc

pub charts_none : (p u g page : ℕ) (text : List ℕ) (t : Told) → Charts (HasPieces p u g page text 0) t t
charts_none p u g page text t x told = (x, told, pieces_none p u g page text _)

pub charts_more : (p u g page : ℕ) (text : List ℕ) (n : ℕ) (first mid new : Told) → Charts (HasPieces p u g page text n) first mid
    → Charts (Gains p (base_sector_of page n) (base_sector VERSION u g page n text)) mid new → Charts (HasPieces p u g page text (n + 1)) first new
charts_more p u g page text n first mid new before gains x told =
    let (y, told_y, has) = before x told in
    let (z, told_z, gain) = gains y told_y in
    (z, told_z, pieces_more p u g page text n _ _ _ has gain)

-- ---- stories

-- what is asked of a place, and of a page's spots there
pub record IsOpenFor (places p page : ℕ) (m : Legible) (h : History) : Type 0 where
  pub rests : StoryRests places m h
  pub bare : now h p 0 ≡ None
  pub clean : (s : ℕ) → IsPieceSpot page 16 s → age h.story p s ≡ Clean

-- what the call for one piece says of each map and history
abbrev pub PieceSays : (places p u g page : ℕ) (text : List ℕ) (n : ℕ) (old : Told) (result : Result (Unit {0}) ChipFault) (new : Told) → Type 0
PieceSays places p u g page text n old result new = (m : Legible) (h : History) → IsSteady h old → StoryRests places m h → now h p 0 ≡ None → age h.story p (base_sector_of page n) ≡ Clean
    → KeepsMap places m (Programs p (IsSpot (base_sector_of page n))) (λ done. Gains p (base_sector_of page n) (base_sector VERSION u g page n text)) h old result new

module _ (places p u g page : ℕ) (text : List ℕ) (m : Legible) (h : History) (first : Told) where
  -- after n pieces
  abbrev pub Piled : ℕ → Told → Type 0
  Piled n t = KeepsMap {T = Unit {0}} {E = ChipFault} places m (Programs p (IsPieceSpot page n)) (λ done. HasPieces p u g page text n) h first (Ok tt) t

  pub piled_none : IsSteady h first → IsOpenFor places p page m h → Piled 0 first
  piled_none steady ready = leads_none (EachStands places m) (Programs p (IsPieceSpot page 0)) (RestsWith places m (λ done. HasPieces p u g page text 0) h) h first tt steady
      ready.rests.each (programs_none p (IsPieceSpot page 0) true) (ready.rests, pieces_none p u g page text (now h))

  module _ (ready : IsOpenFor places p page m h) (n : ℕ) (few : n < 16) (mid : Told) where
    bare_then : (k : History) → HasPieces p u g page text n (now h) (now k) → now k p 0 ≡ None
    bare_then k has = has.others p 0 (λ same is. absurd (omega (arith, is.0))) ∙ ready.bare

    clean_then : (added : Story) → Programs p (IsPieceSpot page n) true added → age (added ++ h.story) p (base_sector_of page n) ≡ Clean
    clean_then added did = did.others h.story p (base_sector_of page n) (λ same is. absurd (omega (arith, is.1))) (ready.clean (base_sector_of page n) (omega arith, omega (arith, few)))

    next : (result : Result (Unit {0}) ChipFault) (new : Told) (before : Piled n mid) → PieceSays places p u g page text n mid result new
        → KeepsMap places m (Programs p (IsSpot (base_sector_of page n))) (λ done. Gains p (base_sector_of page n) (base_sector VERSION u g page n text)) (adds_all before.added h) mid result new
    next result new before says = says m (adds_all before.added h) before.ends.0 before.ends.1.0
        (bare_then (adds_all before.added h) before.ends.1.1) (clean_then before.added before.does)

    apart_spots : (s : ℕ) → IsPieceSpot page n s → IsSpot (base_sector_of page n) s → ⊥
    apart_spots s is at = omega (arith, is.1, at)

    pub piled_more : (new : Told) → Piled n mid → PieceSays places p u g page text n mid (Ok tt) new → Piled (n + 1) new
    piled_more new before says = leads_then (EachStands places m) (Programs p (IsPieceSpot page n)) (Programs p (IsSpot (base_sector_of page n))) (Programs p (IsPieceSpot page (n + 1)))
        (RestsWith places m (λ done. HasPieces p u g page text n) h)
        (RestsWith places m (λ done. Gains p (base_sector_of page n) (base_sector VERSION u g page n text)) (adds_all before.added h))
        (RestsWith places m (λ done. HasPieces p u g page text (n + 1)) h) h tt first mid new (Ok tt) before (next (Ok tt) new before says)
        (λ a b one two. programs_then p (IsPieceSpot page n) (IsSpot (base_sector_of page n)) (IsPieceSpot page (n + 1)) true true b a apart_spots
        (λ s is. (is.0, omega (arith, is.1))) (λ s at. (omega (arith, at), omega (arith, at))) one two)
        (λ w k is. (is.0, pieces_more p u g page text n (now h) (now (adds_all before.added h)) (now k) before.ends.1.1 is.1))

    -- a piece that failed
    pub piled_fails : {U F : Type 0} (Then : U → History → Type 0) (e : ChipFault) (f : F) (new : Told) → Piled n mid → PieceSays places p u g page text n mid (Err e) new
        → Leads {T = U} {E = F} (EachStands places m) (Programs p (IsPieceSpot page 16)) Then h first (Err f) new
    piled_fails Then e f new before says =
        let both : Leads {T = Unit {0}} {E = ChipFault} (EachStands places m) (Programs p (IsPieceSpot page 16)) (λ done then. Unit {0}) h first (Err e) new =
        leads_then (EachStands places m) (Programs p (IsPieceSpot page n)) (Programs p (IsSpot (base_sector_of page n))) (Programs p (IsPieceSpot page 16))
        (RestsWith places m (λ done. HasPieces p u g page text n) h)
        (RestsWith places m (λ done. Gains p (base_sector_of page n) (base_sector VERSION u g page n text)) (adds_all before.added h))
        (λ done then. Unit {0}) h tt first mid new (Err e) before (next (Err e) new before says)
        (λ a b one two. programs_then p (IsPieceSpot page n) (IsSpot (base_sector_of page n)) (IsPieceSpot page 16) true false b a apart_spots
        (λ s is. (is.0, omega (arith, is.1, few))) (λ s at. (omega (arith, at), omega (arith, at, few))) one two)
        (λ w k is. tt) in
        leads_failed (EachStands places m) (Programs p (IsPieceSpot page 16)) (Programs p (IsPieceSpot page 16)) (λ done then. Unit {0}) Then h e f first new both (λ a one. one)

  -- all pieces
  pub piled_all : (n : ℕ) → n ≤ 16 → (t : Told) → Piled n t
      → KeepsMap {T = ℕ} {E = ChipFault} places m (Programs p (IsPieceSpot page 16)) (λ n. HasPieces p u g page text n) h first (Ok n) t
  piled_all n few t did = record {
    added = did.added;
    places = did.places;
    history = did.history;
    each_moment = did.each_moment;
    marks = did.marks;
    does = programs_wider p (IsPieceSpot page n) (IsPieceSpot page 16) true true did.added (λ s is. (is.0, omega (arith, is.1, few))) did.does;
    ends = did.ends;
  }

-- ---- pieces of a text

take_long : (n : ℕ) (l : List ℕ) → length l ≤ n → take n l ≡ l
take_long n l long = let e : n ≡ length l + (n - length l) = omega (arith, long) in grind (arith, common_steps)

pub cut_piece : (text : List ℕ) (p e : ℕ) → e ≡ min (length text) (p * 480 + 480) → 480 * p ≤ length text → take (e - p * 480) (drop (p * 480) text) ≡ piece_of text p
cut_piece text p e at within = elim (cases_lt (p * 480 + 480) (length text)) [
  | inl more ↦ let n : e - p * 480 ≡ 480 = omega (arith, at, more) in let q : p * 480 ≡ 480 * p = omega arith in rw (n, q) refl
  | inr last ↦
      let q : p * 480 ≡ 480 * p = omega arith in
      let n : length (drop (480 * p) text) ≤ e - p * 480 = rw length-drop (omega (arith, at, last)) in
      let few : length (drop (480 * p) text) ≤ 480 = rw length-drop (omega (arith, last)) in
      rw q (take_long (e - 480 * p) (drop (480 * p) text) (rw q at n) ∙ sym (take_long 480 (drop (480 * p) text) few))
]

-- the pieces of a page's text are the page
pub page_leads : (places p u g page : ℕ) (text : List ℕ) (slots : Slots) → text ≡ page_text VERSION slots → (m : Legible) (h : History) (old new : Told) (result : Result ℕ ChipFault) → IfOk result (λ n. IsCutInto text n)
    → KeepsMap places m (Programs p (IsPieceSpot page 16)) (λ n. HasPieces p u g page text n) h old result new
    → KeepsMap places m (Programs p (IsPieceSpot page 16)) (λ n. HasPageSectors p u g page slots n) h old result new
page_leads places p u g page text slots is m h old new (Ok n) cut did = record {
  added = did.added;
  places = did.places;
  history = did.history;
  each_moment = did.each_moment;
  marks = did.marks;
  does = did.does;
  ends = (did.ends.0, (did.ends.1.0, record { cut = rw (← is) cut; pieces = rw (← is) did.ends.1.1 }));
}
page_leads places p u g page text slots is m h old new (Err e) cut did = record {
  added = did.added;
  places = did.places;
  history = did.history;
  each_moment = did.each_moment;
  marks = did.marks;
  does = did.does;
  ends = tt;
}
