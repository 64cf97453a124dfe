-- A page that is held, and the faults of its pieces.
use Rattle.std.proofs.Common.{◌≡◌, ◌≤◌, ◌<◌, ◌+◌, ◌*◌, ◌-◌, min, ℕ, zero, suc, Bool, true, false, cond, eqb, List, ◌++◌, Some, None, Option, inl, inr, refl, sym, ◌∙◌, ap, ap₂, subst, arith, length, take, drop, length-drop, length-append}
use Rattle.std.specs.Option.{option_or}
use Rattle.std.proofs.lemmas.Bool.{cases_Bool, cases_lt, eqb-true, eq-eqb, ne_eqb, ltb-true, lt-ltb, false≢true}
use Rattle.std.proofs.lemmas.List.{length-take, take_all, take-append-le, drop-append-le}
use Rattle.std.proofs.Math.Seq.{take-add, drop-append_seam}
use Rattle.chip_trait.specs.Story.{Contents}
use Rattle.ipl_base.specs.declared.fault.ChipFault.{ChipFault}
use Rattle.ipl_base.specs.declared.fault.ChipFault.TheVariants.{Malformed}
use Rattle.ipl_format.specs.Sector.{Sector, used_length, said_in, sector_in}
use Rattle.ipl_format.specs.Page.{Slots, SpellsPage, IsPageText, IsCutInto, page_text, piece_of}
use Rattle.ipl_format.specs.Place.{base_sector_of}
use Rattle.ipl_format.proofs.ListLemmas.{both_true}
use Rattle.ipl_format.proofs.SectorOnceLemmas.{formed_facts, said_parts}
use Rattle.ipl_meaning.specs.Chart.{Chart, chart_of}
use Rattle.ipl_meaning.specs.Layout.{base_sector}
use Rattle.ipl_base.specs.First.{first_below}
use Rattle.unit_io.specs.Faults.{is_filled, is_piece, piece_fault_at, payload_of, text_below, is_page_text, text_fault, page_fault, HoldsPage}
use Rattle.unit_io.specs.Laws.{SoundPagesAreHeld, HeldPagesReadWell}
use Rattle.unit_io.proofs.FaultLemmas.{no_fault, said_fault}
use Rattle.ipl_base.proofs.FirstLemmas.{first_none, or_none, none_before}
use Rattle.unit_io.proofs.TextLemmas.{tests_text}

-- ---- one piece

-- a base sector with this payload
base_with : ℕ → ℕ → ℕ → ℕ → List ℕ → Sector
base_with v u g serial payload = record { kind = 4; version = v; unit = u; generation = g; serial = serial; payload = payload }

-- the sector is that piece
pub record IsPiece (o : Option Sector) (v u g serial : ℕ) (last : Bool) : Type 0 where
  pub payload : List ℕ
  pub here : o ≡ Some (record { kind = 4; version = v; unit = u; generation = g; serial = serial; payload = payload })
  pub short : length payload ≤ 480
  pub filled : is_filled last (length payload) ≡ true

same_base : (k w a b n v u g serial : ℕ) (payload : List ℕ) → k ≡ 4 → w ≡ v → a ≡ u → b ≡ g → n ≡ serial
    → Some (let s : Sector = record { kind = k; version = w; unit = a; generation = b; serial = n; payload = payload } in s)
    ≡ Some (record { kind = 4; version = v; unit = u; generation = g; serial = serial; payload = payload })
same_base k w a b n v u g serial payload ek ev ea eb en = rw (ek, ev, ea, eb, en) refl

short_of : (bytes : List ℕ) (s : Sector) → sector_in bytes ≡ Some s → length s.payload ≤ 480
unfolding said_in
short_of bytes s said =
    let parts = said_parts bytes s said in
    let size : length (take (used_length bytes) (drop 32 bytes)) ≡ length s.payload = ap (λ (t : Sector). length t.payload) parts.2 in
    omega (arith, sym size, length-take (used_length bytes) (drop 32 bytes), (formed_facts bytes parts.0).short)

pub piece_in : (bytes : List ℕ) (o : Option Sector) (v u g serial : ℕ) (last : Bool) → sector_in bytes ≡ o → is_piece v u g serial last o ≡ true → IsPiece o v u g serial last
piece_in bytes None v u g serial last said test = absurd (false≢true test)
piece_in bytes (Some s) v u g serial last said test =
    let both = both_true _ _ test in
    let numbers = both_true _ _ both.0 in
    let three = both_true _ _ numbers.0 in
    let two = both_true _ _ three.0 in
    let one = both_true _ _ two.0 in record {
      payload = s.payload;
      here = same_base s.kind s.version s.unit s.generation s.serial v u g serial s.payload (eqb-true _ _ one.0) (eqb-true _ _ one.1) (eqb-true _ _ two.1)
          (eqb-true _ _ three.1) (eqb-true _ _ numbers.1);
      short = short_of bytes s said;
      filled = both.1;
    }

-- ---- the pieces of a text in two parts

-- a piece of a front is one of the whole
pub piece_of_front : (n i : ℕ) (front back : List ℕ) → length front ≡ 480 * n → i < n
    → piece_of (front ++ back) i ≡ piece_of front i
piece_of_front n i front back long earlier =
    ap (take 480) (drop-append-le (480 * i) front back (omega (arith, long, earlier)))
    ∙ take-append-le 480 (drop (480 * i) front) back (omega (arith, length-drop (480 * i) front, long, earlier))

-- and what follows it is the next one
pub piece_behind : (n : ℕ) (front back : List ℕ) → length front ≡ 480 * n → length back ≤ 480
    → piece_of (front ++ back) n ≡ back
piece_behind n front back long short =
    ap (λ (k : ℕ). take 480 (drop k (front ++ back))) (sym long)
    ∙ (ap (take 480) (drop-append_seam front back) ∙ take_all 480 back short)

-- ---- the text of sound pieces

module _ (c : Chart) (place v u g page pieces : ℕ) where
  abbrev pub ArePieces : ℕ → Type 0
  ArePieces n = (i : ℕ) → i < n → IsPiece (c place (base_sector_of page i)) v u g (page * 16 + i) (eqb (i + 1) pieces)

  fewer : (n : ℕ) → ArePieces (suc n) → ArePieces n
  fewer n each i low = each i (omega (arith, low))

  size_of : (n : ℕ) → (it : IsPiece (c place (base_sector_of page n)) v u g (page * 16 + n) (eqb (n + 1) pieces)) → length (payload_of (c place (base_sector_of page n))) ≡ length it.payload
  size_of n it = ap (λ (o : Option Sector). length (payload_of o)) it.here

  full : (n : ℕ) → n + 1 < pieces → (it : IsPiece (c place (base_sector_of page n)) v u g (page * 16 + n) (eqb (n + 1) pieces)) → length it.payload ≡ 480
  full n few it =
      let other : eqb (n + 1) pieces ≡ false = ne_eqb (n + 1) pieces (λ e. omega (arith, few, e)) in
      eqb-true _ _ (subst (λ (b : Bool). is_filled b (length it.payload) ≡ true) other it.filled)

  some : (n : ℕ) → n + 1 ≡ pieces → (it : IsPiece (c place (base_sector_of page n)) v u g (page * 16 + n) (eqb (n + 1) pieces)) → 0 < length it.payload
  some n is it =
      ltb-true _ _ (subst (λ (b : Bool). is_filled b (length it.payload) ≡ true) (eq-eqb (n + 1) pieces is) it.filled)

  length_below : (n : ℕ) → ArePieces n → n < pieces → length (text_below c place page n) ≡ 480 * n
  length_below zero each few = refl
  length_below (suc n) each few =
      let it = each n (omega arith) in
      omega (
        arith,
        length-append (text_below c place page n) (payload_of (c place (base_sector_of page n))),
        length_below n (fewer n each) (omega (arith, few)),
        size_of n it,
        full n (omega (arith, few)) it,
      )

  cut_below : (n : ℕ) → ArePieces n → n ≡ pieces → IsCutInto (text_below c place page n) n
  cut_below zero each is = record { enough = omega arith; needed = omega arith }
  cut_below (suc n) each is =
      let it = each n (omega arith) in
      let size : length (text_below c place page n ++ payload_of (c place (base_sector_of page n))) ≡ 480 * n + length it.payload =
      omega (arith, length-append (text_below c place page n) (payload_of (c place (base_sector_of page n))), length_below n (fewer n each) (omega (arith, is)), size_of n it) in
      record { enough = omega (arith, size, it.short); needed = omega (arith, size, some n (omega (arith, is)) it) }

  piece_below : (n : ℕ) → ArePieces n → n ≤ pieces → (i : ℕ) → i < n → piece_of (text_below c place page n) i ≡ payload_of (c place (base_sector_of page i))
  piece_below zero each few i low = absurd (omega arith)
  piece_below (suc n) each few i low =
      let it = each n (omega arith) in
      let front : List ℕ = text_below c place page n in
      let back : List ℕ = payload_of (c place (base_sector_of page n)) in
      let long : length front ≡ 480 * n = length_below n (fewer n each) (omega (arith, few)) in
      let size : length back ≤ 480 = omega (arith, size_of n it, it.short) in
      elim (cases_lt i n) [
        | inl earlier ↦ piece_of_front n i front back long earlier ∙ piece_below n (fewer n each) (omega (arith, few)) i earlier
        | inr last ↦
            let same : i ≡ n = omega (arith, low, last) in
            ap (λ (k : ℕ). piece_of (front ++ back) k) same ∙ piece_behind n front back long size
            ∙ ap (λ (k : ℕ). payload_of (c place (base_sector_of page k))) (sym same)
      ]

  -- so the page is held whose text it is
  pub held : (slots : Slots) → ArePieces pieces → SpellsPage v (text_below c place page pieces) slots → HoldsPage c place v u g page pieces slots
  held slots each spelled = record {
    fits = spelled.slots;
    cut = subst (λ (t : List ℕ). IsCutInto t pieces) spelled.text (cut_below pieces each refl);
    here = λ i low.
        let it = each i low in
        let payload : it.payload ≡ piece_of (page_text v slots) i =
        sym (ap payload_of it.here) ∙ (sym (piece_below pieces each (omega arith) i low) ∙ ap (λ (t : List ℕ). piece_of t i) spelled.text) in
        it.here ∙ ap (λ (p : List ℕ). Some (let s : Sector = record { kind = 4; version = v; unit = u; generation = g; serial = page * 16 + i; payload = p } in s)) payload;
  }

-- ---- no fault

module _ (x : Contents) (place v u g page pieces : ℕ) where
  pub sound_pieces : (n : ℕ) → first_below (piece_fault_at x place v u g page pieces) n ≡ None → ArePieces (chart_of x) place v u g page pieces n
  sound_pieces n none i low =
      piece_in (x place (base_sector_of page i)) (sector_in (x place (base_sector_of page i))) v u g (page * 16 + i) (eqb (i + 1) pieces) refl
      (no_fault place (base_sector_of page i) v u g (page * 16 + i) (eqb (i + 1) pieces) (x place (base_sector_of page i))
      (none_before (piece_fault_at x place v u g page pieces) n none i low))

  pub sound_held : (slots : Slots) → first_below (piece_fault_at x place v u g page pieces) pieces ≡ None
      → SpellsPage v (text_below (chart_of x) place page pieces) slots → HoldsPage (chart_of x) place v u g page pieces slots
  sound_held slots none spelled = held (chart_of x) place v u g page pieces slots (sound_pieces pieces none) spelled

  -- the fault of the page, by its two parts
  pub fault_of_pieces : (e : ChipFault) → first_below (piece_fault_at x place v u g page pieces) pieces ≡ Some e → page_fault x place v u g page pieces ≡ Some e
  unfolding page_fault
  fault_of_pieces e found = ap (λ (o : Option ChipFault). option_or o (text_fault place v page (text_below (chart_of x) place page pieces))) found

  by_text : (b : Bool) → first_below (piece_fault_at x place v u g page pieces) pieces ≡ None → is_page_text v (text_below (chart_of x) place page pieces) ≡ b
      → page_fault x place v u g page pieces ≡ cond b None (Some (Malformed place (base_sector_of page 0)))
  unfolding page_fault
  by_text b none test =
      ap (λ (o : Option ChipFault). option_or o (text_fault place v page (text_below (chart_of x) place page pieces))) none
      ∙ ap (λ (t : Bool). cond t None (Some (Malformed place (base_sector_of page 0)))) test

  pub no_page_fault : first_below (piece_fault_at x place v u g page pieces) pieces ≡ None → IsPageText v (text_below (chart_of x) place page pieces)
      → page_fault x place v u g page pieces ≡ None
  no_page_fault none text = by_text true none ((tests_text v (text_below (chart_of x) place page pieces)).1 text)

  pub fault_of_text : first_below (piece_fault_at x place v u g page pieces) pieces ≡ None → (IsPageText v (text_below (chart_of x) place page pieces) → ⊥)
      → page_fault x place v u g page pieces ≡ Some (Malformed place (base_sector_of page 0))
  fault_of_text none other = elim (cases_Bool (is_page_text v (text_below (chart_of x) place page pieces))) [
    | inl is ↦ absurd (other ((tests_text v (text_below (chart_of x) place page pieces)).0 is))
    | inr not_text ↦ by_text false none not_text
  ]

  parts_of : page_fault x place v u g page pieces ≡ None
      → (first_below (piece_fault_at x place v u g page pieces) pieces ≡ None) × (text_fault place v page (text_below (chart_of x) place page pieces) ≡ None)
  unfolding page_fault
  parts_of none = (
    (or_none (first_below (piece_fault_at x place v u g page pieces) pieces) (text_fault place v page (text_below (chart_of x) place page pieces)) none).0,
    (or_none (first_below (piece_fault_at x place v u g page pieces) pieces) (text_fault place v page (text_below (chart_of x) place page pieces)) none).1,
  )

  text_of : text_fault place v page (text_below (chart_of x) place page pieces) ≡ None → IsPageText v (text_below (chart_of x) place page pieces)
  text_of none = elim (cases_Bool (is_page_text v (text_below (chart_of x) place page pieces))) [
    | inl is ↦ (tests_text v (text_below (chart_of x) place page pieces)).0 is
    | inr other ↦ absurd (some_none (sym (ap (λ (t : Bool). cond t None (Some (Malformed place (base_sector_of page 0)))) other) ∙ none))
  ]
    where
      some_none : {X : Type 0} {v : X} → Some v ≡ None → ⊥
      some_none e = cc

  sound_page : page_fault x place v u g page pieces ≡ None → (slots : Slots) × HoldsPage (chart_of x) place v u g page pieces slots
  sound_page none =
      let parts = parts_of none in
      let (slots, spelled) = text_of parts.1 in
      (slots, sound_held slots parts.0 spelled)

  -- ---- and the other way round

  module _ (slots : Slots) (it : HoldsPage (chart_of x) place v u g page pieces slots) where
    text_is : (n : ℕ) → n ≤ pieces → text_below (chart_of x) place page n ≡ take (480 * n) (page_text v slots)
    text_is zero few = refl
    text_is (suc n) few =
        ap₂ (λ (s t : List ℕ). s ++ t) (text_is n (omega (arith, few))) (ap payload_of (it.here n (omega (arith, few))))
        ∙ (sym (take-add (480 * n) 480 (page_text v slots)) ∙ ap (λ (k : ℕ). take k (page_text v slots)) (omega arith))

    filled_piece : (i : ℕ) → i < pieces → is_filled (eqb (i + 1) pieces) (length (piece_of (page_text v slots) i)) ≡ true
    filled_piece i low =
        let size : length (piece_of (page_text v slots) i) ≡ min 480 (length (page_text v slots) - 480 * i) =
        length-take 480 (drop (480 * i) (page_text v slots)) ∙ ap (min 480) (length-drop (480 * i) (page_text v slots)) in
        elim (cases_Bool (eqb (i + 1) pieces)) [
          | inl last ↦ rw last (lt-ltb 0 (length (piece_of (page_text v slots) i)) (omega (arith, size, it.cut.needed, eqb-true _ _ last)))
          | inr other ↦
              let apart : i + 1 ≡ pieces → ⊥ = λ e. false≢true (sym other ∙ eq-eqb (i + 1) pieces e) in
              rw other (eq-eqb (length (piece_of (page_text v slots) i)) 480 (omega (arith, size, it.cut.needed, apart, low)))
        ]

    sound_piece : (i : ℕ) → i < pieces → piece_fault_at x place v u g page pieces i ≡ None
    sound_piece i low =
        said_fault place (base_sector_of page i) v u g (page * 16 + i) (eqb (i + 1) pieces) (x place (base_sector_of page i)) (base_sector v u g page i (page_text v slots)) true
        (it.here i low) (sym (rw (eq-eqb v v refl, eq-eqb u u refl, eq-eqb g g refl, eq-eqb (page * 16 + i) (page * 16 + i) refl) (filled_piece i low)))

    -- what its base sectors hold is the text of the page
    pub spells_text : SpellsPage v (text_below (chart_of x) place page pieces) slots
    spells_text = record {
      slots = it.fits;
      text = text_is pieces (omega arith) ∙ take_all (480 * pieces) (page_text v slots) it.cut.enough;
    }

    held_sound : page_fault x place v u g page pieces ≡ None
    held_sound =
        no_page_fault (first_none (piece_fault_at x place v u g page pieces) pieces sound_piece)
        (slots, spells_text)

pub sound_pages_are_held : SoundPagesAreHeld
sound_pages_are_held x place v u g page pieces = (sound_page x place v u g page pieces, λ (slots, it). held_sound x place v u g page pieces slots it)

pub held_pages_read_well : HeldPagesReadWell
held_pages_read_well c u it page slots = (
  λ h. record { fits = h.fits; cut = h.cut; here = h.here },
  λ r. record { fits = r.fits; cut = r.cut; here = r.here },
)
