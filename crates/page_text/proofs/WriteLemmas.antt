-- Writing a page's text, slot by slot.
use Rattle.std.proofs.Common.{◌≡◌, ◌≤◌, ◌<◌, ◌+◌, ℕ, List, ◌++◌, ◌∙◌, ap, ap₂, sym, refl, arith, length, get_or, take, drop, Some, None, length-append}
use Rattle.std.proofs.lemmas.List.{take_more, take_at, drop_at, drop-drop, take_all, length-take-le}
use Rattle.ipl_format.specs.Version.{len_bytes, len_size}
use Rattle.ipl_format.proofs.VersionLemmas.{length-len}
use Rattle.page_text.proofs.GapLemmas.{front_shorter}
use Rattle.page_text.proofs.PushLemmas.{text_push}
use Rattle.ipl_base.specs.declared.limits.TheConstants.{PAGE_LEN}
use Rattle.ipl_format.specs.Page.{Slots, IsPage, SpellsPage, page_text, slot_bytes, text_from}

-- the slots below one are written, and the rest stays
pub record Written (version : ℕ) (page : Slots) (old : List ℕ) (slot : ℕ) (out : List ℕ)
    (end_at : ℕ) : Type 0 where
  pub text : out ≡ text_from version 0 (take slot page) ++ drop end_at old
  pub size : end_at ≡ length (text_from version 0 (take slot page))

pub written_none : (version : ℕ) (page : Slots) (old : List ℕ) → Written version page old 0 old 0
unfolding text_from
written_none version page old = record { text = refl; size = refl }

pub written_more : (version : ℕ) (page : Slots) (old : List ℕ) (slot : ℕ) (out now : List ℕ)
    (from until : ℕ) → length page ≡ 64 → slot < 64
    → Written version page old slot out from
    → now ≡ take from out ++ slot_bytes version slot (get_or page slot None) ++ drop until out
    → until ≡ from + length (slot_bytes version slot (get_or page slot None))
    → Written version page old (slot + 1) now until
written_more version page old slot out now from until long below h text_is end_is =
    let front = text_from version 0 (take slot page) in
    let part = slot_bytes version slot (get_or page slot None) in
    let size = h.size in
    let within : slot < length page = omega (arith, long) in
    let count : length (take slot page) ≡ slot = length-take-le slot page (omega (arith, long)) in
    let next : text_from version 0 (take (slot + 1) page) ≡ front ++ part =
    ap (text_from version 0) (take_more page slot None within)
    ∙ (text_push version 0 (take slot page) (get_or page slot None)
    ∙ ap (λ (n : ℕ). front ++ slot_bytes version n (get_or page slot None)) (omega (arith, count)))
    in
    let kept : take from out ≡ front =
    ap (take from) h.text ∙ take_at front (drop from old) from (sym size) in
    let more : until ≡ from + length part = end_is in
    let rest : drop until out ≡ drop until old =
    ap (λ (n : ℕ). drop n out) more ∙ (sym (drop-drop (length part) from out)
    ∙ (ap (drop (length part)) (ap (drop from) h.text
    ∙ drop_at front (drop from old) from (sym size))
    ∙ (drop-drop (length part) from old ∙ ap (λ (n : ℕ). drop n old) (sym more)))) in
    record {
      text =
          text_is ∙ (ap₂ (λ (xs ys : List ℕ). xs ++ part ++ ys) kept rest
          ∙ ap (λ (xs : List ℕ). xs ++ drop until old) (sym next));
      size =
          end_is ∙ (ap (λ (n : ℕ). n + length part) size
          ∙ (sym (length-append front part) ∙ ap length (sym next)));
    }

-- all slots are written
pub record WrittenAll (version : ℕ) (page : Slots) (old out : List ℕ) (end_at : ℕ) : Type 0 where
  pub text : SpellsPage version (take end_at out) page
  pub rest : drop end_at out ≡ drop end_at old
  pub size : end_at ≡ length (page_text version page)

pub written_all : (version : ℕ) (page : Slots) (old : List ℕ) (slot : ℕ) (out : List ℕ) (end_at : ℕ)
    → IsPage version page → 64 ≤ slot → Written version page old slot out end_at
    → WrittenAll version page old out end_at
written_all version page old slot out end_at is past h =
    let long = is.slots in
    let whole : take slot page ≡ page = take_all slot page (omega (arith, long)) in
    let parts : out ≡ page_text version page ++ drop end_at old =
    h.text ∙ ap (λ (xs : Slots). text_from version 0 xs ++ drop end_at old) whole in
    let size : end_at ≡ length (page_text version page) =
    h.size ∙ ap (λ (xs : Slots). length (text_from version 0 xs)) whole in
    record {
      text =
          record {
            slots = is;
            text = ap (take end_at) parts
                ∙ take_at (page_text version page) (drop end_at old) end_at (sym size);
          };
      rest =
          ap (drop end_at) parts
          ∙ drop_at (page_text version page) (drop end_at old) end_at (sym size);
      size = size;
    }

-- how long a slot's record is
pub slot_size : (version slot : ℕ) (value : List ℕ)
    → length (slot_bytes version slot (Some value)) ≡ 1 + len_size version + length value
slot_size version slot value =
    omega (
      arith,
      length-append (len_bytes version (length value)) value,
      length-len version (length value),
    )

-- there is room for the next slot
pub next_fits : (version : ℕ) (page : Slots) (old : List ℕ) (slot : ℕ) (out : List ℕ) (end_at : ℕ)
    → IsPage version page → slot < 64 → Written version page old slot out end_at
    → end_at + length (slot_bytes version slot (get_or page slot None)) ≤ PAGE_LEN
next_fits version page old slot out end_at is below h =
    let long = is.slots in
    let fits = is.fits in
    let within : slot < length page = omega (arith, long, below) in
    let count : length (take slot page) ≡ slot = length-take-le slot page (omega (arith, within)) in
    let front = text_from version 0 (take slot page) in
    let part = slot_bytes version slot (get_or page slot None) in
    let next : text_from version 0 (take (slot + 1) page) ≡ front ++ part =
    ap (text_from version 0) (take_more page slot None within)
    ∙ (text_push version 0 (take slot page) (get_or page slot None)
    ∙ ap (λ (n : ℕ). front ++ slot_bytes version n (get_or page slot None)) (omega (arith, count)))
    in
    let less = front_shorter version 0 page (slot + 1) in
    omega (arith, less, fits, ap length next, length-append front part, h.size)
