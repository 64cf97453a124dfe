-- What bytes say, by the tests that a decoder makes.
use Rattle.std.proofs.Common.{◌≡◌, ◌≢◌, ◌≤◌, ℕ, Bool, true, false, cond, eqb, List, Some, None, ◌∙◌, ap, ap₂, sym, refl, inl, inr, arith, length, drop, take, length-drop}
use Rattle.std.specs.Prelude.{◌&&◌}
use Rattle.std.proofs.lemmas.Bool.{eq-eqb, cases_Bool, eqb-true}
use Rattle.std.proofs.lemmas.List.{length-take-le}
use Rattle.std.proofs.lemmas.Option.{none-some}
use Rattle.chip_trait.specs.Story.{blank}
use Rattle.ipl_format.specs.Sector.{Sector as SaidSector, is_formed, used_length, stored_sum, computed_sum, said_in, sector_in}
use Rattle.ipl_format.proofs.SectorLemmas.{blank_says_nothing}
use Rattle.ipl_format.proofs.SectorOnceLemmas.{formed_facts}
use Rattle.sector_format.specs.declared.sector.Head.{Head}
use Rattle.sector_format.specs.declared.sector.Decoded.TheVariants.{Erased, Bad, Strange, Sector}
use Rattle.sector_format.specs.Decode.{head_in, sector_of}
use Rattle.sector_format.specs.Laws.{ReadsBack}

pub erased_says_nothing : (bytes : List ℕ) → bytes ≡ blank → sector_in bytes ≡ None
erased_says_nothing bytes e = ap sector_in e ∙ blank_says_nothing

unequal : (a b : ℕ) → a ≢ b → eqb a b ≡ false
unequal a b apart = elim (cases_Bool (eqb a b)) [
  | inl same ↦ absurd (apart (eqb-true a b same))
  | inr other ↦ other
]

tested : (bytes : List ℕ) (a b : Bool) → is_formed bytes ≡ a → eqb (stored_sum bytes) (computed_sum bytes) ≡ b
    → sector_in bytes ≡ cond (a && b) (Some (said_in bytes)) None
unfolding sector_in
tested bytes a b p q = ap₂ (λ (x y : Bool). cond (x && y) (Some (said_in bytes)) None) p q

and_false : (a : Bool) → (a && false) ≡ false
and_false true = refl
and_false false = refl

pub bad_says_nothing : (bytes : List ℕ) → stored_sum bytes ≢ computed_sum bytes → sector_in bytes ≡ None
bad_says_nothing bytes apart =
    tested bytes (is_formed bytes) false refl (unequal (stored_sum bytes) (computed_sum bytes) apart)
    ∙ ap (λ (x : Bool). cond x (Some (said_in bytes)) None) (and_false (is_formed bytes))

pub strange_says_nothing : (bytes : List ℕ) → is_formed bytes ≡ false → sector_in bytes ≡ None
strange_says_nothing bytes e = tested bytes false (eqb (stored_sum bytes) (computed_sum bytes)) e refl

said_is : (bytes : List ℕ) → is_formed bytes ≡ true → said_in bytes ≡ sector_of (head_in bytes) (take (used_length bytes) (drop 32 bytes))
unfolding said_in
said_is bytes formed = refl

-- a sector that checks is said
pub formed_is_said : (bytes : List ℕ) (head : Head) (used : ℕ) → is_formed bytes ≡ true → stored_sum bytes ≡ computed_sum bytes → head ≡ head_in bytes
    → used ≡ used_length bytes → sector_in bytes ≡ Some (sector_of head (take used (drop 32 bytes)))
formed_is_said bytes head used formed sums head_is used_is =
    tested bytes true true formed (eq-eqb (stored_sum bytes) (computed_sum bytes) sums)
    ∙ (ap (λ (s : SaidSector). Some s) (said_is bytes formed)
    ∙ ap₂ (λ (h : Head) (n : ℕ). Some (sector_of h (take n (drop 32 bytes)))) (sym head_is) (sym used_is))

pub formed_is_short : (bytes : List ℕ) (used : ℕ) → is_formed bytes ≡ true → used ≡ used_length bytes → used ≤ 480
formed_is_short bytes used formed e = let short = (formed_facts bytes formed).short in omega (arith, short, e)

-- ---- what was written is read

same_head : (head h : Head) (payload q : List ℕ) → sector_of head payload ≡ sector_of h q → h ≡ head
same_head head h payload q e =
    ap (λ (s : SaidSector). let x : Head = record {
      kind = s.kind;
      version = s.version;
      unit = s.unit;
      generation = s.generation;
      serial = s.serial;
    } in x) (sym e)

some_once : (s t : SaidSector) → Some s ≡ Some t → s ≡ t
some_once s t e = cc e

pub reads_back : ReadsBack
reads_back bytes head payload Erased whole said same decoded = absurd (none-some (sector_of head payload) (sym same ∙ said))
reads_back bytes head payload (Bad stored computed) whole said same decoded = absurd (none-some (sector_of head payload) (sym same ∙ said))
reads_back bytes head payload Strange whole said same decoded = absurd (none-some (sector_of head payload) (sym same ∙ said))
reads_back bytes head payload (Sector h used) whole said same short =
    let equal = some_once (sector_of head payload) (sector_of h (take used (drop 32 bytes))) (sym said ∙ same) in
    let text : take used (drop 32 bytes) ≡ payload = ap (λ (s : SaidSector). s.payload) (sym equal) in
    let size : used ≡ length payload = sym (length-take-le used (drop 32 bytes) (omega (arith, length-drop 32 bytes, whole, short))) ∙ ap length text in (
      ap₂ (λ (x : Head) (n : ℕ). Sector x n) (same_head head h payload (take used (drop 32 bytes)) equal) size,
      ap (λ (n : ℕ). take n (drop 32 bytes)) (sym size) ∙ text,
    )
