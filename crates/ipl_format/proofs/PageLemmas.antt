-- Page texts: one reading, their length, and their pieces.
use Rattle.std.proofs.Common.{◌≡◌, ◌≤◌, ◌<◌, ◌+◌, ◌*◌, ℕ, zero, suc, List, [], ◌∷◌, ◌++◌, ◌∙◌, ap, ap₂, sym, refl, arith, length, replicate, get_or, take, drop, All, Option, Some, None, length-append, length-drop, append_assoc}
use Rattle.std.proofs.lemmas.List.{take-append-drop, drop-drop, length-replicate}
use Rattle.std.proofs.lemmas.List.Elements.{All-nil, All-cons}
use Rattle.std.proofs.Common.{◌==◌, false, ne_eqb}
use Rattle.ipl_base.specs.declared.limits.TheConstants.{SHORT_LEN, VERSION}
use Rattle.ipl_format.specs.Version.{most_len, len_bytes}
use Rattle.ipl_format.specs.Page.{SpellsPage, Slots, IsShort, empty_page, text_from, piece_of}
use Rattle.ipl_format.specs.Laws.{PagesSpellOnce, EmptyPagesSpellNothing, PagesGrow, LaterPagesAreAlike, ShortPagesHaveRoom, PiecesSayOnce}
use Rattle.ipl_format.proofs.ListLemmas.{parts_once}
use Rattle.ipl_format.proofs.VersionLemmas.{length-len, len_alike, len_parts, len_size-le, most_alike, most_len-ge}

-- a text begins with a slot from k on
pub first_from : (version k : ℕ) (xs : Slots) (a : ℕ) (t : List ℕ) → text_from version k xs ≡ a ∷ t
    → k ≤ a
unfolding text_from
first_from version k [] a t e = absurd (omega (arith, ap length e))
first_from version k (None ∷ xs) a t e = let h = first_from version (suc k) xs a t e in
    omega (arith, h)
first_from version k (Some v ∷ xs) a t e = let h : k ≡ a = ap (λ (l : List ℕ). get_or l 0 0) e in
    omega (arith, h)

-- two texts with the same first slot go on alike
pub same_parts : (version k : ℕ) (v w t u : List ℕ) → length v ≤ most_len version
    → length w ≤ most_len version
    → ◌≡◌ {A = List ℕ} (k ∷ ((len_bytes version (length v) ++ v) ++ t))
    (k ∷ ((len_bytes version (length w) ++ w) ++ u)) → (v ≡ w) × (t ≡ u)
same_parts version k v w t u low less e =
    let behind : (len_bytes version (length v) ++ v) ++ t ≡ (len_bytes version (length w) ++ w)
    ++ u = ap (λ (l : List ℕ). drop 1 l) e in
    let (size, tails) = len_parts version (length v) (length w) (v ++ t) (w ++ u) low less
    (sym (append_assoc (len_bytes version (length v)) v t) ∙ behind
    ∙ append_assoc (len_bytes version (length w)) w u) in
    parts_once v w t u size tails

later_short : (version : ℕ) (x : Option (List ℕ)) (xs : Slots) → All (IsShort version) (x ∷ xs)
    → All (IsShort version) xs
later_short version x xs each = λ i d within. each (suc i) d (omega (arith, within))

same_slots : (version k : ℕ) (xs ys : Slots) → All (IsShort version) xs → All (IsShort version) ys
    → length xs ≡ length ys
    → text_from version k xs ≡ text_from version k ys → xs ≡ ys
unfolding text_from
same_slots version k [] [] f g n e = refl
same_slots version k [] (y ∷ ys) f g n e = absurd (omega (arith, n))
same_slots version k (x ∷ xs) [] f g n e = absurd (omega (arith, n))
same_slots version k (None ∷ xs) (None ∷ ys) f g n e =
    ap (λ (zs : Slots). None ∷ zs)
    (same_slots version (suc k) xs ys (later_short version None xs f)
    (later_short version None ys g) (omega (arith, n)) e)
same_slots version k (Some v ∷ xs) (None ∷ ys) f g n e =
    let late =
    first_from version (suc k) ys k ((len_bytes version (length v) ++ v)
    ++ text_from version (suc k) xs) (sym e) in absurd (omega (arith, late))
same_slots version k (None ∷ xs) (Some w ∷ ys) f g n e =
    let late =
    first_from version (suc k) xs k ((len_bytes version (length w) ++ w)
    ++ text_from version (suc k) ys) e in absurd (omega (arith, late))
same_slots version k (Some v ∷ xs) (Some w ∷ ys) f g n e =
    let (value, tails) =
    same_parts version k v w (text_from version (suc k) xs) (text_from version (suc k) ys)
    (f 0 None (omega arith)) (g 0 None (omega arith)) e in
    ap₂ (λ (z : List ℕ) (zs : Slots). Some z ∷ zs) value
    (same_slots version (suc k) xs ys (later_short version (Some v) xs f)
    (later_short version (Some w) ys g) (omega (arith, n)) tails)

pub pages_spell_once : PagesSpellOnce
pages_spell_once version bytes p q h k =
    same_slots version 0 p q h.slots.short k.slots.short (h.slots.slots ∙ sym k.slots.slots)
    (sym h.text ∙ k.text)

-- ---- a page with nothing

short_none : (version n : ℕ) → All (IsShort version) (replicate n None)
short_none version zero = All-nil (IsShort version)
short_none version (suc n) =
    All-cons (IsShort version) None (replicate n None) tt (short_none version n)

none_text : (version k n : ℕ) → text_from version k (replicate n None) ≡ []
unfolding text_from
none_text version k zero = refl
none_text version k (suc n) = none_text version (suc k) n

pub empty_pages_spell_nothing : EmptyPagesSpellNothing
unfolding empty_page
empty_pages_spell_nothing version = record {
  slots = record {
    slots = length-replicate {A = Option (List ℕ)} 64 None;
    short = short_none version 64;
    fits = omega (arith, ap length (none_text version 0 64));
  };
  text = sym (none_text version 0 64);
}

-- ---- how long a text is

text_short : (k : ℕ) (xs : Slots) → All (IsShort 1) xs
    → length (text_from 1 k xs) ≤ (2 + SHORT_LEN) * length xs
unfolding text_from
text_short k [] each = omega arith
text_short k (None ∷ xs) each =
    let rest = text_short (suc k) xs (later_short 1 None xs each) in omega (arith, rest)
text_short k (Some v ∷ xs) each =
    let first = each 0 None (omega arith) in
    let rest = text_short (suc k) xs (later_short 1 (Some v) xs each) in
    omega (
      arith,
      first,
      rest,
      length-append (len_bytes 1 (length v) ++ v) (text_from 1 (suc k) xs),
      length-append (len_bytes 1 (length v)) v,
    )

pub short_pages_have_room : ShortPagesHaveRoom
short_pages_have_room page slots short =
    record {
      slots = slots;
      short = short;
      fits = let most = text_short 0 page short in
          omega (arith, most, slots);
    }

-- in another version each record has one byte more
text_grows : (version k : ℕ) (xs : Slots) → All (IsShort 1) xs
    → length (text_from version k xs) ≤ (3 + SHORT_LEN) * length xs
unfolding text_from
text_grows version k [] each = omega arith
text_grows version k (None ∷ xs) each =
    let rest = text_grows version (suc k) xs (later_short 1 None xs each) in omega (arith, rest)
text_grows version k (Some v ∷ xs) each =
    let first = each 0 None (omega arith) in
    let rest = text_grows version (suc k) xs (later_short 1 (Some v) xs each) in
    let len = len_bytes version (length v) in
    omega (
      arith,
      first,
      rest,
      length-append (len ++ v) (text_from version (suc k) xs),
      length-append len v,
      length-len version (length v),
      len_size-le version,
    )

wider : (version : ℕ) (xs : Slots) → All (IsShort 1) xs → All (IsShort version) xs
wider version [] each = All-nil (IsShort version)
wider version (None ∷ xs) each =
    All-cons (IsShort version) None xs tt (wider version xs (later_short 1 None xs each))
wider version (Some v ∷ xs) each =
    All-cons (IsShort version) (Some v) xs
    (let first = each 0 None (omega arith) in omega (arith, first, most_len-ge version))
    (wider version xs (later_short 1 (Some v) xs each))

pub pages_grow : PagesGrow
pages_grow version page is =
    record {
      slots = is.slots;
      short = wider version page is.short;
      fits = let most = text_grows version 0 page is.short in omega (arith, most, is.slots);
    }

-- ---- all versions but the first

text_alike : (v w k : ℕ) (xs : Slots) → (v == 1) ≡ false → (w == 1) ≡ false
    → text_from v k xs ≡ text_from w k xs
unfolding text_from
text_alike v w k [] p q = refl
text_alike v w k (None ∷ xs) p q = text_alike v w (suc k) xs p q
text_alike v w k (Some x ∷ xs) p q =
    ap₂ (λ (len t : List ℕ). k ∷ ((len ++ x) ++ t)) (len_alike v w (length x) p q)
    (text_alike v w (suc k) xs p q)

short_alike : (v w : ℕ) (xs : Slots) → (v == 1) ≡ false → (w == 1) ≡ false
    → All (IsShort v) xs → All (IsShort w) xs
short_alike v w [] p q each = All-nil (IsShort w)
short_alike v w (None ∷ xs) p q each =
    All-cons (IsShort w) None xs tt (short_alike v w xs p q (later_short v None xs each))
short_alike v w (Some x ∷ xs) p q each =
    let first = each 0 None (omega arith) in
    All-cons (IsShort w) (Some x) xs (omega (arith, first, most_alike v w p q))
    (short_alike v w xs p q (later_short v (Some x) xs each))

spells_alike : (v w : ℕ) (bytes : List ℕ) (page : Slots) → (v == 1) ≡ false → (w == 1) ≡ false
    → SpellsPage v bytes page → SpellsPage w bytes page
spells_alike v w bytes page p q h =
    let same = text_alike v w 0 page p q in
    let fits = h.slots.fits in
    record {
      slots = record {
        slots = h.slots.slots;
        short = short_alike v w page p q h.slots.short;
        fits = omega (arith, fits, ap length same);
      };
      text = h.text ∙ same;
    }

pub later_pages_are_alike : LaterPagesAreAlike
later_pages_are_alike version bytes page later =
    let other : (version == 1) ≡ false = ne_eqb version 1 later in (
      spells_alike VERSION version bytes page refl other,
      spells_alike version VERSION bytes page other refl,
    )

-- ---- pieces

pieces_once : (n : ℕ) (a b : List ℕ) → length a ≤ 480 * n → length b ≤ 480 * n → ((i : ℕ) → i < n → piece_of a i ≡ piece_of b i) → a ≡ b
pieces_once zero [] [] low less same = refl
pieces_once zero (k ∷ a) b low less same = absurd (omega (arith, low))
pieces_once zero [] (k ∷ b) low less same = absurd (omega (arith, less))
pieces_once (suc n) a b low less same =
    let front : take 480 a ≡ take 480 b = same 0 (omega arith) in
    let back : drop 480 a ≡ drop 480 b = pieces_once n (drop 480 a) (drop 480 b)
    (omega (arith, low, length-drop 480 a)) (omega (arith, less, length-drop 480 b))
    (λ i within. later a i ∙ same (suc i) (omega (arith, within)) ∙ sym (later b i)) in
    sym (take-append-drop 480 a) ∙ ap₂ (λ (x y : List ℕ). x ++ y) front back ∙ take-append-drop 480 b
  where
    later : (t : List ℕ) (i : ℕ) → piece_of (drop 480 t) i ≡ piece_of t (suc i)
    later t i = ap (λ (l : List ℕ). take 480 l) (drop-drop (480 * i) 480 t ∙ ap (λ (k : ℕ). drop k t) (let e : 480 + 480 * i ≡ 480 * suc i = omega arith in e))

pub pieces_say_once : PiecesSayOnce
pieces_say_once n a b one other same = pieces_once n a b one.enough other.enough same
