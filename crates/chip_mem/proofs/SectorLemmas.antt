-- A write to one sector, and an erase sector by sector.
use Rattle.std.proofs.Common.{[], ◌≡◌, ◌≢◌, inl, inr, ℕ, Bool, true, false, cond, ◌+◌, ◌*◌, ◌<◌, List, ◌==◌, ◌&&◌, nat_lt, get_or, set, length, refl, sym, ◌∙◌, ap, arith, replicate, get_or-set_same, get_or-set_other, if◌then◌else◌}
use Rattle.std.proofs.Math.Path.{fun_ext}
use Rattle.std.proofs.lemmas.Bool.{cases_eq, cases_lt, lt-ltb, le-ltb, eq-eqb, ne_eqb, and_right}
use Rattle.std.proofs.lemmas.List.{get_or_default, get_or_past, get_or-replicate, length-replicate}
use Rattle.std.proofs.lemmas.Nat.{same_from_place}
use Rattle.chip_trait.specs.declared.event.Event.{Event}
use Rattle.chip_trait.specs.declared.event.Event.TheVariants.{Program, Erase}
use Rattle.chip_trait.specs.Story.{Contents, after, blank}
use Rattle.chip_mem.specs.Sectors.{HasWholeSectors, contents_of, written_at, written_contents, erased}
use Rattle.chip_mem.specs.declared.sectors.TheConstants.{BLANK}

pub blank_bytes : BLANK ≡ blank
unfolding blank
blank_bytes = refl

-- contents whose sectors stand one after another
abbrev in_turn : (ℕ → List ℕ) → Contents
in_turn sector = λ p s. if nat_lt s 256 then sector (p * 256 + s) else blank

-- one sector has other bytes
module _ (f g : ℕ → List ℕ) (p s : ℕ) (bytes : List ℕ) (small : s < 256) (here : g (p * 256 + s) ≡ bytes)
    (others : (n : ℕ) → n ≢ p * 256 + s → g n ≡ f n) where
  at_sector : (q t : ℕ) → in_turn g q t ≡ after (Program p s bytes) (in_turn f) q t
  at_sector q t = elim (cases_lt t 256) [
    | inl below ↦ elim (cases_eq p q) [
      | inl row ↦ elim (cases_eq s t) [
        | inl column ↦ rw (lt-ltb t 256 below, eq-eqb p q row, eq-eqb s t column, ← row, ← column) here
        | inr other ↦ rw (lt-ltb t 256 below, ne_eqb s t other, and_right (p == q) false refl) (others (q * 256 + t) (λ e. other (sym (same_from_place q t p s 256 below small e).1)))
      ]
      | inr other ↦ rw (lt-ltb t 256 below, ne_eqb p q other) (others (q * 256 + t) (λ e. other (sym (same_from_place q t p s 256 below small e).0)))
    ]
    | inr above ↦ let other : s ≢ t = omega arith in rw (le-ltb t 256 above, ne_eqb s t other, and_right (p == q) false refl) refl
  ]

  one_placed : in_turn g ≡ after (Program p s bytes) (in_turn f)
  one_placed = fun_ext (λ q. fun_ext (λ t. at_sector q t))

module _ (xs : List (List ℕ)) (p s : ℕ) (bytes : List ℕ) (within : p * 256 + s < length xs) (small : s < 256) where
  -- a sector is programmed
  pub contents_of-set : contents_of (set xs (p * 256 + s) bytes) ≡ after (Program p s bytes) (contents_of xs)
  contents_of-set = one_placed (λ n. get_or xs n blank) (λ n. get_or (set xs (p * 256 + s) bytes) n blank) p s bytes small
      (get_or-set_same xs (p * 256 + s) bytes blank within) (λ n other. get_or-set_other xs (p * 256 + s) n bytes blank other)

-- the contents with the first n sectors of a place erased
abbrev pub partly_erased : Contents → ℕ → ℕ → Contents
partly_erased x p n = λ q t. cond (p == q && nat_lt t n) blank (x q t)

pub none_erased : (x : Contents) (p : ℕ) → x ≡ partly_erased x p 0
none_erased x p = fun_ext (λ q. fun_ext (λ t. rw (le-ltb t 0 (omega arith), and_right (p == q) false refl) refl))

one_more : (x : Contents) (p n q t : ℕ) → cond (p == q && n == t) blank (partly_erased x p n q t) ≡ partly_erased x p (n + 1) q t
one_more x p n q t = elim (cases_eq p q) [
  | inl row ↦ elim (cases_eq n t) [
    | inl here ↦ rw (eq-eqb p q row, eq-eqb n t here, lt-ltb t (n + 1) (omega arith)) refl
    | inr other ↦ elim (cases_lt t n) [
      | inl before ↦ rw (eq-eqb p q row, ne_eqb n t other, lt-ltb t n before, lt-ltb t (n + 1) (omega arith)) refl
      | inr behind ↦ rw (eq-eqb p q row, ne_eqb n t other, le-ltb t n behind, le-ltb t (n + 1) (omega arith)) refl
    ]
  ]
  | inr other ↦ rw (ne_eqb p q other) refl
]

pub erased_more : (xs : List (List ℕ)) (x : Contents) (p n : ℕ) → p * 256 + n < length xs → n < 256 → contents_of xs ≡ partly_erased x p n → contents_of (set xs (p * 256 + n) BLANK) ≡ partly_erased x p (n + 1)
erased_more xs x p n within small so_far =
    ap (λ (b : List ℕ). contents_of (set xs (p * 256 + n) b)) blank_bytes
    ∙ contents_of-set xs p n blank within small
    ∙ ap (λ (y : Contents). after (Program p n blank) y) so_far
    ∙ fun_ext (λ q. fun_ext (λ t. one_more x p n q t))

-- all sectors of a place, the others of its numbers being blank as ever
whole : (f : ℕ → List ℕ) (p q t : ℕ) → partly_erased (in_turn f) p 256 q t ≡ after (Erase p) (in_turn f) q t
whole f p q t = elim (cases_lt t 256) [
  | inl below ↦ rw (lt-ltb t 256 below, and_true (p == q)) refl
  | inr above ↦ rw (le-ltb t 256 above, and_right (p == q) false refl) (sym (either (p == q)))
]
  where
    and_true : (b : Bool) → (b && true) ≡ b
    and_true true = refl
    and_true false = refl

    either : (b : Bool) → cond b blank blank ≡ blank
    either true = refl
    either false = refl

all_of : (x : Contents) (f : ℕ → List ℕ) (p n : ℕ) → n ≡ 256 → x ≡ partly_erased (in_turn f) p n → x ≡ after (Erase p) (in_turn f)
all_of x f p n all erased =
    erased ∙ ap (λ (k : ℕ). partly_erased (in_turn f) p k) all ∙ fun_ext (λ q. fun_ext (λ t. whole f p q t))

pub all_erased : (xs ys : List (List ℕ)) (p n : ℕ) → n ≡ 256 → contents_of xs ≡ partly_erased (contents_of ys) p n → contents_of xs ≡ after (Erase p) (contents_of ys)
all_erased xs ys p n = all_of (contents_of xs) (λ n. get_or ys n blank) p n

blank_item : (n i : ℕ) → get_or (replicate n BLANK) i blank ≡ blank
blank_item n i = elim (cases_lt i n) [
  | inl within ↦ get_or-replicate n i BLANK blank within ∙ blank_bytes
  | inr past ↦ get_or_past (replicate n BLANK) i blank (rw (length-replicate n BLANK) past)
]

blank_at : (n p s : ℕ) → contents_of (replicate n BLANK) p s ≡ blank
blank_at n p s = elim (cases_lt s 256) [
  | inl small ↦ rw (lt-ltb s 256 small) (blank_item n (p * 256 + s))
  | inr large ↦ rw (le-ltb s 256 large) refl
]

-- erased sectors are an erased chip
pub contents_of-replicate : (n : ℕ) → contents_of (replicate n BLANK) ≡ erased
contents_of-replicate n = fun_ext (λ p. fun_ext (λ s. blank_at n p s))

blank-length : length blank ≡ 512
unfolding blank
blank-length = refl

-- sectors of 512 bytes are the contents of a chip
pub contents_of-whole : (xs : List (List ℕ)) → ((i : ℕ) → i < length xs → length (get_or xs i []) ≡ 512) → HasWholeSectors (contents_of xs)
contents_of-whole xs whole p s = elim (cases_lt s 256) [
  | inl small ↦ rw (lt-ltb s 256 small) (elim (cases_lt (p * 256 + s) (length xs)) [
    | inl within ↦ rw (get_or_default xs (p * 256 + s) blank [] within) (whole (p * 256 + s) within)
    | inr past ↦ rw (get_or_past xs (p * 256 + s) blank past) blank-length
  ])
  | inr large ↦ rw (le-ltb s 256 large) blank-length
]

-- after an erase of its place a sector is blank
pub erased_there : (e : Event) (q p s : ℕ) (x : Contents) → e ≡ Erase q → q ≡ p → BLANK ≡ after e x p s
erased_there e q p s x is row = rw (is, eq-eqb q p row) blank_bytes

-- ---- of sectors of which only those count that were written

-- bytes where that is so, else an erased sector
abbrev where_so : List ℕ → Bool → List ℕ
where_so bytes so = if so then bytes else blank

module _ (ws : List Bool) (xs : List (List ℕ)) (p s : ℕ) (noted : p * 256 + s < length ws) (small : s < 256) where
  abbrev n : ℕ
  n = p * 256 + s

  -- a sector is programmed
  pub written_set : (bytes : List ℕ) → p * 256 + s < length xs
      → written_contents (set ws (p * 256 + s) true) (set xs (p * 256 + s) bytes) ≡ after (Program p s bytes) (written_contents ws xs)
  written_set bytes within = one_placed (written_at ws xs) (written_at (set ws n true) (set xs n bytes)) p s bytes small
      (ap (where_so (get_or (set xs n bytes) n blank)) (get_or-set_same ws n true false noted) ∙ get_or-set_same xs n bytes blank within)
      (λ k other. ap (where_so (get_or (set xs n bytes) k blank)) (get_or-set_other ws n k true false other)
      ∙ ap (λ (b : List ℕ). where_so b (get_or ws k false)) (get_or-set_other xs n k bytes blank other))

  -- it doesn't count as written any more
  forgotten : written_contents (set ws n false) xs ≡ after (Program p s blank) (written_contents ws xs)
  forgotten = one_placed (written_at ws xs) (written_at (set ws n false) xs) p s blank small
      (ap (where_so (get_or xs n blank)) (get_or-set_same ws n false false noted))
      (λ k other. ap (where_so (get_or xs k blank)) (get_or-set_other ws n k false false other))

  -- one more of a place that is erased
  pub forgotten_more : (x : Contents) → written_contents ws xs ≡ partly_erased x p s
      → written_contents (set ws (p * 256 + s) false) xs ≡ partly_erased x p (s + 1)
  forgotten_more x so_far =
      forgotten ∙ ap (λ (y : Contents). after (Program p s blank) y) so_far ∙ fun_ext (λ q. fun_ext (λ t. one_more x p s q t))

  -- one that wasn't written reads as an erased one
  pub unwritten : get_or ws (p * 256 + s) false ≡ false → BLANK ≡ written_contents ws xs p s
  unwritten none = rw (lt-ltb s 256 small) (blank_bytes ∙ sym (ap (where_so (get_or xs n blank)) none))

pub all_forgotten : (vs ws : List Bool) (xs : List (List ℕ)) (p n : ℕ) → n ≡ 256
    → written_contents vs xs ≡ partly_erased (written_contents ws xs) p n
    → written_contents vs xs ≡ after (Erase p) (written_contents ws xs)
all_forgotten vs ws xs p n = all_of (written_contents vs xs) (written_at ws xs) p n

none_item : (n i : ℕ) → get_or (replicate n false) i false ≡ false
none_item n i = elim (cases_lt i n) [
  | inl within ↦ get_or-replicate n i false false within
  | inr past ↦ get_or_past (replicate n false) i false (rw (length-replicate n false) past)
]

-- none was written yet
pub written_none : (n : ℕ) (xs : List (List ℕ)) → written_contents (replicate n false) xs ≡ erased
written_none n xs = fun_ext (λ p. fun_ext (λ s. elim (cases_lt s 256) [
  | inl small ↦ rw (lt-ltb s 256 small) (ap (where_so (get_or xs (p * 256 + s) blank)) (none_item n (p * 256 + s)))
  | inr large ↦ rw (le-ltb s 256 large) refl
]))
