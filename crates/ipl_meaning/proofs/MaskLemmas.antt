-- What the masks of log sectors say of their records.
use Rattle.std.proofs.Common.{◌≡◌, ℕ, zero, suc, ◌^◌, ◌==◌, ◌||◌, Bool, true, false, List, [], ◌∷◌, ◌++◌, map, Option, inl, inr, refl, sym, ◌∙◌, ap, ap₂, arith}
use Rattle.std.specs.List.{Contains}
use Rattle.std.specs.Int.{bit_at}
use Rattle.std.proofs.lemmas.Bool.{cases_Bool, cases_eq, eqb-true, eq-eqb, ne_eqb, and_parts, or_parts}
use Rattle.std.proofs.lemmas.Nat.Bits.{bit_at_or, bit_at-zero, bit_at-pow_same, bit_at-pow_other, bit_at-lt}
use Rattle.ipl_format.specs.Record.{Record}
use Rattle.ipl_meaning.specs.Values.{counts_for, after_records}
use Rattle.ipl_meaning.specs.Last.{last_that}
use Rattle.ipl_meaning.specs.Layout.{Entry, records_of}
use Rattle.ipl_meaning.specs.Masks.{with_page, has_page, mask_after, mask_of, names_page, stands_at, mask_at, is_of_page, of_page}

-- ---- the pages of a mask

with_page_has : (mask page own : ℕ) → has_page (with_page mask own) page ≡ ((own == page) || has_page mask page)
with_page_has mask page own = elim (cases_eq own page) [
  | inl same ↦
      let high : bit_at (2 ^ own) page ≡ 1 = ap (bit_at (2 ^ own)) (sym same) ∙ bit_at-pow_same own in
      let one : bit_at (with_page mask own) page ≡ 1 =
      omega (arith, bit_at_or mask (2 ^ own) page, high, bit_at-lt mask page) in
      rw (eq-eqb own page same) (ap (λ (b : ℕ). b == 1) one)
  | inr apart ↦
      let low : bit_at (2 ^ own) page ≡ 0 = bit_at-pow_other own page (λ is. apart (sym is)) in
      let still : bit_at (with_page mask own) page ≡ bit_at mask page =
      omega (arith, bit_at_or mask (2 ^ own) page, low) in
      rw (ne_eqb own page apart) (ap (λ (b : ℕ). b == 1) still)
]

or_moves : (a b c : Bool) → (a || (b || c)) ≡ ((b || a) || c)
or_moves false false c = refl
or_moves false true c = refl
or_moves true false c = refl
or_moves true true c = refl

or_true_end : (a : Bool) → (a || true) ≡ true
or_true_end false = refl
or_true_end true = refl

after_has : (records : List Record) (mask page : ℕ)
    → has_page (mask_after mask records) page ≡ (names_page page records || has_page mask page)
after_has [] mask page = refl
after_has (r ∷ records) mask page =
    after_has records (with_page mask r.page) page
    ∙ ap (λ (b : Bool). names_page page records || b) (with_page_has mask page r.page)
    ∙ or_moves (names_page page records) (r.page == page) (has_page mask page)

none_has : (page : ℕ) → has_page 0 page ≡ false
none_has page = ap (λ (b : ℕ). b == 1) (bit_at-zero page)

or_none : (a : Bool) → (a || false) ≡ a
or_none false = refl
or_none true = refl

-- a mask has exactly the pages that its records name
pub masks_tell : (records : List Record) (page : ℕ) → has_page (mask_of records) page ≡ names_page page records
masks_tell records page =
    after_has records 0 page ∙ ap (λ (b : Bool). names_page page records || b) (none_has page) ∙ or_none (names_page page records)

-- ---- the mask of a spot

-- none of the log's entries stands there
abbrev pub NoneStands : List Entry → ℕ → ℕ → Type 0
NoneStands log p s = (e : Entry) → Contains log e → stands_at e p s ≡ false

tail_none : (e : Entry) (log : List Entry) (p s : ℕ) → NoneStands (e ∷ log) p s → NoneStands log p s
tail_none e log p s none = λ f (k, within, is). none f (suc k, omega (arith, within), is)

pub no_mask : (log : List Entry) (p s : ℕ) → NoneStands log p s → mask_at log p s ≡ 0
no_mask [] p s none = refl
no_mask (e ∷ log) p s none = rw (none e (0, omega arith, refl)) (no_mask log p s (tail_none e log p s none))

pub mask_of_new : (log : List Entry) (e : Entry) (p s : ℕ) → NoneStands log p s → stands_at e p s ≡ true
    → mask_at (log ++ e ∷ []) p s ≡ mask_of e.records
mask_of_new [] e p s none is = rw is refl
mask_of_new (f ∷ log) e p s none is =
    rw (none f (0, omega arith, refl)) (mask_of_new log e p s (tail_none f log p s none) is)

pub mask_of_others : (log : List Entry) (e : Entry) (p s : ℕ) → stands_at e p s ≡ false
    → mask_at (log ++ e ∷ []) p s ≡ mask_at log p s
mask_of_others [] e p s apart = rw apart refl
mask_of_others (f ∷ log) e p s apart = elim (cases_Bool (stands_at f p s)) [
  | inl here ↦ rw here refl
  | inr away ↦ rw away (mask_of_others log e p s apart)
]

pub stands_there : (e : Entry) (p s : ℕ) → stands_at e p s ≡ true → (e.place ≡ p) × (e.number ≡ s)
stands_there e p s is = let both = and_parts (e.place == p) (e.number == s) is in
    (eqb-true e.place p both.0, eqb-true e.number s both.1)

pub stands_here : (e : Entry) (p s : ℕ) → e.place ≡ p → e.number ≡ s → stands_at e p s ≡ true
stands_here e p s place number = rw (eq-eqb e.place p place, eq-eqb e.number s number) refl

pub stands_away : (e : Entry) (p s : ℕ) → ((e.place ≡ p) → (e.number ≡ s) → ⊥) → stands_at e p s ≡ false
stands_away e p s apart = elim (cases_Bool (stands_at e p s)) [
  | inl is ↦ let there = stands_there e p s is in absurd (apart there.0 there.1)
  | inr is ↦ is
]

-- a mask that has a page is that of a log sector with a record of the page
pub record IsOf (log : List Entry) (page p s : ℕ) : Type 0 where
  pub entry : Entry
  pub has : Contains log entry
  pub place : entry.place ≡ p
  pub number : entry.number ≡ s
  pub of_page : is_of_page page entry ≡ true

pub mask_names : (log : List Entry) (page p s : ℕ) → has_page (mask_at log p s) page ≡ true → IsOf log page p s
mask_names [] page p s told = absurd (let none = none_has page in cc (told, none))
mask_names (e ∷ log) page p s told = elim (cases_Bool (stands_at e p s)) [
  | inl here ↦
      let there = stands_there e p s here in
      record {
        entry = e;
        has = (0, omega arith, refl);
        place = there.0;
        number = there.1;
        of_page = sym (masks_tell e.records page) ∙ rw here at told;
      }
  | inr away ↦
      let later = mask_names log page p s (rw away at told) in
      record {
        entry = later.entry;
        has = let at = later.has in (suc at.0, let within = at.1 in omega (arith, within), at.2);
        place = later.place;
        number = later.number;
        of_page = later.of_page;
      }
]

-- no two entries of the log stand at one spot
abbrev pub StandApart : List Entry → Type 0
StandApart log = (e f : Entry) → Contains log e → Contains log f → e.place ≡ f.place → e.number ≡ f.number → e ≡ f

-- the mask of an entry's spot is that of its records
pub own_mask : (log : List Entry) (e : Entry) → StandApart log → Contains log e
    → mask_at log e.place e.number ≡ mask_of e.records
own_mask log e apart has = go log has (λ f is. is)
  where
    go : (rest : List Entry) → Contains rest e → ((f : Entry) → Contains rest f → Contains log f)
        → mask_at rest e.place e.number ≡ mask_of e.records
    go [] has sub = absurd (let within = has.1 in omega (arith, within))
    go (f ∷ rest) has sub = elim (cases_Bool (stands_at f e.place e.number)) [
      | inl here ↦
          let there = stands_there f e.place e.number here in
          let same : f ≡ e =
          apart f e (sub f (0, omega arith, refl)) (sub e has) there.0 there.1 in
          rw here (ap (λ (x : Entry). mask_of x.records) same)
      | inr away ↦ rw away (go rest (later f rest has away)
          (λ x (k, within, is). sub x (suc k, omega (arith, within), is)))
    ]
      where
        later : (f : Entry) (rest : List Entry) → Contains (f ∷ rest) e → stands_at f e.place e.number ≡ false
            → Contains rest e
        later f rest (zero, _, is) away =
            absurd (let here = stands_here f e.place e.number (ap (λ (x : Entry). x.place) is) (ap (λ (x : Entry). x.number) is) in cc (here, away))
        later f rest (suc k, within, is) away = (k, omega (arith, within), is)

-- ---- lists

pub map_same : {X Y : Type 0} (f g : X → Y) (l : List X) → ((x : X) → Contains l x → f x ≡ g x) → map f l ≡ map g l
map_same f g [] same = refl
map_same f g (x ∷ l) same =
    ap₂ (λ (y : _) (k : List _). y ∷ k) (same x (0, omega arith, refl))
    (map_same f g l (λ z (k, within, is). same z (suc k, omega (arith, within), is)))

-- ---- log sectors with no record of the page

contains_later : (f : Entry) (log : List Entry) (e : Entry) → Contains log e → Contains (f ∷ log) e
contains_later f log e (k, within, is) = (suc k, omega (arith, within), is)

after_both : (committed : ℕ → Bool) (page slot : ℕ) (a b : List Record) (v : Option (List ℕ))
    → after_records committed page slot (a ++ b) v ≡ after_records committed page slot b (after_records committed page slot a v)
after_both committed page slot [] b v = refl
after_both committed page slot (r ∷ a) b v = after_both committed page slot a b _

last_both : (test : Record → Bool) (a b : List Record) (before : Option Record)
    → last_that test (a ++ b) before ≡ last_that test b (last_that test a before)
last_both test [] b before = refl
last_both test (r ∷ a) b before = last_both test a b _

none_applies : (committed : ℕ → Bool) (page slot : ℕ) (records : List Record) (v : Option (List ℕ))
    → names_page page records ≡ false → after_records committed page slot records v ≡ v
none_applies committed page slot [] v none = refl
none_applies committed page slot (r ∷ records) v none =
    let both = or_parts (r.page == page) (names_page page records) none in
    rw both.0 (none_applies committed page slot records v both.1)

none_last : (test : ℕ → Bool) (page slot : ℕ) (records : List Record) (before : Option Record)
    → names_page page records ≡ false → last_that (counts_for test page slot) records before ≡ before
none_last test page slot [] before none = refl
none_last test page slot (r ∷ records) before none =
    let both = or_parts (r.page == page) (names_page page records) none in
    rw both.0 (none_last test page slot records before both.1)

-- they change no value of it
pub page_applied : (committed : ℕ → Bool) (page slot : ℕ) (log : List Entry) (v : Option (List ℕ))
    → after_records committed page slot (records_of (of_page page log)) v ≡ after_records committed page slot (records_of log) v
page_applied committed page slot [] v = refl
page_applied committed page slot (e ∷ log) v = elim (cases_Bool (is_of_page page e)) [
  | inl is ↦ rw is (after_both committed page slot e.records (records_of (of_page page log)) v
      ∙ page_applied committed page slot log (after_records committed page slot e.records v)
      ∙ sym (after_both committed page slot e.records (records_of log) v))
  | inr not ↦ rw not (page_applied committed page slot log v
      ∙ ap (after_records committed page slot (records_of log)) (sym (none_applies committed page slot e.records v not))
      ∙ sym (after_both committed page slot e.records (records_of log) v))
]

-- and are no slot's last
pub page_last : (test : ℕ → Bool) (page slot : ℕ) (log : List Entry) (before : Option Record)
    → last_that (counts_for test page slot) (records_of (of_page page log)) before ≡ last_that (counts_for test page slot) (records_of log) before
page_last test page slot [] before = refl
page_last test page slot (e ∷ log) before = elim (cases_Bool (is_of_page page e)) [
  | inl is ↦ rw is (last_both (counts_for test page slot) e.records (records_of (of_page page log)) before
      ∙ page_last test page slot log (last_that (counts_for test page slot) e.records before)
      ∙ sym (last_both (counts_for test page slot) e.records (records_of log) before))
  | inr not ↦ rw not (page_last test page slot log before
      ∙ ap (last_that (counts_for test page slot) (records_of log)) (sym (none_last test page slot e.records before not))
      ∙ sym (last_both (counts_for test page slot) e.records (records_of log) before))
]

-- each of them is one of the log that has a record of the page
page_first : (page : ℕ) (f : Entry) (l log : List Entry) (e : Entry) → is_of_page page f ≡ true
    → (Contains l e → Contains log e × (is_of_page page e ≡ true)) → Contains (f ∷ l) e
    → Contains (f ∷ log) e × (is_of_page page e ≡ true)
page_first page f l log e is rest (zero, _, same) = ((zero, omega arith, same), ap (is_of_page page) (sym same) ∙ is)
page_first page f l log e is rest (suc k, within, same) =
    let (has, of) = rest (k, omega (arith, within), same) in (contains_later f log e has, of)

pub page_has : (page : ℕ) (log : List Entry) (e : Entry) → Contains (of_page page log) e
    → Contains log e × (is_of_page page e ≡ true)
page_has page [] e has = absurd (let within = has.1 in omega (arith, within))
page_has page (f ∷ log) e has = elim (cases_Bool (is_of_page page f)) [
  | inl is ↦ page_first page f (of_page page log) log e is (page_has page log e) (rw is at has)
  | inr not ↦ let rest = page_has page log e (rw not at has) in (contains_later f log e rest.0, rest.1)
]
