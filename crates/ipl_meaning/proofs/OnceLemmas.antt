-- A chart is laid out in one way, and stands for one map.
use Rattle.std.proofs.Common.{slice_index, ◌≡◌, ◌⊎◌, ℕ, zero, suc, ◌<◌, ◌≤◌, ◌+◌, ◌*◌, ◌/◌, ◌%◌, List, [], ◌∷◌, Some, inl, inr, refl, sym, ◌∙◌, ap, ap₂, subst, arith, Bool, true, false, IsTrue}
use Rattle.std.specs.List.{All, Contains}
use Rattle.std.proofs.lemmas.Bool.{cases_lt, false≢true}
use Rattle.std.proofs.lemmas.List.Elements.{All-contains}
use Rattle.std.specs.FinMap.{get, same_map, nat_cmp-IsAntisymmetric}
use Rattle.std.specs.Cmp.{nat_cmp_total}
use Rattle.ipl_format.specs.Sector.{Sector}
use Rattle.ipl_meaning.specs.Legible.{Legible, whole, but}
use Rattle.ipl_format.specs.Record.{Record}
use Rattle.ipl_format.specs.Page.{Slots, value_in, page_text}
use Rattle.ipl_meaning.specs.Chart.{Chart, IsChosen, IsDataHeader, IsStatusHeader}
use Rattle.ipl_meaning.specs.Values.{Values, after_records}
use Rattle.ipl_meaning.specs.Layout.{Shape, Entry, IsBelow, AllRise, IsEntry, IsLog, IsUnit, IsStatus, Layout, Laid, ReadsWell, base_sector, records_of}
use Rattle.ipl_meaning.specs.Stands.{Shows, Says, Stands, page_in}
use Rattle.ipl_meaning.specs.Laws.{StandsOnce, ChartsAgree, FewerPagesStand, WholeIsEvery, LaidOnce}
use Rattle.ipl_format.proofs.RecordLemmas.{logs_spell_once}
use Rattle.ipl_format.proofs.HeaderOnceLemmas.{data_headers_spell_once, status_headers_spell_once}
use Rattle.ipl_format.proofs.PageLemmas.{pages_spell_once, pieces_say_once}
use Rattle.ipl_meaning.proofs.SwitchLemmas.{same_applied}

-- of two places that count, there is one
pub chosen_once : (c : Chart) (places : ℕ) (Fits : Sector → Type 0) (p q : ℕ) (head other : Sector) → IsChosen c places Fits p head → IsChosen c places Fits q other → (p ≡ q) × (head ≡ other)
chosen_once c places Fits p q head other a b =
    let same : p ≡ q = elim (a.best q other b.within b.here b.fits) [
      | inl less ↦ elim (b.best p head a.within a.here a.fits) [ inl more ↦ absurd (omega arith) | inr tie ↦ absurd (omega arith) ]
      | inr tie ↦ elim (b.best p head a.within a.here a.fits) [ inl more ↦ absurd (omega arith) | inr other_tie ↦ omega arith ]
    ] in
    let both : Some head ≡ Some other = sym a.here ∙ ap (λ (x : ℕ). c x 0) same ∙ b.here in
    (same, cc both)

-- ---- Two lists of entries by rising serial, of the same entries

pub rise_tail : (e : Entry) (log : List Entry) → AllRise (e ∷ log) → AllRise log
rise_tail e log rise = λ i j d less within. rise (suc i) (suc j) d (omega (arith, less)) (omega (arith, within))

pub rise_head : (e : Entry) (log : List Entry) → AllRise (e ∷ log) → All (IsBelow e) log
rise_head e log rise = λ k d within. rise 0 (suc k) d (omega arith) (omega (arith, within))

pub first_is : (e : Entry) (log : List Entry) → Contains (e ∷ log) e
first_is e log = (0, omega arith, refl)

pub later_is : (e f : Entry) (log : List Entry) → Contains log f → Contains (e ∷ log) f
later_is e f log (k, within, is) = (suc k, omega (arith, within), is)

pub first_or_later : (e f : Entry) (log : List Entry) → Contains (e ∷ log) f → (e ≡ f) ⊎ Contains log f
first_or_later e f log (zero, within, is) = inl is
first_or_later e f log (suc k, within, is) = inr (k, omega (arith, within), is)

abbrev HasAll : List Entry → List Entry → Type 0
HasAll a b = (e : Entry) → Contains a e → Contains b e

-- an entry of the one tail is in the other tail, where the heads are the same and below
in_tail : (e f : Entry) (a b : List Entry) → e ≡ f → AllRise (e ∷ a) → HasAll (e ∷ a) (f ∷ b) → HasAll a b
in_tail e f a b same rise has x is = elim (first_or_later f x b (has x (later_is e x a is))) [
  | inl first ↦ absurd (let below : e.sector.serial < x.sector.serial = All-contains (IsBelow e) a x (rise_head e a rise) is in
      let equal : e.sector.serial ≡ x.sector.serial = ap (λ (z : Entry). z.sector.serial) (same ∙ first) in omega arith)
  | inr later ↦ later
]

heads_same : (e f : Entry) (a b : List Entry) → AllRise (e ∷ a) → AllRise (f ∷ b) → HasAll (e ∷ a) (f ∷ b) → HasAll (f ∷ b) (e ∷ a) → e ≡ f
heads_same e f a b rise also_rise has has_back = elim (first_or_later f e b (has e (first_is e a))) [
  | inl same ↦ sym same
  | inr after ↦ elim (first_or_later e f a (has_back f (first_is f b))) [
    | inl same ↦ same
    | inr later ↦ absurd (
        let above : f.sector.serial < e.sector.serial = All-contains (IsBelow f) b e (rise_head f b also_rise) after in
        let below : e.sector.serial < f.sector.serial = All-contains (IsBelow e) a f (rise_head e a rise) later in omega arith)
  ]
]

logs_same : (a b : List Entry) → AllRise a → AllRise b → HasAll a b → HasAll b a → a ≡ b
logs_same [] [] rise also_rise has has_back = refl
logs_same [] (f ∷ b) rise also_rise has has_back = absurd (let is = has_back f (first_is f b) in let within = is.1 in omega (arith, within))
logs_same (e ∷ a) [] rise also_rise has has_back = absurd (let is = has e (first_is e a) in let within = is.1 in omega (arith, within))
logs_same (e ∷ a) (f ∷ b) rise also_rise has has_back =
    let same = heads_same e f a b rise also_rise has has_back in
    ap₂ (λ (x : Entry) (l : List Entry). x ∷ l) same
    (logs_same a b (rise_tail e a rise) (rise_tail f b also_rise) (in_tail e f a b same rise has) (in_tail f e b a (sym same) also_rise has_back))

-- ---- One log

-- two entries for one live sector are the same
entries_once : (c : Chart) (places u home generation : ℕ) (e f : Entry) → IsEntry c places u home generation e → IsEntry c places u home generation f → f.place ≡ e.place → f.number ≡ e.number → f ≡ e
entries_once c places u home generation e f is is_too place number =
    let both : Some f.sector ≡ Some e.sector = sym is_too.live.here ∙ ap₂ c place number ∙ is.live.here in
    let sector : f.sector ≡ e.sector = cc both in
    let records : f.records ≡ e.records =
    logs_spell_once e.sector.version e.sector.payload f.records e.records
    (rw sector at is_too.records) is.records in
    same_entry place number sector records
  where
    same_entry : {p q a b : ℕ} {s t : Sector} {l m : List Record} → p ≡ q → a ≡ b → s ≡ t → l ≡ m → ◌≡◌ {A = Entry} (record { place = p; number = a; sector = s; records = l }) (record { place = q; number = b; sector = t; records = m })
    same_entry place number sector records = rw (place, number, sector, records) refl

has_entries : (c : Chart) (places u home generation : ℕ) (a b : List Entry) → IsLog c places u home generation a → IsLog c places u home generation b → HasAll a b
has_entries c places u home generation a b one other e is =
    let e_is = All-contains (IsEntry c places u home generation) a e one.each is in
    let (f, listed, place, number) = other.all e.place e.number e.sector e_is.live in
    let f_is = All-contains (IsEntry c places u home generation) b f other.each listed in
    subst (Contains b) (entries_once c places u home generation e f e_is f_is place number) listed

log_is_one : (c : Chart) (places u home generation : ℕ) (a b : List Entry) → IsLog c places u home generation a → IsLog c places u home generation b → a ≡ b
log_is_one c places u home generation a b one other = logs_same a b one.rising other.rising (has_entries c places u home generation a b one other) (has_entries c places u home generation b a other one)

-- ---- One shape

shape_once : (c : Chart) (places count u : ℕ) (a b : Shape) → IsUnit c places count u a → IsUnit c places count u b → a ≡ b
shape_once c places count u a b one other =
    let (home, head) = chosen_once c places (IsDataHeader u) a.home b.home a.head b.head one.chosen other.chosen in
    let header =
    data_headers_spell_once b.head.version b.head.payload count
    count a.pieces b.pieces (rw head at one.counts) other.counts in
    let pieces : a.pieces ≡ b.pieces = header.same_pieces in
    let log : a.log ≡ b.log = log_is_one c places u b.home b.head.generation a.log b.log (rw (home, head) at one.log) other.log in
    same_shape home head pieces log
  where
    same_shape : {p q : ℕ} {s t : Sector} {k l : List ℕ} {m n : List Entry} → p ≡ q → s ≡ t → k ≡ l → m ≡ n → ◌≡◌ {A = Shape} (record { home = p; head = s; pieces = k; log = m }) (record { home = q; head = t; pieces = l; log = n })
    same_shape home head pieces log = rw (home, head, pieces, log) refl

-- two sides of one fact
same_truth : (a b : Bool) → (IsTrue a → IsTrue b) → (IsTrue b → IsTrue a) → a ≡ b
same_truth true true to from = refl
same_truth false false to from = refl
same_truth true false to from = absurd (let no = to refl in cc no)
same_truth false true to from = absurd (let no = from refl in cc no)

module _ (places : ℕ) (c : Chart) (it jt : Layout) (one : Laid places c it) (other : Laid places c jt) where
  pub same_status : (it.status ≡ jt.status) × (it.head ≡ jt.head)
  same_status = chosen_once c places IsStatusHeader _ _ _ _ one.chosen other.chosen

  -- the status header says how many units there are
  pub same_count : it.count ≡ jt.count
  same_count =
      let mine = rw same_status.1 at one.counts in
      (status_headers_spell_once jt.head.version places jt.head.payload it.count jt.count one.most mine other.counts).same_units

  same_committed : (tid : ℕ) → it.committed tid ≡ jt.committed tid
  same_committed tid =
      let mine : IsStatus c jt.status jt.head.generation it.committed = rw (same_status.0, same_status.1) at one.commits in
      same_truth (it.committed tid) (jt.committed tid) (λ is_so. other.commits.all_told tid (mine.told tid is_so)) (λ is_so. mine.all_told tid (other.commits.told tid is_so))

  same_shape : (u : ℕ) → u < it.count → it.units u ≡ jt.units u
  same_shape u low =
      let theirs = rw same_count at low in
      let there = other.each u theirs in
      shape_once c places it.count u (it.units u) (jt.units u) (one.each u low) (rw (← same_count) at there)

pub laid_once : LaidOnce
laid_once places c it jt one other = record {
  status = (same_status places c it jt one other).0;
  head = (same_status places c it jt one other).1;
  committed = same_committed places c it jt one other;
  count = same_count places c it jt one other;
  units = same_shape places c it jt one other;
}

-- ---- One map

-- the base sectors of a page read as one page
pub reads_once : (c : Chart) (u : ℕ) (it : Shape) (page : ℕ) (a b : Slots) → ReadsWell c u it page a → ReadsWell c u it page b → a ≡ b
reads_once c u it page a b one other =
    let v = it.head.version in
    let text : page_text v a ≡ page_text v b =
    pieces_say_once (slice_index it.pieces page) (page_text v a)
    (page_text v b) one.cut other.cut (λ i within.
    let both : Some (base_sector v u it.head.generation page i (page_text v a))
    ≡ Some (base_sector v u it.head.generation page i (page_text v b)) =
    sym (one.here i within) ∙ other.here i within in
    let same : base_sector v u it.head.generation page i (page_text v a)
    ≡ base_sector v u it.head.generation page i (page_text v b) = cc both in
    ap (λ (s : Sector). s.payload) same) in
    pages_spell_once v (page_text v a) a b (record { slots = one.fits; text = refl })
    (record { slots = other.fits; text = text })

-- two showings of a page are the same
pub shows_once : (c : Chart) (committed other : ℕ → Bool) (u : ℕ) (it : Shape) (page : ℕ) (now after : Values) → ((tid : ℕ) → committed tid ≡ other tid) → Shows c committed u it page now → Shows c other u it page after
    → (slot : ℕ) → slot < 64 → now slot ≡ after slot
shows_once c committed other u it page now after same one two slot low =
    one.says slot low
    ∙ ap (λ (base : Slots). after_records committed page slot (records_of it.log) (value_in base slot)) (reads_once c u it page one.base two.base one.reads two.reads)
    ∙ same_applied committed other page slot (records_of it.log) (value_in two.base slot) (λ k d within. sym (same _))
    ∙ sym (two.says slot low)

-- a name is one of its page's
by_page : (n : ℕ) → n ≡ 960 * (n / 960) + 64 * ((n / 64) % 15) + n % 64
by_page n = omega arith

-- two of one chart agree on each page of which both are said
module _ (places : ℕ) (c : Chart) (m after : Legible) (one : Stands places c m) (other : Stands places c after) where
  counts : one.layout.count ≡ other.layout.count
  counts = same_count places c one.layout other.layout one.laid other.laid

  same_page : (u page slot : ℕ) → u < one.layout.count → page < 15 → slot < 64 → m.pages.reads u page ≡ true → after.pages.reads u page ≡ true
      → page_in m.map u page slot ≡ page_in after.map u page slot
  same_page u page slot within few less here there =
      let mine : Shows c one.layout.committed u (other.layout.units u) page (page_in m.map u page) = rw (same_shape places c one.layout other.layout one.laid other.laid u within) at (one.says.pages u page within few here) in
      shows_once c one.layout.committed other.layout.committed u (other.layout.units u) page (page_in m.map u page) (page_in after.map u page)
      (same_committed places c one.layout other.layout one.laid other.laid) mine (other.says.pages u page (omega (arith, within, counts)) few there) slot less

  past_the_last : (n : ℕ) → 960 * one.layout.count ≤ n → get m.map n ≡ get after.map n
  past_the_last n high = one.says.nowhere_else n high ∙ sym (other.says.nowhere_else n (omega (arith, high, counts)))

  same_name : (u page slot : ℕ) → page < 15 → slot < 64 → m.pages.reads u page ≡ true → after.pages.reads u page ≡ true
      → page_in m.map u page slot ≡ page_in after.map u page slot
  same_name u page slot few less here there = elim (cases_lt u one.layout.count) [
    | inl low ↦ same_page u page slot low few less here there
    | inr high ↦ past_the_last (960 * u + 64 * page + slot) (omega (arith, high))
  ]

pub charts_agree : ChartsAgree
charts_agree places c m n one other u page slot few less here there = same_name places c m n one other u page slot few less here there

pub stands_once : StandsOnce
stands_once places c m n one other = same_map nat_cmp_total nat_cmp-IsAntisymmetric m n (λ k.
    ap (λ (j : ℕ). get m j) (by_page k)
    ∙ same_name places c (whole m) (whole n) one other (k / 960) ((k / 64) % 15) (k % 64) (omega arith) (omega arith) refl refl
    ∙ ap (λ (j : ℕ). get n j) (sym (by_page k)))

pub fewer_pages_say : (places : ℕ) (c : Chart) (it : Layout) (m : Legible) (reads : ℕ → ℕ → Bool) → ((u page : ℕ) → reads u page ≡ true → m.pages.reads u page ≡ true)
    → Says places c it m → Says places c it (but reads m)
fewer_pages_say places c it m reads fewer is = record { pages = λ u page low few here. is.pages u page low few (fewer u page here); rotten = is.rotten; nowhere_else = is.nowhere_else }

pub fewer_pages_stand : FewerPagesStand
fewer_pages_stand places c m reads fewer one = record {
  layout = one.layout;
  laid = one.laid;
  says = fewer_pages_say places c one.layout m reads fewer one.says;
}

pub whole_is_every : WholeIsEvery
whole_is_every places c it m = (
  λ is. record { pages = λ u page low few. is.pages u page low few refl; nowhere_else = is.nowhere_else },
  λ is. record { pages = λ u page low few here. is.pages u page low few; rotten = λ u page base low few on reads. false≢true on; nowhere_else = is.nowhere_else },
)
