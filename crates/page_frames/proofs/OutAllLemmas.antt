-- The pages of names, written out one after the other in the order of pages.
use Rattle.std.proofs.Common.{◌≡◌, ◌<◌, ◌≤◌, ◌+◌, ◌*◌, ◌∷◌, ◌⊎◌, ◌==◌, ◌&&◌, ◌||◌, ℕ, zero, suc, Bool, true, false, List, [], All, Contains, Option, Some, None, Result, Ok, Err, length, get_or, refl, sym, ◌∙◌, ap, inl, inr, arith}
use Rattle.std.specs.Prelude.{slice_index_or, IsOk}
use Rattle.std.specs.Option.{option_map, option_map_or}
use Rattle.std.proofs.lemmas.Bool.{cases_eq, eq-eqb, false≢true}
use Rattle.chip_trait.specs.Told.{Told}
use Rattle.ipl_base.specs.Places.{home_of}
use Rattle.ipl_base.specs.declared.fault.ChipFault.{ChipFault}
use Rattle.place_taking.specs.Spending.{is_worn_out, tells_worn}
use Rattle.buffer_pool.specs.Pools.{PoolView, IsThere, AreOnce}
use Rattle.buffer_pool.specs.Index.{page_number}
use Rattle.store_laws.specs.Frames.{PageFrame, Frames, logs_of}
use Rattle.store_laws.proofs.MemoryLemmas.{cases_page}
use Rattle.store_laws.proofs.SameLemmas.{frame_other}
use Rattle.store_laws.specs.Numbers.{IsOut}
use Rattle.buffer_pool.specs.declared.pool.Buffer.{Buffer}
use Rattle.buffer_pool.specs.Laws.{buffer_of}
use Rattle.buffer_pool.proofs.BufferLemmas.{buffers_are_told}
use Rattle.page_frames.specs.Views.{frame_in, frames_of}
use Rattle.page_frames.proofs.FrameViewLemmas.{frame_found}
use Rattle.page_frames.proofs.HeldLemmas.{none_some}
use Rattle.page_frames.specs.declared.pages.Pages.{Pages}
use Rattle.page_frames.specs.Pages.{frames_in, KeepsFramed, ArePagesReady, Upholds, emptied}
use Rattle.page_frames.specs.Asks.{AsksToWriteOut, AsksToWriteNamesOut}
use Rattle.page_frames.specs.Changed.{is_home, is_on_page, changed_pages, HasHomesFor}
use Rattle.page_frames.proofs.HomesLemmas.{SpendsHome, WroteAtHome, none_at_home, home_all, passed_at_home, written_at_home}
use Rattle.page_frames.proofs.ChangedLemmas.{changed_below, SpendsOn, StaysIdle, none_below, spends_passed, spends_more, spends_all}
use Rattle.page_frames.proofs.FrameLemmas.{emptied_out}
use Rattle.page_frames.proofs.FramedLemmas.{out_framed}
use Rattle.page_frames.proofs.UpholdLemmas.{upholds_none, upholds_then, upholds_weaker}

-- of the first n pages in the order, those that are of the names have no records in memory
abbrev pub AreOutBelow : ℕ → List ℕ → List ℕ → Frames → Type 0
AreOutBelow n names order frames = (u page k : ℕ) → page < 15 → k < n
    → slice_index_or order k 0 ≡ page_number u page → is_on_page names u page ≡ true
    → logs_of frames u page ≡ []

-- after so many pages
pub record IsOutBelow (n : ℕ) (names : List ℕ) (first : Pages) (before : Told) (now : Pages)
    (after : Told) : Type 0 where
  pub upholds : Upholds {T = Unit {0}} (14 * n) first before (Ok tt) now after
  pub order : now.pool.order ≡ first.pool.order
  pub status : now.parts.status ≡ first.parts.status
  pub out : AreOutBelow n names first.pool.order (frames_in now)
  pub framed : KeepsFramed first now
  pub still : (u page : ℕ) → logs_of (frames_in first) u page ≡ []
      → logs_of (frames_in now) u page ≡ []
  pub spends : SpendsOn (changed_below n names (frames_in first) first.pool.order)
      first.parts.directory now.parts.directory false before after
  pub homes : HasHomesFor first names → WroteAtHome n names first before now after

pub none_out : (names : List ℕ) (first : Pages) (before : Told) → ArePagesReady before.places first
    → IsOutBelow 0 names first before first before
none_out names first before ready = record {
  upholds = upholds_none 0 first before ready;
  order = refl;
  status = refl;
  out = λ u page k few less. absurd (omega (arith, less));
  framed = λ u page is. is;
  still = λ u page none. none;
  spends = none_below names first.pool.order (frames_in first) first.parts.directory before;
  homes = λ has. none_at_home names first before;
}

-- ---- one page more

-- a page without records in memory leaves all as it is
stays_idle : (u page : ℕ) (result : Result (Unit {0}) ChipFault) (mid now : Pages)
    (between after : Told) → IsOk result × (now ≡ mid) × (after ≡ between)
    → StaysIdle mid.parts.directory now.parts.directory (is_worn_out result) between after
stays_idle u page (Ok v) mid now between after (done, same, told) = record {
  unworn = refl;
  places = ap (λ (pages : Pages). pages.parts.directory) same;
  told = told;
}
stays_idle u page (Err e) mid now between after (done, same, told) = absurd (false≢true done)

-- a page without records has none after another is written out
still_out : (frames : Frames) (u page v q : ℕ) → logs_of frames v q ≡ []
    → logs_of (emptied frames u page) v q ≡ []
still_out frames u page v q none = elim (cases_page u page v q) [
  | inl here ↦
      let same : logs_of (emptied frames u page) v q ≡ logs_of (emptied frames u page) u page =
      ap (λ w. logs_of (emptied frames u page) w q) here.0
      ∙ ap (logs_of (emptied frames u page) u) here.1 in
      same ∙ emptied_out frames u page
  | inr apart ↦ ap (λ (o : Option PageFrame). option_map_or (λ f. f.log) o [])
      (frame_other frames u page _ v q apart) ∙ none
]

-- a page number says unit and page
same_page : (u page v q : ℕ) → page < 15 → q < 15 → page_number u page ≡ page_number v q
    → (v ≡ u) × (q ≡ page)
same_page u page v q few less same = (omega (arith, few, less, same), omega (arith, few, less, same))

one_more : (n u page : ℕ) (names order : List ℕ) (frames later : Frames) → page < 15
    → page_number u page ≡ slice_index_or order n 0
    → ((v q : ℕ) → logs_of frames v q ≡ [] → logs_of later v q ≡ [])
    → (is_on_page names u page ≡ true → logs_of later u page ≡ [])
    → AreOutBelow n names order frames → AreOutBelow (n + 1) names order later
one_more n u page names order frames later few at still here out v q k less below is on =
    elim (cases_below k n below) [
      | inl before ↦ still v q (out v q k less before is on)
      | inr same ↦
          let number : page_number u page ≡ page_number v q =
          at ∙ (ap (λ i. slice_index_or order i 0) (sym same) ∙ is) in
          let (unit_is, page_is) = same_page u page v q few less number in
          ap (λ w. logs_of later w q) unit_is ∙ (ap (logs_of later u) page_is
          ∙ here (ap (λ w. is_on_page names u w) (sym page_is)
          ∙ (ap (λ w. is_on_page names w q) (sym unit_is) ∙ on)))
    ]
  where
    cases_below : (k n : ℕ) → k < n + 1 → (k < n) ⊎ (k ≡ n)
    cases_below k n less = elim (cases_eq k n) [
      | inl same ↦ inr same
      | inr other ↦ inl (omega (arith, less, other))
    ]

-- the page is none of the names'
pub passed_out : (n u page : ℕ) (names : List ℕ) (first : Pages) (before : Told) (now : Pages)
    (after : Told) → n < length first.pool.order → page < 15
    → page_number u page ≡ slice_index_or now.pool.order n 0
    → is_on_page names u page ≡ false → IsOutBelow n names first before now after
    → IsOutBelow (n + 1) names first before now after
passed_out n u page names first before now after less few at off so_far = record {
  upholds = upholds_weaker (14 * n) (14 * (n + 1)) first now (Ok tt) before after (omega arith)
      so_far.upholds;
  order = so_far.order;
  status = so_far.status;
  out = one_more n u page names first.pool.order (frames_in now) (frames_in now) few
      (at ∙ ap (λ (l : List ℕ). slice_index_or l n 0) so_far.order) (λ v q none. none)
      (λ on. absurd (false≢true (sym off ∙ on))) so_far.out;
  framed = so_far.framed;
  still = so_far.still;
  spends = spends_passed n u page names first.pool.order (frames_in first) first.parts.directory
      now.parts.directory false before after less few
      (at ∙ ap (λ (l : List ℕ). slice_index_or l n 0) so_far.order) off so_far.spends;
  homes = λ has. passed_at_home n u page names first before now after less few
      (at ∙ ap (λ (l : List ℕ). slice_index_or l n 0) so_far.order) off (so_far.homes has);
}

-- or it is written out
pub written_out : (n u page : ℕ) (names : List ℕ) (first : Pages) (before : Told) (mid : Pages)
    (between : Told) (now : Pages) (after : Told)
    → n < length first.pool.order → is_on_page names u page ≡ true
    → u < length first.parts.directory.current → page < 15
    → page_number u page ≡ slice_index_or mid.pool.order n 0
    → IsOutBelow n names first before mid between
    → Upholds {T = Unit {0}} 14 mid between (Ok tt) now after
    → frames_in now ≡ emptied (frames_in mid) u page → now.pool.order ≡ mid.pool.order
    → now.parts.status ≡ mid.parts.status
    → AsksToWriteOut u page (Ok tt) mid now between after
    → IsOutBelow (n + 1) names first before now after
written_out n u page names first before mid between now after less on low few at so_far did is order
    status asks = record {
      upholds = upholds_weaker (14 * n + 14) (14 * (n + 1)) first now (Ok tt) before after
          (omega arith)
          (upholds_then (14 * n) 14 first mid now (Ok tt) before between after so_far.upholds did);
      order = order ∙ so_far.order;
      status = status ∙ so_far.status;
      out = one_more n u page names first.pool.order (frames_in mid) (frames_in now) few
          (at ∙ ap (λ (l : List ℕ). slice_index_or l n 0) so_far.order)
          (λ v q none. ap (λ (F : Frames). logs_of F v q) is
          ∙ still_out (frames_in mid) u page v q none)
          (λ on. ap (λ (F : Frames). logs_of F u page) is ∙ emptied_out (frames_in mid) u page)
          so_far.out;
      framed = λ v q there. out_framed u page mid now is v q (so_far.framed v q there);
      still = λ v q none. ap (λ (F : Frames). logs_of F v q) is
          ∙ still_out (frames_in mid) u page v q (so_far.still v q none);
      spends = spends_more n u page names first.pool.order (frames_in first) (frames_in mid)
          first.parts.directory mid.parts.directory now.parts.directory false before
          between after less few
          (at ∙ ap (λ (l : List ℕ). slice_index_or l n 0) so_far.order) on (so_far.still u page)
          (λ none. stays_idle u page (Ok tt) mid now between after (asks.idle none)) asks.costs
          so_far.spends;
      homes = λ has. written_at_home n u page names (Ok tt) first before mid between now after less
          few (at ∙ ap (λ (l : List ℕ). slice_index_or l n 0) so_far.order) on low
          (so_far.still u page) asks has (so_far.homes has);
    }

-- not done
pub unwritten_upholds : (n count : ℕ) (names : List ℕ) (first : Pages) (before : Told) (mid : Pages)
    (between : Told) (now : Pages) (after : Told) (e : ChipFault) → n < count → count ≤ 64 → IsOutBelow n names first before mid between
    → Upholds {T = Unit {0}} 14 mid between (Err e) now after
    → Upholds {T = Unit {0}} (14 * 64) first before (Err e) now after
unwritten_upholds n count names first before mid between now after e less few so_far did =
    upholds_weaker (14 * n + 14) (14 * 64) first now (Err e) before after (omega (arith, less, few))
    (upholds_then (14 * n) 14 first mid now (Err e) before between after so_far.upholds did)

module _ (n u page : ℕ) (names : List ℕ) (e : ChipFault) (first : Pages) (before : Told) (mid : Pages)
    (between : Told) (now : Pages) (after : Told) (less : n < length first.pool.order)
    (on : is_on_page names u page ≡ true) (few : page < 15)
    (at : page_number u page ≡ slice_index_or mid.pool.order n 0)
    (so_far : IsOutBelow n names first before mid between)
    (asks : AsksToWriteOut u page (Err e) mid now between after) where
  unwritten_costs : SpendsOn (changed_pages first names) first.parts.directory now.parts.directory
      (tells_worn e) before after
  unwritten_costs =
      spends_all (n + 1) names first.pool.order (frames_in first) first.parts.directory
      now.parts.directory (tells_worn e) before after
      (spends_more n u page names first.pool.order (frames_in first) (frames_in mid)
      first.parts.directory mid.parts.directory now.parts.directory (tells_worn e) before between
      after less few
      (at ∙ ap (λ (l : List ℕ). slice_index_or l n 0) so_far.order) on (so_far.still u page)
      (λ none. stays_idle u page (Err e) mid now between after (asks.idle none)) asks.costs
      so_far.spends)

  unwritten_homes : u < length first.parts.directory.current → HasHomesFor first names
      → SpendsHome (changed_pages first names) before after
  unwritten_homes low has =
      home_all (n + 1) names first.pool.order (frames_in first) before after
      (written_at_home n u page names (Err e) first before mid between now after less few
      (at ∙ ap (λ (l : List ℕ). slice_index_or l n 0) so_far.order) on low (so_far.still u page) asks
      has (so_far.homes has)).spends

  pub unwritten_asks : u < length first.parts.directory.current
      → AsksToWriteNamesOut names (tells_worn e) first now before after
  unwritten_asks low = record { costs = unwritten_costs; homes = unwritten_homes low }

-- ---- pages in frames

both_true : (a b : Bool) → a ≡ true → b ≡ true → (a && b) ≡ true
both_true a b one two = rw one two

or_left : (a b : Bool) → a ≡ true → (a || b) ≡ true
or_left a b one = rw one refl

or_right : (a b : Bool) → b ≡ true → (a || b) ≡ true
or_right true b two = refl
or_right false b two = two

-- a page that is in a buffer is of the tables' units
pub framed_unit : (most : ℕ) (first now : Pages) (before after : Told) (u page : ℕ)
    → Upholds {T = Unit {0}} most first before (Ok tt) now after → AreOnce now.pool.buffers
    → IsThere now.pool.buffers u page → u < length now.parts.directory.current
framed_unit most first now before after u page did once there =
    did.ready.within u page (frame_in there.has.buffer)
    (frame_found now.pool u page there.key once there.has)

-- so it is of those that they had at first
pub framed_low : (most : ℕ) (first now : Pages) (before after : Told) (u page : ℕ)
    → Upholds {T = Unit {0}} most first before (Ok tt) now after → AreOnce now.pool.buffers
    → IsThere now.pool.buffers u page → ArePagesReady before.places first
    → u < length first.parts.directory.current
framed_low most first now before after u page did once there ready =
    let low = framed_unit most first now before after u page did once there in
    omega (arith, low, did.units)

-- one that has a frame is in a buffer
framed_there : (p : PoolView) (u page : ℕ) (f : PageFrame) → AreOnce p.buffers
    → frames_of p u page ≡ Some f → IsThere p.buffers u page
framed_there p u page f once there = by_buffer (buffer_of p.buffers u page) refl
  where
    by_buffer : (o : Option Buffer) → buffer_of p.buffers u page ≡ o → IsThere p.buffers u page
    by_buffer None none = absurd (none_some f (sym there ∙ ap (option_map frame_in) none))
    by_buffer (Some b) found =
        let (key, stored, unit_is, page_is) =
        (buffers_are_told p.buffers once).stands u page b found in record {
          key = key;
          has = record { buffer = b; stored = stored; unit_is = unit_is; page_is = page_is };
        }

-- an element, whatever stands for those past the end
indexed : (l : List ℕ) (k x : ℕ) → k < length l → slice_index_or l k x ≡ x → slice_index_or l k 0 ≡ x
indexed [] k x less is = absurd (omega (arith, less))
indexed (y ∷ l) zero x less is = is
indexed (y ∷ l) (suc k) x less is = indexed l k x (omega (arith, less)) is

-- the page of a name is that of one of the names
any_home : (names : List ℕ) (i d : ℕ) → i < length names
    → is_on_page names (home_of (get_or names i d)).unit (home_of (get_or names i d)).page ≡ true
any_home [] i d less = absurd (omega (arith, less))
any_home (n ∷ names) zero d less =
    let own = both_true ((home_of n).unit == (home_of n).unit) ((home_of n).page == (home_of n).page)
    (eq-eqb (home_of n).unit (home_of n).unit refl) (eq-eqb (home_of n).page (home_of n).page refl) in
    or_left (is_home (home_of n).unit (home_of n).page n)
    (is_on_page names (home_of n).unit (home_of n).page) own
any_home (n ∷ names) (suc i) d less =
    or_right (is_home (home_of (get_or names i d)).unit (home_of (get_or names i d)).page n)
    (is_on_page names (home_of (get_or names i d)).unit (home_of (get_or names i d)).page)
    (any_home names i d (omega (arith, less)))

-- ---- all pages

-- the names' pages have no records in memory
pub names_out : (count : ℕ) (names : List ℕ) (first : Pages) (before : Told) (now : Pages)
    (after : Told) → count ≡ length first.pool.order → AreOnce now.pool.buffers
    → ((unit page : ℕ) → page < 15
    → IsThere now.pool.buffers unit page → Contains now.pool.order (page_number unit page))
    → IsOutBelow count names first before now after → All (IsOut (frames_in now)) names
names_out count names first before now after all once listed done i d within =
    by_frame (frames_in now (home_of (get_or names i d)).unit (home_of (get_or names i d)).page) refl
  where
    by_frame : (o : Option PageFrame)
        → frames_in now (home_of (get_or names i d)).unit (home_of (get_or names i d)).page ≡ o
        → IsOut (frames_in now) (get_or names i d)
    by_frame None none = ap (λ (o : Option PageFrame). option_map_or (λ f. f.log) o []) none
    by_frame (Some f) there =
        let n : ℕ = get_or names i d in
        let is = framed_there now.pool (home_of n).unit (home_of n).page f once there in
        let few : (home_of n).page < 15 = omega arith in
        let (k, low, at) = listed (home_of n).unit (home_of n).page few is in
        done.out (home_of n).unit (home_of n).page k few
        (let same = ap length done.order in omega (arith, all, same, low))
        (indexed first.pool.order k (page_number (home_of n).unit (home_of n).page)
        (let same = ap length done.order in omega (arith, same, low))
        (ap (λ (l : List ℕ). slice_index_or l k (page_number (home_of n).unit (home_of n).page))
        (sym done.order) ∙ at))
        (any_home names i d within)

-- and what they cost
pub names_ask : (count : ℕ) (names : List ℕ) (first : Pages) (before : Told) (now : Pages)
    (after : Told) → IsOutBelow count names first before now after
    → AsksToWriteNamesOut names false first now before after
names_ask count names first before now after done = record {
  costs = spends_all count names first.pool.order (frames_in first) first.parts.directory
      now.parts.directory false before after done.spends;
  homes = λ has.
      home_all count names first.pool.order (frames_in first) before after (done.homes has).spends;
}
