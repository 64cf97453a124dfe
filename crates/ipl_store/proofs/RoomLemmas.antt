-- Whether the page of a put had room: what is answered, and what its frame tells.
use Rattle.std.proofs.Common.{◌≡◌, ℕ, Bool, true, false, not, List, [], ◌∷◌, Option, Some, None, Ok, Err, refl, sym, ◌∙◌, subst, arith, if◌then◌else◌}
use Rattle.std.specs.List.{list_all}
use Rattle.std.specs.Prelude.{nat_lt}
use Rattle.std.proofs.lemmas.Bool.{cond-false, not-true}
use Rattle.chip_trait.specs.Told.{Told}
use Rattle.ipl_base.specs.declared.fault.Refusal.{Refusal}
use Rattle.ipl_base.specs.declared.fault.StoreFault.{StoreFault}
use Rattle.ipl_base.specs.declared.fault.StoreFault.TheVariants.{Down, Spent, Refused, Chip}
use Rattle.ipl_base.specs.declared.fault.ChipFault.{ChipFault}
use Rattle.ipl_base.specs.Places.{home_of}
use Rattle.ipl_format.proofs.ListLemmas.{both_true}
use Rattle.ipl_model.specs.Peaks.{overfills}
use Rattle.ipl_base.specs.Sizes.{size_in_page}
use Rattle.ipl_model.specs.Refusals.{Test, first_of, bad_session, bad_name, too_long, not_open, conflict, writes_full}
use Rattle.ipl_model.specs.State.{State, Limits, holder_for_write}
use Rattle.record_locks.specs.Held.{SessionSlots, peaks_in}
use Rattle.record_locks.specs.Locks.{pending_full}
use Rattle.record_locks.specs.Standing.{state_of}
use Rattle.ipl_meaning.specs.Legible.{Legibility, IsToldApart}
use Rattle.ipl_meaning.specs.Chart.{chart_of}
use Rattle.ipl_meaning.specs.Tables.{Tables}
use Rattle.unit_io.specs.Reads.{OfContents}
use Rattle.store_trait.specs.Keeping.{LAST_NUMBER}
use Rattle.store_laws.specs.Frames.{PageFrame, Frames}
use Rattle.store_laws.specs.Room.{overfills_at}
use Rattle.store_laws.specs.Advances.{memory_of}
use Rattle.store_laws.specs.Keeps.{ShowsState}
use Rattle.store_laws.specs.Refusals.{sessions_refuse_put}
use Rattle.store_laws.proofs.ViewLemmas.{shown_is_said, frames_tell_full}
use Rattle.ipl_store.specs.declared.store.Store.{Store}
use Rattle.ipl_store.specs.Calls.{view_of, counter_of, early_fault, limits_of_store}
use Rattle.ipl_store.specs.Puts.{is_page_full, found_room, put_fault, BringsPageOf}

-- ---- what is answered

-- the refusal isn't of a full page
abbrev is_other : Refusal → Bool
is_other r = not (is_page_full r)

-- the first test, or a later one
by_test : (b : Bool) (t : Test) (rest : Option Refusal) (r : Refusal)
    → (if b then Some t.1 else rest) ≡ Some r → is_other t.1 ≡ true
    → (rest ≡ Some r → is_page_full r ≡ false) → is_page_full r ≡ false
by_test true t rest r here other later =
    let which : t.1 ≡ r = cc here in
    subst (λ (q : Refusal). is_page_full q ≡ false) which (not-true (is_page_full t.1) other)
by_test false t rest r here other later = later here

-- a refusal by tests none of which is of a full page
none_full : (tests : List Test) (r : Refusal) → first_of tests ≡ Some r
    → list_all (λ t. is_other t.1) tests ≡ true → is_page_full r ≡ false
none_full [] r is all = absurd (cc is)
none_full (t ∷ tests) r is all =
    let (other, others) = both_true (is_other t.1) (list_all (λ t. is_other t.1) tests) all in
    by_test t.0 t (first_of tests) r is other (λ later. none_full tests r later others)

-- the tests of a put before its page is looked at
abbrev put_tests : Limits → SessionSlots → ℕ → ℕ → List ℕ → List Test
put_tests limits slots s n bytes = bad_session limits s ∷ bad_name limits n ∷ too_long bytes
    ∷ not_open (state_of slots) s ∷ conflict (holder_for_write (state_of slots) s n)
    ∷ writes_full (state_of slots) s n ∷ pending_full slots n (size_in_page (Some bytes)) ∷ []

-- a fault before the page is looked at
early_stays : (down spent : Bool) (o : Option Refusal) (fault : StoreFault)
    → early_fault (if down then Some Down else (if spent then Some Spent else None)) o ≡ Some fault
    → ((r : Refusal) → o ≡ Some r → is_page_full r ≡ false) → found_room (Err fault) ≡ Err fault
early_stays true spent o fault is none =
    let which : Down ≡ fault = cc is in
    subst (λ (f : StoreFault). found_room (Err f) ≡ Err f) which refl
early_stays false true o fault is none =
    let which : Spent ≡ fault = cc is in
    subst (λ (f : StoreFault). found_room (Err f) ≡ Err f) which refl
early_stays false false (Some r) fault is none =
    let which : Refused r ≡ fault = cc is in
    subst (λ (f : StoreFault). found_room (Err f) ≡ Err f) which
    (cond-false (is_page_full r) (Ok false) (Err (Refused r)) (none r refl))
early_stays false false None fault is none = absurd (cc is)

pub early_found : (store : Store) (s n : ℕ) (bytes : List ℕ) (fault : StoreFault)
    → put_fault store s n bytes ≡ Some fault → found_room (Err fault) ≡ Err fault
early_found store s n bytes fault is =
    early_stays store.down (nat_lt LAST_NUMBER (counter_of store))
    (sessions_refuse_put (limits_of_store store) store.transactions.sessions s n bytes) fault is
    (λ r refused. none_full
    (put_tests (limits_of_store store) store.transactions.sessions s n bytes) r refused refl)

-- and one of the chip
pub chip_found : (fault : StoreFault) (e : ChipFault) → fault ≡ Chip e
    → found_room (Err fault) ≡ Err fault
chip_found fault e is = subst (λ (f : StoreFault). found_room (Err f) ≡ Err f) (sym is) refl

-- ---- what the frame tells

pub full_told : (n : ℕ) (bytes : List ℕ) (old : Store) (before : Told) (t : Tables)
    (frames : Frames) (f : PageFrame) (after : Told)
    → BringsPageOf n old before t frames f after → (full : Bool)
    → overfills_at (peaks_in old.transactions.sessions) n bytes f.values ≡ full
    → OfContents before (λ x. (pages : Legibility) (state : State) → IsToldApart pages → ShowsState before.places pages (view_of old) state x
    → overfills state n bytes ≡ full)
full_told n bytes old before t frames f after did full is x told pages state apart shown =
    let home = home_of n in
    let slots = old.transactions.sessions in
    let (y, held, had) = (did.keeps slots).fits before.places refl tt x told in
    let on = had shown.layout state shown.fits in
    let (low, few) = on.fits.framed.within home.unit home.page f did.there in
    frames_tell_full before.places (chart_of x) (chart_of y) shown.layout state.map
    (memory_of t frames slots) state n bytes f on
    (shown.says.pages home.unit home.page (omega (arith, low, on.shows.count)) few
    (shown_is_said before.places pages (chart_of x) (chart_of y) shown.layout state.map (memory_of t frames slots) state
    home.unit home.page f apart shown.says on did.there)) did.there
    ∙ is
