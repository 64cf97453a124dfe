-- What is known of a state that a store keeps which isn't down.
use Rattle.std.proofs.Common.{◌≡◌, ℕ, false, [], ◌∷◌, List, Option, Some, None, Ok, refl, sym, ◌∙◌, ap, arith}
use Rattle.std.specs.FinMap.{get}
use Rattle.chip_trait.specs.Story.{held}
use Rattle.chip_trait.specs.Told.{History, Told}
use Rattle.ipl_base.specs.Places.{home_of}
use Rattle.ipl_model.specs.Refusals.{refuses_get, refuses_share}
use Rattle.ipl_model.specs.State.{Limits, State, see}
use Rattle.ipl_model.specs.declared.command.Command.TheVariants as command
use Rattle.ipl_model.specs.Step.{Stepped, found_reply, step}
use Rattle.record_locks.specs.Held.{SessionSlots, number_of}
use Rattle.record_locks.specs.Standing.{state_of}
use Rattle.ipl_meaning.specs.Chart.{chart_of}
use Rattle.ipl_meaning.specs.Tables.{Tables}
use Rattle.page_ops.specs.Pending.{seen_by}
use Rattle.store_laws.specs.Pending.{name_at}
use Rattle.store_laws.specs.Frames.{PageFrame, Frames}
use Rattle.store_laws.specs.Fits.{AreSessionsOf}
use Rattle.store_laws.specs.Advances.{KeepsState}
use Rattle.store_laws.specs.Keeps.{View, limits_in, ShowsState, KeepsStore, TellsName, KeptFramesTell}
use Rattle.store_laws.proofs.RefusalLemmas.{accepted_are_done}
use Rattle.store_laws.proofs.ViewLemmas.{shown_is_said, frames_tell_state}
use Rattle.ipl_meaning.specs.Legible.{Legibility, IsToldApart}

-- ---- what it has

pub kept_limits : (places : ℕ) (pages : Legibility) (limits : Limits) (store : View) (t : Told) (h : History) (state : State)
    → KeepsStore places pages limits store t h state → limits ≡ limits_in store
kept_limits places pages limits store t h state keeps = keeps.limits_are

pub kept_sessions : (places : ℕ) (pages : Legibility) (limits : Limits) (store : View) (t : Told) (h : History) (state : State)
    → store.down ≡ false → KeepsStore places pages limits store t h state
    → AreSessionsOf store.memory.slots state
kept_sessions places pages limits store t h state up keeps = (keeps.up up).sessions

-- a layout in which the memory fits, and the pages say the map
pub kept_shown : (places : ℕ) (pages : Legibility) (limits : Limits) (store : View) (t : Told) (h : History) (state : State)
    → store.down ≡ false → KeepsStore places pages limits store t h state
    → ShowsState places pages store state (held h.start h.story)
kept_shown places pages limits store t h state up keeps = (keeps.up up).shows

-- ---- what frames tell of it

-- what a session of this number sees in the frame of a name's page
abbrev pub seen_in : PageFrame → ℕ → ℕ → Option (List ℕ)
seen_in f n tid = seen_by tid (f.values (home_of n).slot) (f.pending (home_of n).slot)

name_of_home : (n : ℕ) → name_at (home_of n).unit (home_of n).page (home_of n).slot ≡ n
name_of_home n = omega arith

-- whatever the call answered
pub kept_frames_tell_on : {T E : Type 0} (pages : Legibility) (v : T) (n : ℕ) (store : View) (t : Tables)
    (later : Frames) (f : PageFrame) (h : History) (state : State) (old new : Told)
    → IsToldApart pages → store.down ≡ false
    → KeepsState {T = T} {E = E} store.memory.tables store.memory.frames old (Ok v) t later new
    → later (home_of n).unit (home_of n).page ≡ Some f
    → KeepsStore old.places pages (limits_in store) store old h state
    → TellsName store.memory.slots state n f
kept_frames_tell_on pages v n store t later f h state old new apart up keeper there keeps =
    let places = old.places in
    let home = home_of n in
    let x = held h.start h.story in
    let shown = kept_shown places pages (limits_in store) store old h state up keeps in
    let (y, told_then, had) = (keeper store.memory.slots).fits places refl tt x
    keeps.steady.holds in
    let on = had shown.layout state shown.fits in
    let (low, few) = on.fits.framed.within home.unit home.page f there in
    let tells = frames_tell_state places (chart_of x) (chart_of y) shown.layout state.map
    (record { tables = t; frames = later; slots = store.memory.slots }) state home.unit home.page
    home.slot f on (shown.says.pages home.unit home.page (rw on.shows.count at low) few
    (shown_is_said places pages (chart_of x) (chart_of y) shown.layout state.map (record { tables = t; frames = later; slots = store.memory.slots })
    state home.unit home.page f apart shown.says on there)) there
    (omega arith) in
    let same = name_of_home n in record {
      committed = tells.committed ∙ ap (get state.map) same;
      seen = λ s tid mine. tells.seen s tid mine ∙ ap (see state s) same;
    }

pub kept_frames_tell : KeptFramesTell
kept_frames_tell pages = kept_frames_tell_on pages tt

-- ---- replies

-- a get that isn't refused answers what the frame has for the session
pub gets_answer : (limits : Limits) (slots : SessionSlots) (state : State) (s n tid : ℕ) (f : PageFrame)
    → AreSessionsOf slots state → refuses_get limits (state_of slots) s n ≡ None
    → number_of slots s ≡ Some tid → TellsName slots state n f
    → (step limits state (command.Get s n)).1 ≡ found_reply (seen_in f n tid) ∷ []
gets_answer limits slots state s n tid f are none mine tells =
    ap (λ (x : Stepped). x.1) (accepted_are_done limits slots state (command.Get s n) are none)
    ∙ ap (λ o. found_reply o ∷ []) (sym (tells.seen s tid mine))

-- and so does a share
pub shares_answer : (limits : Limits) (slots : SessionSlots) (state : State) (s n tid : ℕ) (f : PageFrame)
    → AreSessionsOf slots state → refuses_share limits (state_of slots) s n ≡ None
    → number_of slots s ≡ Some tid → TellsName slots state n f
    → (step limits state (command.Share s n)).1 ≡ found_reply (seen_in f n tid) ∷ []
shares_answer limits slots state s n tid f are none mine tells =
    ap (λ (x : Stepped). x.1) (accepted_are_done limits slots state (command.Share s n) are none)
    ∙ ap (λ o. found_reply o ∷ []) (sym (tells.seen s tid mine))
