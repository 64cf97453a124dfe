-- Puts, once their page was brought into a frame: refused, written, or failed.
use Rattle.std.proofs.Common.{◌≡◌, ℕ, Bool, true, false, [], ◌∷◌, List, Option, Some, None, Ok, refl, sym, ◌∙◌, ap, subst, if◌then◌else◌, length}
use Rattle.std.specs.Option.{option_map_or}
use Rattle.chip_trait.specs.Story.{held}
use Rattle.chip_trait.specs.Told.{History, Told}
use Rattle.ipl_base.specs.Places.{home_of}
use Rattle.ipl_base.specs.declared.fault.ChipFault.{ChipFault}
use Rattle.ipl_base.specs.declared.fault.Refusal.{Refusal}
use Rattle.ipl_base.specs.declared.fault.Refusal.TheVariants.{PageFull}
use Rattle.ipl_model.specs.Operations.{after_write}
use Rattle.ipl_model.specs.Refusals.{refuses_put}
use Rattle.ipl_model.specs.State.{State}
use Rattle.ipl_model.specs.declared.command.Command.TheVariants as command
use Rattle.ipl_model.specs.declared.reply.Reply.TheVariants as reply
use Rattle.ipl_model.specs.Step.{accepted, step}
use Rattle.record_locks.specs.Held.{SessionSlots, peaks_in}
use Rattle.ipl_meaning.specs.Chart.{chart_of}
use Rattle.ipl_meaning.specs.Tables.{Tables}
use Rattle.unit_io.specs.Reads.{OfContents}
use Rattle.store_laws.specs.Frames.{PageFrame, Frames}
use Rattle.store_laws.specs.Room.{overfills_at}
use Rattle.store_laws.specs.Advances.{memory_of, KeepsState, LeadsTo}
use Rattle.store_laws.specs.Keeps.{View, limits_of, limits_in, ShowsState, KeepsStore}
use Rattle.store_laws.specs.Refusals.{sessions_refuse_put, PutsAnswer, FullPutsAreWork, WrittenPutsAreWork, FailedPutsLeaveTheMap}
use Rattle.store_laws.proofs.KeepLemmas.{leads_are_work}
use Rattle.store_laws.proofs.LeadLemmas.{answers_are_alike, keepers_lead, keepers_then_lead}
use Rattle.store_laws.proofs.RefusalLemmas.{accepted_are_done}
use Rattle.store_laws.proofs.SessionLemmas.{map_written}
use Rattle.store_laws.proofs.ViewLemmas.{shown_is_said, frames_tell_full}
use Rattle.ipl_meaning.specs.Legible.{Legibility, IsToldApart}

-- ---- what is answered

-- a put answers by what the frame of its page has, where that was brought in, whatever the call
-- answered
pub puts_answer_on : {T E : Type 0} (pages : Legibility) (v : T) (s n : ℕ) (bytes : List ℕ) (store : View) (t : Tables)
    (later : Frames) (f : PageFrame) (old new : Told)
    → KeepsState {T = T} {E = E} store.memory.tables store.memory.frames old (Ok v) t later new
    → later (home_of n).unit (home_of n).page ≡ Some f
    → sessions_refuse_put (limits_in store) store.memory.slots s n bytes ≡ None
    → IsToldApart pages → OfContents old (λ x. (state : State) → ShowsState old.places pages store state x
    → step (limits_in store) state (command.Put s n bytes)
    ≡ (if overfills_at (peaks_in store.memory.slots) n bytes f.values
    then (state, reply.Refused PageFull ∷ [])
    else (after_write state s (n, Some bytes), reply.Ok ∷ [])))
puts_answer_on pages v s n bytes store t later f old new keeper there passes apart x told state shown =
    let home = home_of n in
    let (y, told_then, had) = (keeper store.memory.slots).fits old.places refl tt x
    told in
    let on = had shown.layout state shown.fits in
    let (low, few) = on.fits.framed.within home.unit home.page f there in
    let tells = frames_tell_full old.places (chart_of x) (chart_of y) shown.layout state.map
    (record { tables = t; frames = later; slots = store.memory.slots }) state n bytes f on
    (shown.says.pages home.unit home.page (rw on.shows.count at low) few
    (shown_is_said old.places pages (chart_of x) (chart_of y) shown.layout state.map (record { tables = t; frames = later; slots = store.memory.slots })
    state home.unit home.page f apart shown.says on there)) there in
    accepted_are_done (limits_in store) store.memory.slots state (command.Put s n bytes)
    shown.fits.sessions passes
    ∙ ap (λ (full : Bool). if full then (state, reply.Refused PageFull ∷ [])
    else (after_write state s (n, Some bytes), reply.Ok ∷ [])) tells

pub puts_answer : PutsAnswer
puts_answer pages = puts_answer_on pages tt

-- ---- the work of a put

-- a store that keeps a state answers so
kept_answer : (pages : Legibility) (s n : ℕ) (bytes : List ℕ) (store : View) (t : Tables) (later : Frames) (f : PageFrame) (old mid : Told)
    (h : History) (state : State) (full : Bool) → IsToldApart pages → store.down ≡ false
    → KeepsState {T = Unit {0}} {E = ChipFault} store.memory.tables store.memory.frames old (Ok tt) t later mid
    → later (home_of n).unit (home_of n).page ≡ Some f
    → sessions_refuse_put (limits_in store) store.memory.slots s n bytes ≡ None
    → overfills_at (peaks_in store.memory.slots) n bytes f.values ≡ full
    → KeepsStore old.places pages (limits_in store) store old h state
    → step (limits_in store) state (command.Put s n bytes)
    ≡ (if full then (state, reply.Refused PageFull ∷ [])
    else (after_write state s (n, Some bytes), reply.Ok ∷ []))
kept_answer pages s n bytes store t later f old mid h state full apart up keeper there passes is keeps =
    puts_answer pages s n bytes store t later f old mid keeper there passes apart (held h.start h.story)
    keeps.steady.holds state (keeps.up up).shows
    ∙ ap (λ (b : Bool). if b then (state, reply.Refused PageFull ∷ [])
    else (after_write state s (n, Some bytes), reply.Ok ∷ [])) is

pub full_puts_are_work : FullPutsAreWork
full_puts_are_work pages s n bytes before after f old new apart units up slots keeper there passes full drawn =
    leads_are_work pages (command.Put s n bytes) (λ state. state) before after (Ok (reply.Refused PageFull)) old new
    (λ i. limits_of (length (slots i)) (units i)) up (answers_are_alike (λ state. state) before.memory after.memory (Ok tt) (Ok (reply.Refused PageFull)) old
    new refl kept) (λ h state keeps. kept_answer pages s n bytes before after.memory.tables after.memory.frames f old new h
    state true apart up keeper there passes full keeps) drawn tt
  where
    kept : LeadsTo {T = Unit {0}} {E = ChipFault} (λ state. state) before.memory old (Ok tt) after.memory new
    kept = subst (λ (k : SessionSlots). LeadsTo {T = Unit {0}} {E = ChipFault} (λ state. state) before.memory old (Ok tt)
        (memory_of after.memory.tables after.memory.frames k) new) (sym slots)
        (keepers_lead before.memory after.memory.tables after.memory.frames (Ok tt) old new keeper)

pub written_puts_are_work : WrittenPutsAreWork
written_puts_are_work pages s n bytes before after t later f old mid new apart same up counts keeper there passes room leads
    drawn =
    let next = λ (state : State). after_write state s (n, Some bytes) in
    leads_are_work pages (command.Put s n bytes) next before after (Ok reply.Ok) old new same up
    (answers_are_alike next before.memory after.memory (Ok tt) (Ok reply.Ok) old new refl
    (keepers_then_lead next before.memory t later after.memory (Ok tt) old mid new counts keeper leads))
    (λ h state keeps. kept_answer pages s n bytes before t later f old mid h state false apart up keeper there passes room
    keeps) drawn tt

pub failed_puts_leave_the_map : FailedPutsLeaveTheMap
failed_puts_leave_the_map limits state s n bytes fault =
    by_refusal (refuses_put limits state s n bytes) ∙ sym (map_written state s (n, Some bytes))
  where
    by_refusal : (o : Option Refusal) → (option_map_or (λ r. (state, reply.Refused r ∷ [])) o
        (accepted state (command.Put s n bytes))).0.map ≡ state.map
    by_refusal None = map_written state s (n, Some bytes)
    by_refusal (Some r) = refl
