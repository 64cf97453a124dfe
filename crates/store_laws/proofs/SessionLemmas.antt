-- What commands leave that a store does in memory alone.
use Rattle.std.specs.FinMap.{get}
use Rattle.std.specs.List.{All, Contains, list_any}
use Rattle.std.specs.Option.{option_map, option_map_or}
use Rattle.std.proofs.Common.{◌≡◌, ℕ, ◌+◌, ◌<◌, ◌==◌, Bool, true, false, not, List, [], ◌∷◌, Option, Some, None, is_some, refl, sym, ◌∙◌, ap, subst, arith, if◌then◌else◌}
use Rattle.std.proofs.lemmas.Bool.{both_ways, false_from_ne_true}
use Rattle.ipl_base.specs.declared.fault.Refusal.TheVariants.{NotOpen}
use Rattle.ipl_model.specs.Operations as rules
use Rattle.ipl_model.specs.Refusals.{is_new_share}
use Rattle.ipl_model.specs.State.{Session, State, Write}
use Rattle.record_locks.specs.Held.{written_of, written_by}
use Rattle.record_locks.specs.Held as held
use Rattle.record_locks.proofs.StandingLemmas.{open_at}
use Rattle.store_laws.specs.Pending.{wrote, name_at}
use Rattle.store_laws.specs.Fits.{AreSessionsOf, with_active, without_active}
use Rattle.store_laws.specs.Frames.{with_frame_at}
use Rattle.store_laws.specs.StepLaws.{after_record}
use Rattle.store_laws.proofs.ElementLemmas.{contains_here, contains_nil, contains_there}
use Rattle.store_laws.proofs.EmptyLemmas.{empty_map}
use Rattle.store_laws.proofs.EndFitLemmas.{aborts_fit}
use Rattle.store_laws.proofs.FitLemmas.{wrote_listed}
use Rattle.store_laws.proofs.ListedLemmas.{session_numbers_fit}
use Rattle.store_laws.proofs.MemoryFitLemmas.{begins_fit, shares_fit, writes_fit}
use Rattle.store_laws.proofs.TurnLemmas.{wrote_before}
use Rattle.store_laws.specs.Advances.{memory_of}
use Rattle.store_laws.specs.SessionLaws.{with_numbers_of, BeginsLead, SharesLead, WritesLead, AbortsLead, EmptyCommitsLead, OpenSessionsMayEnd}
use Rattle.store_laws.specs.Numbers.{IsOut}
use Rattle.store_laws.proofs.BatchLemmas.{none_written, no_numbers, none_applied}
use Rattle.store_laws.proofs.CommitLemmas.{batch_fits}
use Rattle.store_laws.proofs.LeadLemmas.{memory_leads}
use Rattle.store_laws.proofs.NamedLemmas.{named_aborts_suffice}

-- ---- the map stays

map_with : (state : State) (o : Option Session) (f : Session → State)
    → ((x : Session) → (f x).map ≡ state.map) → (option_map_or f o state).map ≡ state.map
map_with state None f same = refl
map_with state (Some x) f same = same x

map_if : (b : Bool) (state next : State) → next.map ≡ state.map
    → (if b then next else state).map ≡ state.map
map_if true state next same = same
map_if false state next same = refl

map_shared : (state : State) (s n : ℕ) → (rules.after_share state s n).map ≡ state.map
map_shared state s n =
    map_if (is_new_share state s n) state _ (map_with state (get state.sessions s) _ (λ x. refl))

pub map_written : (state : State) (s : ℕ) (w : Write)
    → (rules.after_write state s w).map ≡ state.map
map_written state s w = map_with state (get state.sessions s) _ (λ x. refl)

-- a session that holds no written name wrote nothing
wrote_none : (slots : held.SessionSlots) (state : State) (s : ℕ) → AreSessionsOf slots state
    → written_of slots s ≡ [] → (n : ℕ) → wrote state s n ≡ false
wrote_none slots state s are none n = false_from_ne_true (wrote state s n) (λ is.
    contains_nil n (subst (λ (l : List ℕ). Contains l n) none
    (wrote_listed slots state are s n is)))

-- where none of these sessions does, their commits leave the map
pub empty_commits_keep : (state : State) (ss : List ℕ)
    → ((s n : ℕ) → Contains ss s → wrote state s n ≡ false)
    → (rules.after_batch state ss).map ≡ state.map
empty_commits_keep state [] none = refl
empty_commits_keep state (s ∷ ss) none =
    empty_commits_keep (rules.after_commit state s) ss (λ t n there.
    false_from_ne_true (wrote (rules.after_commit state s) t n) (λ is.
    both_ways (wrote state t n) (none t n (contains_there s ss t there))
    (wrote_before state s t n is)))
    ∙ empty_map state s (λ n. none s n (contains_here s ss))

-- ---- the commands

pub begins_lead : BeginsLead
begins_lead s tid before old within closed new locked =
    let after = held.after_begin before.slots s tid in
    memory_leads (λ state. rules.after_begin state s) before
    (memory_of (with_numbers_of (record before.tables { next = tid + 1 }) after) before.frames
    after) old
    (λ places c it state same fits. session_numbers_fit places c it (with_active before.tables tid)
    before.frames after (rules.after_begin state s)
    (begins_fit places c it before.tables before.frames before.slots state s tid fits within closed
    new locked))
    (λ places c it state fits. refl) (λ p k counted. counted)

pub shares_lead : SharesLead
shares_lead s n before old within locked =
    memory_leads (λ state. rules.after_share state s n) before
    (memory_of before.tables before.frames (held.after_share before.slots s n)) old
    (λ places c it state same fits. shares_fit places c it before.tables before.frames before.slots
    state s n fits within locked)
    (λ places c it state fits. map_shared state s n) (λ p k counted. counted)

pub writes_lead : WritesLead
writes_lead s u r f g before old within mine low valid there written room locked =
    memory_leads (λ state. rules.after_write state s (name_at u r.page r.slot, r.change)) before
    (memory_of before.tables (with_frame_at before.frames u r.page (Some g))
    (after_record before.slots s u r)) old
    (λ places c it state same fits. writes_fit places c it before.tables before.frames before.slots
    state s u r f g fits within mine (subst (λ (n : ℕ). u < n) fits.mirrors.directory.units low) valid
    there written room locked)
    (λ places c it state fits. map_written state s (name_at u r.page r.slot, r.change))
    (λ p k counted. counted)

pub aborts_lead : AbortsLead
aborts_lead s tid before later old within mine change locked =
    let after = held.after_end before.slots s in
    memory_leads (λ state. rules.after_abort state s) before
    (memory_of (with_numbers_of before.tables after) later after) old
    (λ places c it state same fits. session_numbers_fit places c it
    (without_active before.tables tid) later after (rules.after_abort state s)
    (aborts_fit places c it before.tables before.frames later before.slots state s tid fits within
    mine (named_aborts_suffice places c it before later state s tid fits mine change) locked))
    (λ places c it state fits. refl) (λ p k counted. counted)

pub empty_commits_lead : EmptyCommitsLead
empty_commits_lead ss before old opened none locked =
    let after = held.after_batch before.slots ss in
    let each : (s : ℕ) → Contains ss s → written_of before.slots s ≡ [] =
    λ s there. none_written before.slots ss s none there in
    let out : All (IsOut before.frames) (written_by before.slots ss) =
    subst (All (IsOut before.frames)) (sym none) (λ k d within. absurd (omega (arith, within))) in
    memory_leads (λ state. rules.after_batch state ss) before
    (memory_of (with_numbers_of before.tables after) before.frames after) old
    (λ places c it state same fits. batch_fits ss before opened out places c it state fits c
    before.tables before.frames it.committed
    (λ n. ap (λ (tids : List ℕ). if list_any (λ tid. n == tid) tids then true else it.committed n)
    (sym (no_numbers before.slots ss each)))
    (none_applied before.slots ss before.frames each) locked fits.mirrors (omega arith)
    fits.none_lost (record { shown = λ u page now low few shows. shows; no_more = λ u page base low few reads. (base, reads) }))
    (λ places c it state fits. empty_commits_keep state ss
    (λ s n there. wrote_none before.slots state s fits.sessions (each s there) n))
    (λ p k counted. counted)

pub open_sessions_may_end : OpenSessionsMayEnd
open_sessions_may_end slots s tid mine =
    ap (λ (b : Bool). if not b then Some NotOpen else None)
    (open_at slots s ∙ by_slot (held.held_at slots s) mine)
  where
    by_slot : (o : Option held.Held) → option_map (λ h. h.number) o ≡ Some tid → is_some o ≡ true
    by_slot None no_one = absurd (cc no_one)
    by_slot (Some h) is = refl
