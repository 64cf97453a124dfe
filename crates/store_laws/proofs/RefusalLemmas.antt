-- What a store refuses, and what it knows of what it doesn't.
use Rattle.std.proofs.Common.{◌≡◌, ℕ, ◌+◌, ◌*◌, ◌/◌, ◌<◌, ◌==◌, ◌||◌, Bool, true, false, cond, not, nat_le, nat_lt, [], ◌∷◌, List, length, Option, Some, None, is_some, Ok, inl, inr, refl, sym, ◌∙◌, ap, subst, arith, if◌then◌else◌}
use Rattle.std.specs.Option.{option_map, option_map_or, option_or}
use Rattle.std.specs.List.{list_any}
use Rattle.std.proofs.lemmas.Bool.{not-false}
use Rattle.std.proofs.lemmas.Bool.Decides.{nat_tests}
use Rattle.ipl_base.specs.declared.fault.Refusal.{Refusal}
use Rattle.ipl_base.specs.declared.fault.Refusal.TheVariants.{BadSession, BadName, AlreadyOpen, NotOpen, PendingFull, BadUnit, PageFull}
use Rattle.ipl_model.specs.Refusals.{Test, first_of, bad_session, bad_name, too_long, already_open, not_open, conflict, writes_full, shares_full, page_full, is_twice, twice, least_twice, early_tests, refuses_begin, refuses_get, refuses_share, refuses_del, refuses_end, refuses_batch, refuses_list, refuses_merge}
use Rattle.ipl_model.proofs.RuleBatchLemmas.{any_alike, batches_name_once}
use Rattle.ipl_model.proofs.RefusalLemmas.{first_of-append}
use Rattle.ipl_model.specs.Peaks.{peaks, overloads}
use Rattle.ipl_base.specs.Sizes.{size_in_page}
use Rattle.ipl_base.specs.declared.limits.TheConstants.{UNIT_NAMES, VALUE_LEN}
use Rattle.ipl_model.specs.State.{State, Limits, is_open_session, holder_for_share, holder_for_write}
use Rattle.ipl_model.specs.declared.command.Command.TheVariants as command
use Rattle.ipl_model.specs.declared.reply.Reply.TheVariants as reply
use Rattle.ipl_model.specs.declared.command.Command.{Command}
use Rattle.ipl_model.specs.Step.{Stepped, accepted, step}
use Rattle.record_locks.specs.Held.{Held, SessionSlots, held_at, peaks_in}
use Rattle.record_locks.specs.Locks as locks
use Rattle.record_locks.specs.Names.{TestsAlike}
use Rattle.record_locks.specs.Standing.{state_of}
use Rattle.record_locks.proofs.CallLemmas.{passed}
use Rattle.record_locks.proofs.SameLemmas.{alike, peaks_are}
use Rattle.record_locks.proofs.StandingLemmas.{open_at}
use Rattle.store_laws.proofs.ElementLemmas.{contains_cons, contains_nil}
use Rattle.store_laws.specs.Keeps.{limits_of}
use Rattle.store_laws.specs.Refusals.{early_refusal, finds_full, sessions_refuse, unrefused, RefusedInTwoParts, SessionsRefuse, RefusalsAnswer, AcceptedAreDone, RefusalsLead, IsOpenSession, AreOpenSessions, ReachesName, MayWriteName, PassedBegins, PassedGets, PassedShares, PassedPuts, PassedDels, PassedEnds, PassedBatches, PassedLists, PassedMerges}
use Rattle.store_laws.proofs.LeadLemmas.{memory_leads, next_states_are_alike, answers_are_alike}

-- ---- the sessions refuse as the state does

-- with nothing more
none_more : (o : Option Refusal) → o ≡ option_or o None
none_more None = refl
none_more (Some r) = refl

pub refused_in_two_parts : RefusedInTwoParts
refused_in_two_parts limits state (command.Begin s) = none_more (refuses_begin limits state s)
refused_in_two_parts limits state (command.Get s n) = none_more (refuses_get limits state s n)
refused_in_two_parts limits state (command.Share s n) = none_more (refuses_share limits state s n)
refused_in_two_parts limits state (command.Put s n bytes) =
    first_of-append (early_tests limits state s n bytes) (page_full state n bytes ∷ [])
refused_in_two_parts limits state (command.Del s n) = none_more (refuses_del limits state s n)
refused_in_two_parts limits state (command.Commit s) = none_more (refuses_end limits state s)
refused_in_two_parts limits state (command.Batch ss) = none_more (refuses_batch limits state ss)
refused_in_two_parts limits state (command.Abort s) = none_more (refuses_end limits state s)
refused_in_two_parts limits state (command.List a b) = none_more (refuses_list limits a b)
refused_in_two_parts limits state (command.Merge u) = none_more (refuses_merge limits u)
refused_in_two_parts limits state command.Restart = refl
refused_in_two_parts limits state command.Syntax = refl

pub slots_refuse : SessionsRefuse
slots_refuse limits slots state c are = by_command c
  where
    tests : (s n : ℕ) → TestsAlike (state_of slots) state s n
    tests s n = alike (state_of slots) state are.names s n

    peaked : peaks_in slots ≡ peaks state
    peaked = λ i n. peaks_are slots state are.peaks n i

    by_command : (c : Command) → sessions_refuse limits slots c ≡ early_refusal limits state c
    by_command (command.Begin s) =
        λ i. first_of (bad_session limits s ∷ ((tests s 0).opens i, AlreadyOpen) ∷ [])
    by_command (command.Get s n) = λ i. first_of (bad_session limits s ∷ bad_name limits n
        ∷ (not ((tests s n).opens i), NotOpen) ∷ [])
    by_command (command.Share s n) = λ i. first_of (bad_session limits s ∷ bad_name limits n
        ∷ (not ((tests s n).opens i), NotOpen) ∷ conflict ((tests s n).shares i)
        ∷ (tests s n).full_shares i ∷ [])
    by_command (command.Put s n bytes) = λ i. first_of (bad_session limits s ∷ bad_name limits n
        ∷ too_long bytes ∷ (not ((tests s n).opens i), NotOpen) ∷ conflict ((tests s n).writes i)
        ∷ (tests s n).full_writes i
        ∷ (overloads (peaked i) n (1 + size_in_page (Some bytes)), PendingFull (n / UNIT_NAMES)) ∷ [])
    by_command (command.Del s n) = λ i. first_of (bad_session limits s ∷ bad_name limits n
        ∷ (not ((tests s n).opens i), NotOpen) ∷ conflict ((tests s n).writes i)
        ∷ (tests s n).full_writes i
        ∷ (overloads (peaked i) n (1 + size_in_page None), PendingFull (n / UNIT_NAMES)) ∷ [])
    by_command (command.Commit s) =
        λ i. first_of (bad_session limits s ∷ (not ((tests s 0).opens i), NotOpen) ∷ [])
    by_command (command.Batch ss) =
        let opens : list_any (λ s. not (is_open_session (state_of slots) s)) ss
        ≡ list_any (λ s. not (is_open_session state s)) ss =
        any_alike (λ s. not (is_open_session (state_of slots) s)) (λ s. not (is_open_session state s)) ss
        (λ s at. ap not (tests s 0).opens) in
        λ i. first_of ((list_any (λ s. nat_le limits.sessions s) ss, BadSession)
        ∷ twice (least_twice limits ss) ∷ (opens i, NotOpen) ∷ [])
    by_command (command.Abort s) =
        λ i. first_of (bad_session limits s ∷ (not ((tests s 0).opens i), NotOpen) ∷ [])
    by_command (command.List a b) = refl
    by_command (command.Merge u) = refl
    by_command command.Restart = refl
    by_command command.Syntax = refl

-- ---- what the model does then

-- a refusal, or what the command does
abbrev step_by : State → Command → Option Refusal → Stepped
step_by state c o = option_map_or (λ r. (state, reply.Refused r ∷ [])) o (accepted state c)

-- by the refusal that comes early, or else since its page is full
abbrev parts_by : State → Command → Option Refusal → Stepped
parts_by state c o = step_by state c (option_or o (if finds_full state c then Some PageFull else None))

pub refused_steps : (limits : Limits) (state : State) (c : Command) (r : Refusal)
    → early_refusal limits state c ≡ Some r → step limits state c ≡ (state, reply.Refused r ∷ [])
refused_steps limits state c r is =
    ap (step_by state c) (refused_in_two_parts limits state c) ∙ ap (parts_by state c) is

pub unrefused_steps : (limits : Limits) (state : State) (c : Command)
    → early_refusal limits state c ≡ None → step limits state c ≡ unrefused state c
unrefused_steps limits state c is =
    ap (step_by state c) (refused_in_two_parts limits state c) ∙ ap (parts_by state c) is
    ∙ by_room (finds_full state c)
  where
    by_room : (full : Bool) → step_by state c (option_or None (if full then Some PageFull else None))
        ≡ (if full then (state, reply.Refused PageFull ∷ []) else accepted state c)
    by_room true = refl
    by_room false = refl

pub refusals_answer : RefusalsAnswer
refusals_answer limits slots state c r are is =
    refused_steps limits state c r (sym (slots_refuse limits slots state c are) ∙ is)

pub accepted_are_done : AcceptedAreDone
accepted_are_done limits slots state c are is =
    unrefused_steps limits state c (sym (slots_refuse limits slots state c are) ∙ is)

pub refusals_lead : RefusalsLead
refusals_lead limits c r before old is =
    next_states_are_alike (λ state. state) (λ state. (step limits state c).0) before
    before (Ok (reply.Refused r)) old old
    (λ places y it state fits. sym (ap (λ (x : Stepped). x.0)
    (refusals_answer limits before.slots state c r fits.sessions is)))
    (answers_are_alike (λ state. state) before before (Ok tt) (Ok (reply.Refused r)) old old refl
    (memory_leads (λ state. state) before before old (λ places y it state same fits. fits)
    (λ places y it state fits. refl) (λ p k counted. counted)))

-- ---- what isn't refused

-- the tests of the locks
abbrev open_tests : SessionSlots → ℕ → List Test → List Test
open_tests slots s rest = not_open (state_of slots) s ∷ rest

abbrev share_tests : SessionSlots → ℕ → ℕ → List Test
share_tests slots s n = conflict (holder_for_share (state_of slots) s n)
    ∷ shares_full (state_of slots) s n ∷ []

abbrev write_tests : SessionSlots → ℕ → ℕ → ℕ → List Test
write_tests slots s n size = conflict (holder_for_write (state_of slots) s n)
    ∷ writes_full (state_of slots) s n ∷ locks.pending_full slots n size ∷ []

-- a slot that isn't empty has a number
numbered : (o : Option Held) → is_some o ≡ true
    → (tid : ℕ) × (option_map (λ h. h.number) o ≡ Some tid)
numbered None is = absurd (cc is)
numbered (Some h) is = (h.number, refl)

unnumbered : (o : Option Held) → is_some o ≡ false → option_map (λ h. h.number) o ≡ None
unnumbered None is = refl
unnumbered (Some h) is = absurd (cc is)

-- one that is open
open_session : (slots : SessionSlots) (s : ℕ) → s < length slots → is_open_session (state_of slots) s ≡ true
    → IsOpenSession slots s
open_session slots s low opens =
    let (tid, is) = numbered (held_at slots s) (sym (open_at slots s) ∙ opens) in record {
      low = low;
      number = tid;
      number_is = is;
      may_end = rw opens refl;
    }

-- or that passed the test of being open
passed_is_open : (slots : SessionSlots) (s : ℕ) (rest : List Test) → nat_le (length slots) s ≡ false
    → first_of (open_tests slots s rest) ≡ None → IsOpenSession slots s
passed_is_open slots s rest low none =
    let passes = passed (not_open (state_of slots) s) rest none in
    open_session slots s (grind (arith, nat_tests))
    (not-false (is_open_session (state_of slots) s) passes.0)

pub passed_begins : PassedBegins
passed_begins units slots s none =
    let opened = already_open (state_of slots) s in
    let (low, rest) = passed (bad_session (limits_of (length slots) units) s) (opened ∷ []) none in
    let in_range : nat_le (length slots) s ≡ false = low in
    let closed = (passed opened [] rest).0 in
    (grind (arith, nat_tests), unnumbered (held_at slots s) (sym (open_at slots s) ∙ closed), rest)

pub passed_ends : PassedEnds
passed_ends units slots s none =
    let (low, rest) = passed (bad_session (limits_of (length slots) units) s) (open_tests slots s []) none in
    passed_is_open slots s [] low rest

pub passed_batches : PassedBatches
passed_batches units slots ss none =
    let passes = batches_name_once (limits_of (length slots) units) (state_of slots) ss none in record {
      opens = λ s there. open_session slots s (passes.within s there) (passes.opens s there);
      once = passes.once;
    }

-- in a list of one no session stands twice
once_in_one : (s t : ℕ) → is_twice (s ∷ []) t ≡ false
once_in_one s t = by_test (s == t)
  where
    by_test : (b : Bool) → nat_lt 1 (length (cond b (s ∷ []) [])) ≡ false
    by_test true = refl
    by_test false = refl

-- an open session alone
pub one_is_open : (slots : SessionSlots) (s : ℕ) → IsOpenSession slots s → AreOpenSessions slots (s ∷ [])
one_is_open slots s opened = record {
  opens = λ t there. elim (contains_cons s [] t there) [
    | inl same ↦ subst (λ (k : ℕ). IsOpenSession slots k) same opened
    | inr later ↦ absurd (contains_nil t later)
  ];
  once = λ t there. once_in_one s t;
}

-- a session and a name that passed the first tests
passed_name : (units : ℕ) (slots : SessionSlots) (s n : ℕ) (rest : List Test)
    → first_of (bad_session (limits_of (length slots) units) s ∷ bad_name (limits_of (length slots) units) n
    ∷ open_tests slots s rest) ≡ None
    → ReachesName units slots s n × (first_of (open_tests slots s rest) ≡ None)
passed_name units slots s n rest none =
    let (low, named) = passed (bad_session (limits_of (length slots) units) s)
    (bad_name (limits_of (length slots) units) n ∷ open_tests slots s rest) none in
    let (known, later) = passed (bad_name (limits_of (length slots) units) n) (open_tests slots s rest) named in
    let in_range : nat_le (960 * units) n ≡ false = known in (
      record { session = passed_is_open slots s rest low later; name = grind (arith, nat_tests) },
      later,
    )

pub passed_gets : PassedGets
passed_gets units slots s n none = (passed_name units slots s n [] none).0

pub passed_shares : PassedShares
passed_shares units slots s n none = passed_name units slots s n (share_tests slots s n) none

-- a write of this size
passed_writes : (units : ℕ) (slots : SessionSlots) (s n size : ℕ)
    → first_of (bad_session (limits_of (length slots) units) s ∷ bad_name (limits_of (length slots) units) n
    ∷ open_tests slots s (write_tests slots s n size)) ≡ None
    → MayWriteName units slots s n size
passed_writes units slots s n size none =
    let (reaches, may) = passed_name units slots s n (write_tests slots s n size) none in
    record { reaches = reaches; may = may }

pub passed_dels : PassedDels
passed_dels units slots s n none = passed_writes units slots s n 0 none

-- the third test may be left out
without_third : (a b d : Test) (rest : List Test) → first_of (a ∷ b ∷ d ∷ rest) ≡ None
    → (d.0 ≡ false) × (first_of (a ∷ b ∷ rest) ≡ None)
without_third a b d rest none =
    let (first, later) = passed a (b ∷ d ∷ rest) none in
    let (second, last) = passed b (d ∷ rest) later in
    let (third, more) = passed d rest last in
    (third, rw (first, second) more)

pub passed_puts : PassedPuts
passed_puts units slots s n bytes none =
    let (short, others) = without_third (bad_session (limits_of (length slots) units) s)
    (bad_name (limits_of (length slots) units) n) (too_long bytes)
    (open_tests slots s (write_tests slots s n (size_in_page (Some bytes)))) none in
    let in_range : nat_lt VALUE_LEN (length bytes) ≡ false = short in
    (passed_writes units slots s n (size_in_page (Some bytes)) others, grind (arith, nat_tests))

-- neither of two tests holds
neither : (a b : Bool) (r : Refusal) → first_of ((a || b, r) ∷ []) ≡ None
    → (a ≡ false) × (b ≡ false)
neither true b r none = absurd (cc none)
neither false true r none = absurd (cc none)
neither false false r none = (refl, refl)

pub passed_lists : PassedLists
passed_lists sessions units a b none =
    let (low, high) = neither (nat_le (960 * units) a) (nat_le (960 * units) b) BadName none in
    (grind (arith, nat_tests), grind (arith, nat_tests))

pub passed_merges : PassedMerges
passed_merges sessions units u none =
    let (low, rest) = passed (nat_le units u, BadUnit) [] none in
    let in_range : nat_le units u ≡ false = low in
    grind (arith, nat_tests)
