-- A bucket is read, and keys are looked up.
use Rattle.std.proofs.Common.{◌≡◌, ℕ, ◌<◌, ◌*◌, Bool, true, false, List, Option, Some, None, Result, Ok, Err, IfErr, OnOk, if◌then◌else◌, nat_le, nat_lt, not, length, refl, sym, ◌∙◌, ap, ap₂, subst, arith}
use Rattle.std.proofs.lemmas.Bool.Decides.{nat_tests}
use Rattle.chip_trait.specs.Story.{held}
use Rattle.chip_trait.specs.Told.{History, Told, Counts}
use Rattle.chip_trait.proofs.CountsLemmas.{counts_none}
use Rattle.ipl_base.specs.Places.{home_of}
use Rattle.ipl_base.specs.declared.fault.Refusal.{Refusal}
use Rattle.ipl_base.specs.declared.fault.Refusal.TheVariants.{BadSession, BadName, NotOpen}
use Rattle.ipl_base.specs.declared.fault.StoreFault.{StoreFault}
use Rattle.ipl_base.specs.declared.fault.StoreFault.TheVariants.{Refused}
use Rattle.ipl_model.specs.State.{State, Limits, is_open_session}
use Rattle.ipl_model.specs.Refusals.{refuses_get, refuses_end}
use Rattle.ipl_meaning.specs.Legible.{of}
use Rattle.ipl_meaning.specs.Rests.{EachStandsEitherIn}
use Rattle.record_locks.specs.Standing.{state_of}
use Rattle.record_locks.proofs.SameLemmas.{alike}
use Rattle.unit_io.specs.Steps.{Settled, EndsWith, Steps}
use Rattle.page_frames.specs.Pages.{tables_in, IsFramed}
use Rattle.store_laws.proofs.StepLemmas.{steps_weaker}
use Rattle.store_laws.specs.Keeps.{KnownPages, KeepsStore, limits_of}
use Rattle.ipl_store.specs.declared.store.Store.{Store}
use Rattle.ipl_store.specs.Calls.{view_of, IsSound, early_fault, entry_fault, Serves, Calls, limits_of_store}
use Rattle.ipl_store.specs.Shown.{IsSeen}
use Rattle.ipl_store.proofs.CallLemmas.{calls_as, calls_fail_as, let_in}
use Rattle.ipl_store.proofs.ShownLemmas.{framed_shows}
use Rattle.ipl_keys.specs.BucketPairs.{Pairs, value_at}
use Rattle.ipl_keys.specs.Bucket.{SpellsBucket}
use Rattle.ipl_keys.specs.BucketHome.{bucket_of}
use Rattle.ipl_keys.specs.declared.fault.KeyFault.{KeyFault}
use Rattle.ipl_keys.specs.declared.fault.KeyFault.TheVariants as key
use Rattle.ipl_keys.specs.KeyState.{KeyState, see_key}
use Rattle.ipl_keys.specs.Records.{bytes_of}
use Rattle.ipl_keys.specs.Sessions.{HasKeyState}
use Rattle.ipl_keys.specs.Laws.{pairs_of}
use Rattle.ipl_keys.specs.Keeps.{LeavesKeys, KeepsKeys}
use Rattle.ipl_keys.specs.Calls.{ReadsPage, is_key, bad_key, bad_pair, first_fault, early_key_fault, LooksAtName, ReadsBucket, Gets, GetsKey, CallsKey, IsNoBadBucket, ServesFor, ServesKeys}
use Rattle.ipl_keys.proofs.NeverLemmas.{get_met}
use Rattle.ipl_keys.proofs.StateLemmas.{seen_holds, seen_key}
use Rattle.ipl_keys.proofs.ServeLemmas.{StoreSteps, leads_steps, keeps_keys, steps_as, leaves_keys, nothing_serves}

-- ---- answers of the store

pub found_as : {T U : Type 0} (early : Option StoreFault) (next : State → State) (most : ℕ)
    (old : Store) (before : Told) (result : Result T StoreFault) (found : T) (v : U) (new : Store)
    (after : Told) → result ≡ Ok found → Calls early next most old before result new after
    → Calls early next most old before (Ok v) new after
found_as {T} early next most old before result found v new after is calls =
    calls_as early next most old before found v new after
    (subst (λ (r : Result T StoreFault). Calls early next most old before r new after) is calls)

pub failed_as : {T U : Type 0} (early : Option StoreFault) (next : State → State) (most : ℕ)
    (old : Store) (before : Told) (result : Result T StoreFault) (fault : StoreFault) (new : Store)
    (after : Told) → result ≡ Err fault → Calls early next most old before result new after
    → Calls {T = U} early next most old before (Err fault) new after
failed_as {T} early next most old before result fault new after is calls =
    calls_fail_as early next most old before fault new after
    (subst (λ (r : Result T StoreFault). Calls early next most old before r new after) is calls)

-- a call that was done has the name's page in a frame: it reads
page_reads_found : {T : Type 0} (early : Option StoreFault) (next : State → State) (most n : ℕ) (a b : Store)
    (before after : Told) (found : T) → Calls early next most a before (Ok found) b after
    → IsFramed b.transactions.pages (home_of n).unit (home_of n).page → ReadsPage n a before
page_reads_found early next most n a b before after found calls framed = by_early early refl
  where
    by_early : (o : Option StoreFault) → early ≡ o → ReadsPage n a before
    by_early (Some fault) is known state x told shown = let answer = (calls.refuses fault is).0 in absurd (cc answer)
    by_early None is known state x told shown =
        framed_shows known.pages next most n a b before after found known.apart (calls.serves is) framed state x told shown

pub page_reads : {T : Type 0} (early : Option StoreFault) (next : State → State) (most n : ℕ) (a b : Store)
    (before after : Told) (result : Result T StoreFault) (found : T) → result ≡ Ok found
    → Calls early next most a before result b after
    → OnOk result (IsFramed b.transactions.pages (home_of n).unit (home_of n).page) → ReadsPage n a before
page_reads {T} early next most n a b before after result found is calls framed =
    page_reads_found early next most n a b before after found
    (subst (λ (r : Result T StoreFault). Calls early next most a before r b after) is calls)
    (subst (λ (r : Result T StoreFault). OnOk r (IsFramed b.transactions.pages (home_of n).unit (home_of n).page)) is framed)

-- ---- early faults

-- of a name of the chip, a get is refused as an end is
pub get_is_end : (limits : Limits) (state : State) (s n : ℕ) → n < limits.names
    → refuses_get limits state s n ≡ refuses_end limits state s
get_is_end limits state s n low = by_session (nat_le limits.sessions s)
  where
    high : nat_le limits.names n ≡ false
    high = grind (arith, nat_tests)

    by_session : (b : Bool) → (if b then Some BadSession else (if nat_le limits.names n then Some BadName else
        (if not (is_open_session state s) then Some NotOpen else None)))
        ≡ (if b then Some BadSession else (if not (is_open_session state s) then Some NotOpen else None))
    by_session true = refl
    by_session false = ap (λ t. if t then Some BadName else (if not (is_open_session state s) then Some NotOpen else None)) high

pub none_early : (entry : Option StoreFault) (bad : Option KeyFault) (refusal : Option Refusal)
    → first_fault entry bad refusal ≡ None → (entry ≡ None) × (bad ≡ None) × (refusal ≡ None)
none_early (Some fault) bad refusal none = absurd (cc none)
none_early None (Some fault) refusal none = absurd (cc none)
none_early None None (Some refusal) none = absurd (cc none)
none_early None None None none = (refl, refl, refl)

-- what comes before the session is looked at comes whatever it is
first_longer : (entry : Option StoreFault) (bad : Option KeyFault) (refusal : Option Refusal)
    (fault : KeyFault) → first_fault entry bad None ≡ Some fault
    → first_fault entry bad refusal ≡ Some fault
first_longer (Some e) bad refusal fault is = is
first_longer None (Some f) refusal fault is = is
first_longer None None refusal fault is = absurd (cc is)

-- a call that wasn't let in
pub not_admitted : {T : Type 0} (s : ℕ) (bad : Option KeyFault) (a b : Store) (before after : Told)
    (fault : KeyFault) (Ends : Type 0) → Some fault ≡ first_fault (entry_fault a) bad None
    → b ≡ a → after ≡ before → IsSound before.places a
    → CallsKey {T = T} (early_key_fault a bad s) Ends a before (Err fault) b after
not_admitted {T} s bad a b before after fault Ends is same idle made =
    let first = first_longer (entry_fault a) bad
    (refuses_end (limits_of_store a) (state_of a.transactions.sessions) s) fault (sym is) in record {
      refuses = λ other also.
          let one : Some fault ≡ Some other = sym first ∙ also in
          let alike : fault ≡ other = cc one in (ap (λ (f : KeyFault). err f) alike, same, idle);
      ends = λ none. let no : Some fault ≡ None = sym first ∙ none in absurd (cc no);
      sound = subst (IsSound before.places) (sym same) made;
      units = ap (λ (store : Store). store.units) same;
      sessions = ap (λ (store : Store). length store.transactions.sessions) same;
      counts = subst (Counts before) (sym idle) (counts_none before);
    }
  where
    err : KeyFault → Result T KeyFault
    err f = Err f

-- none of them is that a record is no bucket
pub early_is_good : (entry : Option StoreFault) (bad : Option KeyFault) (refusal : Option Refusal)
    (fault : KeyFault) → ((f : KeyFault) → bad ≡ Some f → IsNoBadBucket f)
    → first_fault entry bad refusal ≡ Some fault → IsNoBadBucket fault
early_is_good (Some e) bad refusal fault good is =
    let same : key.Store e ≡ fault = cc is in subst IsNoBadBucket same tt
early_is_good None (Some f) refusal fault good is =
    let same : f ≡ fault = cc is in good fault (ap Some same)
early_is_good None None (Some refusal) fault good is =
    let same : key.Store (Refused refusal) ≡ fault = cc is in subst IsNoBadBucket same tt
early_is_good None None None fault good is = absurd (cc is)

pub bad_key_is_good : (bytes : List ℕ) (fault : KeyFault) → bad_key bytes ≡ Some fault
    → IsNoBadBucket fault
bad_key_is_good bytes fault is = by_test (is_key bytes) is
  where
    by_test : (b : Bool) → (if b then None else Some key.BadKey) ≡ Some fault → IsNoBadBucket fault
    by_test true is = absurd (cc is)
    by_test false is = let same : key.BadKey ≡ fault = cc is in subst IsNoBadBucket same tt

pub bad_pair_is_good : (bytes value : List ℕ) (fault : KeyFault) → bad_pair bytes value ≡ Some fault
    → IsNoBadBucket fault
bad_pair_is_good bytes value fault is = by_tests (is_key bytes) (nat_lt 200 (length value)) is
  where
    by_tests : (b long : Bool) → (if b then (if long then Some key.LongValue else None) else Some key.BadKey)
        ≡ Some fault → IsNoBadBucket fault
    by_tests true true is = let same : key.LongValue ≡ fault = cc is in subst IsNoBadBucket same tt
    by_tests true false is = absurd (cc is)
    by_tests false long is = let same : key.BadKey ≡ fault = cc is in subst IsNoBadBucket same tt

-- the store isn't down
pub entry_is_up : (store : Store) → entry_fault store ≡ None → store.down ≡ false
entry_is_up store none = (let_in store None (ap (λ e. early_fault e None) none)).0

-- a session that may end is open in each state that the sessions are of
pub may_end_is_open : (known : KnownPages) (a : Store) (before : Told) (h : History) (state : State) (s : ℕ)
    → a.down ≡ false → KeepsStore before.places known.pages (limits_of_store a) (view_of a) before h state
    → refuses_end (limits_of_store a) (state_of a.transactions.sessions) s ≡ None
    → is_open_session state s ≡ true
may_end_is_open known a before h state s up keeps none =
    sym (alike (state_of a.transactions.sessions) state (keeps.up up).sessions.names s 0).opens
    ∙ by_tests (nat_le (length a.transactions.sessions) s) (is_open_session (state_of a.transactions.sessions) s) none
  where
    by_tests : (high running : Bool)
        → (if high then Some BadSession else (if not running then Some NotOpen else None)) ≡ None
        → running ≡ true
    by_tests true running none = absurd (cc none)
    by_tests false true none = refl
    by_tests false false none = absurd (cc none)

-- ---- a bucket is read

abbrev ok : Result (Unit {0}) StoreFault
ok = Ok tt

-- a call that was done failed with no fault
pub done_hands : {U : Type 0} (answer : Result U KeyFault) (fault : StoreFault)
    → ok ≡ Err fault → answer ≡ Err (key.Store fault)
done_hands answer fault is = absurd (cc is)

module _ {T U : Type 0} (s n : ℕ) (a b : Store) (before after : Told) (r : Result T StoreFault)
    (answer : Result U KeyFault) (Ends : Type 0) (entry : entry_fault a ≡ None)
    (low : n < 960 * a.units)
    (calls : Calls (early_fault (entry_fault a)
    (refuses_get (limits_of_store a) (state_of a.transactions.sessions) s n)) (λ state. state) 14 a
    before r b after)
    (hands : (fault : StoreFault) → r ≡ Err fault → answer ≡ Err (key.Store fault))
    (ends : Serves (λ state. state) 14 a before r b after → Ends) where
  early_is : (o : Option Refusal)
      → refuses_end (limits_of_store a) (state_of a.transactions.sessions) s ≡ o
      → early_fault (entry_fault a)
      (refuses_get (limits_of_store a) (state_of a.transactions.sessions) s n) ≡ early_fault None o
  early_is o is = ap₂ early_fault entry
      (get_is_end (limits_of_store a) (state_of a.transactions.sessions) s n low ∙ is)

  by_refusal : (o : Option Refusal)
      → refuses_end (limits_of_store a) (state_of a.transactions.sessions) s ≡ o
      → CallsKey (first_fault None None o) Ends a before answer b after
  by_refusal (Some refusal) is = record {
    refuses = λ fault also.
        let (answered, same, idle) = calls.refuses (Refused refusal) (early_is (Some refusal) is) in
        let one : key.Store (Refused refusal) ≡ fault = cc also in
        (hands (Refused refusal) answered ∙ ap (λ (f : KeyFault). err f) one, same, idle);
    ends = λ none. absurd (cc none);
    sound = calls.sound;
    units = calls.units;
    sessions = calls.sessions;
    counts = calls.counts;
  }
    where
      err : KeyFault → Result U KeyFault
      err f = Err f
  by_refusal None is = record {
    refuses = λ fault also. absurd (cc also);
    ends = λ none. ends (calls.serves (early_is None is));
    sound = calls.sound;
    units = calls.units;
    sessions = calls.sessions;
    counts = calls.counts;
  }

  pub read_calls : CallsKey (early_key_fault a None s) Ends a before answer b after
  read_calls = subst (λ (e : Option StoreFault). CallsKey (first_fault e None
      (refuses_end (limits_of_store a) (state_of a.transactions.sessions) s)) Ends a before answer b after)
      (sym entry) (by_refusal _ refl)

-- ---- over a story

module _ (known : KnownPages) (s n : ℕ) (a mid : Store) (before told : Told) (h : History) (state : State) (k : KeyState)
    (has : HasKeyState a.units state k) (up : a.down ≡ false) (alike : limits_of_store mid ≡ limits_of_store a)
    (keeps : KeepsStore before.places known.pages (limits_of_store a) (view_of a) before h state) where
  -- what is seen is the bucket of the state
  seen_spells : ReadsPage n a before → (found : Option (List ℕ)) → IsSeen s n a before found
      → SpellsBucket (bytes_of found) (pairs_of has s n)
  seen_spells reads found seen =
      let x = held h.start h.story in
      let same = seen state x keeps.steady.holds
      (reads known state x keeps.steady.holds (keeps.up up).shows) in
      let holds = seen_holds a.units state k has s n in
      record { bucket = holds.is.bucket; text = ap bytes_of same ∙ holds.text }

  looked : (r : Result (Unit {0}) StoreFault) → LooksAtName a before r mid told
      → StoreSteps known (λ st. st) a before r mid told h state
  looked r looks = leads_steps known (λ st. st) a mid before told r h state up alike looks.leads keeps

  abbrev pub Read : List ℕ → History → Type 0
  Read bytes later = KeepsStore before.places known.pages (limits_of_store a) (view_of mid) told later state
      × SpellsBucket bytes (pairs_of has s n)

  abbrev pub Kept : History → Type 0
  Kept later = KeepsStore before.places known.pages (limits_of_store a) (view_of mid) told later state

  abbrev pub ReadSteps : Result (List ℕ) KeyFault → Type 0
  ReadSteps read = Steps (EachStandsEitherIn before.places a.units (of known.pages state.map) (of known.pages state.map))
      (tables_in a.transactions.pages) (tables_in mid.transactions.pages) Read Kept h read before told

  as_read : (r : Result (Unit {0}) StoreFault) (read : Result (List ℕ) KeyFault)
      → (Settled read before told → Settled r before told)
      → ((later : History) → EndsWith r (λ v. Kept) Kept later → EndsWith read Read Kept later)
      → LooksAtName a before r mid told → ReadSteps read
  as_read r read less ends looks = steps_as (EachStandsEitherIn before.places a.units (of known.pages state.map) (of known.pages state.map))
      (tables_in a.transactions.pages) (tables_in mid.transactions.pages) (λ v. Kept) Kept Read Kept h
      r read before told less ends (looked r looks)

  pub reads_steps : (read : Result (List ℕ) KeyFault) → ReadsBucket s n a before read mid told
      → ReadSteps read × IfErr read IsNoBadBucket
  reads_steps (Ok bytes) (sees, text, looks) = (
    as_read (Ok tt) (Ok bytes) (λ settled. tt)
        (λ later kept. (
          kept,
          subst (λ (x : List ℕ). SpellsBucket x (pairs_of has s n)) sees.is
              (seen_spells sees.reads sees.found sees.seen),
        )) looks,
    tt,
  )
  reads_steps (Err (key.Store fault)) looks =
      (as_read (Err fault) (Err (key.Store fault)) (λ settled. settled) (λ later kept. kept) looks, tt)
  reads_steps (Err key.BadKey) never = absurd never
  reads_steps (Err key.LongValue) never = absurd never
  reads_steps (Err (key.BucketFull m)) never = absurd never
  reads_steps (Err (key.BadBucket m)) (is, sees, looks) =
      absurd (sees.is (pairs_of has s n, seen_spells sees.reads sees.found sees.seen))

-- ---- a get

module _ (s : ℕ) (bytes : List ℕ) (a b : Store) (before after : Told)
    (result : Result (Option (List ℕ)) KeyFault)
    (calls : CallsKey (early_key_fault a (bad_key bytes) s)
    (Gets s (bucket_of a.units bytes) bytes a before result b after) a before result b after) where
  abbrev Answers : KeyState → Option (List ℕ) → Type 0
  Answers k found = found ≡ see_key k s bytes

  module _ (known : KnownPages) (h : History) (k : KeyState) (keeps : KeepsKeys before.places known a before h k) where
    abbrev Then : Option (List ℕ) → History → Type 0
    Then found later = KeepsKeys before.places known b after later k × Answers k found

    abbrev Else : History → Type 0
    Else later = KeepsKeys before.places known b after later k

    as_keys : (read : Result (List ℕ) KeyFault) (r : Result (Option (List ℕ)) KeyFault)
        (up : a.down ≡ false)
        → (Settled r before after → Settled read before after)
        → ((later : History) → EndsWith read
        (Read known s (bucket_of a.units bytes) a b before after h keeps.state k keeps.has up (λ i. limits_of (calls.sessions i) (calls.units i)) keeps.keeps)
        (Kept known s (bucket_of a.units bytes) a b before after h keeps.state k keeps.has up (λ i. limits_of (calls.sessions i) (calls.units i)) keeps.keeps)
        later → EndsWith r Then Else later)
        → ReadSteps known s (bucket_of a.units bytes) a b before after h keeps.state k keeps.has up
        (λ i. limits_of (calls.sessions i) (calls.units i)) keeps.keeps read
        → Steps (LeavesKeys before.places known a.units k.map k.map) (tables_in a.transactions.pages)
        (tables_in b.transactions.pages) Then Else h r before after
    as_keys read r up less ends did =
        let n = bucket_of a.units bytes in
        let t = tables_in a.transactions.pages in
        let after_t = tables_in b.transactions.pages in
        steps_weaker (EachStandsEitherIn before.places a.units (of known.pages keeps.state.map) (of known.pages keeps.state.map))
        (LeavesKeys before.places known a.units k.map k.map) t after_t Then Then Else Else h r before after
        (leaves_keys known before.places a.units keeps.state.map keeps.state.map k.map k.map keeps.has.keys keeps.has.keys)
        (λ v later is. is) (λ later is. is)
        (steps_as (EachStandsEitherIn before.places a.units (of known.pages keeps.state.map) (of known.pages keeps.state.map)) t after_t
        (Read known s n a b before after h keeps.state k keeps.has up (λ i. limits_of (calls.sessions i) (calls.units i)) keeps.keeps)
        (Kept known s n a b before after h keeps.state k keeps.has up (λ i. limits_of (calls.sessions i) (calls.units i)) keeps.keeps)
        Then Else h read r before after less ends did)

    by_result : (r : Result (Option (List ℕ)) KeyFault) → a.down ≡ false
        → Gets s (bucket_of a.units bytes) bytes a before r b after
        → ServesFor known (λ k. k) Answers a before r b after h k
    by_result (Ok found) up (bucket, reads, value) =
        let n = bucket_of a.units bytes in
        let did = reads_steps known s n a b before after h keeps.state k keeps.has up (λ i. limits_of (calls.sessions i) (calls.units i))
        keeps.keeps (Ok bucket) reads in record {
          steps = as_keys (Ok bucket) (Ok found) up (λ settled. tt) (λ later (kept, spells). (
            keeps_keys known before.places a b after later keeps.state k kept keeps.has,
            value (pairs_of keeps.has s n) spells ∙ seen_key a.units keeps.state k keeps.has s bytes,
          )) did.0;
          buckets = tt;
        }
    by_result (Err fault) up reads =
        let did = reads_steps known s (bucket_of a.units bytes) a b before after h keeps.state k keeps.has up
        (λ i. limits_of (calls.sessions i) (calls.units i)) keeps.keeps (Err fault) reads in record {
          steps = as_keys (Err fault) (Err fault) up (λ settled. settled)
              (λ later kept. keeps_keys known before.places a b after later keeps.state k kept keeps.has) did.0;
          buckets = did.1;
        }

    by_early : (o : Option KeyFault) → early_key_fault a (bad_key bytes) s ≡ o
        → ServesFor known (λ k. k) Answers a before result b after h k
    by_early None is =
        let none = none_early (entry_fault a) (bad_key bytes)
        (refuses_end (limits_of_store a) (state_of a.transactions.sessions) s) is in
        by_result result (entry_is_up a none.0) (calls.ends is)
    by_early (Some fault) is =
        let (answer, same, idle) = calls.refuses fault is in
        let good = early_is_good (entry_fault a) (bad_key bytes)
        (refuses_end (limits_of_store a) (state_of a.transactions.sessions) s) fault
        (bad_key_is_good bytes) is in
        subst (λ (t : Told). ServesFor known (λ k. k) Answers a before result b t h k) (sym idle)
        (subst (λ (store : Store). ServesFor known (λ k. k) Answers a before result store before h k) (sym same)
        (subst (λ (r : Result (Option (List ℕ)) KeyFault). ServesFor known (λ k. k) Answers a before r a before h k)
        (sym answer) (nothing_serves known (λ k. k) Answers a before fault h k good keeps)))

  pub get_serves : ServesKeys (λ k. k) Answers a before result b after
  get_serves known h k keeps = by_early known h k keeps _ refl

-- ---- the answer of a get

pub gets_found : (early : Option KeyFault) (s n len : ℕ) (bytes bucket : List ℕ) (found : Option (List ℕ))
    (a b : Store) (before after : Told)
    → CallsKey early (ReadsBucket s n a before (Ok bucket) b after) a before (Ok len) b after
    → ((pairs : Pairs) → SpellsBucket bucket pairs → found ≡ value_at bytes pairs)
    → CallsKey early (Gets s n bytes a before (Ok found) b after) a before (Ok found) b after
gets_found early s n len bytes bucket found a b before after calls value = record {
  refuses = λ fault is. let no : Ok len ≡ Err fault = (calls.refuses fault is).0 in absurd (cc no);
  ends = λ none. (bucket, calls.ends none, value);
  sound = calls.sound;
  units = calls.units;
  sessions = calls.sessions;
  counts = calls.counts;
}

pub gets_failed : (early : Option KeyFault) (s n : ℕ) (bytes : List ℕ) (fault : KeyFault) (a b : Store)
    (before after : Told)
    → CallsKey {T = ℕ} early (ReadsBucket s n a before (Err fault) b after) a before (Err fault) b after
    → CallsKey {T = Option (List ℕ)} early (Gets s n bytes a before (Err fault) b after) a before
    (Err fault) b after
gets_failed early s n bytes fault a b before after calls = record {
  refuses = λ other is.
      let (answer, same, idle) = calls.refuses other is in
      let one : fault ≡ other = cc answer in (ap Err one, same, idle);
  ends = λ none. calls.ends none;
  sound = calls.sound;
  units = calls.units;
  sessions = calls.sessions;
  counts = calls.counts;
}

-- the fault of a bad key, and the name of a bucket, as they were computed
pub named : {T : Type 0} (s : ℕ) (a b : Store) (before after : Told) (result : Result T KeyFault)
    (Ends : ℕ → Type 0) (bad other : Option KeyFault) (n m : ℕ) → bad ≡ other → n ≡ m
    → CallsKey (early_key_fault a bad s) (Ends n) a before result b after
    → CallsKey (early_key_fault a other s) (Ends m) a before result b after
named s a b before after result Ends bad other n m same is calls =
    subst (λ (q : ℕ). CallsKey (early_key_fault a other s) (Ends q) a before result b after) is
    (subst (λ (f : Option KeyFault). CallsKey (early_key_fault a f s) (Ends n) a before result b after) same
    calls)

pub gets_key : (s : ℕ) (bytes : List ℕ) (a b : Store) (before after : Told)
    (result : Result (Option (List ℕ)) KeyFault)
    → CallsKey (early_key_fault a (bad_key bytes) s)
    (Gets s (bucket_of a.units bytes) bytes a before result b after) a before result b after
    → GetsKey s bytes a before result b after
gets_key s bytes a b before after result calls = record {
  calls = calls;
  serves = get_serves s bytes a b before after result calls;
  met = get_met s (bucket_of a.units bytes) bytes a b before after result calls;
}
