-- Keys are changed: a bucket is read, and then written.
use Rattle.std.proofs.Common.{◌≡◌, ◌∙◌, ℕ, ◌==◌, length, ◌⊎◌, inl, inr, Bool, true, false, List, [], ◌∷◌, Option, Some, None, Result, Ok, Err, IfErr, if◌then◌else◌, refl, sym, ap, subst}
use Rattle.chip_trait.specs.Told.{History, Told, Counts, adds_all}
use Rattle.chip_trait.proofs.CountsLemmas.{counts_then}
use Rattle.ipl_base.specs.declared.fault.Refusal.{Refusal}
use Rattle.ipl_base.specs.declared.fault.StoreFault.{StoreFault}
use Rattle.ipl_base.specs.declared.fault.StoreFault.TheVariants as store
use Rattle.ipl_model.specs.State.{Map, State, is_open_session, Limits}
use Rattle.ipl_model.specs.Refusals.{refuses_end}
use Rattle.ipl_model.specs.Operations.{after_write}
use Rattle.ipl_meaning.specs.Legible.{of}
use Rattle.ipl_meaning.specs.Rests.{EachStandsEitherIn}
use Rattle.record_locks.specs.Standing.{state_of}
use Rattle.unit_io.specs.Steps.{Settled, EndsWith, Steps}
use Rattle.page_frames.specs.Pages.{tables_in}
use Rattle.store_laws.specs.Keeps.{KnownPages, limits_of, KeepsStore}
use Rattle.store_laws.specs.Refusals.{sessions_refuse_del}
use Rattle.store_laws.proofs.StepLemmas.{steps_then, steps_weaker}
use Rattle.ipl_store.specs.declared.store.Store.{Store}
use Rattle.ipl_store.specs.Calls.{view_of, IsSound, early_fault, entry_fault, limits_of_store}
use Rattle.ipl_store.specs.Puts.{is_page_full, found_room, put_fault, put_next}
use Rattle.ipl_store.proofs.CallLemmas.{let_in}
use Rattle.std.specs.Option.{option_map_or}
use Rattle.ipl_keys.specs.BucketPairs.{Pairs, set_pair, remove_pair}
use Rattle.ipl_keys.specs.Bucket.{SpellsBucket, bucket_bytes}
use Rattle.ipl_keys.specs.BucketHome.{bucket_of, HaveHome}
use Rattle.ipl_keys.proofs.BucketLawLemmas.{buckets_spell_once}
use Rattle.ipl_keys.proofs.BucketHomeLemmas.{sets_keep_home, removals_keep_home}
use Rattle.ipl_keys.specs.declared.fault.KeyFault.{KeyFault}
use Rattle.ipl_keys.specs.declared.fault.KeyFault.TheVariants as key
use Rattle.ipl_keys.specs.KeyState.{KeyWrite, KeyState, after_key_write}
use Rattle.ipl_keys.specs.Records.{IsBucketOf, HasKeys}
use Rattle.ipl_keys.specs.Sessions.{pairs_after, written, HasKeyState}
use Rattle.ipl_keys.specs.Laws.{pairs_of}
use Rattle.ipl_keys.specs.Keeps.{LeavesKeys, KeepsKeys}
use Rattle.ipl_keys.specs.Calls.{early_key_fault, ReadsBucket, change_of, HandsOn, handed, PutsBytes, WritesName, IsFull, IsBucketWritten, ChangesBucket, CallsKey, AnswersNothing, IsNoBadBucket, ServesFor, ServesKeys}
use Rattle.ipl_keys.proofs.StateLemmas.{seen_holds, wrote_map, writes_keep_keys}
use Rattle.ipl_keys.proofs.ServeLemmas.{StoreSteps, leads_steps, keeps_keys, keys_steps, leaves_keys, steps_as, nothing_serves}
use Rattle.ipl_keys.proofs.SessionLemmas.{call_serves}
use Rattle.ipl_keys.proofs.ReadLemmas.{none_early, early_is_good, entry_is_up, may_end_is_open, Read, Kept, ReadSteps, reads_steps}

-- ---- a put of the store

-- one that failed found no room, or says nothing of it
never_room : (fault : StoreFault) → found_room (Err fault) ≡ Ok true → ⊥
never_room store.Down is = cc is
never_room store.Spent is = cc is
never_room (store.Refused r) is = by_full (is_page_full r) is
  where
    by_full : (b : Bool) → (if b then Ok false else Err (store.Refused r)) ≡ Ok true → ⊥
    by_full true is = cc is
    by_full false is = cc is
never_room (store.Chip e) is = cc is

put_map : (s n : ℕ) (bytes : List ℕ) (r : Result Bool StoreFault) (state : State)
    → (put_next s n bytes r state).map ≡ state.map
put_map s n bytes (Ok true) state = wrote_map state s (n, Some bytes)
put_map s n bytes (Ok false) state = refl
put_map s n bytes (Err fault) state = wrote_map state s (n, Some bytes)

-- it is up where it isn't refused early
write_is_up : (a : Store) (refusal : Option Refusal) → early_fault (entry_fault a) refusal ≡ None
    → a.down ≡ false
write_is_up a refusal none = (let_in a refusal none).0

module _ (known : KnownPages) (s n : ℕ) (w : KeyWrite) (a b : Store) (before after : Told) (h : History) (state : State)
    (k : KeyState) (keeps : KeepsStore before.places known.pages (limits_of_store a) (view_of a) before h state)
    (has : HasKeyState a.units state k) where
  abbrev turn : KeyState → KeyState
  turn k = after_key_write k s w

  own : KeepsKeys before.places known a before h k
  own = record { state = state; keeps = keeps; has = has }

  -- of bytes that say the session's next writes
  module _ (bytes : List ℕ) (then_has : HasKeyState a.units (after_write state s (n, Some bytes)) (turn k))
    where
      put_keys : (r : Result Bool StoreFault)
          → HasKeys a.units (put_next s n bytes r state).map k.map
      put_keys r = subst (λ (m : Map). HasKeys a.units m k.map) (sym (put_map s n bytes r state)) has.keys

      put_ends : (fault : StoreFault) (r : Result Bool StoreFault) → (r ≡ Ok true → ⊥) → (later : History)
          → EndsWith r
          (λ v l. KeepsStore before.places known.pages (limits_of_store a) (view_of b) after l (put_next s n bytes r state))
          (λ l. KeepsStore before.places known.pages (limits_of_store a) (view_of b) after l state) later
          → KeepsKeys before.places known b after later k
      put_ends fault (Ok true) never later kept = absurd (never refl)
      put_ends fault (Ok false) never later kept = keeps_keys known before.places a b after later state k kept has
      put_ends fault (Err e) never later kept = keeps_keys known before.places a b after later state k kept has

      put_less : (fault : StoreFault) (r : Result Bool StoreFault)
          → Settled {T = Unit {0}} {E = KeyFault} (Err (key.Store fault)) before after → Settled r before after
      put_less fault (Ok v) settled = tt
      put_less fault (Err e) settled = settled

      put_served : (answer : Result (Unit {0}) StoreFault)
          → StoreSteps known (put_next s n bytes (found_room answer)) a before (found_room answer) b after h state
          → ServesFor known turn AnswersNothing a before (handed answer) b after h k
      put_served (Ok v) did = record {
        steps = keys_steps {T = Bool} {U = Unit {0}} known (put_next s n bytes (Ok true)) turn AnswersNothing a b before after
            (Ok true) (handed (Ok v)) h state k has.keys then_has.keys (λ s. s)
            (λ later kept. (keeps_keys known before.places a b after later (after_write state s (n, Some bytes)) (turn k) kept then_has, tt))
            did;
        buckets = tt;
      }
      put_served (Err fault) did = record {
        steps = keys_steps {T = Bool} {U = Unit {0}} known (put_next s n bytes (found_room (Err fault))) turn AnswersNothing
            a b before after (found_room (Err fault)) (handed (Err fault)) h state k has.keys
            (put_keys (found_room (Err fault))) (put_less fault (found_room (Err fault)))
            (put_ends fault (found_room (Err fault)) (never_room fault)) did;
        buckets = tt;
      }

      put_refused : (answer : Result (Unit {0}) StoreFault) (fault : StoreFault)
          → found_room answer ≡ Err fault → ServesFor known turn AnswersNothing a before (handed answer) a before h k
      put_refused (Ok v) fault is = absurd (cc is)
      put_refused (Err e) fault is = nothing_serves known turn AnswersNothing a before (key.Store e) h k tt own

      put_serves : (answer : Result (Unit {0}) StoreFault) → PutsBytes s n bytes a before answer b after
          → ServesFor known turn AnswersNothing a before (handed answer) b after h k
      put_serves answer puts = by_early (put_fault a s n bytes) refl
        where
          by_early : (o : Option StoreFault) → put_fault a s n bytes ≡ o
              → ServesFor known turn AnswersNothing a before (handed answer) b after h k
          by_early None is = put_served answer
              (leads_steps known (put_next s n bytes (found_room answer)) a b before after (found_room answer) h state
              (write_is_up a _ is) (λ i. limits_of (puts.calls.sessions i) (puts.calls.units i)) (puts.calls.serves is).leads keeps)
          by_early (Some fault) is =
              let (answered, same, idle) = puts.calls.refuses fault is in
              subst (λ (t : Told). ServesFor known turn AnswersNothing a before (handed answer) b t h k) (sym idle)
              (subst (λ (x : Store). ServesFor known turn AnswersNothing a before (handed answer) x before h k) (sym same)
              (put_refused answer fault answered))

  -- a put or a delete of what is written for pairs
  writes_serve : (answer : Result (Unit {0}) StoreFault) (change : Option (List ℕ))
      → HasKeyState a.units (after_write state s (n, change)) (turn k)
      → WritesName s n change a before answer b after
      → ServesFor known turn AnswersNothing a before (handed answer) b after h k
  writes_serve answer None then_has did =
      call_serves known (λ st. after_write st s (n, None)) turn a b before after h k
      (early_fault (entry_fault a) (sessions_refuse_del (limits_of_store a) a.transactions.sessions s n)) 14
      answer (write_is_up a _) did state keeps has (λ up. then_has)
  writes_serve answer (Some bytes) then_has did = put_serves bytes then_has answer did

-- bytes, where there are some, are put
pub some_change : (bytes : List ℕ) → false ≡ (length bytes == 0) → change_of bytes ≡ Some bytes
some_change [] is = absurd (cc is)
some_change (b ∷ bytes) is = refl

-- the bytes of pairs are what is written for them
pub written_change : (bytes : List ℕ) (pairs : Pairs) → bytes ≡ bucket_bytes pairs
    → change_of bytes ≡ written pairs
written_change bytes [] is = ap change_of is
written_change bytes (p ∷ pairs) is = ap change_of is

-- ---- the changed bucket

-- its keys live there still
after_home : (units : ℕ) (w : KeyWrite) (pairs : Pairs) → HaveHome units (bucket_of units w.0) pairs
    → HaveHome units (bucket_of units w.0) (pairs_after w pairs)
after_home units w pairs home = by_change w.1
  where
    by_change : (change : Option (List ℕ)) → HaveHome units (bucket_of units w.0)
        (option_map_or (λ value. set_pair w.0 value pairs) change (remove_pair w.0 pairs))
    by_change None = removals_keep_home units (bucket_of units w.0) w.0 pairs home
    by_change (Some value) = sets_keep_home units (bucket_of units w.0) w.0 value pairs refl home

module _ (known : KnownPages) (s : ℕ) (w : KeyWrite) (mid b : Store) (told after : Told) (h : History) (state : State)
    (k : KeyState) (result : Result (Unit {0}) KeyFault)
    (running : is_open_session state s ≡ true) where
  -- what is left from a key state with these limits on so many places
  abbrev WritesServe : ℕ → Limits → Type 0
  WritesServe places limits = (has : HasKeyState limits.units state k)
      → KeepsStore places known.pages limits (view_of mid) told h state
      → IsBucketWritten s (bucket_of limits.units w.0) (pairs_after w (pairs_of has s (bucket_of limits.units w.0))) mid told
      result b after
      → Steps (LeavesKeys places known limits.units k.map k.map) (tables_in mid.transactions.pages)
      (tables_in b.transactions.pages)
      (λ v later. KeepsKeys places known b after later (after_key_write k s w) × AnswersNothing k v)
      (λ later. KeepsKeys places known b after later k) h result told after × IfErr result IsNoBadBucket

  at_mid : WritesServe told.places (limits_of_store mid)
  at_mid has keeps wrote =
      let n = bucket_of mid.units w.0 in
      let pairs = pairs_of has s n in
      let home = after_home mid.units w pairs (seen_holds mid.units state k has s n).is.home in
      let bucket : IsBucketOf mid.units n (pairs_after w pairs) =
      record { bucket = wrote.bucket; home = home } in
      let (answer, is, did) = wrote.writes in
      let serves = subst (λ (q : Result (Unit {0}) KeyFault).
      ServesFor known (λ (x : KeyState). after_key_write x s w) AnswersNothing mid told q b after h k) (sym is)
      (writes_serve known s n w mid b told after h state k keeps has answer (written (pairs_after w pairs))
      (writes_keep_keys mid.units state k s w has running bucket) did) in
      (serves.steps, serves.buckets)

  pub at_limits : (places : ℕ) (limits : Limits) → told.places ≡ places → limits_of_store mid ≡ limits
      → WritesServe places limits
  at_limits places limits there same = subst (λ (p : ℕ). WritesServe p limits) there
      (subst (WritesServe told.places) same at_mid)

-- ---- both

module _ (s : ℕ) (w : KeyWrite) (a b : Store) (before after : Told) (result : Result (Unit {0}) KeyFault)
    (Rest : Pairs → Store → Told → Type 0)
    (rest : (pairs : Pairs) (mid : Store) (told : Told) → Rest pairs mid told
    → IsFull (bucket_of a.units w.0) (pairs_after w pairs) mid told result b after
    ⊎ IsBucketWritten s (bucket_of a.units w.0) (pairs_after w pairs) mid told result b after)
  where
    abbrev name : ℕ
    name = bucket_of a.units w.0

    abbrev Turn : KeyState → KeyState
    Turn k = after_key_write k s w

    abbrev Serving : KnownPages → Result (Unit {0}) KeyFault → Store → Told → History → KeyState → Type 0
    Serving known r store t h k = ServesFor known Turn AnswersNothing a before r store t h k

    module _ (known : KnownPages) (h : History) (k : KeyState) (keeps : KeepsKeys before.places known a before h k) (up : a.down ≡ false)
        (running : is_open_session keeps.state s ≡ true) (mid : Store) (told : Told)
        (alike : limits_of_store mid ≡ limits_of_store a) (counts : Counts before told) where
      abbrev Reading : Result (List ℕ) KeyFault → Type 0
      Reading read = ReadSteps known s name a mid before told h keeps.state k keeps.has up alike keeps.keeps read

      abbrev AtRead : List ℕ → History → Type 0
      AtRead bytes later = Read known s name a mid before told h keeps.state k keeps.has up alike keeps.keeps
          bytes later

      abbrev AtEnd : History → Type 0
      AtEnd later = Kept known s name a mid before told h keeps.state k keeps.has up alike keeps.keeps later

      -- it ends with this fault once the bucket was read, or couldn't be
      ends_there : (read : Result (List ℕ) KeyFault) (fault : KeyFault) → IsNoBadBucket fault
          → (Settled {T = Unit {0}} {E = KeyFault} (Err fault) before told → Settled read before told)
          → ((later : History) → EndsWith read AtRead AtEnd later → AtEnd later)
          → Reading read → Serving known (Err fault) mid told h k
      ends_there read fault good less ends did = record {
        steps = steps_weaker (EachStandsEitherIn before.places a.units (of known.pages keeps.state.map) (of known.pages keeps.state.map))
            (LeavesKeys before.places known a.units k.map k.map) (tables_in a.transactions.pages) (tables_in mid.transactions.pages)
            (λ v later. KeepsKeys before.places known mid told later (Turn k) × AnswersNothing k v)
            (λ v later. KeepsKeys before.places known mid told later (Turn k) × AnswersNothing k v)
            (λ later. KeepsKeys before.places known mid told later k) (λ later. KeepsKeys before.places known mid told later k) h failed before told
            (leaves_keys known before.places a.units keeps.state.map keeps.state.map k.map k.map keeps.has.keys keeps.has.keys)
            (λ v later is. is) (λ later is. is)
            (steps_as (EachStandsEitherIn before.places a.units (of known.pages keeps.state.map) (of known.pages keeps.state.map))
            (tables_in a.transactions.pages) (tables_in mid.transactions.pages) AtRead AtEnd
            (λ v later. KeepsKeys before.places known mid told later (Turn k) × AnswersNothing k v)
            (λ later. KeepsKeys before.places known mid told later k) h read failed before told less
            (λ later is. keeps_keys known before.places a mid told later keeps.state k (ends later is) keeps.has) did);
        buckets = good;
      }
        where
          failed : Result (Unit {0}) KeyFault
          failed = Err fault

      -- it goes on and writes
      goes_on : (bytes : List ℕ) (pairs : Pairs) → Reading (Ok bytes) → SpellsBucket bytes pairs
          → IsBucketWritten s name (pairs_after w pairs) mid told result b after → Serving known result b after h k
      goes_on bytes pairs first spells wrote =
          let (kept, also) = first.ends tt in
          let same = buckets_spell_once bytes pairs (pairs_of keeps.has s name) spells also in
          let second = at_limits known s w mid b told after (adds_all first.added h) keeps.state k result running
          before.places (limits_of_store a) counts.places alike keeps.has kept
          (subst (λ (ps : Pairs). IsBucketWritten s name (pairs_after w ps) mid told result b after) same wrote) in
          record {
            steps = steps_then (List ℕ) (Unit {0}) KeyFault KeyFault
                (EachStandsEitherIn before.places a.units (of known.pages keeps.state.map) (of known.pages keeps.state.map))
                (LeavesKeys before.places known a.units k.map k.map) (LeavesKeys before.places known a.units k.map k.map)
                (tables_in a.transactions.pages) (tables_in mid.transactions.pages)
                (tables_in b.transactions.pages) AtRead AtEnd
                (λ v later. KeepsKeys before.places known b after later (Turn k) × AnswersNothing k v)
                (λ later. KeepsKeys before.places known b after later k) h bytes result before told after
                (leaves_keys known before.places a.units keeps.state.map keeps.state.map k.map k.map keeps.has.keys keeps.has.keys)
                (λ later is. is) counts first second.0;
            buckets = second.1;
          }

      moved : (r : Result (Unit {0}) KeyFault) → result ≡ r → b ≡ mid → after ≡ told
          → Serving known r mid told h k → Serving known result b after h k
      moved r answer same idle did =
          subst (λ (t : Told). Serving known result b t h k) (sym idle)
          (subst (λ (store : Store). Serving known result store told h k) (sym same)
          (subst (λ (q : Result (Unit {0}) KeyFault). Serving known q mid told h k) (sym answer) did))

      by_read : (read : Result (List ℕ) KeyFault) → ReadsBucket s name a before read mid told
          → ((fault : KeyFault) → read ≡ Err fault → (result ≡ Err fault) × (b ≡ mid) × (after ≡ told))
          → ((bytes : List ℕ) → read ≡ Ok bytes
          → (pairs : Pairs) × SpellsBucket bytes pairs × Rest pairs mid told)
          → Serving known result b after h k
      by_read (Err fault) reads fails goes =
          let (answer, same, idle) = fails fault refl in
          let did = reads_steps known s name a mid before told h keeps.state k keeps.has up alike keeps.keeps
          (Err fault) reads in
          moved (Err fault) answer same idle
          (ends_there (Err fault) fault did.1 (λ settled. settled) (λ later kept. kept) did.0)
      by_read (Ok bytes) reads fails goes =
          let (pairs, spells, is) = goes bytes refl in
          let did = reads_steps known s name a mid before told h keeps.state k keeps.has up alike keeps.keeps
          (Ok bytes) reads in
          elim (rest pairs mid told is) [
            | inl full ↦ moved (Err (key.BucketFull name)) full.answer full.same full.idle
                (ends_there (Ok bytes) (key.BucketFull name) tt (λ settled. tt) (λ later kept. kept.0) did.0)
            | inr wrote ↦ goes_on bytes pairs did.0 spells wrote
          ]

    pub changing_serves : (bad : Option KeyFault)
        → ((fault : KeyFault) → bad ≡ Some fault → IsNoBadBucket fault)
        → CallsKey (early_key_fault a bad s) (ChangesBucket s name Rest a before result b after) a before result b
        after
        → ServesKeys Turn AnswersNothing a before result b after
    changing_serves bad good calls known h k keeps = by_early (early_key_fault a bad s) refl
      where
        by_early : (o : Option KeyFault) → early_key_fault a bad s ≡ o → Serving known result b after h k
        by_early None is =
            let none = none_early (entry_fault a) bad
            (refuses_end (limits_of_store a) (state_of a.transactions.sessions) s) is in
            let up = entry_is_up a none.0 in
            let did = calls.ends is in
            by_read known h k keeps up (may_end_is_open known a before h keeps.state s up keeps.keeps none.2) did.mid
            did.told (λ i. limits_of (did.sessions i) (did.units i)) did.counts did.read did.reads did.fails did.goes_on
        by_early (Some fault) is =
            let (answer, same, idle) = calls.refuses fault is in
            let fine = early_is_good (entry_fault a) bad
            (refuses_end (limits_of_store a) (state_of a.transactions.sessions) s) fault good is in
            subst (λ (t : Told). Serving known result b t h k) (sym idle)
            (subst (λ (store : Store). Serving known result store before h k) (sym same)
            (subst (λ (q : Result (Unit {0}) KeyFault). Serving known q a before h k) (sym answer)
            (nothing_serves known Turn AnswersNothing a before fault h k fine keeps)))

-- ---- what a put and a delete do

module _ (early : Option KeyFault) (s n : ℕ) (Rest : Pairs → Store → Told → Type 0) (a mid : Store)
    (before told : Told) where
  -- the reading failed, or ended the call
  pub changes_failed : (fault : KeyFault)
      → CallsKey {T = ℕ} early (ReadsBucket s n a before (Err fault) mid told) a before (Err fault) mid told
      → CallsKey {T = Unit {0}} early (ChangesBucket s n Rest a before (Err fault) mid told) a before (Err fault)
      mid told
  changes_failed fault calls = record {
    refuses = λ other is.
        let (answer, same, idle) = calls.refuses other is in
        let one : fault ≡ other = cc answer in (ap Err one, same, idle);
    ends = λ none. record {
      mid = mid;
      told = told;
      read = Err fault;
      reads = calls.ends none;
      sound = calls.sound;
      units = calls.units;
      sessions = calls.sessions;
      counts = calls.counts;
      fails = λ other is. let one : fault ≡ other = cc is in (ap Err one, refl, refl);
      goes_on = λ bytes is. absurd (cc is);
    };
    sound = calls.sound;
    units = calls.units;
    sessions = calls.sessions;
    counts = calls.counts;
  }

  -- the bucket was read
  pub changes_read : (b : Store) (after : Told) (result : Result (Unit {0}) KeyFault) (len : ℕ)
      (bytes : List ℕ) (pairs : Pairs)
      → CallsKey early (ReadsBucket s n a before (Ok bytes) mid told) a before (Ok len) mid told
      → SpellsBucket bytes pairs → Rest pairs mid told → IsSound told.places b → limits_of_store b ≡ limits_of_store mid
      → Counts told after
      → CallsKey early (ChangesBucket s n Rest a before result b after) a before result b after
  changes_read b after result len bytes pairs calls spells rest sound alike counts = record {
    refuses = λ fault is. let no : Ok len ≡ Err fault = (calls.refuses fault is).0 in absurd (cc no);
    ends = λ none. record {
      mid = mid;
      told = told;
      read = Ok bytes;
      reads = calls.ends none;
      sound = calls.sound;
      units = calls.units;
      sessions = calls.sessions;
      counts = calls.counts;
      fails = λ fault is. absurd (cc is);
      goes_on = λ other is.
          let same : bytes ≡ other = cc is in
          (pairs, subst (λ (x : List ℕ). SpellsBucket x pairs) same spells, rest);
    };
    sound = subst (λ (p : ℕ). IsSound p b) calls.counts.places sound;
    units = ap (λ (l : Limits). l.units) alike ∙ calls.units;
    sessions = ap (λ (l : Limits). l.sessions) alike ∙ calls.sessions;
    counts = counts_then before told after calls.counts counts;
  }

-- what was written are the bytes of these pairs
pub pairs_written : (s n : ℕ) (bytes : List ℕ) (pairs : Pairs) (a b : Store) (before after : Told)
    (result : Result (Unit {0}) KeyFault) → SpellsBucket bytes pairs
    → HandsOn (λ answer. WritesName s n (change_of bytes) a before answer b after) result
    → IsBucketWritten s n pairs a before result b after
pairs_written s n bytes pairs a b before after result spells (answer, is, did) = record {
  bucket = spells.bucket;
  writes = (
    answer,
    is,
    subst (λ (o : Option (List ℕ)). WritesName s n o a before answer b after)
        (written_change bytes pairs spells.text) did,
  );
}

-- the answer of a put whose bucket is full
abbrev pub full_at : ℕ → Result (Unit {0}) KeyFault
full_at n = Err (key.BucketFull n)
