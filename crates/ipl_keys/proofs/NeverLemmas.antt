-- The store's refusals of a name that isn't there and of a value that is too long never come.
use Rattle.std.proofs.Common.{◌≡◌, ℕ, ◌<◌, ◌≤◌, ◌*◌, ◌⊎◌, inl, inr, Bool, true, false, List, [], ◌∷◌, Option, Some, None, Result, Ok, Err, IfErr, if◌then◌else◌, nat_le, nat_lt, not, length, refl, sym, ◌∙◌, ap, subst, arith}
use Rattle.std.proofs.lemmas.Bool.Decides.{nat_tests}
use Rattle.chip_trait.specs.Told.{Told}
use Rattle.ipl_base.specs.Sizes.{size_in_page}
use Rattle.ipl_base.specs.declared.fault.Refusal.{Refusal}
use Rattle.ipl_base.specs.declared.fault.Refusal.TheVariants.{BadSession, BadName, TooLong, AlreadyOpen, NotOpen, Conflict, WritesFull, SharesFull, PendingFull, BadUnit, HoldsFull, NotHeld, PageFull, Twice, SessionsOpen}
use Rattle.ipl_base.specs.declared.fault.StoreFault.{StoreFault}
use Rattle.ipl_base.specs.declared.fault.StoreFault.TheVariants.{Down, Spent, Refused, Chip}
use Rattle.ipl_model.specs.State.{State, Limits, is_open_session, holder_for_write}
use Rattle.ipl_model.specs.Operations.{after_write}
use Rattle.ipl_model.specs.Refusals.{refuses_end, conflict, writes_full}
use Rattle.record_locks.specs.Held.{SessionSlots}
use Rattle.record_locks.specs.Locks.{pending_full}
use Rattle.record_locks.specs.Standing.{state_of}
use Rattle.store_trait.specs.Keeping.{LAST_NUMBER}
use Rattle.store_laws.specs.Keeps.{limits_of}
use Rattle.store_laws.specs.Refusals.{sessions_refuse_put, sessions_refuse_del}
use Rattle.ipl_store.specs.declared.store.Store.{Store}
use Rattle.ipl_store.specs.Calls.{counter_of, early_fault, entry_fault, Calls, limits_of_store}
use Rattle.ipl_store.specs.Puts.{is_page_full, found_room, put_fault, put_next}
use Rattle.ipl_keys.specs.BucketPairs.{Pairs}
use Rattle.ipl_keys.specs.Bucket.{IsBucket, bucket_bytes}
use Rattle.ipl_keys.specs.BucketHome.{bucket_of}
use Rattle.ipl_keys.specs.declared.fault.KeyFault.{KeyFault}
use Rattle.ipl_keys.specs.declared.fault.KeyFault.TheVariants as key
use Rattle.ipl_keys.specs.Sessions.{written}
use Rattle.ipl_keys.specs.Calls.{is_key, bad_key, bad_pair, first_fault, early_key_fault, ReadsBucket, Gets, handed, WritesName, IsFull, IsBucketWritten, ChangesBucket, CallsKey, may_meet, IsMet}

-- ---- lists of tests

-- the first test, or a later one
first_met : (b : Bool) (q : Refusal) (rest : Option Refusal) (r : Refusal)
    → (if b then Some q else rest) ≡ Some r → (b ≡ true → may_meet q ≡ true)
    → (rest ≡ Some r → may_meet r ≡ true) → may_meet r ≡ true
first_met true q rest r is here later =
    let same : q ≡ r = cc is in subst (λ (x : Refusal). may_meet x ≡ true) same (here refl)
first_met false q rest r is here later = later is

no_test : (r : Refusal) → None ≡ Some r → may_meet r ≡ true
no_test r is = absurd (cc is)

end_met : (limits : Limits) (state : State) (s : ℕ) (r : Refusal)
    → refuses_end limits state s ≡ Some r → may_meet r ≡ true
end_met limits state s r is = first_met (nat_le limits.sessions s) BadSession _ r is (λ t. refl)
    (λ later. first_met (not (is_open_session state s)) NotOpen None r later (λ t. refl) (no_test r))

module _ (units : ℕ) (slots : SessionSlots) (s n : ℕ) (low : n < 960 * units) where
  high : nat_le (960 * units) n ≡ true → ⊥
  high past = grind (arith, nat_tests, past, low)

  -- the tests behind those of the name and the value
  locks_met : (size : ℕ) (r : Refusal) → (if not (is_open_session (state_of slots) s) then Some NotOpen else
      (if (conflict (holder_for_write (state_of slots) s n)).0
      then Some (conflict (holder_for_write (state_of slots) s n)).1 else
      (if (writes_full (state_of slots) s n).0 then Some WritesFull else
      (if (pending_full slots n size).0 then Some (pending_full slots n size).1 else None)))) ≡ Some r
      → may_meet r ≡ true
  locks_met size r is = first_met (not (is_open_session (state_of slots) s)) NotOpen _ r is (λ t. refl)
      (λ one. first_met (conflict (holder_for_write (state_of slots) s n)).0
      (conflict (holder_for_write (state_of slots) s n)).1 _ r one (λ t. refl)
      (λ two. first_met (writes_full (state_of slots) s n).0 WritesFull _ r two (λ t. refl)
      (λ three. first_met (pending_full slots n size).0 (pending_full slots n size).1 None r three
      (λ t. refl) (no_test r))))

  del_met : (r : Refusal) → sessions_refuse_del (limits_of (length slots) units) slots s n ≡ Some r
      → may_meet r ≡ true
  del_met r is = first_met (nat_le (length slots) s) BadSession _ r is (λ t. refl)
      (λ one. first_met (nat_le (960 * units) n) BadName _ r one (λ past. absurd (high past))
      (λ two. locks_met (size_in_page None) r two))

  put_met : (bytes : List ℕ) → length bytes ≤ 464 → (r : Refusal)
      → sessions_refuse_put (limits_of (length slots) units) slots s n bytes ≡ Some r → may_meet r ≡ true
  put_met bytes short r is = first_met (nat_le (length slots) s) BadSession _ r is (λ t. refl)
      (λ one. first_met (nat_le (960 * units) n) BadName _ r one (λ past. absurd (high past))
      (λ two. first_met (nat_lt 464 (length bytes)) TooLong _ r two (λ long. absurd (fits long))
      (λ three. locks_met (size_in_page (Some bytes)) r three)))
    where
      fits : nat_lt 464 (length bytes) ≡ true → ⊥
      fits long = grind (arith, nat_tests, long, short)

-- ---- the store's calls

early_met : (down spent : Bool) (o : Option Refusal) (r : Refusal)
    → early_fault (if down then Some Down else (if spent then Some Spent else None)) o ≡ Some (Refused r)
    → ((q : Refusal) → o ≡ Some q → may_meet q ≡ true) → may_meet r ≡ true
early_met true spent o r is met = absurd (cc is)
early_met false true o r is met = absurd (cc is)
early_met false false (Some q) r is met =
    let same : q ≡ r = cc is in subst (λ (x : Refusal). may_meet x ≡ true) same (met q refl)
early_met false false None r is met = absurd (cc is)

calls_met : {T : Type 0} (a b : Store) (before after : Told) (refusal : Option Refusal)
    (next : State → State) (r : Refusal) → ((q : Refusal) → refusal ≡ Some q → may_meet q ≡ true)
    → Calls {T = T} (early_fault (entry_fault a) refusal) next 14 a before (Err (Refused r)) b after
    → may_meet r ≡ true
calls_met a b before after refusal next r met calls = by_early (early_fault (entry_fault a) refusal) refl
  where
    by_early : (o : Option StoreFault) → early_fault (entry_fault a) refusal ≡ o → may_meet r ≡ true
    by_early (Some fault) is =
        let answer = (calls.refuses fault is).0 in
        let same : Refused r ≡ fault = cc answer in
        early_met a.down (nat_lt LAST_NUMBER (counter_of a)) refusal r (is ∙ ap Some (sym same)) met
    by_early None is =
        let ends = (calls.serves is).ends in
        let clash : Refused r ≡ Chip ends.0 = ends.1 in absurd (cc clash)

full_is_met : (r : Refusal) → is_page_full r ≡ true → may_meet r ≡ true
full_is_met BadSession is = refl
full_is_met BadName is = absurd (cc is)
full_is_met TooLong is = absurd (cc is)
full_is_met AlreadyOpen is = refl
full_is_met NotOpen is = refl
full_is_met (Conflict s) is = refl
full_is_met WritesFull is = refl
full_is_met SharesFull is = refl
full_is_met (PendingFull u) is = refl
full_is_met BadUnit is = refl
full_is_met HoldsFull is = refl
full_is_met NotHeld is = refl
full_is_met PageFull is = refl
full_is_met (Twice s) is = refl
full_is_met (SessionsOpen s) is = refl

module _ (s n : ℕ) (a b : Store) (before after : Told) (low : n < 960 * a.units) where
  -- a bucket was written or it wasn't
  writes_met : (change : Option (List ℕ)) → ((bytes : List ℕ) → change ≡ Some bytes → length bytes ≤ 464)
      → (answer : Result (Unit {0}) StoreFault) → WritesName s n change a before answer b after
      → IfErr (handed answer) IsMet
  writes_met change short (Ok v) did = tt
  writes_met change short (Err Down) did = refl
  writes_met change short (Err Spent) did = refl
  writes_met change short (Err (Chip e)) did = refl
  writes_met None short (Err (Refused r)) did =
      calls_met {T = Unit {0}} a b before after
      (sessions_refuse_del (limits_of_store a) a.transactions.sessions s n)
      (λ state. after_write state s (n, None)) r (del_met a.units a.transactions.sessions s n low) did
  writes_met (Some bytes) short (Err (Refused r)) did = by_full (is_page_full r) refl
    where
      by_full : (full : Bool) → is_page_full r ≡ full → may_meet r ≡ true
      by_full true is = full_is_met r is
      by_full false is =
          let stays : found_room (Err (Refused r)) ≡ Err (Refused r) =
          ap (λ (x : Bool). if x then Ok false else Err (Refused r)) is in
          calls_met {T = Bool} a b before after
          (sessions_refuse_put (limits_of_store a) a.transactions.sessions s n bytes)
          (put_next s n bytes (found_room (Err (Refused r)))) r
          (put_met a.units a.transactions.sessions s n low bytes (short bytes refl))
          (subst (λ (q : Result Bool StoreFault). Calls (put_fault a s n bytes)
          (put_next s n bytes (found_room (Err (Refused r)))) 14 a before q b after) stays did.calls)

-- it was read or it wasn't
reads_met : (s n : ℕ) (a b : Store) (before after : Told) (fault : KeyFault)
    → ReadsBucket s n a before (Err fault) b after → IsMet fault
reads_met s n a b before after (key.Store Down) did = refl
reads_met s n a b before after (key.Store Spent) did = refl
reads_met s n a b before after (key.Store (Chip e)) did = refl
reads_met s n a b before after (key.Store (Refused r)) did =
    let clash : Refused r ≡ Chip did.ends.0 = did.ends.1 in absurd (cc clash)
reads_met s n a b before after key.BadKey did = refl
reads_met s n a b before after key.LongValue did = refl
reads_met s n a b before after (key.BucketFull m) did = refl
reads_met s n a b before after (key.BadBucket m) did = refl

-- ---- calls on keys

first_fault_met : (down spent : Bool) (bad : Option KeyFault) (refusal : Option Refusal) (fault : KeyFault)
    → first_fault (if down then Some Down else (if spent then Some Spent else None)) bad refusal ≡ Some fault
    → ((f : KeyFault) → bad ≡ Some f → IsMet f)
    → ((r : Refusal) → refusal ≡ Some r → may_meet r ≡ true) → IsMet fault
first_fault_met true spent bad refusal fault is met others =
    let same : key.Store Down ≡ fault = cc is in subst IsMet same refl
first_fault_met false true bad refusal fault is met others =
    let same : key.Store Spent ≡ fault = cc is in subst IsMet same refl
first_fault_met false false (Some f) refusal fault is met others =
    let same : f ≡ fault = cc is in met fault (ap Some same)
first_fault_met false false None (Some r) fault is met others =
    let same : key.Store (Refused r) ≡ fault = cc is in subst IsMet same (others r refl)
first_fault_met false false None None fault is met others = absurd (cc is)

pub bad_key_met : (bytes : List ℕ) (fault : KeyFault) → bad_key bytes ≡ Some fault → IsMet fault
bad_key_met bytes fault is = by_test (is_key bytes) is
  where
    by_test : (b : Bool) → (if b then None else Some key.BadKey) ≡ Some fault → IsMet fault
    by_test true is = absurd (cc is)
    by_test false is = let same : key.BadKey ≡ fault = cc is in subst IsMet same refl

pub bad_pair_met : (bytes value : List ℕ) (fault : KeyFault) → bad_pair bytes value ≡ Some fault
    → IsMet fault
bad_pair_met bytes value fault is = by_tests (is_key bytes) (nat_lt 200 (length value)) is
  where
    by_tests : (b long : Bool) → (if b then (if long then Some key.LongValue else None) else Some key.BadKey)
        ≡ Some fault → IsMet fault
    by_tests true true is = let same : key.LongValue ≡ fault = cc is in subst IsMet same refl
    by_tests true false is = absurd (cc is)
    by_tests false long is = let same : key.BadKey ≡ fault = cc is in subst IsMet same refl

module _ {T : Type 0} (s : ℕ) (bad : Option KeyFault) (a b : Store) (before after : Told)
    (met : (fault : KeyFault) → bad ≡ Some fault → IsMet fault) where
  -- one that ends early, or so
  ends_met : (fault : KeyFault) (Ends : Type 0) → (Ends → IsMet fault)
      → CallsKey {T = T} (early_key_fault a bad s) Ends a before (Err fault) b after → IsMet fault
  ends_met fault Ends ends calls = by_early (early_key_fault a bad s) refl
    where
      by_early : (o : Option KeyFault) → early_key_fault a bad s ≡ o → IsMet fault
      by_early None is = ends (calls.ends is)
      by_early (Some f) is =
          let answer = (calls.refuses f is).0 in
          let same : fault ≡ f = cc answer in
          subst IsMet (sym same) (first_fault_met a.down (nat_lt LAST_NUMBER (counter_of a)) bad
          (refuses_end (limits_of_store a) (state_of a.transactions.sessions) s) f is met
          (end_met (limits_of_store a) (state_of a.transactions.sessions) s))

pub get_met : (s n : ℕ) (bytes : List ℕ) (a b : Store) (before after : Told)
    (result : Result (Option (List ℕ)) KeyFault)
    → CallsKey (early_key_fault a (bad_key bytes) s) (Gets s n bytes a before result b after) a before
    result b after
    → IfErr result IsMet
get_met s n bytes a b before after (Ok found) calls = tt
get_met s n bytes a b before after (Err fault) calls =
    ends_met s (bad_key bytes) a b before after (bad_key_met bytes) fault _
    (reads_met s n a b before after fault) calls

module _ (s n : ℕ) (bad : Option KeyFault) (Rest : Pairs → Store → Told → Type 0) (a b : Store)
    (before after : Told) (change : Pairs → Pairs)
    (low : n < 960 * a.units) (met : (fault : KeyFault) → bad ≡ Some fault → IsMet fault) where
  written_met : (fault : KeyFault) (pairs : Pairs) (mid : Store) (told : Told) → mid.units ≡ a.units
      → IsBucketWritten s n pairs mid told (Err fault) b after → IsMet fault
  written_met fault pairs mid told alike wrote =
      let (answer, is, did) = wrote.writes in
      let here : n < 960 * mid.units = omega (arith, low, alike) in
      subst (λ (q : Result (Unit {0}) KeyFault). IfErr q IsMet) (sym is)
      (writes_met s n mid b told after here (written pairs) (short pairs wrote.bucket) answer did)
    where
      short : (pairs : Pairs) → IsBucket pairs → (bytes : List ℕ) → written pairs ≡ Some bytes
          → length bytes ≤ 464
      short [] bucket bytes is = absurd (cc is)
      short (p ∷ pairs) bucket bytes is =
          let same : bucket_bytes (p ∷ pairs) ≡ bytes = cc is in
          subst (λ (x : List ℕ). length x ≤ 464) same bucket.short

  module _ (fault : KeyFault) (rest : (pairs : Pairs) (mid : Store) (told : Told) → Rest pairs mid told
      → IsFull n (change pairs) mid told (Err fault) b after
      ⊎ IsBucketWritten s n (change pairs) mid told (Err fault) b after) where
    by_read : (read : Result (List ℕ) KeyFault) (did : ChangesBucket s n Rest a before (Err fault) b after)
        → did.read ≡ read → IsMet fault
    by_read (Err f) did is =
        let answer = (did.fails f is).0 in
        let same : fault ≡ f = cc answer in
        subst IsMet (sym same) (reads_met s n a did.mid before did.told f
        (subst (λ (q : Result (List ℕ) KeyFault). ReadsBucket s n a before q did.mid did.told) is did.reads))
    by_read (Ok bytes) did is =
        let (pairs, spells, goes) = did.goes_on bytes is in
        elim (rest pairs did.mid did.told goes) [
          | inl full ↦
              let answer = full.answer in
              let same : fault ≡ key.BucketFull n = cc answer in subst IsMet (sym same) refl
          | inr wrote ↦ written_met fault (change pairs) did.mid did.told did.units wrote
        ]

  pub changing_met : (result : Result (Unit {0}) KeyFault)
      → ((fault : KeyFault) → result ≡ Err fault → (pairs : Pairs) (mid : Store) (told : Told)
      → Rest pairs mid told → IsFull n (change pairs) mid told (Err fault) b after
      ⊎ IsBucketWritten s n (change pairs) mid told (Err fault) b after)
      → CallsKey (early_key_fault a bad s) (ChangesBucket s n Rest a before result b after) a before result b
      after
      → IfErr result IsMet
  changing_met (Ok v) rest calls = tt
  changing_met (Err fault) rest calls =
      ends_met s bad a b before after met fault _
      (λ did. by_read fault (rest fault refl) did.read did refl) calls

-- the name of a bucket is one of the chip's
pub in_units : (a : Store) (n : ℕ) (bytes : List ℕ) → n ≡ bucket_of a.units bytes → n < 960 * a.units
    → bucket_of a.units bytes < 960 * a.units
in_units a n bytes is low = subst (λ (m : ℕ). m < 960 * a.units) is low
