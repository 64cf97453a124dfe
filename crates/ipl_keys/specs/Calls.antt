-- What each call of a store of keys leaves.
use Rattle.std.specs.Prelude.{ℕ, ◌≡◌, ◌⊎◌, ◌<◌, ◌≤◌, ◌&&◌, nat_le, nat_lt, Bool, true, false, List, [], ◌∷◌, length, take, Option, Some, None, Result, Ok, Err, IfOk, IfErr, if◌then◌else◌}
use Rattle.std.specs.Borrow.{Bor}
use Rattle.std.specs.Option.{option_map}
use Rattle.chip_trait.specs.Told.{History, Told, Counts}
use Rattle.ipl_base.specs.declared.fault.Refusal.{Refusal}
use Rattle.ipl_base.specs.declared.fault.StoreFault.{StoreFault}
use Rattle.ipl_base.specs.declared.fault.Refusal.TheVariants as refused
use Rattle.ipl_base.specs.declared.fault.StoreFault.TheVariants.{Down, Spent, Refused, Chip}
use Rattle.ipl_base.specs.declared.limits.TheConstants.{VALUE_LEN}
use Rattle.ipl_model.specs.Operations.{after_write}
use Rattle.ipl_model.specs.State.{State}
use Rattle.ipl_model.specs.Refusals.{refuses_end}
use Rattle.record_locks.specs.Standing.{state_of}
use Rattle.unit_io.specs.Reads.{OfContents}
use Rattle.unit_io.specs.Steps.{Steps}
use Rattle.page_frames.specs.Pages.{tables_in}
use Rattle.store_laws.specs.Keeps.{KnownPages, ShowsState}
use Rattle.store_laws.specs.Refusals.{sessions_refuse_del}
use Rattle.ipl_store.specs.declared.store.Store.{Store}
use Rattle.ipl_store.specs.Calls.{view_of, IsSound, early_fault, entry_fault, Serves, Calls, limits_of_store}
use Rattle.ipl_store.specs.Puts.{found_room, put_fault, put_next, TellsRoom}
use Rattle.ipl_store.specs.Shown.{ShowsName, IsSeen}
use Rattle.ipl_keys.specs.declared.bucket_limits.TheConstants.{KEY_LEN, KEY_VALUE_LEN}
use Rattle.ipl_keys.specs.BucketPairs.{Pairs, value_at, set_pair, remove_pair}
use Rattle.ipl_keys.specs.Bucket.{IsBucket, IsBucketText, SpellsBucket, bucket_bytes}
use Rattle.ipl_keys.specs.BucketHome.{bucket_of}
use Rattle.ipl_keys.specs.declared.keys.Keys.{Keys}
use Rattle.ipl_keys.specs.declared.fault.KeyFault.{KeyFault}
use Rattle.ipl_keys.specs.declared.fault.KeyFault.TheVariants as key
use Rattle.ipl_keys.specs.KeyState.{KeyState, see_key}
use Rattle.ipl_keys.specs.Records.{bytes_of}
use Rattle.ipl_keys.specs.Sessions.{written}
use Rattle.ipl_keys.specs.Keeps.{LeavesKeys, KeepsKeys}

-- ---- calls that end before a bucket is read

-- a key has 1 to 16 bytes
abbrev pub is_key : List ℕ → Bool
is_key bytes = nat_le 1 (length bytes) && nat_le (length bytes) KEY_LEN

abbrev pub bad_key : List ℕ → Option KeyFault
bad_key bytes = if is_key bytes then None else Some key.BadKey

-- and its value at most 200
abbrev pub bad_pair : List ℕ → List ℕ → Option KeyFault
bad_pair bytes value = if is_key bytes then
    (if nat_lt KEY_VALUE_LEN (length value) then Some key.LongValue else None) else Some key.BadKey

-- The first of these comes first: the store is down or its numbers are used up; the key or the value
-- is none; the session is none, or isn't open.
abbrev pub first_fault : Option StoreFault → Option KeyFault → Option Refusal → Option KeyFault
first_fault (Some fault) bad refusal = Some (key.Store fault)
first_fault None (Some fault) refusal = Some fault
first_fault None None (Some refusal) = Some (key.Store (Refused refusal))
first_fault None None None = None

abbrev pub early_key_fault : Store → Option KeyFault → ℕ → Option KeyFault
early_key_fault store bad s = first_fault (entry_fault store) bad
    (refuses_end (limits_of_store store) (state_of store.transactions.sessions) s)

-- ---- a bucket is read

-- The page of the name reads: whichever pages are known not to, it shows the state that the others and the memory show.
abbrev pub ReadsPage : ℕ → Store → Told → Type 0
ReadsPage n store told = (known : KnownPages) (state : State) → OfContents told (λ x.
    ShowsState told.places known.pages (view_of store) state x → ShowsName told.places (view_of store) state n x)

-- the session sees this record of the name, whose page reads, and of whose bytes this holds
pub record Sees (s n : ℕ) (store : Store) (told : Told) (Of : List ℕ → Type 0) : Type 0 where
  pub reads : ReadsPage n store told
  pub found : Option (List ℕ)
  pub seen : IsSeen s n store told found
  pub is : Of (bytes_of found)

-- the store's look-up of the name, with this answer
abbrev pub LooksAtName : Store → Told → Result (Unit {0}) StoreFault → Store → Told → Type 0
LooksAtName old before result new after = Serves (λ state. state) 14 old before result new after

-- The bytes of the bucket of this name were read; or the store's look-up failed; or what the session
-- sees is no bucket.
abbrev pub ReadsBucket : ℕ → ℕ → Store → Told → Result (List ℕ) KeyFault → Store → Told → Type 0
ReadsBucket s n old before (Ok bytes) new after = Sees s n old before (λ seen. seen ≡ bytes)
    × IsBucketText bytes × LooksAtName old before (Ok tt) new after
ReadsBucket s n old before (Err (key.Store fault)) new after = LooksAtName old before (Err fault) new after
ReadsBucket s n old before (Err key.BadKey) new after = ⊥
ReadsBucket s n old before (Err key.LongValue) new after = ⊥
ReadsBucket s n old before (Err (key.BucketFull m)) new after = ⊥
ReadsBucket s n old before (Err (key.BadBucket m)) new after = (m ≡ n)
    × Sees s n old before (λ seen. IsBucketText seen → ⊥) × LooksAtName old before (Ok tt) new after

-- a length as that many bytes of these
abbrev pub bytes_in : List ℕ → Result ℕ KeyFault → Result (List ℕ) KeyFault
bytes_in buffer (Ok len) = Ok (take len buffer)
bytes_in buffer (Err fault) = Err fault

-- what is lent as its bytes
abbrev pub lent_of : Result (Option (Bor (List ℕ))) KeyFault → Result (Option (List ℕ)) KeyFault
lent_of (Ok found) = Ok (option_map (λ b. b.now) found)
lent_of (Err fault) = Err fault

-- a get answers what the bucket has, or fails as its reading does
abbrev pub Gets : ℕ → ℕ → List ℕ → Store → Told → Result (Option (List ℕ)) KeyFault → Store → Told
    → Type 0
Gets s n bytes old before (Ok found) new after = (bucket : List ℕ)
    × ReadsBucket s n old before (Ok bucket) new after
    × ((pairs : Pairs) → SpellsBucket bucket pairs → found ≡ value_at bytes pairs)
Gets s n bytes old before (Err fault) new after = ReadsBucket s n old before (Err fault) new after

-- ---- a bucket is written

-- the store's answer
abbrev pub handed : {T : Type 0} → Result T StoreFault → Result T KeyFault
handed (Ok v) = Ok v
handed (Err fault) = Err (key.Store fault)

-- what the store answered is handed on
abbrev pub HandsOn : {T : Type 0} → (Result T StoreFault → Type 0) → Result T KeyFault → Type 0
HandsOn {T} Answers result = (answer : Result T StoreFault) × (result ≡ handed answer) × Answers answer

-- the store put these bytes, or refused them, as full exactly where the page has no room
pub record PutsBytes (s n : ℕ) (bytes : List ℕ) (old : Store) (before : Told)
    (answer : Result (Unit {0}) StoreFault) (new : Store) (after : Told) : Type 0 where
  pub calls : Calls (put_fault old s n bytes) (put_next s n bytes (found_room answer)) 14 old before
      (found_room answer) new after
  pub full : put_fault old s n bytes ≡ None → TellsRoom n bytes old before (found_room answer)

-- bytes as a change: none are a delete
abbrev pub change_of : List ℕ → Option (List ℕ)
change_of [] = None
change_of (b ∷ bytes) = Some (b ∷ bytes)

-- the store wrote this, or refused it
abbrev pub WritesName : ℕ → ℕ → Option (List ℕ) → Store → Told → Result (Unit {0}) StoreFault → Store
    → Told → Type 0
WritesName s n None old before answer new after = Calls (early_fault (entry_fault old)
    (sessions_refuse_del (limits_of_store old) old.transactions.sessions s n))
    (λ state. after_write state s (n, None)) 14 old before answer new after
WritesName s n (Some bytes) old before answer new after = PutsBytes s n bytes old before answer new after

-- the changed pairs would pass 464 bytes, and nothing was written
pub record IsFull (n : ℕ) (pairs : Pairs) (old : Store) (before : Told)
    (result : Result (Unit {0}) KeyFault) (new : Store) (after : Told) : Type 0 where
  pub long : VALUE_LEN < length (bucket_bytes pairs)
  pub answer : result ≡ Err (key.BucketFull n)
  pub same : new ≡ old
  pub idle : after ≡ before

-- the changed pairs are a bucket, and were written
pub record IsBucketWritten (s n : ℕ) (pairs : Pairs) (old : Store) (before : Told)
    (result : Result (Unit {0}) KeyFault) (new : Store) (after : Told) : Type 0 where
  pub bucket : IsBucket pairs
  pub writes : HandsOn (λ answer. WritesName s n (written pairs) old before answer new after) result

-- A call that reads a bucket and changes its pairs. It fails as its reading does, or does the rest
-- with what was read.
pub record ChangesBucket (s n : ℕ) (Rest : Pairs → Store → Told → Type 0) (old : Store) (before : Told)
    (result : Result (Unit {0}) KeyFault) (new : Store) (after : Told) : Type 0 where
  pub mid : Store
  pub told : Told
  pub read : Result (List ℕ) KeyFault
  pub reads : ReadsBucket s n old before read mid told
  pub sound : IsSound before.places mid
  pub units : mid.units ≡ old.units
  pub sessions : length mid.transactions.sessions ≡ length old.transactions.sessions
  pub counts : Counts before told
  pub fails : (fault : KeyFault) → read ≡ Err fault
      → (result ≡ Err fault) × (new ≡ mid) × (after ≡ told)
  pub goes_on : (bytes : List ℕ) → read ≡ Ok bytes
      → (pairs : Pairs) × SpellsBucket bytes pairs × Rest pairs mid told

-- a put writes the bucket with the pair, or finds it full
abbrev pub Puts : ℕ → ℕ → List ℕ → List ℕ → Store → Told → Result (Unit {0}) KeyFault → Store → Told
    → Type 0
Puts s n bytes value old before result new after = ChangesBucket s n (λ pairs mid told.
    IsFull n (set_pair bytes value pairs) mid told result new after
    ⊎ IsBucketWritten s n (set_pair bytes value pairs) mid told result new after) old before result new after

-- a delete writes the bucket without the key
abbrev pub Dels : ℕ → ℕ → List ℕ → Store → Told → Result (Unit {0}) KeyFault → Store → Told → Type 0
Dels s n bytes old before result new after = ChangesBucket s n (λ pairs mid told.
    IsBucketWritten s n (remove_pair bytes pairs) mid told result new after) old before result new after

-- ---- calls

-- A call on a key. It ends early with this fault, and nothing was done; or so. The store is sound
-- either way, with as many units and sessions.
pub record CallsKey {T : Type 0} (early : Option KeyFault) (Ends : Type 0) (old : Store)
    (before : Told) (result : Result T KeyFault) (new : Store) (after : Told) : Type 0 where
  pub refuses : (fault : KeyFault) → early ≡ Some fault
      → (result ≡ Err fault) × (new ≡ old) × (after ≡ before)
  pub ends : early ≡ None → Ends
  pub sound : IsSound before.places new
  pub units : new.units ≡ old.units
  pub sessions : length new.transactions.sessions ≡ length old.transactions.sessions
  pub counts : Counts before after

-- A call on the bucket of a name, whose text is at the front of the keys' own bytes then.
pub record CopiesBucket (early : Option KeyFault) (s n : ℕ) (old : Keys) (before : Told)
    (result : Result ℕ KeyFault) (new : Keys) (after : Told) : Type 0 where
  pub calls : CallsKey early
      (ReadsBucket s n old.store before (bytes_in new.bucket result) new.store after)
      old.store before result new.store after
  pub bucket : IfOk result (λ len. IsBucketText (take len new.bucket))
  pub most : IfOk result (λ len. len ≤ VALUE_LEN)

-- of the store's refusals those that a call on a key may meet; that there is no such name, and that a
-- value is too long, never come
abbrev pub may_meet : Refusal → Bool
may_meet refused.BadSession = true
may_meet refused.BadName = false
may_meet refused.TooLong = false
may_meet refused.AlreadyOpen = true
may_meet refused.NotOpen = true
may_meet (refused.Conflict s) = true
may_meet refused.WritesFull = true
may_meet refused.SharesFull = true
may_meet (refused.PendingFull u) = true
may_meet refused.BadUnit = true
may_meet refused.HoldsFull = true
may_meet refused.NotHeld = true
may_meet refused.PageFull = true
may_meet (refused.Twice s) = true
may_meet (refused.SessionsOpen s) = true

abbrev pub is_met : KeyFault → Bool
is_met (key.Store Down) = true
is_met (key.Store Spent) = true
is_met (key.Store (Refused refusal)) = may_meet refusal
is_met (key.Store (Chip fault)) = true
is_met key.BadKey = true
is_met key.LongValue = true
is_met (key.BucketFull n) = true
is_met (key.BadBucket n) = true

abbrev pub IsMet : KeyFault → Type 0
IsMet fault = is_met fault ≡ true

-- the fault isn't that a record is no bucket
abbrev pub IsNoBadBucket : KeyFault → Type 0
IsNoBadBucket (key.Store fault) = Unit {0}
IsNoBadBucket key.BadKey = Unit {0}
IsNoBadBucket key.LongValue = Unit {0}
IsNoBadBucket (key.BucketFull n) = Unit {0}
IsNoBadBucket (key.BadBucket n) = ⊥

-- What a call leaves of a store that keeps a key state. At each moment a power cut leaves the keys
-- before or those after it. Done, the store keeps the next key state, and the answer is right; else it
-- keeps the one before, unless a write failed, and no record was found to be no bucket.
pub record ServesFor {T : Type 0} (known : KnownPages) (next : KeyState → KeyState) (Answers : KeyState → T → Type 0)
    (old : Store) (before : Told) (result : Result T KeyFault) (new : Store) (after : Told)
    (h : History) (k : KeyState) : Type 0 where
  pub steps : Steps (LeavesKeys before.places known old.units k.map (next k).map) (tables_in old.transactions.pages)
      (tables_in new.transactions.pages)
      (λ v later. KeepsKeys before.places known new after later (next k) × Answers k v)
      (λ later. KeepsKeys before.places known new after later k) h result before after
  pub buckets : IfErr result IsNoBadBucket

-- each that it keeps, whichever pages don't read well
abbrev pub ServesKeys : {T : Type 0} → (KeyState → KeyState) → (KeyState → T → Type 0) → Store → Told
    → Result T KeyFault → Store → Told → Type 0
ServesKeys next Answers old before result new after = (known : KnownPages) (h : History) (k : KeyState)
    → KeepsKeys before.places known old before h k → ServesFor known next Answers old before result new after h k

-- nothing is answered
abbrev pub AnswersNothing : KeyState → Unit {0} → Type 0
AnswersNothing k v = Unit {0}

-- what a get leaves, when what it lends is given back
pub record GetsKey (s : ℕ) (bytes : List ℕ) (old : Store) (before : Told)
    (result : Result (Option (List ℕ)) KeyFault) (new : Store) (after : Told) : Type 0 where
  pub calls : CallsKey (early_key_fault old (bad_key bytes) s)
      (Gets s (bucket_of old.units bytes) bytes old before result new after) old before result new after
  pub serves : ServesKeys (λ k. k) (λ k found. found ≡ see_key k s bytes) old before result new after
  pub met : IfErr result IsMet
