-- Each operation on names is one on keys.
use Rattle.std.proofs.Common.{◌≡◌, ◌≢◌, ◌⊎◌, ℕ, Bool, true, false, List, [], ◌∷◌, Option, Some, None, is_some, cond, refl, sym, ◌∙◌, ap, subst, inl, inr, arith}
use Rattle.std.specs.Ordering.{nat_cmp, eq_by_cmp}
use Rattle.std.specs.Option.{option_map_or}
use Rattle.std.specs.Cmp.{nat_cmp_total}
use Rattle.std.specs.FinMap.{FinMap, get, insert, remove, get-empty, get-insert, get-remove, same_map}
use Rattle.std.proofs.lemmas.Bool.{both_ways, cases_eq, cond-true, cond-false, eq-eqb, ne_eqb}
use Rattle.std.proofs.lemmas.Bool.Decides.{nat_tests}
use Rattle.ipl_model.specs.State.{Map, Session, State, Write, at_rest, is_open_session, writes_of, last_write, see}
use Rattle.ipl_model.specs.Operations.{new_session, after_begin, after_share, after_write, after_commit, after_abort}
use Rattle.ipl_model.specs.Refusals.{is_new_share}
use Rattle.ipl_model.proofs.SeenLemmas.{get-with_writes}
use Rattle.store_laws.specs.Pending.{wrote}
use Rattle.store_laws.specs.PendingLaws.{StateHasOneWriter}
use Rattle.store_laws.proofs.StateLemmas.{writes_in, wrote_here, wrote_other, last_here, last_before}
use Rattle.ipl_keys.specs.BucketPairs.{Pairs, value_at}
use Rattle.ipl_keys.specs.BucketHome.{bucket_of}
use Rattle.ipl_keys.proofs.BucketReadLemmas.{bytes_total, same_key}
use Rattle.ipl_keys.proofs.BucketLawLemmas.{buckets_spell_once}
use Rattle.ipl_keys.specs.KeyState.{KeyWrite, KeyState, keys_at_rest, key_writes_of, see_key, after_key_begin, after_key_write, after_key_commit, after_key_abort}
use Rattle.ipl_keys.specs.Records.{bytes_of, IsBucketOf, HoldsPairs, HasKeys}
use Rattle.ipl_keys.specs.Sessions.{writes_on, pairs_after, pairs_with, pairs_seen, written, FollowsWrites, HasKeyState}
use Rattle.ipl_keys.specs.Laws.{KeysAreOne, pairs_of, SessionsSeeKeys, RestingStatesHaveKeys, BeginsKeepKeys, WritesKeepKeys, CommitsKeepKeys, BatchesKeepKeys, AbortsKeepKeys}
use Rattle.ipl_keys.proofs.WriteLemmas.{written_values, get-with_key_writes, written_bytes, writes_on_here, writes_on_other}

-- ---- maps of sessions

module _ {X : Type 0} (m : FinMap nat_cmp X) (s t : ℕ) where
  same : t ≡ s → eq_by_cmp nat_cmp t s ≡ true
  same is = grind (arith, nat_tests)

  other : t ≢ s → eq_by_cmp nat_cmp t s ≡ false
  other apart = grind (arith, nat_tests)

  put_here : (x : X) → t ≡ s → get (insert m s x) t ≡ Some x
  put_here x is = get-insert nat_cmp_total m s x t ∙ cond-true _ (Some x) (get m t) (same is)

  put_other : (x : X) → t ≢ s → get (insert m s x) t ≡ get m t
  put_other x apart = get-insert nat_cmp_total m s x t ∙ cond-false _ (Some x) (get m t) (other apart)

  gone_here : t ≡ s → get (remove m s) t ≡ None
  gone_here is = get-remove nat_cmp_total m s t ∙ cond-true _ None (get m t) (same is)

  gone_other : t ≢ s → get (remove m s) t ≡ get m t
  gone_other apart = get-remove nat_cmp_total m s t ∙ cond-false _ None (get m t) (other apart)

-- ---- one session

abbrev key_writes_in : Option (List KeyWrite) → List KeyWrite
key_writes_in o = option_map_or (λ writes. writes) o []

-- a session on names has these writes on keys
pub record IsSession (units : ℕ) (pairs : ℕ → Pairs) (o : Option (List KeyWrite)) (p : Option Session)
    : Type 0 where
  pub opens : is_some o ≡ is_some p
  pub follows : (n : ℕ) → FollowsWrites units n (key_writes_in o) (pairs n) (last_write (writes_in p) n)

closed : (units : ℕ) (pairs : ℕ → Pairs) → IsSession units pairs None None
closed units pairs = record { opens = refl; follows = λ n. refl }

begun : (units : ℕ) (pairs : ℕ → Pairs) → IsSession units pairs (Some []) (Some new_session)
begun units pairs = record { opens = refl; follows = λ n. refl }

session_as : (units : ℕ) (pairs : ℕ → Pairs) (o also : Option (List KeyWrite)) (p then : Option Session)
    → also ≡ o → then ≡ p → IsSession units pairs o p → IsSession units pairs also then
session_as units pairs o also p then same alike is =
    subst (λ q. IsSession units pairs q then) (sym same)
    (subst (λ q. IsSession units pairs o q) (sym alike) is)

-- ---- what is seen

module _ (units : ℕ) (state : State) (k : KeyState) (has : HasKeyState units state k) where
  pub session_at : (s : ℕ) → IsSession units has.keys.pairs (get k.sessions s) (get state.sessions s)
  session_at s = record { opens = has.opens s; follows = has.follows s }

  pub seen_holds : (s n : ℕ) → HoldsPairs units n (see state s n) (pairs_of has s n)
  seen_holds s n = by_last (last_write (writes_of state s) n) (has.follows s n)
    where
      by_last : (o : Option (Option (List ℕ))) → FollowsWrites units n (key_writes_of k s) (has.keys.pairs n) o
          → HoldsPairs units n (option_map_or (λ change. change) o (get state.map n)) (pairs_of has s n)
      by_last None none =
          subst (λ (ws : List KeyWrite). HoldsPairs units n (get state.map n) (pairs_with ws (has.keys.pairs n)))
          (sym none) (has.keys.records n)
      by_last (Some change) (is, bucket) =
          record { is = bucket; text = ap bytes_of is ∙ written_bytes (pairs_of has s n) }

  pub seen_key : (s : ℕ) (key : List ℕ)
      → value_at key (pairs_of has s (bucket_of units key)) ≡ see_key k s key
  seen_key s key =
      sym (written_values units key (key_writes_of k s) k.map (has.keys.pairs (bucket_of units key))
      (has.keys.values key))
      ∙ get-with_key_writes (key_writes_of k s) k.map key

pub sessions_see_keys : SessionsSeeKeys
sessions_see_keys units state k has s =
    (λ n. seen_holds units state k has s n, λ key. seen_key units state k has s key)

pub keys_are_one : KeysAreOne
keys_are_one units m a b one two = same_map bytes_total same_key a b (λ key.
    let n = bucket_of units key in
    one.values key
    ∙ ap (value_at key) (buckets_spell_once (bytes_of (get m n)) (one.pairs n) (two.pairs n)
    (record { bucket = (one.records n).is.bucket; text = (one.records n).text })
    (record { bucket = (two.records n).is.bucket; text = (two.records n).text }))
    ∙ sym (two.values key))

-- ---- states from their sessions

-- the records have these keys by these pairs
pub state_from : (units : ℕ) (state : State) (k : KeyState) (keys : HasKeys units state.map k.map)
    → ((t : ℕ) → IsSession units keys.pairs (get k.sessions t) (get state.sessions t))
    → HasKeyState units state k
state_from units state k keys sessions = record {
  keys = keys;
  opens = λ t. (sessions t).opens;
  follows = λ t n. (sessions t).follows n;
}

pub resting_states_have_keys : RestingStatesHaveKeys
resting_states_have_keys units m keys has = state_from units (at_rest m) (keys_at_rest keys) has
    (λ t. session_as units has.pairs None _ None _ (get-empty nat_cmp t) (get-empty nat_cmp t) (closed units has.pairs))

pub begins_keep_keys : BeginsKeepKeys
begins_keep_keys units state k s has =
    state_from units (after_begin state s) (after_key_begin k s) has.keys (λ t. by_session t (cases_eq t s))
  where
    by_session : (t : ℕ) → (t ≡ s) ⊎ (t ≢ s)
        → IsSession units has.keys.pairs (get (insert k.sessions s []) t)
        (get (insert state.sessions s new_session) t)
    by_session t (inl here) = session_as units has.keys.pairs (Some []) _ (Some new_session) _
        (put_here k.sessions s t [] here) (put_here state.sessions s t new_session here)
        (begun units has.keys.pairs)
    by_session t (inr apart) = session_as units has.keys.pairs (get k.sessions t) _ (get state.sessions t) _
        (put_other k.sessions s t [] apart) (put_other state.sessions s t new_session apart)
        (session_at units state k has t)

pub aborts_keep_keys : AbortsKeepKeys
aborts_keep_keys units state k s has =
    state_from units (after_abort state s) (after_key_abort k s) has.keys (λ t. by_session t (cases_eq t s))
  where
    by_session : (t : ℕ) → (t ≡ s) ⊎ (t ≢ s)
        → IsSession units has.keys.pairs (get (remove k.sessions s) t) (get (remove state.sessions s) t)
    by_session t (inl here) = session_as units has.keys.pairs None _ None _ (gone_here k.sessions s t here)
        (gone_here state.sessions s t here) (closed units has.keys.pairs)
    by_session t (inr apart) = session_as units has.keys.pairs (get k.sessions t) _ (get state.sessions t) _
        (gone_other k.sessions s t apart) (gone_other state.sessions s t apart)
        (session_at units state k has t)

-- a name is shared: nothing that is written changes
pub shares_keep_keys : (units : ℕ) (state : State) (k : KeyState) (s n : ℕ) → HasKeyState units state k
    → HasKeyState units (after_share state s n) k
shares_keep_keys units state k s n has = by_test (is_new_share state s n) (get state.sessions s) refl
  where
    shared : Session → Session
    shared session = record session { shared = n ∷ session.shared }

    with : Session → State
    with session = record state { sessions = insert state.sessions s (shared session) }

    as_it_was : (session : Session) (o : Option (List KeyWrite)) → IsSession units has.keys.pairs o (Some session)
        → IsSession units has.keys.pairs o (Some (shared session))
    as_it_was session o is = record { opens = is.opens; follows = is.follows }

    by_session : (session : Session) → get state.sessions s ≡ Some session → (t : ℕ) → (t ≡ s) ⊎ (t ≢ s)
        → IsSession units has.keys.pairs (get k.sessions t) (get (insert state.sessions s (shared session)) t)
    by_session session is t (inl here) = session_as units has.keys.pairs (get k.sessions t) _ (Some (shared session)) _
        refl (put_here state.sessions s t (shared session) here)
        (as_it_was session (get k.sessions t) (subst (IsSession units has.keys.pairs (get k.sessions t))
        (ap (get state.sessions) here ∙ is) (session_at units state k has t)))
    by_session session is t (inr apart) = session_as units has.keys.pairs (get k.sessions t) _ (get state.sessions t) _
        refl (put_other state.sessions s t (shared session) apart) (session_at units state k has t)

    by_test : (new : Bool) (o : Option Session) → get state.sessions s ≡ o
        → HasKeyState units (cond new (option_map_or with o state) state) k
    by_test false o is = has
    by_test true None is = has
    by_test true (Some session) is =
        state_from units (with session) k has.keys (λ t. by_session session is t (cases_eq t s))

-- ---- a commit

module _ (units : ℕ) (state : State) (k : KeyState) (s : ℕ) (one : StateHasOneWriter state)
    (has : HasKeyState units state k) where
  -- where another session wrote, the pairs stay
  pairs_stay : (t n : ℕ) → t ≢ s → wrote state t n ≡ true → pairs_of has s n ≡ has.keys.pairs n
  pairs_stay t n apart wrote_it = by_last (last_write (writes_of state s) n) refl (has.follows s n)
    where
      by_last : (o : Option (Option (List ℕ))) → last_write (writes_of state s) n ≡ o
          → FollowsWrites units n (key_writes_of k s) (has.keys.pairs n) o → pairs_of has s n ≡ has.keys.pairs n
      by_last None is none = ap (λ (ws : List KeyWrite). pairs_with ws (has.keys.pairs n)) none
      by_last (Some change) is follows = absurd (apart (one t s n wrote_it (ap is_some is)))

  committed : HasKeys units (after_commit state s).map (after_key_commit k s).map
  committed = record {
    pairs = λ n. pairs_of has s n;
    records = λ n. subst (λ o. HoldsPairs units n o (pairs_of has s n))
        (sym (get-with_writes (writes_of state s) state.map n)) (seen_holds units state k has s n);
    values = λ key. written_values units key (key_writes_of k s) k.map
        (has.keys.pairs (bucket_of units key)) (has.keys.values key);
  }

  follows_still : (t n : ℕ) → t ≢ s → FollowsWrites units n (key_writes_of k t) (pairs_of has s n)
      (last_write (writes_of state t) n)
  follows_still t n apart = by_last (last_write (writes_of state t) n) refl (has.follows t n)
    where
      by_last : (o : Option (Option (List ℕ))) → last_write (writes_of state t) n ≡ o
          → FollowsWrites units n (key_writes_of k t) (has.keys.pairs n) o
          → FollowsWrites units n (key_writes_of k t) (pairs_of has s n) o
      by_last None is none = none
      by_last (Some change) is follows =
          subst (λ (ps : Pairs). FollowsWrites units n (key_writes_of k t) ps (Some change))
          (sym (pairs_stay t n apart (ap is_some is))) follows

  pub commit_keeps : HasKeyState units (after_commit state s) (after_key_commit k s)
  unfolding committed
  commit_keeps =
      state_from units (after_commit state s) (after_key_commit k s) committed (λ t. by_session t (cases_eq t s))
    where
      by_session : (t : ℕ) → (t ≡ s) ⊎ (t ≢ s)
          → IsSession units (λ n. pairs_of has s n) (get (remove k.sessions s) t) (get (remove state.sessions s) t)
      by_session t (inl here) = session_as units (λ n. pairs_of has s n) None _ None _
          (gone_here k.sessions s t here) (gone_here state.sessions s t here)
          (closed units (λ n. pairs_of has s n))
      by_session t (inr apart) = session_as units (λ n. pairs_of has s n) (get k.sessions t) _
          (get state.sessions t) _ (gone_other k.sessions s t apart) (gone_other state.sessions s t apart)
          (record { opens = has.opens t; follows = λ n. follows_still t n apart })

pub commits_keep_keys : CommitsKeepKeys
commits_keep_keys units state k s one has = commit_keeps units state k s one has

-- what a session wrote behind a commit, it wrote before
wrote_before : (state : State) (s t n : ℕ) → wrote (after_commit state s) t n ≡ true → wrote state t n ≡ true
wrote_before state s t n wrote_it = by_session (cases_eq t s)
  where
    writes_then : Option Session → Bool
    writes_then o = is_some (last_write (option_map_or (λ session. session.writes) o []) n)

    by_session : (t ≡ s) ⊎ (t ≢ s) → wrote state t n ≡ true
    by_session (inl here) =
        absurd (let none : writes_then None ≡ true = subst (λ (o : Option Session). writes_then o ≡ true)
        (gone_here state.sessions s t here) wrote_it in cc none)
    by_session (inr apart) =
        subst (λ (o : Option Session). writes_then o ≡ true) (gone_other state.sessions s t apart) wrote_it

pub batches_keep_keys : BatchesKeepKeys
batches_keep_keys units state k [] one has = has
batches_keep_keys units state k (s ∷ ss) one has =
    batches_keep_keys units (after_commit state s) (after_key_commit k s) ss
    (λ t u n mine other. one t u n (wrote_before state s t n mine) (wrote_before state s u n other))
    (commits_keep_keys units state k s one has)

-- ---- a write

-- it leaves the records
pub wrote_map : (state : State) (s : ℕ) (w : Write) → (after_write state s w).map ≡ state.map
wrote_map state s w = by_session (get state.sessions s)
  where
    by_session : (o : Option Session) → (option_map_or (λ session. record state {
      sessions = insert state.sessions s (record session { writes = w ∷ session.writes });
    }) o state).map ≡ state.map
    by_session None = refl
    by_session (Some session) = refl

module _ (k : KeyState) (s : ℕ) (w : KeyWrite) where
  abbrev sessions_then : Option (List KeyWrite) → FinMap nat_cmp (List KeyWrite)
  sessions_then o = option_map_or (λ writes. insert k.sessions s (w ∷ writes)) o k.sessions

  key_wrote_here : is_some (get k.sessions s) ≡ true
      → get (after_key_write k s w).sessions s ≡ Some (w ∷ key_writes_of k s)
  key_wrote_here running = by_session (get k.sessions s) refl
    where
      by_session : (o : Option (List KeyWrite)) → get k.sessions s ≡ o
          → get (sessions_then o) s ≡ Some (w ∷ key_writes_in o)
      by_session None is = absurd (both_ways (is_some (get k.sessions s)) (ap is_some is) running)
      by_session (Some writes) is = put_here k.sessions s s (w ∷ writes) refl

  key_wrote_other : (t : ℕ) → t ≢ s → get (after_key_write k s w).sessions t ≡ get k.sessions t
  key_wrote_other t apart = by_session (get k.sessions s)
    where
      by_session : (o : Option (List KeyWrite)) → get (sessions_then o) t ≡ get k.sessions t
      by_session None = refl
      by_session (Some writes) = put_other k.sessions s t (w ∷ writes) apart

module _ (units : ℕ) (state : State) (k : KeyState) (s : ℕ) (w : KeyWrite) (has : HasKeyState units state k)
    (running : is_open_session state s ≡ true)
    (bucket : IsBucketOf units (bucket_of units w.0) (pairs_after w (pairs_of has s (bucket_of units w.0)))) where
  abbrev n : ℕ
  n = bucket_of units w.0

  abbrev change : Option (List ℕ)
  change = written (pairs_after w (pairs_of has s n))

  abbrev then : State
  then = after_write state s (n, change)

  pairs_here : pairs_seen units n (w ∷ key_writes_of k s) (has.keys.pairs n) ≡ pairs_after w (pairs_of has s n)
  pairs_here = ap (λ (ws : List KeyWrite). pairs_with ws (has.keys.pairs n))
      (writes_on_here units n w (key_writes_of k s) (eq-eqb n n refl))

  follows_at : (q : ℕ) → FollowsWrites units q (w ∷ key_writes_of k s) (has.keys.pairs q)
      (last_write ((n, change) ∷ writes_of state s) q)
  follows_at q = by_name (cases_eq n q)
    where
      by_name : (n ≡ q) ⊎ (n ≢ q) → FollowsWrites units q (w ∷ key_writes_of k s) (has.keys.pairs q)
          (last_write ((n, change) ∷ writes_of state s) q)
      by_name (inl here) = subst (λ (m : ℕ). FollowsWrites units m (w ∷ key_writes_of k s) (has.keys.pairs m)
          (last_write ((n, change) ∷ writes_of state s) m)) here
          (subst (λ o. FollowsWrites units n (w ∷ key_writes_of k s) (has.keys.pairs n) o)
          (sym (last_here (n, change) (writes_of state s) n refl))
          (ap written (sym pairs_here), subst (λ (ps : Pairs). IsBucketOf units n ps) (sym pairs_here) bucket))
      by_name (inr apart) = subst (λ o. FollowsWrites units q (w ∷ key_writes_of k s) (has.keys.pairs q) o)
          (sym (last_before (n, change) (writes_of state s) q apart))
          (follows_before (last_write (writes_of state s) q) (has.follows s q))
        where
          on : writes_on units q (w ∷ key_writes_of k s) ≡ writes_on units q (key_writes_of k s)
          on = writes_on_other units q w (key_writes_of k s) (ne_eqb n q apart)

          follows_before : (o : Option (Option (List ℕ)))
              → FollowsWrites units q (key_writes_of k s) (has.keys.pairs q) o
              → FollowsWrites units q (w ∷ key_writes_of k s) (has.keys.pairs q) o
          follows_before None none = on ∙ none
          follows_before (Some c) (is, of) = (
            is ∙ ap (λ (ws : List KeyWrite). written (pairs_with ws (has.keys.pairs q))) (sym on),
            subst (λ (ws : List KeyWrite). IsBucketOf units q (pairs_with ws (has.keys.pairs q))) (sym on) of,
          )

  kept : HasKeys units then.map k.map
  kept = record {
    pairs = has.keys.pairs;
    records = λ q. subst (λ (m : Map). HoldsPairs units q (get m q) (has.keys.pairs q))
        (sym (wrote_map state s (n, change))) (has.keys.records q);
    values = has.keys.values;
  }

  pub write_keeps : HasKeyState units then (after_key_write k s w)
  unfolding kept
  write_keeps = state_from units then (after_key_write k s w) kept (λ t. by_session t (cases_eq t s))
    where
      key_running : is_some (get k.sessions s) ≡ true
      key_running = has.opens s ∙ running

      mine : IsSession units has.keys.pairs (get (after_key_write k s w).sessions s) (get then.sessions s)
      mine =
          let now = key_wrote_here k s w key_running in
          let there = wrote_here state s (n, change) running in record {
            opens = ap is_some now ∙ sym there.0;
            follows = λ q.
                subst (λ (ws : List KeyWrite). FollowsWrites units q ws (has.keys.pairs q)
                (last_write (writes_of then s) q)) (sym (ap key_writes_in now))
                (subst (λ (ws : List Write). FollowsWrites units q (w ∷ key_writes_of k s) (has.keys.pairs q)
                (last_write ws q)) (sym there.1) (follows_at q));
          }

      by_session : (t : ℕ) → (t ≡ s) ⊎ (t ≢ s)
          → IsSession units has.keys.pairs (get (after_key_write k s w).sessions t) (get then.sessions t)
      by_session t (inl here) = subst (λ (q : ℕ). IsSession units has.keys.pairs
          (get (after_key_write k s w).sessions q) (get then.sessions q)) (sym here) mine
      by_session t (inr apart) = session_as units has.keys.pairs (get k.sessions t) _ (get state.sessions t) _
          (key_wrote_other k s w t apart) (wrote_other state s t (n, change) apart)
          (session_at units state k has t)

pub writes_keep_keys : WritesKeepKeys
writes_keep_keys units state k s w has running bucket = write_keeps units state k s w has running bucket
