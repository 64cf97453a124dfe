-- The bucket of a key is shared: no key changes.
use Rattle.std.proofs.Common.{◌≡◌, ℕ, List, Some, None, Result, Err, sym, ◌∙◌, subst}
use Rattle.chip_trait.specs.Told.{Told}
use Rattle.ipl_base.specs.declared.fault.StoreFault.{StoreFault}
use Rattle.ipl_model.specs.Operations.{after_share}
use Rattle.ipl_model.specs.Refusals.{refuses_share}
use Rattle.record_locks.specs.Standing.{state_of}
use Rattle.ipl_store.specs.declared.store.Store.{Store}
use Rattle.ipl_store.specs.Calls.{Calls, entry_fault, share_fault, limits_of_store}
use Rattle.ipl_store.proofs.CallLemmas.{let_in}
use Rattle.ipl_keys.specs.BucketHome.{bucket_of}
use Rattle.ipl_keys.specs.declared.fault.KeyFault.{KeyFault}
use Rattle.ipl_keys.specs.Calls.{AnswersNothing, CallsKey, HandsOn, ServesFor, ServesKeys, bad_key, first_fault}
use Rattle.ipl_keys.proofs.ReadLemmas.{early_is_good, bad_key_is_good}
use Rattle.ipl_keys.proofs.ServeLemmas.{nothing_serves}
use Rattle.ipl_keys.proofs.SessionLemmas.{hands_on_serves}
use Rattle.ipl_keys.proofs.StateLemmas.{shares_keep_keys}

-- a share that the store was asked for, of this bucket
abbrev pub SharesName : ℕ → ℕ → Store → Told → Result (Unit {0}) KeyFault → Store → Told → Type 0
SharesName s n a before result b after = HandsOn (λ answer. Calls (share_fault a s n) (λ state. after_share state s n) 14
    a before answer b after) result

-- that of a name, where it is the one of the key's bucket, of the store as it was
pub share_asked : (bytes : List ℕ) (s n : ℕ) (a m b : Store) (before told after : Told)
    (answer : Result (Unit {0}) StoreFault) → m ≡ a → told ≡ before → n ≡ bucket_of m.units bytes
    → Calls (share_fault m s n) (λ state. after_share state s n) 14 m told answer b after
    → Calls (share_fault a s (bucket_of a.units bytes)) (λ state. after_share state s (bucket_of a.units bytes)) 14
    a before answer b after
share_asked bytes s n a m b before told after answer same idle name calls =
    subst (λ (t : Told). Calls (share_fault a s (bucket_of a.units bytes))
    (λ state. after_share state s (bucket_of a.units bytes)) 14 a t answer b after) idle
    (subst (λ (x : Store). Calls (share_fault x s (bucket_of x.units bytes))
    (λ state. after_share state s (bucket_of x.units bytes)) 14 x told answer b after) same
    (subst (λ (k : ℕ). Calls (share_fault m s k) (λ state. after_share state s k) 14 m told answer b after) name calls))

pub share_serves : (s n : ℕ) (a b : Store) (before after : Told) (result : Result (Unit {0}) KeyFault)
    → SharesName s n a before result b after → ServesKeys (λ k. k) AnswersNothing a before result b after
share_serves s n a b before after result hands =
    hands_on_serves (λ state. after_share state s n) (λ k. k) a b before after (share_fault a s n) 14 result
    (λ none. (let_in a (refuses_share (limits_of_store a) (state_of a.transactions.sessions) s n) none).0)
    (λ known h state k up keeps has. shares_keep_keys a.units state k s n has) hands

-- it ended before that, and nothing was done
pub unshared_serves : (bytes : List ℕ) (a b : Store) (before after : Told) (fault : KeyFault)
    → Some fault ≡ first_fault (entry_fault a) (bad_key bytes) None → b ≡ a → after ≡ before
    → ServesKeys (λ k. k) AnswersNothing a before (Err fault) b after
unshared_serves bytes a b before after fault is same idle known h k keeps =
    subst (λ (t : Told). ServesFor known (λ k. k) AnswersNothing a before (Err fault) b t h k) (sym idle)
    (subst (λ (s : Store). ServesFor known (λ k. k) AnswersNothing a before (Err fault) s before h k) (sym same)
    (nothing_serves known (λ k. k) AnswersNothing a before fault h k (early_is_good (entry_fault a) (bad_key bytes) None fault (bad_key_is_good bytes) (sym is)) keeps))

-- the call, where it was let in
pub share_calls : (bytes : List ℕ) (s n : ℕ) (a b : Store) (before after : Told) (result : Result (Unit {0}) KeyFault)
    → None ≡ first_fault (entry_fault a) (bad_key bytes) None → (answer : Result (Unit {0}) StoreFault)
    → (calls : Calls (share_fault a s n) (λ state. after_share state s n) 14 a before answer b after)
    → SharesName s n a before result b after
    → CallsKey (first_fault (entry_fault a) (bad_key bytes) None) (SharesName s n a before result b after) a before result
    b after
share_calls bytes s n a b before after result none answer calls hands = record {
  refuses = λ fault early. let no : None ≡ Some fault = none ∙ early in absurd (cc no);
  ends = λ free. hands;
  sound = calls.sound;
  units = calls.units;
  sessions = calls.sessions;
  counts = calls.counts;
}
