-- Sessions begin and end: what the store answered is handed on.
use Rattle.std.proofs.Common.{◌≡◌, ℕ, false, Option, Some, None, Result, Ok, Err, refl, sym, subst}
use Rattle.chip_trait.specs.Told.{History, Told}
use Rattle.ipl_base.specs.declared.fault.StoreFault.{StoreFault}
use Rattle.ipl_model.specs.State.{State}
use Rattle.store_laws.specs.Keeps.{KnownPages, KeepsStore, limits_of}
use Rattle.ipl_store.specs.declared.store.Store.{Store}
use Rattle.ipl_store.specs.Calls.{view_of, Calls, limits_of_store}
use Rattle.ipl_keys.specs.declared.fault.KeyFault.{KeyFault}
use Rattle.ipl_keys.specs.declared.fault.KeyFault.TheVariants as key
use Rattle.ipl_keys.specs.KeyState.{KeyState}
use Rattle.ipl_keys.specs.Sessions.{HasKeyState}
use Rattle.ipl_keys.specs.Keeps.{KeepsKeys}
use Rattle.ipl_keys.specs.Calls.{handed, HandsOn, AnswersNothing, ServesFor, ServesKeys}
use Rattle.ipl_keys.proofs.ServeLemmas.{StoreSteps, leads_steps, keeps_keys, keys_steps, nothing_serves}

module _ (known : KnownPages) (next : State → State) (turn : KeyState → KeyState) (a b : Store) (before after : Told)
    (h : History) (k : KeyState) where
  -- a call that was let in
  pub served : (r : Result (Unit {0}) StoreFault) (state : State) → HasKeyState a.units state k
      → HasKeyState a.units (next state) (turn k) → StoreSteps known next a before r b after h state
      → ServesFor known turn AnswersNothing a before (handed r) b after h k
  served (Ok v) state has then did = record {
    steps = keys_steps {T = Unit {0}} {U = Unit {0}} known next turn AnswersNothing a b before after (Ok v) (handed (Ok v)) h state k has.keys then.keys (λ s. s)
        (λ later keeps. (keeps_keys known before.places a b after later (next state) (turn k) keeps then, tt)) did;
    buckets = tt;
  }
  served (Err fault) state has then did = record {
    steps = keys_steps {T = Unit {0}} {U = Unit {0}} known next turn AnswersNothing a b before after (Err fault) (handed (Err fault)) h state k has.keys then.keys (λ s. s)
        (λ later keeps. keeps_keys known before.places a b after later state k keeps has) did;
    buckets = tt;
  }

  -- any call
  pub call_serves : (early : Option StoreFault) (most : ℕ) (r : Result (Unit {0}) StoreFault)
      → (early ≡ None → a.down ≡ false)
      → Calls early next most a before r b after → (state : State)
      → KeepsStore before.places known.pages (limits_of_store a) (view_of a) before h state
      → HasKeyState a.units state k
      → (a.down ≡ false → HasKeyState a.units (next state) (turn k))
      → ServesFor known turn AnswersNothing a before (handed r) b after h k
  call_serves early most r up calls state keeps has turns = by_early early refl
    where
      by_early : (o : Option StoreFault) → early ≡ o
          → ServesFor known turn AnswersNothing a before (handed r) b after h k
      by_early None is =
          served r state has (turns (up is))
          (leads_steps known next a b before after r h state (up is)
          (λ i. limits_of (calls.sessions i) (calls.units i))
          (calls.serves is).leads keeps)
      by_early (Some fault) is =
          let (answer, same, idle) = calls.refuses fault is in
          let own : KeepsKeys before.places known a before h k = record { state = state; keeps = keeps; has = has } in
          subst (λ (t : Told). ServesFor known turn AnswersNothing a before (handed r) b t h k) (sym idle)
          (subst (λ (s : Store). ServesFor known turn AnswersNothing a before (handed r) s before h k) (sym same)
          (subst (λ (q : Result (Unit {0}) StoreFault). ServesFor known turn AnswersNothing a before (handed q) a before h k)
          (sym answer) (nothing_serves known turn AnswersNothing a before (key.Store fault) h k tt own)))

pub hands_on_serves : (next : State → State) (turn : KeyState → KeyState) (a b : Store) (before after : Told)
    (early : Option StoreFault) (most : ℕ) (result : Result (Unit {0}) KeyFault)
    → (early ≡ None → a.down ≡ false)
    → ((known : KnownPages) (h : History) (state : State) (k : KeyState) → a.down ≡ false
    → KeepsStore before.places known.pages (limits_of_store a) (view_of a) before h state → HasKeyState a.units state k
    → HasKeyState a.units (next state) (turn k))
    → HandsOn (λ answer. Calls early next most a before answer b after) result
    → ServesKeys turn AnswersNothing a before result b after
hands_on_serves next turn a b before after early most result up turns (r, is, calls) known h k keeps =
    subst (λ (q : Result (Unit {0}) KeyFault). ServesFor known turn AnswersNothing a before q b after h k) (sym is)
    (call_serves known next turn a b before after h k early most r up calls keeps.state keeps.keeps
    keeps.has (λ runs. turns known h keeps.state k runs keeps.keeps keeps.has))
