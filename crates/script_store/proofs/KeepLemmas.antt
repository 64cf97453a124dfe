-- How the store of a script keeps a state, from how the store of records does.
use Rattle.std.proofs.Common.{ℕ, ◌≡◌, ◌≤◌, ◌<◌, ◌+◌, ◌^◌, max, arith, Bool, true, false, ◌∷◌, [], Option, List, Result, MatchResult, Ok, Err, is_ok, if◌then◌else◌, sym, ap, subst}
use Rattle.std.specs.Prelude.{IfErr}
use Rattle.std.specs.FinMap.{get}
use Rattle.std.proofs.lemmas.Bool.{true≢false, false≢true}
use Rattle.std.proofs.lemmas.Result.{IfErr-weaker}
use Rattle.chip_trait.specs.Story.{Story, Contents}
use Rattle.chip_trait.specs.Told.{History, Told, adds_all}
use Rattle.ipl_model.specs.State.{State, Limits}
use Rattle.ipl_model.specs.declared.command.Command.{Command}
use Rattle.ipl_model.specs.declared.reply.Reply.{Reply}
use Rattle.ipl_model.specs.Step.{step}
use Rattle.store_trait.specs.declared.fault.Fault.{Fault}
use Rattle.store_trait.specs.Keeping.{FOUND_NUMBER, LAST_NUMBER, WORK_DRAWS, LOOK_UP_DRAWS, Excuses, Draws, WorkLeaves, StaysMet, Works, LooksUp, LeavesTidy}
use Rattle.ipl_base.specs.declared.fault.StoreFault.{StoreFault}
use Rattle.unit_io.specs.Steps.{Tidies}
use Rattle.page_frames.specs.Pages.{tables_in}
use Rattle.store_laws.specs.Keeps.{KnownPages, KeepsStore, store_keeping}
use Rattle.ipl_store.specs.Calls.{view_of, counter_of}
use Rattle.script_store.specs.declared.store.ScriptStore.{ScriptStore}
use Rattle.script_store.specs.Keeps.{KeepsScript, next_number, script_keeping}
use Rattle.script_store.specs.Met.{FaultMet}

-- ---- numbers

pub counted_up : (s : ScriptStore) → s.store.down ≡ false → next_number s ≡ counter_of s.store
counted_up s up = ap (λ (down : Bool). if down then 0 else counter_of s.store) up

pub counted_few : (s : ScriptStore) → next_number s ≤ counter_of s.store
counted_few s = by_down s.store.down
  where
    by_down : (down : Bool) → (if down then 0 else counter_of s.store) ≤ counter_of s.store
    by_down true = omega arith
    by_down false = omega arith

within_max : (a b n m : ℕ) → n ≤ a + m → n ≤ max a b + m
within_max a b n m few = omega (arith, few)

past_max : (a b n m : ℕ) → n < a → n < max a b + m
past_max a b n m late = omega (arith, late)

within_found : (a b n m : ℕ) → n ≤ b → n ≤ max a b + m
within_found a b n m few = omega (arith, few)

-- a call of a store that isn't down drew at most so many, and told that they are used up where they are
pub draws_few : (known : KnownPages) (places n : ℕ) (IsSpent : Type 0) (a b : ScriptStore) → a.store.down ≡ false
    → counter_of b.store ≤ counter_of a.store + n
    → (IsSpent → LAST_NUMBER < counter_of a.store) → Draws (script_keeping places known) n a IsSpent b
draws_few known places n IsSpent a b up drawn late = record {
  most = within_max (next_number a) FOUND_NUMBER (next_number b) n most;
  spent = λ is. past_max (next_number a) FOUND_NUMBER LAST_NUMBER n
      (subst (λ (k : ℕ). LAST_NUMBER < k) (sym (counted_up a up)) (late is));
}
  where
    most : next_number b ≤ next_number a + n
    most = omega (arith, drawn, counted_few b, counted_up a up)

-- one that opened the chip again
pub draws_found : (known : KnownPages) (places n : ℕ) (IsSpent : Type 0) (a b : ScriptStore)
    → next_number b ≤ FOUND_NUMBER → (IsSpent → ⊥) → Draws (script_keeping places known) n a IsSpent b
draws_found known places n IsSpent a b left never = record {
  most = within_found (next_number a) FOUND_NUMBER (next_number b) n left;
  spent = λ is. absurd (never is);
}

-- ---- what is added

-- an answer that is done where the call was
pub tidy_answered : (known : KnownPages) {T U : Type 0} (E : Type 0) (places : ℕ) (a b : ScriptStore) (old new : Told)
    (result : Result T E) (answer : Result U Fault) → is_ok result ≡ is_ok answer
    → Tidies (tables_in a.store.transactions.pages) result (tables_in b.store.transactions.pages) old new
    → LeavesTidy (script_keeping places known) a b old new (is_ok answer)
tidy_answered known E places a b old new (Ok v) (Ok w) same did = record {
  added = did.added;
  history = did.history;
  lawful = did.does.lawful;
  clean = λ done. record { clean = λ base is clean. did.does.clean tt base clean };
}
tidy_answered known E places a b old new (Err e) (Err f) same did = record {
  added = did.added;
  history = did.history;
  lawful = did.does.lawful;
  clean = λ done. absurd (false≢true done);
}
tidy_answered known E places a b old new (Ok v) (Err f) same did = absurd (true≢false same)
tidy_answered known E places a b old new (Err e) (Ok w) same did = absurd (false≢true same)

-- of a call of the store
pub tidy_so : (known : KnownPages) {T U : Type 0} (places : ℕ) (a b : ScriptStore) (old new : Told)
    (result : Result T StoreFault) (answer : Result U Fault) → is_ok result ≡ is_ok answer
    → Tidies (tables_in a.store.transactions.pages) result (tables_in b.store.transactions.pages) old new
    → LeavesTidy (script_keeping places known) a b old new (is_ok answer)
tidy_so known places a b old new result answer same did = tidy_answered known StoreFault places a b old new result answer same did

-- ---- work, and looking up

module _ (known : KnownPages) (places : ℕ) (a b : ScriptStore) (old new : Told) (up : a.store.down ≡ false)
    (units : b.store.units ≡ a.store.units) where
  abbrev pub leaves_so : (P : Contents → Type 0) (h : History) (done : Bool)
      → WorkLeaves (store_keeping places known.pages) P (view_of a.store) h (view_of b.store) old new done
      → WorkLeaves (script_keeping places known) P a h b old new done
  leaves_so P h done leaves = record {
    added = leaves.added;
    history = leaves.history;
    each_moment = leaves.each_moment;
    silent = leaves.silent;
    only = leaves.only;
    lawful = leaves.lawful;
    clean = leaves.clean;
    unused = record { marks = leaves.unused.marks; counts = leaves.unused.counts };
  }

  few_still : a.store.units ≤ 1024 → b.store.units ≤ 1024
  few_still few = omega (arith, few, units)

  drawn_so : (n : ℕ) → counter_of b.store ≤ counter_of a.store + n
      → next_number b ≤ next_number a + n
  drawn_so n drawn = omega (arith, drawn, counted_few b, counted_up a up)

  few_so : (n : ℕ) → next_number a + n < 2 ^ 63 → counter_of a.store + n < 2 ^ 63
  few_so n few = subst (λ (k : ℕ). k + n < 2 ^ 63) (counted_up a up) few

  -- a fault of a store that keeps a state, then and behind these events, was met
  abbrev pub IsMetSince : Fault → Type 0
  IsMetSince fault = (limits : Limits) (state : State) (h : History) (added : Story)
      → KeepsStore places known.pages limits (view_of a.store) old h state
      → KeepsStore places known.pages limits (view_of b.store) new (adds_all added h) state
      → FaultMet places new (adds_all added h) fault

  pub works_so : (c : Command) (result : Result Reply Fault)
      → Works (store_keeping places known.pages) c (view_of a.store) old result (view_of b.store) new
      → IfErr result IsMetSince → Works (script_keeping places known) c a old result b new
  works_so c result works met limits state h keeps =
      let did = works limits state h keeps.kept in record {
        leaves = leaves_so _ h (is_ok result) did.leaves;
        ends = by_end result did.leaves.added met did.ends;
        drawn = drawn_so WORK_DRAWS did.drawn;
        excuse = IfErr-weaker result
            (Excuses (store_keeping places known.pages) WORK_DRAWS (view_of a.store) old new)
            (Excuses (script_keeping places known) WORK_DRAWS a old new)
            (λ fault excuse few whole. excuse (few_so WORK_DRAWS few) whole) did.excuse;
        tells = did.tells;
      }
    where
      by_end : (r : Result Reply Fault) (added : Story) → IfErr r IsMetSince → MatchResult r
          (λ reply. KeepsStore places known.pages limits (view_of b.store) new (adds_all added h) (step limits state c).0
          × ((step limits state c).1 ≡ reply ∷ []))
          (λ fault. StaysMet (store_keeping places known.pages) limits (view_of b.store) old new fault (adds_all added h) state)
          → MatchResult r
          (λ reply. KeepsScript places known limits b new (adds_all added h) (step limits state c).0
          × ((step limits state c).1 ≡ reply ∷ []))
          (λ fault. StaysMet (script_keeping places known) limits b old new fault (adds_all added h) state)
      by_end (Ok reply) added met ends = (record { kept = ends.0; few = few_still keeps.few }, ends.1)
      by_end (Err fault) added met stays = λ unrisen.
          let kept = (stays unrisen).0 in
          (record { kept = kept; few = few_still keeps.few }, met limits state h added keeps.kept kept)

  pub looks_up_so : (n : ℕ) (result : Result (Option (List ℕ)) Fault)
      → LooksUp (store_keeping places known.pages) n (view_of a.store) old result (view_of b.store) new
      → IfErr result IsMetSince → LooksUp (script_keeping places known) n a old result b new
  looks_up_so n result looks met limits state h keeps low =
      let did = looks limits state h keeps.kept low in record {
        leaves = leaves_so _ h (is_ok result) did.leaves;
        ends = by_end result did.leaves.added met did.ends;
        drawn = drawn_so LOOK_UP_DRAWS did.drawn;
        excuse = IfErr-weaker result
            (Excuses (store_keeping places known.pages) LOOK_UP_DRAWS (view_of a.store) old new)
            (Excuses (script_keeping places known) LOOK_UP_DRAWS a old new)
            (λ fault excuse few whole. excuse (few_so LOOK_UP_DRAWS few) whole) did.excuse;
        tells = did.tells;
      }
    where
      by_end : (r : Result (Option (List ℕ)) Fault) (added : Story) → IfErr r IsMetSince → MatchResult r
          (λ found. KeepsStore places known.pages limits (view_of b.store) new (adds_all added h) state
          × (found ≡ get state.map n))
          (λ fault. StaysMet (store_keeping places known.pages) limits (view_of b.store) old new fault (adds_all added h) state)
          → MatchResult r
          (λ found. KeepsScript places known limits b new (adds_all added h) state × (found ≡ get state.map n))
          (λ fault. StaysMet (script_keeping places known) limits b old new fault (adds_all added h) state)
      by_end (Ok found) added met ends = (record { kept = ends.0; few = few_still keeps.few }, ends.1)
      by_end (Err fault) added met stays = λ unrisen.
          let kept = (stays unrisen).0 in
          (record { kept = kept; few = few_still keeps.few }, met limits state h added keeps.kept kept)
