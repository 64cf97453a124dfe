-- What calls of the store leave of worn places, as a run knows of them.
use Rattle.std.proofs.Common.{ℕ, ◌≡◌, inl, inr, arith, Bool, true, false, List, ◌∷◌, ◌++◌, length, get_or, Option, None, Some, Result, Ok, Err, MatchResult, is_ok, refl, sym, ◌∙◌, ap, subst}
use Rattle.std.specs.List.{Contains}
use Rattle.std.proofs.lemmas.List.Elements.{All-cons, All-contains_itself}
use Rattle.std.proofs.lemmas.Option.{same_Some}
use Rattle.chip_trait.specs.Story.{Story, Contents}
use Rattle.chip_trait.specs.Told.{History, Told, Counts, adds_all}
use Rattle.ipl_base.specs.Places.{spares_on}
use Rattle.ipl_base.specs.declared.fault.ChipFault.{ChipFault}
use Rattle.ipl_base.specs.declared.fault.ChipFault.TheVariants.{ReadFault, Stopped, Damaged, Malformed, WornOut}
use Rattle.ipl_base.specs.declared.fault.StoreFault.{StoreFault}
use Rattle.ipl_base.specs.declared.fault.StoreFault.TheVariants as store
use Rattle.ipl_model.specs.State.{State}
use Rattle.ipl_model.specs.declared.reply.Reply.{Reply}
use Rattle.ipl_meaning.specs.Chart.{Chart, chart_of}
use Rattle.ipl_meaning.specs.Tables.{Places, Tables}
use Rattle.ipl_meaning.specs.Chosen.{units_at}
use Rattle.unit_directory.specs.Free.{spares_of}
use Rattle.place_taking.specs.Spending.{RetiresWorn}
use Rattle.place_taking.specs.Wear.{IsListedRetired, TellsOfWear}
use Rattle.place_taking.proofs.SpendingLemmas.{found_later}
use Rattle.page_frames.specs.Pages.{tables_in}
use Rattle.store_trait.specs.Keeping.{Learns}
use Rattle.ipl_store.specs.declared.store.Store.{Store}
use Rattle.ipl_store.specs.Calls.{IsSound, Serves, Calls, ends_worn_out}
use Rattle.script_store.specs.declared.store.ScriptStore.{ScriptStore}
use Rattle.store_laws.specs.Keeps.{KnownPages}
use Rattle.script_store.specs.Keeps.{IsRunning, script_keeping, answer_of, looked_up}
use Rattle.script_store.specs.Worn.{IsKnownWorn, TooManyAreWorn, WearsOut, KnowsSince, KnowsWorn, ChipWears, FaultWears, history_longer, known_longer}

-- ---- what is retired then

-- as many places are spare as the lists of the directory say
pub spares_at : (places units : ℕ) (d : Places) → length d.in_use ≡ places
    → length d.current ≡ units → spares_of d ≡ spares_on places units
spares_at places units d all current =
    ap (λ (n : ℕ). spares_on n (length d.current)) all ∙ ap (spares_on places) current

-- What was known to be worn in tables, and is found worn besides, is known in the tables then.
module _ (places : ℕ) (c : Chart) (first then : Places) (earlier later : Story) (worn_out : Bool)
    (known : (p : ℕ) → Contains first.retired p → IsKnownWorn places c earlier p)
    (retires : RetiresWorn first then worn_out later) where
  pub retired_known : (p : ℕ) → Contains then.retired p
      → IsKnownWorn places c (later ++ earlier) p
  retired_known p has = elim (retires.each p has) [
    | inl before ↦ known_longer places c later earlier p (known p before)
    | inr found ↦ inr (found_later later earlier p found)
  ]

  -- where all spare places are retired, and one more was found worn, too many are known
  pub too_many : length then.in_use ≡ places → length then.current ≡ units_at c places
      → worn_out ≡ true → TooManyAreWorn places c (later ++ earlier)
  too_many all current is =
      let more = retires.one_more is in
      let many = more.full ∙ spares_at places (units_at c places) then all current in record {
        worn = more.last ∷ then.retired;
        known = All-cons (IsKnownWorn places c (later ++ earlier)) more.last then.retired
            (inr (found_later later earlier more.last more.found))
            (λ i d low. retired_known (get_or then.retired i d)
            (All-contains_itself then.retired i d low));
        apart = more.apart;
        more = omega (arith, many);
      }

-- a fault of the chip tells of wear only so
pub chip_wears : (entry : Told) (e : ChipFault) (after : Told)
    → ((n : ℕ) → e ≡ WornOut n → WearsOut entry after) → ChipWears entry e after
chip_wears entry ReadFault after worn = tt
chip_wears entry Stopped after worn = tt
chip_wears entry (Damaged p s stored computed) after worn = tt
chip_wears entry (Malformed p s) after worn = tt
chip_wears entry (WornOut n) after worn = worn n refl

-- ---- a call of the store that is let in

module _ (a b : ScriptStore) (before after entry : Told) (x : Contents) (h : History)
    (units : b.store.units ≡ a.store.units)
    (since : KnowsSince entry.places x h a.store before) where
  abbrev t : Tables
  t = tables_in a.store.transactions.pages

  abbrev then : Tables
  then = tables_in b.store.transactions.pages

  -- done
  done_knows : {T : Type 0} (v : T) (next : State → State) (most : ℕ)
      → Serves next most a.store before (Ok v) b.store after
      → TellsOfWear t then true false before after → Counts before after
      → KnowsSince entry.places x h b.store after
  done_knows v next most did wears counts =
      let more = wears.places.added in
      let left = did.leads.fits entry.places since.places_are tt since.contents since.told in
      let on = left.2 since.layout since.state since.fits in
      let lists = wears.lists refl since.contents since.told in
      let one : left.0 ≡ lists.0 = same_Some left.0 lists.0 (sym left.1 ∙ lists.1) in
      let known = retired_known entry.places (chart_of x) t.places then.places since.added more false
      since.retired wears.places.does.retires in record {
        added = more ++ since.added;
        history = history_longer more since.added h before after since.history wears.places.history;
        contents = left.0;
        told = left.1;
        places_are = counts.places ∙ since.places_are;
        units = units ∙ since.units;
        layout = on.layout;
        state = next since.state;
        fits = on.fits;
        retired = known;
        listed = λ p has. elim (lists.2 p
            (subst (λ (y : Contents). IsListedRetired then (chart_of y) p) one has)) [
              | inl was ↦ known_longer entry.places (chart_of x) more since.added p (since.listed p was)
              | inr retired ↦ known p retired
            ];
      }

  -- failed, since too many places are worn
  fails_worn : TellsOfWear t then false true before after → IsSound before.places b.store
      → length then.places.current ≡ b.store.units
      → (added : Story) × (after.history ≡ Some (adds_all added h))
      × TooManyAreWorn entry.places (chart_of x) added
  fails_worn wears sound counted =
      let more = wears.places.added in (
        more ++ since.added,
        history_longer more since.added h before after since.history wears.places.history,
        too_many entry.places (chart_of x) t.places then.places since.added more true
            since.retired wears.places.does.retires (sound.made.directory ∙ since.places_are)
            (counted ∙ units ∙ since.units) refl,
      )

-- ---- a call of the store

-- What is known then, by the answer of the store: what was known is so still, but where a fault of the
-- chip ended it.
abbrev pub CallLearns : {T : Type 0} → Told → Result T StoreFault → ScriptStore → Told → Type 0
CallLearns entry (Ok v) b after = KnowsWorn entry b after
CallLearns entry (Err store.Down) b after = KnowsWorn entry b after
CallLearns entry (Err store.Spent) b after = KnowsWorn entry b after
CallLearns entry (Err (store.Refused r)) b after = KnowsWorn entry b after
CallLearns entry (Err (store.Chip e)) b after = ChipWears entry e after

module _ (a b : ScriptStore) (before after entry : Told) (runs : IsRunning before.places a)
    (knows : KnowsWorn entry a before) where
  -- nothing was done
  knows_idle : b.store ≡ a.store → after ≡ before → KnowsWorn entry b after
  knows_idle same still =
      subst (λ (s : Store). KnowsWorn entry (record { store = s }) after) (sym same)
      (subst (KnowsWorn entry a) (sym still) knows)

  module _ {T : Type 0} (result : Result T StoreFault) (units : b.store.units ≡ a.store.units)
      (sound : IsSound before.places b.store)
      (wears : TellsOfWear (tables_in a.store.transactions.pages) (tables_in b.store.transactions.pages)
      (is_ok result) (ends_worn_out result) before after) (counts : Counts before after) where
    -- a fault of the chip
    chip_learns : (e : ChipFault) → result ≡ Err (store.Chip e)
        → length b.store.transactions.pages.parts.directory.current ≡ b.store.units
        → ChipWears entry e after
    chip_learns e is counted = chip_wears entry e after (λ n worn x h told history.
        let fault : result ≡ Err (store.Chip (WornOut n)) =
        is ∙ ap (λ (f : ChipFault). chip_err f) worn in
        fails_worn a b before after entry x h units (knows runs.up x h told history)
        (subst (λ (r : Result T StoreFault). TellsOfWear (tables_in a.store.transactions.pages)
        (tables_in b.store.transactions.pages) (is_ok r) (ends_worn_out r) before after) fault wears)
        sound counted)
      where
        chip_err : ChipFault → Result T StoreFault
        chip_err f = Err (store.Chip f)

    -- one that was let in
    served_learns : (next : State → State) (most : ℕ)
        → Serves next most a.store before result b.store after → CallLearns entry result b after
    served_learns next most did = by_result result refl did
      where
        by_result : (r : Result T StoreFault) → result ≡ r
            → Serves next most a.store before r b.store after → CallLearns entry r b after
        by_result (Ok v) is did = λ up x h told history.
            done_knows a b before after entry x h units (knows runs.up x h told history) v next most did
            (subst (λ (r : Result T StoreFault). TellsOfWear (tables_in a.store.transactions.pages)
            (tables_in b.store.transactions.pages) (is_ok r) (ends_worn_out r) before after) is wears)
            counts
        by_result (Err (store.Chip e)) is did = chip_learns e is did.counted
        by_result (Err store.Down) is did =
            let no : store.Down ≡ store.Chip did.ends.0 = did.ends.1 in absurd (cc no)
        by_result (Err store.Spent) is did =
            let no : store.Spent ≡ store.Chip did.ends.0 = did.ends.1 in absurd (cc no)
        by_result (Err (store.Refused r)) is did =
            let no : store.Refused r ≡ store.Chip did.ends.0 = did.ends.1 in absurd (cc no)

    -- one that ended early
    early_learns : (fault : StoreFault) → result ≡ Err fault → b.store ≡ a.store → after ≡ before
        → CallLearns entry result b after
    early_learns fault is same still =
        subst (λ (r : Result T StoreFault). CallLearns entry r b after) (sym is) (by_fault fault is)
      where
        counted : length b.store.transactions.pages.parts.directory.current ≡ b.store.units
        counted = subst (λ (s : Store). length s.transactions.pages.parts.directory.current ≡ s.units)
            (sym same) (runs.sound.count runs.up)

        by_fault : (f : StoreFault) → result ≡ Err f → CallLearns {T = T} entry (Err f) b after
        by_fault store.Down is = knows_idle same still
        by_fault store.Spent is = knows_idle same still
        by_fault (store.Refused r) is = knows_idle same still
        by_fault (store.Chip e) is = chip_learns e is counted

  pub call_learns : {T : Type 0} (early : Option StoreFault) (next : State → State) (most : ℕ)
      (result : Result T StoreFault) → Calls early next most a.store before result b.store after
      → CallLearns entry result b after
  call_learns early next most result calls = by_early early refl
    where
      by_early : (o : Option StoreFault) → early ≡ o → CallLearns entry result b after
      by_early (Some fault) is =
          let (answer, same, still) = calls.refuses fault is in
          early_learns result calls.units calls.sound calls.wears calls.counts fault answer same still
      by_early None is =
          served_learns result calls.units calls.sound calls.wears calls.counts next most
          (calls.serves is)

-- ---- the answers

-- what was known is so still where the answer is a reply
pub answers_learn : {T : Type 0} (say : T → Reply) (entry : Told) (result : Result T StoreFault)
    (b : ScriptStore) (after : Told) → CallLearns entry result b after
    → MatchResult (answer_of say result) (λ _. KnowsWorn entry b after)
    (λ fault. FaultWears entry fault after)
answers_learn say entry (Ok v) b after learns = learns
answers_learn say entry (Err store.Down) b after learns = tt
answers_learn say entry (Err store.Spent) b after learns = tt
answers_learn say entry (Err (store.Refused r)) b after learns = learns
answers_learn say entry (Err (store.Chip e)) b after learns = learns

pub look_ups_learn : (entry : Told) (result : Result (Option (List ℕ)) StoreFault)
    (b : ScriptStore) (after : Told) → CallLearns entry result b after
    → MatchResult (looked_up result) (λ _. KnowsWorn entry b after)
    (λ fault. FaultWears entry fault after)
look_ups_learn entry (Ok found) b after learns = learns
look_ups_learn entry (Err store.Down) b after learns = tt
look_ups_learn entry (Err store.Spent) b after learns = tt
look_ups_learn entry (Err (store.Refused r)) b after learns = learns
look_ups_learn entry (Err (store.Chip e)) b after learns = learns

-- ---- work

module _ (known : KnownPages) (a b : ScriptStore) (before after : Told) where
  -- a call of the store, as the work of a command
  pub calls_learn : {T : Type 0} (say : T → Reply) (result : Result T StoreFault)
      → IsRunning before.places a → (early : Option StoreFault) (next : State → State) (most : ℕ)
      → Calls early next most a.store before result b.store after
      → Learns (script_keeping before.places known) a before (answer_of say result) b after
  calls_learn say result runs early next most calls entry knows =
      answers_learn say entry result b after
      (call_learns a b before after entry runs knows early next most result calls)

  -- and as looking a record up
  pub look_up_learns : (result : Result (Option (List ℕ)) StoreFault)
      → IsRunning before.places a → (early : Option StoreFault) (next : State → State) (most : ℕ)
      → Calls early next most a.store before result b.store after
      → Learns (script_keeping before.places known) a before (looked_up result) b after
  look_up_learns result runs early next most calls entry knows =
      look_ups_learn entry result b after
      (call_learns a b before after entry runs knows early next most result calls)
