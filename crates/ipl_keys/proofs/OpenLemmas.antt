-- A chip is opened whose records have keys.
use Rattle.std.proofs.Common.{◌≡◌, ◌∙◌, ℕ, true, inl, inr, [], Result, Ok, Err, sym, subst}
use Rattle.chip_trait.specs.Moment.{AtEachMoment}
use Rattle.chip_trait.specs.Story.{Story, held}
use Rattle.chip_trait.specs.Told.{History, Told, adds_all}
use Rattle.chip_trait.proofs.HistoryLemmas.{same_history}
use Rattle.chip_trait.proofs.MomentLemmas.{at_start}
use Rattle.ipl_model.specs.State.{Map, at_rest}
use Rattle.ipl_meaning.specs.Legible.{of}
use Rattle.store_laws.specs.Keeps.{KnownPages}
use Rattle.ipl_meaning.specs.Rests.{now, EachStands, EachStandsIn, StoryRests}
use Rattle.ipl_meaning.specs.Tables.{Tables}
use Rattle.ipl_meaning.proofs.StoryLemmas.{held_stands}
use Rattle.ipl_meaning.specs.Chosen.{units_at}
use Rattle.ipl_meaning.proofs.MomentLemmas.{moments_as_said}
use Rattle.unit_io.specs.Leads.{IsSteady}
use Rattle.ipl_store.specs.declared.memory.Unopened.{Unopened}
use Rattle.ipl_store.specs.Memories.{answer_of_opening}
use Rattle.ipl_store.specs.Openings.{OpensAs, Tries}
use Rattle.ipl_keys.specs.declared.keys.Keys.{Keys}
use Rattle.ipl_keys.specs.KeyState.{KeyMap}
use Rattle.ipl_keys.specs.Records.{HasKeys}
use Rattle.ipl_keys.specs.Keeps.{LeavesKeys}
use Rattle.ipl_keys.specs.Opening.{OpensFor, OpensKeys, store_of}
use Rattle.ipl_keys.proofs.StateLemmas.{resting_states_have_keys}
use Rattle.ipl_keys.proofs.ServeLemmas.{leaves_keys}

module _ (known : KnownPages) (old new : Told) (units : ℕ) (records : Map) (m : KeyMap) (h : History)
    (suits : units ≡ units_at (now h) old.places) (steady : IsSteady h old)
    (rests : StoryRests old.places (of known.pages records) h) (has : HasKeys units records m) where
  leaves : (k : History) → EachStandsIn old.places units (of known.pages records) k
      → LeavesKeys old.places known units m m k
  leaves k each =
      leaves_keys known old.places units records records m m has has k (λ x image. inl (each x image))

  -- at each moment there are as many units as the chip said
  as_said : (added : Story) → AtEachMoment (λ e. EachStands old.places (of known.pages records) (adds_all e h)) added
      → AtEachMoment (λ e. EachStandsIn old.places units (of known.pages records) (adds_all e h)) added
  as_said added each =
      subst (λ (n : ℕ). AtEachMoment (λ e. EachStandsIn old.places n (of known.pages records) (adds_all e h)) added)
      (sym suits) (moments_as_said old.places (of known.pages records) h added rests each)

  -- the chip wasn't asked
  idle : (unopened : Unopened) → OpensFor old.places known units m h old (Err unopened) old
  idle unopened = record {
    added = [];
    history = same_history old.history;
    each_moment = λ later part is. leaves (adds_all part h) (as_said []
        (at_start (λ e. EachStands old.places (of known.pages records) (adds_all e h)) rests.each) later part is);
    keeps = tt;
  }

  -- it was, and not opened
  failed : (unopened : Unopened) (t : Tables) → Tries true old.places old (Err unopened.fault) t new
      → OpensFor old.places known units m h old (Err unopened) new
  failed unopened t tries =
      let (first, takes, did) = tries.steps (of known.pages records) h steady rests in record {
        added = did.added;
        history = did.history;
        each_moment = λ later part is. leaves (adds_all part h)
            (as_said did.added did.each_moment later part is);
        keeps = tt;
      }

  -- it was opened
  opened : (size numbers : ℕ) (keys : Keys) → OpensAs size numbers old (Ok keys.store) new
      → OpensFor old.places known units m h old (Ok keys) new
  opened size numbers keys (same, sound, room, opens, tries) =
      let (first, takes, did) = tries.steps (of known.pages records) h steady rests in
      let later = adds_all did.added h in
      let ends = did.ends tt in
      let store = keys.store in
      let alike : store.units ≡ units = opens.units (held h.start h.story) steady.holds ∙ sym suits in
      record {
        added = did.added;
        history = did.history;
        each_moment = λ later part is. leaves (adds_all part h)
            (as_said did.added did.each_moment later part is);
        keeps = (
          record {
            state = at_rest records;
            keeps = opens.keeps known.pages records later (held h.start h.story) steady.holds
                (held_stands old.places (of known.pages records) h rests.each) (did.steady tt) ends.rests ends.tidy;
            has = resting_states_have_keys store.units records m
                (subst (λ (n : ℕ). HasKeys n records m) (sym alike) has);
          },
          alike,
        );
      }

  by_result : (size numbers : ℕ) (result : Result Keys Unopened)
      → OpensAs size numbers old (answer_of_opening (store_of result)) new
      → OpensFor old.places known units m h old result new
  by_result size numbers (Ok keys) did = opened size numbers keys did
  by_result size numbers (Err unopened) (inl (other, is, same)) =
      subst (λ (t : Told). OpensFor old.places known units m h old (Err unopened) t) (sym same) (idle unopened)
  by_result size numbers (Err unopened) (inr (fits, (t, room, tries))) = failed unopened t tries

pub opens_keys : (size numbers : ℕ) (old new : Told) (result : Result Keys Unopened)
    → OpensAs size numbers old (answer_of_opening (store_of result)) new → OpensKeys old result new
opens_keys size numbers old new result did known units records m h suits steady rests has =
    by_result known old new units records m h suits steady rests has size numbers result did
