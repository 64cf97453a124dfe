-- What an opening does for marks: before it writes anything, and once the status place is a new one.
use Rattle.std.proofs.Common.{◌≡◌, ◌⊎◌, ◌<◌, ◌≤◌, ◌*◌, ℕ, zero, suc, inl, inr, Bool, true, false, nat_lt, cond, [], ◌∷◌, map, length, get_or, replicate, Result, Ok, IfErr, refl, sym, ◌∙◌, ap, subst, arith}
use Rattle.std.proofs.lemmas.Bool.{cases_Bool, cases_eq, cases_lt, lt-ltb, le-ltb, or_left, or_right, true≢false}
use Rattle.std.proofs.lemmas.Iterator.Adapters.{option_map_id}
use Rattle.std.proofs.lemmas.List.{length-map, get_or-map, get_or-replicate, get_or_past}
use Rattle.chip_trait.specs.declared.event.Event.TheVariants.{Barrier}
use Rattle.chip_trait.specs.Image.{is_worn}
use Rattle.chip_trait.specs.Story.{Story, held}
use Rattle.chip_trait.specs.Told.{History, Told, adds}
use Rattle.ipl_base.specs.declared.fault.ChipFault.{ChipFault}
use Rattle.ipl_meaning.specs.Legible.{Legible}
use Rattle.ipl_meaning.specs.Agrees.{IsTidy}
use Rattle.ipl_meaning.specs.Chart.{Chart}
use Rattle.ipl_meaning.specs.Rests.{EachStands, StoryRests}
use Rattle.ipl_meaning.specs.Tables.{Places, Tables, counted_written, unmarked_written, with_marks_ended, IsCountedClean}
use Rattle.ipl_meaning.specs.TableSteps.{without_marks}
use Rattle.ipl_meaning.proofs.StoryLemmas.{held_stands, barriers_rest}
use Rattle.place_taking.specs.Homes.{KeepsHomes}
use Rattle.selective_merge.specs.Known.{KnowsPlaces}
use Rattle.ipl_meaning.specs.Opened.{AreOpened}
use Rattle.ipl_meaning.proofs.SpotLemmas.{in_use_from}
use Rattle.ipl_meaning.specs.Chosen.{header_at}
use Rattle.ipl_meaning.specs.Faults.{holds_live}
use Rattle.ipl_meaning.specs.Live.{marks_in}
use Rattle.restart.specs.Counted.{NoneKnown}
use Rattle.restart.specs.Opened.{NoneIsClean, CountsMarked}
use Rattle.unit_io.specs.Steps.{Settled, NoOtherEnd, TidyWork, Steps, Tidies}
use Rattle.unit_io.proofs.StepLemmas.{outcome_none, writes_are_steps}
use Rattle.unit_io.proofs.TablesLemmas.{tables_none}
use Rattle.unit_io.proofs.StepTidyLemmas.{tidy_none}
use Rattle.unit_directory.specs.Directory.{is_known}
use Rattle.unit_io.specs.Costs.{Costs, Spends}
use Rattle.unit_io.specs.Leads.{IsSteady, Leads, Waited, IsStopped}
use Rattle.unit_io.specs.Unread.{ReadsNothing}
use Rattle.unit_io.proofs.CostLemmas.{costs_none, spends_none, spends_wait, spends_waited}
use Rattle.unit_io.proofs.LeadsLemmas.{leads_waited}
use Rattle.unit_io.proofs.UnreadLemmas.{unread_waited}
use Rattle.restart.specs.Recovers.{RestsTidily}
use Rattle.restart.specs.Securing.{is_known_below, knows_logs, waits_for, WaitsWhere, NoneMarked}

-- ---- what is known

pub known_within : (it : Places) (n u : ℕ) → u < n → is_known it u ≡ true
    → is_known_below it n ≡ true
known_within it zero u low known = absurd (omega (arith, low))
known_within it (suc n) u low known = elim (cases_eq u n) [
  | inl last ↦ or_right (is_known_below it n) (is_known it n)
      (subst (λ (v : ℕ). is_known it v ≡ true) last known)
  | inr other ↦ or_left (is_known_below it n) (is_known it n)
      (known_within it n u (omega (arith, low, other)) known)
]

unknown_below : (it : Places) (n : ℕ) → NoneKnown n it → is_known_below it n ≡ false
unknown_below it zero none = refl
unknown_below it (suc n) none =
    rw (unknown_below it n (λ u low. none u (omega (arith, low))), none n (omega arith)) refl

-- where nothing is known of any unit
pub unknown_logs : (it : Places) → NoneKnown (length it.current) it → knows_logs it ≡ false
unknown_logs it none = unknown_below it (length it.current) none

-- the directory with nothing known of any unit
abbrev pub forgotten : Places → Places
forgotten it = record it { written = replicate (length it.current) 32 }

pub none_known : (it : Places) → NoneKnown (length it.current) (forgotten it)
none_known it u low = get_or-replicate (length it.current) u 32 0 low

-- so there is no barrier to wait for
pub no_waits : (it : Places) → waits_for (forgotten it) ≡ 0
no_waits it = ap (λ (known : Bool). cond known 1 0) (unknown_logs (forgotten it) (none_known it))

-- and each unit of which nothing is known in the other is unknown in it, at its place
pub homes_forgotten : (it : Places) → KeepsHomes (forgotten it) it
homes_forgotten it u low unknown = record {
  low = low;
  unknown = omega (arith, none_known it u low);
  place = refl;
}

-- so many count as written where nothing is known
unknown_written : (written : ℕ) → nat_lt written 32 ≡ false → counted_written written ≡ 15
unknown_written written none = elim (cases_lt written 32) [
  | inl less ↦ absurd (true≢false (sym (lt-ltb written 32 less) ∙ none))
  | inr past ↦ rw (le-ltb written 16 (omega (arith, past)), none) refl
]

-- then no sector counts as clean after an opening
pub none_counted : (places : ℕ) (c : Chart) (t : Tables) → AreOpened places c t
    → knows_logs t.places ≡ false → NoneIsClean t
none_counted places c t it none p s (small, inl (u, less, is, first)) =
    let unknown : is_known t.places u ≡ false = elim (cases_Bool (is_known t.places u)) [
      | inl known ↦ absurd (true≢false
          (sym (known_within t.places (length t.places.current) u less known) ∙ none))
      | inr other ↦ other
    ] in
    let all = unknown_written (get_or t.places.written u 0) unknown in
    omega (arith, small, first, all)
none_counted places c t it none p s (small, inr (inl (first, is, above_it))) =
    let from = in_use_from (holds_live (header_at c places) (marks_in c places (places * 256)))
    places t.overflow.in_use it.overflow.in_use_are p first is in
    omega (arith, small, above_it, from.1)
none_counted places c t it none p s (small, inr (inr (is, above_it))) =
    omega (arith, small, above_it, it.status.first_is)

-- the tables know as much once no mark counts any more
pub known_ended : (places : ℕ) (t : Tables) → KnowsPlaces places t
    → KnowsPlaces places (without_marks t)
known_ended places t is = record {
  suits = record {
    all = is.suits.all;
    units = is.suits.units;
    overflow = is.suits.overflow;
    sized = is.suits.sized;
  };
  none_lost = is.none_lost;
  used = is.used;
  retired_apart = is.retired_apart;
  homes_apart = is.homes_apart;
  overflows_apart = is.overflows_apart;
  no_home = is.no_home;
  status_apart = is.status_apart;
  two = is.two;
  status_placed = is.status_placed;
}

unmarked_ends : (written : ℕ) → (unmarked_written written < 16) ⊎ (32 ≤ unmarked_written written)
unmarked_ends written = elim (cases_lt written 16) [
  | inl few ↦ rw (lt-ltb written 16 few) (inl few)
  | inr more ↦ elim (cases_lt written 32) [
    | inl by_mark ↦ rw (le-ltb written 16 more, lt-ltb written 32 by_mark) (inl (omega (arith, by_mark)))
    | inr unknown ↦ rw (le-ltb written 16 more, le-ltb written 32 unknown) (inr unknown)
  ]
]

-- and of no unit something is known by a mark then
pub none_marked : (it : Places) → NoneMarked (with_marks_ended it)
none_marked it u low = elim (cases_lt u (length it.written)) [
  | inl within ↦ subst (λ (w : ℕ). (w < 16) ⊎ (32 ≤ w))
      (sym (get_or-map unmarked_written it.written u 0 0 within))
      (unmarked_ends (get_or it.written u 0))
  | inr past ↦ inl (omega (
    arith,
    get_or_past (map unmarked_written it.written) u 0
        (omega (arith, past, length-map it.written unmarked_written)),
  ))
]

-- ---- what is sure behind a barrier

-- a marked sector is untouched then: it is blank, and its place is a unit's, so that it isn't worn
pub tidy_behind : (places : ℕ) (m : Legible) (h : History) (t : Tables) → StoryRests places m h
    → CountsMarked places (held h.start h.story) t → IsTidy (adds Barrier h) t
tidy_behind places m h t rests marked p s counted =
    let is = marked p s counted in (
      is.is_blank,
      refl,
      elim (cases_Bool (is_worn h.story p)) [
        | inl worn ↦ absurd
            ((rests.worn is.layout is.laid p worn).not_home is.unit is.within (sym is.home))
        | inr sound ↦ rw sound refl
      ],
    )

-- ---- the barrier

-- what follows of it, passed or not, and of nothing
waited_or : (b : Bool) (result : Result (Unit {0}) ChipFault) (old new : Told)
    (P : Result (Unit {0}) ChipFault → Told → Type 0)
    → (b ≡ true → Waited result old new → P result new) → (b ≡ false → P (Ok tt) old)
    → WaitsWhere b result old new → P result new
waited_or true result old new P waits none did = waits refl did
waited_or false result old new P waits none did =
    subst (λ (r : Result (Unit {0}) ChipFault). P r new) (sym did.0)
    (subst (λ (n : Told). P (Ok tt) n) (sym did.1) (none refl))

-- it holds what it held
pub wait_contents : (b : Bool) (old new : Told) → WaitsWhere b (Ok tt) old new
    → new.contents ≡ old.contents
wait_contents true old new did = did.contents ∙ option_map_id old.contents
wait_contents false old new did = ap (λ (t : Told). t.contents) did.1

tidy_barrier : (before : ℕ → ℕ → Type 0) (Settles : Type 0)
    → TidyWork before before Settles (Barrier ∷ [])
tidy_barrier before Settles = record {
  silent = refl;
  lawful = record { lawful = λ base is clean. is };
  clean = λ _ base clean p s counted. rw (clean p s counted) refl;
}

-- the tables count the same
pub wait_tidies : (b : Bool) (t : Tables) (result : Result (Unit {0}) ChipFault) (old new : Told)
    → WaitsWhere b result old new → Tidies t result t old new
wait_tidies b t result old new =
    waited_or b result old new (λ r then. Tidies t r t old then)
    (λ _. spends_waited (TidyWork (IsCountedClean t) (IsCountedClean t) (Settled result old new))
    old new result (tidy_barrier (IsCountedClean t) (Settled result old new))
    (tidy_none (IsCountedClean t) (Settled result old new)))
    (λ _. tables_none {T = Unit {0}} {E = ChipFault} t (Ok tt) old)

-- it reads nothing
pub wait_unread : (b : Bool) (result : Result (Unit {0}) ChipFault) (old new : Told)
    → WaitsWhere b result old new → Spends ReadsNothing old new
wait_unread b result old new =
    waited_or b result old new (λ r then. Spends ReadsNothing old then)
    (λ _. unread_waited result old new)
    (λ _. spends_none ReadsNothing old (λ p s. refl))

-- and costs one barrier, or nothing
pub wait_costs : (it : Places) (result : Result (Unit {0}) ChipFault) (old new : Told)
    → WaitsWhere (knows_logs it) result old new → Spends (Costs 0 0 (waits_for it) []) old new
wait_costs it result old new =
    waited_or (knows_logs it) result old new (λ r then. Spends (Costs 0 0 (waits_for it) []) old then)
    (λ on did. rw on (spends_wait old new result did))
    (λ off. rw off (spends_none (Costs 0 0 0 []) old (costs_none [])))

-- ---- over a story that rests on a map

module _ (places : ℕ) (m : Legible) (h : History) (t : Tables) (old new : Told)
    (steady : IsSteady h old) (rests : StoryRests places m h)
    (marked : CountsMarked places (held h.start h.story) t) where
  abbrev Tidy : Bool → Story → Type 0
  Tidy done a = TidyWork (IsCountedClean t) (IsCountedClean t) (Unit {0}) a

  abbrev HasWaited : Unit {0} → History → Type 0
  HasWaited done k = k ≡ adds Barrier h

  then_rests : StoryRests places m (adds Barrier h)
  then_rests = barriers_rest places m h (held_stands places m h rests.each) rests.worn

  waits : (result : Result (Unit {0}) ChipFault) → Waited result old new
      → Leads (EachStands places m) Tidy HasWaited h old result new
  waits result did = leads_waited (EachStands places m) Tidy h old new steady HasWaited result did
      rests.each then_rests.each (tidy_barrier (IsCountedClean t) (Unit {0}))
      (tidy_none (IsCountedClean t) (Unit {0})) refl

  waits_in_steps : (result : Result (Unit {0}) ChipFault) → Waited result old new
      → IfErr result (λ fault. IsStopped fault old new)
      → Steps (EachStands places m) t t (λ v k. RestsTidily places m t k) NoOtherEnd h result old new
  waits_in_steps result did stopped =
      writes_are_steps (Unit {0}) (EachStands places m) Tidy HasWaited
      (λ v k. RestsTidily places m t k) t t h old new result (waits result did) stopped
      (λ done a tidy. (tidy.silent, tidy.lawful)) (λ v a tidy is base clean. tidy.clean tt base clean)
      (λ v a tidy is. subst (RestsTidily places m t) (sym is) (record {
        rests = then_rests;
        tidy = tidy_behind places m h t rests marked;
      }))

  nothing_in_steps : NoneIsClean t
      → Steps {T = Unit {0}} {E = ChipFault} (EachStands places m) t t
      (λ v k. RestsTidily places m t k) NoOtherEnd h (Ok tt) old old
  nothing_in_steps none =
      outcome_none (EachStands places m)
      (TidyWork (IsCountedClean t) (IsCountedClean t) (Unit {0})) (Unit {0})
      (RestsTidily places m t) h old steady rests.each (tidy_none (IsCountedClean t) (Unit {0}))
      (record { rests = rests; tidy = λ p s counted. absurd (none p s counted) })

  -- the tables agree then
  pub wait_in_steps : (b : Bool) (result : Result (Unit {0}) ChipFault)
      → (b ≡ false → NoneIsClean t) → WaitsWhere b result old new
      → IfErr result (λ fault. IsStopped fault old new)
      → Steps (EachStands places m) t t (λ v k. RestsTidily places m t k) NoOtherEnd h result old new
  wait_in_steps b result none did stopped =
      waited_or b result old new
      (λ r then. Steps (EachStands places m) t t (λ v k. RestsTidily places m t k) NoOtherEnd h r old
      then)
      (λ _ waited. waits_in_steps result waited stopped) (λ off. nothing_in_steps (none off)) did
