-- A header put on a place.
use Rattle.std.proofs.Common.{◌≡◌, ℕ, List, Bool, true, false, [], ◌∷◌, ◌++◌, Some, Result, Ok, Err, OnOk, is_ok, refl, sym, ◌∙◌, ap, subst}
use Rattle.std.specs.Option.{option_map}
use Rattle.chip_trait.specs.declared.event.Event.TheVariants.{Program, Barrier}
use Rattle.chip_trait.specs.Story.{Story, after}
use Rattle.chip_trait.specs.Image.{IsClosed}
use Rattle.chip_trait.specs.Chart.{with_sector}
use Rattle.chip_trait.specs.Told.{History, Told, Breaks, Halts, adds, adds_all}
use Rattle.chip_trait.proofs.ClosedLemmas.{held_program}
use Rattle.ipl_base.specs.declared.fault.ChipFault.{ChipFault}
use Rattle.ipl_base.specs.declared.fault.ChipFault.TheVariants.{Stopped}
use Rattle.ipl_meaning.specs.Legible.{Legible}
use Rattle.ipl_format.specs.Sector.{Sector, sector_in}
use Rattle.ipl_meaning.specs.Stands.{StandsBeside}
use Rattle.ipl_meaning.specs.Rests.{now, IsUntouched, EachStands, EachStandsEither, WornAreIdle, StoryRests}
use Rattle.ipl_meaning.specs.Chart.{Chart}
use Rattle.ipl_meaning.specs.Marks.{KeepsMarks}
use Rattle.std.proofs.lemmas.Bool.{and_parts}
use Rattle.ipl_meaning.proofs.StoryLemmas.{held_stands, barriers_rest, barriers_keep_either, either_is_kept, one_is_either, programs_lead}
use Rattle.unit_io.specs.Leads.{IsSteady, LeadsWhere, Leads, RestsWith, IsSectorAdded, RestsAdded, KeepsMap, SwitchesMap, SwitchesMapWhere, Did, Waited}
use Rattle.unit_io.specs.Spots.{AddsSector, Programs, IsSpot}
use Rattle.unit_io.specs.Costs.{Spends}
use Rattle.unit_io.specs.Charts.{Charts, Gains}
use Rattle.unit_io.proofs.LeadsLemmas.{leads_did, leads_waited, leads_then, leads_failed, leads_weaker, steady_after, steady_then}
use Rattle.unit_io.proofs.CostLemmas.{one_added, spends_then}
use Rattle.unit_io.proofs.SpotLemmas.{programs_none, programs_one, programs_barrier, programs_then, programs_wider}
use Rattle.unit_io.proofs.SectorLemmas.{programmed_chart}

-- behind what was done first, programs at spots of which the first had none
programs_after : (p : ℕ) (Spot : ℕ → Type 0) (done then : Bool) (later earlier : Story) → Programs p (λ s. ⊥) done earlier → Programs p Spot then later → Programs p Spot then (later ++ earlier)
programs_after p Spot done then later earlier first second = programs_then p (λ s. ⊥) Spot Spot done then later earlier (λ s none is. none) (λ s none. absurd none) (λ s is. is) first second

programs_before : (p : ℕ) (Spot : ℕ → Type 0) (done then : Bool) (later earlier : Story) → Programs p Spot done earlier → Programs p (λ s. ⊥) then later → Programs p Spot then (later ++ earlier)
programs_before p Spot done then later earlier first second = programs_then p Spot (λ s. ⊥) Spot done then later earlier (λ s is none. none) (λ s is. is) (λ s none. absurd none) first second

module _ (Sound : Type 0) (old : Told) (m n : Legible) (h : History) (p t : ℕ) (bytes : List ℕ) (head : Sector) (says : sector_in bytes ≡ Some head) (rests : StoryRests old.places m h)
    (fresh : IsUntouched h p t) (stands : StandsBeside old.places (now h) (with_sector (now h) p t head) n)
    (worn : WornAreIdle old.places h.story (with_sector (now h) p t head)) (marks : Sound → KeepsMarks old.places h (adds (Program p t bytes) h)) where
  Sealed : Unit {0} → History → Type 0
  Sealed done then = StoryRests old.places n then × Gains p t head (now h) (now then)

  module _ (closed : IsClosed h.story) where
    header_leads : (mid : Told) (result : Result (Unit {0}) ChipFault) → IsSteady h old → Did (Program p t bytes) result old mid
        → LeadsWhere Sound (EachStandsEither old.places m n) (Programs p (IsSpot t)) (λ done then. then ≡ adds (Program p t bytes) h) h old result mid
    header_leads mid result steady did =
        leads_did (EachStandsEither old.places m n) (Programs p (IsSpot t)) h old mid steady (λ done then. then ≡ adds (Program p t bytes) h) (Program p t bytes) result did
        (one_is_either old.places m n h rests.each) (programs_lead old.places m n h p t bytes head rests closed fresh says stands worn).0 marks
        (programs_one p t bytes) (programs_none p (IsSpot t) false) refl

    -- the sector and the barrier behind it, and what holds then
    leads_both : (Then : Unit {0} → History → Type 0) → Then tt (adds Barrier (adds (Program p t bytes) h))
        → (mid new : Told) (result : Result (Unit {0}) ChipFault) → IsSteady h old → Did (Program p t bytes) (Ok tt) old mid → Waited result mid new
        → LeadsWhere Sound (EachStandsEither old.places m n) (Programs p (IsSpot t)) Then h old result new
    leads_both Then there mid new result steady program wait =
        let k : History = adds (Program p t bytes) h in
        let first = header_leads mid (Ok tt) steady program in
        let (either, after_it, worn_then) = programs_lead old.places m n h p t bytes head rests closed fresh says stands worn in
        let at : adds_all first.added h ≡ k = first.ends.1 in
        let here : IsSteady k mid = subst (λ (j : History). IsSteady j mid) at (steady_after (EachStandsEither old.places m n) (Programs p (IsSpot t)) (λ done then. then ≡ adds (Program p t bytes) h) h tt old mid first) in
        let second : LeadsWhere Sound (EachStandsEither old.places m n) (Programs p (λ s. ⊥)) (λ done then. then ≡ adds Barrier k) k mid result new =
        leads_waited (EachStandsEither old.places m n) (Programs p (λ s. ⊥)) k mid new here (λ done then. then ≡ adds Barrier k) result wait
        either (barriers_keep_either old.places m n k either) (programs_barrier p (λ s. ⊥) true) (programs_none p (λ s. ⊥) false) refl in
        leads_then (EachStandsEither old.places m n) (Programs p (IsSpot t)) (Programs p (λ s. ⊥)) (Programs p (IsSpot t)) (λ done then. then ≡ adds (Program p t bytes) h)
        (λ done then. then ≡ adds Barrier k) Then h tt old mid new result first
        (subst (λ (j : History). LeadsWhere Sound (EachStandsEither old.places m n) (Programs p (λ s. ⊥)) (λ done then. then ≡ adds Barrier k) j mid result new) (sym at) second)
        (λ a b one two. programs_before p (IsSpot t) true (is_ok result) b a one two)
        (λ w j is. subst (Then tt) (sym is) there)

    -- the story rests on what stands with it
    rests_both : StoryRests old.places n (adds Barrier (adds (Program p t bytes) h))
    rests_both =
        let (either, after_it, worn_then) = programs_lead old.places m n h p t bytes head rests closed fresh says stands worn in
        barriers_rest old.places n (adds (Program p t bytes) h) after_it worn_then

    pub added_leads : (mid new : Told) (result : Result (Unit {0}) ChipFault) → IsSteady h old → Did (Program p t bytes) (Ok tt) old mid → Waited result mid new
        → SwitchesMapWhere Sound old.places m n (Programs p (IsSpot t)) (λ done. Gains p t head) h old result new
    added_leads = leads_both (RestsWith old.places n (λ done. Gains p t head) h) (rests_both, held_program sector_in h.start h.story p t bytes head says)

    -- and the sector is the one that was added
    pub sector_leads : (mid new : Told) (result : Result (Unit {0}) ChipFault) → IsSteady h old → Did (Program p t bytes) (Ok tt) old mid → Waited result mid new
        → LeadsWhere Sound (EachStandsEither old.places m n) (Programs p (IsSpot t)) (λ done k. RestsAdded old.places n p t head h k) h old result new
    sector_leads = leads_both (λ done k. RestsAdded old.places n p t head h k)
        (record { rests = rests_both; added = record { bytes = bytes; spelled = says; is = refl } })

    -- it failed
    fails_both : {F : Type 0} (Then : Unit {0} → History → Type 0) (new : Told) (f : F) → IsSteady h old → Breaks (Program p t bytes) old new
        → LeadsWhere {T = Unit {0}} {E = F} Sound (EachStandsEither old.places m n) (Programs p (IsSpot t)) Then h old (Err f) new
    fails_both Then new f steady broke =
        leads_failed (EachStandsEither old.places m n) (Programs p (IsSpot t)) (Programs p (IsSpot t)) (λ done then. then ≡ adds (Program p t bytes) h)
        Then h Stopped f old new (header_leads new (Err Stopped) steady broke) (λ a one. one)

    pub added_fails : {F : Type 0} (new : Told) (f : F) → IsSteady h old → Breaks (Program p t bytes) old new
        → SwitchesMapWhere {T = Unit {0}} {E = F} Sound old.places m n (Programs p (IsSpot t)) (λ done. Gains p t head) h old (Err f) new
    added_fails = fails_both (RestsWith old.places n (λ done. Gains p t head) h)

    pub sector_fails : {F : Type 0} (new : Told) (f : F) → IsSteady h old → Breaks (Program p t bytes) old new
        → LeadsWhere {T = Unit {0}} {E = F} Sound (EachStandsEither old.places m n) (Programs p (IsSpot t)) (λ done k. RestsAdded old.places n p t head h k) h old (Err f) new
    sector_fails = fails_both (λ done k. RestsAdded old.places n p t head h k)

-- the chart has gained the sector that was added
pub added_gains : (p s : ℕ) (sector : Sector) (h k : History) → IsSectorAdded p s sector h k → Gains p s sector (now h) (now k)
added_gains p s sector h k added = rw (added.is) (held_program sector_in h.start h.story p s added.bytes sector added.spelled)

-- where the new map is the old one, it is kept, whatever holds then
pub switch_keeps : {T E : Type 0} {Sound : Type 0} (places : ℕ) (m : Legible) (Does : Bool → Story → Type 0) (Then : T → History → Type 0) (h : History) (old : Told) (result : Result T E) (new : Told)
    → LeadsWhere Sound (EachStandsEither places m m) Does Then h old result new → LeadsWhere Sound (EachStands places m) Does Then h old result new
switch_keeps places m Does Then h old result new =
    leads_weaker (EachStandsEither places m m) (EachStands places m) Does Does Then Then h old result new
    (λ k either. either_is_kept places m k either) (λ done a is. is) (λ v k is. is)

-- also with what charts say
pub switch_is_kept : {T E : Type 0} (places : ℕ) (m : Legible) (Does : Bool → Story → Type 0) (F : T → Chart → Chart → Type 0) (h : History) (old : Told) (result : Result T E) (new : Told)
    → SwitchesMap places m m Does F h old result new → KeepsMap places m Does F h old result new
switch_is_kept places m Does F h old result new = switch_keeps places m Does (RestsWith places m F h) h old result new

-- the barrier before the header, and what is known of the story behind it
pub settled_rests : (places : ℕ) (m : Legible) (h : History) → StoryRests places m h → StoryRests places m (adds Barrier h)
settled_rests places m h rests = barriers_rest places m h (held_stands places m h rests.each) rests.worn

-- worn places are no more of them behind a barrier
pub worn_settled : (places : ℕ) (story : Story) (c : Chart) → WornAreIdle places story c → WornAreIdle places (Barrier ∷ story) c
worn_settled places story c worn it laid p is = worn it laid p (and_parts _ _ is).0

-- and where the chip stands
pub steady_settled : (h : History) (old mid : Told) → IsSteady h old → Waited (Ok tt) old mid → IsSteady (adds Barrier h) mid
steady_settled h old mid steady wait = steady_then Barrier h old mid steady wait

module _ (places : ℕ) (m n : Legible) (h : History) (p : ℕ) (head : Sector) (rests : StoryRests places m h) (old mid : Told) (steady : IsSteady h old) where
  waits : (result : Result (Unit {0}) ChipFault) → Waited result old mid → Leads (EachStandsEither places m n) (Programs p (λ s. ⊥)) (λ done then. then ≡ adds Barrier h) h old result mid
  waits result wait = leads_waited (EachStandsEither places m n) (Programs p (λ s. ⊥)) h old mid steady (λ done then. then ≡ adds Barrier h) result wait
      (one_is_either places m n h rests.each) (one_is_either places m n (adds Barrier h) (settled_rests places m h rests).each) (programs_barrier p (λ s. ⊥) true) (programs_none p (λ s. ⊥) false) refl

  pub seal_leads : (new : Told) (result : Result (Unit {0}) ChipFault) → Waited (Ok tt) old mid
      → SwitchesMap places m n (Programs p (IsSpot 0)) (λ done. Gains p 0 head) (adds Barrier h) mid result new
      → SwitchesMap places m n (Programs p (IsSpot 0)) (λ done. Gains p 0 head) h old result new
  seal_leads new result wait second =
      let first = waits (Ok tt) wait in
      leads_then (EachStandsEither places m n) (Programs p (λ s. ⊥)) (Programs p (IsSpot 0)) (Programs p (IsSpot 0)) (λ done then. then ≡ adds Barrier h)
      (RestsWith places n (λ done. Gains p 0 head) h) (RestsWith places n (λ done. Gains p 0 head) h) h tt old mid new result first
      (subst (λ (j : History). Leads (EachStandsEither places m n) (Programs p (IsSpot 0)) (RestsWith places n (λ done. Gains p 0 head) h) j mid result new) (sym first.ends.1) second)
      (λ a b one two. programs_after p (IsSpot 0) true (is_ok result) b a one two)
      (λ w k is. is)

  pub seal_fails : {F : Type 0} (f : F) → Halts old mid
      → SwitchesMap {T = Unit {0}} {E = F} places m n (Programs p (IsSpot 0)) (λ done. Gains p 0 head) h old (Err f) mid
  seal_fails f halted =
      leads_failed (EachStandsEither places m n) (Programs p (λ s. ⊥)) (Programs p (IsSpot 0)) (λ done then. then ≡ adds Barrier h)
      (RestsWith places n (λ done. Gains p 0 head) h) h Stopped f old mid (waits (Err Stopped) halted)
      (λ a one. programs_wider p (λ s. ⊥) (IsSpot 0) false false a (λ s none. absurd none) one)

-- what is told of the contents
pub added_tells : (p t : ℕ) (bytes : List ℕ) (head : Sector) (old mid new : Told) (result : Result (Unit {0}) ChipFault) → sector_in bytes ≡ Some head
    → Did (Program p t bytes) (Ok tt) old mid → Waited result mid new → OnOk result (Charts (Gains p t head) old new)
added_tells p t bytes head old mid new (Ok v) says program wait = λ x told.
    (after (Program p t bytes) x, wait.contents ∙ ap (option_map (after Barrier)) (program.contents ∙ ap (option_map (after (Program p t bytes))) told), programmed_chart p t bytes head x says)
added_tells p t bytes head old mid new (Err e) says program wait = tt

pub seal_tells : (p : ℕ) (head : Sector) (old mid new : Told) (result : Result (Unit {0}) ChipFault) → Waited (Ok tt) old mid → OnOk result (Charts (Gains p 0 head) mid new) → OnOk result (Charts (Gains p 0 head) old new)
seal_tells p head old mid new (Ok v) wait tells = λ x told. tells x (wait.contents ∙ ap (option_map (after Barrier)) told)
seal_tells p head old mid new (Err e) wait tells = tt

-- and which events were added
pub added_events : (p t : ℕ) (bytes : List ℕ) (sector : Sector) (old mid new : Told) (result : Result (Unit {0}) ChipFault) → sector_in bytes ≡ Some sector
    → Did (Program p t bytes) (Ok tt) old mid → Waited result mid new → OnOk result (Spends (AddsSector p t sector) old new)
added_events p t bytes sector old mid new (Ok v) says program wait =
    spends_then (λ a. a ≡ Program p t bytes ∷ []) (λ a. a ≡ Barrier ∷ []) (AddsSector p t sector) old mid new
    (λ later earlier first second. record { bytes = bytes; spelled = says; events = rw (first, second) refl })
    (record { added = Program p t bytes ∷ []; does = refl; history = program.history ∙ one_added (Program p t bytes) old.history })
    (record { added = Barrier ∷ []; does = refl; history = wait.history ∙ one_added Barrier mid.history })
added_events p t bytes sector old mid new (Err e) says program wait = tt
