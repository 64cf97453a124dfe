-- Which sectors calls program or erase, one after another, whatever the chip tells.
use Rattle.std.proofs.Common.{◌≡◌, ◌≤◌, ◌+◌, ℕ, Bool, true, false, List, [], ◌∷◌, Result, Ok, Err, is_ok, refl, ◌∙◌, arith}
use Rattle.chip_trait.specs.declared.event.Event.TheVariants.{Program, Erase, Barrier}
use Rattle.chip_trait.specs.Told.{Told}
use Rattle.ipl_base.specs.declared.fault.ChipFault.{ChipFault}
use Rattle.ipl_format.specs.Place.{base_sector_of}
use Rattle.unit_io.specs.Leads.{Did, Waited}
use Rattle.unit_io.specs.Spots.{Programs, Clears, Rewrites, IsSpot, IsPieceSpot}
use Rattle.unit_io.specs.Costs.{Spends}
use Rattle.unit_io.proofs.ReadsAtLemmas.{none_added}
use Rattle.unit_io.proofs.CostLemmas.{one_added, spends_did, spends_then, spends_waited, spends_weaker}
use Rattle.unit_io.proofs.SpotLemmas.{programs_none, programs_one, programs_barrier, programs_wider, programs_then, clears_none, clears_erase, clears_all, Refills, refills_from, rewrites_then, rewrites_cleared, rewrites_refilled}

-- ---- one event

pub tidy_programmed : (p s : ℕ) (bytes : List ℕ) (done : Bool) (old new : Told) (result : Result (Unit {0}) ChipFault)
    → Did (Program p s bytes) result old new → Spends (Programs p (IsSpot s) done) old new
tidy_programmed p s bytes done old new result did =
    spends_did (Programs p (IsSpot s) done) (Program p s bytes) old new result (programs_one p s bytes done)
    (programs_none p (IsSpot s) done) did

tidy_waited : (p : ℕ) (done : Bool) (old new : Told) (result : Result (Unit {0}) ChipFault) → Waited result old new
    → Spends (Programs p (λ s. ⊥) done) old new
tidy_waited p done old new result did =
    spends_waited (Programs p (λ s. ⊥) done) old new result (programs_barrier p (λ s. ⊥) done) (programs_none p (λ s. ⊥) done) did

-- ---- joined

-- the same spots, or more of them, done or not
pub tidy_wider : (p : ℕ) (Few Many : ℕ → Type 0) (done then : Bool) (old new : Told) → ((s : ℕ) → Few s → Many s)
    → Spends (Programs p Few done) old new → Spends (Programs p Many then) old new
tidy_wider p Few Many done then old new wider =
    spends_weaker (Programs p Few done) (Programs p Many then) old new (λ added. programs_wider p Few Many done then added wider)

-- at some spots, and then at others
pub tidy_then : (p : ℕ) (First Second All : ℕ → Type 0) (done then : Bool) (old mid new : Told)
    → ((s : ℕ) → First s → Second s → ⊥) → ((s : ℕ) → First s → All s) → ((s : ℕ) → Second s → All s)
    → Spends (Programs p First done) old mid → Spends (Programs p Second then) mid new → Spends (Programs p All then) old new
tidy_then p First Second All done then old mid new apart a b =
    spends_then (Programs p First done) (Programs p Second then) (Programs p All then) old mid new
    (λ later earlier. programs_then p First Second All done then later earlier apart a b)

-- programs, and then a barrier, passed or not
pub tidy_then_waits : (p : ℕ) (Spot : ℕ → Type 0) (done then : Bool) (old mid new : Told) (result : Result (Unit {0}) ChipFault)
    → Spends (Programs p Spot done) old mid → Waited result mid new → Spends (Programs p Spot then) old new
tidy_then_waits p Spot done then old mid new result first wait =
    tidy_then p Spot (λ s. ⊥) Spot done then old mid new (λ s is never. never) (λ s is. is) (λ s never. absurd never)
    first (tidy_waited p then mid new result wait)

-- a barrier that was passed, and then programs
pub tidy_waits_then : (p : ℕ) (Spot : ℕ → Type 0) (then : Bool) (old mid new : Told)
    → Waited (Ok tt) old mid → Spends (Programs p Spot then) mid new → Spends (Programs p Spot then) old new
tidy_waits_then p Spot then old mid new wait second =
    tidy_then p (λ s. ⊥) Spot Spot true then old mid new (λ s never is. never) (λ s never. absurd never) (λ s is. is)
    (tidy_waited p true old mid (Ok tt) wait) second

-- a barrier that wasn't passed
pub tidy_halted : (p : ℕ) (Spot : ℕ → Type 0) (e : ChipFault) (old new : Told) → Waited (Err e) old new
    → Spends (Programs p Spot false) old new
tidy_halted p Spot e old new wait =
    tidy_wider p (λ s. ⊥) Spot false false old new (λ s never. absurd never) (tidy_waited p false old new (Err e) wait)

-- ---- a place that is erased

pub tidy_broken : (p : ℕ) (e : ChipFault) (old new : Told) → Did (Erase p) (Err e) old new → Spends (Clears p false) old new
tidy_broken p e old new did = spends_did (Clears p false) (Erase p) old new (Err e) (clears_erase p) (clears_none p) did

pub tidy_begun : (p : ℕ) (old mid new : Told) (result : Result (Unit {0}) ChipFault)
    → Did (Erase p) (Ok tt) old mid → Waited result mid new → Spends (Clears p (is_ok result)) old new
tidy_begun p old mid new (Ok u) erase wait =
    spends_then (λ a. a ≡ Erase p ∷ []) (λ b. b ≡ Barrier ∷ []) (Clears p true) old mid new
    (λ later earlier first second. rw (first, second) (clears_all p))
    (record { added = Erase p ∷ []; does = refl; history = erase.history ∙ one_added (Erase p) old.history })
    (record { added = Barrier ∷ []; does = refl; history = wait.history ∙ one_added Barrier mid.history })
tidy_begun p old mid new (Err e) erase wait =
    spends_then (λ a. a ≡ Erase p ∷ []) (λ b. b ≡ []) (Clears p false) old mid new
    (λ later earlier first second. rw (first, second) (clears_erase p))
    (record { added = Erase p ∷ []; does = refl; history = erase.history ∙ one_added (Erase p) old.history })
    (record { added = []; does = refl; history = wait.history ∙ none_added mid.history })

-- ---- the pieces of a page

pub tidy_piece_more : (p page n : ℕ) (done : Bool) (old mid new : Told)
    → Spends (Programs p (IsPieceSpot page n) true) old mid → Spends (Programs p (IsSpot (base_sector_of page n)) done) mid new
    → Spends (Programs p (IsPieceSpot page (n + 1)) done) old new
tidy_piece_more p page n done old mid new =
    tidy_then p (IsPieceSpot page n) (IsSpot (base_sector_of page n)) (IsPieceSpot page (n + 1)) true done old mid new
    (λ s is at. omega (arith, is.1, at)) (λ s is. (is.0, omega (arith, is.1)))
    (λ s at. (omega (arith, at), omega (arith, at)))

pub tidy_pieces : (p page n : ℕ) (done then : Bool) (old new : Told) → n ≤ 16
    → Spends (Programs p (IsPieceSpot page n) done) old new → Spends (Programs p (IsPieceSpot page 16) then) old new
tidy_pieces p page n done then old new few =
    tidy_wider p (IsPieceSpot page n) (IsPieceSpot page 16) done then old new (λ s is. (is.0, omega (arith, is.1, few)))

-- ---- a place that was erased, and then programmed

pub tidy_refilled : (p : ℕ) (Spot : ℕ → Type 0) (then : Bool) (old mid new : Told)
    → Spends (Clears p true) old mid → Spends (Programs p Spot then) mid new → Spends (Refills p Spot) old new
tidy_refilled p Spot then old mid new =
    spends_then (Clears p true) (Programs p Spot then) (Refills p Spot) old mid new
    (λ later earlier. refills_from p Spot then later earlier)

-- at some spots, and then at others, all below this one
pub tidy_rewritten : (p from : ℕ) (First Second : ℕ → Type 0) (then done : Bool) (old mid new : Told)
    → ((s : ℕ) → Second s → First s → ⊥) → ((s : ℕ) → from ≤ s → First s → ⊥) → ((s : ℕ) → from ≤ s → Second s → ⊥)
    → Spends (Refills p First) old mid → Spends (Programs p Second then) mid new → Spends (Rewrites p from done) old new
tidy_rewritten p from First Second then done old mid new apart a b =
    spends_then (Refills p First) (Programs p Second then) (Rewrites p from done) old mid new
    (λ later earlier. rewrites_then p from First Second then done later earlier apart a b)

-- not all was done
pub tidy_begun_only : (p from : ℕ) (old new : Told) → Spends (Clears p false) old new → Spends (Rewrites p from false) old new
tidy_begun_only p from old new =
    spends_weaker (Clears p false) (Rewrites p from false) old new (λ added. rewrites_cleared p from added)

pub tidy_refilled_only : (p from : ℕ) (Spot : ℕ → Type 0) (old new : Told) → Spends (Refills p Spot) old new
    → Spends (Rewrites p from false) old new
tidy_refilled_only p from Spot old new =
    spends_weaker (Refills p Spot) (Rewrites p from false) old new (λ added. rewrites_refilled p from Spot added)
