-- A page that leaves its frame once its records are written out.
use Rattle.std.proofs.Common.{◌≡◌, ◌≤◌, ◌<◌, ◌+◌, ℕ, true, [], length, Some, None, Ok, refl, sym, ◌∙◌, ap, subst, inl, inr, arith}
use Rattle.std.specs.Option.{option_map}
use Rattle.chip_trait.specs.Told.{Told}
use Rattle.chip_trait.proofs.CountsLemmas.{counts_none}
use Rattle.ipl_base.specs.declared.fault.ChipFault.{ChipFault}
use Rattle.buffer_pool.specs.Pools.{PoolView, AreOnce}
use Rattle.buffer_pool.specs.Holding.{KeepsPins}
use Rattle.buffer_pool.proofs.HoldingLemmas.{rest_stays}
use Rattle.store_laws.specs.Frames.{PageFrame, Frames, with_frame_at, with_frame_log}
use Rattle.store_laws.proofs.MemoryLemmas.{cases_page}
use Rattle.store_laws.proofs.SameLemmas.{frame_here, frame_other}
use Rattle.unit_io.specs.Steps.{Tidies}
use Rattle.unit_io.proofs.TablesLemmas.{tables_none}
use Rattle.place_taking.proofs.WearLemmas.{alike_tables, nothing_wears}
use Rattle.store_laws.specs.Advances.{KeepsState}
use Rattle.selective_merge.specs.Known.{KnowsPlaces}
use Rattle.selective_merge.specs.Moving.{tables_of}
use Rattle.store_laws.proofs.KeeperLemmas.{evictions_keep_states}
use Rattle.page_frames.specs.Views.{frame_in, frames_of}
use Rattle.page_frames.specs.declared.pages.Pages.{Pages}
use Rattle.page_frames.specs.Frames.{IsUnheld}
use Rattle.page_frames.specs.Pages.{tables_in, frames_in, ArePagesReady, Upholds, emptied}
use Rattle.page_frames.proofs.HeldLemmas.{unheld_frame, still_unheld}

-- the frame of the page has no records then
emptied_frame : (frames : Frames) (u page : ℕ) (f : PageFrame) → frames u page ≡ Some f
    → emptied frames u page u page ≡ Some (with_frame_log f [])
emptied_frame frames u page f there =
    frame_here frames u page _ u page refl refl ∙ ap (option_map (λ g. with_frame_log g [])) there

-- nothing holds it there still
pub leaves_unheld : (old new : PoolView) (u page : ℕ) → AreOnce old.buffers → AreOnce new.buffers
    → KeepsPins old new → frames_of new ≡ emptied (frames_of old) u page → IsUnheld old u page
    → IsUnheld new u page
leaves_unheld old new u page once then_once pins is unheld =
    let f = frame_in unheld.buffer in
    still_unheld old new u page (with_frame_log f []) once then_once pins
    (ap (λ (F : Frames). F u page) is ∙ emptied_frame (frames_of old) u page f
    (unheld_frame old u page once unheld)) unheld

-- it leaves
pub gone_upholds : (u page : ℕ) (f : PageFrame) (old new : Pages) (t : Told) → ArePagesReady t.places old
    → new.parts ≡ old.parts → frames_in old u page ≡ Some f → f.log ≡ []
    → frames_in new ≡ with_frame_at (frames_in old) u page None → KeepsPins old.pool new.pool
    → Upholds {T = Unit {0}} 0 old t (Ok tt) new t
gone_upholds u page f old new t ready same there empty is pins = record {
  keeps = subst (λ (x : Pages). KeepsState {T = Unit {0}} {E = ChipFault} (tables_in old)
      (frames_in old) t (Ok tt) (tables_in x) (frames_in new) t)
      (ap (λ parts. record { parts = parts; pool = old.pool }) (sym same))
      (subst (λ (F : Frames). KeepsState {T = Unit {0}} {E = ChipFault} (tables_in old)
      (frames_in old) t (Ok tt) (tables_in old) F t) (sym is)
      (evictions_keep_states (tables_in old) (frames_in old) u page f t there empty));
  tidy = subst (λ parts. Tidies {T = Unit {0}} {E = ChipFault} (tables_in old) (Ok tt) (tables_of parts) t t)
      (sym same) (tables_none {T = Unit {0}} {E = ChipFault} (tables_in old) (Ok tt) t);
  wears = nothing_wears (tables_in old) (tables_in new) true t (alike_tables (tables_in old)
      (tables_in new) (ap (λ parts. parts.directory) same) (ap (λ parts. parts.status.place) same));
  ready = record {
    known = subst (λ parts. KnowsPlaces t.places (tables_of parts)) (sym same) ready.known;
    within = λ v q g found.
        let was = left_there v q g (ap (λ (F : Frames). F v q) (sym is) ∙ found) in
        subst (λ parts. v < length parts.directory.current) (sym same) (ready.within v q g was);
    rest = rest_stays old.pool new.pool pins ready.rest;
  };
  units = ap (λ parts. length parts.directory.current) same;
  room = ap (λ parts. parts.status.most) same;
  active = ap (λ parts. parts.active) same;
  pins = pins;
  least = subst (λ parts. old.parts.counter ≤ parts.counter) (sym same) (omega arith);
  drawn = subst (λ parts. parts.counter ≤ old.parts.counter + 0) (sym same) (omega arith);
  accounts = record { counts = counts_none t; cause = tt };
}
  where
    left_there : (v q : ℕ) (g : PageFrame) → with_frame_at (frames_in old) u page None v q ≡ Some g
        → frames_in old v q ≡ Some g
    left_there v q g found = elim (cases_page u page v q) [
      | inl here ↦ absurd (let clash = sym (frame_here (frames_in old) u page None v q here.0 here.1)
          ∙ found in cc clash)
      | inr apart ↦ sym (frame_other (frames_in old) u page None v q apart) ∙ found
    ]
