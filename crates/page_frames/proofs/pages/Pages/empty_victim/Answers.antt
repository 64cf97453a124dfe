use Rattle.std.proofs.Common.{sym, ◌∙◌, ap, subst}
use Rattle.std.proofs.lemmas.Result.{err_from_is_err_and}
use Rattle.store_laws.specs.Frames.{Frames, logs_of}
use Rattle.page_frames.specs.Views.{frame_in}
use Rattle.page_frames.specs.Frames.{IsVictimFor, IsUnheld, MayGive}
use Rattle.page_frames.specs.Pages.{frames_in}
use Rattle.page_frames.proofs.FrameLemmas.{emptied_out, emptied_none}
use Rattle.page_frames.proofs.HeldLemmas.{unheld_frame}
use Rattle.page_frames.proofs.LeaveLemmas.{leaves_unheld}
use Rattle.page_frames.proofs.UpholdLemmas.{upholds_none}
use Rattle.page_frames.proofs.WorkLemmas.{works_done}
use Rattle.page_frames.proofs.pages.Pages.empty_victim.Goals as goal

pub returns-in_default-clause-works : goal.returns-in_default-clause-works
returns-in_default-clause-works g c =
    let old = c.args.self.now in
    let told = g.C.Chip.told c.args.chip.now in
    works_done 14 old old told told (upholds_none 14 old told c.requires.ready)

pub write_out-requires-clause-page : goal.write_out-requires-clause-page
write_out-requires-clause-page g c =
    let pool = c.args.self.now.pool in
    let chosen = subst (IsVictimFor pool) c.in-Some.is c.requires.chosen in
    let unheld : IsUnheld pool c.in-Some.unit c.in-Some.page = chosen.2 in record {
      unit = c.requires.ready.within c.in-Some.unit c.in-Some.page (frame_in unheld.buffer)
          (unheld_frame pool c.in-Some.unit c.in-Some.page c.facts.ensures.once unheld);
      few = chosen.1;
    }

pub returns-in_err-write_out-clause-works : goal.returns-in_err-write_out-clause-works
returns-in_err-write_out-clause-works g c =
    let e = err_from_is_err_and c.from_residual.result c.from_residual.ensures.1 in
    rw (e.1, e.2) c.in_err-write_out.ensures.works

pub returns-in_err-write_out-clause-absent : goal.returns-in_err-write_out-clause-absent
returns-in_err-write_out-clause-absent g c = λ u q none.
    ap (λ (F : Frames). F u q) c.in_err-write_out.ensures.frames ∙ none

pub returns-clause-may : goal.returns-clause-may
returns-clause-may g c =
    let old = c.args.self.now.pool in
    let new = c.write_out.new.self.pool in
    let unit = c.in-Some.unit in
    let page = c.in-Some.page in
    let is = c.in_ok-write_out.ensures in
    let chosen = subst (IsVictimFor old) c.in-Some.is c.requires.chosen in
    subst (MayGive new) (sym c.in-Some.is) (
      chosen.1,
      leaves_unheld old new unit page c.facts.ensures.once c.facts-2.ensures.once is.works.upholds.pins
          is.frames chosen.2,
      ap (λ (F : Frames). logs_of F unit page) is.frames
          ∙ emptied_out (frames_in c.args.self.now) unit page,
    )

pub returns-clause-absent : goal.returns-clause-absent
returns-clause-absent g c = λ u q none.
    ap (λ (F : Frames). F u q) c.in_ok-write_out.ensures.frames
    ∙ emptied_none (frames_in c.args.self.now) c.in-Some.unit c.in-Some.page u q none
