use Rattle.std.proofs.Common.{[], refl, ◌∙◌, ap, Err}
use Rattle.buffer_pool.proofs.HoldingLemmas.{both_keep}
use Rattle.buffer_pool.proofs.UseLemmas.{kept_uses_are_last, same_counts}
use Rattle.page_ops.specs.Frames.{empty_frame}
use Rattle.store_laws.specs.Frames.{Frames, logs_of}
use Rattle.page_frames.specs.Views.{frames_of}
use Rattle.unit_io.specs.ReadsAt.{Anywhere}
use Rattle.store_laws.specs.Views.{frame_of}
use Rattle.page_frames.specs.Pages.{frames_in}
use Rattle.page_frames.specs.Filling.{with_pool}
use Rattle.page_frames.proofs.HeldLemmas.{taken_log}
use Rattle.page_frames.proofs.LoadLemmas.{loaded_then, freed_then, load_upholds, fail_upholds}
use Rattle.page_frames.proofs.SpendLemmas.{reads_alone}
use Rattle.page_frames.proofs.CompleteLemmas.{loaded_completes}
use Rattle.page_frames.proofs.TellLemmas.{loaded_stands, stands_surely, stands_then}
use Rattle.page_frames.proofs.WorkLemmas.{works_done}
use Rattle.page_frames.proofs.pages.Pages.fill.Goals as goal

pub free_frame-requires-clause-empty : goal.free_frame-requires-clause-empty
free_frame-requires-clause-empty g c =
    let did = c.in-Err.ensures.loads in
    ap (λ (F : Frames). logs_of F c.args.unit c.args.page) did.frames
    ∙ taken_log (frames_in c.args.self.now) c.args.unit c.args.page (frame_of did.view []) refl

pub returns-in-Ok-clause-fills : goal.returns-in-Ok-clause-fills
returns-in-Ok-clause-fills g c = λ pool ready absent takes.
    let is = c.in-Ok.ensures in
    let old = with_pool c.args.self.now pool in
    let u = c.args.unit in
    let q = c.args.page in
    let new = c.load_frame.new.self in
    let told = g.C.Chip.told c.args.chip.now in
    let frames = loaded_then (frames_of pool) (frames_in c.args.self.now) (frames_in new) u q
    (frame_of empty_frame []) (frame_of is.loads.view []) takes.frames is.loads.frames in record {
      works = works_done 0 old new told (g.C.Chip.told c.load_frame.new.chip)
          (load_upholds u q is.loads.view old new told
          (g.C.Chip.told c.load_frame.new.chip) ready c.requires.page_of.unit c.requires.page_of.few absent
          is.tables frames is.asks.reads is.loads.loaded
          (both_keep pool c.args.self.now.pool new.pool takes.pins is.pool.pins));
      exact = is.exact;
      stands = λ x there slots it state fits. tt;
      brings = (frame_of is.loads.view [], refl, frames);
      others = λ v r used apart now. takes.others v r used apart
          (same_counts u q c.args.self.now.pool new.pool is.pool.uses v r used apart now);
      used = kept_uses_are_last c.args.self.now.pool new.pool u q is.pool.uses takes.last;
    }

pub returns-in-Err-clause-fills : goal.returns-in-Err-clause-fills
returns-in-Err-clause-fills g c = λ pool ready absent takes.
    let is = c.in-Err.ensures in
    let old = with_pool c.args.self.now pool in
    let u = c.args.unit in
    let q = c.args.page in
    let mid = c.load_frame.new.self in
    let new = with_pool mid c.free_frame.new.pool in
    let told = g.C.Chip.told c.args.chip.now in
    let freed = freed_then (frames_of pool) (frames_in mid) (frames_of c.free_frame.new.pool) u q
    (frame_of is.loads.view []) absent
    (loaded_then (frames_of pool) (frames_in c.args.self.now) (frames_in mid) u q
    (frame_of empty_frame []) (frame_of is.loads.view []) takes.frames is.loads.frames)
    c.free_frame.ensures.frames in
    let after = g.C.Chip.told c.load_frame.new.chip in
    let stands = loaded_stands {T = Unit {0}} u q old new (Err c.in-Err.fault) told after
    c.requires.page_of.unit c.requires.page_of.few is.tables is.asks.reads.counts.places
    is.asks.reads.contents is.exact in record {
      works = record {
        upholds = fail_upholds old new c.in-Err.fault told (g.C.Chip.told c.load_frame.new.chip) ready
            is.tables freed is.asks.reads is.asks.unworn
            (both_keep pool c.args.self.now.pool c.free_frame.new.pool takes.pins
            (both_keep c.args.self.now.pool mid.pool c.free_frame.new.pool is.pool.pins
            c.free_frame.ensures.pins)) is.asks.accounts.cause;
        complete = loaded_completes {T = Unit {0}} u q old (Err c.in-Err.fault) told c.requires.page_of.unit
            c.requires.page_of.few is.complete;
        faults = stands_then {T = Unit {0}} old new (Err c.in-Err.fault) told after stands;
        surely = stands_surely {T = Unit {0}} old new (Err c.in-Err.fault) told after stands;
      };
      exact = is.exact;
      stands = stands;
      brings = freed;
      others = λ v r used apart now. takes.others v r used apart
          (same_counts u q c.args.self.now.pool mid.pool is.pool.uses v r used apart
          (c.free_frame.ensures.uses v r used now));
      used = tt;
    }

pub returns-in-Ok-clause-costs : goal.returns-in-Ok-clause-costs
returns-in-Ok-clause-costs g c =
    reads_alone Anywhere (g.C.Chip.told c.args.chip.now) (g.C.Chip.told c.load_frame.new.chip)
    c.in-Ok.ensures.asks.reads

pub returns-in-Err-clause-costs : goal.returns-in-Err-clause-costs
returns-in-Err-clause-costs g c =
    reads_alone Anywhere (g.C.Chip.told c.args.chip.now) (g.C.Chip.told c.load_frame.new.chip)
    c.in-Err.ensures.asks.reads
