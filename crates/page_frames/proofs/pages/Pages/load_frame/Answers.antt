use Rattle.std.proofs.Common.{ℕ, List, Some, refl, ◌∙◌, ap, subst}
use Rattle.ipl_meaning.specs.Chart.{chart_of}
use Rattle.number_set.specs.Numbers.{among}
use Rattle.page_rebuild.specs.Loaded.{IsLoaded, OfTables, load_fault}
use Rattle.unit_io.specs.Faults.{TellsChipFault}
use Rattle.std.proofs.lemmas.Result.{on_ok_weaker}
use Rattle.ipl_format.specs.Record.{Record}
use Rattle.buffer_pool.specs.Lending.{with_frame}
use Rattle.page_frames.proofs.FrameViewLemmas.{loans_change_a_frame}
use Rattle.page_frames.proofs.PutLemmas.{stored_then, frame_pins, frame_uses}
use Rattle.store_laws.specs.Frames.{with_frame_at}
use Rattle.store_laws.specs.Views.{frame_of}
use Rattle.page_frames.specs.Pages.{tables_in, frames_in}
use Rattle.page_frames.proofs.HeldLemmas.{unheld_page, has_log}
use Rattle.page_frames.proofs.CompleteLemmas.{load_completes}
use Rattle.page_frames.proofs.LoadLemmas.{load_asks}
use Rattle.page_frames.proofs.TellLemmas.{load_exact}
use Rattle.page_frames.proofs.pages.Pages.load_frame.Goals as goal

pub unreachable-requires : goal.unreachable-requires
unreachable-requires g c =
    let is = c.requires.unheld in
    c.in_default.ensures.none is.key (unheld_page c.args.self.now.pool c.args.unit c.args.page is)

pub load-requires-clause-suits : goal.load-requires-clause-suits
load-requires-clause-suits g c =
    let suits = c.requires.suits in
    record { size = suits.all; units = suits.overflow; sized = suits.sized }

pub returns-clause-loads : goal.returns-clause-loads
returns-clause-loads g c =
    let p = c.args.self.now.pool in
    let u = c.args.unit in
    let page = c.args.page in
    let once = c.facts.ensures.once in
    let has = c.in-Some.ensures.found in
    let t = tables_in c.args.self.now in
    let bare = has_log p u page c.in-Some.key once has c.requires.empty in
    record {
      view = c.load.new.frame;
      frames = loans_change_a_frame p u page c.in-Some.key (with_frame c.load.new.frame) once has
          (refl, refl)
          ∙ ap (λ (l : List Record). with_frame_at (frames_in c.args.self.now) u page
          (Some (frame_of c.load.new.frame l))) bare;
      loaded = on_ok_weaker c.load.result (λ loads x told it mirrors.
          subst (λ (l : List ℕ). IsLoaded (chart_of x) it (among l) u page c.load.new.frame)
          c.as_slice.ensures.numbers (loads x told it t (record {
            mirrored = record { mirrors = mirrors; directory_is = refl; overflow_is = refl };
            status_is = refl;
          }))) c.load.ensures.loads;
    }

pub returns-clause-complete : goal.returns-clause-complete
returns-clause-complete g c =
    let told = g.C.Chip.told c.args.chip.now in
    let t = tables_in c.args.self.now in
    load_completes t c.args.unit c.args.page c.load.result told
    (subst (λ (l : List ℕ). OfTables told t.places t.overflow t.status (λ x it.
    TellsChipFault (load_fault x it (among l) c.args.unit c.args.page) c.load.result))
    c.as_slice.ensures.numbers c.load.ensures.fault)

pub returns-clause-exact : goal.returns-clause-exact
returns-clause-exact g c =
    let told = g.C.Chip.told c.args.chip.now in
    let t = tables_in c.args.self.now in
    load_exact t c.args.unit c.args.page c.load.result told
    (subst (λ (l : List ℕ). OfTables told t.places t.overflow t.status (λ x it.
    TellsChipFault (load_fault x it (among l) c.args.unit c.args.page) c.load.result))
    c.as_slice.ensures.numbers c.load.ensures.fault)

pub returns-clause-pool : goal.returns-clause-pool
returns-clause-pool g c =
    let p = c.args.self.now.pool in
    let u = c.args.unit in
    let page = c.args.page in
    let is = c.requires.unheld in
    let once = c.facts.ensures.once in
    let has = unheld_page p u page is in
    let f = c.load.new.frame in
    let same = once u page c.in-Some.key is.key c.in-Some.ensures.found has in record {
      unheld = rw same (record {
        key = is.key;
        buffer = with_frame f is.buffer;
        stored = stored_then p u page is.key once has f;
        unit_is = is.unit_is;
        page_is = is.page_is;
        unpinned = is.unpinned;
      });
      pins = frame_pins p u page c.in-Some.key once c.in-Some.ensures.found f;
      uses = frame_uses p u page c.in-Some.key once c.in-Some.ensures.found f;
    }

pub returns-clause-asks : goal.returns-clause-asks
returns-clause-asks g c =
    load_asks c.args.self.now.parts.directory _ _ c.args.page c.load.result
    (g.C.Chip.told c.args.chip.now) (g.C.Chip.told c.load.new.chip) c.requires.page_of.few
    c.load.ensures.looks.reads c.load.ensures.looks.cause
