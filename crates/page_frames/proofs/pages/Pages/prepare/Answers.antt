use Rattle.std.proofs.Common.{IsSome, sym, ◌∙◌, refl, subst}
use Rattle.std.proofs.lemmas.Bool.{false≢true}
use Rattle.std.proofs.lemmas.Result.{on_ok_weaker}
use Rattle.log_records.specs.View.{record_of}
use Rattle.place_taking.specs.Spending.{is_worn_out}
use Rattle.store_laws.specs.Frames.{Frames}
use Rattle.page_frames.specs.Changes.{MayPut}
use Rattle.page_frames.specs.declared.pages.Pages.{Pages}
use Rattle.buffer_pool.proofs.UseLemmas.{same_counts}
use Rattle.page_frames.proofs.AskLemmas.{fitting_asks, framed_asks, fetched_asks}
use Rattle.page_frames.proofs.BringLemmas.{fits_fresh, out_fresh, same_values, out_values, no_values}
use Rattle.page_frames.specs.Faulty.{StandsSurely}
use Rattle.page_frames.specs.Pages.{tables_in}
use Rattle.page_frames.proofs.TellLemmas.{used_tells}
use Rattle.page_frames.proofs.UseLemmas.{used_upholds, used_framed, used_after, stays_for}
use Rattle.page_frames.proofs.WorkLemmas.{works_done, works_then}
use Rattle.page_frames.proofs.pages.Pages.prepare.Goals as goal

-- ---- its page is in no frame

pub returns-then-not-is_framed-clause-prepares : goal.returns-then-not-is_framed-clause-prepares
returns-then-not-is_framed-clause-prepares g c =
    let new = c.fetch.new.self in
    let is = c.fetch.ensures.comes in record {
      room = on_ok_weaker c.fetch.result
          (fits_fresh new c.args.unit (record_of c.args.logged.now) c.short.ensures) is.fresh;
      values = no_values c.fetch.result c.args.unit c.args.logged.now.page c.args.self.now new
          (λ there. false≢true (c.if-not-is_framed.ensures.1 there));
      used = is.used;
    }

pub returns-then-not-is_framed-clause-asks : goal.returns-then-not-is_framed-clause-asks
returns-then-not-is_framed-clause-asks g c =
    fetched_asks c.args.unit (record_of c.args.logged.now) (is_worn_out c.fetch.result) c.args.self.now c.fetch.new.self
    (g.C.Chip.told c.args.chip.now) (g.C.Chip.told c.fetch.new.chip)
    (λ there. false≢true (c.if-not-is_framed.ensures.1 there)) c.fetch.ensures.asks

-- ---- it is in one, with room for the record

pub use_page-requires-clause-there : goal.use_page-requires-clause-there
use_page-requires-clause-there g c = c.if-not-is_framed.ensures.0 refl

pub returns-then-has_room-clause-works : goal.returns-then-has_room-clause-works
returns-then-has_room-clause-works g c =
    let old = c.args.self.now in
    let pool = c.use_page.new.pool in
    let told = g.C.Chip.told c.args.chip.now in
    works_done 14 old (record old { pool = pool }) told told
    (used_upholds 14 old pool told c.requires.ready c.use_page.ensures.frames c.use_page.ensures.pins)

pub returns-then-has_room-clause-framed : goal.returns-then-has_room-clause-framed
returns-then-has_room-clause-framed g c =
    let old = c.args.self.now in
    let pool = c.use_page.new.pool in
    stays_for c.args.unit c.args.logged.now.page old (record old { pool = pool })
    (used_framed old pool c.use_page.ensures.frames) c.use_page.ensures.others

pub returns-then-has_room-clause-asks : goal.returns-then-has_room-clause-asks
returns-then-has_room-clause-asks g c =
    fitting_asks c.args.unit (record_of c.args.logged.now) c.args.self.now c.use_page.new.pool
    (g.C.Chip.told c.args.chip.now) (c.if-not-is_framed.ensures.0 refl) c.use_page.ensures.uses

pub returns-then-has_room-clause-prepares : goal.returns-then-has_room-clause-prepares
returns-then-has_room-clause-prepares g c =
    let old = c.args.self.now in record {
      room = c.has_room.ensures.0 c.if-has_room.true;
      values = same_values c.args.unit c.args.logged.now.page old
          (record old { pool = c.use_page.new.pool }) c.use_page.ensures.frames;
      used = c.use_page.ensures.last;
    }

-- ---- with none

pub write_out-requires-clause-ready : goal.write_out-requires-clause-ready
write_out-requires-clause-ready g c =
    (used_upholds 14 c.args.self.now c.use_page.new.pool (g.C.Chip.told c.args.chip.now)
    c.requires.ready c.use_page.ensures.frames c.use_page.ensures.pins).ready

pub returns-clause-works : goal.returns-clause-works
returns-clause-works g c =
    let old = c.args.self.now in
    let told = g.C.Chip.told c.args.chip.now in
    let pool = c.use_page.new.pool in
    works_then 0 14 old (record old { pool = pool }) c.write_out.new.self c.write_out.result told
    told (g.C.Chip.told c.write_out.new.chip)
    (used_upholds 0 old pool told c.requires.ready c.use_page.ensures.frames
    c.use_page.ensures.pins) c.write_out.ensures.works
    (used_tells (λ x it. StandsSurely x it (tables_in c.write_out.new.self)
    (g.C.Chip.told c.write_out.new.chip)) old c.write_out.new.self pool c.write_out.result told
    c.use_page.ensures.frames c.write_out.ensures.works.surely)

pub returns-clause-exact : goal.returns-clause-exact
returns-clause-exact g c = λ none.
    absurd (false≢true (subst IsSome none (c.if-not-is_framed.ensures.0 refl)))

pub returns-clause-prepares : goal.returns-clause-prepares
returns-clause-prepares g c =
    let old = c.args.self.now in
    let new = c.write_out.new.self in
    let used : Pages = record old { pool = c.use_page.new.pool } in
    let u = c.args.unit in
    let page = c.args.logged.now.page in record {
      room = on_ok_weaker c.write_out.result
          (fits_fresh new u (record_of c.args.logged.now) c.short.ensures)
          (out_fresh c.write_out.result u page used new
          (used_framed old used.pool c.use_page.ensures.frames u page (c.if-not-is_framed.ensures.0 refl))
          c.write_out.ensures.frames);
      values = out_values c.write_out.result u page old used new c.use_page.ensures.frames
          c.write_out.ensures.frames;
      used = used_after c.write_out.result used.pool new.pool u page c.write_out.ensures.pool.uses
          c.use_page.ensures.last;
    }

pub returns-clause-framed : goal.returns-clause-framed
returns-clause-framed g c =
    let unit = c.args.unit in
    let page = c.args.logged.now.page in
    stays_for c.args.unit c.args.logged.now.page c.args.self.now c.write_out.new.self (λ v q is.
    c.write_out.ensures.framed v q
    (used_framed c.args.self.now c.use_page.new.pool c.use_page.ensures.frames v q is))
    (λ v q used apart now. c.use_page.ensures.others v q used apart
    (same_counts unit page c.use_page.new.pool c.write_out.new.self.pool
    c.write_out.ensures.pool.uses v q
    used apart now))

pub returns-clause-asks : goal.returns-clause-asks
returns-clause-asks g c =
    let old = c.args.self.now in
    let pool = c.use_page.new.pool in
    let r = record_of c.args.logged.now in
    framed_asks c.args.unit r c.write_out.result old (record old { pool = pool })
    c.write_out.new.self (g.C.Chip.told c.args.chip.now) (g.C.Chip.told c.write_out.new.chip) refl
    (λ may. false≢true (sym c.if-has_room.false ∙ c.has_room.ensures.1
    (subst (λ (F : Frames). MayPut F c.args.unit r) (sym c.use_page.ensures.frames) may)))
    (c.if-not-is_framed.ensures.0 refl) c.write_out.ensures.asks
