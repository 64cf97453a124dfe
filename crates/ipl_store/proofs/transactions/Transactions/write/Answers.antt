use Rattle.std.proofs.Common.{ℕ, slice_index, false, Ok, refl, sym, ◌∙◌, ap}
use Rattle.std.proofs.lemmas.Bool.{false≢true, OnTrue_at, OnFalse_at}
use Rattle.std.proofs.lemmas.Option.{none-some}
use Rattle.std.proofs.lemmas.Result.{err_from_is_err_and}
use Rattle.ipl_base.specs.declared.fault.ChipFault.TheVariants.{Malformed}
use Rattle.place_taking.specs.Spending.{tells_worn}
use Rattle.ipl_base.specs.Places.{home_of}
use Rattle.ipl_base.specs.Sizes.{size_in_page}
use Rattle.ipl_base.specs.declared.spot.Home.{Home}
use Rattle.ipl_format.specs.Record.{Record}
use Rattle.ipl_model.specs.Operations.{after_write}
use Rattle.log_records.specs.View.{change_of}
use Rattle.log_records.specs.declared.record.Change.{Change}
use Rattle.store_laws.specs.Frames.{IsWrittenFrame}
use Rattle.record_locks.specs.Held.{after_write as after_slots}
use Rattle.record_locks.specs.Locks.{refuses_write}
use Rattle.ipl_store.proofs.OpenLemmas.{writes_numbered, unrefused_done}
use Rattle.ipl_store.proofs.SessionLemmas.{locks_of}
use Rattle.ipl_store.proofs.TurnLemmas.{upheld_no_more, upheld_refused, completes_for, tells_for}
use Rattle.ipl_store.proofs.WriteLemmas.{put_framed, prepared_asks, prepared_idle, page_has_room, IsRefused, refused_completes, refused_tells, unframed_put, was_written}
use Rattle.std.proofs.Common.{subst}
use Rattle.page_frames.specs.Pages.{ArePagesReady, KeepsFramedFor}
use Rattle.page_frames.proofs.FramedLemmas.{set_framed}
use Rattle.page_frames.proofs.UpholdLemmas.{upholds_then}
use Rattle.page_frames.proofs.UseLemmas.{framed_then, used_framed, used_upholds}
use Rattle.page_frames.specs.declared.pages.Pages.{Pages}
use Rattle.buffer_pool.specs.Uses.{IsUsedLast}
use Rattle.buffer_pool.proofs.UseLemmas.{kept_uses_are_last, same_counts}
use Rattle.std.proofs.Common.{◌≡◌, None, Err}
use Rattle.page_frames.specs.Pages.{tables_in, frames_in, HasFreeFrame}
use Rattle.page_frames.specs.Faulty.{FailsAsPage, StandsSurely, StandsThen}
use Rattle.ipl_store.proofs.transactions.Transactions.write.Given.{Over}
use Rattle.ipl_store.proofs.transactions.Transactions.write.Goals as goal

-- the record that is put
abbrev record_put : Change → Home → ℕ → Record
record_put change at tid =
    record { page = at.page; slot = at.slot; tid = tid; change = change_of change }

pub unreachable-requires : goal.unreachable-requires
unreachable-requires g c =
    let mine = writes_numbered c.args.self.now.sessions c.args.s c.args.name.0
    (size_in_page (change_of c.args.change)) c.requires.may.unrefused in
    none-some mine.0 (sym c.in_default.is ∙ c.number.ensures ∙ mine.1)

pub returns-in_err-prepare-clause-turns : goal.returns-in_err-prepare-clause-turns
returns-in_err-prepare-clause-turns g c =
    let old = c.args.self.now in
    let e = err_from_is_err_and c.from_residual.result c.from_residual.ensures.1 in
    rw (e.1, e.2)
    (upheld_no_more
    (λ state. after_write state c.args.s (c.args.name.0, change_of c.args.change)) 14 old
    (record { pages = c.prepare.new.self; sessions = old.sessions })
    c.in_err-prepare.field-0.0 (g.C.Chip.told c.args.chip.now) (g.C.Chip.told c.prepare.new.chip)
    c.requires.order c.in_err-prepare.ensures.works.upholds refl)

pub returns-clause-turns : goal.returns-clause-turns
returns-clause-turns g c =
    let old = c.args.self.now in
    let s = c.args.s in
    let name = c.args.name.0 in
    let at = c.home-home.result in
    let size = size_in_page (change_of c.args.change) in
    let did = unrefused_done c.write.result (refuses_write old.sessions s name size)
    (c.write.ensures.refusal ∙ ap (refuses_write old.sessions s name) c.size_in_page.ensures)
    c.requires.may.unrefused c.write.ensures.ok in
    let put = OnTrue_at c.if-not-put_record.false c.put_record.ensures.put in
    was_written s name at.unit
    (record_put c.args.change at c.in-Some.tid) old
    (record {
      pages = record { parts = c.prepare.new.self.parts; pool = c.put_record.new.pool };
      sessions = c.write.new.self;
    }) c.prepare.new.self (g.C.Chip.told c.args.chip.now) (g.C.Chip.told c.prepare.new.chip)
    c.requires.order c.requires.may.session (sym c.number.ensures ∙ c.in-Some.is) c.requires.may.name
    c.home-home.ensures.exact (OnTrue_at c.if-not-put_record.false c.put_record.ensures.spelled) c.in_ok-prepare.ensures.works.upholds
    (did ∙ ap (after_slots old.sessions s name) c.size_in_page.ensures)
    (locks_of c.write.new.self c.facts.ensures.all c.facts.ensures.one_writer c.facts.ensures.sized
    c.facts.ensures.few) refl put
    (page_has_room name at (record_put c.args.change at c.in-Some.tid) old c.prepare.new.self
    put.was c.home-home.ensures.home refl refl c.requires.may.room c.in_ok-prepare.ensures.prepares.values put.there)
    c.put_record.ensures.pool.pins

-- ---- why it fails, and where the page is then

pub returns-in_err-prepare-clause-fails : goal.returns-in_err-prepare-clause-fails
returns-in_err-prepare-clause-fails g c =
    let old = c.args.self.now in
    let told = g.C.Chip.told c.args.chip.now in
    let failed = c.in_err-prepare.field-0.0 in
    let says = c.in_err-prepare.ensures in
    let e = err_from_is_err_and c.from_residual.result c.from_residual.ensures.1 in
    rw (e.1, e.2) (record {
      complete = completes_for old (Err failed) told says.works.complete;
      faults = tells_for (λ x layout. StandsThen (tables_in c.prepare.new.self)
          (g.C.Chip.told c.prepare.new.chip)) old (Err failed) told c.prepare.new.self says.works.faults;
      surely = tells_for (λ x layout. StandsSurely x layout (tables_in c.prepare.new.self)
          (g.C.Chip.told c.prepare.new.chip)) old (Err failed) told c.prepare.new.self says.works.surely;
      exact = subst (λ (h : Home). frames_in old.pages h.unit h.page ≡ None → HasFreeFrame old.pages
          → FailsAsPage {T = Unit {0}} (tables_in old.pages) h.unit h.page (Err failed) told)
          c.home-home.ensures.home says.exact;
    })

pub returns-clause-fails : goal.returns-clause-fails
returns-clause-fails g c = record {
  complete = λ x told layout state fits says. tt;
  faults = λ x told layout state fits. tt;
  surely = λ x told layout state fits. tt;
  exact = λ none free x told layout mirrors. tt;
}

pub returns-in_err-prepare-clause-frames : goal.returns-in_err-prepare-clause-frames
returns-in_err-prepare-clause-frames g c =
    let e = err_from_is_err_and c.from_residual.result c.from_residual.ensures.1 in
    rw e.1 (record {
      framed = tt;
      used = tt;
      stays = subst (λ (h : Home). KeepsFramedFor h.unit h.page c.args.self.now.pages c.prepare.new.self)
          c.home-home.ensures.home c.in_err-prepare.ensures.framed;
    })

pub returns-clause-frames : goal.returns-clause-frames
returns-clause-frames g c =
    let at = c.home-home.result in
    let home = home_of c.args.name.0 in
    let put = OnTrue_at c.if-not-put_record.false c.put_record.ensures.put in
    let old = c.args.self.now.pages in
    let mid = c.prepare.new.self in
    let pool = c.put_record.new.pool in
    let new : Pages = record { parts = mid.parts; pool = pool } in
    record {
      framed = put_framed (IsWrittenFrame (record_put c.args.change at c.in-Some.tid)) at.unit at.page
          home mid new (ap (λ (h : Home). h.unit) (sym c.home-home.ensures.home))
          (ap (λ (h : Home). h.page) (sym c.home-home.ensures.home)) put;
      used = subst (λ (h : Home). IsUsedLast pool h.unit h.page) c.home-home.ensures.home
          (kept_uses_are_last mid.pool pool at.unit at.page c.put_record.ensures.pool.uses
          c.in_ok-prepare.ensures.prepares.used);
      stays = framed_then home.unit home.page old mid new
          (subst (λ (h : Home). KeepsFramedFor h.unit h.page old mid) c.home-home.ensures.home
          c.in_ok-prepare.ensures.framed)
          (set_framed at.unit at.page put.now mid new put.frames)
          (same_counts home.unit home.page mid.pool pool c.put_record.ensures.pool.uses);
    }

-- ---- what it asks

pub returns-in_err-prepare-clause-asks : goal.returns-in_err-prepare-clause-asks
returns-in_err-prepare-clause-asks g c =
    let e = err_from_is_err_and c.from_residual.result c.from_residual.ensures.1 in
    let worn_out = tells_worn c.in_err-prepare.field-0.0 in
    rw (e.1, e.2) (prepared_asks c.args.self.now.pages c.prepare.new.self c.prepare.new.self worn_out
    worn_out c.args.name.0 c.home-home.result
    (record_put c.args.change c.home-home.result c.in-Some.tid) (g.C.Chip.told c.args.chip.now)
    (g.C.Chip.told c.prepare.new.chip) c.home-home.ensures.home refl refl refl
    c.in_err-prepare.ensures.asks)

pub returns-clause-asks : goal.returns-clause-asks
returns-clause-asks g c =
    prepared_asks c.args.self.now.pages c.prepare.new.self
    (record { parts = c.prepare.new.self.parts; pool = c.put_record.new.pool }) false false
    c.args.name.0 c.home-home.result
    (record_put c.args.change c.home-home.result c.in-Some.tid) (g.C.Chip.told c.args.chip.now)
    (g.C.Chip.told c.prepare.new.chip) c.home-home.ensures.home refl refl refl
    c.in_ok-prepare.ensures.asks

pub returns-in_err-prepare-clause-idle : goal.returns-in_err-prepare-clause-idle
returns-in_err-prepare-clause-idle g c =
    let e = err_from_is_err_and c.from_residual.result c.from_residual.ensures.1 in
    let worn_out = tells_worn c.in_err-prepare.field-0.0 in
    rw (e.1, e.2) (prepared_idle c.args.self.now.pages c.prepare.new.self worn_out worn_out
    c.args.name.0 c.home-home.result
    (record_put c.args.change c.home-home.result c.in-Some.tid) (g.C.Chip.told c.args.chip.now)
    (g.C.Chip.told c.prepare.new.chip) c.home-home.ensures.home refl refl
    c.in_err-prepare.ensures.asks)

pub returns-clause-idle : goal.returns-clause-idle
returns-clause-idle g c =
    prepared_idle c.args.self.now.pages c.prepare.new.self false false c.args.name.0
    c.home-home.result
    (record_put c.args.change c.home-home.result c.in-Some.tid) (g.C.Chip.told c.args.chip.now)
    (g.C.Chip.told c.prepare.new.chip) c.home-home.ensures.home refl refl
    c.in_ok-prepare.ensures.asks

-- ---- its frame has no room

refused : (g : Over) (c : goal.After-no_room g) → IsRefused c.home-home.result.unit
    (record_put c.args.change c.home-home.result c.in-Some.tid) c.args.self.now c.prepare.new.self
    (g.C.Chip.told c.args.chip.now) (g.C.Chip.told c.prepare.new.chip)
refused g c =
    let put = c.in_ok-prepare.ensures.prepares.room in
    let at = c.home-home.result in record {
      now = put.frame;
      there = put.there;
      keeps = c.in_ok-prepare.ensures.works.upholds.keeps;
      room = page_has_room c.args.name.0 at (record_put c.args.change at c.in-Some.tid)
          c.args.self.now c.prepare.new.self put.frame c.home-home.ensures.home refl refl
          c.requires.may.room c.in_ok-prepare.ensures.prepares.values put.there;
      some = λ none. false≢true (sym c.if-not-put_record.true ∙ c.put_record.ensures.deletes none);
      full = λ fits. false≢true (sym c.if-not-put_record.true
          ∙ (c.put_record.ensures.room put.frame put.there).1 fits);
    }

pub returns-then-not-put_record-clause-turns : goal.returns-then-not-put_record-clause-turns
returns-then-not-put_record-clause-turns g c =
    let old = c.args.self.now in
    let mid = c.prepare.new.self in
    let pool = c.put_record.new.pool in
    let before = g.C.Chip.told c.args.chip.now in
    let after = g.C.Chip.told c.prepare.new.chip in
    let did = c.in_ok-prepare.ensures.works.upholds in
    let pages : Pages = record { parts = mid.parts; pool = pool } in
    rw c.no_room.ensures (upheld_refused
    (λ state. after_write state c.args.s (c.args.name.0, change_of c.args.change)) 14 old
    (record { pages = pages; sessions = old.sessions })
    (Malformed (slice_index mid.parts.directory.current c.home-home.result.unit) 0) before after
    c.requires.order
    (upholds_then 14 0 old.pages mid pages (Ok tt) before after after did
    (used_upholds 0 mid pool after (subst (λ (k : ℕ). ArePagesReady k mid)
    (sym did.accounts.counts.places) did.ready)
    (OnFalse_at c.if-not-put_record.true c.put_record.ensures.kept) c.put_record.ensures.pool.pins))
    refl tt refl)

pub returns-then-not-put_record-clause-fails : goal.returns-then-not-put_record-clause-fails
returns-then-not-put_record-clause-fails g c =
    let u = c.home-home.result.unit in
    let r = record_put c.args.change c.home-home.result c.in-Some.tid in
    let old = c.args.self.now in
    let mid = c.prepare.new.self in
    let before = g.C.Chip.told c.args.chip.now in
    let after = g.C.Chip.told c.prepare.new.chip in
    let is = refused g c in
    let new : Pages = record { parts = mid.parts; pool = c.put_record.new.pool } in
    record {
      complete = refused_completes u r old mid before after is c.no_room.result;
      faults = refused_tells u r old mid before after is
          (λ x layout. StandsThen (tables_in new) after) c.no_room.result new;
      surely = refused_tells u r old mid before after is
          (λ x layout. StandsSurely x layout (tables_in new) after) c.no_room.result new;
      exact = λ none free. absurd (unframed_put c.args.name.0 old (change_of c.args.change)
          c.requires.may.room is.some none);
    }

pub returns-then-not-put_record-clause-frames : goal.returns-then-not-put_record-clause-frames
returns-then-not-put_record-clause-frames g c =
    let home = home_of c.args.name.0 in
    let old = c.args.self.now.pages in
    let mid = c.prepare.new.self in
    let pool = c.put_record.new.pool in
    record {
      framed = tt;
      used = tt;
      stays = framed_then home.unit home.page old mid (record { parts = mid.parts; pool = pool })
          (subst (λ (h : Home). KeepsFramedFor h.unit h.page old mid) c.home-home.ensures.home
          c.in_ok-prepare.ensures.framed)
          (used_framed mid pool (OnFalse_at c.if-not-put_record.true c.put_record.ensures.kept))
          (same_counts home.unit home.page mid.pool pool c.put_record.ensures.pool.uses);
    }

pub returns-then-not-put_record-clause-asks : goal.returns-then-not-put_record-clause-asks
returns-then-not-put_record-clause-asks g c =
    prepared_asks c.args.self.now.pages c.prepare.new.self
    (record { parts = c.prepare.new.self.parts; pool = c.put_record.new.pool }) false
    (tells_worn c.no_room.result) c.args.name.0 c.home-home.result
    (record_put c.args.change c.home-home.result c.in-Some.tid) (g.C.Chip.told c.args.chip.now)
    (g.C.Chip.told c.prepare.new.chip) c.home-home.ensures.home refl refl
    (ap tells_worn c.no_room.ensures) c.in_ok-prepare.ensures.asks

pub returns-then-not-put_record-clause-idle : goal.returns-then-not-put_record-clause-idle
returns-then-not-put_record-clause-idle g c =
    prepared_idle c.args.self.now.pages c.prepare.new.self false (tells_worn c.no_room.result)
    c.args.name.0 c.home-home.result
    (record_put c.args.change c.home-home.result c.in-Some.tid) (g.C.Chip.told c.args.chip.now)
    (g.C.Chip.told c.prepare.new.chip) c.home-home.ensures.home refl (ap tells_worn c.no_room.ensures)
    c.in_ok-prepare.ensures.asks
