use Rattle.std.proofs.Common.{arith, take, refl}
use Rattle.std.proofs.lemmas.List.{length-take}
use Rattle.std.proofs.lemmas.Result.{err_from_is_err_and}
use Rattle.script_run.specs.Goes.{StaysAt}
use Rattle.store_trait.proofs.OnwardLemmas.{still_beside}
use Rattle.script_run.proofs.GoesLemmas.{holds_beside, took, stopped, stopped_at_once, stays_later}
use Rattle.script_run.proofs.RunLemmas.{run_weaker}
use Rattle.script_run.proofs.ReadLemmas.{further_read, further_failed, piece_read}
use Rattle.script_run.proofs.AlongLemmas.{along_more, along_later, along_stop, along_ok, along_unread}
use Rattle.script_run.proofs.CompleteLemmas.{completes_more, completes_stop, completes_ok, completes_later, completes_unread}
use Rattle.script_run.proofs.ReplyLemmas.{replied_later}
use Rattle.script_run.proofs.run.take_next.Goals as goal

pub returns-in_err-take_piece-in-Ok-clause-takes : goal.returns-in_err-take_piece-in-Ok-clause-takes
returns-in_err-take_piece-in-Ok-clause-takes g c = λ known limits state h holds source left.
    let k = g.S.Store.keeping g.places known in
    let at = g.D.Chip.told in
    let r = c.in-Ok.ensures in
    let t = c.take_piece in
    let old = at c.args.desk.now in
    let mid = at c.read_script.new.self in
    let new = at t.new.desk in
    let stop = err_from_is_err_and c.from_residual.result c.from_residual.ensures.1 in
    rw stop.1 (rw stop.2 (stopped k limits state c.args.line.now source (take c.in-Ok.count c.read_script.new.buf) c.read_script.new.buf c.in-Ok.count (StaysAt k limits t.new.store old new _) old mid new c.args.store.now t.new.store h _
    r.chip r.bytes.0 (t.ensures known).along.beside left (r.bytes.2 source left) refl
    (λ tail. run_weaker k limits state _ c.args.store.now t.new.store h _ _ mid new _ (λ a s. stays_later k limits t.new.store old mid new _ a s r.chip.writes)
    ((c.in_err-take_piece-in-Ok.ensures known).takes limits state h (holds_beside k limits c.args.store.now old mid h state r.chip holds) tail))))

pub returns-in_ok-take_piece-in-Ok-clause-takes : goal.returns-in_ok-take_piece-in-Ok-clause-takes
returns-in_ok-take_piece-in-Ok-clause-takes g c = λ known limits state h holds source left.
    let k = g.S.Store.keeping g.places known in
    let at = g.D.Chip.told in
    let r = c.in-Ok.ensures in
    let t = c.take_piece in
    let old = at c.args.desk.now in
    let mid = at c.read_script.new.self in
    took k limits state c.args.line.now source (take c.in-Ok.count c.read_script.new.buf) c.read_script.new.buf c.in-Ok.count old mid (at t.new.desk) c.args.store.now t.new.store h t.new.line
    r.chip r.bytes.0 (t.ensures known).along.beside left (r.bytes.2 source left) refl
    ((c.in_ok-take_piece-in-Ok.ensures known).takes limits state h (holds_beside k limits c.args.store.now old mid h state r.chip holds))

pub returns-in-Err-clause-takes : goal.returns-in-Err-clause-takes
returns-in-Err-clause-takes g c = λ known limits state h holds source left.
    let k = g.S.Store.keeping g.places known in
    let old = g.D.Chip.told c.args.desk.now in
    let new = g.D.Chip.told c.read_script.new.self in
    let r = c.in-Err.ensures in
    stopped_at_once k limits state c.args.line.now source _ old new c.args.store.now h holds (λ quiet. (holds_beside k limits c.args.store.now old new h state r.chip holds, tt)) r.chip r.bytes left

pub returns-in_err-take_piece-in-Ok-clause-along : goal.returns-in_err-take_piece-in-Ok-clause-along
returns-in_err-take_piece-in-Ok-clause-along g c = λ known.
    let r = c.in-Ok.ensures in
    along_stop c.from_residual.result c.from_residual.ensures.1 (along_more (along_later (further_read (g.D.Chip.told c.args.desk.now) (g.D.Chip.told c.read_script.new.self) c.in-Ok.count r.chip r.bytes.0 r.bytes.1) (still_beside _ _ r.chip) (c.in_err-take_piece-in-Ok.ensures known).along) (omega (arith, length-take c.in-Ok.count c.read_script.new.buf)))

pub returns-in_ok-take_piece-in-Ok-clause-along : goal.returns-in_ok-take_piece-in-Ok-clause-along
returns-in_ok-take_piece-in-Ok-clause-along g c = λ known.
    let r = c.in-Ok.ensures in
    along_ok c.in-Ok.count (along_more (along_later (further_read (g.D.Chip.told c.args.desk.now) (g.D.Chip.told c.read_script.new.self) c.in-Ok.count r.chip r.bytes.0 r.bytes.1) (still_beside _ _ r.chip) (c.in_ok-take_piece-in-Ok.ensures known).along) (omega (arith, length-take c.in-Ok.count c.read_script.new.buf)))

pub returns-in-Err-clause-along : goal.returns-in-Err-clause-along
returns-in-Err-clause-along g c = λ known.
    let old = g.D.Chip.told c.args.desk.now in
    let new = g.D.Chip.told c.read_script.new.self in
    along_unread _ c.args.store.now old new (further_failed old new c.in-Err.ensures.chip c.in-Err.ensures.bytes) c.in-Err.ensures.chip.history c.in-Err.ensures.cause

pub returns-in_ok-take_piece-in-Ok-clause-read : goal.returns-in_ok-take_piece-in-Ok-clause-read
returns-in_ok-take_piece-in-Ok-clause-read g c =
    let at = g.D.Chip.told in
    let r = c.in-Ok.ensures in
    piece_read (at c.args.desk.now) (at c.read_script.new.self) (at c.take_piece.new.desk) _ c.in-Ok.count c.read_script.new.buf r.bytes.0 r.bytes.1 r.bytes.2 (c.take_piece.ensures g.S.Store.all).along.beside
    (omega (arith, r.bound))

pub returns-in_err-take_piece-in-Ok-clause-completes : goal.returns-in_err-take_piece-in-Ok-clause-completes
returns-in_err-take_piece-in-Ok-clause-completes g c = λ known limits keeps.
    completes_stop c.from_residual.result c.from_residual.ensures.1
    (completes_more (completes_later c.in-Ok.ensures.chip keeps (λ now. (c.in_err-take_piece-in-Ok.ensures known).completes limits now)) (omega (arith, length-take c.in-Ok.count c.read_script.new.buf)))

pub returns-in_ok-take_piece-in-Ok-clause-completes : goal.returns-in_ok-take_piece-in-Ok-clause-completes
returns-in_ok-take_piece-in-Ok-clause-completes g c = λ known limits keeps.
    completes_ok c.in-Ok.count
    (completes_more (completes_later c.in-Ok.ensures.chip keeps (λ now. (c.in_ok-take_piece-in-Ok.ensures known).completes limits now)) (omega (arith, length-take c.in-Ok.count c.read_script.new.buf)))

pub returns-in_ok-take_piece-in-Ok-clause-draws : goal.returns-in_ok-take_piece-in-Ok-clause-draws
returns-in_ok-take_piece-in-Ok-clause-draws g c = λ known. record {
  drew = omega (arith, (c.in_ok-take_piece-in-Ok.ensures known).along.draws.most, length-take c.in-Ok.count c.read_script.new.buf);
  completed = λ limits keeps.
      completes_ok c.in-Ok.count
      (completes_more (completes_later c.in-Ok.ensures.chip keeps (λ now. (c.in_ok-take_piece-in-Ok.ensures known).completes limits now)) (omega (arith, length-take c.in-Ok.count c.read_script.new.buf)));
}

pub returns-in-Err-clause-completes : goal.returns-in-Err-clause-completes
returns-in-Err-clause-completes g c = λ known limits keeps. completes_unread

pub returns-in_ok-take_piece-in-Ok-clause-last : goal.returns-in_ok-take_piece-in-Ok-clause-last
returns-in_ok-take_piece-in-Ok-clause-last g c =
    let at = g.D.Chip.told in
    replied_later (at c.args.desk.now) (at c.read_script.new.self) (at c.take_piece.new.desk) c.in-Ok.ensures.chip
    (c.in_ok-take_piece-in-Ok.ensures g.S.Store.all).last
