use Rattle.std.proofs.Common.{◌≡◌, ◌≤◌, ◌*◌, ℕ, List, length, take, drop, refl, ap, ◌∙◌, arith}
use Rattle.std.proofs.lemmas.Result.{err_from_is_err_and}
use Rattle.std.proofs.lemmas.List.{length-take-le}
use Rattle.crc_sum.specs.Crc.{tail_sum}
use Rattle.unit_io.proofs.TailLemmas.{payload_filled, tails_more}
use Rattle.unit_io.proofs.FaultLemmas.{used_is, payload_is, text_put}
use Rattle.unit_io.proofs.page_reading.read_piece.Goals as goal

pub returns-in_err-used-clause-accounts : goal.returns-in_err-used-clause-accounts
returns-in_err-used-clause-accounts g c =
    let e = err_from_is_err_and c.from_residual-in_err-used.result c.from_residual-in_err-used.ensures.1 in record {
      counts = c.in_ok-read.ensures.accounts.counts;
      cause = rw (e.1, e.2)
          (c.in_err-used.ensures.cause c.read.new.into (g.C.Chip.told c.args.chip.now) (g.C.Chip.told c.read.new.chip) c.decode_by-answer.ensures.decoded);
    }

pub put_piece-requires-clause-used : goal.put_piece-requires-clause-used
put_piece-requires-clause-used g c = c.in_ok-used.ensures.fits c.read.new.into c.decode_by-answer.ensures.decoded

pub overflow_add-result : goal.overflow_add-result
overflow_add-result g c =
    let short : c.in_ok-used.used ≤ 480 = c.in_ok-used.ensures.fits c.read.new.into c.decode_by-answer.ensures.decoded in
    omega arith

pub returns-clause-text : goal.returns-clause-text
returns-clause-text g c =
    let short : c.in_ok-used.used ≤ 480 = c.in_ok-used.ensures.fits c.read.new.into c.decode_by-answer.ensures.decoded in record {
      text = λ x told.
          text_put (c.args.piece * 480) c.in_ok-used.used (480 * c.args.piece) c.args.text.now.bytes (take c.in_ok-used.used (drop 32 c.read.new.into)) _ c.put_piece.new.text.bytes _
          c.put_piece.ensures.bytes (omega (arith, c.put_piece.ensures.size)) (used_is c.read.new.into c.in_ok-used.used c.read.array_long short) (omega arith)
          (rw c.base_sector-sector.ensures.sector at (payload_is c.read.new.into _ c.decode_by-answer.result c.in_ok-used.used (c.in_ok-read.ensures.bytes x told) c.decode_by-answer.ensures.sector
          (c.in_ok-used.ensures.payload c.read.new.into)));
      within = omega arith;
      empty = c.put_piece.ensures.empty;
    }

pub returns-clause-tails : goal.returns-clause-tails
returns-clause-tails g c = λ before.
    let bytes : List ℕ = c.read.new.into in
    let payload : List ℕ = take c.in_ok-used.used (drop 32 bytes) in
    let front : List ℕ = take (480 * c.args.piece) c.args.text.now.bytes in
    let short : c.in_ok-used.used ≤ 480 = c.in_ok-used.ensures.fits bytes c.decode_by-answer.ensures.decoded in
    let size : length payload ≡ c.in_ok-used.used = used_is bytes c.in_ok-used.used c.read.array_long short in
    let long : length front ≡ 480 * c.args.piece =
    length-take-le (480 * c.args.piece) c.args.text.now.bytes (omega (arith, c.put_piece.ensures.size, c.requires.piece)) in
    let sound = c.in_ok-used.ensures.exact bytes c.read.array_long c.decode_by-answer.ensures.sector c.decode_by-answer.ensures.decoded in
    let filled_up = payload_filled _ _ _ _ _ _ _ bytes payload _ c.read.array_long c.put_piece.ensures.whole.bytes sound
    c.decode_by-answer.ensures.sector (c.in_ok-used.ensures.payload bytes) in
    let whole = text_put (c.args.piece * 480) c.in_ok-used.used (480 * c.args.piece) c.args.text.now.bytes payload _ c.put_piece.new.text.bytes _
    c.put_piece.ensures.bytes (omega (arith, c.put_piece.ensures.size)) size (omega arith) refl in
    tails_more c.args.piece c.tail_of-tail.result front payload _ c.args.tails.now _ long (omega (arith, size, short))
    (omega (arith, c.told-tails, c.requires.piece)) whole refl (c.tail_of-tail.ensures ∙ ap tail_sum filled_up) before
