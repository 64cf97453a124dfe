use Rattle.std.proofs.Common.{◌+◌, sym, refl, length, drop, arith}
use Rattle.std.proofs.lemmas.Bool.{false≢true}
use Rattle.ipl_base.specs.declared.limits.TheConstants.{VERSION}
use Rattle.ipl_format.proofs.ListLemmas.{bytes-drop, bytes-take}
use Rattle.ipl_format.proofs.PageLemmas.{pages_grow}
use Rattle.page_text.specs.Reading.{size_at}
use Rattle.page_text.proofs.ReadLemmas.{reading_none, reading_more, page_read, not_text, rest_bytes, some_left}
use Rattle.page_text.proofs.first_version.read_first.Goals as goal

pub loop-rest-init : goal.loop-rest-init
loop-rest-init c = reading_none 1 c.args.bytes.now c.reset.new.self c.reset.ensures

pub set-requires-clause-room : goal.set-requires-clause-room
set-requires-clause-room c =
    let l = c.loop-rest in
    let rest = l.rest.now in
    (pages_grow VERSION _ (page_read 1 c.args.bytes.now rest l.map l.next c.from-slot.result
    c.first_value.result.now (drop (2 + size_at 1 rest) rest) l.invariant (record {
      small = bytes-take 1 (drop 1 l.rest.now) (bytes-drop 1 l.rest.now
          (rest_bytes 1 c.args.bytes.now l.rest.now l.map l.next l.invariant
          (λ i. omega (arith, c.type_inv.bytes i))));
      test = sym c.if-not-has_slot.ensures;
      slot_is = c.from-slot.ensures;
      value_is = c.first_value.ensures;
      after_is = refl;
    }) c.if-bytes-gt-PAGE_LEN.false)).fits

pub loop-rest-preserved : goal.loop-rest-preserved
loop-rest-preserved c =
    let l = c.loop-rest in
    reading_more 1 c.args.bytes.now l.rest.now l.map l.next c.from-slot.result
    c.first_value.result.now c.after_value-rest.result.now c.set.new.self l.invariant (record {
      small = bytes-take 1 (drop 1 l.rest.now) (bytes-drop 1 l.rest.now
          (rest_bytes 1 c.args.bytes.now l.rest.now l.map l.next l.invariant
          (λ i. omega (arith, c.type_inv.bytes i))));
      test = sym c.if-not-has_slot.ensures;
      slot_is = c.from-slot.ensures;
      value_is = c.first_value.ensures;
      after_is = c.after_value-rest.ensures;
    }) c.if-bytes-gt-PAGE_LEN.false c.set.ensures.set

pub returns-then-not-has_slot-clause-exact : goal.returns-then-not-has_slot-clause-exact
returns-then-not-has_slot-clause-exact c =
    let l = c.loop-rest in (
      λ h. absurd (false≢true h),
      λ text. absurd (not_text 1 c.args.bytes.now l.rest.now l.map l.next l.invariant
          (sym c.if-not-has_slot.ensures) (some_left (length l.rest.now) c.loop-rest-test.ensures)
          text),
    )
