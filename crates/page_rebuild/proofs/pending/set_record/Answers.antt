use Rattle.std.proofs.Common.{◌≡◌, ◌≢◌, rules, sym}
use Rattle.log_records.specs.View.{record_of}
use Rattle.number_set.specs.Numbers.{among}
use Rattle.page_rebuild.proofs.PendedLemmas.{set_other_page, set_other_number, set_earlier, set_the_last}
use Rattle.page_rebuild.proofs.pending.set_record.Goals as goal

pub returns-then-logged-page : goal.returns-then-logged-page
returns-then-logged-page c =
    let other : c.args.logged.now.page ≢ c.args.page = search rules in
    set_other_page (among c.args.active.now) c.args.page (record_of c.args.logged.now)
    c.args.coming.now c.args.frame.now other

pub returns-then-not-is_among : goal.returns-then-not-is_among
returns-then-not-is_among c =
    set_other_number (among c.args.active.now) c.args.page (record_of c.args.logged.now)
    c.args.coming.now c.args.frame.now (sym c.if-not-is_among.ensures)

pub returns-then-not-take : goal.returns-then-not-take
returns-then-not-take c =
    let here : c.args.logged.now.page ≡ c.args.page = search rules in
    set_earlier (among c.args.active.now) c.args.page (record_of c.args.logged.now)
    c.args.coming.now c.args.frame.now c.requires.slot here (sym c.if-not-is_among.ensures)
    c.take.new.self c.if-not-take.ensures.slots c.if-not-take.ensures.taken
    c.if-not-take.ensures.last

pub returns : goal.returns
returns c =
    let here : c.args.logged.now.page ≡ c.args.page = search rules in
    set_the_last (among c.args.active.now) c.args.page (record_of c.args.logged.now)
    c.args.coming.now c.args.frame.now c.requires.slot here (sym c.if-not-is_among.ensures)
    c.take.new.self c.if-not-take.ensures.slots c.if-not-take.ensures.taken
    c.if-not-take.ensures.last c.set_pending.result c.set_pending.new.self
    c.set_pending.ensures.exact c.set_pending.ensures.page c.set_pending.ensures.pending
