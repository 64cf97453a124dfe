use Rattle.std.proofs.Common.{◌≡◌, ◌≢◌, rules, sym}
use Rattle.log_records.specs.View.{record_of}
use Rattle.number_set.specs.Numbers.{among}
use Rattle.page_rebuild.proofs.MadeLemmas.{passed_other_page, passed_other_number, passed_earlier, passed_last}
use Rattle.page_rebuild.proofs.making.pass_record.Goals as goal

pub returns-then-logged-page : goal.returns-then-logged-page
returns-then-logged-page c =
    let other : c.args.logged.now.page ≢ c.args.page = search rules in
    passed_other_page (among c.args.status.now.numbers) c.args.page (record_of c.args.logged.now)
    c.args.coming.now c.args.map.now other

pub returns-then-not-is_committed : goal.returns-then-not-is_committed
returns-then-not-is_committed c =
    passed_other_number (among c.args.status.now.numbers) c.args.page (record_of c.args.logged.now)
    c.args.coming.now c.args.map.now (sym c.if-not-is_committed.ensures)

pub returns-then-not-take : goal.returns-then-not-take
returns-then-not-take c =
    let here : c.args.logged.now.page ≡ c.args.page = search rules in
    passed_earlier (among c.args.status.now.numbers) c.args.page (record_of c.args.logged.now)
    c.args.coming.now c.args.map.now c.requires.slot here (sym c.if-not-is_committed.ensures)
    c.take.new.self c.if-not-take.ensures.slots c.if-not-take.ensures.taken
    c.if-not-take.ensures.last

pub returns : goal.returns
returns c =
    let here : c.args.logged.now.page ≡ c.args.page = search rules in
    passed_last (among c.args.status.now.numbers) c.args.page (record_of c.args.logged.now)
    c.args.coming.now c.args.map.now c.requires.slot here (sym c.if-not-is_committed.ensures)
    c.take.new.self c.if-not-take.ensures.slots c.if-not-take.ensures.taken
    c.if-not-take.ensures.last c.apply_where_room.result c.apply_where_room.new.map
    c.apply_where_room.ensures.page c.apply_where_room.ensures.done
    c.apply_where_room.ensures.full c.apply_where_room.ensures.kept
