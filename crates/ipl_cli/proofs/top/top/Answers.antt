use Rattle.std.proofs.Common.{ℕ, map, subst}
use Rattle.std.specs.String.{string_bytes}
use Rattle.command_line.specs.Choice.{requested}
use Rattle.ipl_cli.proofs.NoteLemmas.{ends, none_falls}
use Rattle.ipl_cli.proofs.TopLemmas.{end_opened, end_refuses, end_laid, end_read, end_formatted, end_part, end_stops, end_formats, end_trials, end_checks, end_lists, end_views, end_only_views, end_early, end_wanting, end_other, end_words, end_chip, end_worn, end_worn_out, end_image, end_unfit, end_script, end_output, end_long, end_spent, end_invalid, end_completes}
use Rattle.ipl_cli.specs.Ending.{AtStatus}
use Rattle.ipl_cli.specs.Top.{RunsOpened}
use Rattle.ipl_cli.proofs.RecordLemmas.{opened_records, formatted_records}
use Rattle.ipl_cli.proofs.SurviveLemmas.{opened_survives, formatted_survives}
use Rattle.ipl_cli.proofs.FrameLemmas.{done_as_asked, closed_as_asked}
use Rattle.ipl_cli.proofs.LawfulLemmas.{noted_as_asked}
use Rattle.ipl_cli.proofs.top.top.Goals as goal

pub returns-clause-ends : goal.returns-clause-ends
returns-clause-ends g c =
    ends (requested (map string_bytes c.args.words.now)) c.run-ending.result
    (g.D.Chip.told c.args.desk.now) (g.D.Chip.told c.run-ending.new.desk)
    (g.D.Chip.told c.finish.new.desk) c.finish.result c.run-ending.ensures.cause
    c.run-ending.ensures.leaves c.run-ending.ensures.further.noted
    c.finish.ensures.status c.finish.ensures.only c.finish.ensures.noted

pub returns-clause-counts : goal.returns-clause-counts
returns-clause-counts g c =
    none_falls (g.D.Chip.told c.args.desk.now) (g.D.Chip.told c.run-ending.new.desk)
    (g.D.Chip.told c.finish.new.desk) c.run-ending.ensures.further c.finish.ensures.only

pub returns-clause-opened : goal.returns-clause-opened
returns-clause-opened g c = end_opened (requested (map string_bytes c.args.words.now))
    (g.D.Chip.told c.args.desk.now) (g.D.Chip.told c.finish.new.desk) c.finish.result
    (returns-clause-ends g c)

pub returns-clause-survives : goal.returns-clause-survives
returns-clause-survives g c = λ sessions asks.
    opened_survives (g.D.Chip.told c.args.desk.now) (g.D.Chip.told c.finish.new.desk)
    (g.met.D.Chip.consistent c.args.desk.now) c.finish.result (returns-clause-opened g c sessions asks)

pub returns-clause-survives_anew : goal.returns-clause-survives_anew
returns-clause-survives_anew g c = λ sessions. formatted_survives (g.D.Chip.told c.args.desk.now)
    (g.D.Chip.told c.finish.new.desk) (g.met.D.Chip.consistent c.args.desk.now) sessions
    (requested (map string_bytes c.args.words.now)) c.finish.result (returns-clause-ends g c)

pub returns-clause-refuses : goal.returns-clause-refuses
returns-clause-refuses g c = end_refuses (requested (map string_bytes c.args.words.now))
    (g.D.Chip.told c.args.desk.now) (g.D.Chip.told c.finish.new.desk) c.finish.result
    (returns-clause-ends g c)

pub returns-clause-laid : goal.returns-clause-laid
returns-clause-laid g c = end_laid (requested (map string_bytes c.args.words.now))
    (g.D.Chip.told c.args.desk.now) (g.D.Chip.told c.finish.new.desk) c.finish.result
    (returns-clause-ends g c)

pub returns-clause-read : goal.returns-clause-read
returns-clause-read g c = end_read (requested (map string_bytes c.args.words.now))
    (g.D.Chip.told c.args.desk.now) (g.D.Chip.told c.finish.new.desk) c.finish.result
    (returns-clause-ends g c)

pub returns-clause-formatted : goal.returns-clause-formatted
returns-clause-formatted g c = end_formatted (requested (map string_bytes c.args.words.now))
    (g.D.Chip.told c.args.desk.now) (g.D.Chip.told c.finish.new.desk) c.finish.result
    (returns-clause-ends g c)

pub returns-clause-records : goal.returns-clause-records
returns-clause-records g c = λ sessions asks done.
    let old = g.D.Chip.told c.args.desk.now in
    let new = g.D.Chip.told c.finish.new.desk in
    opened_records old new (g.met.D.Chip.consistent c.args.desk.now)
    (subst (λ (n : ℕ). AtStatus (RunsOpened sessions old new) n) done (returns-clause-opened g c sessions asks))

pub returns-clause-anew : goal.returns-clause-anew
returns-clause-anew g c = λ sessions asks done.
    formatted_records (g.D.Chip.told c.args.desk.now) (g.D.Chip.told c.finish.new.desk)
    (g.met.D.Chip.consistent c.args.desk.now) (returns-clause-formatted g c sessions asks done)

pub returns-clause-part : goal.returns-clause-part
returns-clause-part g c = end_part (requested (map string_bytes c.args.words.now))
    (g.D.Chip.told c.args.desk.now) (g.D.Chip.told c.finish.new.desk) c.finish.result
    (returns-clause-ends g c)

pub returns-clause-stops : goal.returns-clause-stops
returns-clause-stops g c = end_stops (requested (map string_bytes c.args.words.now))
    (g.D.Chip.told c.args.desk.now) (g.D.Chip.told c.finish.new.desk) c.finish.result
    (returns-clause-ends g c)

pub returns-clause-formats : goal.returns-clause-formats
returns-clause-formats g c = end_formats (requested (map string_bytes c.args.words.now))
    (g.D.Chip.told c.args.desk.now) (g.D.Chip.told c.finish.new.desk) c.finish.result
    (returns-clause-ends g c)

pub returns-clause-trials : goal.returns-clause-trials
returns-clause-trials g c = end_trials (requested (map string_bytes c.args.words.now))
    (g.D.Chip.told c.args.desk.now) (g.D.Chip.told c.finish.new.desk) c.finish.result
    (returns-clause-ends g c)

pub returns-clause-checks : goal.returns-clause-checks
returns-clause-checks g c = end_checks (requested (map string_bytes c.args.words.now))
    (g.D.Chip.told c.args.desk.now) (g.D.Chip.told c.finish.new.desk) c.finish.result
    (returns-clause-ends g c)

pub returns-clause-lists : goal.returns-clause-lists
returns-clause-lists g c = end_lists (requested (map string_bytes c.args.words.now))
    (g.D.Chip.told c.args.desk.now) (g.D.Chip.told c.finish.new.desk) c.finish.result
    (returns-clause-ends g c)

pub returns-clause-views : goal.returns-clause-views
returns-clause-views g c = end_views (requested (map string_bytes c.args.words.now))
    (g.D.Chip.told c.args.desk.now) (g.D.Chip.told c.finish.new.desk) c.finish.result
    (returns-clause-ends g c)

pub returns-clause-untouched : goal.returns-clause-untouched
returns-clause-untouched g c = end_only_views (requested (map string_bytes c.args.words.now))
    (g.D.Chip.told c.args.desk.now) (g.D.Chip.told c.finish.new.desk) c.finish.result
    (returns-clause-ends g c)

pub returns-clause-early : goal.returns-clause-early
returns-clause-early g c = end_early (requested (map string_bytes c.args.words.now))
    (g.D.Chip.told c.args.desk.now) (g.D.Chip.told c.finish.new.desk) c.finish.result
    (returns-clause-ends g c)

pub returns-clause-wanting : goal.returns-clause-wanting
returns-clause-wanting g c = end_wanting (requested (map string_bytes c.args.words.now))
    (g.D.Chip.told c.args.desk.now) (g.D.Chip.told c.finish.new.desk) c.finish.result
    (returns-clause-ends g c)

pub returns-clause-other : goal.returns-clause-other
returns-clause-other g c = end_other (requested (map string_bytes c.args.words.now))
    (g.D.Chip.told c.args.desk.now) (g.D.Chip.told c.finish.new.desk) c.finish.result
    (returns-clause-ends g c)

pub returns-clause-words : goal.returns-clause-words
returns-clause-words g c = end_words (requested (map string_bytes c.args.words.now))
    (g.D.Chip.told c.args.desk.now) (g.D.Chip.told c.finish.new.desk) c.finish.result
    (returns-clause-ends g c)

pub returns-clause-chip : goal.returns-clause-chip
returns-clause-chip g c = end_chip (requested (map string_bytes c.args.words.now))
    (g.D.Chip.told c.args.desk.now) (g.D.Chip.told c.finish.new.desk) c.finish.result
    (returns-clause-ends g c)

pub returns-clause-worn : goal.returns-clause-worn
returns-clause-worn g c = end_worn (requested (map string_bytes c.args.words.now))
    (g.D.Chip.told c.args.desk.now) (g.D.Chip.told c.finish.new.desk) c.finish.result
    (returns-clause-ends g c)

pub returns-clause-worn_out : goal.returns-clause-worn_out
returns-clause-worn_out g c = end_worn_out (requested (map string_bytes c.args.words.now))
    (g.D.Chip.told c.args.desk.now) (g.D.Chip.told c.finish.new.desk) c.finish.result
    (returns-clause-ends g c)

pub returns-clause-image : goal.returns-clause-image
returns-clause-image g c = end_image (requested (map string_bytes c.args.words.now))
    (g.D.Chip.told c.args.desk.now) (g.D.Chip.told c.finish.new.desk) c.finish.result
    (returns-clause-ends g c)

pub returns-clause-unfit : goal.returns-clause-unfit
returns-clause-unfit g c = end_unfit (requested (map string_bytes c.args.words.now))
    (g.D.Chip.told c.args.desk.now) (g.D.Chip.told c.finish.new.desk) c.finish.result
    (returns-clause-ends g c) (g.met.D.Chip.consistent c.args.desk.now)

pub returns-clause-script : goal.returns-clause-script
returns-clause-script g c = end_script (requested (map string_bytes c.args.words.now))
    (g.D.Chip.told c.args.desk.now) (g.D.Chip.told c.finish.new.desk) c.finish.result
    (returns-clause-ends g c)

pub returns-clause-output : goal.returns-clause-output
returns-clause-output g c = end_output (requested (map string_bytes c.args.words.now))
    (g.D.Chip.told c.args.desk.now) (g.D.Chip.told c.finish.new.desk) c.finish.result
    (returns-clause-ends g c)

pub returns-clause-too_long : goal.returns-clause-too_long
returns-clause-too_long g c = end_long (requested (map string_bytes c.args.words.now))
    (g.D.Chip.told c.args.desk.now) (g.D.Chip.told c.finish.new.desk) c.finish.result
    (returns-clause-ends g c)

pub returns-clause-spent : goal.returns-clause-spent
returns-clause-spent g c = end_spent (requested (map string_bytes c.args.words.now))
    (g.D.Chip.told c.args.desk.now) (g.D.Chip.told c.finish.new.desk) c.finish.result
    (returns-clause-ends g c)

pub returns-clause-invalid : goal.returns-clause-invalid
returns-clause-invalid g c = end_invalid (requested (map string_bytes c.args.words.now))
    (g.D.Chip.told c.args.desk.now) (g.D.Chip.told c.finish.new.desk) c.finish.result
    (returns-clause-ends g c)

pub returns-clause-completes : goal.returns-clause-completes
returns-clause-completes g c = end_completes (requested (map string_bytes c.args.words.now))
    (g.D.Chip.told c.args.desk.now) (g.D.Chip.told c.finish.new.desk) c.finish.result
    (returns-clause-ends g c) (g.met.D.Chip.consistent c.args.desk.now)

pub returns-clause-lawful : goal.returns-clause-lawful
returns-clause-lawful g c =
    noted_as_asked (requested (map string_bytes c.args.words.now))
    (g.D.Chip.told c.args.desk.now) (g.D.Chip.told c.run-ending.new.desk)
    (g.D.Chip.told c.finish.new.desk) c.run-ending.ensures.lawful c.finish.ensures.only

pub returns-clause-framed : goal.returns-clause-framed
returns-clause-framed g c = done_as_asked (requested (map string_bytes c.args.words.now))
    c.run-ending.result (g.D.Chip.told c.args.desk.now) (g.D.Chip.told c.run-ending.new.desk)
    (g.D.Chip.told c.finish.new.desk) c.finish.result c.run-ending.ensures.framed
    c.finish.ensures.status c.finish.ensures.only

pub returns-clause-closed : goal.returns-clause-closed
returns-clause-closed g c = closed_as_asked (requested (map string_bytes c.args.words.now))
    c.run-ending.result (g.D.Chip.told c.args.desk.now) (g.D.Chip.told c.run-ending.new.desk)
    (g.D.Chip.told c.finish.new.desk) c.finish.result c.run-ending.ensures.closed
    c.finish.ensures.status c.finish.ensures.only
