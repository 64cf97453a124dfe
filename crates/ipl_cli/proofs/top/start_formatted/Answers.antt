use Rattle.std.proofs.Common.{ℕ, Err, inl, inr, refl, sym, ◌∙◌, subst}
use Rattle.std.proofs.lemmas.Result.{err_from_is_err_and}
use Rattle.chip_trait.proofs.CountsLemmas.{counts_then}
use Rattle.ipl_store.specs.Calls.{numbers_of, IsSound}
use Rattle.ipl_cli.specs.Runs.{MakesStore}
use Rattle.ipl_cli.proofs.top.start_formatted.Goals as goal

pub format_first-requires : goal.format_first-requires
format_first-requires g c =
    let made = rw c.units.ensures at c.in_ok-store.ensures.closes in record { fits = made.0 }

pub open_over-requires : goal.open_over-requires
open_over-requires g c =
    let made = rw c.units.ensures at c.in_ok-store.ensures.closes in record {
      sound = subst (λ (n : ℕ). IsSound n c.in_ok-store.store)
          (sym c.in_ok-format_first.ensures.formats.counts.places) made.1;
    }

pub returns-in_err-store-clause-stops : goal.returns-in_err-store-clause-stops
returns-in_err-store-clause-stops g c =
    let e = err_from_is_err_and c.from_residual.result c.from_residual.ensures.1 in
    rw (e.1, e.2) (inl (
      subst (λ (n : ℕ). MakesStore n (Err c.in_err-store.field-0.0))
          c.units.ensures c.in_err-store.ensures.closes,
      refl,
    ))

pub returns-in_err-format_first-clause-stops : goal.returns-in_err-format_first-clause-stops
returns-in_err-format_first-clause-stops g c =
    let e = err_from_is_err_and c.from_residual-in_err-format_first.result
    c.from_residual-in_err-format_first.ensures.1 in
    rw (e.1, e.2) (inr (inl c.in_err-format_first.ensures.formats))

pub returns-in_err-format_first-clause-counts : goal.returns-in_err-format_first-clause-counts
returns-in_err-format_first-clause-counts g c = c.in_err-format_first.ensures.formats.counts

pub returns-in_err-started-clause-stops : goal.returns-in_err-started-clause-stops
returns-in_err-started-clause-stops g c =
    let e = err_from_is_err_and c.from_residual-in_err-started.result
    c.from_residual-in_err-started.ensures.1 in
    rw (e.1, e.2) (inr (inr (
      g.D.Chip.told c.format_first.new.desk,
      c.in_ok-format_first.ensures.formats,
      numbers_of c.in_ok-store.store,
      c.in_err-started.ensures.opens,
    )))

pub returns-in_err-started-clause-counts : goal.returns-in_err-started-clause-counts
returns-in_err-started-clause-counts g c =
    counts_then (g.D.Chip.told c.args.desk.now) (g.D.Chip.told c.format_first.new.desk)
    (g.D.Chip.told c.open_over.new.desk) c.in_ok-format_first.ensures.formats.counts
    c.in_err-started.ensures.opens.tries.accounts.counts

pub returns-clause-starts : goal.returns-clause-starts
returns-clause-starts g c = record {
  formatted = g.D.Chip.told c.format_first.new.desk;
  formats =
      c.in_ok-format_first.ensures.formats;
  opened = c.in_ok-started.ensures.opens;
}

pub returns-clause-counts : goal.returns-clause-counts
returns-clause-counts g c =
    counts_then (g.D.Chip.told c.args.desk.now) (g.D.Chip.told c.format_first.new.desk)
    (g.D.Chip.told c.open_over.new.desk) c.in_ok-format_first.ensures.formats.counts
    c.in_ok-started.ensures.opens.tries.accounts.counts

pub returns-clause-frames : goal.returns-clause-frames
returns-clause-frames g c = c.in_ok-started.ensures.frames ∙ c.in_ok-store.ensures.frames

pub returns-clause-numbers : goal.returns-clause-numbers
returns-clause-numbers g c = c.in_ok-started.ensures.numbers ∙ c.in_ok-store.ensures.numbers

pub returns-clause-sessions : goal.returns-clause-sessions
returns-clause-sessions g c = c.in_ok-started.ensures.sessions ∙ c.in_ok-store.ensures.sessions
