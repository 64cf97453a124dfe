use Rattle.std.proofs.Common.{◌∙◌, None, Err, refl, ap, option_map}
use Rattle.std.proofs.lemmas.Result.{err_from_is_err_and}
use Rattle.ipl_store.proofs.ShownLemmas.{committed_told}
use Rattle.ipl_store.proofs.store.Store.committed.Goals as goal

pub returns-in_err-fetch_name : goal.returns-in_err-fetch_name
returns-in_err-fetch_name g c =
    let e = err_from_is_err_and c.from_residual.result c.from_residual.ensures.1 in
    rw (e.1 ∙ ap Err e.2) (
      (refl, λ _. tt, c.in_err-fetch_name.ensures.looks None),
      record { looks = tt; committed = tt; short = tt; asks = c.in_err-fetch_name.ensures.asks },
    )

pub returns : goal.returns
returns g c =
    let names = c.in_ok-fetch_name.ensures.fetches.names in (
      (refl, λ _. tt, c.in_ok-fetch_name.ensures.looks c.committed_in.result),
      record {
        looks = tt;
        committed = committed_told c.args.n c.args.self.now (g.C.Chip.told c.args.chip.now)
            c.fetch_name.new.self (option_map (λ b. b.now) c.committed_in.result) names
            (c.committed_in.ensures.committed names.frame names.there);
        short = c.committed_in.ensures.short;
        asks = c.in_ok-fetch_name.ensures.asks;
      },
    )
