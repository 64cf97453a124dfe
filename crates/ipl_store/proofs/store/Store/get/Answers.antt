use Rattle.std.proofs.Common.{◌∙◌, None, Err, refl, ap, option_map}
use Rattle.std.proofs.lemmas.Result.{err_from_is_err_and}
use Rattle.ipl_store.proofs.ShownLemmas.{seen_told}
use Rattle.ipl_store.proofs.store.Store.get.Goals as goal

pub returns-in_err-fetch : goal.returns-in_err-fetch
returns-in_err-fetch g c =
    let e = err_from_is_err_and c.from_residual.result c.from_residual.ensures.1 in
    rw (e.1 ∙ ap Err e.2) (
      (refl, λ _. tt, c.in_err-fetch.ensures.looks None),
      record { looks = tt; seen = tt; asks = c.in_err-fetch.ensures.asks },
    )

pub returns : goal.returns
returns g c =
    let keeps = c.in_ok-fetch.ensures.session in
    let session = keeps.session in
    let names = c.in_ok-fetch.ensures.fetches.names in (
      (refl, λ _. tt, c.in_ok-fetch.ensures.looks c.seen.result),
      record {
        looks = tt;
        seen = record {
          seen = seen_told c.args.s c.args.n session.number c.args.self.now
              (g.C.Chip.told c.args.chip.now) c.fetch.new.self
              (option_map (λ b. b.now) c.seen.result) names session.number_is
              (c.seen.ensures.seen names.frame session.number
              (keeps.number ∙ session.number_is) names.there);
          short = c.seen.ensures.short;
        };
        asks = c.in_ok-fetch.ensures.asks;
      },
    )
