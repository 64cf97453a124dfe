use Rattle.std.proofs.Common.{◌≡◌, replicate, rules}
use Rattle.ipl_format.specs.Page.{value_in}
use Rattle.selective_merge.specs.Packs.{among}
use Rattle.page_ops.proofs.RebuildLemmas.{none_comes}
use Rattle.selective_merge.proofs.pages.make_anew.Goals as goal

pub returns-then-is_none : goal.returns-then-is_none
returns-then-is_none c =
    let none : c.args.coming ≡ replicate 64 0 = search rules in record {
      makes = record {
        rebased = none_comes (among c.args.status.now.numbers) c.args.page c.args.log.now c.args.coming
            (value_in c.args.slots.now) c.requires.coming none;
        fits = c.text.ensures.text.slots;
        tails = c.requires.tails;
        full = tt;
      };
    }
