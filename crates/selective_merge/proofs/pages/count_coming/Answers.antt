use Rattle.selective_merge.specs.Packs.{among}
use Rattle.selective_merge.proofs.PageLemmas.{none_coming}
use Rattle.selective_merge.proofs.pages.count_coming.Goals as goal

pub loop-i-init : goal.loop-i-init
loop-i-init c = record {
  counted = none_coming (among c.args.status.now.numbers) c.args.page _ c.none-coming.ensures;
}
