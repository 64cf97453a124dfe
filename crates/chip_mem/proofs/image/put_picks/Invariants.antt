use Rattle.std.proofs.Common.{◌≡◌, take, reverse, fold}
use Rattle.chip_trait.specs.Image.{IsImage}
use Rattle.chip_mem.specs.Sectors.{contents_of}
use Rattle.chip_mem.specs.Picked.{with_pick}
use Rattle.chip_mem.proofs.image.put_picks.Given as goal

abbrev pub invariant-loop-pick : goal.invariant-loop-pick
invariant-loop-pick l = record {
  value : contents_of l.sectors ≡ fold (with_pick (contents_of l.start) (reverse l.events)) (contents_of l.fn.sectors) (take l.pick-index l.picks);
  image : IsImage (contents_of l.start) (reverse l.events) (contents_of l.fn.sectors) → IsImage (contents_of l.start) (reverse l.events) (contents_of l.sectors);
}
