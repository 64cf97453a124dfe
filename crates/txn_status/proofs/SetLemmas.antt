-- Tables that have the same committed numbers in another order.
use Rattle.std.proofs.Common.{◌↔◌, ℕ, List}
use Rattle.std.specs.List.{Contains}
use Rattle.ipl_meaning.specs.Chart.{Chart}
use Rattle.ipl_meaning.specs.Layout.{Layout}
use Rattle.ipl_meaning.specs.Tables.{Tables}
use Rattle.ipl_meaning.specs.Mirrors.{Mirrors}
use Rattle.txn_status.specs.Laws.{with_committed_list}

pub mirrors_looks_at_the_set : (places : ℕ) (c : Chart) (it : Layout) (t : Tables)
    (numbers : List ℕ)
    → ((n : ℕ) → Contains t.status.numbers n ↔ Contains numbers n) → Mirrors places c it t
    → Mirrors places c it (with_committed_list t numbers)
mirrors_looks_at_the_set places c it t numbers same mirrors = record {
  laid = mirrors.laid;
  directory = let was = mirrors.directory in record {
    units = was.units;
    logs = was.logs;
    all = was.all;
    counts = was.counts;
    current = was.current;
    heads = was.heads;
    generation = was.generation;
    not_home = was.not_home;
    not_status = was.not_status;
    not_overflow = was.not_overflow;
  };
  overflow = let was = mirrors.overflow in record {
    units = was.units;
    listed = was.listed;
    only = was.only;
    once = was.once;
    few = was.few;
    in_overflow = was.in_overflow;
    headed = was.headed;
    two = was.two;
    apart = was.apart;
  };
  status = record {
    place = mirrors.status.place;
    generation = mirrors.status.generation;
    numbers = λ tid. let was = mirrors.status.numbers tid in let is = same tid in
        (λ told. is.0 (was.0 told), λ has. was.1 (is.1 has));
  };
  numbers = let was = mirrors.numbers in
      record { above = was.above; below = was.below; once = was.once; waits = was.waits };
  masks = let was = mirrors.masks in record {
    units = was.units;
    lists = was.lists;
    sectors = was.sectors;
    home = was.home;
    elsewhere = was.elsewhere;
  };
  logs = let was = mirrors.logs in record { unmarked = was.unmarked; whole = was.whole };
  counted_clean = mirrors.counted_clean;
}
