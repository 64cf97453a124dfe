-- The layout in hand says the map on which a story rests.
use Rattle.std.proofs.Common.{◌≡◌, ◌<◌, ℕ, Bool, sym, ◌∙◌, subst, arith}
use Rattle.chip_trait.specs.Told.{History}
use Rattle.ipl_format.specs.Page.{value_in}
use Rattle.ipl_meaning.specs.Legible.{Legible}
use Rattle.ipl_meaning.specs.Chart.{Chart}
use Rattle.ipl_meaning.specs.Layout.{Shape, Layout, Laid, ReadsWell, records_of}
use Rattle.ipl_meaning.specs.Rests.{now, StoryRests}
use Rattle.ipl_meaning.specs.Stands.{Shows, Says, page_in}
use Rattle.ipl_meaning.specs.Values.{Values}
use Rattle.ipl_meaning.proofs.OnceLemmas.{laid_once}
use Rattle.ipl_meaning.proofs.StoryLemmas.{held_stands}
use Rattle.ipl_meaning.proofs.SwitchLemmas.{same_applied}

-- a page shows the same where the same numbers are committed
same_shown : (c : Chart) (committed other : ℕ → Bool) (u page : ℕ) (shape : Shape) (values : Values)
    → ((tid : ℕ) → committed tid ≡ other tid)
    → Shows c committed u shape page values → Shows c other u shape page values
same_shown c committed other u page shape values same was = record {
  base = was.base;
  reads = was.reads;
  room = was.room;
  says = λ slot less. was.says slot less
      ∙ same_applied committed other page slot (records_of shape.log) (value_in was.base slot)
      (λ k d within. sym (same _));
}

pub layout_says : (places : ℕ) (h : History) (it : Layout) (m : Legible) → StoryRests places m h → Laid places (now h) it
    → Says places (now h) it m
layout_says places h it m rests laid =
    let stands = held_stands places m h rests.each in
    let other = stands.layout in
    let one = laid_once places (now h) other it stands.laid laid in record {
      pages = λ u page low few reads.
          let within : u < other.count = omega (arith, low, one.count) in
          subst (λ (shape : Shape). Shows (now h) it.committed u shape page (page_in m.map u page)) (one.units u within)
          (same_shown (now h) other.committed it.committed u page (other.units u) (page_in m.map u page) one.committed
          (stands.says.pages u page within few reads));
      rotten = λ u page base low few is reads. stands.says.rotten u page base (omega (arith, low, one.count)) few is
          (subst (λ (shape : Shape). ReadsWell (now h) u shape page base) (sym (one.units u (omega (arith, low, one.count)))) reads);
      nowhere_else = λ n high. stands.says.nowhere_else n (omega (arith, high, one.count));
    }
