-- What a switch to kept numbers asks for.
use Rattle.std.proofs.Common.{◌≡◌, inl, inr, ℕ, ◌<◌, Bool, true, false, get_or, refl, sym, ◌∙◌, subst, IsTrue, arith}
use Rattle.std.proofs.lemmas.List.Elements.{Contains-get_or}
use Rattle.ipl_format.specs.Page.{value_in}
use Rattle.ipl_meaning.specs.Chart.{Chart}
use Rattle.ipl_meaning.specs.Layout.{Shape, Layout, ReadsWell, records_of}
use Rattle.ipl_meaning.specs.Mirrors.{Mirrors}
use Rattle.ipl_meaning.specs.Stands.{Shows, page_in}
use Rattle.ipl_meaning.specs.Tables.{Tables}
use Rattle.ipl_meaning.specs.Values.{Values}
use Rattle.ipl_meaning.proofs.OnceLemmas.{laid_once}
use Rattle.ipl_meaning.proofs.StoryLemmas.{held_stands}
use Rattle.ipl_meaning.proofs.SwitchLemmas.{same_applied}
use Rattle.restart.specs.Ready.{LayoutsSay, RestingLayoutsSay, KeptNumbersAreOld}

shows_for : (c : Chart) (committed other : ℕ → Bool) (u page : ℕ) (shape : Shape) (now : Values)
    → ((tid : ℕ) → committed tid ≡ other tid)
    → Shows c committed u shape page now → Shows c other u shape page now
shows_for c committed other u page shape now same was = record {
  base = was.base;
  reads = was.reads;
  room = was.room;
  says = λ slot less. was.says slot less
      ∙ same_applied committed other page slot (records_of shape.log) (value_in was.base slot)
      (λ k d within. sym (same _));
}

pub layouts_say : LayoutsSay
layouts_say places c it m laid stands =
    let one = laid_once places c stands.layout it stands.laid laid in record {
      pages = λ u page low few reads. subst
          (λ (shape : Shape). Shows c it.committed u shape page (page_in m.map u page))
          (one.units u (omega (arith, low, one.count)))
          (shows_for c stands.layout.committed it.committed u page (stands.layout.units u)
          (page_in m.map u page) one.committed
          (stands.says.pages u page (omega (arith, low, one.count)) few reads));
      rotten = λ u page base low few is reads. stands.says.rotten u page base (omega (arith, low, one.count)) few is
          (subst (λ (shape : Shape). ReadsWell c u shape page base) (sym (one.units u (omega (arith, low, one.count)))) reads);
      nowhere_else = λ n high. stands.says.nowhere_else n (omega (arith, high, one.count));
    }

pub resting_layouts_say : RestingLayoutsSay
resting_layouts_say places h it m rests laid =
    layouts_say places _ it m laid (held_stands places m h rests.each)

-- a committed number is found, so that the counter is above it
committed_below : (places : ℕ) (c : Chart) (it : Layout) (t : Tables) → Mirrors places c it t
    → (tid : ℕ) → IsTrue (it.committed tid) → tid < t.next
committed_below places c it t mirrors tid is =
    let told = mirrors.laid.commits.told tid is in
    mirrors.numbers.above tid (
      it.status,
      told.number,
      told.sector,
      inr (inl (refl, inl told.is)),
      inr (inr (inl (told.is.kind, told.numbers, told.spelled, told.has))),
    )

pub kept_numbers_are_old : KeptNumbersAreOld
kept_numbers_are_old places n c it t kept mirrors keeps = record {
  below = λ k none within. committed_below places c it t mirrors (get_or kept k none)
      ((keeps (get_or kept k none)).0 (Contains-get_or kept k none within)).0;
  waits = λ k none within has.
      let is = ((keeps (get_or t.active k none)).0 has).0 in
      let no_way : true ≡ false = sym is ∙ mirrors.numbers.waits k none within in cc no_way;
}
