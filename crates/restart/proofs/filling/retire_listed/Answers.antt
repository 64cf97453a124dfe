use Rattle.std.proofs.Common.{◌≡◌, ◌<◌, ◌∙◌, ◌*◌, ◌/◌, All, length, ap, arith, refl, subst, sym}
use Rattle.ipl_format.specs.Header.{IsWithin}
use Rattle.ipl_format.specs.Numbers.{word_at}
use Rattle.ipl_meaning.specs.Tables.{Places}
use Rattle.unit_layout.specs.Retired.{words_in}
use Rattle.unit_layout.proofs.WordLemmas.{words_count}
use Rattle.restart.specs.Kept.{retired_of}
use Rattle.restart.specs.Filled.{with_aside, with_all_aside}
use Rattle.restart.proofs.RetireLemmas.{one_aside, listed_words, all_left, may_retire, next_within, next_aside, none_left, one_more_at_most}
use Rattle.restart.proofs.filling.retire_listed.Goals as goal

pub loop-i-init : goal.loop-i-init
loop-i-init c =
    let directory = c.args.directory.now in
    let bytes = c.listed-listed.result.now in
    let same = ap words_in c.listed-listed.ensures ∙ listed_words c.args.status.now in
    let all = may_retire (length directory.in_use) (length directory.current) bytes (retired_of c.args.status.now) same c.requires.listed in record {
      left = ap (with_all_aside directory) (all_left bytes ∙ same);
      within = subst (All (IsWithin (length directory.in_use))) (sym (all_left bytes)) all.within;
      few = let none = ap length c.requires.none in omega (arith, none);
      places = refl;
      units = refl;
    }

pub retire_free-requires-clause-place : goal.retire_free-requires-clause-place
retire_free-requires-clause-place c =
    let so_far = c.loop-i.invariant in
    let count = length c.listed-listed.result.now / 4 in
    let here = (next_within (length c.args.directory.now.in_use) count c.loop-i.i c.listed-listed.result.now (omega arith) so_far.within).0 in
    omega (arith, here, so_far.places, c.word_at.ensures)

pub retire_free-requires-clause-few : goal.retire_free-requires-clause-few
retire_free-requires-clause-few c =
    let directory = c.args.directory.now in
    let so_far = c.loop-i.invariant in
    let bytes = c.listed-listed.result.now in
    let same = ap words_in c.listed-listed.ensures ∙ listed_words c.args.status.now in
    let all = may_retire (length directory.in_use) (length directory.current) bytes (retired_of c.args.status.now) same c.requires.listed in
    let low : c.loop-i.i < length bytes / 4 = omega arith in
    omega (arith, low, so_far.few, so_far.places, so_far.units, all.spare, words_count (length bytes / 4) bytes)

pub loop-i-preserved : goal.loop-i-preserved
loop-i-preserved c =
    let so_far = c.loop-i.invariant in
    let bytes = c.listed-listed.result.now in
    let count = length bytes / 4 in
    let i = c.loop-i.i in
    let low : i < count = omega arith in
    let before = c.loop-i.directory in
    let is : c.retire_free.new.directory ≡ with_aside before (word_at (4 * i) bytes) =
    c.retire_free.ensures ∙ ap (with_aside before) c.word_at.ensures in
    let keeps = (one_aside before (word_at (4 * i) bytes)).keeps in record {
      left = next_aside count i bytes before c.retire_free.new.directory (with_all_aside c.args.directory.now (retired_of c.args.status.now)) low is so_far.left;
      within = (next_within (length c.args.directory.now.in_use) count i bytes low so_far.within).1;
      few =
          let more = one_more_at_most before (word_at (4 * i) bytes) in
          let same = ap (λ (d : Places). length d.retired) is in
          omega (arith, more, same, so_far.few);
      places = ap (λ (d : Places). length d.in_use) is ∙ keeps.all ∙ so_far.places;
      units = ap (λ (d : Places). length d.current) is ∙ ap length keeps.current ∙ so_far.units;
    }

pub returns : goal.returns
returns c = none_left (length c.listed-listed.result.now / 4) c.loop-i.i c.listed-listed.result.now c.loop-i.directory
    (with_all_aside c.args.directory.now (retired_of c.args.status.now)) (omega arith) c.loop-i.invariant.left
