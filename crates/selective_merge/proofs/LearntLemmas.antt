-- What was read of a unit is so still, and how many log sectors a merge of it would carry.
use Rattle.std.proofs.Common.{◌≡◌, ◌∙◌, ℕ, List, length, min, Ok, sym, ap, subst}
use Rattle.chip_trait.specs.Told.{Told}
use Rattle.ipl_format.specs.Record.{Record}
use Rattle.ipl_meaning.specs.Chart.{chart_of}
use Rattle.ipl_meaning.specs.Last.{carried_count}
use Rattle.ipl_meaning.specs.Layout.{Shape}
use Rattle.ipl_meaning.specs.Tables.{Tables}
use Rattle.unit_io.specs.ReadsAt.{ReadsAt}
use Rattle.unit_log.specs.Live.{AreMirrored}
use Rattle.selective_merge.specs.Packs.{among, packs_of}
use Rattle.selective_merge.specs.Homes.{IsHomeBy, IsHomeOf, LearnsHome, IsLearnt}
use Rattle.selective_merge.specs.Merging.{IsReadyToMerge}
use Rattle.selective_merge.specs.declared.home.HomeHeader.{HomeHeader}

pub counted : (home : HomeHeader) (it : Shape) (u : ℕ) (active : List ℕ) (log : List Record) (n : ℕ)
    → n ≡ min 13 (length (packs_of active log)) → IsHomeOf home it u log
    → n ≡ min 13 (carried_count (among active) it.log)
counted home it u active log n is read = is ∙ ap (λ (l : List Record). min 13 (length (packs_of active l))) read.log_is

-- where the same sessions are open
pub counted_by : (t now : Tables) (log : List Record) (n : ℕ) → now ≡ t
    → n ≡ min 13 (length (packs_of now.active log)) → n ≡ min 13 (length (packs_of t.active log))
counted_by t now log n same is = is ∙ ap (λ (s : Tables). min 13 (length (packs_of s.active log))) same

-- where it stayed as it was
pub learnt_still : (u : ℕ) (t : Tables) (told : Told) (home home' : HomeHeader) (log log' : List Record)
    → home' ≡ home → log' ≡ log → IsLearnt t u told home log → IsLearnt t u told home' log'
learnt_still u t told home home' log log' same_home same_log learnt =
    subst (λ (h : HomeHeader). IsLearnt t u told h log') (sym same_home)
    (subst (IsLearnt t u told home) (sym same_log) learnt)

pub learnt_behind : (At : ℕ → ℕ → Type 0) (u : ℕ) (t then : Tables) (old mid : Told) (home : HomeHeader)
    (log : List Record) → ReadsAt At old mid → then ≡ t → LearnsHome t.places t.overflow u old (Ok tt) home log
    → IsHomeBy t u home → IsLearnt then u mid home log
learnt_behind At u t then old mid home log reads same learns stands =
    subst (λ (s : Tables). IsLearnt s u mid home log) (sym same) (record {
      learns = λ x told it s are.
          let there : AreMirrored old.places (chart_of x) it s t.places t.overflow =
          subst (λ (n : ℕ). AreMirrored n (chart_of x) it s t.places t.overflow) reads.counts.places are in
          learns x (sym reads.contents ∙ told) it s there;
      stands = stands;
    })

-- what is asked of a merge is so still, behind reads
pub ready_behind : (u : ℕ) (t then : Tables) (n now : ℕ) → now ≡ n → then ≡ t → IsReadyToMerge n t u
    → IsReadyToMerge now then u
ready_behind u t then n now sized same ready =
    subst (λ (k : ℕ). IsReadyToMerge k then u) (sym sized)
    (subst (λ (s : Tables). IsReadyToMerge n s u) (sym same) ready)
