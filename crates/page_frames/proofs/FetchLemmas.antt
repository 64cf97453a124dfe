-- A page that is in no frame is loaded into the one that it was given.
use Rattle.std.proofs.Common.{◌≡◌, ℕ, None, Result, Ok, refl, sym, subst}
use Rattle.chip_trait.specs.Told.{Told}
use Rattle.ipl_base.specs.declared.fault.ChipFault.{ChipFault}
use Rattle.buffer_pool.specs.Pools.{PoolView, AreOnce}
use Rattle.page_frames.specs.Views.{frames_of}
use Rattle.page_frames.specs.declared.pages.Pages.{Pages}
use Rattle.page_frames.specs.Filling.{with_pool, Fills}
use Rattle.page_frames.specs.Frames.{Gives, MayGive, Victim}
use Rattle.page_frames.specs.Faulty.{FaultStands}
use Rattle.page_frames.specs.Pages.{tables_in, frames_in, ArePagesReady, Upholds}
use Rattle.page_frames.specs.Works.{WorksOn}
use Rattle.page_frames.proofs.GiveLemmas.{gives_none, gives_upholds}
use Rattle.page_frames.proofs.TellLemmas.{stands_surely, tells_then}
use Rattle.page_frames.proofs.WorkLemmas.{works_then}

-- what filling leaves, from before the page was given its frame and from before a frame was emptied
pub record IsFetched (u page : ℕ) (old between : Pages) (before late : Told)
    (result : Result (Unit {0}) ChipFault) (new : Pages) (after : Told) : Type 0 where
  pub fills : Fills u page between late result new after
  pub works : WorksOn 14 old before result new after

pub fetched : (victim : Victim) (u page : ℕ) (old mid new : Pages) (between : PoolView)
    (result : Result (Unit {0}) ChipFault) (before late after : Told)
    → Upholds 14 old before (Ok (tt {0})) mid late → AreOnce mid.pool.buffers
    → MayGive mid.pool victim → Gives victim mid.pool between → frames_in mid u page ≡ None
    → (ArePagesReady late.places (with_pool mid between) → frames_of between u page ≡ None
    → Fills u page (with_pool mid between) late result new after)
    → IsFetched u page old (with_pool mid between) before late result new after
fetched victim u page old mid new between result before late after did once may gives none fill =
    let made = with_pool mid between in
    let ready = subst (λ (n : ℕ). ArePagesReady n mid) (sym did.accounts.counts.places) did.ready in
    let given = gives_upholds victim mid between late once ready may gives in
    let fills = fill given.ready (gives_none victim mid.pool between u page gives none) in
    let stands = FaultStands (tables_in new) after in
    let alike = fills.works.upholds.active in
    let here = tells_then stands mid made new result late late refl alike given.keeps fills.stands in
    let there = tells_then stands old mid new result before late did.accounts.counts.places alike did.keeps here
    in record {
      fills = fills;
      works = works_then 14 0 old mid new result before late after did
          (works_then 0 0 mid made new result late late after given fills.works
          (stands_surely mid new result late after here))
          (stands_surely old new result before after there);
    }
