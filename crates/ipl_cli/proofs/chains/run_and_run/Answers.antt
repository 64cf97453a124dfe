use Rattle.std.proofs.Common.{ℕ, subst}
use Rattle.store_trait.proofs.OnwardLemmas.{unrisen_later}
use Rattle.ipl_cli.specs.Frames.{AddsCleanly}
use Rattle.ipl_cli.proofs.ChainLemmas.{unrisen_first}
use Rattle.ipl_cli.proofs.CleanLemmas.{run_adds_cleanly, run_leaves_start, cleanly_then, still_tells}
use Rattle.ipl_cli.proofs.chains.run_and_run.Goals as goal

pub returns : goal.returns
returns g c = λ m script on tells unrisen.
    let old = g.D.Chip.told c.args.desk.now in
    let mid = g.D.Chip.told c.top.new.desk in
    let new = g.D.Chip.told c.top-2.new.desk in
    let quiet = unrisen_first old mid new c.top-2.ensures.counts unrisen in
    let first = c.top.ensures.opened c.requires.first.0 c.requires.first.1 in
    let second = c.top-2.ensures.opened c.requires.second.0 c.requires.second.1 in
    let adds = run_adds_cleanly old mid m script on first.0 first.2 quiet tells.0 tells.1 in
    let (m_then, left, begun) = run_leaves_start old mid m script on first.0 first.2 quiet c.top.ensures.counts.places in
    let later = unrisen_later old mid new c.top.ensures.counts.writes unrisen in
    let (k, told) = still_tells old mid tells adds.added adds.history in
    cleanly_then old.places on.history begun.history old mid new begun.steady adds
    (subst (λ (n : ℕ). AddsCleanly n begun.history mid new) c.top.ensures.counts.places
    (run_adds_cleanly mid new m_then left begun second.0 second.2 later k told))
