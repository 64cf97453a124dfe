use Rattle.std.proofs.Common.{◌≡◌, map, drop}
use Rattle.page_frames.specs.Changed.{is_on_page}
use Rattle.page_frames.proofs.sessions.is_on_page.Given as goal

-- one of the names is on the page where one of the rest is
abbrev pub invariant-loop-name : goal.invariant-loop-name
invariant-loop-name l = is_on_page (map (λ n. n.0) l.names) l.unit l.page
    ≡ is_on_page (map (λ n. n.0) (drop l.name-index l.names)) l.unit l.page
