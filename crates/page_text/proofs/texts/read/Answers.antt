use Rattle.ipl_format.proofs.PageLemmas.{later_pages_are_alike}
use Rattle.page_text.proofs.IndexLemmas.{map_true, text_alike}
use Rattle.page_text.proofs.texts.read.Goals as goal

pub returns-else-version-eq1-clause-exact : goal.returns-else-version-eq1-clause-exact
returns-else-version-eq1-clause-exact c =
    text_alike c.args.version c.args.bytes.now _ c.if-version-eq1.false c.read_kept.ensures.exact

pub returns-else-version-eq1-clause-page : goal.returns-else-version-eq1-clause-page
returns-else-version-eq1-clause-page c =
    map_true c.read_kept.result _ _ (later_pages_are_alike c.args.version c.args.bytes.now
    c.read_kept.new.map c.if-version-eq1.false).0 c.read_kept.ensures.page
