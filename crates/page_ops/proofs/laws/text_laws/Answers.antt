use Rattle.page_ops.proofs.TextLemmas.{texts_say_values}
use Rattle.page_ops.proofs.laws.text_laws.Goals as goal

pub returns : goal.returns
returns c = texts_say_values
