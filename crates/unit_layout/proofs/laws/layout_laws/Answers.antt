use Rattle.unit_layout.proofs.HeaderLemmas.{headers_read_back, pieces_stand_apart}
use Rattle.unit_layout.proofs.StatusLemmas.{status_headers_read_back}
use Rattle.unit_layout.proofs.laws.layout_laws.Goals as goal

pub returns : goal.returns
returns c = record { headers = headers_read_back; status_headers = status_headers_read_back; pieces = pieces_stand_apart }
