use Rattle.ipl_meaning.proofs.SwitchLemmas.{headers_switch, merges_keep_pages, same_units_keep_pages, status_headers_switch, kept_numbers_keep_pages, overflow_headers_wait}
use Rattle.ipl_meaning.proofs.laws.header_laws.Goals as goal

pub returns : goal.returns
returns c = record { switches = headers_switch; merges = merges_keep_pages; same_units = same_units_keep_pages; renews = status_headers_switch; kept_numbers = kept_numbers_keep_pages; overflows = overflow_headers_wait }
