use Rattle.ipl_format.proofs.HeaderOnceLemmas.{data_headers_say_erases, status_headers_say_erases, overflow_headers_say_erases, erases_fit}
use Rattle.ipl_format.proofs.laws.erase_laws.Goals as goal

pub returns : goal.returns
returns c = record {
  data_header = data_headers_say_erases;
  status = status_headers_say_erases;
  overflow = overflow_headers_say_erases;
  fit = erases_fit;
}
