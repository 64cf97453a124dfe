use Rattle.std.proofs.Common.{◌≡◌, length, ◌∙◌, ap, arith}
use Rattle.std.proofs.lemmas.Bool.{leb-true, le-leb}
use Rattle.ipl_meaning.specs.Last.{size_of_all}
use Rattle.log_records.specs.Reading.{records_of}
use Rattle.mem_log_sector.proofs.MemLemmas.{size_of_payload}
use Rattle.mem_log_sector.proofs.mem_log.MemLog.fits.Goals as goal

pub returns : goal.returns
returns c =
    let bytes = c.bytes.ensures in
    let version = c.self.inside.payload.version in
    let size : length c.bytes.result.now ≡ size_of_all c.args.self.now =
    size_of_payload version c.bytes.result.now bytes.list
    ∙ ap size_of_all (ap (records_of version) bytes.value ∙ c.self.view_is) in
    let len = c.value_len.ensures.len in (
      λ low. omega (arith, leb-true _ _ low, size, len),
      λ low. le-leb _ _ (omega (arith, low, size, len)),
    )
