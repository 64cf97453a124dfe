use Rattle.std.proofs.Common.{◌≡◌, length, map, ◌∙◌, ap}
use Rattle.std.specs.List.{refill}
use Rattle.std.proofs.lemmas.List.{length-map}
use Rattle.ipl_meaning.specs.Tables.{unmarked_written}
use Rattle.bounded_vec.proofs.WriteLemmas.{refilled}
use Rattle.unit_directory.proofs.MarkedLemmas.{marks_ended}
use Rattle.unit_directory.proofs.directory.Directory.end_marks.Goals as goal

pub invariant_of-self : goal.invariant_of-self
invariant_of-self c =
    let (sound, current, written, generations, masks) = c.self.invariant in
    let old = c.self.inside.written.items in
    let ended : c.end_all_marks.new.all ≡ map unmarked_written old =
    c.end_all_marks.ensures ∙ ap (map unmarked_written) c.deref_mut.ensures.value in
    let same : refill (length old) old c.end_all_marks.new.all ≡ map unmarked_written old =
    refilled old c.end_all_marks.new.all (ap length ended ∙ length-map old unmarked_written) ∙ ended in
    (rw same (marks_ended _ sound), current, written, generations, masks)
