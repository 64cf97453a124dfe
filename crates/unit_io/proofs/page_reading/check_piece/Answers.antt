use Rattle.std.proofs.Common.{◌≡◌, ◌≤◌, ℕ, List, true, false, Some, take, drop, inl, inr, ◌∙◌, ap, subst}
use Rattle.ipl_format.specs.Sector.{sector_in}
use Rattle.sector_format.specs.declared.sector.Decoded.{Decoded}
use Rattle.sector_format.specs.Decode.{IsDecoded, sector_of, sector_read}
use Rattle.unit_io.specs.Faults.{is_piece}
use Rattle.unit_io.proofs.FaultLemmas.{bad_fault, erased_fault, strange_fault, said_fault, used_is}
use Rattle.unit_io.proofs.page_reading.check_piece.Goals as goal

pub returns-in-Bad-clause-exact : goal.returns-in-Bad-clause-exact
returns-in-Bad-clause-exact c = λ bytes long says decoded other.
    rw c.base_sector-sector.ensures.sector (bad_fault _ _ _ _ _ _ _ bytes c.in-Bad.stored c.in-Bad.computed long (subst (λ (d : Decoded). IsDecoded bytes d) c.in-Bad.is decoded))

pub returns-then-is_piece-clause-exact : goal.returns-then-is_piece-clause-exact
returns-then-is_piece-clause-exact c = λ bytes long says decoded.
    let short : c.in-Sector.used ≤ 480 = subst (λ (d : Decoded). IsDecoded bytes d) c.in-Sector.is decoded in
    let payload : List ℕ = take c.in-Sector.used (drop 32 bytes) in
    said_fault _ _ _ _ _ _ _ bytes (sector_of c.in-Sector.found payload) true (subst (λ (d : Decoded). sector_in bytes ≡ sector_read bytes d) c.in-Sector.is says)
    (c.if-is_piece.ensures.exact payload (used_is bytes c.in-Sector.used long short)
    ∙ ap (λ (n : ℕ). is_piece c.args.head.now.version c.args.head.now.unit c.args.head.now.generation n c.args.is_last (Some (sector_of c.in-Sector.found payload))) c.from-serial.ensures)

pub returns-else-is_piece-clause-exact : goal.returns-else-is_piece-clause-exact
returns-else-is_piece-clause-exact c = λ bytes long says decoded other.
    let short : c.in-Sector.used ≤ 480 = subst (λ (d : Decoded). IsDecoded bytes d) c.in-Sector.is decoded in
    let payload : List ℕ = take c.in-Sector.used (drop 32 bytes) in
    rw c.base_sector-sector.ensures.sector (said_fault _ _ _ _ _ _ _ bytes (sector_of c.in-Sector.found payload) false
    (subst (λ (d : Decoded). sector_in bytes ≡ sector_read bytes d) c.in-Sector.is says)
    (c.if-is_piece.ensures.exact payload (used_is bytes c.in-Sector.used long short)
    ∙ ap (λ (n : ℕ). is_piece c.args.head.now.version c.args.head.now.unit c.args.head.now.generation n c.args.is_last (Some (sector_of c.in-Sector.found payload))) c.from-serial.ensures))

pub returns-in-Erased-clause-exact : goal.returns-in-Erased-clause-exact
returns-in-Erased-clause-exact c = λ bytes long says decoded other. rw c.base_sector-sector.ensures.sector (elim c.in-Erased.is [
  | inl erased ↦ erased_fault _ _ _ _ _ _ _ bytes (subst (λ (d : Decoded). sector_in bytes ≡ sector_read bytes d) erased says)
      (subst (λ (d : Decoded). IsDecoded bytes d) erased decoded)
  | inr strange ↦ strange_fault _ _ _ _ _ _ _ bytes (subst (λ (d : Decoded). sector_in bytes ≡ sector_read bytes d) strange says)
      (subst (λ (d : Decoded). IsDecoded bytes d) strange decoded)
])
