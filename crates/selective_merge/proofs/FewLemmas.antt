-- How many log sectors are carried where a merge is done, and where it fails.
use Rattle.std.proofs.Common.{◌≡◌, ◌<◌, ◌≤◌, ℕ, List, Result, Ok, Err, inl, inr, length, arith, refl, ◌∙◌, ap}
use Rattle.std.proofs.lemmas.List.{length-map}
use Rattle.log_records.specs.View.{Versioned}
use Rattle.ipl_base.specs.declared.fault.ChipFault.{ChipFault}
use Rattle.ipl_base.specs.declared.fault.ChipFault.TheVariants.{ReadFault, Malformed}
use Rattle.ipl_format.specs.Record.{Record}
use Rattle.selective_merge.specs.Packs.{packs_of, payloads_of, payload_of}
use Rattle.selective_merge.specs.Merging.{CarriesFew}

-- few were packed
pub few_packed : {T : Type 0} (place n : ℕ) (result : Result T ChipFault) → n ≤ 12
    → CarriesFew place n result
few_packed place n (Ok v) few = few
few_packed place n (Err fault) few = λ many. absurd (omega (arith, few, many))

-- too many were carried
pub too_many : (T : Type 0) (place n : ℕ) → 12 < n
    → CarriesFew {T = T} place n (Err (Malformed place 0))
too_many T place n many = λ still. inr refl

-- it wasn't read
pub few_unread : (T : Type 0) (place n : ℕ) (fault : ChipFault) → fault ≡ ReadFault
    → CarriesFew {T = T} place n (Err fault)
few_unread T place n fault is = λ many. inl is

-- what is carried is what was packed
pub packs_few : (active : List ℕ) (log : List Record) (closed payloads : List Versioned)
    → payloads ≡ closed → closed ≡ payloads_of (packs_of active log) → length payloads ≤ 12
    → length (packs_of active log) ≤ 12
packs_few active log closed payloads is packed few =
    let same : length payloads ≡ length (packs_of active log) =
    ap length (is ∙ packed) ∙ length-map (packs_of active log) payload_of in
    omega (arith, few, same)
