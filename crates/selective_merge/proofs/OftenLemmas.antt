-- How often the base sectors of a unit are read.
use Rattle.std.proofs.Common.{◌≡◌, ◌≤◌, ◌+◌, ◌*◌, ◌&&◌, eqb, ℕ, zero, suc, List, [], ◌++◌, slice_index, Result, Ok, Err, inl, inr, subst, arith}
use Rattle.std.proofs.lemmas.Bool.{cases_Bool}
use Rattle.chip_trait.specs.Told.{Told}
use Rattle.ipl_base.specs.declared.fault.ChipFault.{ChipFault}
use Rattle.unit_io.specs.Costs.{Spends}
use Rattle.unit_io.specs.Reads.{page_reads, PageAsked}
use Rattle.ipl_meaning.specs.Tables.{Tables}
use Rattle.unit_io.specs.ReadsAt.{reads_of}
use Rattle.unit_io.specs.Unread.{ReadsNothing}
use Rattle.unit_log.specs.Live.{spots_from}
use Rattle.unit_log.specs.Often.{times, ReadsListed}
use Rattle.unit_log.proofs.OftenLemmas.{from_fewer, from_joined, often_behind, often_then, often_wider, times_joined}
use Rattle.selective_merge.specs.Often.{base_of, base_sectors, page_sectors}

-- the first n base sectors of a page, each once
page_listed : (place page n q t : ℕ)
    → reads_of (page_reads place page n) q t ≤ times (spots_from place (1 + page * 16) n) q t
page_listed place page zero q t = omega arith
page_listed place page (suc n) q t =
    let more : n + 1 ≡ suc n = omega arith in
    let all : times (spots_from place (1 + page * 16) (suc n)) q t
    ≡ times (spots_from place (1 + page * 16) n) q t + times (spots_from place (1 + page * 16 + n) 1) q t =
    subst (λ (k : ℕ). times (spots_from place (1 + page * 16) k) q t
    ≡ times (spots_from place (1 + page * 16) n) q t + times (spots_from place (1 + page * 16 + n) 1) q t) more
    (from_joined place (1 + page * 16) n 1 q t) in
    let rest = page_listed place page n q t in
    rw all (elim (cases_Bool (eqb place q && eqb (1 + page * 16 + n) t)) [
      | inl is ↦ rw is (omega (arith, rest))
      | inr not ↦ rw not (omega (arith, rest))
    ])

-- so is a page that was read, or begun
pub page_often : {T : Type 0} (place page pieces : ℕ) (result : Result T ChipFault) (old new : Told)
    → pieces ≤ 16 → PageAsked place page pieces result old new
    → Spends (ReadsListed (page_sectors place page)) old new
page_often place page pieces (Ok v) old new few did = record {
  added = page_reads place page pieces;
  does = λ q t. omega (arith, page_listed place page pieces q t, from_fewer place (1 + page * 16) pieces 16 q t few);
  history = did.history;
}
page_often place page pieces (Err e) old new few (n, less, did) = record {
  added = page_reads place page n;
  does = λ q t. omega (
    arith,
    page_listed place page n q t,
    from_fewer place (1 + page * 16) n 16 q t (omega (arith, less, few)),
  );
  history = did.history;
}

-- one page more
pub pages_often : (place page : ℕ) (old mid new : Told)
    → Spends (ReadsListed (spots_from place 1 (page * 16))) old mid
    → Spends (ReadsListed (page_sectors place page)) mid new
    → Spends (ReadsListed (spots_from place 1 ((page + 1) * 16))) old new
pages_often place page old mid new first second =
    let more : page * 16 + 16 ≡ (page + 1) * 16 = omega arith in
    subst (λ (n : ℕ). Spends (ReadsListed (spots_from place 1 n)) old new) more
    (often_wider _ (spots_from place 1 (page * 16 + 16)) old new
    (λ q t. omega (
      arith,
      from_joined place 1 (page * 16) 16 q t,
      times_joined (spots_from place 1 (page * 16)) (page_sectors place page) q t,
    ))
    (often_then (spots_from place 1 (page * 16)) (page_sectors place page) old mid new first second))

-- of all of them some
pub some_often : (place n : ℕ) (old new : Told) → n ≤ 240
    → Spends (ReadsListed (spots_from place 1 n)) old new → Spends (ReadsListed (base_sectors place)) old new
some_often place n old new less =
    often_wider (spots_from place 1 n) (base_sectors place) old new (λ q t. from_fewer place 1 n 240 q t less)

-- and then nothing more
pub reads_once : (a : List (ℕ × ℕ)) (old mid new : Told) → Spends (ReadsListed a) old mid
    → Spends (ReadsListed []) mid new → Spends (ReadsListed a) old new
reads_once a old mid new first none =
    often_wider (a ++ []) a old new (λ q t. omega (arith, times_joined a [] q t)) (often_then a [] old mid new first none)

-- a place was taken, and then the unit's base sectors were read
pub unit_often : (t : Tables) (u home : ℕ) (old mid new : Told) → home ≡ slice_index t.places.current u
    → Spends ReadsNothing old mid → Spends (ReadsListed (base_sectors home)) mid new
    → Spends (ReadsListed (base_of t u)) old new
unit_often t u home old mid new is none reads =
    often_behind (base_of t u) old mid new none
    (subst (λ (p : ℕ). Spends (ReadsListed (base_sectors p)) mid new) is reads)
