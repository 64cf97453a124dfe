-- How often each place was erased, by what is kept of its header.
use Rattle.std.proofs.Common.{◌≡◌, inl, inr, ◌≤◌, ◌<◌, ◌+◌, ℕ, true, List, length, get_or, set, Option, Some, None, refl, sym, ◌∙◌, subst, arith, get_or-set_same, get_or-set_other}
use Rattle.std.specs.Prelude.{nat_le}
use Rattle.std.proofs.lemmas.Bool.{cases_eq, cases_Bool, le-leb, lt-ltb}
use Rattle.chip_trait.specs.Story.{Contents}
use Rattle.ipl_format.specs.Sector.{Sector, said_in}
use Rattle.ipl_format.specs.Header.{erases_said}
use Rattle.ipl_format.proofs.SectorOnceLemmas.{formed_facts, said_parts}
use Rattle.ipl_meaning.specs.Chart.{Chart, chart_of}
use Rattle.ipl_meaning.specs.Tables.{Places}
use Rattle.ipl_meaning.specs.First.{at}
use Rattle.ipl_meaning.specs.Chosen.{KeptHeader, header_in, header_at}
use Rattle.restart.specs.Filled.{erases_by, AreErasedAsTold}

-- one place more is counted
pub counts_more : (heads : List (Option KeptHeader)) (n erases : ℕ) (counts : List ℕ) → n < length counts
    → ((p : ℕ) → p < n → get_or counts p 0 ≡ erases_by (at heads p)) → erases ≡ erases_by (at heads n)
    → (p : ℕ) → p < n + 1 → get_or (set counts n erases) p 0 ≡ erases_by (at heads p)
counts_more heads n erases counts within so_far is p low = elim (cases_eq p n) [
  | inl same ↦ subst (λ (q : ℕ). get_or (set counts n erases) q 0 ≡ erases_by (at heads q)) (sym same)
      (get_or-set_same counts n erases 0 within ∙ is)
  | inr other ↦ get_or-set_other counts n p erases 0 other ∙ so_far p (omega (arith, low, other))
]

-- as many places are counted
pub counted_of : {heads : ℕ → Option KeptHeader} {m n : ℕ} {it : Places} → m ≡ n → AreErasedAsTold heads m it → AreErasedAsTold heads n it
counted_of {heads} {m} {n} {it} same counted = subst (λ (k : ℕ). AreErasedAsTold heads k it) same counted

-- how often a place was erased, by what is kept of its header
said_by : (places : ℕ) (o : Option Sector) → ((s : Sector) → o ≡ Some s → 1 ≤ s.kind) → erases_by (header_in places o) ≡ erases_said o
unfolding erases_said
said_by places None kinds = refl
said_by places (Some s) kinds =
    let least : nat_le 1 s.kind ≡ true = le-leb 1 s.kind (kinds s refl) in
    elim (cases_Bool (nat_le s.kind 3)) [
      | inl most ↦ rw (least, most) refl
      | inr more ↦ rw (least, more) refl
    ]

pub said_by_header : (c : Chart) (places p : ℕ) → p < places → ((s : Sector) → c p 0 ≡ Some s → 1 ≤ s.kind) → erases_by (header_at c places p) ≡ erases_said (c p 0)
said_by_header c places p low kinds = rw (lt-ltb p places low) (said_by places (c p 0) kinds)

-- sectors of contents are of the kinds that there are
pub header_kinds : (x : Contents) (p : ℕ) (s : Sector) → chart_of x p 0 ≡ Some s → 1 ≤ s.kind
unfolding said_in
header_kinds x p s here =
    let (formed, sums, said) = said_parts (x p 0) s here in
    subst (λ (z : Sector). 1 ≤ z.kind) said (formed_facts (x p 0) formed).least
