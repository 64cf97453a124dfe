-- The headers that count, as they are found and tested.
use Rattle.std.proofs.Common.{◌≡◌, ◌≢◌, inl, inr, ◌<◌, ◌+◌, ℕ, List, length, set, Option, Some, None, IfSome, sym, ◌∙◌, ap, ap₂, subst, arith, get_or-set_other}
use Rattle.ipl_base.specs.First.{first_below}
use Rattle.ipl_base.proofs.FirstLemmas.{none_before}
use Rattle.ipl_format.specs.Sector.{Sector}
use Rattle.ipl_meaning.specs.First.{at}
use Rattle.ipl_meaning.specs.Chosen.{KeptHeader, Winner, header_in, is_status, picked, chosen}
use Rattle.ipl_meaning.specs.Faults.{missing}
use Rattle.ipl_meaning.proofs.ChosenLemmas.{chosen_step, chosen_alike}
use Rattle.restart.specs.Kept.{KeepsStatus}

-- ---- the status header, while headers are read

-- one header more
pub status_on : (heads : List (Option KeptHeader)) (n : ℕ) (header read : Option KeptHeader) (before after : Option Winner) → n < length heads
    → at (set heads n header) n ≡ read → before ≡ chosen is_status (at heads) n → after ≡ picked is_status before n read
    → after ≡ chosen is_status (at (set heads n header)) (n + 1)
status_on heads n header read before after low here so_far is =
    let earlier : before ≡ chosen is_status (at (set heads n header)) n =
    so_far ∙ chosen_alike is_status (at heads) (at (set heads n header)) n
    (λ k below. sym (get_or-set_other heads n k header None (λ same. omega (arith, same, below)))) in
    is ∙ (ap₂ (λ (o : Option Winner) (h : Option KeptHeader). picked is_status o n h) earlier (sym here)
    ∙ sym (chosen_step is_status (at (set heads n header)) n))

-- what is kept says it
pub kept_on : (places place : ℕ) (before : Option Winner) (header : Option KeptHeader) (sector : Option Sector) (status : Option Winner) (old new : Option Sector)
    → KeepsStatus before place header sector status old new → header ≡ header_in places sector
    → IfSome before (λ w. header_in places old ≡ Some w.head) → IfSome status (λ w. header_in places new ≡ Some w.head)
kept_on places place before header sector status old new (inl (head, is, now, same)) made so_far =
    subst (λ (o : Option Winner). IfSome o (λ w. header_in places new ≡ Some w.head)) (sym now) (ap (header_in places) same ∙ sym made ∙ is)
kept_on places place before header sector status old new (inr (still, same)) made so_far =
    subst (λ (o : Option Winner). IfSome o (λ w. header_in places new ≡ Some w.head)) (sym still)
    (subst (λ (s : Option Sector). IfSome before (λ w. header_in places s ≡ Some w.head)) (sym same) so_far)

-- and stands at its place
pub stands_on : (first : ℕ → Option Sector) (place : ℕ) (before : Option Winner) (header : Option KeptHeader) (sector : Option Sector) (status : Option Winner) (old new : Option Sector)
    → KeepsStatus before place header sector status old new → sector ≡ first place
    → IfSome before (λ w. old ≡ first w.place) → IfSome status (λ w. new ≡ first w.place)
stands_on first place before header sector status old new (inl (head, is, now, same)) here so_far =
    subst (λ (o : Option Winner). IfSome o (λ w. new ≡ first w.place)) (sym now) (same ∙ here)
stands_on first place before header sector status old new (inr (still, same)) here so_far =
    subst (λ (o : Option Winner). IfSome o (λ w. new ≡ first w.place)) (sym still)
    (subst (λ (s : Option Sector). IfSome before (λ w. s ≡ first w.place)) (sym same) so_far)

-- ---- tests

-- where no unit's header is missing, each has one
pub units_there : (current : ℕ → Option Winner) (units : ℕ) → first_below (λ u. missing u (current u)) units ≡ None
    → (u : ℕ) → u < units → current u ≢ None
units_there current units none u low missing_u =
    let here = none_before (λ (v : ℕ). missing v (current v)) units none u low in
    let also = ap (missing u) missing_u in cc
