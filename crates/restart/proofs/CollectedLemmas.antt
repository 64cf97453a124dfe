-- The committed numbers of live log records, as these are found one after another.
use Rattle.std.proofs.Common.{◌≡◌, ◌<◌, ◌≤◌, ◌+◌, ◌*◌, ℕ, Bool, true, false, List, [], length, Option, refl, sym, ◌∙◌, ap, subst, arith, add-one}
use Rattle.std.specs.Prelude.{◌↔◌, IsTrue}
use Rattle.std.specs.Bool.{OnTrue}
use Rattle.ipl_format.specs.Record.{Record}
use Rattle.ipl_format.specs.Sector.{Sector}
use Rattle.ipl_meaning.specs.Chart.{Chart}
use Rattle.number_set.proofs.NumberLemmas.{with_numbers_grow}
use Rattle.number_set.specs.Flags.{Flags, flagged}
use Rattle.restart.specs.Joins.{Kept, committed_in, joined, kept_of, IsExact}
use Rattle.restart.proofs.JoinLemmas.{too_many}
use Rattle.ipl_meaning.specs.Chosen.{KeptHeader, Winner}
use Rattle.ipl_meaning.specs.Live.{kept, seen, is_live, live_at}
use Rattle.ipl_meaning.proofs.ScanLemmas.{live_here}
use Rattle.restart.specs.Collected.{records_at, numbers_below, AreKept}

-- ---- one sector more

numbers_step : (committed : List ℕ) (heads : ℕ → Option KeptHeader) (current : ℕ → Option Winner)
    (c : Chart) (k : ℕ) → numbers_below committed heads current c (k + 1)
    ≡ joined committed (records_at (live_at heads current c k)) (numbers_below committed heads current c k)
unfolding numbers_below
numbers_step committed heads current c k = rw add-one refl

pub numbers_more : (committed : List ℕ) (heads : ℕ → Option KeptHeader) (current : ℕ → Option Winner)
    (c : Chart) (p s : ℕ) → s < 256 → (o : Option Sector) → o ≡ seen heads current c p s
    → numbers_below committed heads current c (p * 256 + s + 1)
    ≡ joined committed (records_at (kept (is_live heads current p) o)) (numbers_below committed heads current c (p * 256 + s))
numbers_more committed heads current c p s below o is =
    numbers_step committed heads current c (p * 256 + s)
    ∙ ap (λ (x : Option Sector). joined committed (records_at x) (numbers_below committed heads current c (p * 256 + s)))
    (live_here heads current c p s below o is)

-- ---- what is kept

-- at first none are found
pub kept_first : (committed : List ℕ) (heads : ℕ → Option KeptHeader) (current : ℕ → Option Winner)
    (c : Chart) (flags : Flags) → flagged flags committed ≡ [] → flags.count ≡ 0
    → AreKept (numbers_below committed heads current c 0) true (kept_of committed flags)
unfolding numbers_below
kept_first committed heads current c flags none count = record {
  all = none;
  exact = count ∙ ap (λ (l : List ℕ). length l) (sym none);
  few = omega arith;
  more = tt;
}

-- where they didn't fit, they are more with others too
pub kept_over : (committed : List ℕ) (records : List Record) (found : List ℕ) (numbers : Kept) (fits : Bool)
    → fits ≡ false → AreKept found fits numbers → AreKept (joined committed records found) false numbers
kept_over committed records found numbers fits none are =
    let before : AreKept found false numbers = subst (λ (b : Bool). AreKept found b numbers) none are in
    let grow = with_numbers_grow (committed_in committed records) found in record {
      all = tt;
      exact = tt;
      few = tt;
      more = omega (arith, before.more, grow);
    }

-- where they fitted, the numbers of these records join them, or don't fit
pub kept_joined : (committed : List ℕ) (records : List Record) (found : List ℕ) (old new : Kept) (before fits : Bool)
    → before ≡ true → AreKept found before old → new.limit ≡ old.limit
    → (IsExact old → (IsTrue fits ↔ (length (joined committed records old.list) ≤ old.limit)))
    → OnTrue fits (new.list ≡ joined committed records old.list) → (IsExact old → IsExact new)
    → AreKept (joined committed records found) fits new
kept_joined committed records found old new before true all are limit tells joins exact =
    let were : AreKept found true old = subst (λ (b : Bool). AreKept found b old) all are in
    let same : old.list ≡ found = were.all in record {
      all = joins ∙ ap (joined committed records) same;
      exact = exact were.exact;
      few = subst (λ (l : List ℕ). length (joined committed records l) ≤ new.limit) same
          (omega (arith, limit, (tells were.exact).0 refl));
      more = tt;
    }
kept_joined committed records found old new before false all are limit tells joins exact =
    let were : AreKept found true old = subst (λ (b : Bool). AreKept found b old) all are in
    let same : old.list ≡ found = were.all in record {
      all = tt;
      exact = tt;
      few = tt;
      more = subst (λ (l : List ℕ). new.limit < length (joined committed records l)) same
          (omega (arith, limit, too_many old.limit false (length (joined committed records old.list)) (tells were.exact) refl));
    }
