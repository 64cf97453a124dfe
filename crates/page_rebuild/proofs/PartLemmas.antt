-- Records passed one part after the other.
use Rattle.std.proofs.Common.{◌≡◌, ℕ, List, ◌++◌, ◌∙◌, ap, subst, append_assoc}
use Rattle.ipl_format.specs.Record.{Record}
use Rattle.page_rebuild.specs.Parts.{Progress, ComeNext}

module _ {B X : Type 0} (Going : Progress B X) where
  -- what went so far when all these records came next is so far now, when these are left
  abbrev pub GoesOn : List Record → List Record → List ℕ → X → List ℕ → X → Type 0
  GoesOn whole left first_counts first counts now = (all rest : List Record) (base : B)
      → Going all (whole ++ rest) base first_counts first
      → Going all (left ++ rest) base counts now

  pub goes_at_first : (whole left : List Record) (counts : List ℕ) (now : X) → whole ≡ left
      → GoesOn whole left counts now counts now
  goes_at_first whole left counts now same = λ all rest base so.
      subst (λ (l : List Record). Going all (l ++ rest) base counts now) same so

  module _ (whole left : List Record) {first_counts counts : List ℕ} {first now : X}
      (so_far : GoesOn whole left first_counts first counts now)
      (part after : List Record) (step : left ≡ part ++ after) where
    parted : (all rest : List Record) (base : B)
        → Going all (whole ++ rest) base first_counts first
        → Going all (part ++ (after ++ rest)) base counts now
    parted all rest base so =
        subst (λ (l : List Record). Going all l base counts now)
        (ap (λ (l : List Record). l ++ rest) step ∙ append_assoc part after rest)
        (so_far all rest base so)

    pub next_part : ComeNext Going whole first_counts first → ComeNext Going part counts now
    next_part next = record {
      all = next.all;
      rest = after ++ next.rest;
      base = next.base;
      going = parted next.all next.rest next.base next.going;
    }

    -- the part was passed
    pub goes_part : (later : List ℕ) (new : X)
        → ((all rest : List Record) (base : B) → Going all (part ++ rest) base counts now
        → Going all rest base later new)
        → GoesOn whole after first_counts first later new
    goes_part later new passed = λ all rest base so.
        passed all (after ++ rest) base (parted all rest base so)

    -- or there was no room for it
    pub stops_part : (Full : List Record → B → Type 0)
        → ((all rest : List Record) (base : B) → Going all (part ++ rest) base counts now
        → Full all base)
        → (all rest : List Record) (base : B) → Going all (whole ++ rest) base first_counts first
        → Full all base
    stops_part Full full = λ all rest base so.
        full all (after ++ rest) base (parted all rest base so)
