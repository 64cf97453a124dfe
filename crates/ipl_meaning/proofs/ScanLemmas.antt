-- One sector more, by its place and its number there.
use Rattle.std.proofs.Common.{◌≡◌, ℕ, ◌+◌, ◌*◌, ◌/◌, ◌%◌, ◌<◌, Option, max, sym, ◌∙◌, ap, ap₂, arith}
use Rattle.std.specs.Option.{option_map}
use Rattle.ipl_format.specs.Sector.{Sector}
use Rattle.ipl_meaning.specs.Chart.{Chart}
use Rattle.ipl_meaning.specs.First.{with_one}
use Rattle.ipl_meaning.specs.Chosen.{KeptHeader, Winner}
use Rattle.ipl_meaning.specs.Live.{kept, seen, seen_at, is_live, live_at, mark_of, mark_at, marks}
use Rattle.ipl_meaning.specs.Faults.{log_test, log_fault, log_number, greatest_of_logs}
use Rattle.ipl_meaning.proofs.FirstLemmas.{all_step, greatest_step}

pub place_is : (p s : ℕ) → s < 256 → (p * 256 + s) / 256 ≡ p
place_is p s below = omega arith

pub number_is : (p s : ℕ) → s < 256 → (p * 256 + s) % 256 ≡ s
number_is p s below = omega arith

module _ (heads : ℕ → Option KeptHeader) (current : ℕ → Option Winner) (c : Chart) (p s : ℕ) (below : s < 256) (o : Option Sector) (is : o ≡ seen heads current c p s) where
  -- the log sector that stands there
  pub seen_here : seen_at heads current c (p * 256 + s) ≡ o
  seen_here = ap₂ (λ (q t : ℕ). seen heads current c q t) (place_is p s below) (number_is p s below) ∙ sym is

  -- where it is live
  pub live_here : live_at heads current c (p * 256 + s) ≡ kept (is_live heads current p) o
  live_here = ap₂ (λ (q : ℕ) (x : Option Sector). kept (is_live heads current q) x) (place_is p s below) seen_here

  -- its fault, after the marks before it
  pub fault_here : log_fault heads current c (p * 256 + s) ≡ log_test heads (marks heads current c (p * 256 + s)) (p * 256 + s) (kept (is_live heads current p) o)
  fault_here = ap (log_test heads (marks heads current c (p * 256 + s)) (p * 256 + s)) live_here

  -- the marks with its own
  pub marks_more : marks heads current c (p * 256 + s + 1)
      ≡ with_one (marks heads current c (p * 256 + s)) (option_map (mark_of heads (p * 256 + s)) (kept (is_live heads current p) o))
  marks_more = all_step (mark_at heads current c) (p * 256 + s)
      ∙ ap (λ (x : Option Sector). with_one (marks heads current c (p * 256 + s)) (option_map (mark_of heads (p * 256 + s)) x)) live_here

  -- the greatest number with its own
  pub greatest_more : (least : ℕ) → greatest_of_logs least heads current c (p * 256 + s + 1) ≡ max (greatest_of_logs least heads current c (p * 256 + s)) (log_number o)
  greatest_more least = greatest_step least (λ j. log_number (seen_at heads current c j)) (p * 256 + s)
      ∙ ap (λ (x : Option Sector). max (greatest_of_logs least heads current c (p * 256 + s)) (log_number x)) seen_here
