-- Whether a page is that of a name which one of some sessions wrote.
use Rattle.std.proofs.Common.{◌≡◌, ℕ, ◌+◌, ◌<◌, ◌||◌, Bool, true, false, List, drop, length, get_or, ◌∙◌, ap}
use Rattle.std.proofs.lemmas.List.{drop_more}
use Rattle.std.proofs.lemmas.List.Folds.{list_any-append}
use Rattle.record_locks.specs.Held.{SessionSlots, written_of, written_by}
use Rattle.page_frames.specs.Changed.{is_home, is_on_page}

module _ (slots : SessionSlots) (ss : List ℕ) (i u page : ℕ) (within : i < length ss) where
  -- the names of the next session, and then those of the others
  next_parts : is_on_page (written_by slots (drop i ss)) u page
      ≡ (is_on_page (written_of slots (get_or ss i 0)) u page
      || is_on_page (written_by slots (drop (i + 1) ss)) u page)
  next_parts =
      ap (λ (l : List ℕ). is_on_page (written_by slots l) u page) (drop_more ss i 0 within)
      ∙ list_any-append (is_home u page) (written_of slots (get_or ss i 0))
      (written_by slots (drop (i + 1) ss))

  -- one of its names is there
  pub next_on : is_on_page (written_of slots (get_or ss i 0)) u page ≡ true
      → is_on_page (written_by slots (drop i ss)) u page ≡ true
  next_on on = next_parts
      ∙ ap (λ (b : Bool). b || is_on_page (written_by slots (drop (i + 1) ss)) u page) on

  -- none of them is
  pub next_off : is_on_page (written_of slots (get_or ss i 0)) u page ≡ false
      → is_on_page (written_by slots (drop i ss)) u page
      ≡ is_on_page (written_by slots (drop (i + 1) ss)) u page
  next_off off = next_parts
      ∙ ap (λ (b : Bool). b || is_on_page (written_by slots (drop (i + 1) ss)) u page) off
