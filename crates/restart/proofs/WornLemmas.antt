-- After a format no place of the chip is worn, and what stands outside the chip counts for nothing.
use Rattle.std.proofs.Common.{◌≡◌, ℕ, zero, suc, ◌<◌, ◌≤◌, ◌++◌, true, false, inl, inr, refl, sym, ◌∙◌, arith}
use Rattle.std.proofs.lemmas.Bool.{cases_eq, cases_lt, eq-eqb, ne_eqb, and_right, false≢true}
use Rattle.chip_trait.specs.declared.event.Event.TheVariants.{Erase}
use Rattle.chip_trait.specs.Story.{Story}
use Rattle.chip_trait.specs.Image.{is_sound, is_worn}
use Rattle.chip_trait.specs.Told.{History, adds_all}
use Rattle.ipl_meaning.specs.Chart.{Chart}
use Rattle.ipl_meaning.specs.Layout.{Layout, Laid}
use Rattle.ipl_meaning.specs.Rests.{now, WornAreIdle}
use Rattle.ipl_meaning.specs.Steps.{IsIdle}
use Rattle.restart.specs.Events.{each_below, header_event, clearing_events, format_events}

-- ---- within the chip

-- each place was erased
sound_erases : (story : Story) (n p : ℕ) → p < n → is_sound (each_below Erase n ++ story) p ≡ true
sound_erases story zero p low = absurd (omega arith)
sound_erases story (suc k) p low = elim (cases_eq k p) [
  | inl here ↦ rw (eq-eqb k p here) refl
  | inr apart ↦ rw (ne_eqb k p apart) (sound_erases story k p (omega arith))
]

-- and a barrier came after
mended : (places units : ℕ) (story : Story) (k p : ℕ) → p < places → is_worn ((each_below (header_event units) k ++ clearing_events places) ++ story) p ≡ false
mended places units story zero p low = rw (sound_erases story places p low) (and_right (is_worn (each_below Erase places ++ story) p) false refl)
mended places units story (suc k) p low = mended places units story k p low

none_worn : (places units : ℕ) (story : Story) (p : ℕ) → p < places → is_worn (format_events places units ++ story) p ≡ false
none_worn places units story p low = rw (mended places units story units p low) refl

-- ---- outside it

outside_is_idle : (places : ℕ) (c : Chart) (it : Layout) (p : ℕ) → Laid places c it → places ≤ p → IsIdle places c it p
outside_is_idle places c it p laid above = record {
  not_status = λ is. let within = laid.chosen.within in omega (arith, is, within, above);
  not_home = λ u low is. let within = (laid.each u low).chosen.within in omega (arith, is, within, above);
  no_live = λ u low s sector live. let within = live.within.0 in omega (arith, within, above);
}

-- after a format, whatever was worn before
pub worn_are_idle : (places units : ℕ) (h : History) → WornAreIdle places (format_events places units ++ h.story) (now (adds_all (format_events places units) h))
worn_are_idle places units h it laid p worn = elim (cases_lt p places) [
  | inl low ↦ absurd (false≢true (sym (none_worn places units h.story p low) ∙ worn))
  | inr above ↦ outside_is_idle places (now (adds_all (format_events places units) h)) it p laid above
]
