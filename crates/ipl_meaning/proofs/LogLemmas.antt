-- What an opening knows of the log sectors at the units' places.
use Rattle.std.proofs.Common.{◌≡◌, ◌≢◌, ℕ, ◌<◌, ◌≤◌, ◌+◌, None, inl, inr, arith}
use Rattle.std.proofs.lemmas.Bool.{lt-ltb, le-ltb}
use Rattle.ipl_meaning.proofs.KnownLogLemmas.{counted_unknown}
use Rattle.ipl_meaning.specs.Chart.{Chart}
use Rattle.ipl_meaning.specs.Tables.{counted_written}
use Rattle.ipl_meaning.specs.Chosen.{current_at}
use Rattle.ipl_meaning.specs.LaidOut.{place_of}
use Rattle.ipl_meaning.specs.Opened.{IsOpenedLog}

-- so many are written as a mark says
pub counted_marked : (written count : ℕ) → written ≡ 16 + count → count ≤ 15 → counted_written written ≡ count
counted_marked written count is few =
    rw (le-ltb written 16 (omega (arith, is)), lt-ltb written 32 (omega (arith, is, few))) (omega (arith, is))

module _ (places : ℕ) (c : Chart) (u written : ℕ) where
  abbrev home : ℕ
  home = place_of (current_at c places u)

  -- none of them may be written yet
  pub opened_beyond : IsOpenedLog places c u written → 256 ≤ 241 + written
  opened_beyond (inl unknown) = omega (arith, unknown)
  opened_beyond (inr (marked, it)) = let says = it.says in omega (arith, says)

  -- those that count as written check, where something is known
  pub opened_whole : IsOpenedLog places c u written → (n : ℕ) → written < 32 → 241 ≤ n
      → n < 241 + counted_written written → c home n ≢ None
  opened_whole (inl unknown) n known least most = absurd (omega (arith, unknown, known))
  opened_whole (inr (marked, it)) n known least most =
      let counted = counted_marked written it.count it.says it.few in
      it.whole n least (omega (arith, most, counted))

  -- and those that count as clean don't
  pub opened_clean : IsOpenedLog places c u written → (n : ℕ) → 241 + counted_written written ≤ n → n < 256
      → c home n ≡ None
  opened_clean (inl unknown) n least most =
      let counted = counted_unknown written (omega (arith, unknown)) in
      absurd (omega (arith, least, most, counted))
  opened_clean (inr (marked, it)) n least most =
      let counted = counted_marked written it.count it.says it.few in
      it.others n (omega (arith, least, counted)) most
