-- What the tables know of the log sectors at the units' places.
use Rattle.std.proofs.Common.{◌≡◌, ◌≢◌, ℕ, ◌<◌, ◌≤◌, None, inl, inr, refl, ap, arith}
use Rattle.std.proofs.lemmas.Bool.{cases_lt, lt-ltb, le-ltb}
use Rattle.ipl_format.specs.Sector.{Sector}
use Rattle.ipl_meaning.specs.Chart.{Chart}
use Rattle.ipl_meaning.specs.Layout.{Layout, IsMark}
use Rattle.ipl_meaning.specs.Steps.{NoMarkHas}
use Rattle.ipl_meaning.specs.Tables.{Tables, counted_written, unmarked_written, written_of}
use Rattle.ipl_meaning.specs.Mirrors.{MirrorsLogs}

-- so many are written as are said, where no mark counts
pub counted_few : (written : ℕ) → written ≤ 15 → counted_written written ≡ written
counted_few written few = rw (lt-ltb written 16 (omega (arith, few))) refl

-- all are where nothing is known
pub counted_unknown : (written : ℕ) → 32 ≤ written → counted_written written ≡ 15
counted_unknown written unknown = rw (le-ltb written 16 (omega (arith, unknown)), le-ltb written 32 unknown) refl

-- where nothing is known, the end of marks changes nothing
unmarked_unknown : (written : ℕ) → 32 ≤ written → unmarked_written written ≡ written
unmarked_unknown written unknown = rw (le-ltb written 16 (omega (arith, unknown)), le-ltb written 32 unknown) refl

-- as many count as written once no mark counts
pub counted_unmarked : (written : ℕ) → counted_written (unmarked_written written) ≡ counted_written written
counted_unmarked written = elim (cases_lt written 16) [
  | inl known ↦ rw (lt-ltb written 16 known, lt-ltb written 16 known) refl
  | inr more ↦ elim (cases_lt written 32) [
    | inl marked ↦ rw (le-ltb written 16 more, lt-ltb written 32 marked) (counted_few _ (omega (arith, marked)))
    | inr unknown ↦ ap counted_written (unmarked_unknown written unknown)
  ]
]

-- and where something is known then, it was before
pub unmarked_known : (written : ℕ) → unmarked_written written < 32 → written < 32
unmarked_known written known = elim (cases_lt written 32) [
  | inl less ↦ less
  | inr unknown ↦ absurd (omega (arith, known, unmarked_unknown written unknown, unknown))
]

-- where each mark was there before
module _ (c y : Chart) (it jt : Layout)
    (back : (s : ℕ) (mark : Sector) → IsMark y jt.status jt.head.generation s mark → IsMark c it.status it.head.generation s mark) where
  -- a unit that no mark had has none, if it has the same header
  pub unmarked_still : (u : ℕ) → (jt.units u).head ≡ (it.units u).head → NoMarkHas c it u → NoMarkHas y jt u
  unmarked_still u same none s mark w has = rw same (none s mark (back s mark w) has)

  -- where all units stand where they did, and each log sector there that checked does still
  module _ (count : jt.count ≡ it.count) (homes : (u : ℕ) → (jt.units u).home ≡ (it.units u).home)
      (heads : (u : ℕ) → (jt.units u).head ≡ (it.units u).head)
      (some : (u n : ℕ) → u < it.count → c (it.units u).home n ≢ None → y (it.units u).home n ≢ None) where
    -- what was known of the log sectors is known
    pub logs_still : (t after : Tables) → ((u : ℕ) → written_of after u ≡ written_of t u) → MirrorsLogs c it t → MirrorsLogs y jt after
    logs_still t after written was = record {
      unmarked = λ u low first. unmarked_still u (heads u) (was.unmarked u (rw count at low) (rw (written u) at first));
      whole = λ u n low known least most.
          let there = was.whole u n (rw count at low) (rw (written u) at known) least (rw (written u) at most) in
          rw (homes u) (some u n (rw count at low) there);
    }
