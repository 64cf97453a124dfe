-- Calls that read each sector at most once, one after another.
use Rattle.std.proofs.Common.{◌≡◌, ◌≤◌, ◌+◌, ◌&&◌, eqb, ℕ, zero, suc, [], ◌∷◌, ◌++◌, Result, Ok, Err, inl, inr, refl, sym, ◌∙◌, ap, arith}
use Rattle.std.specs.Option.{option_map}
use Rattle.std.specs.List.{All}
use Rattle.std.proofs.lemmas.Bool.{cases_Bool, and_parts, eqb-true}
use Rattle.std.proofs.lemmas.List.Elements.{All-nil, All-cons, All-head, All-tail, All-append, All-weaker}
use Rattle.chip_trait.specs.declared.event.Event.{Event}
use Rattle.chip_trait.specs.declared.event.Event.TheVariants.{Read, Program, Erase, Worn, Barrier, Said}
use Rattle.chip_trait.specs.Story.{Story}
use Rattle.chip_trait.specs.Told.{Told, adds_all}
use Rattle.ipl_base.specs.declared.fault.ChipFault.{ChipFault}
use Rattle.unit_io.specs.Reads.{Asked}
use Rattle.unit_io.specs.ReadsAt.{IsReadAt, reads_of, ReadsOnce}
use Rattle.unit_io.proofs.ReadsAtLemmas.{none_added, history_then}

-- ---- counts of reads

pub reads_joined : (later earlier : Story) (p s : ℕ)
    → reads_of (later ++ earlier) p s ≡ reads_of later p s + reads_of earlier p s
reads_joined [] earlier p s = omega arith
reads_joined (Read q t ∷ later) earlier p s =
    let rest = reads_joined later earlier p s in elim (cases_Bool (eqb q p && eqb t s)) [
      | inl is ↦ rw is (omega (arith, rest))
      | inr not ↦ rw not rest
    ]
reads_joined (Program q t bytes ∷ later) earlier p s = reads_joined later earlier p s
reads_joined (Erase q ∷ later) earlier p s = reads_joined later earlier p s
reads_joined (Barrier ∷ later) earlier p s = reads_joined later earlier p s
reads_joined (Worn q ∷ later) earlier p s = reads_joined later earlier p s
reads_joined (Said piece ∷ later) earlier p s = reads_joined later earlier p s

-- a sector that was read is one of these
was_read : (At : ℕ → ℕ → Type 0) (added : Story) (p s : ℕ) → All (IsReadAt At) added
    → 1 ≤ reads_of added p s → At p s
was_read At [] p s each some = absurd (omega (arith, some))
was_read At (Read q t ∷ added) p s each some = elim (cases_Bool (eqb q p && eqb t s)) [
  | inl is ↦
      let parts = and_parts (eqb q p) (eqb t s) is in
      let place : q ≡ p = eqb-true q p parts.0 in
      let sector : t ≡ s = eqb-true t s parts.1 in
      let here : At q t = All-head (IsReadAt At) (Read q t) added each in
      rw (sym place, sym sector) here
  | inr not ↦ was_read At added p s (All-tail (IsReadAt At) (Read q t) added each) (rw not at some)
]
was_read At (Program q t bytes ∷ added) p s each some =
    absurd (All-head (IsReadAt At) (Program q t bytes) added each)
was_read At (Erase q ∷ added) p s each some = absurd (All-head (IsReadAt At) (Erase q) added each)
was_read At (Barrier ∷ added) p s each some = absurd (All-head (IsReadAt At) Barrier added each)
was_read At (Worn q ∷ added) p s each some =
    absurd (All-head (IsReadAt At) (Worn q) added each)
was_read At (Said piece ∷ added) p s each some =
    absurd (All-head (IsReadAt At) (Said piece) added each)

-- where two parts read other sectors, each is read at most once in both
once_both : (A B : ℕ → ℕ → Type 0) (later earlier : Story) → ((p s : ℕ) → A p s → B p s → ⊥)
    → All (IsReadAt A) earlier → All (IsReadAt B) later
    → ((p s : ℕ) → reads_of earlier p s ≤ 1) → ((p s : ℕ) → reads_of later p s ≤ 1)
    → (p s : ℕ) → reads_of (later ++ earlier) p s ≤ 1
once_both A B later earlier apart first second one two p s =
    by_counts (reads_of earlier p s) (reads_of later p s) refl refl
  where
    by_counts : (n m : ℕ) → reads_of earlier p s ≡ n → reads_of later p s ≡ m
        → reads_of (later ++ earlier) p s ≤ 1
    by_counts zero m none is = omega (arith, reads_joined later earlier p s, none, two p s)
    by_counts (suc n) zero is none = omega (arith, reads_joined later earlier p s, none, one p s)
    by_counts (suc n) (suc m) is also = absurd (apart p s
        (was_read A earlier p s first (omega (arith, is)))
        (was_read B later p s second (omega (arith, also))))

-- ---- calls

pub once_none : (At : ℕ → ℕ → Type 0) (t : Told) → ReadsOnce At t t
once_none At t = record {
  added = [];
  each = All-nil (IsReadAt At);
  once = λ p s. omega arith;
  history = none_added t.history;
}

still_at : (At More : ℕ → ℕ → Type 0) → ((p s : ℕ) → At p s → More p s) → (e : Event)
    → IsReadAt At e → IsReadAt More e
still_at At More wider (Read p s) is = wider p s is
still_at At More wider (Program p s bytes) is = is
still_at At More wider (Erase p) is = is
still_at At More wider Barrier is = is
still_at At More wider (Worn q) is = is
still_at At More wider (Said piece) is = is

pub once_wider : (At More : ℕ → ℕ → Type 0) (old new : Told) → ((p s : ℕ) → At p s → More p s)
    → ReadsOnce At old new → ReadsOnce More old new
once_wider At More old new wider did = record {
  added = did.added;
  each = All-weaker (IsReadAt At) (IsReadAt More) (still_at At More wider) did.added did.each;
  once = did.once;
  history = did.history;
}

-- one call, and then another that reads other sectors
pub once_then : (A B All_of : ℕ → ℕ → Type 0) (old mid new : Told) → ((p s : ℕ) → A p s → B p s → ⊥)
    → ((p s : ℕ) → A p s → All_of p s) → ((p s : ℕ) → B p s → All_of p s)
    → ReadsOnce A old mid → ReadsOnce B mid new → ReadsOnce All_of old new
once_then A B All_of old mid new apart a b first second = record {
  added = second.added ++ first.added;
  each = All-append (IsReadAt All_of) second.added first.added
      (All-weaker (IsReadAt B) (IsReadAt All_of) (still_at B All_of b) second.added second.each)
      (All-weaker (IsReadAt A) (IsReadAt All_of) (still_at A All_of a) first.added first.each);
  once = once_both A B second.added first.added apart first.each second.each first.once second.once;
  history = second.history ∙ ap (option_map (adds_all second.added)) first.history
      ∙ history_then second.added first.added old.history;
}

one_read : (p s q t : ℕ) → reads_of (Read p s ∷ []) q t ≤ 1
one_read p s q t = elim (cases_Bool (eqb p q && eqb s t)) [
  | inl is ↦ rw is (omega arith)
  | inr not ↦ rw not (omega arith)
]

-- one read, done or not
pub once_asked : {T : Type 0} (At : ℕ → ℕ → Type 0) (p s : ℕ) (result : Result T ChipFault)
    (old new : Told) → At p s → Asked (Read p s) result old new → ReadsOnce At old new
once_asked At p s (Ok v) old new is did = record {
  added = Read p s ∷ [];
  each = All-cons (IsReadAt At) (Read p s) [] is (All-nil (IsReadAt At));
  once = one_read p s;
  history = did.history;
}
once_asked At p s (Err e) old new is did = elim did.history [
  | inl some ↦ record {
    added = Read p s ∷ [];
    each = All-cons (IsReadAt At) (Read p s) [] is (All-nil (IsReadAt At));
    once = one_read p s;
    history = some;
  }
  | inr same ↦ record {
    added = [];
    each = All-nil (IsReadAt At);
    once = λ q t. omega arith;
    history = same ∙ none_added old.history;
  }
]
