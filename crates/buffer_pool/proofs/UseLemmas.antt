-- When pages were used: what the clock counted, and which page was used last.
use Rattle.std.proofs.Common.{true, ◌≡◌, ◌≢◌, ◌≤◌, ◌+◌, ◌&&◌, ℕ, eqb, min, Option, Some, None, IsSome, refl, sym, ◌∙◌, ap, ap₂, subst, inl, inr, arith}
use Rattle.std.specs.Option.{option_map}
use Rattle.std.proofs.lemmas.Bool.{cases_Bool, cases_eq, eqb-true, eq-eqb, and_parts, false≢true}
use Rattle.std.proofs.Math.Path.{fun_ext}
use Rattle.slab.specs.Slab.{Slab, get, Updates}
use Rattle.buffer_pool.specs.declared.pool.Buffer.{Buffer}
use Rattle.buffer_pool.specs.Pools.{PoolView, HasPage, AreOnce, IsUsedBefore, AreBefore, with_buffers, new_buffer}
use Rattle.buffer_pool.specs.Lending.{changed_at}
use Rattle.buffer_pool.specs.Laws.{buffer_of, with_buffer}
use Rattle.buffer_pool.specs.Holding.{IsHeld, IsSamePage}
use Rattle.buffer_pool.specs.Uses.{used_of, IsUsedLast, CountsNoOther, ChangesKeepUses, LoansKeepUses, BringsCountNoOther, ChangesCountNoOther, EvictionsCountNoUse, KeptUsesAreLast, VictimsAreUsedFirst}
use Rattle.buffer_pool.proofs.IndexLemmas.{some_is, no_some}
use Rattle.buffer_pool.proofs.BufferLemmas.{buffers_are_told, buffer_found, brings_add_a_buffer, evicts_take_a_buffer, pins_change_a_buffer, loans_change_a_buffer}

-- ---- the clock

later : (used clock : ℕ) → used ≤ clock → clock ≤ 18446744073709551615
    → IsUsedBefore used (min (clock + 1) 18446744073709551615)
later used clock low end = record {
  past = omega (arith, low, end);
  apart = λ more. omega (arith, low, more);
}

-- with one buffer written all uses are before a time
before_at : (old new : Slab Buffer) (key now : ℕ) (slot : Option Buffer) → Updates old new key slot
    → AreBefore old now → ((b : Buffer) → slot ≡ Some b → IsUsedBefore b.used now) → AreBefore new now
before_at old new key now slot did others here k b stored = elim (cases_eq k key) [
  | inl same ↦ here b (sym did.changed ∙ ap (get new) (sym same) ∙ stored)
  | inr other ↦ others k b (sym (did.others k other) ∙ stored)
]

before_as : (now used : ℕ) (b c : Buffer) → IsUsedBefore used now → b.used ≡ used → Some b ≡ Some c
    → IsUsedBefore c.used now
before_as now used b c is same one =
    subst (λ (u : ℕ). IsUsedBefore u now)
    (sym same ∙ ap (λ (e : Buffer). e.used) (some_is b c one)) is

-- no use is counted
pub before_kept : (old new : Slab Buffer) (key clock : ℕ) (was now : Buffer) → AreBefore old clock
    → get old key ≡ Some was → Updates old new key (Some now) → now.used ≡ was.used
    → AreBefore new clock
before_kept old new key clock was now before there did same =
    before_at old new key clock (Some now) did before
    (λ b is. before_as clock was.used now b (before key was there) same is)

pub before_removed : (old new : Slab Buffer) (key clock : ℕ) → AreBefore old clock
    → Updates old new key None → AreBefore new clock
before_removed old new key clock before did =
    before_at old new key clock None did before (λ b is. absurd (no_some b is))

-- one is
pub before_used : (old new : Slab Buffer) (key clock : ℕ) (now : Buffer) → AreBefore old clock
    → clock ≤ 18446744073709551615 → Updates old new key (Some now) → now.used ≡ clock
    → AreBefore new (min (clock + 1) 18446744073709551615)
before_used old new key clock now before end did same =
    before_at old new key (min (clock + 1) 18446744073709551615) (Some now) did
    (λ k b stored.
    let is = before k b stored in
    later b.used clock is.past end)
    (λ b is.
    before_as (min (clock + 1) 18446744073709551615) clock now b
    (later clock clock (omega arith) end) same is)

-- ---- the page used last

-- when a page's buffer was used
used_is : (p : PoolView) (v q other : ℕ) (b : Buffer) → buffer_of p.buffers v q ≡ Some b
    → used_of p v q ≡ Some other → b.used ≡ other
used_is p v q other b found is =
    some_is b.used other (sym (ap (option_map (λ (e : Buffer). e.used)) found) ∙ is)

used_none : (p : PoolView) (v q other : ℕ) → buffer_of p.buffers v q ≡ None
    → used_of p v q ≡ Some other → ⊥
used_none p v q other none is =
    no_some other (sym (ap (option_map (λ (e : Buffer). e.used)) none) ∙ is)

-- the one whose buffer was used now
pub used_last : (old : Slab Buffer) (new : PoolView) (unit page key clock : ℕ) (now : Buffer)
    → AreOnce new.buffers → AreBefore old clock → Updates old new.buffers key (Some now)
    → now.unit ≡ unit → now.page ≡ page → now.used ≡ clock → IsUsedLast new unit page
used_last old new unit page key clock now once before did unit_is page_is same = record {
  used = clock;
  there = ap (option_map (λ (e : Buffer). e.used))
      ((buffers_are_told new.buffers once).found unit page key now did.changed unit_is page_is)
      ∙ ap Some same;
  last = λ v q other apart is. by_buffer v q other apart is (buffer_of new.buffers v q) refl;
}
  where
    by_buffer : (v q other : ℕ) → ((v ≡ unit) × (q ≡ page) → ⊥) → used_of new v q ≡ Some other
        → (o : Option Buffer) → buffer_of new.buffers v q ≡ o → IsUsedBefore other clock
    by_buffer v q other apart is None none = absurd (used_none new v q other none is)
    by_buffer v q other apart is (Some b) found =
        let (k, stored, of_unit, of_page) =
        (buffers_are_told new.buffers once).stands v q b found in
        let differs : k ≢ key = λ here.
        let one : now ≡ b =
        some_is now b (sym did.changed ∙ ap (get new.buffers) (sym here) ∙ stored) in
        absurd (apart (
          sym of_unit ∙ ap (λ (e : Buffer). e.unit) (sym one) ∙ unit_is,
          sym of_page ∙ ap (λ (e : Buffer). e.page) (sym one) ∙ page_is,
        )) in
        subst (λ (u : ℕ). IsUsedBefore u clock) (used_is new v q other b found is)
        (before k b (sym (did.others k differs) ∙ stored))

-- ---- calls that count no use

there_is : (o : Option Buffer) → IsSome o → (b : Buffer) × (o ≡ Some b)
there_is None is = absurd (false≢true is)
there_is (Some b) is = (b, refl)

-- where a page's buffer is another that was used when it was
uses_with : (old new : PoolView) (u page : ℕ) (was now : Buffer)
    → buffer_of old.buffers u page ≡ Some was → now.used ≡ was.used
    → buffer_of new.buffers ≡ with_buffer (buffer_of old.buffers) u page (Some now)
    → used_of new ≡ used_of old
uses_with old new u page was now there same is =
    fun_ext (λ v. fun_ext (λ q.
    ap (λ (buffers : ℕ → ℕ → Option Buffer). option_map (λ (e : Buffer). e.used) (buffers v q)) is
    ∙ seen v q))
  where
    seen : (v q : ℕ) → option_map (λ (e : Buffer). e.used)
        (with_buffer (buffer_of old.buffers) u page (Some now) v q) ≡ used_of old v q
    seen v q = elim (cases_Bool (eqb v u && eqb q page)) [
      | inl here ↦
          let (unit, of) = and_parts _ _ here in
          rw here (ap Some same
          ∙ sym (ap₂ (used_of old) (eqb-true v u unit) (eqb-true q page of)
          ∙ ap (option_map (λ (e : Buffer). e.used)) there))
      | inr other ↦ rw other refl
    ]

pub changes_keep_uses : ChangesKeepUses
changes_keep_uses old new key change once some same did =
    let (was, there) = there_is (get old.buffers key) some in
    uses_with old new was.unit was.page was (change was)
    ((buffers_are_told old.buffers once).found was.unit was.page key was there refl refl)
    (same was).used
    (pins_change_a_buffer old.buffers new.buffers key change was once there (same was).page did)

pub loans_keep_uses : LoansKeepUses
loans_keep_uses p key change once some same =
    let (was, there) = there_is (get p.buffers key) some in
    uses_with p (with_buffers p (changed_at p.buffers key change)) was.unit was.page was (change was)
    ((buffers_are_told p.buffers once).found was.unit was.page key was there refl refl)
    (same was).used (loans_change_a_buffer p.buffers key change was once there (same was).page)

-- ---- calls that count no use of another page

-- where the one page's buffer is another
used_elsewhere : (old new : PoolView) (u page : ℕ) (o : Option Buffer)
    → buffer_of new.buffers ≡ with_buffer (buffer_of old.buffers) u page o → (v q : ℕ)
    → (IsSamePage u page v q → ⊥) → used_of new v q ≡ used_of old v q
used_elsewhere old new u page o is v q apart =
    ap (λ (buffers : ℕ → ℕ → Option Buffer). option_map (λ (e : Buffer). e.used) (buffers v q)) is
    ∙ seen
  where
    seen : option_map (λ (e : Buffer). e.used) (with_buffer (buffer_of old.buffers) u page o v q)
        ≡ used_of old v q
    seen = elim (cases_Bool (eqb v u && eqb q page)) [
      | inl here ↦
          let (unit, of) = and_parts _ _ here in
          absurd (apart (eqb-true v u unit, eqb-true q page of))
      | inr other ↦ rw other refl
    ]

pub brings_count_no_other : BringsCountNoOther
brings_count_no_other old new unit page key clock once absent empty did v q used apart is =
    sym (used_elsewhere old new unit page (Some (new_buffer unit page clock))
    (brings_add_a_buffer old.buffers new.buffers unit page key clock once absent empty did) v q apart)
    ∙ is

pub changes_count_no_other : ChangesCountNoOther
changes_count_no_other old new unit page key change once has same did v q used apart is =
    let was = has.buffer in
    sym (used_elsewhere old new was.unit was.page (Some (change was))
    (pins_change_a_buffer old.buffers new.buffers key change was once has.stored (same was) did) v q
    (λ this. apart (this.0 ∙ has.unit_is, this.1 ∙ has.page_is)))
    ∙ is

pub evictions_count_no_use : EvictionsCountNoUse
evictions_count_no_use old new unit page key once has did v q used is =
    elim (cases_Bool (eqb v unit && eqb q page)) [
      | inl here ↦
          let gone = ap (λ (buffers : ℕ → ℕ → Option Buffer). buffers v q) taken
          ∙ with_none (buffer_of old.buffers) v q here in
          absurd (used_none new v q used gone is)
      | inr other ↦
          sym (used_elsewhere old new unit page None taken v q (λ this. absurd (false≢true
          (sym other ∙ both v q (eq-eqb v unit this.0) (eq-eqb q page this.1)))))
          ∙ is
    ]
  where
    taken : buffer_of new.buffers ≡ with_buffer (buffer_of old.buffers) unit page None
    taken = evicts_take_a_buffer old.buffers new.buffers unit page key once has did

    with_none : (f : ℕ → ℕ → Option Buffer) (v q : ℕ) → (eqb v unit && eqb q page) ≡ true
        → with_buffer f unit page None v q ≡ None
    with_none f v q here = rw here refl

    both : (v q : ℕ) → eqb v unit ≡ true → eqb q page ≡ true → (eqb v unit && eqb q page) ≡ true
    both v q one two = rw (one, two) refl

-- where no use is counted none of another page is
pub same_counts : (u page : ℕ) (old new : PoolView) → used_of new ≡ used_of old
    → CountsNoOther u page old new
same_counts u page old new same v q used apart is =
    ap (λ (uses : ℕ → ℕ → Option ℕ). uses v q) (sym same) ∙ is

pub kept_uses_are_last : KeptUsesAreLast
kept_uses_are_last old new unit page same is = record {
  used = is.used;
  there = ap (λ (uses : ℕ → ℕ → Option ℕ). uses unit page) same ∙ is.there;
  last = λ v q other apart now.
      is.last v q other apart (ap (λ (uses : ℕ → ℕ → Option ℕ). uses v q) (sym same) ∙ now);
}

-- ---- the page used first

pub victims_are_used_first : VictimsAreUsedFirst
victims_are_used_first p unit page once (full, used, oldest) =
    let has : HasPage p.buffers unit page oldest.key = record {
      buffer = oldest.buffer;
      stored = oldest.stored;
      unit_is = oldest.unit_is;
      page_is = oldest.page_is;
    } in record {
      used = used;
      there = ap (option_map (λ (e : Buffer). e.used))
          (buffer_found p.buffers unit page oldest.key oldest.buffer once oldest.stored has)
          ∙ ap Some oldest.used_is;
      unheld = λ h.
          let here = once unit page h.key oldest.key (record {
            buffer = h.buffer;
            stored = h.stored;
            unit_is = h.unit_is;
            page_is = h.page_is;
          }) has in
          let one : h.buffer ≡ oldest.buffer = some_is h.buffer oldest.buffer
          (sym h.stored ∙ ap (get p.buffers) here ∙ oldest.stored) in
          let pinned = h.pinned in
          let none = oldest.unpinned in
          absurd (omega (arith, pinned, none, ap (λ (e : Buffer). e.pins) one));
      first = λ v q other free is. by_buffer v q other free is (buffer_of p.buffers v q) refl;
    }
  where
    pins_none : (v q k : ℕ) (b : Buffer) → (IsHeld p.buffers v q → ⊥) → get p.buffers k ≡ Some b
        → b.unit ≡ v → b.page ≡ q → b.pins ≡ 0
    pins_none v q k b free stored of_unit of_page = elim (cases_eq b.pins 0) [
      | inl none ↦ none
      | inr some ↦ absurd (free (record {
        key = k;
        buffer = b;
        stored = stored;
        unit_is = of_unit;
        page_is = of_page;
        pinned = omega (arith, some);
      }))
    ]

    by_buffer : (v q other : ℕ) → (IsHeld p.buffers v q → ⊥) → used_of p v q ≡ Some other
        → (o : Option Buffer) → buffer_of p.buffers v q ≡ o → used ≤ other
    by_buffer v q other free is None none = absurd (used_none p v q other none is)
    by_buffer v q other free is (Some b) found =
        let (k, stored, of_unit, of_page) =
        (buffers_are_told p.buffers once).stands v q b found in
        let least = oldest.oldest k b stored (pins_none v q k b free stored of_unit of_page) in
        omega (arith, least, used_is p v q other b found is)
