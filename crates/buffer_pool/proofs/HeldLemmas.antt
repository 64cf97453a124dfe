-- A hold and its end, and whether a page is held.
use Rattle.std.proofs.Common.{◌≡◌, ◌≢◌, ◌≤◌, ◌<◌, ◌+◌, ◌↔◌, ℕ, zero, suc, Bool, false, not, cond, ltb, eqb, Some, IsTrue, refl, sym, ◌∙◌, ap, subst, inl, inr, arith}
use Rattle.std.proofs.lemmas.Bool.{cases_eq, lt-ltb, ne_eqb, false≢true}
use Rattle.slab.specs.Slab.{Slab, get}
use Rattle.buffer_pool.specs.declared.pool.Buffer.{Buffer}
use Rattle.buffer_pool.specs.Pools.{PoolView, HasPage, AreOnce, Changes, with_pin, without_pin}
use Rattle.buffer_pool.specs.Laws.{SamePage}
use Rattle.buffer_pool.specs.Holding.{is_pinned, pinned_count, IsHeld, IsAtRest, IsSamePage, PinsPage, ReleasesPage}
use Rattle.buffer_pool.proofs.IndexLemmas.{some_is}
use Rattle.buffer_pool.proofs.CountLemmas.{count_changed}

-- ---- a hold and its end

-- a page that isn't held has no pins
no_pins : (buffers : Slab Buffer) (unit page key : ℕ) → (IsHeld buffers unit page → ⊥)
    → (has : HasPage buffers unit page key) → has.buffer.pins ≡ 0
no_pins buffers unit page key free has = elim (cases_eq has.buffer.pins 0) [
  | inl none ↦ none
  | inr some ↦ absurd (free (record {
    key = key;
    buffer = has.buffer;
    stored = has.stored;
    unit_is = has.unit_is;
    page_is = has.page_is;
    pinned = omega (arith, some);
  }))
]

one_for : (b : Buffer) → 0 < b.pins → ◌≡◌ {A = ℕ} (cond (is_pinned (Some b)) 1 0) 1
one_for b some = ap (λ (x : Bool). cond x 1 0) (lt-ltb 0 b.pins some)

none_for : (b : Buffer) → b.pins ≡ 0 → ◌≡◌ {A = ℕ} (cond (is_pinned (Some b)) 1 0) 0
none_for b none = ap (λ (n : ℕ). cond (ltb 0 n) 1 0) none

-- a page that is held under another key is held still
held_elsewhere : (old new : Slab Buffer) (key v q : ℕ)
    → ((other : ℕ) → other ≢ key → get new other ≡ get old other) → (h : IsHeld old v q)
    → h.key ≢ key → IsHeld new v q
held_elsewhere old new key v q others h other = record {
  key = h.key;
  buffer = h.buffer;
  stored = others h.key other ∙ h.stored;
  unit_is = h.unit_is;
  page_is = h.page_is;
  pinned = h.pinned;
}

module _ (old new : PoolView) (unit page key : ℕ) (has : HasPage old.buffers unit page key) where
  -- what is held under the key has the page
  is_the_page : (v q : ℕ) (h : IsHeld old.buffers v q) → h.key ≡ key → IsSamePage unit page v q
  is_the_page v q h here =
      let one : h.buffer ≡ has.buffer =
      some_is h.buffer has.buffer (sym h.stored ∙ ap (get old.buffers) here ∙ has.stored) in (
        sym h.unit_is ∙ ap (λ (e : Buffer). e.unit) one ∙ has.unit_is,
        sym h.page_is ∙ ap (λ (e : Buffer). e.page) one ∙ has.page_is,
      )

  -- and so in the new buffers, where the buffer's page stays
  is_the_new_page : (now : Buffer) → get new.buffers key ≡ Some now → SamePage now has.buffer
      → (v q : ℕ) (h : IsHeld new.buffers v q) → h.key ≡ key → IsSamePage unit page v q
  is_the_new_page now stands same v q h here =
      let one : h.buffer ≡ now =
      some_is h.buffer now (sym h.stored ∙ ap (get new.buffers) here ∙ stands) in (
        sym h.unit_is ∙ ap (λ (e : Buffer). e.unit) one ∙ same.0 ∙ has.unit_is,
        sym h.page_is ∙ ap (λ (e : Buffer). e.page) one ∙ same.1 ∙ has.page_is,
      )

  was_elsewhere : ((other : ℕ) → other ≢ key → get new.buffers other ≡ get old.buffers other)
      → (v q : ℕ) (h : IsHeld new.buffers v q) → h.key ≢ key → IsHeld old.buffers v q
  was_elsewhere others v q h other =
      held_elsewhere new.buffers old.buffers key v q (λ k differs. sym (others k differs)) h other

  -- no page has more than one pin, where the changed one hasn't
  one_each : (now : Buffer) → get new.buffers key ≡ Some now → now.pins ≤ 1
      → ((other : ℕ) → other ≢ key → get new.buffers other ≡ get old.buffers other)
      → IsAtRest old → (k : ℕ) (b : Buffer) → get new.buffers k ≡ Some b → b.pins ≤ 1
  one_each now stands low others rest k b stored = elim (cases_eq k key) [
    | inl here ↦
        let one = some_is now b (sym stands ∙ ap (get new.buffers) (sym here) ∙ stored) in
        omega (arith, low, ap (λ (e : Buffer). e.pins) one)
    | inr other ↦ rest.one k b (sym (others k other) ∙ stored)
  ]

  pub holds_page : (IsHeld old.buffers unit page → ⊥)
      → Changes old.buffers new.buffers key (with_pin old.clock) → PinsPage old new unit page
  holds_page free did =
      let now = with_pin old.clock has.buffer in
      let stands = did.here has.buffer has.stored in
      let none = no_pins old.buffers unit page key free has in
      let more = count_changed old.buffers new.buffers key has.buffer now has.stored
      (record { changed = stands; others = did.others }) in record {
        key = key;
        has = has;
        changes = did;
        held = λ v q. (
          λ h. elim (cases_eq h.key key) [
            | inl here ↦ inr (is_the_new_page now stands (refl, refl) v q h here)
            | inr other ↦ inl (was_elsewhere did.others v q h other)
          ],
          λ was. elim was [
            | inl h ↦ held_elsewhere old.buffers new.buffers key v q did.others h (λ here.
                let is = is_the_page v q h here in
                free (subst (λ (w : ℕ). IsHeld old.buffers w page) is.0
                (subst (λ (w : ℕ). IsHeld old.buffers v w) is.1 h)))
            | inr is ↦ record {
              key = key;
              buffer = now;
              stored = stands;
              unit_is = has.unit_is ∙ sym is.0;
              page_is = has.page_is ∙ sym is.1;
              pinned = omega arith;
            }
          ],
        );
        count = omega (arith, more, none_for has.buffer none, one_for now (omega arith));
      }

  pub hold_rests : (IsHeld old.buffers unit page → ⊥)
      → Changes old.buffers new.buffers key (with_pin old.clock) → new.limit ≡ old.limit
      → IsAtRest old → pinned_count old.buffers + 1 < old.limit → IsAtRest new
  hold_rests free did limit rest few =
      let none = no_pins old.buffers unit page key free has in
      let holds = holds_page free did in
      let count = holds.count in record {
        one = one_each (with_pin old.clock has.buffer) (did.here has.buffer has.stored)
            (omega (arith, none)) did.others rest;
        few = omega (arith, count, limit, few);
      }

  module _ (once : AreOnce old.buffers) (held : IsHeld old.buffers unit page) (rest : IsAtRest old) where
    held_here : held.key ≡ key
    held_here = once unit page held.key key
        (record {
          buffer = held.buffer;
          stored = held.stored;
          unit_is = held.unit_is;
          page_is = held.page_is;
        })
        has

    pub one_pin : has.buffer.pins ≡ 1
    one_pin =
        let one : held.buffer ≡ has.buffer = some_is held.buffer has.buffer
        (sym held.stored ∙ ap (get old.buffers) held_here ∙ has.stored) in
        let some = held.pinned in
        let low = rest.one key has.buffer has.stored in
        omega (arith, some, low, ap (λ (e : Buffer). e.pins) one)

    pub releases_page : Changes old.buffers new.buffers key without_pin
        → ReleasesPage old new unit page
    releases_page did =
        let now = without_pin has.buffer in
        let stands = did.here has.buffer has.stored in
        let none : now.pins ≡ 0 = omega (arith, one_pin) in
        let less = count_changed old.buffers new.buffers key has.buffer now has.stored
        (record { changed = stands; others = did.others }) in record {
          key = key;
          has = has;
          changes = did;
          held = λ v q. (
            λ h.
                let apart : h.key ≢ key = λ here.
                let one = some_is h.buffer now (sym h.stored ∙ ap (get new.buffers) here ∙ stands) in
                let some = h.pinned in
                absurd (omega (arith, some, none, ap (λ (e : Buffer). e.pins) one)) in
                let was = was_elsewhere did.others v q h apart in (
                  was,
                  λ is. apart (once unit page h.key key
                      (record {
                        buffer = h.buffer;
                        stored = sym (did.others h.key apart) ∙ h.stored;
                        unit_is = h.unit_is ∙ is.0;
                        page_is = h.page_is ∙ is.1;
                      })
                      has),
                ),
            λ both. held_elsewhere old.buffers new.buffers key v q did.others both.0
                (λ here. both.1 (is_the_page v q both.0 here)),
          );
          count = omega (
            arith,
            less,
            none_for now none,
            one_for has.buffer (omega (arith, one_pin)),
          );
        }

    pub release_rests : Changes old.buffers new.buffers key without_pin → new.limit ≡ old.limit
        → IsAtRest new
    release_rests did limit =
        let releases = releases_page did in
        let count = releases.count in
        let few = rest.few in record {
          one = one_each (without_pin has.buffer) (did.here has.buffer has.stored)
              (omega (arith, one_pin)) did.others rest;
          few = omega (arith, count, limit, few);
        }

-- ---- whether a page is held

-- the buffer that a search finds tells
pub held_if : (buffers : Slab Buffer) (unit page key : ℕ) (b : Buffer) → AreOnce buffers
    → get buffers key ≡ Some b → HasPage buffers unit page key
    → IsTrue (not (eqb b.pins 0)) ↔ IsHeld buffers unit page
held_if buffers unit page key b once stored has =
    let one : b ≡ has.buffer = some_is b has.buffer (sym stored ∙ has.stored) in (
      λ some. record {
        key = key;
        buffer = b;
        stored = stored;
        unit_is = ap (λ (e : Buffer). e.unit) one ∙ has.unit_is;
        page_is = ap (λ (e : Buffer). e.page) one ∙ has.page_is;
        pinned = positive b.pins some;
      },
      λ h.
          let here = once unit page h.key key
          (record {
            buffer = h.buffer;
            stored = h.stored;
            unit_is = h.unit_is;
            page_is = h.page_is;
          })
          has in
          let same = some_is h.buffer b (sym h.stored ∙ ap (get buffers) here ∙ stored) in
          let pinned = h.pinned in
          ap not (ne_eqb b.pins 0 (λ none.
          absurd (omega (arith, pinned, none, ap (λ (e : Buffer). e.pins) same)))),
    )
  where
    positive : (n : ℕ) → IsTrue (not (eqb n 0)) → 0 < n
    positive zero is = absurd (false≢true is)
    positive (suc n) is = omega arith

pub not_held_if : (buffers : Slab Buffer) (unit page : ℕ)
    → ((key : ℕ) → HasPage buffers unit page key → ⊥) → IsTrue false ↔ IsHeld buffers unit page
not_held_if buffers unit page absent = (
  λ is. absurd (false≢true is),
  λ h. absurd (absent h.key (record {
    buffer = h.buffer;
    stored = h.stored;
    unit_is = h.unit_is;
    page_is = h.page_is;
  })),
)
