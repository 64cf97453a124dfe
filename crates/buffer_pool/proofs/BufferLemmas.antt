-- Buffers by unit and page.
use Rattle.std.proofs.Common.{Bool, true, ◌≡◌, ◌≢◌, ◌&&◌, ℕ, zero, suc, eqb, List, [], ◌∷◌, get_or, Option, Some, None, refl, sym, ◌∙◌, ap, ap₂, subst, inl, inr, arith}
use Rattle.std.proofs.lemmas.Bool.{cases_Bool, cases_eq, eqb-true, eq-eqb, and_parts, false≢true}
use Rattle.std.proofs.Math.Path.{fun_ext}
use Rattle.slab.specs.Slab.{Slab, get, Updates}
use Rattle.buffer_pool.specs.declared.pool.Buffer.{Buffer}
use Rattle.buffer_pool.specs.Pools.{HasPage, IsAbsent, AreOnce, new_buffer}
use Rattle.buffer_pool.specs.Lending.{changed_at}
use Rattle.buffer_pool.specs.Laws.{buffer_in, buffer_of, with_buffer, SamePage, BuffersAreTold, PinnedStay, BringsAddABuffer, EvictsTakeABuffer, PinsChangeABuffer, LoansChangeABuffer}
use Rattle.buffer_pool.proofs.IndexLemmas.{some_is, no_some}
use Rattle.buffer_pool.proofs.LentLemmas.{changed_is}

-- ---- the first buffer with the page

record IsIn (slots : List (Option Buffer)) (u page : ℕ) (b : Buffer) : Type 0 where
  pub key : ℕ
  pub stored : get_or slots key None ≡ Some b
  pub unit_is : b.unit ≡ u
  pub page_is : b.page ≡ page

one_later : (o : Option Buffer) (rest : List (Option Buffer)) (u page : ℕ) (b : Buffer)
    → IsIn rest u page b → IsIn (o ∷ rest) u page b
one_later o rest u page b is = record {
  key = suc is.key;
  stored = is.stored;
  unit_is = is.unit_is;
  page_is = is.page_is;
}

found_in : (slots : List (Option Buffer)) (u page : ℕ) (b : Buffer)
    → buffer_in slots u page ≡ Some b → IsIn slots u page b
found_in [] u page b is = absurd (no_some b is)
found_in (None ∷ rest) u page b is = one_later None rest u page b (found_in rest u page b is)
found_in (Some t ∷ rest) u page b is = elim (cases_Bool (eqb t.unit u && eqb t.page page)) [
  | inl same ↦
      let (unit, of) = and_parts _ _ same in
      let both : Some t ≡ Some b = rw same at is in
      let t_is : t ≡ b = some_is t b both in record {
        key = 0;
        stored = both;
        unit_is = ap (λ (e : Buffer). e.unit) (sym t_is) ∙ eqb-true _ _ unit;
        page_is = ap (λ (e : Buffer). e.page) (sym t_is) ∙ eqb-true _ _ of;
      }
  | inr other ↦ one_later (Some t) rest u page b (found_in rest u page b (rw other at is))
]

-- where there is one, the first is found
some_in : (slots : List (Option Buffer)) (u page key : ℕ) (b : Buffer)
    → get_or slots key None ≡ Some b → b.unit ≡ u → b.page ≡ page
    → (t : Buffer) × (buffer_in slots u page ≡ Some t)
some_in [] u page key b stored unit of = absurd (no_some b stored)
some_in (None ∷ rest) u page zero b stored unit of = absurd (no_some b stored)
some_in (None ∷ rest) u page (suc key) b stored unit of = some_in rest u page key b stored unit of
some_in (Some t ∷ rest) u page zero b stored unit of =
    let t_is : t ≡ b = some_is t b stored in
    let unit_is = eq-eqb t.unit u (ap (λ (e : Buffer). e.unit) t_is ∙ unit) in
    let page_is = eq-eqb t.page page (ap (λ (e : Buffer). e.page) t_is ∙ of) in
    (t, rw (unit_is, page_is) refl)
some_in (Some t ∷ rest) u page (suc key) b stored unit of =
    elim (cases_Bool (eqb t.unit u && eqb t.page page)) [
      | inl same ↦ (t, rw same refl)
      | inr other ↦ let (x, is) = some_in rest u page key b stored unit of in (x, rw other is)
    ]

pub buffers_are_told : BuffersAreTold
buffers_are_told buffers once = record {
  found = λ u page key b stored unit of.
      let (t, is) = some_in buffers.slots u page key b stored unit of in
      let first = found_in buffers.slots u page t is in
      let of_t : HasPage buffers u page first.key = record {
        buffer = t;
        stored = first.stored;
        unit_is = first.unit_is;
        page_is = first.page_is;
      } in
      let of_b : HasPage buffers u page key = record {
        buffer = b;
        stored = stored;
        unit_is = unit;
        page_is = of;
      } in
      is ∙ sym first.stored ∙ ap (get buffers) (once u page first.key key of_t of_b) ∙ stored;
  stands = λ u page b is.
      let first = found_in buffers.slots u page b is in
      (first.key, first.stored, first.unit_is, first.page_is);
}

-- ---- one buffer a page

-- a page of another key is the one of before
before : (old new : Slab Buffer) (key unit page other : ℕ) (slot : Option Buffer)
    → Updates old new key slot → other ≢ key → HasPage new unit page other
    → HasPage old unit page other
before old new key unit page other slot did differs has = record {
  buffer = has.buffer;
  stored = sym (did.others other differs) ∙ has.stored;
  unit_is = has.unit_is;
  page_is = has.page_is;
}

-- the page under the key
under : (old new : Slab Buffer) (key unit page : ℕ) (b : Buffer) → Updates old new key (Some b)
    → HasPage new unit page key → (b.unit ≡ unit) × (b.page ≡ page)
under old new key unit page b did has =
    let same : b ≡ has.buffer = some_is b has.buffer (sym did.changed ∙ has.stored) in
    (ap (λ (e : Buffer). e.unit) same ∙ has.unit_is, ap (λ (e : Buffer). e.page) same ∙ has.page_is)

-- no page is under two keys, where a page under the changed one was under no other
stay_once : (old new : Slab Buffer) (key : ℕ) (slot : Option Buffer) → AreOnce old
    → Updates old new key slot
    → ((unit page other : ℕ) → HasPage new unit page key → HasPage old unit page other → other ≡ key)
    → AreOnce new
stay_once old new key slot once did apart unit page a b has also = elim (cases_eq a key) [
  | inl a_here ↦ elim (cases_eq b key) [
    | inl b_here ↦ a_here ∙ sym b_here
    | inr b_else ↦
        let here = subst (HasPage new unit page) a_here has in
        absurd (b_else (apart unit page b here (before old new key unit page b slot did b_else also)))
  ]
  | inr a_else ↦ elim (cases_eq b key) [
    | inl b_here ↦
        let here = subst (HasPage new unit page) b_here also in
        absurd (a_else (apart unit page a here (before old new key unit page a slot did a_else has)))
    | inr b_else ↦
        once unit page a b (before old new key unit page a slot did a_else has)
        (before old new key unit page b slot did b_else also)
  ]
]

evicts_stay_once : (old new : Slab Buffer) (key : ℕ) → AreOnce old → Updates old new key None
    → AreOnce new
evicts_stay_once old new key once did =
    stay_once old new key None once did
    (λ u q other has was. absurd (no_some has.buffer (sym did.changed ∙ has.stored)))

pub changes_stay_once : (old new : Slab Buffer) (key : ℕ) (was now : Buffer) → AreOnce old
    → get old key ≡ Some was → SamePage now was → Updates old new key (Some now) → AreOnce new
changes_stay_once old new key was now once stored same did =
    stay_once old new key (Some now) once did (λ u q other has was_other.
    let (unit_is, page_is) = under old new key u q now did has in
    once u q other key was_other (record {
      buffer = was;
      stored = stored;
      unit_is = sym same.0 ∙ unit_is;
      page_is = sym same.1 ∙ page_is;
    }))

-- ---- pins

pub pinned_stay : PinnedStay
pinned_stay old new unit page key pin may has did is = elim (cases_eq pin.key key) [
  | inl here ↦
      let same : is.buffer ≡ has.buffer =
      some_is is.buffer has.buffer (sym is.stored ∙ ap (get old) here ∙ has.stored) in
      let none = (may key has.buffer has.stored has.unit_is has.page_is).0 in
      let some = is.held in
      absurd (omega (arith, some, none, ap (λ (e : Buffer). e.pins) same))
  | inr other ↦ record {
    buffer = is.buffer;
    stored = did.others pin.key other ∙ is.stored;
    unit_is = is.unit_is;
    page_is = is.page_is;
    held = is.held;
  }
]

-- ---- the buffers as a function

-- a page that is under the key neither before nor after has the buffer of before
buffer_elsewhere : (old new : Slab Buffer) (key : ℕ) (slot : Option Buffer) (v q : ℕ)
    → AreOnce old → AreOnce new → Updates old new key slot
    → (HasPage old v q key → ⊥) → (HasPage new v q key → ⊥)
    → buffer_of new v q ≡ buffer_of old v q
buffer_elsewhere old new key slot v q once after did not_old not_new =
    go (buffer_of new v q) (buffer_of old v q) refl refl
  where
    go : (a b : Option Buffer) → buffer_of new v q ≡ a → buffer_of old v q ≡ b
        → buffer_of new v q ≡ buffer_of old v q
    go (Some s) b is _ =
        let (k, stored, unit, page) = (buffers_are_told new after).stands v q s is in
        let has : HasPage new v q k =
        record { buffer = s; stored = stored; unit_is = unit; page_is = page } in
        let differs : k ≢ key = λ same. not_new (subst (HasPage new v q) same has) in
        let stood = sym (did.others k differs) ∙ stored in
        is ∙ sym ((buffers_are_told old once).found v q k s stood unit page)
    go None None is was = is ∙ sym was
    go None (Some s) is was =
        let (k, stored, unit, page) = (buffers_are_told old once).stands v q s was in
        let has : HasPage old v q k =
        record { buffer = s; stored = stored; unit_is = unit; page_is = page } in
        let differs : k ≢ key = λ same. not_old (subst (HasPage old v q) same has) in
        let stands = did.others k differs ∙ stored in
        (buffers_are_told new after).found v q k s stands unit page ∙ sym was

-- page by page: the one page, and the others
by_page : (f g : ℕ → ℕ → Option Buffer) (u page : ℕ) (o : Option Buffer) → g u page ≡ o
    → ((v q : ℕ) → (v ≡ u → q ≡ page → ⊥) → g v q ≡ f v q) → g ≡ with_buffer f u page o
by_page f g u page o here others =
    fun_ext (λ v. fun_ext (λ q. elim (cases_Bool (eqb v u && eqb q page)) [
      | inl same ↦
          let (unit, of) = and_parts _ _ same in
          rw same (ap₂ g (eqb-true _ _ unit) (eqb-true _ _ of) ∙ here)
      | inr other ↦ rw other (others v q (λ unit of.
          let is = both (eqb v u) (eqb q page) (eq-eqb v u unit) (eq-eqb q page of) in
          absurd (false≢true (sym other ∙ is))))
    ]))
  where
    both : (a b : Bool) → a ≡ true → b ≡ true → (a && b) ≡ true
    both a b one two = rw (one, two) refl

-- where a buffer with the page is put under the key
put_buffer : (old new : Slab Buffer) (key u page : ℕ) (now : Buffer) → AreOnce old → AreOnce new
    → Updates old new key (Some now) → now.unit ≡ u → now.page ≡ page
    → ((v q : ℕ) → HasPage old v q key → (v ≡ u) × (q ≡ page))
    → buffer_of new ≡ with_buffer (buffer_of old) u page (Some now)
put_buffer old new key u page now once after did unit of was =
    by_page (buffer_of old) (buffer_of new) u page (Some now)
    ((buffers_are_told new after).found u page key now did.changed unit of)
    (λ v q other. buffer_elsewhere old new key (Some now) v q once after did
    (λ has. let (a, b) = was v q has in other a b)
    (λ has. let (a, b) = under old new key v q now did has in other (sym a ∙ unit) (sym b ∙ of)))

pub brings_add_a_buffer : BringsAddABuffer
brings_add_a_buffer old new unit page key clock once absent empty did =
    let now = new_buffer unit page clock in
    let after = stay_once old new key (Some now) once did (λ u q other has was.
    let (unit_is, page_is) = under old new key u q now did has in
    absurd (absent other (record {
      buffer = was.buffer;
      stored = was.stored;
      unit_is = was.unit_is ∙ sym unit_is;
      page_is = was.page_is ∙ sym page_is;
    }))) in
    put_buffer old new key unit page now once after did refl refl
    (λ v q has. absurd (no_some has.buffer (sym empty ∙ has.stored)))

changes_change_a_buffer : (old new : Slab Buffer) (key : ℕ) (was now : Buffer) → AreOnce old
    → get old key ≡ Some was → SamePage now was → Updates old new key (Some now)
    → buffer_of new ≡ with_buffer (buffer_of old) was.unit was.page (Some now)
changes_change_a_buffer old new key was now once stored same did =
    put_buffer old new key was.unit was.page now once
    (changes_stay_once old new key was now once stored same did) did same.0 same.1
    (λ v q has.
    let one : was ≡ has.buffer = some_is was has.buffer (sym stored ∙ has.stored) in (
      sym has.unit_is ∙ ap (λ (e : Buffer). e.unit) (sym one),
      sym has.page_is ∙ ap (λ (e : Buffer). e.page) (sym one),
    ))

pub pins_change_a_buffer : PinsChangeABuffer
pins_change_a_buffer old new key change was once stored same did =
    changes_change_a_buffer old new key was (change was) once stored same
    (record { changed = did.here was stored; others = did.others })

pub loans_change_a_buffer : LoansChangeABuffer
loans_change_a_buffer old key change was once stored same =
    changes_change_a_buffer old (changed_at old key change) key was (change was) once stored same
    (changed_is old key change was stored)

pub evicts_take_a_buffer : EvictsTakeABuffer
evicts_take_a_buffer old new unit page key once has did =
    let after = evicts_stay_once old new key once did in
    let gone : (v q : ℕ) → HasPage new v q key → ⊥ =
    λ v q is. no_some is.buffer (sym did.changed ∙ is.stored) in
    by_page (buffer_of old) (buffer_of new) unit page None
    (nothing after gone (buffer_of new unit page) refl)
    (λ v q other. buffer_elsewhere old new key None v q once after did (λ is.
    let one : has.buffer ≡ is.buffer =
    some_is has.buffer is.buffer (sym has.stored ∙ is.stored) in
    other (sym is.unit_is ∙ ap (λ (e : Buffer). e.unit) (sym one) ∙ has.unit_is)
    (sym is.page_is ∙ ap (λ (e : Buffer). e.page) (sym one) ∙ has.page_is))
    (gone v q))
  where
    nothing : AreOnce new → ((v q : ℕ) → HasPage new v q key → ⊥) → (o : Option Buffer)
        → buffer_of new unit page ≡ o → buffer_of new unit page ≡ None
    nothing after gone None is = is
    nothing after gone (Some b) is =
        let (k, stored, unit_is, page_is) = (buffers_are_told new after).stands unit page b is in
        let here : HasPage new unit page k =
        record { buffer = b; stored = stored; unit_is = unit_is; page_is = page_is } in
        let differs : k ≢ key = λ same. gone unit page (subst (HasPage new unit page) same here) in
        absurd (differs (once unit page k key
        (before old new key unit page k None did differs here) has))

-- ---- what a search tells

-- the buffer under the key that has the page is the page's
pub buffer_found : (buffers : Slab Buffer) (u page key : ℕ) (b : Buffer) → AreOnce buffers
    → get buffers key ≡ Some b → HasPage buffers u page key → buffer_of buffers u page ≡ Some b
buffer_found buffers u page key b once stored has =
    let one : has.buffer ≡ b = some_is has.buffer b (sym has.stored ∙ stored) in
    (buffers_are_told buffers once).found u page key b stored
    (ap (λ (e : Buffer). e.unit) (sym one) ∙ has.unit_is)
    (ap (λ (e : Buffer). e.page) (sym one) ∙ has.page_is)

-- a page that is in no buffer has none
pub buffer_absent : (buffers : Slab Buffer) (u page : ℕ) → AreOnce buffers
    → IsAbsent buffers u page → buffer_of buffers u page ≡ None
buffer_absent buffers u page once absent = go (buffer_of buffers u page) refl
  where
    go : (o : Option Buffer) → buffer_of buffers u page ≡ o → buffer_of buffers u page ≡ None
    go None is = is
    go (Some b) is =
        let (k, stored, unit_is, page_is) = (buffers_are_told buffers once).stands u page b is in
        absurd (absent k
        (record { buffer = b; stored = stored; unit_is = unit_is; page_is = page_is }))
