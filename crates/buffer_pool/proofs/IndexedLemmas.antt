-- The index of the buffers, and what the calls keep of it.
use Rattle.std.proofs.Common.{◌≡◌, ◌≢◌, ℕ, ◌<◌, ◌+◌, List, length, Option, Some, None, IfSome, IfNone, refl, sym, ◌∙◌, ap, ap₂, inl, inr, arith}
use Rattle.std.proofs.lemmas.Bool.{cases_eq, eq-eqb, ne_eqb}
use Rattle.slab.specs.Slab.{Slab, get, slab_len, Updates}
use Rattle.buffer_pool.proofs.IndexLemmas.{some_is, no_some}
use Rattle.buffer_pool.specs.declared.pool.Buffer.{Buffer}
use Rattle.buffer_pool.specs.Index.{page_number, key_of, with_key}
use Rattle.buffer_pool.specs.Pools.{HasPage, HasNumber, IsAbsent, ListsBuffers, AreOnce}

number_of : Buffer → ℕ
number_of b = page_number b.unit b.page

pub same_number : (a b : Buffer) → a ≡ b → page_number a.unit a.page ≡ page_number b.unit b.page
same_number a b same = ap (λ (x : Buffer). page_number x.unit x.page) same

-- two pages of one number are one
one_page : (u p v q : ℕ) → p < 15 → q < 15 → page_number u p ≡ page_number v q → (u ≡ v) × (p ≡ q)
one_page u p v q low high same = (omega (arith, low, high, same), omega (arith, low, high, same))

module _ (index : List (ℕ × ℕ)) (buffers : Slab Buffer) (so : ListsBuffers index buffers) where
  -- what is found has the page
  pub found_page : (u p key : ℕ) → p < 15 → key_of index (page_number u p) ≡ Some key
      → HasPage buffers u p key
  found_page u p key low is =
      let has = so.found (page_number u p) key is in
      let (unit, page) = one_page has.buffer.unit has.buffer.page u p
      (so.pages key has.buffer has.stored) low has.number_is in
      record { buffer = has.buffer; stored = has.stored; unit_is = unit; page_is = page }

  -- a page that is there is listed
  pub page_listed : (u p key : ℕ) → HasPage buffers u p key
      → key_of index (page_number u p) ≡ Some key
  page_listed u p key has =
      ap₂ (λ (v q : ℕ). key_of index (page_number v q)) (sym has.unit_is) (sym has.page_is)
      ∙ so.listed key has.buffer has.stored

  -- one that isn't, isn't
  pub none_listed : (u p : ℕ) → p < 15 → IsAbsent buffers u p → key_of index (page_number u p) ≡ None
  none_listed u p low absent = go (key_of index (page_number u p)) refl
    where
      go : (o : Option ℕ) → key_of index (page_number u p) ≡ o → key_of index (page_number u p) ≡ None
      go None is = is
      go (Some key) is = absurd (absent key (found_page u p key low is))

  pub are_once : AreOnce buffers
  are_once u p key other has also =
      some_is key other (sym (page_listed u p key has) ∙ page_listed u p other also)

  -- what a search in the index says of the buffers
  pub told : (u p : ℕ) (r : Option ℕ) → p < 15 → r ≡ key_of index (page_number u p)
      → IfSome r (λ key. HasPage buffers u p key) × IfNone r (IsAbsent buffers u p)
  told u p None low is =
      (tt, λ key has. no_some key (is ∙ page_listed u p key has))
  told u p (Some key) low is = (found_page u p key low (sym is), tt)

-- ---- what calls keep

with_same : (keys : ℕ → Option ℕ) (number n : ℕ) (o : Option ℕ) → number ≡ n
    → with_key keys number o n ≡ o
with_same keys number n o same = rw (eq-eqb number n same) refl

with_other : (keys : ℕ → Option ℕ) (number n : ℕ) (o : Option ℕ) → number ≢ n
    → with_key keys number o n ≡ keys n
with_other keys number n o other = rw (ne_eqb number n other) refl

-- a buffer is changed, and has its page still
pub index_stays : (index : List (ℕ × ℕ)) (old new : Slab Buffer) (key : ℕ) (was now : Buffer)
    → ListsBuffers index old → get old key ≡ Some was → Updates old new key (Some now)
    → now.unit ≡ was.unit → now.page ≡ was.page → slab_len new ≡ slab_len old → ListsBuffers index new
index_stays index old new key was now so there did unit page len = record {
  found = λ n k is.
      let has = so.found n k is in
      elim (cases_eq k key) [
        | inl same ↦
            let one = some_is was has.buffer (sym there ∙ ap (get old) (sym same) ∙ has.stored) in
            record {
              buffer = now;
              stored = ap (get new) same ∙ did.changed;
              number_is = ap₂ page_number unit page ∙ same_number was has.buffer one ∙ has.number_is;
            }
        | inr other ↦ record {
          buffer = has.buffer;
          stored = did.others k other ∙ has.stored;
          number_is = has.number_is;
        }
      ];
  listed = λ k b stored. elim (cases_eq k key) [
    | inl same ↦
        let one = some_is now b (sym did.changed ∙ ap (get new) (sym same) ∙ stored) in
        ap (key_of index) (sym (same_number now b one) ∙ ap₂ page_number unit page)
        ∙ so.listed key was there ∙ ap (λ (x : ℕ). Some x) (sym same)
    | inr other ↦ so.listed k b (sym (did.others k other) ∙ stored)
  ];
  pages = λ k b stored. elim (cases_eq k key) [
    | inl same ↦
        let one = some_is now b (sym did.changed ∙ ap (get new) (sym same) ∙ stored) in
        let low = so.pages key was there in
        omega (arith, low, page, ap (λ (x : Buffer). x.page) one)
    | inr other ↦ so.pages k b (sym (did.others k other) ∙ stored)
  ];
  len = so.len ∙ sym len;
}

-- a page is brought in
module _ (index more : List (ℕ × ℕ)) (old new : Slab Buffer) (key u p : ℕ) (added : Buffer)
    (unit_is : added.unit ≡ u) (page_is : added.page ≡ p)
    (so : ListsBuffers index old) (low : p < 15) (absent : IsAbsent old u p)
    (empty : get old key ≡ None) (did : Updates old new key (Some added))
    (adds : (n : ℕ) → key_of more n ≡ with_key (key_of index) (page_number u p) (Some key) n) where
  number_added : page_number added.unit added.page ≡ page_number u p
  number_added = ap₂ page_number unit_is page_is

  added_under : (k : ℕ) (b : Buffer) → k ≡ key → get new k ≡ Some b → added ≡ b
  added_under k b same stored =
      some_is added b (sym did.changed ∙ ap (get new) (sym same) ∙ stored)

  was_under : (k : ℕ) (b : Buffer) → k ≢ key → get new k ≡ Some b → get old k ≡ Some b
  was_under k b other stored = sym (did.others k other) ∙ stored

  not_added : (k : ℕ) (b : Buffer) → get old k ≡ Some b → k ≢ key
  not_added k b stored same = no_some b (sym empty ∙ ap (get old) (sym same) ∙ stored)

  added_found : (n k : ℕ) → key_of more n ≡ Some k → HasNumber new n k
  added_found n k is = elim (cases_eq (page_number u p) n) [
    | inl same ↦
        let here = sym (with_same (key_of index) (page_number u p) n (Some key) same) ∙ sym (adds n) ∙ is in
        record {
          buffer = added;
          stored = ap (get new) (sym (some_is key k here)) ∙ did.changed;
          number_is = number_added ∙ same;
        }
    | inr other ↦
        let before = sym (with_other (key_of index) (page_number u p) n (Some key) other) ∙ sym (adds n) ∙ is in
        let has = so.found n k before in
        record {
          buffer = has.buffer;
          stored = did.others k (not_added k has.buffer has.stored) ∙ has.stored;
          number_is = has.number_is;
        }
  ]

  added_listed : (k : ℕ) (b : Buffer) → get new k ≡ Some b
      → key_of more (page_number b.unit b.page) ≡ Some k
  added_listed k b stored = elim (cases_eq k key) [
    | inl same ↦
        let here = sym number_added ∙ same_number added b (added_under k b same stored) in
        adds (page_number b.unit b.page)
        ∙ with_same (key_of index) (page_number u p) (page_number b.unit b.page) (Some key) here
        ∙ ap (λ (x : ℕ). Some x) (sym same)
    | inr other ↦
        let before = so.listed k b (was_under k b other stored) in
        let none = none_listed index old so u p low absent in
        adds (page_number b.unit b.page)
        ∙ with_other (key_of index) (page_number u p) (page_number b.unit b.page) (Some key)
        (λ is. absurd (no_some k (sym none ∙ ap (key_of index) is ∙ before)))
        ∙ before
  ]

  added_pages : (k : ℕ) (b : Buffer) → get new k ≡ Some b → b.page < 15
  added_pages k b stored = elim (cases_eq k key) [
    | inl same ↦ omega (arith, low, page_is, ap (λ (x : Buffer). x.page) (added_under k b same stored))
    | inr other ↦ so.pages k b (was_under k b other stored)
  ]

  pub index_added : length more ≡ length index + 1 → slab_len new ≡ slab_len old + 1
      → ListsBuffers more new
  index_added longer len = record {
    found = added_found;
    listed = added_listed;
    pages = added_pages;
    len = omega (arith, longer, len, so.len);
  }

-- a page leaves
module _ (index less : List (ℕ × ℕ)) (old new : Slab Buffer) (key u p : ℕ)
    (so : ListsBuffers index old) (has : HasPage old u p key) (did : Updates old new key None)
    (removes : (n : ℕ) → key_of less n ≡ with_key (key_of index) (page_number u p) None n) where
  number_has : page_number has.buffer.unit has.buffer.page ≡ page_number u p
  number_has = ap₂ page_number has.unit_is has.page_is

  not_gone : (k : ℕ) (b : Buffer) → get new k ≡ Some b → k ≢ key
  not_gone k b stored same = no_some b (sym did.changed ∙ ap (get new) (sym same) ∙ stored)

  stood : (k : ℕ) (b : Buffer) → get new k ≡ Some b → get old k ≡ Some b
  stood k b stored = sym (did.others k (not_gone k b stored)) ∙ stored

  left_found : (n k : ℕ) → key_of less n ≡ Some k → HasNumber new n k
  left_found n k is = elim (cases_eq (page_number u p) n) [
    | inl same ↦ absurd (no_some k
        (sym (with_same (key_of index) (page_number u p) n None same) ∙ sym (removes n) ∙ is))
    | inr other ↦
        let before = sym (with_other (key_of index) (page_number u p) n None other) ∙ sym (removes n) ∙ is in
        let it = so.found n k before in
        let apart : k ≢ key = λ same.
        let one = some_is it.buffer has.buffer
        (sym it.stored ∙ ap (get old) same ∙ has.stored) in
        other (sym number_has ∙ sym (same_number it.buffer has.buffer one) ∙ it.number_is) in
        record {
          buffer = it.buffer;
          stored = did.others k apart ∙ it.stored;
          number_is = it.number_is;
        }
  ]

  left_listed : (k : ℕ) (b : Buffer) → get new k ≡ Some b
      → key_of less (page_number b.unit b.page) ≡ Some k
  left_listed k b stored =
      let before = so.listed k b (stood k b stored) in
      removes (page_number b.unit b.page)
      ∙ with_other (key_of index) (page_number u p) (page_number b.unit b.page) None (λ is.
      absurd (not_gone k b stored (some_is k key
      (sym before ∙ ap (key_of index) (sym is) ∙ page_listed index old so u p key has))))
      ∙ before

  pub index_removed : length less + 1 ≡ length index → slab_len new + 1 ≡ slab_len old
      → ListsBuffers less new
  index_removed shorter len = record {
    found = left_found;
    listed = left_listed;
    pages = λ k b stored. so.pages k b (stood k b stored);
    len = omega (arith, shorter, len, so.len);
  }
