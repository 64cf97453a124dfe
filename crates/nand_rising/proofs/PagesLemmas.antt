-- What slots over pages tell after each kind of call.
use Rattle.std.proofs.Common.{◌≡◌, ◌≢◌, ◌≤◌, ◌<◌, suc, ℕ, ◌+◌, ◌*◌, ◌/◌, ◌%◌, Bool, true, false, cond, leb, ltb, eqb, List, Option, Some, None, IfSome, ◌∙◌, ap, sym, refl, subst, arith, inl, inr}
use Rattle.std.specs.Prelude.{◌&&◌}
use Rattle.std.specs.Option.{option_map}
use Rattle.std.proofs.Math.Path.{fun_ext}
use Rattle.std.proofs.lemmas.Bool.{cases_lt, cases_eq, cases_order, cases_Bool, and_parts, and_from, and_left, and_right, le-leb, lt-leb, lt-ltb, le-ltb, eqb-true, eq-eqb, ne_eqb, cond-true, cond-false}
use Rattle.std.proofs.lemmas.Nat.{div-add-mod', row_fits, div-mul-add, mod-mul-add}
use Rattle.chip_trait.specs.Story.{Contents, Story, after, blank}
use Rattle.chip_trait.specs.declared.event.Event.TheVariants.{Program, Erase}
use Rattle.nand_rising.specs.declared.shape.Shape.{Shape}
use Rattle.nand_rising.specs.Slots.{IsErasedFrom}
use Rattle.nand_rising.specs.Shapes.{is_served, slots_per_block, blocks_per_place, block_at, IsFrom, AreErasedFrom}
use Rattle.nand_2k.specs.Part.{with_request}
use Rattle.nand_rising.specs.Pages.{slots_in, asking_erases}
use Rattle.nand_rising.proofs.ShapeLemmas.{whole_place, slot_block, same_slot}

-- what holds of what is made of the contents, where they are told
pub if_mapped : {X Y : Type 0} (r : Option X) (f : X → Y) (P : Y → Type 0) → IfSome r (λ x. P (f x)) → IfSome (option_map f r) P
if_mapped None f P h = tt
if_mapped (Some x) f P h = h

pub if_unmapped : {X Y : Type 0} (r : Option X) (f : X → Y) (P : Y → Type 0) → IfSome (option_map f r) P → IfSome r (λ x. P (f x))
if_unmapped None f P h = tt
if_unmapped (Some x) f P h = h

slot_in : (shape : Shape) (x : Contents) (p t : ℕ) → t < 256 → slots_in shape x p t ≡ x (block_at shape p t) (t % slots_per_block shape)
slot_in shape x p t below = cond-true _ _ _ (lt-ltb t 256 below)

slot_past : (shape : Shape) (x : Contents) (p t : ℕ) → 256 ≤ t → slots_in shape x p t ≡ blank
slot_past shape x p t past = cond-false _ _ _ (le-ltb t 256 past)

-- ---- chunks behind one, and slots

module _ (shape : Shape) (served : is_served shape ≡ true) where
  -- number i of the block of slot t is a slot behind it
  slot_behind : (t i : ℕ) → t < 256 → i < slots_per_block shape → t % slots_per_block shape ≤ i → (u : ℕ) × ((u < 256) × (t ≤ u) × (u / slots_per_block shape ≡ t / slots_per_block shape) × (u % slots_per_block shape ≡ i))
  slot_behind t i below within behind =
      let n = slots_per_block shape in
      let whole = whole_place shape served in
      let fits : t / n * n + n ≤ blocks_per_place shape * n = row_fits (t / n) n (blocks_per_place shape) n (slot_block shape served t below) (omega arith) in
      let parts = div-add-mod' t n in
      (t / n * n + i, (omega arith, omega arith, div-mul-add (t / n) n i within, mod-mul-add (t / n) n i within))

  behind_in_block : (g c h d : ℕ) → c < shape.chunks → IsFrom g c h d → g * shape.chunks + c ≤ h * shape.chunks + d
  behind_in_block g c h d below from = elim from [
    | inl later ↦ let fits : g * shape.chunks + shape.chunks ≤ h * shape.chunks = row_fits g shape.chunks h shape.chunks later (omega arith) in omega arith
    | inr same ↦ let m : g * shape.chunks ≡ h * shape.chunks = ap (λ (k : ℕ). k * shape.chunks) same.0 in omega (arith, same.1)
  ]

  -- slots that are free are chunks that are
  chunks_free : (x : Contents) (p t g c : ℕ) → t < 256 → c < shape.chunks → g * shape.chunks + c ≡ t % slots_per_block shape → IsErasedFrom t (slots_in shape x p) → AreErasedFrom shape g c (x (block_at shape p t))
  chunks_free x p t g c below chunk index free = λ h d from within used.
      let behind = behind_in_block g c h d chunk from in
      let u = slot_behind t (h * shape.chunks + d) below used (omega arith) in
      let here : slots_in shape x p u.0 ≡ x (block_at shape p t) (h * shape.chunks + d) = slot_in shape x p u.0 u.1.0
      ∙ ap (λ (k : ℕ). x (p * blocks_per_place shape + k) (u.0 % slots_per_block shape)) u.1.2 ∙ ap (x (block_at shape p t)) u.1.3 in
      sym here ∙ free u.0 u.1.1 u.1.0

  pub rising_chunks : (contents : Option Contents) (p t g c b : ℕ) → t < 256 → c < shape.chunks → g * shape.chunks + c ≡ t % slots_per_block shape → b ≡ block_at shape p t
      → IfSome (option_map (slots_in shape) contents) (λ x. IsErasedFrom t (x p)) → IfSome contents (λ x. AreErasedFrom shape g c (x b))
  rising_chunks None p t g c b below chunk index block free = tt
  rising_chunks (Some x) p t g c b below chunk index block free = subst (λ (k : ℕ). AreErasedFrom shape g c (x k)) (sym block) (chunks_free x p t g c below chunk index free)

  -- ---- a slot was programmed

  same_test : (p q t u : ℕ) → t < 256 → u < 256 → (eqb (block_at shape p t) (block_at shape q u) && eqb (t % slots_per_block shape) (u % slots_per_block shape)) ≡ (eqb p q && eqb t u)
  same_test p q t u below_t below_u = elim (cases_Bool (eqb (block_at shape p t) (block_at shape q u) && eqb (t % slots_per_block shape) (u % slots_per_block shape))) [
    | inl so ↦
        let parts = and_parts _ _ so in
        let same = same_slot shape p q t u served below_t below_u (eqb-true (block_at shape p t) (block_at shape q u) parts.0) (eqb-true (t % slots_per_block shape) (u % slots_per_block shape) parts.1) in
        so ∙ sym (and_from _ _ (eq-eqb p q same.0) (eq-eqb t u same.1))
    | inr isnt ↦ elim (cases_Bool (eqb p q && eqb t u)) [
      | inl so ↦
          let parts = and_parts _ _ so in
          let place = eqb-true p q parts.0 in
          let slot = eqb-true t u parts.1 in
          let now : (eqb (block_at shape p t) (block_at shape q u) && eqb (t % slots_per_block shape) (u % slots_per_block shape)) ≡ true =
          and_from _ _ (eq-eqb (block_at shape p t) (block_at shape q u) (ap (λ (k : ℕ). block_at shape k t) place ∙ ap (block_at shape q) slot)) (eq-eqb (t % slots_per_block shape) (u % slots_per_block shape) (ap (λ (k : ℕ). k % slots_per_block shape) slot)) in
          let false_now : true ≡ false = sym now ∙ isnt in cc
      | inr neither ↦ isnt ∙ sym neither
    ]
  ]

  programmed_at : (x : Contents) (p s : ℕ) (bytes : List ℕ) → s < 256 → (q t : ℕ)
      → slots_in shape (after (Program (block_at shape p s) (s % slots_per_block shape) bytes) x) q t ≡ after (Program p s bytes) (slots_in shape x) q t
  programmed_at x p s bytes within q t = elim (cases_lt t 256) [
    | inl below ↦ slot_in shape (after (Program (block_at shape p s) (s % slots_per_block shape) bytes) x) q t below
        ∙ ap (λ (k : Bool). cond k bytes (x (block_at shape q t) (t % slots_per_block shape))) (same_test p q s t within below)
        ∙ ap (λ (b : List ℕ). cond (eqb p q && eqb s t) bytes b) (sym (slot_in shape x q t below))
    | inr past ↦ slot_past shape (after (Program (block_at shape p s) (s % slots_per_block shape) bytes) x) q t past
        ∙ sym (ap (λ (k : Bool). cond k bytes (slots_in shape x q t)) (and_right (eqb p q) _ (ne_eqb s t (λ e. omega arith))) ∙ slot_past shape x q t past)
  ]

  pub programmed_slots : (old new : Option Contents) (p s b i : ℕ) (bytes : List ℕ) → s < 256 → b ≡ block_at shape p s → i ≡ s % slots_per_block shape
      → new ≡ option_map (after (Program b i bytes)) old → option_map (slots_in shape) new ≡ option_map (after (Program p s bytes)) (option_map (slots_in shape) old)
  programmed_slots None new p s b i bytes within block index e = ap (option_map (slots_in shape)) e
  programmed_slots (Some x) new p s b i bytes within block index e = ap (option_map (slots_in shape)) e
      ∙ ap (λ (k : ℕ). Some (slots_in shape (after (Program k i bytes) x))) block ∙ ap (λ (k : ℕ). Some (slots_in shape (after (Program (block_at shape p s) k bytes) x))) index
      ∙ ap Some (fun_ext (λ q. fun_ext (λ t. programmed_at x p s bytes within q t)))

-- ---- blocks were erased

-- so many blocks from this one on are erased
abbrev pub with_erased : ℕ → ℕ → Contents → Contents
with_erased first count x = λ b t. cond (leb first b && ltb b (first + count)) blank (x b t)

none_erased : (first b : ℕ) → (leb first b && ltb b (first + 0)) ≡ false
none_erased first b = elim (cases_lt b first) [
  | inl below ↦ and_left _ _ (lt-leb first b below)
  | inr above ↦ and_right (leb first b) _ (le-ltb b (first + 0) (omega arith))
]

pub erased_none : (first : ℕ) (contents : Option Contents) → contents ≡ option_map (with_erased first 0) contents
erased_none first None = refl
erased_none first (Some x) = ap Some (fun_ext (λ b. fun_ext (λ t. sym (ap (λ (k : Bool). cond k blank (x b t)) (none_erased first b)))))

more_erased : (first i b : ℕ) → first + i ≢ b → (leb first b && ltb b (first + i)) ≡ (leb first b && ltb b (first + (i + 1)))
more_erased first i b other = elim (cases_lt b (first + i)) [
  | inl below ↦ ap (λ (k : Bool). leb first b && k) (lt-ltb b (first + i) below ∙ sym (lt-ltb b (first + (i + 1)) (omega arith)))
  | inr above ↦ ap (λ (k : Bool). leb first b && k) (le-ltb b (first + i) above ∙ sym (le-ltb b (first + (i + 1)) (omega arith)))
]

erased_at : (first i : ℕ) (x : Contents) (b t : ℕ) → after (Erase (first + i)) (with_erased first i x) b t ≡ with_erased first (i + 1) x b t
erased_at first i x b t = elim (cases_eq (first + i) b) [
  | inl same ↦ cond-true _ _ _ (eq-eqb (first + i) b same) ∙ sym (cond-true _ _ _ (and_from _ _ (le-leb first b (omega arith)) (lt-ltb b (first + (i + 1)) (omega arith))))
  | inr other ↦ cond-false _ _ _ (ne_eqb (first + i) b other) ∙ ap (λ (k : Bool). cond k blank (x b t)) (more_erased first i b other)
]

-- one block more
pub erased_one : (first i b : ℕ) (old now new : Option Contents) → b ≡ first + i → now ≡ option_map (with_erased first i) old → new ≡ option_map (after (Erase b)) now → new ≡ option_map (with_erased first (i + 1)) old
erased_one first i b None now new at e f = f ∙ ap (option_map (after (Erase b))) e
erased_one first i b (Some x) now new at e f = f ∙ ap (option_map (after (Erase b))) e ∙ ap (λ (k : ℕ). Some (after (Erase k) (with_erased first i x))) at
    ∙ ap Some (fun_ext (λ c. fun_ext (λ t. erased_at first i x c t)))

pub asked_one : (first i b : ℕ) (old now new : Option Story) → b ≡ first + i → now ≡ asking_erases first i old → new ≡ with_request (Erase b) now → new ≡ asking_erases first (i + 1) old
asked_one first i b old now new at e f =
    let one : suc i ≡ i + 1 = omega arith in
    subst (λ (k : ℕ). new ≡ asking_erases first k old) one (f ∙ ap (with_request (Erase b)) e ∙ ap (λ (k : ℕ). with_request (Erase k) (asking_erases first i old)) at)

module _ (shape : Shape) (served : is_served shape ≡ true) where
  -- the blocks of a place are those of its slots
  place_test : (p q t : ℕ) → t < 256 → (leb (p * blocks_per_place shape) (block_at shape q t) && ltb (block_at shape q t) (p * blocks_per_place shape + blocks_per_place shape)) ≡ eqb p q
  place_test p q t below =
      let k = blocks_per_place shape in
      let b = slot_block shape served t below in
      elim (cases_order p q) [
        | inl same ↦ let m : p * k ≡ q * k = ap (λ (r : ℕ). r * k) same in
            and_from _ _ (le-leb (p * k) (block_at shape q t) (omega arith)) (lt-ltb (block_at shape q t) (p * k + k) (omega arith)) ∙ sym (eq-eqb p q same)
        | inr other ↦ elim other [
          | inl less ↦ let fits : p * k + k ≤ q * k = row_fits p k q k less (omega arith) in
              and_right (leb (p * k) (block_at shape q t)) _ (le-ltb (block_at shape q t) (p * k + k) (omega arith)) ∙ sym (ne_eqb p q (λ e. omega arith))
          | inr more ↦ let fits : q * k + k ≤ p * k = row_fits q k p k more (omega arith) in
              and_left _ _ (lt-leb (p * k) (block_at shape q t) (omega arith)) ∙ sym (ne_eqb p q (λ e. omega arith))
        ]
      ]

  either_blank : (k : Bool) → cond k blank blank ≡ blank
  either_blank true = refl
  either_blank false = refl

  place_at : (x : Contents) (p q t : ℕ) → slots_in shape (with_erased (p * blocks_per_place shape) (blocks_per_place shape) x) q t ≡ after (Erase p) (slots_in shape x) q t
  place_at x p q t = elim (cases_lt t 256) [
    | inl below ↦ slot_in shape (with_erased (p * blocks_per_place shape) (blocks_per_place shape) x) q t below
        ∙ ap (λ (k : Bool). cond k blank (x (block_at shape q t) (t % slots_per_block shape))) (place_test p q t below)
        ∙ ap (λ (b : List ℕ). cond (eqb p q) blank b) (sym (slot_in shape x q t below))
    | inr past ↦ slot_past shape (with_erased (p * blocks_per_place shape) (blocks_per_place shape) x) q t past
        ∙ sym (ap (λ (b : List ℕ). cond (eqb p q) blank b) (slot_past shape x q t past) ∙ either_blank (eqb p q))
  ]

  pub erased_slots : (old new : Option Contents) (p count : ℕ) → count ≡ blocks_per_place shape → new ≡ option_map (with_erased (p * blocks_per_place shape) count) old → option_map (slots_in shape) new ≡ option_map (after (Erase p)) (option_map (slots_in shape) old)
  erased_slots None new p count all e = ap (option_map (slots_in shape)) e
  erased_slots (Some x) new p count all e = ap (option_map (slots_in shape)) e ∙ ap (λ (k : ℕ). Some (slots_in shape (with_erased (p * blocks_per_place shape) k x))) all
      ∙ ap Some (fun_ext (λ q. fun_ext (λ t. place_at x p q t)))
