-- Which page may leave its frame.
use Rattle.std.proofs.Common.{◌≡◌, ◌⊎◌, ◌≤◌, ℕ, false, eqb, nat_le, List, [], ◌∷◌, Option, Some, None, IfSome, IfNone, Contains, refl, sym, ◌∙◌, ap, subst, inl, inr, arith}
use Rattle.std.proofs.lemmas.Bool.{cases_Bool, cases_eq, eqb-true, eq-eqb, leb-true, leb-false, false≢true}
use Rattle.slab.specs.Slab.{Slab, get}
use Rattle.slab.proofs.SlabLemmas.{Contains-cons_cases}
use Rattle.buffer_pool.specs.declared.pool.Buffer.{Buffer}
use Rattle.buffer_pool.specs.declared.room.Oldest.{Oldest}
use Rattle.buffer_pool.specs.Rooms.{IsOldest, AreAllPinned, used_at, older}

-- a buffer without a pin
pub record IsUnpinned (buffers : Slab Buffer) (o : Oldest) : Type 0 where
  pub key : ℕ
  pub buffer : Buffer
  pub stored : get buffers key ≡ Some buffer
  pub unpinned : buffer.pins ≡ 0
  pub unit_is : buffer.unit ≡ o.unit
  pub page_is : buffer.page ≡ o.page
  pub used_is : buffer.used ≡ o.used

-- the buffers without a pin are among those left
abbrev pub AreLeft : Slab Buffer → List (ℕ × Buffer) → Type 0
AreLeft buffers left =
    (k : ℕ) (b : Buffer) → get buffers k ≡ Some b → b.pins ≡ 0 → Contains left (k, b)

-- or were used later than this one
pub record AreLeftOrLater (buffers : Slab Buffer) (left : List (ℕ × Buffer)) (o : Oldest) : Type 0 where
  pub there : IsUnpinned buffers o
  pub others : (k : ℕ) (b : Buffer) → get buffers k ≡ Some b → b.pins ≡ 0
      → Contains left (k, b) ⊎ (o.used ≤ b.used)

-- the oldest of those that aren't left
abbrev pub SoFar : Slab Buffer → List (ℕ × Buffer) → Option Oldest → Type 0
SoFar buffers left None = AreLeft buffers left
SoFar buffers left (Some o) = AreLeftOrLater buffers left o

module _ (buffers : Slab Buffer) (left rest : List (ℕ × Buffer)) (key : ℕ) (buffer : Buffer)
    (step : left ≡ (key, buffer) ∷ rest) (stored : get buffers key ≡ Some buffer) where
  own : buffer.pins ≡ 0 → IsUnpinned buffers (used_at buffer.unit buffer.page buffer.used)
  own zero = record {
    key = key;
    buffer = buffer;
    stored = stored;
    unpinned = zero;
    unit_is = refl;
    page_is = refl;
    used_is = refl;
  }

  -- an entry that is left is this one, or is left later
  this_or_later : (k : ℕ) (b : Buffer) → Contains left (k, b) → (buffer ≡ b) ⊎ Contains rest (k, b)
  this_or_later k b has =
      let at = subst (λ (l : List (ℕ × Buffer)). Contains l (k, b)) step has in
      elim (Contains-cons_cases (key, buffer) (k, b) rest at) [
        | inl same ↦ inl (ap (λ (e : ℕ × Buffer). e.1) same)
        | inr later ↦ inr later
      ]

  pinned_not : eqb buffer.pins 0 ≡ false → (b : Buffer) → buffer ≡ b → b.pins ≡ 0 → ⊥
  pinned_not some b same zero =
      let none = eq-eqb buffer.pins 0 (ap (λ (e : Buffer). e.pins) same ∙ zero) in
      absurd (false≢true (sym some ∙ none))

  pub so_far_more : (o : Option Oldest) → SoFar buffers left o → SoFar buffers rest (older o buffer)
  so_far_more None so = elim (cases_Bool (eqb buffer.pins 0)) [
    | inl none ↦ rw none (record {
      there = own (eqb-true _ _ none);
      others = λ k b found zero. elim (this_or_later k b (so k b found zero)) [
        | inl same ↦ inr (omega (arith, ap (λ (e : Buffer). e.used) same))
        | inr later ↦ inl later
      ];
    })
    | inr some ↦ rw some (λ k b found zero. elim (this_or_later k b (so k b found zero)) [
      | inl same ↦ absurd (pinned_not some b same zero)
      | inr later ↦ later
    ])
  ]
  so_far_more (Some o) so = elim (cases_Bool (eqb buffer.pins 0)) [
    | inr some ↦ rw some (record {
      there = so.there;
      others = λ k b found zero. elim (so.others k b found zero) [
        | inr done ↦ inr done
        | inl has ↦ elim (this_or_later k b has) [
          | inl same ↦ absurd (pinned_not some b same zero)
          | inr later ↦ inl later
        ]
      ];
    })
    | inl none ↦ rw none (elim (cases_Bool (nat_le o.used buffer.used)) [
      | inl less ↦ rw less (record {
        there = so.there;
        others = λ k b found zero. elim (so.others k b found zero) [
          | inr done ↦ inr done
          | inl has ↦ elim (this_or_later k b has) [
            | inl same ↦ inr (omega (arith, leb-true _ _ less, ap (λ (e : Buffer). e.used) same))
            | inr later ↦ inl later
          ]
        ];
      })
      | inr more ↦ rw more (record {
        there = own (eqb-true _ _ none);
        others = λ k b found zero. elim (so.others k b found zero) [
          | inr done ↦ inr (omega (arith, done, leb-false _ _ more))
          | inl has ↦ elim (this_or_later k b has) [
            | inl same ↦ inr (omega (arith, ap (λ (e : Buffer). e.used) same))
            | inr later ↦ inl later
          ]
        ];
      })
    ])
  ]

none_left : (k : ℕ) (b : Buffer) → Contains {X = ℕ × Buffer} [] (k, b) → ⊥
none_left k b has = absurd (let within = has.1 in omega (arith, within))

pub so_far_oldest : (buffers : Slab Buffer) (left : List (ℕ × Buffer)) (o : Option Oldest)
    → left ≡ [] → SoFar buffers left o → IfSome o (IsOldest buffers)
so_far_oldest buffers left None none so = tt
so_far_oldest buffers left (Some o) none so = record {
  key = so.there.key;
  buffer = so.there.buffer;
  stored = so.there.stored;
  unpinned = so.there.unpinned;
  unit_is = so.there.unit_is;
  page_is = so.there.page_is;
  used_is = so.there.used_is;
  oldest = λ k b found zero. elim (so.others k b found zero) [
    | inr done ↦ done
    | inl has ↦
        absurd (none_left k b (subst (λ (l : List (ℕ × Buffer)). Contains l (k, b)) none has))
  ];
}

pub so_far_none : (buffers : Slab Buffer) (left : List (ℕ × Buffer)) (o : Option Oldest)
    → left ≡ [] → SoFar buffers left o → IfNone o (AreAllPinned buffers)
so_far_none buffers left (Some o) none so = tt
so_far_none buffers left None none so = λ key b found. elim (cases_eq b.pins 0) [
  | inl zero ↦
      let has = subst (λ (l : List (ℕ × Buffer)). Contains l (key, b)) none (so key b found zero) in
      absurd (none_left key b has)
  | inr some ↦ omega (arith, some)
]
