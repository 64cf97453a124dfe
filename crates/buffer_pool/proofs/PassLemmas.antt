-- A frame that goes from one page to another: the pool between the two.
use Rattle.std.proofs.Common.{◌≡◌, ℕ, ◌<◌, ◌≤◌, min, ◌+◌, cond, inl, inr, List, length, slice_set, Option, Some, None, IsSome, is_some, refl, sym, ◌∙◌, ap, subst, arith}
use Rattle.std.proofs.lemmas.Bool.{cases_eq}
use Rattle.std.proofs.lemmas.List.Sums.{sum_by-set}
use Rattle.slab.specs.Slab.{Slab, get, slab_len, Updates}
use Rattle.slab.proofs.SlabLemmas.{ContainsKey-within, Updates-set}
use Rattle.buffer_pool.specs.declared.pool.Buffer.{Buffer}
use Rattle.buffer_pool.specs.declared.pool.Pool.TheInside.{Inside}
use Rattle.buffer_pool.specs.Index.{page_number, key_of, with_key, NumbersRise}
use Rattle.buffer_pool.specs.Pools.{PoolView, view_of, HasPage, IsAbsent, AreBefore, IsPoolSound, Changes, new_buffer}
use Rattle.buffer_pool.specs.Passes.{LeavesFrame, Passes}
use Rattle.buffer_pool.proofs.SoundLemmas.{has_inside, sound_added, sound_pool, sound_removed}
use Rattle.buffer_pool.proofs.IndexedLemmas.{are_once}
use Rattle.buffer_pool.proofs.UseLemmas.{before_removed, before_used, used_last}

-- the buffers without one of them
abbrev pub without : Slab Buffer → ℕ → Slab Buffer
without buffers key = record buffers { slots = slice_set buffers.slots key None }

without_is : (buffers : Slab Buffer) (key : ℕ) → IsSome (get buffers key)
    → Updates buffers (without buffers key) key None
without_is buffers key there =
    Updates-set buffers (without buffers key) key None (ContainsKey-within buffers key there) refl

without_len : (buffers : Slab Buffer) (key : ℕ) (was : Buffer) → get buffers key ≡ Some was
    → slab_len (without buffers key) + 1 ≡ slab_len buffers
without_len buffers key was there =
    let within = ContainsKey-within buffers key (subst IsSome (sym there) refl) in
    let sums : slab_len (without buffers key) + cond (is_some (get buffers key)) 1 0
    ≡ slab_len buffers + 0 =
    sum_by-set (λ (o : Option Buffer). cond (is_some o) 1 0) buffers.slots key None None within in
    let one : ◌≡◌ {A = ℕ} (cond (is_some (get buffers key)) 1 0) 1 =
    ap (λ (o : Option Buffer). cond (is_some o) 1 0) there in
    omega (arith, sums, one)

no_buffer : (b : Buffer) → ◌≡◌ {A = Option Buffer} None (Some b) → ⊥
no_buffer b is = cc is

-- a page that was in no buffer still isn't in one
absent_still : (old new : Slab Buffer) (key unit page : ℕ) → Updates old new key None
    → IsAbsent old unit page → IsAbsent new unit page
absent_still old new key unit page did absent k has = elim (cases_eq k key) [
  | inl same ↦ no_buffer has.buffer
      (sym did.changed ∙ ap (get new) (sym same) ∙ has.stored)
  | inr apart ↦ absent k (record {
    buffer = has.buffer;
    stored = sym (did.others k apart) ∙ has.stored;
    unit_is = has.unit_is;
    page_is = has.page_is;
  })
]

-- the pool once a page has left its frame
module _ (p : Inside) (v : PoolView) (sound : IsPoolSound p) (same : view_of p ≡ v) (key unit page : ℕ)
    (less : List (ℕ × ℕ)) (number : ℕ) (number_is : number ≡ page_number unit page)
    (has : HasPage v.buffers unit page key)
    (removes : (n : ℕ) → key_of less n ≡ with_key (key_of p.index) number None n)
    (shorter : length less + 1 ≡ length p.index) where
  abbrev pub between : Inside
  between = record { buffers = without p.buffers key; index = less; limit = p.limit; clock = p.clock }

  there : HasPage p.buffers unit page key
  there = has_inside p v sound same unit page key has

  left : Updates p.buffers (without p.buffers key) key None
  left = without_is p.buffers key (subst IsSome (sym there.stored) refl)

  fewer : slab_len (without p.buffers key) + 1 ≡ slab_len p.buffers
  fewer = without_len p.buffers key there.buffer there.stored

  pub between_sound : IsPoolSound between
  between_sound = sound_removed p v sound same (without p.buffers key) less key unit page number
      p.clock number_is has left removes shorter fewer refl
      (before_removed p.buffers (without p.buffers key) key p.clock sound.counted left)

  pub leaves : LeavesFrame v (view_of between) unit page
  leaves = subst (λ (w : PoolView). LeavesFrame w (view_of between) unit page) same (record {
    key = key;
    has = there;
    buffers = left;
    len = fewer;
    limit = refl;
    clock = refl;
  })

  -- a page that was in no frame isn't in one
  pub absent_between : (to_unit to_page : ℕ) → IsAbsent v.buffers to_unit to_page
      → IsAbsent (view_of between).buffers to_unit to_page
  absent_between to_unit to_page absent =
      absent_still p.buffers (without p.buffers key) key to_unit to_page left
      (subst (λ (w : PoolView). IsAbsent w.buffers to_unit to_page) (sym same) absent)

  -- another page comes into the frame
  module _ (new : Slab Buffer) (more : List (ℕ × ℕ)) (clock to_unit to_page to_number : ℕ)
      (to_number_is : to_number ≡ page_number to_unit to_page) (low : to_page < 15)
      (absent : IsAbsent v.buffers to_unit to_page)
      (did : Changes p.buffers new key (λ _. new_buffer to_unit to_page p.clock))
      (len : slab_len new ≡ slab_len p.buffers) (room : new.capacity ≡ p.buffers.capacity)
      (adds : (n : ℕ) → key_of more n ≡ with_key (key_of less) to_number (Some key) n)
      (longer : length more ≡ length less + 1)
      (end : p.clock ≤ 18446744073709551615)
      (clock_is : clock ≡ min (p.clock + 1) 18446744073709551615) where
    came : Updates (without p.buffers key) new key (Some (new_buffer to_unit to_page p.clock))
    came = record {
      changed = did.here there.buffer there.stored;
      others = λ other apart. did.others other apart ∙ sym (left.others other apart);
    }

    counted : AreBefore new clock
    counted = subst (AreBefore new) (sym clock_is)
        (before_used (without p.buffers key) new key p.clock _ between_sound.counted end came refl)

    pub passed_sound : IsPoolSound (record { buffers = new; index = more; limit = p.limit; clock = clock })
    passed_sound =
        let holds = sound.holds in
        sound_added between (view_of between) between_sound refl new more key to_unit to_page
        to_number clock _ refl refl to_number_is low (absent_between to_unit to_page absent)
        (omega (arith, fewer, holds)) left.changed came adds longer (omega (arith, len, fewer)) room
        counted

    pub passes : NumbersRise less → Passes v
        (view_of (record { buffers = new; index = more; limit = p.limit; clock = clock }))
        unit page to_unit to_page (record { key = key; unit = to_unit; page = to_page })
    passes rise = record {
      between = view_of between;
      sound = sound_pool between (view_of between) between_sound refl rise;
      leaves = leaves;
      comes = record {
        of = (refl, refl);
        key = left.changed;
        buffers = came;
        len = omega (arith, len, fewer);
        counts = record { limit = refl; clock = clock_is };
        last = used_last (without p.buffers key) _ to_unit to_page key p.clock _
            (are_once more new passed_sound.indexed) between_sound.counted came refl refl refl;
      };
    }
