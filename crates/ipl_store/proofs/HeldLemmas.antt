-- A page is held exactly where its buffer has a pin.
use Rattle.std.proofs.Common.{◌≡◌, ◌↔◌, ℕ, nat_lt, Bool, true, false, Option, Some, None, refl, sym, ◌∙◌, ap, arith, IsTrue}
use Rattle.std.proofs.lemmas.Bool.{false≢true}
use Rattle.std.proofs.lemmas.Bool.Decides.{nat_tests}
use Rattle.slab.specs.Slab.{Slab}
use Rattle.buffer_pool.specs.declared.pool.Buffer.{Buffer}
use Rattle.buffer_pool.specs.Holding.{is_pinned, IsHeld}
use Rattle.buffer_pool.specs.Laws.{buffer_of, TellsBuffers}

-- tests that answer alike
alike : (a b : Bool) → (a ≡ true → b ≡ true) → (b ≡ true → a ≡ true) → a ≡ b
alike true b there back = sym (there refl)
alike false true there back = back refl
alike false false there back = refl

module _ (buffers : Slab Buffer) (tells : TellsBuffers buffers) (u page : ℕ) where
  -- a buffer with a pin holds its page
  pub pinned_held : (o : Option Buffer) → buffer_of buffers u page ≡ o → is_pinned o ≡ true
      → IsHeld buffers u page
  pinned_held None there pinned = absurd (false≢true pinned)
  pinned_held (Some b) there pinned =
      let some : nat_lt 0 b.pins ≡ true = pinned in
      let (key, stored, unit, its_page) = tells.stands u page b there in record {
        key = key;
        buffer = b;
        stored = stored;
        unit_is = unit;
        page_is = its_page;
        pinned = grind (arith, nat_tests);
      }

  pub held_pinned : IsHeld buffers u page → is_pinned (buffer_of buffers u page) ≡ true
  held_pinned held =
      let found = tells.found u page held.key held.buffer held.stored held.unit_is held.page_is in
      let pins : nat_lt 0 held.buffer.pins ≡ true = grind (arith, nat_tests) in
      ap is_pinned found ∙ pins

  pub held_is : (result : Bool) → IsTrue result ↔ IsHeld buffers u page
      → result ≡ is_pinned (buffer_of buffers u page)
  held_is result is = alike result (is_pinned (buffer_of buffers u page))
      (λ yes. held_pinned (is.0 yes))
      (λ yes. is.1 (pinned_held (buffer_of buffers u page) refl yes))
