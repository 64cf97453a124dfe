-- Words of four bytes leave the register as their bytes do one by one, and so do four words at once.
use Rattle.std.proofs.Common.{◌≡◌, ℕ, zero, suc, ◌+◌, ◌*◌, ◌/◌, ◌%◌, ◌^◌, ◌<◌, List, [], ◌∷◌, length, get_or, take, drop, refl, sym, ap, ◌∙◌, arith}
use Rattle.std.specs.Prelude.{bit_xor, fold}
use Rattle.std.specs.Simd.{first_chunks}
use Rattle.std.specs.Int.{w32, from_le_bytes}
use Rattle.std.proofs.lemmas.List.{take-append-drop}
use Rattle.std.proofs.lemmas.List.Sums.{fold-append}
use Rattle.std.proofs.Math.Seq.{take-add}
use Rattle.std.proofs.Math.Nat.{suc-mul}
use Rattle.std.specs.Int.Bits.{xor_assoc, xor_zero_r}
use Rattle.std.proofs.lemmas.Nat.{xor_comm, xor_lt, le_bytes_4}
use Rattle.crc_sum.proofs.ShiftLemmas.{◌⊕◌, shifted_8_xor, shifted_8_split, added}
use Rattle.crc_sum.specs.Crc.{shifted_8, with_byte, register_after}
use Rattle.crc_sum.specs.Tables.{shifted_bytes}

-- a shift of an exclusive or is the exclusive or of the shifts
shifted_bytes_xor : (k a b : ℕ) → shifted_bytes k (a ⊕ b) ≡ shifted_bytes k a ⊕ shifted_bytes k b
unfolding shifted_bytes
shifted_bytes_xor zero a b = refl
shifted_bytes_xor (suc k) a b =
    ap (shifted_bytes k) (shifted_8_xor a b) ∙ shifted_bytes_xor k (shifted_8 a) (shifted_8 b)

-- the lowest byte is shifted for itself, and the rest by a byte less
lowest_first : (k w : ℕ)
    → shifted_bytes (suc k) w ≡ shifted_bytes (suc k) (w % 256) ⊕ shifted_bytes k (w / 256)
unfolding shifted_bytes
lowest_first k w =
    ap (shifted_bytes k) (shifted_8_split w) ∙ shifted_bytes_xor k (shifted_8 (w % 256)) (w / 256)

-- the other way round
turned : (a b c d : ℕ) → a ⊕ (b ⊕ (c ⊕ d)) ≡ ((d ⊕ c) ⊕ b) ⊕ a
turned a b c d =
    xor_comm a _ ∙ ap (λ (x : ℕ). x ⊕ a) (xor_comm b _ ∙ ap (λ (x : ℕ). x ⊕ b) (xor_comm c d))

-- the four bytes of a word, each shifted for itself
pub each_byte : (k w : ℕ) → w < 2 ^ 32
    → ((shifted_bytes (suc k) (w / 16777216 % 256) ⊕ shifted_bytes (suc (suc k)) (w / 65536 % 256))
    ⊕ shifted_bytes (suc (suc (suc k))) (w / 256 % 256))
    ⊕ shifted_bytes (suc (suc (suc (suc k)))) (w % 256)
    ≡ shifted_bytes (suc (suc (suc (suc k)))) w
each_byte k w low =
    let third : w / 256 / 256 ≡ w / 65536 = omega arith in
    let fourth : w / 65536 / 256 ≡ w / 16777216 = omega arith in
    let last : w / 16777216 ≡ w / 16777216 % 256 = omega (arith, low) in
    let a = shifted_bytes (suc (suc (suc (suc k)))) (w % 256) in
    let b = shifted_bytes (suc (suc (suc k))) (w / 256 % 256) in
    let c = shifted_bytes (suc (suc k)) (w / 65536 % 256) in
    let d = shifted_bytes (suc k) (w / 16777216 % 256) in
    sym (
    lowest_first (suc (suc (suc k))) w
    ∙ ap (bit_xor a) (
    lowest_first (suc (suc k)) (w / 256)
    ∙ ap (bit_xor b) (
    ap (shifted_bytes (suc (suc k))) third
    ∙ lowest_first (suc k) (w / 65536)
    ∙ ap (bit_xor c) (ap (shifted_bytes (suc k)) (fourth ∙ last))
    )
    )
    ∙ turned a b c d
    )

-- the same, as the bytes are held and looked up
each_looked_up : (k w k1 k2 k3 k4 : ℕ) (held : List ℕ)
    → held ≡ w % 256 ∷ w / 256 % 256 ∷ w / 65536 % 256 ∷ w / 16777216 % 256 ∷ []
    → w < 2 ^ 32
    → k1 ≡ suc k → k2 ≡ suc (suc k) → k3 ≡ suc (suc (suc k)) → k4 ≡ suc (suc (suc (suc k)))
    → ((shifted_bytes k1 (get_or held 3 0) ⊕ shifted_bytes k2 (get_or held 2 0))
    ⊕ shifted_bytes k3 (get_or held 1 0)) ⊕ shifted_bytes k4 (get_or held 0 0)
    ≡ shifted_bytes k (shifted_bytes 4 w)
unfolding shifted_bytes
each_looked_up k w k1 k2 k3 k4 held parts low one two three four =
    rw (parts, one, two, three, four) (each_byte k w low)

-- a word, byte by byte
bytes_of_word : (r w : ℕ) → w < 2 ^ 32
    → register_after r (w % 256 ∷ w / 256 % 256 ∷ w / 65536 % 256 ∷ w / 16777216 % 256 ∷ [])
    ≡ shifted_bytes 4 (r ⊕ w)
unfolding shifted_bytes
bytes_of_word r w low =
    let third : w / 256 / 256 ≡ w / 65536 = omega arith in
    let fourth : w / 65536 / 256 ≡ w / 16777216 = omega arith in
    let none : w / 16777216 / 256 ≡ 0 = omega (arith, low) in
    let after_first = with_byte r (w % 256) in
    let after_second = with_byte after_first (w / 256 % 256) in
    let after_third = with_byte after_second (w / 65536 % 256) in
    let after_fourth = with_byte after_third (w / 16777216 % 256) in
    sym (
    ap (λ (x : ℕ). shifted_8 (shifted_8 (shifted_8 x))) (added r w)
    ∙ ap (λ (x : ℕ). shifted_8 (shifted_8 x))
    (added after_first (w / 256) ∙ ap (bit_xor after_second) third)
    ∙ ap shifted_8 (added after_second (w / 65536) ∙ ap (bit_xor after_third) fourth)
    ∙ added after_third (w / 16777216) ∙ ap (bit_xor after_fourth) none ∙ xor_zero_r after_fourth
    )

-- a word is added at once, and then shifted
pub word_looked_up : (k r w : ℕ) (word held : List ℕ)
    → r < 2 ^ 32 → w < 2 ^ 32
    → w ≡ from_le_bytes w32 word → length word ≡ 4 → ((i : ℕ) → get_or word i 0 < 256)
    → held ≡ (r ⊕ w) % 256 ∷ (r ⊕ w) / 256 % 256 ∷ (r ⊕ w) / 65536 % 256 ∷ (r ⊕ w) / 16777216 % 256 ∷ []
    → ((shifted_bytes (k + 1) (get_or held 3 0) ⊕ shifted_bytes (k + 1 + 1) (get_or held 2 0))
    ⊕ shifted_bytes (k + 2 + 1) (get_or held 1 0)) ⊕ shifted_bytes (k + 3 + 1) (get_or held 0 0)
    ≡ shifted_bytes k (register_after r word)
word_looked_up k r w word held low_r low_w value long all parts =
    each_looked_up k (r ⊕ w) _ _ _ _ held parts (xor_lt 32 r w low_r low_w)
    (omega arith) (omega arith) (omega arith) (omega arith)
    ∙ ap (shifted_bytes k) (
    sym (bytes_of_word r w low_w)
    ∙ ap (λ (xs : List ℕ). register_after r xs) (le_bytes_4 word w long all value)
    )

-- what the register held is shifted for itself
pub apart : (r : ℕ) (bytes : List ℕ)
    → register_after r bytes ≡ shifted_bytes (length bytes) r ⊕ register_after 0 bytes
unfolding shifted_bytes with_byte
apart r [] = sym (xor_zero_r r)
apart r (x ∷ xs) =
    apart (with_byte r x) xs
    ∙ ap (λ (s : ℕ). s ⊕ register_after 0 xs) (
    ap (shifted_bytes (length xs)) (shifted_8_xor r x)
    ∙ shifted_bytes_xor (length xs) (shifted_8 r) (shifted_8 x)
    )
    ∙ xor_assoc (shifted_bytes (length xs) (shifted_8 r)) (shifted_bytes (length xs) (shifted_8 x)) (register_after 0 xs)
    ∙ ap (bit_xor (shifted_bytes (length xs) (shifted_8 r))) (sym (apart (with_byte 0 x) xs))

-- the same for a word
word_apart : (r : ℕ) (word : List ℕ) → length word ≡ 4
    → register_after r word ≡ shifted_bytes 4 r ⊕ register_after 0 word
word_apart r word long =
    apart r word ∙ ap (λ (n : ℕ). shifted_bytes n r ⊕ register_after 0 word) long

-- each for itself, they come to the same as one word after the other
each_for_itself : (a b c d : ℕ)
    → shifted_bytes 4 (shifted_bytes 4 (shifted_bytes 4 a ⊕ b) ⊕ c) ⊕ d
    ≡ shifted_bytes 12 a ⊕ (shifted_bytes 8 b ⊕ (shifted_bytes 4 c ⊕ d))
unfolding shifted_bytes
each_for_itself a b c d = simp (shifted_8_xor, xor_assoc)

-- four words, each looked up for itself
four_words : (r : ℕ) (a b c d : List ℕ)
    → length b ≡ 4 → length c ≡ 4 → length d ≡ 4
    → ((register_after 0 d ⊕ shifted_bytes 4 (register_after 0 c))
    ⊕ shifted_bytes 8 (register_after 0 b)) ⊕ shifted_bytes 12 (register_after r a)
    ≡ register_after (register_after (register_after (register_after r a) b) c) d
four_words r a b c d long_b long_c long_d =
    let after_a = register_after r a in
    let after_b = register_after after_a b in
    let after_c = register_after after_b c in
    let of_b = register_after 0 b in
    let of_c = register_after 0 c in
    let of_d = register_after 0 d in
    sym (
    word_apart after_c d long_d
    ∙ ap (λ (x : ℕ). shifted_bytes 4 x ⊕ of_d) (
    word_apart after_b c long_c
    ∙ ap (λ (x : ℕ). shifted_bytes 4 x ⊕ of_c) (word_apart after_a b long_b)
    )
    ∙ each_for_itself after_a of_b of_c of_d
    ∙ turned (shifted_bytes 12 after_a) (shifted_bytes 8 of_b) (shifted_bytes 4 of_c) of_d
    )

-- the words of a chunk, each looked up for itself
pub chunk_taken : (r : ℕ) (chunk : List (List ℕ)) → length chunk ≡ 4
    → length (get_or chunk 1 []) ≡ 4 → length (get_or chunk 2 []) ≡ 4 → length (get_or chunk 3 []) ≡ 4
    → ((register_after 0 (get_or chunk 3 []) ⊕ shifted_bytes 4 (register_after 0 (get_or chunk 2 [])))
    ⊕ shifted_bytes 8 (register_after 0 (get_or chunk 1 [])))
    ⊕ shifted_bytes 12 (register_after r (get_or chunk 0 []))
    ≡ fold register_after r chunk
chunk_taken r [] long = absurd (omega (arith, long))
chunk_taken r (a ∷ []) long = absurd (omega (arith, long))
chunk_taken r (a ∷ b ∷ []) long = absurd (omega (arith, long))
chunk_taken r (a ∷ b ∷ c ∷ []) long = absurd (omega (arith, long))
chunk_taken r (a ∷ b ∷ c ∷ d ∷ []) long = four_words r a b c d
chunk_taken r (a ∷ b ∷ c ∷ d ∷ e ∷ xs) long = absurd (omega (arith, long))

-- the whole chunks of a list, each taken at once, come to the same as its elements
chunks_taken : {A : Type 0} (f : ℕ → A → ℕ) (k n : ℕ) (r : ℕ) (xs : List A)
    → fold (λ s chunk. fold f s chunk) r (first_chunks k n xs) ≡ fold f r (take (n * k) xs)
chunks_taken f k zero r xs =
    let none : 0 ≡ 0 * k = omega arith in
    ap (λ (m : ℕ). fold f r (take m xs)) none
chunks_taken f k (suc n) r xs =
    let longer : k + n * k ≡ suc n * k = omega (arith, suc-mul n k) in
    chunks_taken f k n (fold f r (take k xs)) (drop k xs)
    ∙ sym (fold-append f r (take k xs) (take (n * k) (drop k xs)))
    ∙ ap (fold f r) (sym (take-add k (n * k) xs) ∙ ap (λ (m : ℕ). take m xs) longer)

-- all elements, by chunks and the rest one by one
pub all_taken : {A : Type 0} (f : ℕ → A → ℕ) (k r n : ℕ) (xs : List A)
    → fold f (fold (λ s chunk. fold f s chunk) r (first_chunks k n xs)) (drop (n * k) xs) ≡ fold f r xs
all_taken f k r n xs =
    ap (λ (s : ℕ). fold f s (drop (n * k) xs)) (chunks_taken f k n r xs)
    ∙ sym (fold-append f r (take (n * k) xs) (drop (n * k) xs))
    ∙ ap (fold f r) (take-append-drop (n * k) xs)
