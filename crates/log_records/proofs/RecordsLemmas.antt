-- The records of a payload, one by one.
use Rattle.std.proofs.Common.{◌≡◌, ◌≤◌, ℕ, zero, suc, List, [], ◌∷◌, Option, Some, None, ◌∙◌, ap, sym, refl, subst, arith, length}
use Rattle.std.specs.Option.{option_map_or}
use Rattle.ipl_format.specs.Record.{Record, IsLogPayload, SpellsLog, log_bytes}
use Rattle.log_records.specs.Reading.{record_at, records_of, records_within}
use Rattle.log_records.proofs.RecordLemmas.{again, shorter}

nothing_read : (version : ℕ) (bytes : List ℕ) → length bytes ≡ 0 → record_at version bytes ≡ None
nothing_read version bytes h = go (record_at version bytes) refl
  where
    go : (o : Option (Record × List ℕ)) → record_at version bytes ≡ o
        → record_at version bytes ≡ None
    go None e = e
    go (Some p) e = let less = shorter version bytes p.0 p.1 e in absurd (omega arith)

within_none : (version : ℕ) (n : ℕ) (bytes : List ℕ) → record_at version bytes ≡ None
    → records_within version n bytes ≡ []
unfolding records_within
within_none version zero bytes e = refl
within_none version (suc n) bytes e =
    ap (λ (o : Option (Record × List ℕ)).
    option_map_or (λ (p : Record × List ℕ). p.0 ∷ records_within version n p.1) o []) e

within_some : (version : ℕ) (n : ℕ) (bytes : List ℕ) (r : Record) (rest : List ℕ)
    → record_at version bytes ≡ Some (r, rest)
    → records_within version (suc n) bytes ≡ r ∷ records_within version n rest
unfolding records_within
within_some version n bytes r rest h =
    ap (λ (o : Option (Record × List ℕ)).
    option_map_or (λ (p : Record × List ℕ). p.0 ∷ records_within version n p.1) o []) h

stable_step : (version : ℕ) (n m : ℕ) (bytes : List ℕ) → length bytes ≤ suc n → length bytes ≤ suc m
    → ((xs : List ℕ) → length xs ≤ n → length xs ≤ m
    → records_within version n xs ≡ records_within version m xs)
    → (o : Option (Record × List ℕ)) → record_at version bytes ≡ o
    → records_within version (suc n) bytes ≡ records_within version (suc m) bytes
stable_step version n m bytes h k below None e = within_none version (suc n) bytes e
    ∙ sym (within_none version (suc m) bytes e)
stable_step version n m bytes h k below (Some p) e =
    let less = shorter version bytes p.0 p.1 e in
    within_some version n bytes p.0 p.1 e
    ∙ (ap (λ (rs : List Record). p.0 ∷ rs) (below p.1 (omega arith) (omega arith))
    ∙ sym (within_some version m bytes p.0 p.1 e))

-- enough turns are enough
stable : (version : ℕ) (n m : ℕ) (bytes : List ℕ) → length bytes ≤ n → length bytes ≤ m
    → records_within version n bytes ≡ records_within version m bytes
stable version zero m bytes h k = let none = nothing_read version bytes (omega arith) in
    within_none version zero bytes none ∙ sym (within_none version m bytes none)
stable version (suc n) zero bytes h k = let none = nothing_read version bytes (omega arith) in
    within_none version (suc n) bytes none ∙ sym (within_none version zero bytes none)
stable version (suc n) (suc m) bytes h k =
    stable_step version n m bytes h k (λ xs p q. stable version n m xs p q)
    (record_at version bytes) refl

pub records_none : (version : ℕ) (bytes : List ℕ) → record_at version bytes ≡ None
    → records_of version bytes ≡ []
unfolding records_of
records_none version bytes e = within_none version (length bytes) bytes e

pub records_more : (version : ℕ) (bytes : List ℕ) (r : Record) (rest : List ℕ)
    → record_at version bytes ≡ Some (r, rest)
    → records_of version bytes ≡ r ∷ records_of version rest
unfolding records_of
records_more version bytes r rest h =
    let less = shorter version bytes r rest h in
    stable version (length bytes) (suc (length bytes)) bytes (omega arith) (omega arith)
    ∙ (within_some version (length bytes) bytes r rest h
    ∙ ap (λ (rs : List Record). r ∷ rs)
    (stable version (length bytes) (length rest) rest (omega arith) (omega arith)))

pub records_list : (version : ℕ) (rs : List Record) (bytes : List ℕ) → SpellsLog version bytes rs
    → records_of version bytes ≡ rs
records_list version [] bytes h =
    records_none version bytes (nothing_read version bytes (ap length h.bytes))
records_list version (r ∷ rs) bytes h =
    let valid = h.valid in
    records_more version bytes r (log_bytes version rs) (ap (record_at version) h.bytes
    ∙ again version r (log_bytes version rs) (valid 0 r (omega arith)))
    ∙ ap (λ (xs : List Record). r ∷ xs)
    (records_list version rs (log_bytes version rs)
    (record { bytes = refl; valid = λ i d within. valid (suc i) d (omega arith) }))

-- a payload spells the records that are read from it
pub spells_its_records : (version : ℕ) (payload left bytes : List ℕ) → left ≡ payload
    → bytes ≡ payload → IsLogPayload version bytes
    → SpellsLog version payload (records_of version left)
spells_its_records version payload left bytes same read (rs, spelled) =
    let P : List ℕ → Type 0 = λ xs. SpellsLog version xs rs in
    let here : SpellsLog version payload rs = subst P read spelled in
    subst (SpellsLog version payload)
    (sym (ap (records_of version) same ∙ records_list version rs payload here)) here
