-- What is carried, packed record by record.
use Rattle.std.proofs.Common.{◌≡◌, ◌<◌, ◌≤◌, ◌+◌, ℕ, true, false, List, [], ◌∷◌, ◌++◌, length, refl, sym, ◌∙◌, ap, arith, ◌≢◌, inl, inr, append_assoc, length-append}
use Rattle.std.proofs.lemmas.Bool.{cases_Bool, leb-true, leb-false}
use Rattle.std.proofs.lemmas.List.{append-nil}
use Rattle.std.proofs.lemmas.List.Elements.{All-nil, All-cons, All-push}
use Rattle.std.proofs.lemmas.Grind.{flat_map-append}
use Rattle.ipl_base.specs.declared.limits.TheConstants.{VERSION}
use Rattle.ipl_format.specs.Record.{Record as LogRecord, IsRecord, log_bytes, record_bytes}
use Rattle.ipl_format.proofs.RecordLemmas.{records_have_sizes}
use Rattle.log_records.specs.View.{Versioned}
use Rattle.ipl_meaning.specs.Last.{size_of, size_of_all, has_room, pack_after}
use Rattle.selective_merge.specs.Packs.{payloads_of, payload_of}
use Rattle.selective_merge.proofs.LogLemmas.{bytes_size}
use Rattle.selective_merge.specs.Packing.{pack_open, IsAdded, IsPayload}

-- the record has room exactly where it fits
room_there : (full : List LogRecord) (r : LogRecord) → size_of_all full + size_of r ≤ 480
    → has_room full r ≡ true
room_there full r fits = elim (cases_Bool (has_room full r))
    [ inl is ↦ is | inr not_so ↦ absurd (omega (arith, fits, leb-false _ _ not_so)) ]

no_room_there : (full : List LogRecord) (r : LogRecord) → 480 < size_of_all full + size_of r
    → has_room full r ≡ false
no_room_there full r over = elim (cases_Bool (has_room full r))
    [ inr is ↦ is | inl is ↦ absurd (omega (arith, over, leb-true _ _ is)) ]

-- the payload with one record more
abbrev pub with_entry : Versioned → LogRecord → Versioned
with_entry p r = record { version = p.version; bytes = p.bytes ++ record_bytes p.version r }

-- the payload of these bytes
abbrev written : List ℕ → Versioned
written bytes = record { version = VERSION; bytes = bytes }

joined_bytes : (last : Versioned) (full : List LogRecord) (r : LogRecord) → IsPayload last full
    → IsRecord VERSION r → IsPayload (with_entry last r) (full ++ r ∷ [])
joined_bytes last full r spelled is = record {
  is = ap (λ (p : Versioned). with_entry p r) spelled.is
      ∙ ap written (sym (flat_map-append (record_bytes VERSION) full (r ∷ [])
      ∙ ap (λ (l : List ℕ). log_bytes VERSION full ++ l) (append-nil (record_bytes VERSION r))));
  valid = All-push (IsRecord VERSION) full r spelled.valid is;
}

size_is : (last : Versioned) (full : List LogRecord) → IsPayload last full
    → length last.bytes ≡ size_of_all full
size_is last full spelled =
    ap (λ (p : Versioned). length p.bytes) spelled.is ∙ bytes_size VERSION full

-- a record that fits
pub fitted : (closed : List Versioned) (full : List LogRecord) (r : LogRecord) (last : Versioned)
    → IsPayload last full → IsRecord VERSION r → length last.bytes + length (record_bytes last.version r) ≤ 480
    → IsAdded closed full r closed (with_entry last r)
fitted closed full r last spelled is fits = record {
  next = full ++ r ∷ [];
  spelled = joined_bytes last full r spelled is;
  same = λ rest. ap (λ (packs : List (List LogRecord)). closed ++ payloads_of packs)
      (same_packs full rest
      (room_there full r
      (omega (arith, fits, records_have_sizes last.version r, size_is last full spelled))));
}
  where
    same_packs : (full : List LogRecord) (rest : List LogRecord) → has_room full r ≡ true
        → pack_open (full ++ r ∷ []) rest ≡ pack_open full (r ∷ rest)
    same_packs [] rest room = refl
    same_packs (x ∷ full) rest room = rw room refl

-- one that doesn't begins the next payload
pub begun : (closed : List Versioned) (full : List LogRecord) (r : LogRecord) (last after : Versioned)
    → IsPayload last full → IsRecord VERSION r → 480 < length last.bytes + length (record_bytes last.version r)
    → after ≡ with_entry (payload_of []) r
    → IsAdded closed full r (closed ++ last ∷ []) after
begun closed [] r last after spelled is over same =
    absurd (let short = is.value in
    omega (arith, over, records_have_sizes last.version r, size_is last [] spelled, short))
begun closed (x ∷ full) r last after spelled is over same = record {
  next = r ∷ [];
  spelled = record {
    is = same ∙ ap written (sym (append-nil (record_bytes VERSION r)));
    valid = All-cons (IsRecord VERSION) r [] is (All-nil (IsRecord VERSION));
  };
  same = λ rest.
      let none : has_room (x ∷ full) r ≡ false =
      no_room_there (x ∷ full) r
      (omega (
        arith,
        over,
        records_have_sizes last.version r,
        size_is last (x ∷ full) spelled,
      )) in
      rw none (append_assoc closed (last ∷ []) (payloads_of (pack_after (r ∷ []) rest))
      ∙ ap (λ (l : Versioned). closed ++ (l ∷ payloads_of (pack_after (r ∷ []) rest)))
      spelled.is);
}

pack_after_some : (full rest : List LogRecord) → 1 ≤ length (pack_after full rest)
pack_after_some full [] = omega arith
pack_after_some full (r ∷ rest) = elim (cases_Bool (has_room full r)) [
  | inl room ↦ rw room (pack_after_some (full ++ r ∷ []) rest)
  | inr none ↦ rw none (omega arith)
]

-- with 12 full there is no place for it
pub overfull : (closed : List Versioned) (full rest : List LogRecord) (r : LogRecord) (last : Versioned)
    → IsPayload last full → IsRecord VERSION r → 480 < length last.bytes + length (record_bytes last.version r)
    → 12 ≤ length closed
    → 12 < length (closed ++ payloads_of (pack_open full (r ∷ rest)))
overfull closed [] rest r last spelled is over many =
    absurd (let short = is.value in
    omega (arith, over, records_have_sizes last.version r, size_is last [] spelled, short))
overfull closed (x ∷ full) rest r last spelled is over many =
    let none : has_room (x ∷ full) r ≡ false =
    no_room_there (x ∷ full) r
    (omega (arith, over, records_have_sizes last.version r, size_is last (x ∷ full) spelled))
    in
    rw none (omega (
      arith,
      many,
      length-append closed
          (payload_of (x ∷ full) ∷ payloads_of (pack_after (r ∷ []) rest)),
    ))

-- ---- finished

no_bytes : (r : LogRecord) (records : List LogRecord) → length (log_bytes VERSION (r ∷ records)) ≡ 0 → ⊥
no_bytes r records none =
    omega (
      arith,
      none,
      length-append (record_bytes VERSION r) (log_bytes VERSION records),
      records_have_sizes VERSION r,
    )

pub finished_none : (closed : List Versioned) (full : List LogRecord) (last : Versioned)
    → IsPayload last full → length last.bytes ≡ 0 → closed ≡ closed ++ payloads_of (pack_open full [])
finished_none closed [] last spelled none = sym (append-nil closed)
finished_none closed (r ∷ full) last spelled none =
    absurd (no_bytes r full (sym (ap (λ (p : Versioned). length p.bytes) spelled.is) ∙ none))

pub finished_some : (closed after : List Versioned) (full : List LogRecord) (last : Versioned)
    → IsPayload last full → length last.bytes ≢ 0 → after ≡ closed ++ last ∷ []
    → after ≡ closed ++ payloads_of (pack_open full [])
finished_some closed after [] last spelled some is = absurd (some (ap (λ (p : Versioned). length p.bytes) spelled.is))
finished_some closed after (r ∷ full) last spelled some is =
    is ∙ ap (λ (l : Versioned). closed ++ l ∷ []) spelled.is

pub finished_full : (closed : List Versioned) (full : List LogRecord) (last : Versioned)
    → IsPayload last full → length last.bytes ≢ 0 → 12 ≤ length closed
    → 12 < length (closed ++ payloads_of (pack_open full []))
finished_full closed [] last spelled some many = absurd (some (ap (λ (p : Versioned). length p.bytes) spelled.is))
finished_full closed (r ∷ full) last spelled some many =
    omega (arith, many, length-append closed (payload_of (r ∷ full) ∷ []))
