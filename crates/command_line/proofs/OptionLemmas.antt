-- The numbers at options, and their bounds.
use Rattle.std.proofs.Common.{◌≡◌, ◌∙◌, ℕ, ◌<◌, ◌≤◌, ◌^◌, Bool, true, false, List, Option, Some, None, refl, ap, sym, subst, arith, codes}
use Rattle.std.specs.Prelude.{IfSome, if◌then◌else◌}
use Rattle.std.specs.Option.{option_map, option_map_or, option_and_then}
use Rattle.std.specs.Str.Parse.{IsNumeral, digits_value, without_leading_plus}
use Rattle.clap.specs.Words.{Text, Row, IsUnsignedIn, fault_of, first_of, subcommand_of}
use Rattle.clap.specs.Walk.{is_empty}
use Rattle.clap.specs.ValueTests.{is_unsigned_in}
use Rattle.clap.specs.declared.builder.value_parser.ValueParser.TheVariants.{Unsigned}
use Rattle.clap.proofs.ValueTestLemmas.{accepts-Accepts, Accepts-accepts}
use Rattle.command_line.specs.Ipl.{ipl_command}
use Rattle.command_line.specs.Chip.{Chip}
use Rattle.command_line.specs.Asked.{Asks, view, number_in, spares_at, frames_at, sessions_at, numbers_at, run_at, trial_at, chip_at, request_at, asked_at, asked_of, IsInBounds}
use Rattle.command_line.specs.declared.asked.Asked.{Asked}
use Rattle.command_line.specs.declared.asked.Request.{Request}
use Rattle.command_line.specs.declared.asked.Request.TheVariants.{Format, Serial, Check, Records}

abbrev value_of : Text → ℕ
value_of text = digits_value 10 (without_leading_plus text)

-- a text that is a number of 32 bits
abbrev IsRead : Text → Type 0
IsRead text = IsNumeral 10 (without_leading_plus text) × (value_of text < 2 ^ 32)

-- it is let through by clap's test where its number is within the bounds
pub number_let : (low high n : ℕ) (text : Text) → IsRead text → n ≡ value_of text → low ≤ n → n ≤ high → n ≡ number_in low high text
number_let low high n text read is above below =
    rw (Accepts-accepts false (Unsigned low high) text (read.0, omega (arith, read.1), omega arith, omega arith)) is

-- and no text is that isn't one
refused : (low high : ℕ) (text : Text) (b : Bool) → is_unsigned_in low high text ≡ b → (IsUnsignedIn low high text → ⊥) → low ≡ (if b then value_of text else low)
refused low high text true is fails = absurd (fails (accepts-Accepts false (Unsigned low high) text is))
refused low high text false is fails = refl

pub number_refused : (low high : ℕ) (text : Text) → (IsRead text → ⊥) → high < 2 ^ 32 → low ≡ number_in low high text
number_refused low high text unread small = refused low high text (is_unsigned_in low high text) refl (λ passes. unread (passes.0, omega (arith, passes.3)))

-- the number that is read is within the bounds
abbrev IsWithin : ℕ → ℕ → ℕ → Type 0
IsWithin low high n = (low ≤ n) × (n ≤ high)

tested : (low high : ℕ) (text : Text) (b : Bool) → low ≤ high → is_unsigned_in low high text ≡ b → IsWithin low high (if b then value_of text else low)
tested low high text true order is = let passes = accepts-Accepts false (Unsigned low high) text is in (passes.2, passes.3)
tested low high text false order is = (omega arith, order)

within : (low high : ℕ) (word : Option Text) → low ≤ high → IsWithin low high (option_map_or (number_in low high) word low)
within low high None order = (omega arith, order)
within low high (Some text) order = tested low high text (is_unsigned_in low high text) order refl

-- and so are those of a request
frames_bounds : (rows : List Row) → IsWithin 2 64 (frames_at rows)
frames_bounds rows = within 2 64 (first_of (codes "frames") rows) (omega arith)

sessions_bounds : (rows : List Row) → IsWithin 1 32 (sessions_at rows)
sessions_bounds rows = within 1 32 (first_of (codes "sessions") rows) (omega arith)

numbers_bounds : (rows : List Row) → IsWithin 120 15300 (numbers_at rows)
numbers_bounds rows = within 120 15300 (first_of (codes "numbers") rows) (omega arith)

run_bounds : (rows : List Row) → IsInBounds (run_at rows)
run_bounds rows =
    let frames = frames_bounds rows in
    let sessions = sessions_bounds rows in
    let numbers = numbers_bounds rows in
    (frames.0, frames.1, sessions.0, sessions.1, numbers.0, numbers.1)

spares_bounds : (rows : List Row) → spares_at rows ≤ 64
spares_bounds rows = (within 0 64 (first_of (codes "spares") rows) (omega arith)).1

trial_bounds : (rows : List Row) → IsInBounds (trial_at rows)
trial_bounds rows =
    let seed = within 0 4294967295 (first_of (codes "seed") rows) (omega arith) in
    let count = within 0 1000000 (first_of (codes "count") rows) (omega arith) in
    let frames = frames_bounds rows in
    let sessions = sessions_bounds rows in
    let numbers = numbers_bounds rows in
    (seed.1, count.1, frames.0, frames.1, sessions.0, sessions.1, numbers.0, numbers.1)

request_bounds : (rows : List Row) (b c d e f : Bool) → IsInBounds (if b then Format (spares_at rows) else if c then Serial (sessions_at rows) else if d then trial_at rows else if e then Check else if f then Records else run_at rows)
request_bounds rows true c d e f = spares_bounds rows
request_bounds rows false true d e f = sessions_bounds rows
request_bounds rows false false true e f = trial_bounds rows
request_bounds rows false false false true f = tt
request_bounds rows false false false false true = tt
request_bounds rows false false false false false = run_bounds rows

abbrev HasBounds : Option Asks → Type 0
HasBounds o = IfSome o (λ asks. IsInBounds asks.request)

asks_bounds : (request : Request) (o : Option Chip) → IsInBounds request → HasBounds (option_map (λ chip. record { request = request; chip = chip }) o)
asks_bounds request None h = tt
asks_bounds request (Some chip) h = h

found_bounds : (b : Bool) (o : Option (Text × List Row)) → HasBounds (if b then option_and_then (λ p. asked_at p.0 p.1) o else None)
found_bounds false o = tt
found_bounds true None = tt
found_bounds true (Some p) = asks_bounds (request_at p.0 p.1) (chip_at p.1) (request_bounds p.1 _ _ _ _ _)

asked_bounds : (words : List Text) → HasBounds (asked_of words)
unfolding asked_of
asked_bounds words = found_bounds (is_empty (fault_of ipl_command words)) (subcommand_of ipl_command words)

pub bounds : (words : List Text) (found : Option Asked) (asked : Asked) → found ≡ Some asked → option_map view found ≡ asked_of words → IsInBounds asked.request
bounds words found asked one is = subst HasBounds (sym is ∙ ap (option_map view) one) (asked_bounds words)
