-- The commands of a script, as its bytes come.
use Rattle.std.proofs.Common.{◌≡◌, inl, inr, ℕ, zero, suc, ◌+◌, ◌<◌, ◌≤◌, ◌==◌, nat_lt, Bool, true, false, cond, length, get_or, take, arith, List, [], ◌∷◌, ◌++◌, refl, sym, ◌∙◌, ap, append_assoc}
use Rattle.std.specs.List.{fold, slice_split, flat_map, onto_first}
use Rattle.std.proofs.lemmas.Bool.{cases_lt}
use Rattle.std.proofs.lemmas.Bool.Decides.{nat_tests}
use Rattle.std.proofs.lemmas.List.{append-nil, length-append}
use Rattle.std.proofs.Math.Seq.{take-nil}
use Rattle.ipl_model.specs.declared.command.Command.{Command}
use Rattle.ipl_model.specs.declared.command.Command.TheVariants.{Syntax}
use Rattle.ipl_model.specs.declared.line.Line.TheVariants.{Skip, Do}
use Rattle.ipl_model.specs.Grammar.{line_of, commands_in, commands_of, command_of, is_line_feed, is_space}
use Rattle.script_run.specs.Lines.{commands_from, kept}

-- ---- bytes past what is kept of a line change nothing

-- two beginnings of a line say the same, however it goes on
abbrev Alike : List ℕ → List ℕ → Type 0
Alike a b = (more : List ℕ) → commands_in (line_of (a ++ more)) ≡ commands_in (line_of (b ++ more))

alike_more : (a b : List ℕ) (c : ℕ) → Alike a b → Alike (a ++ c ∷ []) (b ++ c ∷ [])
alike_more a b c alike more = ap (λ (l : List ℕ). commands_in (line_of l)) (append_assoc a (c ∷ []) more) ∙ alike (c ∷ more) ∙ ap (λ (l : List ℕ). commands_in (line_of l)) (sym (append_assoc b (c ∷ []) more))

alike_on : (a b bytes : List ℕ) → Alike a b → commands_from a bytes ≡ commands_from b bytes
alike_on a b [] alike = ap (λ (l : List ℕ). commands_in (line_of l)) (sym (append-nil a)) ∙ alike [] ∙ ap (λ (l : List ℕ). commands_in (line_of l)) (append-nil b)
alike_on a b (c ∷ bytes) alike = by_test (c == 10) (alike_on (a ++ c ∷ []) (b ++ c ∷ []) bytes (alike_more a b c alike))
  where
    here : commands_in (line_of a) ≡ commands_in (line_of b)
    here = ap (λ (l : List ℕ). commands_in (line_of l)) (sym (append-nil a)) ∙ alike [] ∙ ap (λ (l : List ℕ). commands_in (line_of l)) (append-nil b)

    by_test : (t : Bool) → commands_from (a ++ c ∷ []) bytes ≡ commands_from (b ++ c ∷ []) bytes
        → cond t (commands_in (line_of a) ++ commands_from [] bytes) (commands_from (a ++ c ∷ []) bytes) ≡ cond t (commands_in (line_of b) ++ commands_from [] bytes) (commands_from (b ++ c ∷ []) bytes)
    by_test true rest = ap (λ (cs : List Command). cs ++ commands_from [] bytes) here
    by_test false rest = rest

-- a line past 1,024 bytes is skipped or no command
too_long : (c : ℕ) (line : List ℕ) → 1024 ≤ length line → line_of (c ∷ line) ≡ cond (c == 35) Skip (Do Syntax)
too_long c line long = let over : nat_lt 1024 (length (c ∷ line)) ≡ true = grind (arith, nat_tests) in over_is over
  where
    over_is : nat_lt 1024 (length (c ∷ line)) ≡ true → line_of (c ∷ line) ≡ cond (c == 35) Skip (Do Syntax)
    over_is over = ap (λ (t : Bool). cond (c == 35) Skip (cond t (Do Syntax) (Do (command_of (slice_split is_space (c ∷ line)))))) over

long_alike : (held : List ℕ) (b : ℕ) → 1025 ≤ length held → Alike (held ++ b ∷ []) held
long_alike [] b long more = absurd (omega arith)
long_alike (c ∷ held) b long more =
    ap commands_in (too_long c ((held ++ b ∷ []) ++ more) (omega (arith, length-append (held ++ b ∷ []) more, length-append held (b ∷ [])))
    ∙ sym (too_long c (held ++ more) (omega (arith, length-append held more))))

pub keeping : (held : List ℕ) (b : ℕ) (bytes : List ℕ) → (b == 10) ≡ false → commands_from held (b ∷ bytes) ≡ commands_from (kept held b) bytes
keeping held b bytes no_end =
    ap (λ (t : Bool). cond t (commands_in (line_of held) ++ commands_from [] bytes) (commands_from (held ++ b ∷ []) bytes)) no_end ∙ elim (cases_lt (length held) 1025) [
      | inl short ↦
          let test : nat_lt (length held) 1025 ≡ true = grind (arith, nat_tests) in
          sym (ap (λ (t : Bool). commands_from (cond t (held ++ b ∷ []) held) bytes) test)
      | inr long ↦
          let test : nat_lt (length held) 1025 ≡ false = grind (arith, nat_tests) in
          alike_on (held ++ b ∷ []) held bytes (long_alike held b long) ∙ sym (ap (λ (t : Bool). commands_from (cond t (held ++ b ∷ []) held) bytes) test)
    ]

-- of bytes with no line feed among them, all are kept, as far as there is room
pub keeping_all : (held bytes tail : List ℕ) → ((i : ℕ) → i < length bytes → is_line_feed (get_or bytes i 0) ≡ false) → commands_from held (bytes ++ tail) ≡ commands_from (fold kept held bytes) tail
keeping_all held [] tail plain = refl
keeping_all held (b ∷ bytes) tail plain = keeping held b (bytes ++ tail) (plain 0 (omega arith)) ∙ keeping_all (kept held b) bytes tail (λ i lt. plain (suc i) (omega (arith, lt)))

-- bytes that are kept one by one are those that there is room for
pub kept_all : (room : ℕ) (held bytes : List ℕ) → length held + room ≡ 1025 → held ++ take room bytes ≡ fold kept held bytes
kept_all room held [] is = ap (λ (l : List ℕ). held ++ l) (take-nil room) ∙ append-nil held
kept_all zero held (b ∷ bytes) is =
    let test : nat_lt (length held) 1025 ≡ false = grind (arith, nat_tests) in
    kept_all zero held bytes is ∙ ap (λ (t : Bool). fold kept (cond t (held ++ b ∷ []) held) bytes) (sym test)
kept_all (suc room) held (b ∷ bytes) is =
    let test : nat_lt (length held) 1025 ≡ true = grind (arith, nat_tests) in
    sym (append_assoc held (b ∷ []) (take room bytes)) ∙ kept_all room (held ++ b ∷ []) bytes (omega (arith, is, length-append held (b ∷ [])))
    ∙ ap (λ (t : Bool). fold kept (cond t (held ++ b ∷ []) held) bytes) (sym test)

-- ---- the commands of a script, as its bytes come

-- what the front of a line says joins the first line of the rest
unfoldable front_of : List ℕ → List (List ℕ) → List (List ℕ)
front_of held [] = held ∷ []
front_of held (line ∷ lines) = (held ++ line) ∷ lines

abbrev all_commands : List (List ℕ) → List Command
all_commands lines = flat_map (λ line. commands_in (line_of line)) lines

parts : (script : List ℕ) → (first : List ℕ) × (more : List (List ℕ)) × (slice_split is_line_feed script ≡ first ∷ more)
parts [] = ([], [], refl)
parts (b ∷ script) = by_test (b == 10) (parts script)
  where
    by_test : (t : Bool) → (first : List ℕ) × (more : List (List ℕ)) × (slice_split is_line_feed script ≡ first ∷ more)
        → (first : List ℕ) × (more : List (List ℕ)) × (cond t ([] ∷ slice_split is_line_feed script) (onto_first b (slice_split is_line_feed script)) ≡ first ∷ more)
    by_test true p = ([], slice_split is_line_feed script, refl)
    by_test false p = (b ∷ p.0, p.1, ap (onto_first b) p.2)

from_line : (held bytes : List ℕ) → commands_from held bytes ≡ all_commands (front_of held (slice_split is_line_feed bytes))
unfolding front_of
from_line held [] = sym (append-nil (commands_in (line_of (held ++ []))) ∙ ap (λ (l : List ℕ). commands_in (line_of l)) (append-nil held))
from_line held (b ∷ bytes) = by_test (b == 10) (from_line [] bytes) (from_line (held ++ b ∷ []) bytes)
  where
    p : (first : List ℕ) × (more : List (List ℕ)) × (slice_split is_line_feed bytes ≡ first ∷ more)
    p = parts bytes

    by_test : (t : Bool) → commands_from [] bytes ≡ all_commands (front_of [] (slice_split is_line_feed bytes)) → commands_from (held ++ b ∷ []) bytes ≡ all_commands (front_of (held ++ b ∷ []) (slice_split is_line_feed bytes))
        → cond t (commands_in (line_of held) ++ commands_from [] bytes) (commands_from (held ++ b ∷ []) bytes) ≡ all_commands (front_of held (cond t ([] ∷ (slice_split is_line_feed bytes)) (onto_first b (slice_split is_line_feed bytes))))
    by_test true next on =
        ap (λ (cs : List Command). commands_in (line_of held) ++ cs) (next ∙ ap (λ (ls : List (List ℕ)). all_commands (front_of [] ls)) p.2 ∙ ap all_commands (sym p.2))
        ∙ ap (λ (l : List ℕ). commands_in (line_of l) ++ all_commands (slice_split is_line_feed bytes)) (sym (append-nil held))
    by_test false next on =
        on ∙ ap (λ (ls : List (List ℕ)). all_commands (front_of (held ++ b ∷ []) ls)) p.2
        ∙ ap (λ (l : List ℕ). commands_in (line_of l) ++ all_commands p.1) (append_assoc held (b ∷ []) p.0)
        ∙ ap (λ (ls : List (List ℕ)). all_commands (front_of held (onto_first b ls))) (sym p.2)

-- those of its lines
pub from_start : (script : List ℕ) → commands_from [] script ≡ commands_of script
unfolding front_of
from_start script =
    let p = parts script in
    from_line [] script ∙ ap (λ (ls : List (List ℕ)). all_commands (front_of [] ls)) p.2 ∙ ap all_commands (sym p.2)
