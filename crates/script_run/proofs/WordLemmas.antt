-- The commands of words, one more.
use Rattle.std.proofs.Common.{◌≡◌, ℕ, ◌+◌, ◌<◌, List, [], ◌∷◌, ◌++◌, map, length, take, refl, ap, sym, ◌∙◌, arith, add-one}
use Rattle.std.proofs.Math.ListN.{set}
use Rattle.std.proofs.lemmas.List.{take_more_set}
use Rattle.std.proofs.lemmas.List.FromFn.{map-range_with_len_more}
use Rattle.std.specs.List.{range_with_len}
use Rattle.rand_core.specs.Steps.{first_words}
use Rattle.rand_xoshiro.specs.SplitMix64.{mix_u64}
use Rattle.ipl_model.specs.declared.command.Command.{Command}
use Rattle.script_run.specs.TrialSource.{WordSource}
use Rattle.script_run.specs.TrialWords.{put_byte, command_of_word, commands_from}

-- one byte more of a put
pub bytes_more : (word : ℕ) (bytes : List ℕ) (i b : ℕ) → i < length bytes → b ≡ put_byte word i
    → take i bytes ≡ map (λ (j : ℕ). put_byte word j) (range_with_len 0 i)
    → take (i + 1) (set bytes i b) ≡ map (λ (j : ℕ). put_byte word j) (range_with_len 0 (i + 1))
bytes_more word bytes i b lt is so_far =
    take_more_set bytes i b lt ∙ ap (λ (l : List ℕ). l ++ b ∷ []) so_far
    ∙ ap (λ (x : ℕ). map (λ (j : ℕ). put_byte word j) (range_with_len 0 i) ++ x ∷ []) is
    ∙ sym (map-range_with_len_more (λ (j : ℕ). put_byte word j) 0 i i (omega arith))

-- no word, no command
pub commands_none : (source : WordSource) → commands_from source 0 ≡ []
unfolding first_words
commands_none source = refl

-- one word gives one command, and the rest come from the state after it
pub commands_next : (source : WordSource) (word later : ℕ) (c : Command) (count : ℕ)
    → (word, later) ≡ mix_u64 source.state → c ≡ command_of_word source.units word
    → commands_from source (count + 1)
    ≡ c ∷ commands_from (record { units = source.units; state = later }) count
unfolding first_words
commands_next source word later c count drawn is =
    let word_is : word ≡ (mix_u64 source.state).0 = ap (λ (p : ℕ × ℕ). p.0) drawn in
    let later_is : later ≡ (mix_u64 source.state).1 = ap (λ (p : ℕ × ℕ). p.1) drawn in
    let at = λ (s : ℕ). commands_from (record { units = source.units; state = s }) count in
    ap (commands_from source) (add-one count)
    ∙ ap (λ (w : ℕ). command_of_word source.units w ∷ at (mix_u64 source.state).1) (sym word_is)
    ∙ ap (λ (s : ℕ). command_of_word source.units word ∷ at s) (sym later_is)
    ∙ ap (λ (d : Command). d ∷ at later) (sym is)
