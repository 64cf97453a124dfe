-- How many exchanges a trial has: one for each of its commands.
use Rattle.std.proofs.Common.{◌≡◌, ℕ, zero, suc, Bool, true, false, cond, nat_lt, List, [], ◌∷◌, map, length, Option, Some, None, refl, ap, ◌∙◌, arith, length-append}
use Rattle.std.proofs.lemmas.List.{length-map}
use Rattle.std.specs.Option.{option_map_or}
use Rattle.rand_core.specs.Steps.{first_words}
use Rattle.rand_xoshiro.specs.SplitMix64.{mix_u64}
use Rattle.ipl_base.specs.declared.fault.Refusal.{Refusal}
use Rattle.ipl_model.specs.State.{State, Limits}
use Rattle.ipl_model.specs.declared.command.Command.{Command}
use Rattle.ipl_model.specs.declared.command.Command.TheVariants as command
use Rattle.ipl_model.specs.declared.reply.Reply.{Reply}
use Rattle.ipl_model.specs.declared.reply.Reply.TheVariants as reply
use Rattle.ipl_model.specs.Step.{Stepped, step, refusal_of, accepted}
use Rattle.script_run.specs.TrialWords.{IsOfTrial, command_of_word, session_of, operation_of, name_of, put_bytes}
use Rattle.script_run.specs.TrialSummary.{Exchange, exchanges}
use Rattle.script_run.specs.TrialLaws.{CountsAreSaid}

by_tests : (a b c d e f : Bool) (units word : ℕ) → IsOfTrial
    (cond a (command.Begin (session_of word))
    (cond b (command.Put (session_of word) (name_of units word) (put_bytes word))
    (cond c (command.Del (session_of word) (name_of units word))
    (cond d (command.Get (session_of word) (name_of units word))
    (cond e (command.Share (session_of word) (name_of units word))
    (cond f (command.Commit (session_of word)) (command.Abort (session_of word))))))))
by_tests true b c d e f units word = tt
by_tests false true c d e f units word = tt
by_tests false false true d e f units word = tt
by_tests false false false true e f units word = tt
by_tests false false false false true f units word = tt
by_tests false false false false false true units word = tt
by_tests false false false false false false units word = tt

-- a word says a command of a trial
pub of_trial : (units word : ℕ) → IsOfTrial (command_of_word units word)
unfolding command_of_word
of_trial units word =
    let test = λ (n : ℕ). nat_lt (operation_of word) n in
    by_tests (test 3) (test 9) (test 10) (test 12) (test 13) (test 15) units word

refused_or : (state : State) (why : Option Refusal) (done : Stepped) → length done.1 ≡ 1
    → length (option_map_or (λ (r : Refusal). (state, reply.Refused r ∷ [])) why done).1 ≡ 1
refused_or state None done one = one
refused_or state (Some r) done one = refl

one_where : (limits : Limits) (state : State) (c : Command) → length (accepted state c).1 ≡ 1
    → length (step limits state c).1 ≡ 1
one_where limits state c = refused_or state (refusal_of limits state c) (accepted state c)

-- its reply has one line
one_line : (limits : Limits) (state : State) (c : Command) → IsOfTrial c → length (step limits state c).1 ≡ 1
one_line limits state (command.Begin s) is = one_where limits state (command.Begin s) refl
one_line limits state (command.Get s n) is = one_where limits state (command.Get s n) refl
one_line limits state (command.Share s n) is = one_where limits state (command.Share s n) refl
one_line limits state (command.Put s n bytes) is = one_where limits state (command.Put s n bytes) refl
one_line limits state (command.Del s n) is = one_where limits state (command.Del s n) refl
one_line limits state (command.Commit s) is = one_where limits state (command.Commit s) refl
one_line limits state (command.Batch ss) is = absurd is
one_line limits state (command.Abort s) is = one_where limits state (command.Abort s) refl
one_line limits state (command.List a b) is = absurd is
one_line limits state (command.Merge u) is = absurd is
one_line limits state command.Restart is = absurd is
one_line limits state command.Syntax is = absurd is

length-exchanges : (limits : Limits) (state : State) (units : ℕ) (words : List ℕ)
    → length (exchanges limits state (map (command_of_word units) words)) ≡ length words
length-exchanges limits state units [] = refl
length-exchanges limits state units (word ∷ words) =
    let c = command_of_word units word in
    let first = one_line limits state c (of_trial units word) in
    let mapped = length-map {B = Exchange} (step limits state c).1 (λ (r : Reply). (c, r)) in
    let rest = length-exchanges limits (step limits state c).0 units words in
    let both = length-append (map (λ (r : Reply). (c, r)) (step limits state c).1)
    (exchanges limits (step limits state c).0 (map (command_of_word units) words)) in
    omega (arith, both, mapped, first, rest)

length-first_words : (count state : ℕ) → length (first_words mix_u64 count state) ≡ count
unfolding first_words
length-first_words zero state = refl
length-first_words (suc count) state = ap suc (length-first_words count (mix_u64 state).1)

pub counts_are_said : CountsAreSaid
counts_are_said limits state units seed count =
    length-exchanges limits state units (first_words mix_u64 count seed) ∙ length-first_words count seed
