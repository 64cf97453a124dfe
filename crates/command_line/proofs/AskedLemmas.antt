-- From the clauses of a parse to what the words ask.
use Rattle.std.proofs.Common.{◌≡◌, ◌∙◌, Bool, true, false, List, [], ◌∷◌, Option, None, refl, sym, ap, arith, cond, ne_eqb}
use Rattle.std.specs.Option.{option_and_then}
use Rattle.clap.specs.Words.{Text, Kinds, IsAmong, fault_of, subcommand_of, Row, is_simple, is_simple_and_free}
use Rattle.clap.specs.Walk.{is_empty}
use Rattle.clap.specs.declared.error.kind.ErrorKind.{ErrorKind}
use Rattle.clap.proofs.OnLiterals.{clap_on_literals}
use Rattle.command_line.specs.Ipl.{ipl_command}
use Rattle.command_line.specs.Asked.{Asks, asked_at, asked_of}

-- clap's exact clauses hold of this command
pub simple_ipl : is_simple ipl_command ≡ true
unfolding ipl_command clap_on_literals
simple_ipl = refl

pub free_ipl : is_simple_and_free ipl_command ≡ true
unfolding ipl_command clap_on_literals
free_ipl = refl

abbrev Part : Type 0
Part = Text × List Row

-- without a fault, what the subcommand asks
pub asked_when : (words : List Text) (o : Option Part) → fault_of ipl_command words ≡ [] → o ≡ subcommand_of ipl_command words
    → option_and_then (λ (p : Part). asked_at p.0 p.1) o ≡ asked_of words
unfolding asked_of
asked_when words o none is = ap (option_and_then (λ (p : Part). asked_at p.0 p.1)) is
    ∙ sym (ap (λ (kinds : Kinds). cond (is_empty kinds) (option_and_then (λ (p : Part). asked_at p.0 p.1) (subcommand_of ipl_command words)) None) none)

-- with one, nothing
refused_kinds : (kinds : Kinds) (k : ErrorKind) → IsAmong k kinds → is_empty kinds ≡ false
refused_kinds [] k h = absurd h
refused_kinds (x ∷ xs) k h = ne_eqb _ _ (λ e. omega arith)

pub refused_when : (words : List Text) (k : ErrorKind) → IsAmong k (fault_of ipl_command words) → ◌≡◌ {A = Option Asks} None (asked_of words)
unfolding asked_of
refused_when words k h =
    sym (ap (λ (b : Bool). cond b (option_and_then (λ (p : Part). asked_at p.0 p.1) (subcommand_of ipl_command words)) None)
    (refused_kinds (fault_of ipl_command words) k h))
