use Rattle.std.proofs.Common.{◌≡◌, ◌∙◌, true, List, [], ap, sym, subst, map}
use Rattle.clap.specs.Words.{App, HasMatchesOf, Text, fault_of, is_simple, is_simple_and_free, subcommand_of}
use Rattle.clap.specs.Words.{subcommand_rows_of}
use Rattle.clap.specs.declared.parser.matches.ArgMatches.{ArgMatches}
use Rattle.program_words.specs.Words.{Gives, IsNamed, command_line}
use Rattle.program_words.proofs.CommandLines.{has_known_matches, is_simple_line}
use Rattle.program_words.proofs.NamedInvocations.{is_named}
use Rattle.program_words.proofs.words.parse.Goals as goal

-- what is known of the matches of a command that is read as the program's
record IsKnown (words : List Text) (m : ArgMatches) : Type 0 where
  no_fault : fault_of command_line words ≡ []
  named : subcommand_rows_of m ≡ subcommand_of command_line words

known : (a : App) (words : List Text) (m : ArgMatches) → a ≡ command_line
    → (is_simple_and_free a ≡ true → fault_of a words ≡ []) → HasMatchesOf a words m → IsKnown words m
known a words m line faults matches = record {
  no_fault = sym (ap (λ b. fault_of b words) line) ∙ faults (ap is_simple_and_free line ∙ is_simple_line);
  named = (matches (ap is_simple line ∙ has_known_matches)).1 ∙ ap (λ b. subcommand_of b words) line;
}

pub invocation_of-requires : goal.invocation_of-requires
invocation_of-requires g c =
    let words = map g.S.AsStr.text c.args.words.now in
    let after = c.in_ok-matches.ensures in
    let is = known _ words c.in_ok-matches.matches c.in_ok-command.ensures after.kinds after.matches in
    subst IsNamed (sym is.named) (is_named words is.no_fault)

pub returns-clause-ok : goal.returns-clause-ok
returns-clause-ok g c =
    let words = map g.S.AsStr.text c.args.words.now in
    let after = c.in_ok-matches.ensures in
    let is = known _ words c.in_ok-matches.matches c.in_ok-command.ensures after.kinds after.matches in
    (is.no_fault, subst (λ given. Gives given c.invocation_of.result) is.named c.invocation_of.ensures)
