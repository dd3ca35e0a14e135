use Rattle.std.proofs.Common.{◌∙◌, refl, codes}
use Rattle.clap.specs.Words.{found_of, rows_of, subcommand_rows_of}
use Rattle.program_words.proofs.CommandLines.{both_parts, first_names}
use Rattle.program_words.proofs.words.invocation_of.Goals as goal

pub returns-in-Some : goal.returns-in-Some
returns-in-Some c =
    let m = c.args.matches.now in
    let rows = rows_of (found_of c.in-Some.serve.now) in
    let name = first_names m ∙ c.in-Some.ensures.found.0 refl in
    (rows, both_parts (subcommand_rows_of m) (codes "serve") rows name c.in-Some.ensures.rows, c.service_of.ensures)
