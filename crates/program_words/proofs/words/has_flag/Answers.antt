use Rattle.std.proofs.Common.{◌∙◌, false, ap, sym, codes, Bool, Option, option_map}
use Rattle.std.specs.Option.{option_map_or}
use Rattle.std.specs.Str.{bytes_eq}
use Rattle.clap.specs.Words.{Text, found_of}
use Rattle.clap.proofs.WalkLemmas.{first_value-rows}
use Rattle.program_words.proofs.words.has_flag.Goals as goal

abbrev is_true : Option Text → Bool
is_true value = option_map_or (λ text. bytes_eq text (codes "true")) value false

pub returns-in-Some : goal.returns-in-Some
returns-in-Some c =
    let found = found_of c.args.matches.now in
    c.eq.ensures ∙ ap (λ o. is_true (option_map (λ s. s.now) o)) (sym c.in-Some.is)
    ∙ ap is_true (c.get_str.ensures ∙ first_value-rows found c.args.name.now)

pub returns-in-None : goal.returns-in-None
returns-in-None c =
    let found = found_of c.args.matches.now in
    ap (λ o. is_true (option_map (λ s. s.now) o)) (sym c.in-None.is)
    ∙ ap is_true (c.get_str.ensures ∙ first_value-rows found c.args.name.now)
