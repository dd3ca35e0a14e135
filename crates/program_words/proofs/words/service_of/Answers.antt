use Rattle.std.proofs.Common.{◌≡◌, ◌∙◌, [], Option, Some, None, refl, ap, codes, option_map}
use Rattle.std.specs.Prelude.{unwrap_or}
use Rattle.std.specs.Borrow.{Bor}
use Rattle.clap.specs.Words.{Text, found_of}
use Rattle.clap.proofs.WalkLemmas.{first_value-rows}
use Rattle.program_words.proofs.CommandLines.{number_is}
use Rattle.program_words.proofs.words.service_of.Goals as goal

text_or : (o : Option (Bor Text)) (d : Bor Text) → (unwrap_or o d).now ≡ unwrap_or (option_map (λ s. s.now) o) d.now
text_or None d = refl
text_or (Some s) d = refl

pub returns : goal.returns
returns c =
    let found = found_of c.args.matches.now in
    record {
      path = ap (λ (s : Bor Text). s.now) c.unwrap_or.ensures ∙ (text_or c.get_str.result _
          ∙ ap (λ o. unwrap_or o []) (c.get_str.ensures ∙ first_value-rows found (codes "socket")));
      workers = c.workers_of.ensures;
      connections = number_is found (codes "connections") c.get_one.result c.get_one.ensures.none
          c.get_one.ensures.value;
    }
