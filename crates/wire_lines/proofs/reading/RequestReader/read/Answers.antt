use Rattle.std.proofs.Common.{◌≡◌, Some, subst}
use Rattle.json.specs.Lex.{tokens}
use Rattle.wire_lines.specs.Inner.Commands.{request_at}
use Rattle.wire_lines.proofs.CommandLemmas.{read_is}
use Rattle.wire_lines.proofs.reading.RequestReader.read.Goals as goal

pub returns-in-Ok-Some : goal.returns-in-Ok-Some
returns-in-Ok-Some c =
    let cases = c.in-Ok.ensures.cases in
    let text = c.in-Ok.text.now in
    let found = c.in-Ok-Some.ensures in
    let some = c.in-Ok-Some.field-0-is in
    let is : request_at (tokens text) ≡ Some c.in-Ok-Some.request = cc in
    let p = read_is c.args.line.now c.in-Ok-Some.request
    (subst (λ s. request_at (tokens s) ≡ Some c.in-Ok-Some.request) cases.0 is) in
    record { value = record { text = cases.1; reads = p.0 }; fits = p.1 }
