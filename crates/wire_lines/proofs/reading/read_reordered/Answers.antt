use Rattle.std.proofs.Common.{◌≡◌, ◌∙◌, Some, string_bytes, sym, subst}
use Rattle.std.proofs.lemmas.Option.{same_Some, none-some}
use Rattle.json.specs.Lex.{tokens}
use Rattle.serde_json.specs.Data.{object}
use Rattle.serde_json.specs.Written.{IsInOrder}
use Rattle.wire_lines.specs.Requests.{IsValue, members_of}
use Rattle.wire_lines.specs.Inner.Commands.{request_at}
use Rattle.wire_lines.proofs.CommandLemmas.{read_is, in_order_back}
use Rattle.wire_lines.proofs.reading.read_reordered.Goals as goal

pub returns-in-Ok-Some : goal.returns-in-Ok-Some
returns-in-Ok-Some c =
    let o = c.in_ok-text.ensures in
    let text = string_bytes c.in_ok-text.text in
    let value = c.as_str.ensures.value in
    let found = c.in-Ok-Some.ensures in
    let some = c.in-Ok-Some.field-0-is in
    let is : request_at (tokens text) ≡ Some c.in-Ok-Some.request = cc in
    let p = read_is text c.in-Ok-Some.request is in
    record { value = subst (IsValue c.args.line.now) (same_Some _ _ (sym o.3 ∙ p.0)) o.1; fits = p.1 }

pub returns-in-Ok-None : goal.returns-in-Ok-None
returns-in-Ok-None c =
    let o = c.in_ok-text.ensures in
    let text = string_bytes c.in_ok-text.text in (
      (o.0, o.1),
      λ request asked.
          let same : o.0 ≡ object (members_of request) = same_Some _ _ (sym o.1.reads ∙ asked.value.reads) in
          let is = in_order_back text request asked.fits (subst (IsInOrder text) same o.2) in
          let value = c.as_str.ensures.value in
          let found = c.in-Ok-None.ensures in
          let none = c.in-Ok-None.field-0-is in
          none-some request cc,
    )
