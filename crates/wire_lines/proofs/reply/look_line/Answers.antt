use Rattle.std.proofs.Common.{◌≡◌, ◌∙◌, List, ◌++◌, codes, ap}
use Rattle.json.specs.Token.{Token}
use Rattle.serde_json.specs.Data.{number, string, unsigned}
use Rattle.access_core.specs.declared.reply.Reply.TheVariants.{Look}
use Rattle.wire_lines.specs.Inner.ReplyTokens.{member_tokens, value_tokens}
use Rattle.wire_lines.specs.Replies.{reply_members, signals_json}
use Rattle.wire_lines.proofs.ReplyTokens.{next}
use Rattle.wire_lines.proofs.reply.look_line.Goals as goal

pub returns : goal.returns
returns c =
    let members = reply_members (Look c.args.instant c.args.signals.now c.args.version) in
    let instant = value_tokens (codes "instant") (number (unsigned c.args.instant)) in
    let word = value_tokens (codes "ok") (string (codes "look")) in
    let signals = value_tokens (codes "signals") (signals_json c.args.signals.now) in
    let version = value_tokens (codes "version") (number (unsigned c.args.version)) in
    let two = next _ _ _ instant word c.in_ok-number.ensures c.in_ok-text.ensures in
    let three = next _ _ _ (instant ++ word) signals two c.in_ok-signals.ensures in
    let written : c.number-2.new.self ≡ c.in_ok-line.line ++ member_tokens members =
    next _ _ _ ((instant ++ word) ++ signals) version three c.in_ok-number-2.ensures in
    c.end.ensures members (written ∙ ap (λ (begun : List Token). begun ++ member_tokens members) c.in_ok-line.ensures)
