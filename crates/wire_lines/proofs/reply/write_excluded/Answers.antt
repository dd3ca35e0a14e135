use Rattle.std.proofs.Common.{◌≡◌, ◌++◌, codes, rules}
use Rattle.std.specs.Prelude.{OnOk}
use Rattle.serde_json.specs.Data.{number, string, unsigned, no_members}
use Rattle.wire_lines.specs.Inner.ReplyTokens.{member_tokens, value_tokens}
use Rattle.wire_lines.specs.Replies.{refused_with}
use Rattle.wire_lines.proofs.ReplyTokens.{last, next}
use Rattle.wire_lines.proofs.reply.write_excluded.Goals as goal

pub returns : goal.returns
returns c =
    let label = member_tokens (refused_with c.args.code c.args.fault.now no_members) in
    let relation = value_tokens (codes "relation") (number (unsigned c.args.relation)) in
    let signal = value_tokens (codes "signal") (string c.args.signal.now) in
    let first : c.label.new.self ≡ c.args.line.now ++ label = c.in_ok-label.ensures in
    let second : c.number.new.self ≡ c.label.new.self ++ relation = search rules in
    let third : OnOk c.text.result (c.text.new.self ≡ c.number.new.self ++ signal) = search rules in
    last c.text.result _ _ _ (label ++ relation) signal (next _ _ _ label relation first second) third
