use Rattle.std.proofs.Common.{◌≡◌, ◌++◌, codes, rules}
use Rattle.std.specs.Prelude.{OnOk}
use Rattle.serde_json.specs.Data.{number, string, unsigned}
use Rattle.wire_lines.specs.Inner.ReplyTokens.{value_tokens}
use Rattle.wire_lines.proofs.ReplyTokens.{last, next}
use Rattle.wire_lines.proofs.reply.write_place.Goals as goal

pub returns : goal.returns
returns c =
    let code = value_tokens (codes "code") (number (unsigned c.args.code)) in
    let column = value_tokens (codes "column") (number (unsigned c.args.place.now.column)) in
    let fault = value_tokens (codes "fault") (string c.args.fault.now) in
    let line = value_tokens (codes "line") (number (unsigned c.args.place.now.line)) in
    let first : c.number.new.self ≡ c.args.line.now ++ code = search rules in
    let second : c.number-2.new.self ≡ c.number.new.self ++ column = c.in_ok-number-2.ensures in
    let third : c.text.new.self ≡ c.number-2.new.self ++ fault = c.in_ok-text.ensures in
    let fourth : OnOk c.number-3.result (c.number-3.new.self ≡ c.text.new.self ++ line) = c.number-3.ensures in
    last c.number-3.result _ _ _ ((code ++ column) ++ fault) line
    (next _ _ _ (code ++ column) fault (next _ _ _ code column first second) third) fourth
