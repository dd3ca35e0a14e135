use Rattle.std.proofs.Common.{◌≡◌, ◌∙◌, List, ◌++◌, ℕ, ap}
use Rattle.est_kernel.specs.declared.limits.TheConstants.{MOST_STATEMENTS}
use Rattle.lab_lines.specs.TableJson.{number_json, pauses_below}
use Rattle.wire_lines.specs.Inner.ReplyTokens.{item_tokens}
use Rattle.wire_lines.proofs.ReplyTokens.{list_is}
use Rattle.lab_lines.proofs.line_parts.write_pauses.Goals as goal

pub returns : goal.returns
returns c =
    let numbers = pauses_below c.args.paused.now MOST_STATEMENTS in
    let same : c.as_slice.result.now ≡ numbers = c.as_slice.ensures.value ∙ c.in_ok-numbers.ensures in
    list_is number_json numbers c.args.name.now _ _ _ _ _ c.end_array.result c.in_ok-key.ensures
    c.in_ok-begin_array.ensures
    (c.in_ok-write_each_number.ensures
    ∙ ap (λ (l : List ℕ). c.begin_array.new.self ++ item_tokens number_json l) same)
    c.end_array.ensures
