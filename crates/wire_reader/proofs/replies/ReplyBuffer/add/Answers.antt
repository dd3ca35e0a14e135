use Rattle.std.proofs.Common.{◌++◌}
use Rattle.wire_reader.proofs.Written.{whole_then, front_more, up_to_then}
use Rattle.wire_reader.proofs.replies.ReplyBuffer.add.Goals as goal

pub returns-in_default-clause-err : goal.returns-in_default-clause-err
returns-in_default-clause-err g c =
    let front = c.in_default.ensures.err in
    (front.0 ++ c.args.text.now, front_more _ _ _ front.0 c.args.text.now front.1)

pub returns-in_default-put-clause-err : goal.returns-in_default-put-clause-err
returns-in_default-put-clause-err g c =
    let front = c.in_default-put.ensures.err in
    (front.0, up_to_then _ _ _ _ c.args.text.now front.0 c.in-Ok.ensures.ok front.1)

pub returns-clause-ok : goal.returns-clause-ok
returns-clause-ok g c = whole_then _ _ _ _ c.args.text.now _ c.in-Ok.ensures.ok c.in-Ok.ensures.none.0
    c.in-Ok-put.ensures.ok
