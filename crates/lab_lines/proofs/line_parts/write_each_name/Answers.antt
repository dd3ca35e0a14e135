use Rattle.std.proofs.Common.{◌≡◌, ◌∙◌, ◌≤◌, arith, length}
use Rattle.lab_lines.proofs.LineLemmas.{no_name_left}
use Rattle.lab_lines.proofs.line_parts.write_each_name.Goals as goal

pub loop-place-preserved : goal.loop-place-preserved
loop-place-preserved c = c.in_ok-write_name_if.ensures ∙ c.loop-place.invariant

pub returns : goal.returns
returns c =
    let past : length c.args.interface.now ≤ c.loop-place.place = omega (arith, c.len-place-end.ensures.len) in
    no_name_left c.args.interface.now c.loop-place.place c.args.signals c.args.line.now c.loop-place.line past
    c.loop-place.invariant
