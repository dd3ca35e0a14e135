use Rattle.std.proofs.Common.{◌-◌, arith}
use Rattle.std.proofs.lemmas.Option.{slice_get-get_or}
use Rattle.lab_instant.proofs.Cells.{read_begins, read_ends, read_true}
use Rattle.lab_instant.proofs.reading.add_all.Goals as goal

pub loop-place-init : goal.loop-place-init
loop-place-init c = read_begins c.args.cells.now c.args.net.now.cells.items c.args.first _ _ c.requires.before

pub loop-place-preserved : goal.loop-place-preserved
loop-place-preserved c =
    let owners = c.args.cells.now in
    let first = c.args.first in
    let place = c.in-Some.place in
    let is = c.in-Some.ensures.some in
    let after = is.after in
    let before = is.before in
    let low = c.loop-place.invariant.after in
    let there = slice_get-get_or owners (place - first) _ (omega arith) in
    read_true owners c.args.net.now.cells.items first c.loop-place.at place _ _ _ _ _ c.loop-place.invariant is there
    c.in_ok-add_true.ensures.began c.in_ok-add_true.ensures.went_on

pub returns : goal.returns
returns c =
    read_ends c.args.cells.now c.args.net.now.cells.items c.args.first c.loop-place.at _ _ c.loop-place.invariant
    c.in_default.ensures.none
