use Rattle.std.proofs.Common.{◌≡◌, arith, ◌-◌, ◌∙◌, length}
use Rattle.std.proofs.lemmas.List.{with_items_is}
use Rattle.est_net.proofs.CellSets.{marks_filled}
use Rattle.est_net.proofs.Ranges.{FewerOpen, fewer_open}
use Rattle.est_net.proofs.net.Net.fill.Goals as goal

fewer : (c : goal.After-self-1) → FewerOpen c.args.self.now.open_count (c.args.past - c.args.from) c.fill.new.cells
fewer c =
    let more = c.fill.ensures.count in
    fewer_open c.args.self.now.open_count (c.args.past - c.args.from) c.args.self.now.cells.items
    c.as_mut_slice.result.now c.fill.new.cells
    c.as_mut_slice.ensures.value (omega arith) c.fill.ensures.cells.size c.args.self.now.counted

pub overflow_sub-self-2 : goal.overflow_sub-self-2
overflow_sub-self-2 c = (fewer c).enough

size : (c : goal.After-self-1) → length c.fill.new.cells ≡ c.args.self.now.cells.len
size c = c.fill.ensures.cells.size ∙ c.as_mut_slice.ensures.len

pub invariant_of-self-clause-counted : goal.invariant_of-self-clause-counted
invariant_of-self-clause-counted c = rw (with_items_is c.args.self.now.cells c.fill.new.cells (size c))
    (fewer c).counted

pub invariant_of-self-clause-marks : goal.invariant_of-self-clause-marks
invariant_of-self-clause-marks c =
    rw (with_items_is c.args.self.now.cells c.fill.new.cells (size c))
    (marks_filled c.args.self.now.true_cells.words.items c.args.self.now.cells.items c.as_mut_slice.result.now
    c.fill.new.cells c.args.from c.args.past c.as_mut_slice.ensures.value c.requires.open c.fill.ensures.cells
    c.args.self.now.marks)

pub invariant_of-self-clause-room : goal.invariant_of-self-clause-room
invariant_of-self-clause-room c =
    rw (with_items_is c.args.self.now.cells c.fill.new.cells (size c))
    (omega (arith, size c, c.args.self.now.room, c.args.self.now.cells.ok))
