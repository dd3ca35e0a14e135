use Rattle.std.proofs.Common.{◌≡◌, ◌∙◌, ◌||◌, Bool, ap, arith, length}
use Rattle.std.proofs.lemmas.List.{length-set, with_items_is}
use Rattle.est_net.specs.Cells.{known_as}
use Rattle.est_net.proofs.CellSets.{marks_written, open_unmarked}
use Rattle.est_net.proofs.Ranges.{FewerOpen, fewer_open}
use Rattle.est_net.proofs.net.Net.write.Goals as goal

fewer : (c : goal.After-self-1) → FewerOpen c.args.self.now.open_count 1 c.decide.new.cells
fewer c =
    fewer_open c.args.self.now.open_count 1 c.args.self.now.cells.items c.as_mut_slice.result.now c.decide.new.cells
    c.as_mut_slice.ensures.value c.decide.ensures.count
    (ap length c.decide.ensures.cells
    ∙ length-set c.as_mut_slice.result.now c.args.cell (known_as c.args.value)) c.args.self.now.counted

pub overflow_sub-self : goal.overflow_sub-self
overflow_sub-self c = (fewer c).enough

size : (c : goal.After-self-1) → length c.decide.new.cells ≡ c.args.self.now.cells.len
size c =
    (ap length c.decide.ensures.cells
    ∙ length-set c.as_mut_slice.result.now c.args.cell (known_as c.args.value)) ∙ c.as_mut_slice.ensures.len

pub invariant_of-self-clause-counted : goal.invariant_of-self-clause-counted
invariant_of-self-clause-counted c =
    rw (with_items_is c.args.self.now.cells c.decide.new.cells (size c)) (fewer c).counted

pub invariant_of-self-clause-marks : goal.invariant_of-self-clause-marks
invariant_of-self-clause-marks c =
    let old = c.args.self.now in
    let before = open_unmarked old.true_cells.words.items old.cells.items c.args.cell c.requires old.marks in
    rw (with_items_is old.cells c.decide.new.cells (size c))
    (marks_written old.true_cells.words.items c.insert_if.new.self.words.items old.cells.items
    c.as_mut_slice.result.now c.decide.new.cells c.args.cell c.args.value c.as_mut_slice.ensures.value c.requires
    c.decide.ensures.cells (c.insert_if.ensures.here ∙ ap (λ (b : Bool). b || c.args.value) before)
    c.insert_if.ensures.others old.marks)

pub invariant_of-self-clause-room : goal.invariant_of-self-clause-room
invariant_of-self-clause-room c =
    rw (with_items_is c.args.self.now.cells c.decide.new.cells (size c))
    (omega (arith, size c, c.args.self.now.room, c.insert_if.ensures.room, c.args.self.now.cells.ok))
