use Rattle.std.proofs.Common.{◌≡◌, ◌∙◌, ap, arith, length}
use Rattle.std.proofs.lemmas.List.{length-replicate, with_items_is}
use Rattle.est_meaning.specs.declared.status.Status.TheVariants.{Unknown}
use Rattle.est_net.proofs.CellSets.{marks_opened}
use Rattle.est_net.proofs.net.Net.clear.Goals as goal

size : (c : goal.After-clear) → length c.open_all.new.cells ≡ c.args.self.now.cells.len
size c =
    ap length c.open_all.ensures
    ∙ (length-replicate (length c.as_mut_slice.result.now) Unknown ∙ c.as_mut_slice.ensures.len)

pub invariant_of-self-clause-marks : goal.invariant_of-self-clause-marks
invariant_of-self-clause-marks c =
    rw (with_items_is c.args.self.now.cells c.open_all.new.cells (size c))
    (rw c.open_all.ensures
    (marks_opened c.clear.new.self.words.items (length c.as_mut_slice.result.now) c.clear.ensures.empty))

pub invariant_of-self-clause-room : goal.invariant_of-self-clause-room
invariant_of-self-clause-room c =
    rw (with_items_is c.args.self.now.cells c.open_all.new.cells (size c))
    (omega (arith, size c, c.clear.ensures.room, c.args.self.now.room, c.args.self.now.cells.ok))
