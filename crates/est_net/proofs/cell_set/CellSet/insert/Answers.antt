use Rattle.std.proofs.Common.{◌<◌, ◌/◌, ◌∙◌, ℕ, ap, arith, length}
use Rattle.est_kernel.specs.Bits.{bits}
use Rattle.est_net.proofs.CellSets.{marked_elsewhere, marked_here, word_is}
use Rattle.est_net.proofs.cell_set.CellSet.insert.Goals as goal

pub returns-clause-same : goal.returns-clause-same
returns-clause-same c =
    marked_here c.args.self.now.words.items c.args.cell c.with.result (omega (arith, c.requires)) c.with.ensures.same

pub returns-clause-others : goal.returns-clause-others
returns-clause-others c =
    let words = c.args.self.now.words.items in
    let cell = c.args.cell in
    let within : cell / 64 < length words = omega (arith, c.requires) in
    let word = word_is words (cell / 64) c.index.result.now within c.index.ensures in
    marked_elsewhere words cell c.with.result within
    (λ k d. c.with.ensures.other k d ∙ ap (λ (z : ℕ). bits z k) word)
