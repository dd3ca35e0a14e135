use Rattle.std.proofs.Common.{◌≡◌, ◌∙◌, List, ℕ, ap, length}
use Rattle.std.proofs.lemmas.List.{length-replicate, with_items_is}
use Rattle.est_net.specs.CellSets.{marked}
use Rattle.est_net.proofs.CellSets.{none_marked}
use Rattle.est_net.proofs.cell_set.CellSet.clear.Goals as goal

pub returns-clause-empty : goal.returns-clause-empty
returns-clause-empty c = λ i.
    let size : length c.zero_all.new.words ≡ c.args.self.now.words.len
    = ap length c.zero_all.ensures
    ∙ (length-replicate (length c.as_mut_slice.result.now) 0 ∙ c.as_mut_slice.ensures.len) in
    ap (λ (l : List ℕ). marked l i) (with_items_is c.args.self.now.words c.zero_all.new.words size ∙ c.zero_all.ensures)
    ∙ none_marked (length c.as_mut_slice.result.now) i
