use Rattle.est_text.proofs.Fronts.{block_found_in, block_fault_in}
use Rattle.est_text.proofs.piece.block.Goals as goal

pub returns-in-Some-clause-found : goal.returns-in-Some-clause-found
returns-in-Some-clause-found c =
    let f = rw c.split_at.ensures.back at c.in-Some.ensures.found in
    block_found_in c.args.rest.now c.in-Some.at c.requires.some c.requires.percent c.requires.brace f.0 f.1 f.2

pub returns-in-None-clause-none : goal.returns-in-None-clause-none
returns-in-None-clause-none c =
    let n = rw c.split_at.ensures.back at c.in-None.ensures.none in
    block_fault_in c.args.rest.now c.requires.some c.requires.percent c.requires.brace n
