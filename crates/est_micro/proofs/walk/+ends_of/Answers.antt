use Rattle.std.proofs.Common.{length, rules, subst, sym, ◌<◌}
use Rattle.est_net.specs.Owners.{statements}
use Rattle.est_micro.specs.Inner.Parts.{IsPlaced, PartEnds}
use Rattle.est_micro.specs.declared.part.Part.{Part}
use Rattle.est_micro.proofs.PartEnds.{ends_by_second, ends_here}
use Rattle.est_micro.proofs.Placing.{named_seq, placed_second, second_smaller, two_in_seq}
use Rattle.est_micro.proofs.walk.+ends_of.Goals as goal

pub ends_of-requires : goal.ends_of-requires
ends_of-requires t c =
    let z = named_seq _ _ _ _ _ _ _ c.deref.ensures c.deref-in-Seq.ensures c.in-Seq.is in
    let f = c.args.part.now in
    let p = c.deref.result in
    let q = c.deref-in-Seq.result in
    let less : statements c.second.result.statement.now < statements f.statement.now
    = subst (λ (g : Part). statements g.statement.now < statements f.statement.now) (sym c.second.ensures)
    (second_smaller _ _ _ _ _ z) in (
      search rules,
      subst (λ (g : Part). IsPlaced c.args.net.now.extents.items (length c.args.net.now.cells.items) g)
          (sym c.second.ensures)
          (placed_second _ _ f p q (two_in_seq _ _ f _ _ _ _ z c.requires.placed) c.requires.placed.main),
    )

pub second-requires : goal.second-requires
second-requires t c =
    let z = named_seq _ _ _ _ _ _ _ c.deref.ensures c.deref-in-Seq.ensures c.in-Seq.is in
    two_in_seq _ _ c.args.part.now _ _ _ _ z c.requires.placed

pub returns-in-Seq : goal.returns-in-Seq
returns-in-Seq t c =
    let z = named_seq _ _ _ _ _ _ _ c.deref.ensures c.deref-in-Seq.ensures c.in-Seq.is in
    let f = c.args.part.now in
    let cells = c.args.net.now.cells.items in
    ends_by_second f.place.main f.statement.now _ _ _ _ f.place.cell f.place.traps cells _ z
    (subst (λ (g : Part). PartEnds g cells c.ends_of.result) c.second.ensures c.ends_of.ensures)

pub returns-in_default : goal.returns-in_default
returns-in_default t c =
    let f = c.args.part.now in
    ends_here f.place.main f.statement.now f.place.cell f.place.traps c.args.net.now.cells.items _ c.status.ensures
