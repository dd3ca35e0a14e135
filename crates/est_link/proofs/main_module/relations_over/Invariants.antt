use Rattle.std.proofs.Common.{◌≡◌, Bor, map, take, length}
use Rattle.est_syntax.specs.Views.{relation_view}
use Rattle.est_syntax.specs.declared.tree.Relation.{Relation}
use Rattle.est_link.specs.MainModule.{AreRelations}
use Rattle.est_link.proofs.main_module.relations_over.Given as goal

abbrev pub invariant-loop-relation : goal.invariant-loop-relation
invariant-loop-relation l =
    record {
      made : AreRelations l.signals
          (map (λ (r : Bor Relation). relation_view r.now) (take l.relation-index l.relations)) l.made;
      count : length l.made ≡ l.relation-index;
    }
