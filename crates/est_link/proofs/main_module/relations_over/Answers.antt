use Rattle.std.proofs.Common.{◌∙◌, ◌+◌, ◌++◌, ◌∷◌, [], Bor, sym, ap, subst, map, take, length, arith}
use Rattle.std.proofs.lemmas.List.{length-append}
use Rattle.est_syntax.specs.Views.{relation_view}
use Rattle.est_syntax.specs.declared.tree.Relation.{Relation}
use Rattle.est_link.specs.MainModule.{AreRelations}
use Rattle.est_modules.proofs.Lists.{more}
use Rattle.est_link.proofs.MainRelating.{one_related}
use Rattle.est_link.proofs.main_module.relations_over.Goals as goal

pub loop-relation-preserved : goal.loop-relation-preserved
loop-relation-preserved c =
    let ds = c.args.signals.now in
    let rs = c.args.relations.now in
    let k = c.loop-relation.relation-index in
    let made = c.loop-relation.made in
    let item = c.relation-item.result in
    let r = c.in_ok-kernel_relation.field-0 in
    let front = map (λ (r : Bor Relation). relation_view r.now) (take k rs) in
    let one = one_related ds front made (relation_view item.now) r c.loop-relation.invariant.made
    c.in_ok-kernel_relation.ensures in
    let grown = ap (λ (x : Bor Relation). front ++ relation_view x.now ∷ []) c.relation-item.is
    ∙ more (λ (r : Bor Relation). relation_view r.now) rs k (k + 1) item c.loop-relation-test.true (omega arith) in
    record {
      made = subst (λ ts. AreRelations ds ts c.push.new.self) grown
          (subst (AreRelations ds (front ++ relation_view item.now ∷ [])) (sym c.in_ok-push.ensures.ok) one);
      count = ap length c.in_ok-push.ensures.ok ∙ length-append made (r ∷ [])
          ∙ ap (λ n. n + 1) c.loop-relation.invariant.count;
    }
