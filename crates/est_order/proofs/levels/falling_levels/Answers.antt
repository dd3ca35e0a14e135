use Rattle.std.proofs.Common.{List, ℕ, subst, rules}
use Rattle.est_order.specs.RunRows.{rows_of, IsRecursive}
use Rattle.est_order.specs.Inner.Levels.{NoneClimbs, IsFirstNotFalling}
use Rattle.est_order.proofs.LevelLemmas.{first_recursive}
use Rattle.est_order.proofs.levels.falling_levels.Goals as goal

pub returns-then-branch-clause-err : goal.returns-then-branch-clause-err
returns-then-branch-clause-err c =
    let rows = rows_of c.args.runs.now in
    let climbs : NoneClimbs rows c.deref.result.now = c.none_climbs.ensures.0
    (search (rules, c.if-not-none_climbs.false)) in
    let back : IsRecursive rows c.in-Some.place = c.in_ok-leads_back-in-Some.ensures.0 c.if-branch.true in
    first_recursive rows c.in_ok-guess.guess.items c.in-Some.place
    (subst (λ (levels : List ℕ). NoneClimbs rows levels) c.deref.ensures.value climbs)
    (subst (λ (levels : List ℕ). IsFirstNotFalling rows levels c.in-Some.place) c.deref-2.ensures.value
    c.in-Some.ensures)
    back
