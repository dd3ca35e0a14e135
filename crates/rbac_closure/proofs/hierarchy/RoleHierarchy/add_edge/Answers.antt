use Rattle.std.proofs.Common.{◌≡◌, ◌<◌, ℕ, List, length, arith, get_or, sym, ◌∙◌, ap, subst}
use Rattle.std.specs.Prelude.{slice_index, slice_set}
use Rattle.std.proofs.lemmas.Grind.{get_or_default_zero}
use Rattle.rbac_closure.specs.Sets.{with_place}
use Rattle.rbac_closure.specs.Edges.{IsEdge}
use Rattle.rbac_closure.specs.Inner.Rows.{IsClosed}
use Rattle.rbac_closure.proofs.EdgeLemmas.{TakesIn, closed_after, edge_again}
use Rattle.rbac_closure.proofs.hierarchy.RoleHierarchy.add_edge.Goals as goal

pub invariant_of-self : goal.invariant_of-self
invariant_of-self c =
    let f = c.self.inside in
    let s = c.args.senior in
    let j = c.args.junior in
    let above_full : s < length f.above = omega arith in
    let below_full : j < length f.below = omega arith in
    let edges_full : s < length f.juniors = omega arith in
    let upper = get_or_default_zero f.above s c.index-self-senior.result above_full in
    let lower = get_or_default_zero f.below j c.index-self-junior.result below_full in
    let own = get_or_default_zero f.juniors s c.index-self-senior-2.result edges_full in
    let row : c.with.result ≡ with_place (slice_index f.juniors s) j = c.with.ensures ∙ ap (λ n. with_place n j) own in
    let down : TakesIn f.below c.join.new.rows (slice_index f.above s) (slice_index f.below j) =
    subst (λ m. TakesIn f.below c.join.new.rows (slice_index f.above s) m) lower
    (subst (λ m. TakesIn f.below c.join.new.rows m (get_or f.below j c.index-self-junior.result)) upper
    c.join.ensures) in
    let up : TakesIn f.above c.join-2.new.rows (slice_index f.below j) (slice_index f.above s) =
    subst (λ m. TakesIn f.above c.join-2.new.rows (slice_index f.below j) m) upper
    (subst (λ m. TakesIn f.above c.join-2.new.rows m (get_or f.above s c.index-self-senior.result)) lower
    c.join-2.ensures) in
    subst (λ n. IsClosed (slice_set f.juniors s n) c.join.new.rows c.join-2.new.rows) (sym row)
    (closed_after s j f.juniors f.below f.above c.join.new.rows c.join-2.new.rows c.requires.senior_is
    c.requires.junior_is c.self.invariant down up)

pub returns-clause-again : goal.returns-clause-again
returns-clause-again c = λ it.
    let edges = c.self.inside.juniors in
    let s = c.args.senior in
    let j = c.args.junior in
    let full : s < length edges = omega arith in
    let row =
    c.with.ensures ∙ ap (λ n. with_place n j) (get_or_default_zero edges s c.index-self-senior-2.result full) in
    ap (slice_set edges s) row ∙ edge_again s j edges (subst (λ (e : List ℕ). IsEdge e s j) (sym c.self.view_is) it)
    ∙ c.self.view_is
