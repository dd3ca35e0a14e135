use Rattle.std.proofs.Common.{◌≡◌, refl, ap, List, length, ℕ, subst, arith, slice_set}
use Rattle.est_kernel.specs.declared.statement.Statement.TheVariants.{Present', Seq', Par'}
use Rattle.est_net.specs.Inner.Extending.{ArePartsAdded}
use Rattle.est_net.specs.declared.extents.Extent.{Extent}
use Rattle.est_net.proofs.Extending.{extended, two_added, par_extent, present_extent, seq_extent}
use Rattle.est_net.proofs.extents.+add_extents.Goals as goal

pub add_extents-returns : goal.add_extents-returns
add_extents-returns t c =
    extended c.args.s.now c.args.traps c.args.extents.now.items c.add_parts.new.extents.items _ c.leaf.result
    c.in_ok-extent.extent
    (subst (λ (z : List Extent). ArePartsAdded c.args.s.now c.args.traps z c.add_parts.new.extents.items
    c.in_ok-extent.extent) c.in_ok-push.ensures.items c.in_ok-extent.ensures)
    (ap (λ (n : ℕ). slice_set c.add_parts.new.extents.items n c.in_ok-extent.extent)
    (let number : c.len-number.result ≡ length c.args.extents.now.items
    = omega (arith, c.len-number.ensures, c.args.extents.now.ok.0) in number))

pub add_extents_of_two-returns-clause-present : goal.add_extents_of_two-returns-clause-present
add_extents_of_two-returns-clause-present t c = λ x a b.
    two_added (Present' x a c.args.p.now b c.args.q.now) c.args.p.now c.args.q.now c.args.traps
    c.args.extents.now.items c.add_extents.new.extents.items
    c.add_extents-2.new.extents.items c.in_ok-first.first c.in_ok-second.second c.in_ok-both.both refl
    (λ n f g. (f, g))
    c.in_ok-first.ensures c.in_ok-second.ensures
    (present_extent c.args.p.now c.args.q.now c.args.traps c.in_ok-first.first c.in_ok-second.second c.in_ok-both.both
    c.in_ok-first.ensures.own c.in_ok-second.ensures.own
    (record {
      main = c.in_ok-both.ensures.main;
      again = c.in_ok-both.ensures.again;
      statements = c.in_ok-both.ensures.statements;
      pauses = c.in_ok-both.ensures.pauses;
    }) x a b)

pub add_extents_of_two-returns-clause-seq : goal.add_extents_of_two-returns-clause-seq
add_extents_of_two-returns-clause-seq t c = λ a b.
    two_added (Seq' a c.args.p.now b c.args.q.now) c.args.p.now c.args.q.now c.args.traps c.args.extents.now.items
    c.add_extents.new.extents.items
    c.add_extents-2.new.extents.items c.in_ok-first.first c.in_ok-second.second c.in_ok-both.both refl
    (λ n f g. (f, g))
    c.in_ok-first.ensures c.in_ok-second.ensures
    (seq_extent c.args.p.now c.args.q.now c.args.traps c.in_ok-first.first c.in_ok-second.second c.in_ok-both.both
    c.in_ok-first.ensures.own c.in_ok-second.ensures.own
    (record {
      main = c.in_ok-both.ensures.main;
      again = c.in_ok-both.ensures.again;
      statements = c.in_ok-both.ensures.statements;
      pauses = c.in_ok-both.ensures.pauses;
    }) a b)

pub add_extents_of_two-returns-clause-par : goal.add_extents_of_two-returns-clause-par
add_extents_of_two-returns-clause-par t c = λ a b.
    two_added (Par' a c.args.p.now b c.args.q.now) c.args.p.now c.args.q.now c.args.traps c.args.extents.now.items
    c.add_extents.new.extents.items
    c.add_extents-2.new.extents.items c.in_ok-first.first c.in_ok-second.second c.in_ok-both.both refl
    (λ n f g. (f, g))
    c.in_ok-first.ensures c.in_ok-second.ensures
    (par_extent c.args.p.now c.args.q.now c.args.traps c.in_ok-first.first c.in_ok-second.second c.in_ok-both.both
    c.in_ok-first.ensures.own c.in_ok-second.ensures.own
    (record {
      main = c.in_ok-both.ensures.main;
      again = c.in_ok-both.ensures.again;
      statements = c.in_ok-both.ensures.statements;
      pauses = c.in_ok-both.ensures.pauses;
    }) a b)
