use Rattle.std.proofs.Common.{◌∙◌, ◌+◌, [], sym, ap, subst, map, slice_index, arith}
use Rattle.std.proofs.lemmas.Bool.{false≢true}
use Rattle.std.proofs.lemmas.List.{length-map}
use Rattle.std.specs.Prelude.{is_some}
use Rattle.est_checks.proofs.OneName.{first_of_name}
use Rattle.est_modules.specs.Modules.{program_of}
use Rattle.est_modules.proofs.Standing.{order_within, program_at}
use Rattle.est_link.proofs.Made.{bodies_more, front_more, front_past, front_whole}
use Rattle.est_link.proofs.Needing.{next_ready}
use Rattle.est_order.specs.PlaceSets.{IsIn}
use Rattle.est_link.specs.Inner.Tables.{AreBodiesOf, HasFront}
use Rattle.est_link.proofs.body_table.bodies_along.Goals.{then-is_in+in_ok-add_body, else-is_in}
use Rattle.est_link.proofs.body_table.bodies_along.Goals as goal

pub is_in-requires : goal.is_in-requires
is_in-requires c =
    omega (
      arith,
      order_within (map program_of c.args.modules.now) c.args.order.now c.loop-place.place-index
          c.requires.order c.loop-place-test.true,
      length-map c.args.modules.now program_of,
      c.requires.size,
    )

pub add_body-requires : goal.add_body-requires
add_body-requires c =
    omega (
      arith,
      order_within (map program_of c.args.modules.now) c.args.order.now c.loop-place.place-index
          c.requires.order c.loop-place-test.true,
      length-map c.args.modules.now program_of,
    )

pub loop-place-init : goal.loop-place-init
loop-place-init c =
    record {
      right = λ m p found has. absurd (false≢true (ap is_some (sym (c.new-bodies.ensures m)) ∙ has));
      front = λ i lt. absurd (omega (arith, lt));
    }

pub loop-place-preserved : goal.loop-place-preserved
loop-place-preserved c =
    let ps = map program_of c.args.modules.now in
    let order = c.args.order.now in
    let k = c.loop-place.place-index in
    let set = c.args.needed.now in
    let old = c.loop-place.bodies in
    let lt = c.loop-place-test.true in
    let at = program_at ps (slice_index order k) (order_within ps order k c.requires.order lt) in
    elim c.if-is_in.branch [
      | then-is_in+in_ok-add_body w ↦
          let has : IsIn set (slice_index order k) = sym c.is_in.ensures ∙ w.if-is_in.true in
          let more = w.in_ok-add_body.ensures at.0 at.1 in
          let named = first_of_name [] ps c.requires.distinct (slice_index order k) at.0 at.1 in
          record {
            right = subst (AreBodiesOf ps) (sym w.bodies-is)
                (bodies_more ps c.requires.there old at.0 _ more named
                (next_ready ps order set old k at.0 c.requires.order c.requires.complete c.requires.there
                c.loop-place.invariant.front lt has at.1 named) c.loop-place.invariant.right);
            front = subst (HasFront ps set order (k + 1)) (sym w.bodies-is)
                (front_more ps order set old at.0 _ k more at.1 c.loop-place.invariant.front);
          }
      | else-is_in w ↦ record {
        right = subst (AreBodiesOf ps) (sym w.bodies-is) c.loop-place.invariant.right;
        front = subst (HasFront ps set order (k + 1)) (sym w.bodies-is)
            (front_past ps order set old k (sym c.is_in.ensures ∙ w.if-is_in.false) c.loop-place.invariant.front);
      }
    ]

pub returns-clause-each : goal.returns-clause-each
returns-clause-each c =
    front_whole (map program_of c.args.modules.now) c.args.order.now c.args.needed.now c.loop-place.bodies
    c.loop-place.place-index c.requires.order (omega (arith, c.loop-place-test.false)) c.loop-place.invariant.front
