use Rattle.std.proofs.Common.{◌≤◌, ap, arith, rules}
use Rattle.std.specs.Prelude.{Err}
use Rattle.est_reduce.specs.Inner.Sizes.{reduced_statements}
use Rattle.est_reduce.specs.Views.{body_of}
use Rattle.est_reduce.proofs.Reduced.{closed_term, small_term, too_many, fault_is}
use Rattle.est_reduce.proofs.reduce.reduce.Goals as goal

pub returns-then-room_after-eq0 : goal.returns-then-room_after-eq0
returns-then-room_after-eq0 c =
    too_many (body_of c.args.flat.now.body) (omega (arith, c.room_after.ensures, c.if-room_after-eq0.true))

pub statement-requires-clause-small : goal.statement-requires-clause-small
statement-requires-clause-small c =
    let few : reduced_statements (body_of c.args.flat.now.body) ≤ 2048 =
    omega (arith, c.room_after.ensures, c.if-room_after-eq0.false) in
    small_term c.args.flat.now.interface (body_of c.args.flat.now.body) c.in_ok-interface.ensures.bound few
    c.args.flat.now.bound

pub build-requires : goal.build-requires
build-requires c = rw (c.in_ok-root.ensures, c.in_ok-interface.ensures.same)
    (closed_term c.args.flat.now.interface (body_of c.args.flat.now.body) c.args.flat.now.bound)

pub returns-in-Err : goal.returns-in-Err
returns-in-Err c =
    rw c.from.ensures (fault_is (body_of c.args.flat.now.body) c.in-Err.fault
    (λ limit e. rw c.in_ok-root.ensures at ((c.in-Err.ensures.too_large limit).0 (ap Err e)))
    (λ e. rw c.in_ok-root.ensures at (c.in-Err.ensures.instant_loop.0 (ap Err e))))
