use Rattle.std.proofs.Common.{ap, subst, List, arith}
use mathlib.Core.List.{IsPrefix}
use Rattle.rbac_policy.specs.declared.commands.Entry.{Entry}
use Rattle.policy_board.proofs.Beginnings.{as_begins, begins_shorter}
use Rattle.policy_board.proofs.board_list.begins.Goals as goal

pub returns-then-one-other : goal.returns-then-one-other
returns-then-one-other c =
    let both = c.learn.new.self.log in
    let xs = c.one.inside.seen.log in
    let ys = c.other.inside.seen.log in
    let this : IsPrefix xs both = subst (λ (l : List Entry). IsPrefix l both)
    (ap (λ s. s.log) c.again-both.ensures) c.learn.ensures.2 in
    let a = c.one.invariant.0 in
    let b = c.other.invariant.0 in
    rw (← ap (λ t. t.list) c.one.view_is, ← ap (λ t. t.list) c.other.view_is) (
      begins_shorter ys xs both (as_begins ys both c.learn.ensures.3) (as_begins xs both this) (omega (arith, a, b)),
      omega (arith, a, b),
    )

pub returns : goal.returns
returns c =
    let both = c.learn.new.self.log in
    let xs = c.one.inside.seen.log in
    let ys = c.other.inside.seen.log in
    let this : IsPrefix xs both = subst (λ (l : List Entry). IsPrefix l both)
    (ap (λ s. s.log) c.again-both.ensures) c.learn.ensures.2 in
    let a = c.one.invariant.0 in
    let b = c.other.invariant.0 in
    rw (← ap (λ t. t.list) c.one.view_is, ← ap (λ t. t.list) c.other.view_is)
    (begins_shorter xs ys both (as_begins xs both this) (as_begins ys both c.learn.ensures.3) (omega (arith, a, b)))
