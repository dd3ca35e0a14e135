use Rattle.std.proofs.Common.{Option, ap, length, refl, rules, subst, sym, ◌≡◌, ◌∙◌, ◌<◌, true, false, IfSome}
use Rattle.est_kernel.specs.Bits.{bits}
use Rattle.est_kernel.specs.Pauses.{pauses_of}
use Rattle.est_kernel.specs.declared.statement.Statement.{Statement}
use Rattle.est_kernel.specs.declared.statement.Statement.TheVariants.{Par'}
use Rattle.est_meaning.specs.Environments.{Env, and_status, opposite, with_local}
use Rattle.est_meaning.specs.States.{is_live}
use Rattle.est_meaning.specs.Views.{env_of}
use Rattle.est_meaning.specs.declared.status.Status.TheVariants.{Absent}
use Rattle.est_net.specs.Owners.{statements}
use Rattle.est_micro.specs.Engine.{IsNetOf}
use Rattle.est_micro.specs.Inner.Parts.{GoesOn, IsPlaced, PartEnds, again_part, begun_by, body_part, first_part, gated}
use Rattle.est_micro.specs.Inner.Parts.{second_part}
use Rattle.est_micro.specs.Inner.Sides.{IsOneOf}
use Rattle.est_micro.specs.Inner.Walks.{IsWalked, Walks}
use Rattle.est_micro.specs.declared.part.Part.{Part}
use Rattle.est_micro.specs.declared.sides.Side.{Side}
use Rattle.est_micro.proofs.KernelNets.{still_net}
use Rattle.est_micro.proofs.PartSteps.{again_is, by_some, loop_again, loop_body, present_first, present_first_live}
use Rattle.est_micro.proofs.PartSteps.{present_second}
use Rattle.est_micro.proofs.PartSteps.{present_second_live, seq_first, seq_next, seq_over, seq_second}
use Rattle.est_micro.proofs.PartSteps.{side_walks, suspend_body, trap_body, when}
use Rattle.est_micro.proofs.Placing.{named_suspend, placed_second, second_goes_on, second_smaller, side_placed}
use Rattle.est_micro.proofs.Placing.{still_placed, two_in_seq}
use Rattle.est_micro.proofs.WalkedScopes.{walked_scope}
use Rattle.est_micro.proofs.Walks.{part_walks, then_walks}
use Rattle.est_micro.proofs.walk.+walk.Goals.{walk_par-in-Some-get, walk_par-in_default-get}
use Rattle.est_micro.proofs.walk.+walk.Goals.{walk_seq-in-Some+else-not-is_live, walk_seq-in_default}
use Rattle.est_micro.proofs.walk.+walk.Goals.{walk_side-in-Some+else-not-is_live, walk_side-in_default}
use Rattle.est_micro.proofs.walk.+walk.Goals as goal

pub walk-returns-in_default-clause-walked : goal.walk-returns-in_default-clause-walked
walk-returns-in_default-clause-walked t c = c.lead_part.ensures.walked c.args.question.now

pub walk-returns-in_default-clause-net : goal.walk-returns-in_default-clause-net
walk-returns-in_default-clause-net t c =
    still_net _ _ c.args.net.now _ c.requires.net (c.lead_part.ensures.walked c.args.question.now).changes.size
    c.lead_part.ensures.kept

pub walk-returns-in-End-clause-walked : goal.walk-returns-in-End-clause-walked
walk-returns-in-End-clause-walked t c =
    then_walks c.args.question.now c.args.part.now _ _ _ _ _ _ c.walk_parts-mid.ensures.walked
    (c.lead_part-in-End.ensures.walked c.args.question.now)

pub walk-returns-in-End-clause-net : goal.walk-returns-in-End-clause-net
walk-returns-in-End-clause-net t c =
    still_net _ _ c.walk_parts-mid.new.net _ c.walk_parts-mid.ensures.net
    (c.lead_part-in-End.ensures.walked c.args.question.now).changes.size c.lead_part-in-End.ensures.kept

pub walk_inside-returns-clause-suspend : goal.walk_inside-returns-clause-suspend
walk_inside-returns-clause-suspend t c = λ y a z w gate.
    part_walks c.args.question.now c.args.part.now
    (gated (body_part c.args.part.now c.args.p 3 c.args.traps) c.args.gate) c.gated-body.result _ _ _ _
    (c.gated-body.ensures ∙ ap (λ (x : Part). gated x c.args.gate) c.body.ensures)
    (suspend_body c.args.part.now y a c.args.p c.args.traps c.args.gate _ _ z w gate) c.walk.ensures.walked

pub walk_inside-returns-clause-trap : goal.walk_inside-returns-clause-trap
walk_inside-returns-clause-trap t c = λ a z w same.
    part_walks c.args.question.now c.args.part.now
    (gated (body_part c.args.part.now c.args.p 3 c.args.traps) c.args.gate) c.gated-body.result _ _ _ _
    (c.gated-body.ensures ∙ ap (λ (x : Part). gated x c.args.gate) c.body.ensures)
    (trap_body c.args.part.now a c.args.p c.args.traps c.args.gate _ _ z w same) c.walk.ensures.walked

pub walk_local-returns-clause-walked : goal.walk_local-returns-clause-walked
walk_local-returns-clause-walked t c =
    let q = c.args.question.now in
    let f = c.args.part.now in
    let n = c.args.s.index in
    let l = env_of c.args.known.now in
    let m = env_of c.walk-after.result in
    let k = q.kernel.now in
    let x = q.state.now in
    let u = bits q.unasked in
    let i = bits q.inputs in
    let old = c.args.net.now.cells.items in
    let new = c.walk-after.new.net.cells.items in
    subst (λ (e : Env). IsWalked k x u i f l e old new)
    (sym (c.set_local.ensures ∙ ap (with_local m n) c.status_of_signal-outside.ensures))
    (walked_scope k x u i f c.args.s c.requires.is.box c.args.p c.status-status.result l m old new c.requires.is.is
    c.status-status.ensures
    (subst (λ (g : Part). IsWalked k x u i g (with_local l n c.status-status.result) m old new) c.body-body.ensures
    (subst (λ (e : Env). IsWalked k x u i c.body-body.result e m old new) c.set_local-inside.ensures
    c.walk-after.ensures.walked)))

pub walk_loop-returns-then-is_none-clause-walked : goal.walk_loop-returns-then-is_none-clause-walked
walk_loop-returns-then-is_none-clause-walked t c =
    part_walks c.args.question.now c.args.part.now (first_part c.args.part.now c.args.p) c.body-body.result _ _ _ _
    c.body-body.ensures (loop_body c.args.part.now c.requires.is.box c.args.p _ _ c.requires.is.is)
    c.walk.ensures.walked

pub walk_loop-returns-clause-walked : goal.walk_loop-returns-clause-walked
walk_loop-returns-clause-walked t c =
    let q = c.args.question.now in
    let f = c.args.part.now in
    by_some f _ c.if-is_none.ensures (λ ps some.
    then_walks q f _ _ _ _ _ _
    (part_walks q f (first_part f c.args.p) c.body-body.result _ _ _ _ c.body-body.ensures
    (loop_body f c.requires.is.box c.args.p _ _ c.requires.is.is) c.walk-mid.ensures.walked)
    (part_walks q f (again_part f c.args.p c.ends_of.result) _ _ _ _ _
    (again_is f c.body-body.result c.args.p c.past.result c.ends_of.result c.body-body.ensures c.past.ensures)
    (loop_again f (again_part f c.args.p c.ends_of.result) c.requires.is.box c.args.p ps _ _ c.requires.is.is some
    (when _ some c.requires.placed.main) refl
    (subst (λ (g : Part). PartEnds g c.walk-mid.new.net.cells.items c.ends_of.result) c.body-body.ensures
    c.ends_of.ensures)) c.walk-2.ensures.walked))

pub walk_par-close_part-requires : goal.walk_par-close_part-requires
walk_par-close_part-requires t c = record {
  placed = still_placed c.args.part.now _ c.args.net.now c.loop-n.net c.loop-n.invariant.0 c.requires.net
      c.loop-n.invariant.1 c.requires.placed;
}

pub walk_par-returns-clause-kept : goal.walk_par-returns-clause-kept
walk_par-returns-clause-kept t c = c.close_part.ensures.kept ∙ c.loop-n.invariant.0

pub walk_par-returns-clause-net : goal.walk_par-returns-clause-net
walk_par-returns-clause-net t c =
    still_net _ _ c.loop-n.net _ c.loop-n.invariant.1
    (c.close_part.ensures.walked c.args.question.now (env_of c.loop-n.known)).changes.size c.close_part.ensures.kept

pub walk_par-returns-clause-walked : goal.walk_par-returns-clause-walked
walk_par-returns-clause-walked t c =
    then_walks c.args.question.now c.args.part.now _ _ _ _ _ _ c.loop-n.invariant.2
    (c.close_part.ensures.walked c.args.question.now (env_of c.loop-n.known))

pub walk_par-walk_side-known-requires : goal.walk_par-walk_side-known-requires
walk_par-walk_side-known-requires t c =
    let f = c.args.part.now in
    let xs = c.args.net.now.extents.items in
    let s = Par' c.requires.is.left c.args.p.now c.requires.is.right c.args.q.now in
    let one = subst (λ (o : Option Side). IfSome o (IsOneOf xs f.place s)) c.in-Some-get.is
    (c.get-in-loop-n.ensures xs f.place s (c.of-sides.ensures c.requires.is.left c.requires.is.right)) in
    let less : statements c.side.result.statement.now < statements f.statement.now
    = subst (λ (y : Statement). statements c.side.result.statement.now < statements y) (sym c.requires.is.is)
    (subst (λ (g : Part). statements g.statement.now < statements s) (sym c.side.ensures) one.smaller) in (
      search rules,
      (
        c.loop-n.invariant.1,
        subst (λ (g : Part). IsPlaced c.loop-n.net.extents.items (length c.loop-n.net.cells.items) g)
            (sym c.side.ensures) (still_placed _ _ c.args.net.now c.loop-n.net c.loop-n.invariant.0 c.requires.net
            c.loop-n.invariant.1 (side_placed xs _ f s c.in-Some-get.side c.requires.is.is one c.requires.placed)),
      ),
    )

pub walk_par-loop-n-preserved : goal.walk_par-loop-n-preserved
walk_par-loop-n-preserved t c =
    let q = c.args.question.now in
    let f = c.args.part.now in
    let xs = c.args.net.now.extents.items in
    let s = Par' c.requires.is.left c.args.p.now c.requires.is.right c.args.q.now in
    let was = c.loop-n.invariant in
    elim c.match-get-2.branch [
      | walk_par-in-Some-get w ↦
          let one = subst (λ (o : Option Side). IfSome o (IsOneOf xs f.place s)) w.in-Some-get.is
          (c.get-in-loop-n.ensures xs f.place s (c.of-sides.ensures c.requires.is.left c.requires.is.right)) in
          rw (w.net-is, w.known-is) (
            w.walk_side-known.ensures.kept ∙ was.0,
            w.walk_side-known.ensures.net,
            then_walks q f _ _ _ _ _ _ was.2
                (side_walks q f xs s _ _ _ _ _ _ c.requires.is.is c.requires.placed.main one w.side.ensures
                w.walk_side-known.ensures.walked),
          )
      | walk_par-in_default-get w ↦ rw (w.net-is, w.known-is) was
    ]

pub walk_parts-returns-in-Suspend-clause-walked : goal.walk_parts-returns-in-Suspend-clause-walked
walk_parts-returns-in-Suspend-clause-walked t c =
    c.walk_inside-in-Suspend.ensures.suspend _ _
    (named_suspend _ _ _ _ _ c.deref-in-Suspend.ensures c.in-Suspend.is) refl
    (c.gate_inside-gate.ensures _ _ c.answer_to.ensures)

pub walk_present-returns-clause-walked : goal.walk_present-returns-clause-walked
walk_present-returns-clause-walked t c =
    let q = c.args.question.now in
    let f = c.args.part.now in
    let y = c.args.test.now in
    let none = c.in_default.is in
    then_walks q f _ _ _ _ _ _
    (part_walks q f (gated (first_part f c.args.p) c.and-taken.result) c.gated.result _ _ _ _
    (c.gated.ensures ∙ ap (λ (g : Part). gated g c.and-taken.result) c.first-first.ensures)
    (present_first f y c.requires.is.left c.args.p c.requires.is.right c.args.q.now _ _ _ c.requires.is.is none
    (c.and-taken.ensures ∙ ap (and_status f.gate) c.answer_to.ensures)) c.walk-mid.ensures.walked)
    (part_walks q f (gated (second_part f c.args.p c.args.q) c.and-other.result) c.gated-2.result _ _ _ _
    (c.gated-2.ensures ∙ ap (λ (g : Part). gated g c.and-other.result) c.second-second.ensures)
    (present_second f y c.requires.is.left c.args.p c.requires.is.right c.args.q _ _ _ c.requires.is.is none
    (c.and-other.ensures ∙ ap (and_status f.gate) (c.opposite.ensures ∙ ap opposite c.answer_to-2.ensures)))
    c.walk-2.ensures.walked)

pub walk_present-returns-in-Some-clause-walked : goal.walk_present-returns-in-Some-clause-walked
walk_present-returns-in-Some-clause-walked t c =
    part_walks c.args.question.now c.args.part.now (second_part c.args.part.now c.args.p c.args.q)
    c.second-second.result _ _ _ _ c.second-second.ensures
    (present_second_live c.args.part.now c.args.test.now c.requires.is.left c.args.p c.requires.is.right c.args.q _ _ _
    c.requires.is.is c.in-Some.is (when _ c.in-Some.is c.requires.placed.main)
    (sym c.is_live.ensures ∙ c.if-is_live.false))
    c.walk-in-Some.ensures.walked

pub walk_present-returns-then-is_live-clause-walked : goal.walk_present-returns-then-is_live-clause-walked
walk_present-returns-then-is_live-clause-walked t c =
    part_walks c.args.question.now c.args.part.now (first_part c.args.part.now c.args.p)
    c.first-first.result _ _ _ _ c.first-first.ensures
    (present_first_live c.args.part.now c.args.test.now c.requires.is.left c.args.p c.requires.is.right c.args.q.now _ _
    _
    c.requires.is.is c.in-Some.is (sym c.is_live.ensures ∙ c.if-is_live.true))
    c.walk.ensures.walked

pub walk_seq-returns-clause-walked : goal.walk_seq-returns-clause-walked
walk_seq-returns-clause-walked t c =
    let q = c.args.question.now in
    let f = c.args.part.now in
    let live : IfSome f.pauses (λ x. is_live c.args.p.now (pauses_of x.now) ≡ true)
    = elim c.match-part.branch [
      | walk_seq-in-Some+else-not-is_live w ↦
          subst (λ o. IfSome o (λ x. is_live c.args.p.now (pauses_of x.now) ≡ true)) (sym w.in-Some.is)
          (sym w.is_live.ensures ∙ w.if-not-is_live.false)
      | walk_seq-in_default w ↦
          subst (λ o. IfSome o (λ x. is_live c.args.p.now (pauses_of x.now) ≡ true)) (sym w.in_default.is) tt
    ] in
    then_walks q f _ _ _ _ _ _
    (part_walks q f (first_part f c.args.p) c.first-first.result _ _ _ _ c.first-first.ensures
    (seq_first f c.requires.is.left c.args.p c.requires.is.right c.args.q.now _ _ c.requires.is.is live)
    c.walk-mid.ensures.walked)
    (part_walks q f (begun_by (second_part f c.args.p c.args.q) c.ends_of-ends.result) c.begun-2.result _ _ _ _
    (c.begun-2.ensures ∙ ap (λ (g : Part). begun_by g c.ends_of-ends.result) c.second-second.ensures)
    (seq_next f c.requires.is.left c.args.p c.requires.is.right c.args.q _ _ _ c.requires.is.is c.requires.placed.main
    live
    (subst (λ (g : Part). PartEnds g c.walk-mid.new.net.cells.items c.ends_of-ends.result) c.first-first.ensures
    c.ends_of-ends.ensures)) c.walk-2.ensures.walked)

pub walk_seq-returns-then-not-is_live-clause-walked : goal.walk_seq-returns-then-not-is_live-clause-walked
walk_seq-returns-then-not-is_live-clause-walked t c =
    let q = c.args.question.now in
    let f = c.args.part.now in
    let main = when _ c.in-Some.is c.requires.placed.main in
    then_walks q f _ _ _ _ _ _
    (part_walks q f (begun_by (first_part f c.args.p) Absent) c.begun.result _ _ _ _
    (c.begun.ensures ∙ ap (λ (g : Part). begun_by g Absent) c.first-first.ensures)
    (seq_over f c.requires.is.left c.args.p c.requires.is.right c.args.q.now _ _ _ c.requires.is.is c.in-Some.is main
    (sym c.if-not-is_live.ensures)) (c.lead_part-mid.ensures.walked q))
    (part_walks q f (second_part f c.args.p c.args.q) c.second-second.result _ _ _ _ c.second-second.ensures
    (seq_second f c.requires.is.left c.args.p c.requires.is.right c.args.q _ _ _ c.requires.is.is c.in-Some.is main
    (sym c.if-not-is_live.ensures)) c.walk.ensures.walked)

pub walk_seq-walk-requires : goal.walk_seq-walk-requires
walk_seq-walk-requires t c =
    let f = c.args.part.now in
    let p = c.args.p in
    let q = c.args.q in
    let net : IsNetOf c.lead_part-mid.new.net c.args.question.now.kernel.now
    = still_net _ _ c.args.net.now _ c.requires.net (c.lead_part-mid.ensures.walked c.args.question.now).changes.size
    c.lead_part-mid.ensures.kept in
    let less : statements c.second-second.result.statement.now < statements f.statement.now
    = subst (λ (g : Part). statements g.statement.now < statements f.statement.now) (sym c.second-second.ensures)
    (second_smaller f.statement.now c.requires.is.left p.now c.requires.is.right q.now c.requires.is.is) in (
      search rules,
      (
        net,
        (
          subst (λ (g : Part). IsPlaced c.lead_part-mid.new.net.extents.items
              (length c.lead_part-mid.new.net.cells.items) g) (sym c.second-second.ensures)
              (still_placed _ _ c.args.net.now c.lead_part-mid.new.net c.lead_part-mid.ensures.kept c.requires.net net
              (placed_second _ _ f p q (two_in_seq _ _ f _ _ _ _ c.requires.is.is c.requires.placed)
              c.requires.placed.main)),
          subst (λ (g : Part). GoesOn g) (sym c.second-second.ensures)
              (second_goes_on f _ _ _ _ _ c.requires.is.is c.in-Some.is (sym c.if-not-is_live.ensures) c.requires.live),
        ),
      ),
    )

pub walk_side-returns-clause-walked : goal.walk_side-returns-clause-walked
walk_side-returns-clause-walked t c = record {
  on = λ live. then_walks c.args.question.now c.args.side.now _ _ _ _ _ _
      (c.without_silent-heard.ensures.silent c.args.side.now) c.walk.ensures.walked;
  off = elim c.match-side.branch [
    | walk_side-in-Some+else-not-is_live w ↦
        subst (λ o. IfSome o (λ x. is_live c.args.side.now.statement.now (pauses_of x.now) ≡ false
        → Walks c.args.question.now (begun_by c.args.side.now Absent) (env_of c.args.known.now) (env_of c.walk.result)
        c.args.net.now.cells.items c.walk.new.net.cells.items)) (sym w.in-Some.is)
        (λ over. let x : true ≡ false = sym w.if-not-is_live.false ∙ (w.is_live.ensures ∙ over) in cc)
    | walk_side-in_default w ↦
        subst (λ o. IfSome o (λ x. is_live c.args.side.now.statement.now (pauses_of x.now) ≡ false
        → Walks c.args.question.now (begun_by c.args.side.now Absent) (env_of c.args.known.now) (env_of c.walk.result)
        c.args.net.now.cells.items c.walk.new.net.cells.items)) (sym w.in_default.is) tt
  ];
}

pub walk_side-returns-then-not-is_live-clause-walked : goal.walk_side-returns-then-not-is_live-clause-walked
walk_side-returns-then-not-is_live-clause-walked t c = record {
  on = λ live.
      let x : true ≡ false = sym (when _ c.in-Some.is live) ∙ sym c.if-not-is_live.ensures in
      cc;
  off = subst (λ o. IfSome o (λ x. is_live c.args.side.now.statement.now (pauses_of x.now) ≡ false
      → Walks c.args.question.now (begun_by c.args.side.now Absent) (env_of c.args.known.now)
      (env_of c.lead_part.result)
      c.args.net.now.cells.items c.lead_part.new.net.cells.items)) (sym c.in-Some.is)
      (λ over. subst (λ (g : Part). Walks c.args.question.now g (env_of c.args.known.now) (env_of c.lead_part.result)
      c.args.net.now.cells.items c.lead_part.new.net.cells.items) c.begun.ensures
      (c.lead_part.ensures.walked c.args.question.now));
}

pub walk_side-returns-then-not-is_live-clause-net : goal.walk_side-returns-then-not-is_live-clause-net
walk_side-returns-then-not-is_live-clause-net t c =
    still_net _ _ c.args.net.now _ c.requires.net (c.lead_part.ensures.walked c.args.question.now).changes.size
    c.lead_part.ensures.kept
