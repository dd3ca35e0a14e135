use Rattle.std.proofs.Common.{◌≡◌, ◌||◌, ◌&&◌, ◌+◌, Bool, true, false, cond, refl, sym, ap, ◌∙◌, arith}
use Rattle.est_cells.specs.Tables.{is_sure, is_possible}
use Rattle.est_micro.proofs.FreshCells.{fresh_not}
use Rattle.est_micro.proofs.outputs.update_signal.Goals as goal

not_one : (a f b : Bool) → f ≡ false → a ≡ (a || (f && b))
not_one true f b e = refl
not_one false f b e = rw e refl

one : (a f b d : Bool) → f ≡ true → d ≡ b → (a || d) ≡ (a || (f && b))
one a f b d e h = rw (e, h) refl

pub returns-then-not-has-clause-told : goal.returns-then-not-has-clause-told
returns-then-not-has-clause-told c = record {
  next_is = let e : c.args.so_far.cell ≡ c.args.so_far.cell + 0 = omega arith in
      e ∙ ap (λ (b : Bool). c.args.so_far.cell + cond b 1 0) (sym (sym c.has.ensures ∙ c.if-not-has.true));
  told = λ h. cc (c.has.ensures, c.if-not-has.true, h);
  kept = λ h. refl;
}

pub returns-then-not-has-clause-sure : goal.returns-then-not-has-clause-sure
returns-then-not-has-clause-sure c = not_one _ _ _ (sym c.has.ensures ∙ c.if-not-has.true)

pub returns-then-not-has-clause-possible : goal.returns-then-not-has-clause-possible
returns-then-not-has-clause-possible c = not_one _ _ _ (sym c.has.ensures ∙ c.if-not-has.true)

pub returns-clause-told : goal.returns-clause-told
returns-clause-told c = record {
  next_is = ap (λ (b : Bool). c.args.so_far.cell + cond b 1 0) (sym (sym c.has.ensures ∙ c.if-not-has.false));
  told = λ h. rw (← c.gate.ensures) c.tell_cell-status.ensures.learns;
  kept = λ h. cc (c.has.ensures, c.if-not-has.false, h);
}

pub returns-clause-sure : goal.returns-clause-sure
returns-clause-sure c =
    c.put.ensures.here ∙ one _ _ _ _ (sym c.has.ensures ∙ c.if-not-has.false)
    (c.is_true.ensures ∙ ap is_sure c.tell_cell-status.ensures.known)

pub returns-clause-possible : goal.returns-clause-possible
returns-clause-possible c =
    c.put-2.ensures.here ∙ one _ _ _ _ (sym c.has.ensures ∙ c.if-not-has.false)
    (c.may_be_true.ensures ∙ ap is_possible c.tell_cell-status.ensures.known)

pub tell_cell-status-requires-clause-fresh : goal.tell_cell-status-requires-clause-fresh
tell_cell-status-requires-clause-fresh c = fresh_not _ _ _
