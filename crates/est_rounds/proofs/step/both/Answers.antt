use Rattle.std.proofs.Common.{◌≢◌, refl, sym, ◌∙◌, arith}
use Rattle.std.proofs.lemmas.Bool.{ne_eqb}
use Rattle.est_kernel.specs.CodeViews.{code_of}
use Rattle.est_meaning.proofs.AgreementLemmas.{live_same, cleared_dead, apart_left, apart_right}
use Rattle.est_rounds.proofs.Resuming.{code_is}
use Rattle.est_rounds.proofs.step.both.Goals as goal
use Rattle.est_rounds.proofs.step.both.Goals.{then-not-is_pause+then-is_pause}
use Rattle.est_rounds.proofs.step.both.Goals.{then-not-is_pause+else-is_pause+then-is_pause-2}
use Rattle.est_rounds.proofs.step.both.Goals.{then-not-is_pause+else-is_pause+else-is_pause-2, else-not-is_pause}

pub returns-clause-left_ended : goal.returns-clause-left_ended
returns-clause-left_ended c d = elim c.if-not-is_pause.branch [
  | then-not-is_pause+then-is_pause w ↦
      rw w.next-is (cleared_dead c.args.p.now _ (λ i h. w.clear.ensures i ∙ rw h refl))
  | then-not-is_pause+else-is_pause+then-is_pause-2 w ↦
      let dead = c.requires.left ∙ (sym w.is_pause-then-not-is_pause.ensures ∙ w.if-is_pause.false) in
      rw w.next-is (sym (live_same c.args.p.now _ _
      (apart_left c.args.p.now c.args.q.now _ _ c.requires.apart
      (λ i h. w.clear-then-is_pause-2.ensures i ∙ rw h refl))) ∙ dead)
  | then-not-is_pause+else-is_pause+else-is_pause-2 w ↦
      rw w.next-is (c.requires.left ∙ (sym w.is_pause-then-not-is_pause.ensures ∙ w.if-is_pause.false))
  | else-not-is_pause w ↦ absurd (d (code_is _ _ _ c.is_pause.ensures w.if-not-is_pause.false))
]

pub returns-clause-right_ended : goal.returns-clause-right_ended
returns-clause-right_ended c d = elim c.if-not-is_pause.branch [
  | then-not-is_pause+then-is_pause w ↦
      let one = code_is _ _ _ w.is_pause-then-not-is_pause.ensures w.if-is_pause.true in
      let more : code_of c.args.right.completion ≢ 1 = λ e. d (omega (arith, c.greater-completion.ensures, one, e)) in
      let dead = c.requires.right ∙ ne_eqb (code_of c.args.right.completion) 1 more in
      rw w.next-is (sym (live_same c.args.q.now _ _
      (apart_right c.args.p.now c.args.q.now _ _ c.requires.apart (λ i h. w.clear.ensures i ∙ rw h refl))) ∙ dead)
  | then-not-is_pause+else-is_pause+then-is_pause-2 w ↦
      rw w.next-is (cleared_dead c.args.q.now _ (λ i h. w.clear-then-is_pause-2.ensures i ∙ rw h refl))
  | then-not-is_pause+else-is_pause+else-is_pause-2 w ↦
      rw w.next-is (c.requires.right ∙ (sym w.is_pause-else-is_pause.ensures ∙ w.if-is_pause-2.false))
  | else-not-is_pause w ↦ absurd (d (code_is _ _ _ c.is_pause.ensures w.if-not-is_pause.false))
]
