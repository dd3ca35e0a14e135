use Rattle.std.proofs.Common.{refl, rules}
use Rattle.est_kernel.specs.declared.statement.Statement.TheFolds.{the_lemmas}
use Rattle.est_meaning.proofs.AgreementLemmas.{apart_left}
use Rattle.est_meaning.proofs.SteppingLemmas.{ready, stays_dead, second_dead, seq_stays, seq_goes, seq_none, loop_none}
use Rattle.est_meaning.proofs.SteppingLemmas.{present_on, present_off, par_settles, none_from, some_weaker, first_dead}
use Rattle.est_meaning.proofs.SteppingLemmas.{steps_same}
use Rattle.est_rounds.proofs.Resuming.{code_is, code_is_not}
use Rattle.est_rounds.proofs.step.+begin.Goals as goal

-- `present`

pub start_step-returns-in-Present-answer_to-clause-some : goal.start_step-returns-in-Present-answer_to-clause-some
start_step-returns-in-Present-answer_to-clause-some t c =
    let f = rw c.deref.ensures at c.start_step.ensures.others in
    let dead = second_dead c.in-Present.p.value c.in-Present.q.value _ _
    (rw c.in-Present.is at c.requires.distinct).2 (rw c.in-Present.is at c.requires.clear) f in
    rw c.in-Present.is (some_weaker c.start_step.result _ _ (λ r h. present_on c.in-Present-answer_to.ensures h dead)
    (rw c.deref.ensures at c.start_step.ensures.some))

pub start_step-returns-in-Absent-clause-some : goal.start_step-returns-in-Absent-clause-some
start_step-returns-in-Absent-clause-some t c =
    let f = c.start_step-in-Absent.ensures.others in
    let dead = first_dead c.in-Present.p.value c.in-Present.q.value _ _ _ c.deref-in-Absent.ensures
    (rw c.in-Present.is at c.requires.distinct) (rw c.in-Present.is at c.requires.clear) f in
    rw c.in-Present.is (some_weaker c.start_step-in-Absent.result _ _ (λ r h. present_off c.in-Absent.ensures h dead)
    (rw c.deref-in-Absent.ensures at c.start_step-in-Absent.ensures.some))

-- `loop`

pub start_step-returns-then-is_end-clause-none : goal.start_step-returns-then-is_end-clause-none
start_step-returns-then-is_end-clause-none t c =
    let zero = code_is _ _ _ c.is_end.ensures c.if-is_end.true in
    let h = rw (c.deref-in-Loop.ensures, zero) at (c.in_ok-first-in-Loop.ensures.some) in
    rw c.in-Loop.is (loop_none _ _ _ _ h.gives)

-- `;`

pub start_step-returns-in-Seq-clause-none : goal.start_step-returns-in-Seq-clause-none
start_step-returns-in-Seq-clause-none t c =
    rw c.in-Seq.is (rw (c.deref-in-Seq.ensures, c.deref-in-Seq-2.ensures) at c.start_seq.ensures.none)

pub start_seq-start_step-requires-then-is_end : goal.start_seq-start_step-requires-then-is_end
start_seq-start_step-requires-then-is_end t c = (
  search (rules, the_lemmas),
  (
    c.requires.fits.1,
    ready c.args.p.now c.args.q.now _ _ _ _ refl refl c.requires.distinct c.requires.clear c.start_step.ensures.others,
  ),
)

pub start_seq-returns-in_ok-start_step-clause-some : goal.start_seq-returns-in_ok-start_step-clause-some
start_seq-returns-in_ok-start_step-clause-some t c = λ x y.
    let zero = code_is _ _ _ c.is_end.ensures c.if-is_end.true in
    let h = rw zero at (c.in_ok-first.ensures.some) in
    rw (c.then.ensures.signals, c.then.ensures.completion)
    (seq_goes h c.in_ok-start_step.ensures.some
    (stays_dead c.args.p.now c.args.q.now _ _ _ refl c.requires.distinct h.live
    c.start_step-then-is_end.ensures.others))

pub start_seq-returns-else-is_end-clause-some : goal.start_seq-returns-else-is_end-clause-some
start_seq-returns-else-is_end-clause-some t c = λ x y.
    seq_stays (code_is_not _ _ _ c.is_end.ensures c.if-is_end.false) c.in_ok-first.ensures.some
    (second_dead c.args.p.now c.args.q.now _ _ c.requires.distinct.2 c.requires.clear c.start_step.ensures.others)

pub start_seq-returns-in_err-start_step-clause-none : goal.start_seq-returns-in_err-start_step-clause-none
start_seq-returns-in_err-start_step-clause-none t c =
    let zero = code_is _ _ _ c.is_end.ensures c.if-is_end.true in
    let h = rw zero at (c.in_ok-first.ensures.some) in
    none_from _ _ (seq_none _ _ _ _ _ h.gives c.in_err-start_step.ensures.none)

-- `||`

pub start_par-start_step-requires-2 : goal.start_par-start_step-requires-2
start_par-start_step-requires-2 t c = (
  search (rules, the_lemmas),
  (
    c.requires.fits.1,
    ready c.args.p.now c.args.q.now _ _ _ _ refl refl c.requires.distinct c.requires.clear c.start_step.ensures.others,
  ),
)

pub start_par-both-requires-clause-left : goal.start_par-both-requires-clause-left
start_par-both-requires-clause-left t c =
    (steps_same c.args.p.now _ _ _ _ _ _
    (apart_left c.args.p.now c.args.q.now _ _ c.requires.distinct.2 c.start_step-2.ensures.others)
    c.in_ok-left.ensures.some).live

pub start_par-returns-clause-some : goal.start_par-returns-clause-some
start_par-returns-clause-some t c = λ x y.
    let h = steps_same c.args.p.now _ _ _ _ _ _
    (apart_left c.args.p.now c.args.q.now _ _ c.requires.distinct.2 c.start_step-2.ensures.others)
    c.in_ok-left.ensures.some in
    let kept = rw c.both.ensures.code at c.both.ensures.kept in
    let left = rw c.both.ensures.code at c.both.ensures.left_ended in
    let right = rw c.both.ensures.code at c.both.ensures.right_ended in
    rw (c.both.ensures.signals, c.both.ensures.code) (par_settles h c.in_ok-right.ensures.some kept left right)
