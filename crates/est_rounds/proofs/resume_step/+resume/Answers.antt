use Rattle.std.proofs.Common.{rules, ◌≡◌, Bool, true, false, ◌||◌, refl, ap, sym, ◌∙◌}
use Rattle.std.proofs.lemmas.Bool.{or_right, or_left}
use Rattle.est_kernel.specs.CodeViews.{code_of}
use Rattle.est_kernel.specs.declared.statement.Statement.TheFolds.{the_lemmas}
use Rattle.est_meaning.proofs.SteppingLemmas.{ready, stays_dead, second_dead}
use Rattle.est_rounds.proofs.Resuming.{code_is, code_is_not, ready_to_resume, moved_still, first_moves, second_resumes}
use Rattle.est_rounds.proofs.Resuming.{seq_waits, seq_second_resumes, seq_stuck, seq_moves, loop_stuck, loop_races}
use Rattle.est_rounds.proofs.Resuming.{loop_moves, held_moves, ended_side, moved_side, par_moves, par_sleeps}
use Rattle.est_rounds.proofs.resume_step.+resume.Goals as goal

-- `present`

pub resume_step-resume_step-requires-in-Asleep : goal.resume_step-resume_step-requires-in-Asleep
resume_step-resume_step-requires-in-Asleep t c = (
  search (rules, the_lemmas),
  (
    rw c.deref-in-Asleep.ensures (rw c.in-Present.is at c.requires.fits).1,
    ready_to_resume c.in-Present.p.value c.in-Present.q.value _ _ _ _ _ c.deref.ensures c.deref-in-Asleep.ensures
        (rw c.in-Present.is at c.requires.distinct) (rw c.in-Present.is at c.requires.exclusive).1
        (rw c.in-Present.is at c.requires.clear) c.resume_step.ensures.others,
  ),
)

pub resume_step-returns-in-Asleep-clause-resumed : goal.resume_step-returns-in-Asleep-clause-resumed
resume_step-returns-in-Asleep-clause-resumed t c =
    let h = rw c.deref.ensures at c.in-Asleep.ensures.resumed in
    let dead = stays_dead c.in-Present.p.value c.in-Present.q.value _ _ _ c.deref-in-Asleep.ensures
    (rw c.in-Present.is at c.requires.distinct) h.still c.resume_step-in-Asleep.ensures.others in
    rw c.in-Present.is (second_resumes _ _ _ c.resume_step-in-Asleep.result _ _ _ _ _ h.asleep dead
    (rw c.deref-in-Asleep.ensures at c.resume_step-in-Asleep.ensures.resumed))

pub resume_step-returns-in-Moved-clause-resumed : goal.resume_step-returns-in-Moved-clause-resumed
resume_step-returns-in-Moved-clause-resumed t c =
    let h = rw c.deref.ensures at c.in-Moved.ensures.resumed in
    let f = rw c.deref.ensures at c.resume_step.ensures.others in
    rw c.in-Present.is (first_moves h (second_dead c.in-Present.p.value c.in-Present.q.value _ _
    (rw c.in-Present.is at c.requires.distinct).2 (rw c.in-Present.is at c.requires.clear) f))

-- `suspend`

pub resume_suspend-returns-then-has_live-clause-resumed : goal.resume_suspend-returns-then-has_live-clause-resumed
resume_suspend-returns-then-has_live-clause-resumed t c = λ x.
    held_moves _ _ c.in-Present.ensures
    (sym c.has_live.ensures ∙ c.if-has_live.true) c.requires.exclusive c.keep.ensures c.quiet.ensures.signals
    (ap code_of c.quiet.ensures.completion)

-- `;`

pub resume_seq-resume_step-requires-in-Asleep : goal.resume_seq-resume_step-requires-in-Asleep
resume_seq-resume_step-requires-in-Asleep t c = (
  search (rules, the_lemmas),
  (
    c.requires.fits.1,
    ready_to_resume c.args.p.now c.args.q.now _ _ _ _ _ refl refl c.requires.distinct c.requires.exclusive.1
        c.requires.clear c.resume_step.ensures.others,
  ),
)

pub resume_seq-start_step-requires-clause-clear : goal.resume_seq-start_step-requires-clause-clear
resume_seq-start_step-requires-clause-clear t c =
    (ready c.args.p.now c.args.q.now _ _ _ _ refl refl c.requires.distinct c.requires.clear
    c.resume_step.ensures.others).1

pub resume_seq-returns-in-Asleep-clause-resumed : goal.resume_seq-returns-in-Asleep-clause-resumed
resume_seq-returns-in-Asleep-clause-resumed t c = λ x y.
    let h = c.in-Asleep.ensures.resumed in
    let dead =
    stays_dead c.args.p.now c.args.q.now _ _ _ refl c.requires.distinct h.still
    c.resume_step-in-Asleep.ensures.others in
    seq_second_resumes _ _ c.resume_step-in-Asleep.result _ _ _ _ _ h.asleep dead
    c.resume_step-in-Asleep.ensures.resumed

pub resume_seq-returns-then-not-is_end-clause-resumed : goal.resume_seq-returns-then-not-is_end-clause-resumed
resume_seq-returns-then-not-is_end-clause-resumed t c = λ x y.
    seq_waits (code_is_not _ _ _ c.is_end.ensures c.if-not-is_end.true) c.in-Moved.ensures.resumed
    (second_dead c.args.p.now c.args.q.now _ _ c.requires.distinct.2 c.requires.clear c.resume_step.ensures.others)

pub resume_seq-returns-in-None-clause-resumed : goal.resume_seq-returns-in-None-clause-resumed
resume_seq-returns-in-None-clause-resumed t c =
    λ x y. seq_stuck (code_is _ _ _ c.is_end.ensures c.if-not-is_end.false) c.in-Moved.ensures.resumed
    c.in-None.ensures.none

pub resume_seq-returns-in-Some-clause-resumed : goal.resume_seq-returns-in-Some-clause-resumed
resume_seq-returns-in-Some-clause-resumed t c = λ x y.
    let h = c.in-Moved.ensures.resumed in
    let first = rw (code_is _ _ _ c.is_end.ensures c.if-not-is_end.false) at h.steps.live in
    let dead = stays_dead c.args.p.now c.args.q.now _ _ _ refl c.requires.distinct first c.start_step.ensures.others in
    seq_moves c.in-Some.second (code_is _ _ _ c.is_end.ensures c.if-not-is_end.false) h c.in-Some.ensures.some dead
    c.then.ensures.signals (ap code_of c.then.ensures.completion)

-- `loop`

pub resume_loop-returns-in-None-clause-resumed : goal.resume_loop-returns-in-None-clause-resumed
resume_loop-returns-in-None-clause-resumed t c =
    λ x. loop_stuck (code_is _ _ _ c.is_end.ensures c.if-not-is_end.false) c.in-Moved.ensures.resumed
    c.in-None.ensures.none

pub resume_loop-returns-then-is_end-clause-resumed : goal.resume_loop-returns-then-is_end-clause-resumed
resume_loop-returns-then-is_end-clause-resumed t c = λ x.
    loop_races _ (code_is _ _ _ c.is_end.ensures c.if-not-is_end.false) c.in-Moved.ensures.resumed
    (code_is _ _ _ c.is_end-in-Some.ensures c.if-is_end.true) c.in-Some.ensures.some

pub resume_loop-returns-else-is_end-clause-resumed : goal.resume_loop-returns-else-is_end-clause-resumed
resume_loop-returns-else-is_end-clause-resumed t c = λ x.
    loop_moves c.in-Some.again (code_is _ _ _ c.is_end.ensures c.if-not-is_end.false) c.in-Moved.ensures.resumed
    (code_is_not _ _ _ c.is_end-in-Some.ensures c.if-is_end.false) c.in-Some.ensures.some c.then.ensures.signals
    (ap code_of c.then.ensures.completion)

-- `||`

pub resume_par-resume_step-requires-in-Asleep : goal.resume_par-resume_step-requires-in-Asleep
resume_par-resume_step-requires-in-Asleep t c = (
  search (rules, the_lemmas),
  (
    c.requires.fits.1,
    ready_to_resume c.args.p.now c.args.q.now _ _ _ _ _ refl refl c.requires.distinct c.requires.exclusive.1
        c.requires.clear c.resume_step.ensures.others,
  ),
)

pub resume_par-resume_step-requires-in-Moved : goal.resume_par-resume_step-requires-in-Moved
resume_par-resume_step-requires-in-Moved t c = (
  search (rules, the_lemmas),
  (
    c.requires.fits.1,
    ready_to_resume c.args.p.now c.args.q.now _ _ _ _ _ refl refl c.requires.distinct c.requires.exclusive.1
        c.requires.clear c.resume_step.ensures.others,
  ),
)

pub resume_par-both-requires-clause-left : goal.resume_par-both-requires-clause-left
resume_par-both-requires-clause-left t c =
    let h = c.in-Asleep.ensures.resumed in
    rw c.quiet.ensures.completion (stays_dead c.args.p.now c.args.q.now _ _ _ refl c.requires.distinct h.still
    c.resume_step-in-Asleep.ensures.others)

pub resume_par-both-requires-in-Asleep-resume_step-2-clause-left :
    goal.resume_par-both-requires-in-Asleep-resume_step-2-clause-left
resume_par-both-requires-in-Asleep-resume_step-2-clause-left t c =
    (moved_still c.args.p.now c.args.q.now _ _ _ _ _ _ refl c.requires.distinct c.resume_step-in-Moved.ensures.others
    c.in-Moved.ensures.resumed).steps.live

pub resume_par-both-requires-in-Moved-resume_step-2-clause-left :
    goal.resume_par-both-requires-in-Moved-resume_step-2-clause-left
resume_par-both-requires-in-Moved-resume_step-2-clause-left t c =
    (moved_still c.args.p.now c.args.q.now _ _ _ _ _ _ refl c.requires.distinct c.resume_step-in-Moved.ensures.others
    c.in-Moved.ensures.resumed).steps.live

pub resume_par-returns-in-Asleep-resume_step-clause-resumed :
    goal.resume_par-returns-in-Asleep-resume_step-clause-resumed
resume_par-returns-in-Asleep-resume_step-clause-resumed t c = λ x y.
    let h = c.in-Asleep.ensures.resumed in
    let dead =
    stays_dead c.args.p.now c.args.q.now _ _ _ refl c.requires.distinct h.still
    c.resume_step-in-Asleep.ensures.others in
    par_sleeps h.asleep dead c.in-Asleep-resume_step.ensures.resumed

pub resume_par-returns-in-Moved-resume_step-clause-resumed : goal.resume_par-returns-in-Moved-resume_step-clause-resumed
resume_par-returns-in-Moved-resume_step-clause-resumed t c = λ x y.
    let h = c.in-Asleep.ensures.resumed in
    let g = c.in-Moved-resume_step.ensures.resumed in
    let dead =
    stays_dead c.args.p.now c.args.q.now _ _ _ refl c.requires.distinct h.still
    c.resume_step-in-Asleep.ensures.others in
    let first = ended_side c.args.p.now _ _ _ _ _ h.asleep dead c.quiet.ensures.signals
    (ap code_of c.quiet.ensures.completion) in
    par_moves c.quiet.result c.in-Moved-resume_step.right first (moved_side g) (or_right _ _ g.live)
    c.both.ensures.signals c.both.ensures.code c.both.ensures.kept c.both.ensures.left_ended c.both.ensures.right_ended

pub resume_par-returns-in-Asleep-resume_step-2-clause-resumed :
    goal.resume_par-returns-in-Asleep-resume_step-2-clause-resumed
resume_par-returns-in-Asleep-resume_step-2-clause-resumed t c = λ x y.
    let h = c.in-Moved.ensures.resumed in
    let g = c.in-Asleep-resume_step-2.ensures.resumed in
    let first =
    moved_still c.args.p.now c.args.q.now _ _ _ _ _ _ refl c.requires.distinct c.resume_step-in-Moved.ensures.others
    h in
    let second = ended_side c.args.q.now _ _ _ _ _ g.asleep g.still c.quiet-in-Asleep-resume_step-2.ensures.signals
    (ap code_of c.quiet-in-Asleep-resume_step-2.ensures.completion) in
    par_moves c.in-Moved.left c.quiet-in-Asleep-resume_step-2.result (moved_side first) second (or_left _ _ h.live)
    c.both-in-Asleep-resume_step-2.ensures.signals c.both-in-Asleep-resume_step-2.ensures.code
    c.both-in-Asleep-resume_step-2.ensures.kept c.both-in-Asleep-resume_step-2.ensures.left_ended
    c.both-in-Asleep-resume_step-2.ensures.right_ended

pub resume_par-returns-in-Moved-resume_step-2-clause-resumed :
    goal.resume_par-returns-in-Moved-resume_step-2-clause-resumed
resume_par-returns-in-Moved-resume_step-2-clause-resumed t c = λ x y.
    let h = c.in-Moved.ensures.resumed in
    let g = c.in-Moved-resume_step-2.ensures.resumed in
    let first =
    moved_still c.args.p.now c.args.q.now _ _ _ _ _ _ refl c.requires.distinct c.resume_step-in-Moved.ensures.others
    h in
    par_moves c.in-Moved.left c.in-Moved-resume_step-2.right (moved_side first) (moved_side g) (or_left _ _ h.live)
    c.both-in-Moved-resume_step-2.ensures.signals c.both-in-Moved-resume_step-2.ensures.code
    c.both-in-Moved-resume_step-2.ensures.kept c.both-in-Moved-resume_step-2.ensures.left_ended
    c.both-in-Moved-resume_step-2.ensures.right_ended
