-- The statement that a body is (this project's own form).
use Rattle.est_kernel.specs.Term.{Name, outer, inner, Query, tick, of, negated, joined, Joint}
use Rattle.est_kernel.specs.View.{queries_of}
use Rattle.est_reduce.specs.Bodies.{Body, nothing, pause, halt, emit, sustain, exit, await, present, suspend, abort}
use Rattle.est_reduce.specs.Bodies.{weak_abort, repeat, repeat_each, every, trap, signal, seq, par}
use Rattle.est_reduce.specs.declared.body.BoundSignal.{BoundSignal}
use Rattle.est_reduce.specs.declared.body.BoundSignal.TheVariants.{Outer, Inner}
use Rattle.est_reduce.specs.declared.body.BoundTest.{BoundTest, fold-BoundTest}
use Rattle.est_reduce.specs.declared.body.BoundOperands.{BoundOperands, fold-BoundOperands}
use Rattle.est_reduce.specs.declared.body.BoundTest.TheOpen.{BoundTest-F, BoundOperands-F}
use Rattle.est_reduce.specs.declared.body.Body.{Body as BodyValue}
use Rattle.est_reduce.specs.declared.body.Body.TheVariants.{Nothing, Pause, Halt, Emit, Sustain, Exit, Await, Present'}
use Rattle.est_reduce.specs.declared.body.Body.TheVariants.{Suspend', Abort', WeakAbort', Loop', LoopEach', Every'}
use Rattle.est_reduce.specs.declared.body.Body.TheVariants.{Trap', Signal', Seq', Par'}

-- the name by which a statement means a signal
abbrev pub bound_name : BoundSignal → Name
bound_name (Outer n) = outer n
bound_name (Inner n) = inner n

-- what a test asks, from what its parts ask
abbrev pub bound_test_step : BoundTest-F Query Joint → Query
bound_test_step BoundTest-F.Tick = tick
bound_test_step (BoundTest-F.Of s) = of (bound_name s)
bound_test_step (BoundTest-F.Not t) = negated t.value
bound_test_step (BoundTest-F.Joined c operands) = joined c operands.first operands.later

-- what operands ask, from what each of them asks
abbrev pub bound_operands_step : BoundOperands-F Query Joint → Joint
bound_operands_step o = record { first = o.first.value; later = queries_of o.second.value o.later.items }

-- what a test asks
abbrev pub bound_query : BoundTest → Query
bound_query = fold-BoundTest Query Joint bound_test_step bound_operands_step

-- what operands ask
abbrev pub bound_joint : BoundOperands → Joint
bound_joint = fold-BoundOperands Query Joint bound_test_step bound_operands_step

-- the statement
abbrev pub body_of : BodyValue → Body
body_of Nothing = nothing
body_of Pause = pause
body_of Halt = halt
body_of (Emit s) = emit (bound_name s)
body_of (Sustain s) = sustain (bound_name s)
body_of (Exit k) = exit k
body_of (Await w) = await w.immediate (bound_query w.test)
body_of (Present' t a p b q) = present (bound_query t) (body_of p) (body_of q)
body_of (Suspend' w a p) = suspend w.immediate (bound_query w.test) (body_of p)
body_of (Abort' w a p) = abort w.immediate (bound_query w.test) (body_of p)
body_of (WeakAbort' w a p) = weak_abort w.immediate (bound_query w.test) (body_of p)
body_of (Loop' a p) = repeat (body_of p)
body_of (LoopEach' t a p) = repeat_each (bound_query t) (body_of p)
body_of (Every' w a p) = every w.immediate (bound_query w.test) (body_of p)
body_of (Trap' a p) = trap (body_of p)
body_of (Signal' n a p) = signal n (body_of p)
body_of (Seq' a p b q) = seq (body_of p) (body_of q)
body_of (Par' a p b q) = par (body_of p) (body_of q)
