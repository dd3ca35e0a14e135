-- The statements that wait for something while another runs (this project's own form).
use Rattle.std.specs.Prelude.{Bool}
use Rattle.est_kernel.specs.Term.{Query}
use Rattle.est_link.specs.declared.watch.Watch.{Watch}
use Rattle.est_link.specs.declared.watch.Watch.TheVariants.{Suspend, Abort, WeakAbort, Every}
use Rattle.est_reduce.specs.Bodies.{Body, suspend, abort, weak_abort, every}

-- the statement of a wait, with `immediate` or without, and the statement that it watches
abbrev pub watched : Watch → Bool → Query → Body → Body
watched Suspend now q p = suspend now q p
watched Abort now q p = abort now q p
watched WeakAbort now q p = weak_abort now q p
watched Every now q p = every now q p
