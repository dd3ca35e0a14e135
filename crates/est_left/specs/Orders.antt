-- The numbers of a statement's pauses, in the order of its text (this project's own form).
use Rattle.std.specs.Prelude.{ℕ, Bool, true, ◌&&◌, nat_eq, ◌+◌}
use Rattle.est_kernel.specs.PauseNumbers.{pause_count}
use Rattle.est_kernel.specs.declared.statement.Statement.{Statement}
use Rattle.est_kernel.specs.declared.statement.Statement.TheVariants.{Nothing, Pause, Emit, Present', Suspend', Seq'}
use Rattle.est_kernel.specs.declared.statement.Statement.TheVariants.{Loop', Par', Trap', Exit, Local' as Binder'}

-- the pauses are numbered in the order of the text, from this number on
abbrev pub are_in_order : Statement → ℕ → Bool
are_in_order Nothing first = true
are_in_order (Pause n) first = nat_eq n.index first
are_in_order (Emit s) first = true
are_in_order (Present' t a p b q) first = are_in_order p first && are_in_order q (first + pause_count p)
are_in_order (Suspend' t a p) first = are_in_order p first
are_in_order (Seq' a p b q) first = are_in_order p first && are_in_order q (first + pause_count p)
are_in_order (Loop' a p) first = are_in_order p first
are_in_order (Par' a p b q) first = are_in_order p first && are_in_order q (first + pause_count p)
are_in_order (Trap' a p) first = are_in_order p first
are_in_order (Exit k) first = true
are_in_order (Binder' s a p) first = are_in_order p first
