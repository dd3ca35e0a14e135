-- Pauses of a statement, as Boolean functions (this project's own form).
use Rattle.std.specs.Prelude.{ℕ, Bool, true, not, ◌&&◌}
use Rattle.est_kernel.specs.declared.statement.Statement.{Statement}
use Rattle.est_kernel.specs.declared.statement.Statement.TheVariants.{Nothing, Pause, Emit, Present', Suspend', Seq'}
use Rattle.est_kernel.specs.declared.statement.Statement.TheVariants.{Loop', Par', Trap', Exit, Local' as Binder'}
use Rattle.est_meaning.specs.States.{is_live}

-- whether no `;` and no `present` has pauses that are set on both sides
abbrev pub are_exclusive : Statement → (ℕ → Bool) → Bool
are_exclusive Nothing bits = true
are_exclusive (Pause n) bits = true
are_exclusive (Emit s) bits = true
are_exclusive (Exit k) bits = true
are_exclusive (Present' t a p b q) bits =
    are_exclusive p bits && (are_exclusive q bits && not (is_live p bits && is_live q bits))
are_exclusive (Suspend' t a p) bits = are_exclusive p bits
are_exclusive (Seq' a p b q) bits =
    are_exclusive p bits && (are_exclusive q bits && not (is_live p bits && is_live q bits))
are_exclusive (Loop' a p) bits = are_exclusive p bits
are_exclusive (Par' a p b q) bits = are_exclusive p bits && are_exclusive q bits
are_exclusive (Trap' a p) bits = are_exclusive p bits
are_exclusive (Binder' s a p) bits = are_exclusive p bits
