-- In a closed statement within the limits, each number has its bit in a mask.
use Rattle.std.proofs.Common.{◌≡◌, ◌≤◌, ℕ, ◌+◌, None, List, arith}
use Rattle.std.specs.Prelude.{if◌then◌else◌, nat_lt, Some}
use Rattle.std.proofs.lemmas.Bool.Decides.{nat_tests}
use Rattle.est_kernel.specs.Limits.{statement_count, loop_depth, trap_depth, local_depth, limit_passed}
use Rattle.est_kernel.specs.Masks.{HasNameBit, FitsMasks}
use Rattle.est_kernel.specs.Scope.{IsClosed, IsEmitted}
use Rattle.est_kernel.specs.Term.{Name, outer, inner}
use Rattle.est_kernel.specs.View.{name_of, term_of}
use Rattle.est_kernel.specs.declared.interface.Declaration.{Declaration}
use Rattle.est_kernel.specs.declared.limits.Limit.TheVariants.{Statements, Loops, Traps, Locals}
use Rattle.est_kernel.specs.declared.limits.TheConstants.{MOST_STATEMENTS, MOST_LOOPS, MOST_TRAPS, MOST_LOCALS}
use Rattle.est_kernel.specs.declared.statement.Statement.{Statement}
use Rattle.est_kernel.specs.declared.statement.Statement.TheVariants.{Nothing, Pause, Emit, Present', Suspend', Seq'}
use Rattle.est_kernel.specs.declared.statement.Statement.TheVariants.{Loop', Par', Trap', Exit, Local' as Binder'}

emitted_bit : (i : List Declaration) (locals : ℕ) → locals ≤ 64 → (s : Name) → IsEmitted i locals s → HasNameBit s
emitted_bit i locals l (outer n) h = tt
emitted_bit i locals l (inner n) h = omega (arith, h, l)

-- where few binders are nested, each number has its bit
pub few_binders : (i : List Declaration) (traps locals : ℕ) (s : Statement) → IsClosed i traps locals (term_of s)
    → traps + trap_depth (term_of s) ≤ 62 → locals + local_depth (term_of s) ≤ 64 → FitsMasks s
few_binders i traps locals Nothing h t l = tt
few_binders i traps locals (Pause n) h t l = tt
few_binders i traps locals (Emit s) h t l = emitted_bit i locals (omega (arith, l)) (name_of s) h
few_binders i traps locals (Present' k x p y q) h t l = (
  few_binders i traps locals p h.1 (omega (arith, t)) (omega (arith, l)),
  few_binders i traps locals q h.2 (omega (arith, t)) (omega (arith, l)),
)
few_binders i traps locals (Suspend' k x p) h t l = few_binders i traps locals p h.1 t l
few_binders i traps locals (Seq' x p y q) h t l = (
  few_binders i traps locals p h.0 (omega (arith, t)) (omega (arith, l)),
  few_binders i traps locals q h.1 (omega (arith, t)) (omega (arith, l)),
)
few_binders i traps locals (Loop' x p) h t l = few_binders i traps locals p h t l
few_binders i traps locals (Par' x p y q) h t l = (
  few_binders i traps locals p h.0 (omega (arith, t)) (omega (arith, l)),
  few_binders i traps locals q h.1 (omega (arith, t)) (omega (arith, l)),
)
few_binders i traps locals (Trap' x p) h t l = few_binders i (traps + 1) locals p h (omega (arith, t)) l
few_binders i traps locals (Exit k) h t l = omega (arith, h, t)
few_binders i traps locals (Binder' s x p) h t l =
    (omega (arith, h.0, l), few_binders i traps (locals + 1) p h.1 t (omega (arith, l)))

depths_kept : (statements loops traps locals : ℕ)
    → (if nat_lt MOST_STATEMENTS statements then Some Statements else (
    if nat_lt MOST_LOOPS loops then Some Loops else (
    if nat_lt MOST_TRAPS traps then Some Traps else (
    if nat_lt MOST_LOCALS locals then Some Locals else None)))) ≡ None
    → (traps ≤ MOST_TRAPS) × (locals ≤ MOST_LOCALS)
depths_kept statements loops traps locals h = (grind (arith, nat_tests), grind (arith, nat_tests))

-- in a closed statement within the limits, each number has its bit in a mask
pub fits_within_limits : (i : List Declaration) (s : Statement) → IsClosed i 0 0 (term_of s)
    → limit_passed (term_of s) ≡ None → FitsMasks s
fits_within_limits i s h l =
    let kept = depths_kept (statement_count (term_of s)) (loop_depth (term_of s)) (trap_depth (term_of s))
    (local_depth (term_of s)) l in
    few_binders i 0 0 s h (omega (arith, kept.0)) (omega (arith, kept.1))
