-- The kernel term of a body whose names are bound: its size, its numbers, and its faults.
use Rattle.std.proofs.Common.{◌≡◌, ◌≤◌, ◌<◌, ℕ, List, length, Option, None, refl, arith}
use Rattle.std.specs.Prelude.{Some, nat_lt, if◌then◌else◌}
use Rattle.std.proofs.lemmas.Bool.Decides.{nat_tests}
use Rattle.est_kernel.specs.Limits.{statement_count, limit_passed}
use Rattle.est_kernel.specs.Scope.{IsClosed}
use Rattle.est_kernel.specs.StartCodes.{IsLoopSafe}
use Rattle.est_kernel.specs.declared.interface.Declaration.{Declaration}
use Rattle.est_kernel.specs.declared.kernel.LoadFault.{LoadFault}
use Rattle.est_kernel.specs.declared.kernel.LoadFault.TheVariants.{TooLarge, InstantLoop}
use Rattle.est_kernel.specs.declared.limits.Limit.{Limit}
use Rattle.est_kernel.specs.declared.limits.Limit.TheVariants.{Statements}
use Rattle.est_kernel.specs.declared.limits.TheConstants.{MOST_STATEMENTS}
use Rattle.est_kernel.proofs.Counts.{traps_are_statements, locals_are_statements}
use Rattle.est_reduce.specs.Bodies.{Body}
use Rattle.est_reduce.specs.Bound.{IsBound}
use Rattle.est_reduce.specs.Faults.{fault_of}
use Rattle.est_reduce.specs.Inner.Sizes.{reduced_statements, IsSmall}
use Rattle.est_reduce.specs.Reducing.{IsFaultOf}
use Rattle.est_reduce.specs.Reductions.{kernel_term}
use Rattle.est_reduce.proofs.Closing.{reduced_closed}
use Rattle.est_reduce.proofs.Counting.{count_reduced, closed_small}

-- a body whose names are bound has a closed term
pub closed_term : (i : List Declaration) (f : Body) → IsBound i 0 0 f → IsClosed i 0 0 (kernel_term f)
closed_term i f b = reduced_closed i (λ k. k) 0 0 0 (λ k lt. lt) f b

-- and where it has at most 2,048 statements, its numbers fit their types
pub small_term : (i : List Declaration) (f : Body) → length i ≤ 64 → reduced_statements f ≤ 2048 → IsBound i 0 0 f
    → IsSmall (kernel_term f)
small_term i f few h b =
    let count = count_reduced (λ k. k) 0 f in
    closed_small i 0 0 (kernel_term f) few
    (omega (arith, h, count, traps_are_statements (kernel_term f)))
    (omega (arith, h, count, locals_are_statements (kernel_term f)))
    (closed_term i f b)

passes_first : (n most : ℕ) (later : Option Limit) → most < n
    → (if nat_lt most n then Some Statements else later) ≡ Some Statements
passes_first n most later h = grind (arith, nat_tests)

-- a term of more than 2,048 statements passes the limit on them
pub too_many : (f : Body) → 2048 < reduced_statements f → limit_passed (kernel_term f) ≡ Some Statements
too_many f h = passes_first (statement_count (kernel_term f)) MOST_STATEMENTS _
    (omega (arith, h, count_reduced (λ k. k) 0 f))

-- the fault of the kernel is the module's
pub fault_is : (f : Body) (e : LoadFault)
    → ((limit : Limit) → e ≡ TooLarge limit → limit_passed (kernel_term f) ≡ Some limit)
    → (e ≡ InstantLoop → (limit_passed (kernel_term f) ≡ None) × (IsLoopSafe (kernel_term f) → ⊥))
    → IsFaultOf f (fault_of e)
fault_is f (TooLarge limit) large loop = large limit refl
fault_is f InstantLoop large loop = loop refl
