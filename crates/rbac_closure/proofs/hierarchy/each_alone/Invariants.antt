use Rattle.std.proofs.Common.{◌≡◌, ◌<◌, ◌^◌, ℕ}
use Rattle.std.specs.Prelude.{slice_index}
use Rattle.rbac_closure.proofs.hierarchy.each_alone.Given as goal

abbrev pub invariant-loop-role : goal.invariant-loop-role
invariant-loop-role l = (k : ℕ) → k < l.role → slice_index l.rows k ≡ 2 ^ k
