use Rattle.std.proofs.Common.{◌≡◌, ◌++◌, take, drop}
use Rattle.std.specs.Prelude.{map}
use Rattle.rbac_closure.specs.Sets.{without_place}
use Rattle.rbac_closure.proofs.hierarchy.take_out.Given as goal

abbrev pub invariant-loop-role : goal.invariant-loop-role
invariant-loop-role l = l.rows ≡ map (λ row. without_place row l.place) (take l.role l.fn.rows) ++ drop l.role l.fn.rows
