use Rattle.std.specs.Prelude.{Contains}
use Rattle.rbac_admin.proofs.Listing.{NoneBefore}
use Rattle.rbac_admin.proofs.rules.first_repeated.Given as goal

abbrev pub invariant-loop-place : goal.invariant-loop-place
invariant-loop-place l = NoneBefore Contains l.roles l.place
