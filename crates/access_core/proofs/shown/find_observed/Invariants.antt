use Rattle.std.proofs.Common.{◌≡◌, ℕ, ◌≤◌, false, List}
use Rattle.est_kernel.specs.Bits.{bits}
use Rattle.rbac_policy.specs.declared.commands.Entry.{Entry}
use Rattle.rbac_policy.specs.declared.objects.Operation.TheVariants.{Observe}
use Rattle.rbac_policy.specs.declared.objects.Object.TheVariants.{Signal}
use Rattle.rbac_policy.specs.Facts.{May}
use Rattle.rbac_policy.specs.StandsFor.{StandsFor}
use Rattle.access_core.proofs.Places.{Marks}
use Rattle.access_core.proofs.shown.find_observed.Given as goal

abbrev pub invariant-loop-place : goal.invariant-loop-place
invariant-loop-place l = record {
  none : (place : ℕ) → l.place ≤ place → bits l.seen place ≡ false;
  marks : (entries : List Entry) → StandsFor l.policy entries
      → Marks (λ d. May entries l.session Observe (Signal l.slot d.name)) l.declarations l.place (bits l.seen);
}
