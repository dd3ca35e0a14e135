-- How long a name is.
use Rattle.std.proofs.Common.{◌≡◌, ℕ, ◌≤◌, List, [], ◌∷◌, length, arith, true}
use Rattle.std.proofs.lemmas.Bool.Decides.{nat_tests}
use Rattle.std.proofs.lemmas.Grind.{common_steps}
use Rattle.rbac_policy.specs.Names.{is_name}
use Rattle.rbac_policy.specs.declared.names.TheConstants.{NAME_BYTES}

pub short_name : (text : List ℕ) → is_name text ≡ true → length text ≤ NAME_BYTES
short_name [] h = grind arith
short_name (b ∷ bs) h = grind (arith, nat_tests, common_steps)
