-- Relations over names that may be offered (this project's own form).
use Rattle.std.specs.Prelude.{ℕ, List, [], ◌∷◌, Bool, not}
use Rattle.std.specs.List.{list_any}
use Rattle.est_syntax.specs.Tree.{RelationTree, excludes, implies}

-- a member of the relation is not among these names
abbrev pub is_over_outputs : (List ℕ → Bool) → RelationTree → Bool
is_over_outputs offered (excludes a b ns) = list_any (λ n. not (offered n)) (a ∷ b ∷ ns)
is_over_outputs offered (implies a b) = list_any (λ n. not (offered n)) (a ∷ b ∷ [])
