-- Relations of the main module, over its signals that may be offered (The Esterel v5 Language Primer, `relation`).
use Rattle.std.specs.Prelude.{ℕ, ◌+◌, List, [], ◌∷◌, Bool, not, Option, option_map}
use Rattle.std.specs.List.{list_any, position}
use Rattle.est_syntax.specs.Tree.{RelationTree, excludes, implies}
use Rattle.est_modules.specs.Modules.{Program}
use Rattle.est_modules.specs.declared.interface.Declared.{Declared}
use Rattle.est_modules.specs.Modules.{is_offerable}

-- one of the names is neither an input nor an inputoutput
abbrev pub is_past_offers : List Declared → List (List ℕ) → Bool
is_past_offers ds ns = list_any (λ n. not (is_offerable ds n)) ns

-- a member of the relation is neither
abbrev pub is_lawless : List Declared → RelationTree → Bool
is_lawless ds (excludes a b ns) = is_past_offers ds (a ∷ b ∷ ns)
is_lawless ds (implies a b) = is_past_offers ds (a ∷ b ∷ [])

-- the number, from 1, of the first relation of a module with a member that is neither an input nor an
-- inputoutput of it
abbrev pub first_over_outputs : Program → Option ℕ
first_over_outputs p = option_map (λ i. i + 1) (position (is_lawless p.interface) p.relations)
