-- Statements joined to the right along a list (this project's own form).
use Rattle.std.specs.Prelude.{List, [], ◌∷◌, Option, Some, None}
use Rattle.est_reduce.specs.Bodies.{Body}

-- a statement, joined to what follows it
abbrev pub joined_by : (Body → Body → Body) → Body → Option Body → Body
joined_by f p None = p
joined_by f p (Some q) = f p q

-- the statements of a list, joined
abbrev pub chained : {X : Type 0} → (Body → Body → Body) → (X → Body) → List X → Option Body
chained f g [] = None
chained f g (x ∷ xs) = Some (joined_by f (g x) (chained f g xs))
