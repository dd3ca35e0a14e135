-- The order that inheritance edges make, on roles that are named by their places in a table, in sets of places (RH of
-- ANSI INCITS 359-2004, general role hierarchies; on sets of places it is this project's own form).
use Rattle.std.specs.Prelude.{ℕ, List}
use Rattle.rbac_closure.proofs.Finding.{all_below}

-- the roles of the set, and all to which a chain of edges leads from one of them: whatever the edges are, there is
-- exactly one such set
unfoldable pub below : List ℕ → ℕ → ℕ
below edges set = (all_below edges set).found
