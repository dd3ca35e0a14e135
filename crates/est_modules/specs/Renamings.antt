-- Renamings of a run (The Esterel v5 Language Primer, `run`): the caller's name stands left, that of the module right.
use Rattle.std.specs.Prelude.{ℕ, List, Bool, Option, Some, None}
use Rattle.std.specs.List.{list_any, find}
use Rattle.std.specs.Str.{bytes_eq}
use Rattle.est_syntax.specs.Tree.{RenamingTree}

-- a renaming names this signal of the module that is run
abbrev pub is_renamed : List RenamingTree → List ℕ → Bool
is_renamed rs s = list_any (λ (r : RenamingTree). bytes_eq r.inner s) rs

-- the caller's name in a renaming, or the name itself where there is none
abbrev pub callers_name : Option RenamingTree → List ℕ → List ℕ
callers_name None s = s
callers_name (Some r) s = r.outer

-- the same by the renamings of a run: a name that is not renamed keeps its own
abbrev pub renamed : List RenamingTree → List ℕ → List ℕ
renamed rs s = callers_name (find (λ (r : RenamingTree). bytes_eq r.inner s) rs) s
