-- Modules that run each other, named by their places: a list has, for each module, the places of those that it runs
-- (`run` of Berry, The Esterel v5 Language Primer; places are this project's own form).
use Rattle.std.specs.Prelude.{ℕ, ◌<◌, List, [], length, map, slice_index_or, Contains, Vec}
use Rattle.std.specs.Global.{Global}

-- the places that stand in each row
abbrev pub rows_of : List (Vec ℕ Global) → List (List ℕ)
rows_of runs = map (λ (row : Vec ℕ Global). row.items) runs

-- the first module runs the second, which is there
pub record IsRun (rows : List (List ℕ)) (runner run : ℕ) : Type 0 where
  pub there : run < length rows
  pub named : Contains (slice_index_or rows runner []) run

-- a chain of one or more runs leads from the first module to the second
pub data Leads (rows : List (List ℕ)) : ℕ → ℕ → Type 0 where
  once : {a b : ℕ} → IsRun rows a b → Leads rows a b
  through : {a b c : ℕ} → IsRun rows a b → Leads rows b c → Leads rows a c

-- a chain of runs leads from the module back to it
abbrev pub IsRecursive : List (List ℕ) → ℕ → Type 0
IsRecursive rows place = Leads rows place place
