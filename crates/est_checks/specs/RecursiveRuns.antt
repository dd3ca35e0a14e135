-- Modules from which a chain of runs leads back to them (The Esterel v5 Language Primer, `run`).
use Rattle.std.specs.Prelude.{◌≡◌, ℕ, ◌<◌, List, [], Option, Some, None, Contains}
use Rattle.std.specs.List.{slice_get}
use Rattle.est_syntax.specs.Tree.{RenamingTree}
use Rattle.est_modules.specs.Modules.{Program, program_named}
use Rattle.est_modules.specs.Occurrences.{Binder, runs, occurrences}

-- the body of the module of the first name has a run of the second
pub record HasRun (ps : List Program) (m n : List ℕ) : Type 0 where
  pub home : Program
  pub there : program_named ps m ≡ Some home
  pub renamings : List RenamingTree
  pub around : List Binder
  pub stands : Contains (occurrences [] home.body) (record { act = runs n renamings; around = around })

-- a chain of one or more runs leads from the first module to the second
pub data LeadsTo (ps : List Program) : List ℕ → List ℕ → Type 0 where
  at_once : {m n : List ℕ} → HasRun ps m n → LeadsTo ps m n
  further : {m n o : List ℕ} → HasRun ps m n → LeadsTo ps n o → LeadsTo ps m o

-- a chain of runs leads from the module back to it
abbrev pub RunsItself : List Program → List ℕ → Type 0
RunsItself ps m = LeadsTo ps m m

-- the name is that of the first module in the text from which a chain of runs leads back to it
pub record IsFirstOnItself (ps : List Program) (m : List ℕ) : Type 0 where
  pub place : ℕ
  pub home : Program
  pub there : slice_get ps place ≡ Some home
  pub name : home.name ≡ m
  pub recursive : RunsItself ps m
  pub first : (before : ℕ) (p : Program) → before < place → slice_get ps before ≡ Some p → RunsItself ps p.name → ⊥

-- that name, or that there is none
abbrev pub IsFirstRecursion : List Program → Option (List ℕ) → Type 0
IsFirstRecursion ps None = (m : List ℕ) → RunsItself ps m → ⊥
IsFirstRecursion ps (Some m) = IsFirstOnItself ps m
