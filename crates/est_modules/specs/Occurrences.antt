-- Where names stand in the body of a module, in the order of the text, and what the statements around them bind
-- (this project's own form).
use Rattle.std.specs.Prelude.{ℕ, List, [], ◌∷◌, ◌++◌, map, Option, None}
use Rattle.std.specs.Option.{option_or}
use Rattle.est_syntax.specs.Tree.{NamesTree, RenamingTree, TestTree}
use Rattle.est_modules.specs.Tests.{test_names}
use Rattle.est_modules.specs.Derived.{Derived, missing, nothing, pause, halt, emit, sustain, exit, await, present}
use Rattle.est_modules.specs.Derived.{suspend, abort, weak_abort, repeat, repeat_each, every, trap, signal, run, seq}
use Rattle.est_modules.specs.Derived.{par}

-- what a statement binds inside it
pub data Binder : Type 0 where
  signals : NamesTree → Binder
  a_trap : List ℕ → Binder

-- what is done with a name
pub data Act : Type 0 where
  emits : List ℕ → Act
  tests : List ℕ → Act
  exits : List ℕ → Act
  binds : NamesTree → Act
  runs : List ℕ → List RenamingTree → Act

-- a place in a body: an act, and the binders around its place, innermost first
pub record Occurrence : Type 0 where
  pub act : Act
  pub around : List Binder

-- the places of a test where names stand, in the order of the text
abbrev pub tested : List Binder → TestTree → List Occurrence
tested bs t = map (λ n. record { act = tests n; around = bs }) (test_names t)

-- the places of a statement where names stand, in the order of the text
abbrev pub occurrences : List Binder → Derived → List Occurrence
occurrences bs missing = []
occurrences bs nothing = []
occurrences bs pause = []
occurrences bs halt = []
occurrences bs (emit s) = record { act = emits s; around = bs } ∷ []
occurrences bs (sustain s) = record { act = emits s; around = bs } ∷ []
occurrences bs (exit t) = record { act = exits t; around = bs } ∷ []
occurrences bs (await d) = tested bs d.test
occurrences bs (present t p q) = tested bs t ++ (occurrences bs p ++ occurrences bs q)
occurrences bs (suspend p d) = occurrences bs p ++ tested bs d.test
occurrences bs (abort p d) = occurrences bs p ++ tested bs d.test
occurrences bs (weak_abort p d) = occurrences bs p ++ tested bs d.test
occurrences bs (repeat p) = occurrences bs p
occurrences bs (repeat_each p t) = occurrences bs p ++ tested bs t
occurrences bs (every d p) = tested bs d.test ++ occurrences bs p
occurrences bs (trap t p) = occurrences (a_trap t ∷ bs) p
occurrences bs (signal ns p) = record { act = binds ns; around = bs } ∷ occurrences (signals ns ∷ bs) p
occurrences bs (run m rs) = record { act = runs m rs; around = bs } ∷ []
occurrences bs (seq p q) = occurrences bs p ++ occurrences bs q
occurrences bs (par p q) = occurrences bs p ++ occurrences bs q

-- the first answer that a test gives along a list
abbrev pub first_of : {X A : Type 0} → (X → Option A) → List X → Option A
first_of f [] = None
first_of f (x ∷ xs) = option_or (f x) (first_of f xs)
