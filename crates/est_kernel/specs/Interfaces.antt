-- Interfaces as lists of declarations (The Esterel v5 Language Primer, interface declarations).
use Rattle.std.specs.Prelude.{ℕ, zero, suc, ◌≤◌, List, [], ◌∷◌, length, Bool, true, false}
use Rattle.std.specs.List.{IsDistinct}
use Rattle.std.specs.Str.{bytes_eq}
use Rattle.est_kernel.specs.declared.interface.Kind.{Kind}
use Rattle.est_kernel.specs.declared.interface.Kind.TheVariants.{Input, Output, InputOutput}
use Rattle.est_kernel.specs.declared.interface.Declaration.{Declaration}
use Rattle.est_kernel.specs.declared.interface.TheConstants.{MOST_SIGNALS}

-- whether a signal of this kind may be offered
abbrev pub can_be_offered : Kind → Bool
can_be_offered Input = true
can_be_offered Output = false
can_be_offered InputOutput = true

-- whether a signal of this kind may be emitted
abbrev pub can_be_emitted : Kind → Bool
can_be_emitted Input = false
can_be_emitted Output = true
can_be_emitted InputOutput = true

-- whether the n-th signal of an interface is there and of a kind that passes the test
abbrev pub declares : (Kind → Bool) → List Declaration → ℕ → Bool
declares passes [] n = false
declares passes (d ∷ ds) zero = passes d.kind
declares passes (d ∷ ds) (suc n) = declares passes ds n

-- the places of the signals that may be offered: inputs and inputoutputs
abbrev pub offerable : List Declaration → ℕ → Bool
offerable ds = declares can_be_offered ds

-- the places of the signals that may be emitted: outputs and inputoutputs
abbrev pub emittable : List Declaration → ℕ → Bool
emittable ds = declares can_be_emitted ds

-- whether a declaration is of this name
abbrev pub is_named : List ℕ → Declaration → Bool
is_named name d = bytes_eq d.name name

-- no two declarations are of one name
abbrev pub HasDistinctNames : List Declaration → Type 0
HasDistinctNames ds = IsDistinct (λ a b. bytes_eq a.name b.name) ds

-- no more declarations than an interface has room for, and no two of one name
abbrev pub IsInterface : List Declaration → Type 0
IsInterface ds = (length ds ≤ MOST_SIGNALS) × HasDistinctNames ds
