-- What is told of the statements of a kernel: a list in text order, in which each names its parts by their numbers
-- (this project's own form).
use Rattle.std.specs.Prelude.{◌≡◌, ◌+◌, ℕ, count_ones, List, [], ◌∷◌, ◌++◌, Option, None, Some, codes, length}
use Rattle.std.specs.Prelude.{slice_get}
use Rattle.serde_json.specs.Data.{Data, number, unsigned, string, array, object, member, no_members}
use Rattle.serde_json.specs.View.{items_of}
use Rattle.est_kernel.specs.Bits.{bits}
use Rattle.est_kernel.specs.Interfaces.{offerable}
use Rattle.est_kernel.specs.declared.interface.Declaration.{Declaration}
use Rattle.est_kernel.specs.declared.kernel.Kernel.{Kernel}
use Rattle.est_kernel.specs.declared.statement.Signal.{Signal}
use Rattle.est_kernel.specs.declared.statement.Signal.TheVariants.{Interface, Local}
use Rattle.est_kernel.specs.declared.statement.Statement.{Statement}
use Rattle.est_kernel.specs.declared.statement.Statement.TheVariants.{Nothing, Pause, Emit, Present', Suspend', Seq'}
use Rattle.est_kernel.specs.declared.statement.Statement.TheVariants.{Loop', Par', Trap', Exit, Local' as Binder'}

-- a statement without parts
abbrev pub plain_json : (kind : List ℕ) → Data
plain_json kind = object (member (codes "kind") (string kind) no_members)

-- a statement with one part
abbrev pub around_json : (kind : List ℕ) → (part : ℕ) → Data
around_json kind part = object (member (codes "kind") (string kind)
    (member (codes "parts") (array (items_of (number (unsigned part) ∷ []))) no_members))

-- a statement with two parts
abbrev pub both_json : (kind : List ℕ) → (first second : ℕ) → Data
both_json kind first second = object (member (codes "kind") (string kind) (member (codes "parts")
    (array (items_of (number (unsigned first) ∷ number (unsigned second) ∷ []))) no_members))

-- a pause, by its number
abbrev pub pause_json : ℕ → Data
pause_json n = object (member (codes "kind") (string (codes "pause"))
    (member (codes "pause") (number (unsigned n)) no_members))

-- an `emit` of what is declared, if it is
abbrev pub emitted_json : Option Declaration → Data
emitted_json (Some d) =
    object (member (codes "kind") (string (codes "emit")) (member (codes "signal") (string d.name) no_members))
emitted_json None = plain_json (codes "emit")

-- an `emit`: a signal of the interface by its name; a local one has none
abbrev pub emit_json : List Declaration → Signal → Data
emit_json interface (Interface s) = emitted_json (slice_get interface s.index)
emit_json interface (Local s) = plain_json (codes "emit")

-- a statement and then its parts, of which the first is of this number
abbrev pub statements_json : List Declaration → (at : ℕ) → Statement → List Data
statements_json interface at Nothing = plain_json (codes "nothing") ∷ []
statements_json interface at (Pause n) = pause_json n.index ∷ []
statements_json interface at (Emit s) = emit_json interface s ∷ []
statements_json interface at (Present' t a p b q) =
    both_json (codes "present") (at + 1) (at + 1 + length (statements_json interface (at + 1) p))
    ∷ (statements_json interface (at + 1) p
    ++ statements_json interface (at + 1 + length (statements_json interface (at + 1) p)) q)
statements_json interface at (Suspend' t a p) =
    around_json (codes "suspend") (at + 1) ∷ statements_json interface (at + 1) p
statements_json interface at (Seq' a p b q) =
    both_json (codes "seq") (at + 1) (at + 1 + length (statements_json interface (at + 1) p))
    ∷ (statements_json interface (at + 1) p
    ++ statements_json interface (at + 1 + length (statements_json interface (at + 1) p)) q)
statements_json interface at (Loop' a p) =
    around_json (codes "loop") (at + 1) ∷ statements_json interface (at + 1) p
statements_json interface at (Par' a p b q) =
    both_json (codes "par") (at + 1) (at + 1 + length (statements_json interface (at + 1) p))
    ∷ (statements_json interface (at + 1) p
    ++ statements_json interface (at + 1 + length (statements_json interface (at + 1) p)) q)
statements_json interface at (Trap' a p) =
    around_json (codes "trap") (at + 1) ∷ statements_json interface (at + 1) p
statements_json interface at (Exit k) = plain_json (codes "exit") ∷ []
statements_json interface at (Binder' s a p) =
    around_json (codes "signal") (at + 1) ∷ statements_json interface (at + 1) p

-- the number after a statement and its parts
abbrev pub number_after : List Declaration → (at : ℕ) → Statement → ℕ
number_after interface at s = at + length (statements_json interface at s)

-- two statements, one after the other
abbrev pub statements_of_both_json : List Declaration → (at : ℕ) → (p q : Statement) → List Data
statements_of_both_json interface at p q =
    statements_json interface at p ++ statements_json interface (number_after interface at p) q

-- what is told of a kernel: how many of its signals may be offered, and its statements
pub record IsKernelTold (k : Kernel) (d : Data) : Type 0 where
  pub inputs : ℕ
  pub offered : bits inputs ≡ offerable k.interface
  pub said : d ≡ object (member (codes "inputs") (number (unsigned (count_ones inputs)))
      (member (codes "ok") (string (codes "kernel"))
      (member (codes "statements") (array (items_of (statements_json k.interface 0 k.root))) no_members)))
