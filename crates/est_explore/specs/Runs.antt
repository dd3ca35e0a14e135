-- Runs of a module: what it does, instant after instant, with lawful inputs (this project's own form, over the
-- reactions
-- of est_meaning and the relations of est_relations).
use Rattle.std.specs.Prelude.{◌≡◌, ◌||◌, ℕ, Bool, List, [], ◌∷◌}
use Rattle.est_cover.specs.InputSets.{InputSet, may_offer}
use Rattle.est_kernel.specs.Term.{Term}
use Rattle.est_kernel.specs.View.{term_of}
use Rattle.est_kernel.specs.declared.kernel.Kernel.{Kernel}
use Rattle.est_meaning.specs.Knowledge.{IsIn}
use Rattle.est_meaning.specs.Reaction.{Reacts}
use Rattle.est_meaning.specs.Rounds.{judged_signals}
use Rattle.est_relations.specs.Keeping.{AreLawful}
use Rattle.est_relations.specs.declared.relations.Relation.{Relation}

-- a module of whose runs is spoken: its kernel, its relations, and the signals that somebody may offer
pub record Module : Type 0 where
  pub kernel : Kernel
  pub relations : List Relation
  pub allowed : ℕ → Bool

-- each of the inputs may be offered, and each relation holds of them
pub record IsLawful (m : Module) (inputs : InputSet) : Type 0 where
  pub offered : IsIn inputs (may_offer m.kernel.interface m.allowed)
  pub kept : AreLawful m.relations inputs

-- an instant: which signals are offered and which are emitted
pub record Instant : Type 0 where
  pub inputs : ℕ → Bool
  pub outputs : ℕ → Bool

-- whether a signal is present in the instant
abbrev pub is_present : Instant → ℕ → Bool
is_present i n = i.inputs n || i.outputs n

-- the term reacts to the inputs with these outputs, and goes on as u
abbrev pub Goes : Module → Term → InputSet → (outputs : ℕ → Bool) → (u : Term) → Type 0
Goes m t inputs outputs u = Reacts (judged_signals m.kernel.interface inputs) inputs t outputs u

-- by these instants t becomes u: each has lawful inputs, and is what the term of then does with them
abbrev pub Runs : Module → Term → List Instant → Term → Type 0
Runs m t [] u = t ≡ u
Runs m t (i ∷ run) u = (v : Term) × IsLawful m i.inputs × Goes m t i.inputs i.outputs v × Runs m v run u

-- where the module begins
abbrev pub start : Module → Term
start m = term_of m.kernel.root

-- the instants are a run of the module, from its beginning
pub record IsRun (m : Module) (run : List Instant) : Type 0 where
  pub left : Term
  pub runs : Runs m (start m) run left
