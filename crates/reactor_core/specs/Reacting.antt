-- The reaction of a module's term, over sets of interface signals as masks (this project's own form).
use Rattle.std.specs.Prelude.{◌≡◌, ℕ, List}
use Rattle.est_kernel.specs.Bits.{bits}
use Rattle.est_kernel.specs.Term.{Term}
use Rattle.est_kernel.specs.declared.interface.Declaration.{Declaration}
use Rattle.est_meaning.specs.Reaction.{Reacts, CannotReact, is_undecided}
use Rattle.est_meaning.specs.Rounds.{judged_signals}

-- the constructive reaction of the term to these inputs emits these outputs and inputoutputs of the interface and goes
-- on as the next term (Berry, The Constructive Semantics of Pure Esterel)
abbrev pub ReactsWith : List Declaration → Term → (inputs outputs : ℕ) → (next : Term) → Type 0
ReactsWith interface term inputs outputs next = Reacts (judged_signals interface (bits inputs)) (bits inputs) term
    (bits outputs) next

-- the term has no constructive reaction to these inputs, and the mask has exactly the outputs and inputoutputs that
-- stay undecided
pub record IsStuck (interface : List Declaration) (term : Term) (inputs undecided : ℕ) : Type 0 where
  pub cannot : CannotReact (judged_signals interface (bits inputs)) (bits inputs) term
  pub exactly : (n : ℕ) → bits undecided n ≡ is_undecided (judged_signals interface (bits inputs)) (bits inputs) term n
