use Rattle.std.proofs.Common.{inl, inr, refl, arith}
use Rattle.std.proofs.lemmas.Bool.{cases_lt}
use Rattle.est_kernel.specs.Pauses.{pauses_of}
use Rattle.est_machine.proofs.Pauses.{no_bit}
use Rattle.est_machine.proofs.valid_states.is_empty.Goals as goal

pub returns : goal.returns
unfolding pauses_of
returns c = (
  λ _ i. elim (cases_lt i 2048) [
    | inl l ↦ c.loop-index.invariant i (omega (arith, l))
    | inr g ↦ no_bit c.args.pauses.words i (c.well_formed.0.1.1.0.1.0.1) g
  ],
  λ _. refl,
)
