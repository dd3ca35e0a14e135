use Rattle.std.proofs.Common.{◌≡◌, ◌∙◌, refl, sym}
use Rattle.std.proofs.lemmas.Bool.{false≢true}
use Rattle.est_machine.proofs.Restoring.{no_other, state_words}
use Rattle.est_machine.proofs.machine.Machine.restore.Goals as goal
use Rattle.est_machine.specs.Machines.{in_state}

pub returns-in_default-clause-refused : goal.returns-in_default-clause-refused
returns-in_default-clause-refused c = λ _. (
  refl,
  λ x is h.
      c.in_default.ensures.none x (state_words (in_state c.args.self.now x) c.args.words.now is h),
)

pub returns-then-not-is_state-clause-refused : goal.returns-then-not-is_state-clause-refused
returns-then-not-is_state-clause-refused c = λ _. (
  refl,
  λ x is h.
      let root : c.root.result.now ≡ c.args.self.now.0.root = rw (← c.self.view_is) c.root.ensures in
      let words = state_words (in_state c.args.self.now x) c.args.words.now is h in
      let there = no_other c.args.self.now.0.root c.in-Some.state x c.args.words.now c.in-Some.ensures.some words is in
      false≢true (sym c.if-not-is_state.true ∙ c.is_state.ensures.1 (rw root there)),
)
