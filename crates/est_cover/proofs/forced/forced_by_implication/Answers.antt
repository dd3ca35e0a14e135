use Rattle.std.proofs.Common.{◌≡◌, ◌∙◌, sym, true, false}
use Rattle.std.proofs.lemmas.Bool.{false≢true}
use Rattle.est_kernel.specs.Bits.{bits}
use Rattle.est_cover.proofs.ForcedLemmas.{implied_is, implies, implies_not, nothing_implied, offered_is_asked}
use Rattle.est_cover.proofs.forced.forced_by_implication.Goals as goal

pub returns-then-has : goal.returns-then-has
returns-then-has c = implied_is (bits c.args.part.inputs) c.args.condition c.args.implied
    (sym c.has.ensures ∙ c.if-has.true)

pub returns-in-true-true : goal.returns-in-true-true
returns-in-true-true c = (
  sym c.in-true-true.ensures,
  λ set has kept. implies set c.args.condition c.args.implied kept
      (has c.args.condition (offered_is_asked c.args.part.unasked c.args.part.inputs c.requires.apart c.args.condition
      (sym c.in-true-true.ensures')) ∙ sym c.in-true-true.ensures'),
)

pub returns-in-true-false : goal.returns-in-true-false
returns-in-true-false c = nothing_implied (bits c.args.part.inputs) c.args.condition c.args.implied
    (sym c.in-true-false.ensures')

pub returns-in-false-true : goal.returns-in-false-true
returns-in-false-true c = λ set has kept.
    let no : set c.args.implied ≡ false =
    has c.args.implied (sym c.in-false-true.ensures) ∙ (sym c.has.ensures ∙ c.if-has.false) in
    let yes : set c.args.condition ≡ true =
    has c.args.condition (offered_is_asked c.args.part.unasked c.args.part.inputs c.requires.apart c.args.condition
    (sym c.in-false-true.ensures')) ∙ sym c.in-false-true.ensures' in
    false≢true (sym no ∙ implies set c.args.condition c.args.implied kept yes)

pub returns-then-has-4 : goal.returns-then-has-4
returns-then-has-4 c = (
  sym c.has-in-false-false.ensures ∙ c.if-has-4.true,
  λ set has kept. implies_not set c.args.condition c.args.implied kept
      (has c.args.implied (sym c.in-false-false.ensures) ∙ (sym c.has.ensures ∙ c.if-has.false)),
)

pub returns-else-has-4 : goal.returns-else-has-4
returns-else-has-4 c = nothing_implied (bits c.args.part.inputs) c.args.condition c.args.implied
    (sym c.in-false-false.ensures')
