use Rattle.std.proofs.Common.{◌≡◌, subst, sym}
use Rattle.std.specs.Prelude.{Bool, IsTrue}
use Rattle.est_left.specs.Inner.Sameness.{same_term}
use Rattle.est_left.proofs.Sameness.{is_same}
use Rattle.est_meaning.specs.States.{state_term}
use Rattle.est_left.proofs.states.is_same_state.Goals as goal

pub returns-else-eq : goal.returns-else-eq
returns-else-eq c =
    let one = state_term c.args.root.now c.args.one.now in
    let other = state_term c.args.root.now c.args.other.now in
    let told : c.is_same_rest.result ≡ same_term one other = cc in
    let tells = is_same one other in (
      λ h. tells.0 (subst (λ (b : Bool). IsTrue b) told h),
      λ h. subst (λ (b : Bool). IsTrue b) (sym told) (tells.1 h),
    )
