-- What a module answers to a part of its inputs.
use Rattle.std.proofs.Common.{◌≡◌, ◌∙◌, ℕ, Bool, Some, ap, refl, subst, sym}
use Rattle.est_kernel.specs.Bits.{bits}
use Rattle.est_kernel.specs.Interfaces.{offerable}
use Rattle.est_kernel.specs.declared.kernel.Kernel.{Kernel}
use Rattle.est_kernel.specs.declared.state.Inputs.{Inputs}
use Rattle.est_kernel.specs.declared.state.Outcome.{Outcome}
use Rattle.est_kernel.specs.declared.state.State.{State}
use Rattle.est_meaning.specs.States.{IsState}
use Rattle.est_meaning.specs.Knowledge.{IsIn}
use Rattle.est_rounds.specs.Contract.{IsReaction}
use Rattle.est_rounds.specs.Parts.{AgreeOn}
use Rattle.est_cover.specs.InputSets.{Agrees, InputSet}
use Rattle.est_explore.specs.Inner.Answers.{AnswersSo}
use Rattle.est_explore.specs.declared.one_module.Answer.TheVariants.{Reaction}
use Rattle.est_explore.specs.declared.one_module.Position.{Position}
use Rattle.est_explore.proofs.MaskLemmas.{mask_of}

abbrev at_state : State → Position
at_state s = record { state = s }

-- after an outcome the module stands at a state of its own
pub part_state : (k : Kernel) (x : Position) (asked inputs : ℕ) (o : Outcome)
    → ((others : Inputs) → AgreeOn k (bits asked) (bits inputs) others → IsReaction k x.state others o)
    → IsIn (bits inputs) (offerable k.interface) → (y : Position) → Some (at_state o.next) ≡ Some y
    → IsState k.root y.state
part_state k x asked inputs o all offered y e =
    subst (λ (z : Position). IsState k.root z.state) (some_is e)
    (all (record { signals = inputs }) (record { offered = offered; same = λ n h. refl })).next where
      some_is : Some (at_state o.next) ≡ Some y → at_state o.next ≡ y
      some_is k = cc

-- an outcome is the reaction to each set of inputs that is the same where it is asked
pub part_answers : (k : Kernel) (x : Position) (asked inputs : ℕ) (o : Outcome)
    → ((others : Inputs) → AgreeOn k (bits asked) (bits inputs) others → IsReaction k x.state others o)
    → (set : InputSet) → IsIn set (offerable k.interface) → Agrees (bits asked) (bits inputs) set
    → AnswersSo k x set (Reaction o.outputs) (Some (record { state = o.next }))
part_answers k x asked inputs o all set offered agrees =
    let m = mask_of k.interface set offered in
    let at : (n : ℕ) → bits m.mask n ≡ set n = λ n. ap (λ (f : ℕ → Bool). f n) m.is in
    let r = all (record { signals = m.mask }) (record {
      offered = λ n h. offered n (sym (at n) ∙ h);
      same = λ n h. at n ∙ agrees n h;
    }) in
    record { reacts = rw m.is at r.reacts; next = r.next }
