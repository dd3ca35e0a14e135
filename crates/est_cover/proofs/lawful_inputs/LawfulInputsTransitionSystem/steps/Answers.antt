use Rattle.std.proofs.Common.{refl}
use Rattle.std.proofs.lemmas.Result.{IfOk-weaker}
use Rattle.est_kernel.specs.Bits.{bits}
use Rattle.est_cover.proofs.LawfulInputsLemmas.{on_ok, may_is, all_sound, all_whole}
use Rattle.est_cover.proofs.PartLemmas.{part_begins}
use Rattle.est_cover.proofs.lawful_inputs.LawfulInputsTransitionSystem.steps.Goals as goal

pub cover-requires-clause-part : goal.cover-requires-clause-part
cover-requires-clause-part g c = part_begins (bits c.intersection-may.result) c.intersection-may.result refl

pub returns-clause-sound : goal.returns-clause-sound
returns-clause-sound g c =
    let may = rw c.interface-interface.ensures at
    (may_is _ _ _ _ c.offerable-offerable.ensures c.intersection-may.ensures) in
    on_ok c.cover.result _ _ (λ whole e.
    all_sound _ _ _ _ _ _ _ _ _ c.union.ensures _ whole _ may
    (rw (c.requires.empty, c.as_slice.ensures.all) at e)) c.cover.ensures.covered

pub returns-clause-whole : goal.returns-clause-whole
returns-clause-whole g c =
    let may = rw c.interface-interface.ensures at
    (may_is _ _ _ _ c.offerable-offerable.ensures c.intersection-may.ensures) in
    IfOk-weaker c.cover.result _ _ (λ whole e.
    all_whole _ _ _ _ _ _ _ _ _ c.union.ensures _ whole _ refl may
    (rw (c.requires.empty, c.as_slice.ensures.all) at e)) c.cover.ensures.covered
