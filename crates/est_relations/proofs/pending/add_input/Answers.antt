use Rattle.std.proofs.Common.{◌∙◌, refl, sym}
use Rattle.est_kernel.specs.Interfaces.{can_be_offered}
use Rattle.est_relations.specs.Offers.{pending_inputs}
use Rattle.est_relations.specs.declared.refusal.PendingRefusal.TheVariants.{NotInput, AlreadyOffered}
use Rattle.est_relations.proofs.Answering.{member_within, refused_name, refused_member, accepted, kept_with}
use Rattle.est_relations.proofs.pending.add_input.Goals as goal

pub returns-then-not-can_be_offered-clause-answer : goal.returns-then-not-can_be_offered-clause-answer
returns-then-not-can_be_offered-clause-answer c = λ name there.
    refused_name (pending_inputs c.args.interface.now c.args.relations.now c.args.inputs) name NotInput c.requires.kept
    (record {
      place = c.args.signal.index;
      there = there;
      output = c.kind.ensures can_be_offered ∙ sym c.can_be_offered.ensures ∙ c.if-not-can_be_offered.true;
    })

pub returns-then-has-clause-answer : goal.returns-then-has-clause-answer
returns-then-has-clause-answer c = λ name there.
    refused_name (pending_inputs c.args.interface.now c.args.relations.now c.args.inputs) name AlreadyOffered
    c.requires.kept
    (record { place = c.args.signal.index; there = there; pending = sym c.has.ensures ∙ c.if-has.true })

pub get-requires : goal.get-requires
get-requires c =
    member_within c.args.interface.now c.args.relations.now c.args.inputs c.args.signal.index
    c.in-Some.broken.relation c.in-Some.broken.signal.index c.requires.kept
    (rw c.as_slice.ensures.all at c.in-Some.ensures)

pub returns-in-Some-clause-answer : goal.returns-in-Some-clause-answer
returns-in-Some-clause-answer c = λ name there.
    refused_member (pending_inputs c.args.interface.now c.args.relations.now c.args.inputs) name c.args.signal.index
    c.in-Some.broken.relation c.in-Some.broken.signal.index c.get.result
    (record {
      there = there;
      input = c.kind.ensures can_be_offered ∙ sym c.can_be_offered.ensures ∙ c.if-not-can_be_offered.false;
      new = sym c.has.ensures ∙ c.if-has.false;
    })
    (rw c.as_slice.ensures.all at c.in-Some.ensures) c.get.ensures

pub returns-in-None-clause-kept : goal.returns-in-None-clause-kept
returns-in-None-clause-kept c =
    rw c.with_signal.ensures
    (kept_with c.args.interface.now c.args.relations.now c.args.inputs c.args.signal.index c.requires.kept
    (c.kind.ensures can_be_offered ∙ sym c.can_be_offered.ensures ∙ c.if-not-can_be_offered.false)
    (rw c.as_slice.ensures.all at c.in-None.ensures))

pub returns-in-None-clause-answer : goal.returns-in-None-clause-answer
returns-in-None-clause-answer c = λ name there.
    rw c.with_signal.ensures
    (accepted (pending_inputs c.args.interface.now c.args.relations.now c.args.inputs) name c.args.signal.index _
    (record {
      there = there;
      input = c.kind.ensures can_be_offered ∙ sym c.can_be_offered.ensures ∙ c.if-not-can_be_offered.false;
      new = sym c.has.ensures ∙ c.if-has.false;
    })
    (rw c.as_slice.ensures.all at c.in-None.ensures) refl)
