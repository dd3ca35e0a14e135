use Rattle.std.proofs.Common.{◌≡◌, Some, List, sym, ap, ◌∙◌, subst, rules}
use Rattle.std.specs.Option.{option_copied}
use Rattle.std.specs.Prelude.{Ok}
use Rattle.refusal_rules.proofs.RuleLemmas.{pass}
use Rattle.rbac_policy.specs.declared.commands.Entry.{Entry}
use Rattle.rbac_policy.specs.StandsFor.{StandsFor}
use Rattle.rbac_admin.specs.PolicyLists.{IsAccepted}
use Rattle.rbac_admin.specs.PolicyStep.{PolicyStep}
use Rattle.rbac_admin.specs.Room.{HasRoomFor}
use Rattle.rbac_admin.proofs.Accepted.{accepted_again}
use Rattle.policy_board.proofs.locked_policy.LockedPolicy.decide_and_append.Goals as goal

pub append-requires : goal.append-requires
append-requires g c =
    let journal = c.self.inside.journal in
    let e = c.in-Ok.entry in
    let is : Some c.unwrap.result.now ≡ Some journal = ap option_copied (sym c.unwrap.ensures)
    ∙ (c.as_ref.ensures.value ∙ c.self.invariant) in
    let same : c.unwrap.result.now ≡ journal = cc (is) in
    let stands : StandsFor c.policy-policy.result.now journal =
    subst (StandsFor c.policy-policy.result.now) same c.policy-policy.ensures in
    let step : PolicyStep journal c.args.session c.args.command (Ok e) = c.in-Ok.ensures journal stands in
    let room : HasRoomFor e.command journal = subst (HasRoomFor e.command) c.entries.ensures
    (c.has_room.ensures.0 (search (rules, c.if-not-has_room.false))) in
    let accepted : IsAccepted journal e =
    record { step = accepted_again journal c.args.session c.args.command e step; room = room } in
    subst (λ (l : List Entry). IsAccepted l e) c.self.view_is accepted

pub returns-clause-step : goal.returns-clause-step
returns-clause-step g c =
    let journal = c.self.inside.journal in
    let e = c.in-Ok.entry in
    let is : Some c.unwrap.result.now ≡ Some journal = ap option_copied (sym c.unwrap.ensures)
    ∙ (c.as_ref.ensures.value ∙ c.self.invariant) in
    let same : c.unwrap.result.now ≡ journal = cc (is) in
    let stands : StandsFor c.policy-policy.result.now journal =
    subst (StandsFor c.policy-policy.result.now) same c.policy-policy.ensures in
    let step : PolicyStep c.args.self.now c.args.session c.args.command (Ok e) =
    subst (λ (l : List Entry). PolicyStep l c.args.session c.args.command (Ok e)) c.self.view_is
    (c.in-Ok.ensures journal stands) in
    let room : HasRoomFor e.command journal = subst (HasRoomFor e.command) c.entries.ensures
    (c.has_room.ensures.0 (search (rules, c.if-not-has_room.false))) in
    record {
      answer = Ok e;
      given = step;
      replied = pass (subst (HasRoomFor e.command) c.self.view_is room) c.append.ensures.answer;
    }
