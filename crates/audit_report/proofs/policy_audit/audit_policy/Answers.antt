use Rattle.std.proofs.Common.{◌≡◌, ◌∙◌, ◌<◌, ◌≤◌, length, take, get_or, refl, sym, ap, subst, arith, rules, below_more}
use Rattle.std.specs.Prelude.{Some, slice_get}
use Rattle.std.proofs.lemmas.Option.{slice_get_read}
use Rattle.rbac_policy.specs.declared.commands.Entry.{Entry}
use Rattle.rbac_policy.specs.declared.policy.Policy.{Policy}
use Rattle.rbac_policy.specs.Change.{absorbed, policy_of}
use Rattle.rbac_policy.specs.StandsFor.{StandsFor}
use Rattle.rbac_policy.proofs.Growing.{policy_of_more}
use Rattle.audit_report.proofs.Fronts.{list_whole, right_stands, opens_front, opens_within, right_later, wrong_later}
use Rattle.audit_report.proofs.policy_audit.audit_policy.Goals as goal

pub loop-at-init : goal.loop-at-init
loop-at-init c = record {
  right = c.in_ok-check_opening.ensures.ok;
  policy = c.opening-policy.ensures.exact ∙ ap policy_of
      (sym (opens_front c.args.entries.now c.in_ok-check_opening.ensures.ok));
}

pub is_accepted-requires : goal.is_accepted-requires
is_accepted-requires c =
    let entries = c.args.entries.now in
    let at = c.loop-at.at in
    let late : 4 ≤ at = omega arith in
    let low : at ≤ length entries = omega arith in
    subst (λ (p : Policy). StandsFor p (take at entries)) (sym c.loop-at.invariant.policy)
    (right_stands entries at late low c.loop-at.invariant.right)

pub returns-then-not-branch-clause-err : goal.returns-then-not-branch-clause-err
returns-then-not-branch-clause-err c =
    let entries = c.args.entries.now in
    let at = c.loop-at.at in
    let entry = c.index-entries-at.result in
    let late : 4 ≤ at = omega arith in
    let low : at < length entries = omega arith in
    let there : slice_get entries at ≡ Some entry = slice_get_read entries
    (length entries) at entry refl low c.index-entries-at.is in
    wrong_later entries at entry late there c.loop-at.invariant.right
    (λ accepted. let t = c.in_ok-is_accepted.ensures.1 accepted in absurd (search (rules, t, c.if-not-branch.true)))

pub loop-at-preserved : goal.loop-at-preserved
loop-at-preserved c =
    let entries = c.args.entries.now in
    let at = c.loop-at.at in
    let entry = c.index-entries-at.result in
    let again = c.index-entries-at-in-loop-at.result in
    let late : 4 ≤ at = omega arith in
    let low : at < length entries = omega arith in
    let there : slice_get entries at ≡ Some entry = slice_get_read entries
    (length entries) at entry refl low c.index-entries-at.is in
    let is = c.index-entries-at-in-loop-at.is in
    let accepted = c.in_ok-is_accepted.ensures.0 (search (rules, c.if-not-branch.false)) in
    record {
      right = below_more _ _ c.loop-at.invariant.right (right_later entries at entry late there accepted);
      policy = c.absorb.ensures.exact
          ∙ ap (λ (e : Entry). absorbed c.loop-at.policy e) is
          ∙ ap (λ (p : Policy). absorbed p (get_or entries at again)) c.loop-at.invariant.policy
          ∙ sym (policy_of_more entries at again low);
    }

pub returns-clause-ok : goal.returns-clause-ok
returns-clause-ok c =
    let entries = c.args.entries.now in
    let late : 4 ≤ length entries = opens_within entries c.in_ok-check_opening.ensures.ok in
    list_whole entries late (λ k low. c.loop-at.invariant.right k (omega (arith, low, c.loop-at-test.false)))
