use Rattle.std.proofs.Common.{◌≡◌, ◌++◌, ◌∷◌, [], Some, List, refl, sym, ap, ◌∙◌, subst}
use Rattle.refusal_rules.proofs.RuleLemmas.{pass}
use Rattle.rbac_policy.specs.declared.commands.Entry.{Entry}
use Rattle.rbac_policy.specs.StandsFor.{StandsFor}
use Rattle.policy_board.specs.PolicyCommands.{session_made}
use Rattle.policy_board.proofs.locked_policy.LockedPolicy.append.Goals as goal

pub returns-clause-answer : goal.returns-clause-answer
returns-clause-answer g c =
    let journal = c.self.inside.journal in
    let e = c.args.entry in
    let is : Some c.unwrap.result ≡ Some journal = sym c.unwrap.ensures ∙ (c.take.ensures.value ∙ c.self.invariant) in
    let same : c.unwrap.result ≡ journal = cc (is) in
    let told : c.in-Ok.told ≡ e = c.in-Ok.ensures.1 in
    let all : c.publish-publisher.result ≡ journal ++ e ∷ [] =
    c.publish-publisher.ensures
    ∙ (ap (λ (l : List Entry). l ++ c.in-Ok.published ∷ []) same
    ∙ ap (λ (x : Entry). journal ++ x ∷ []) c.in-Ok.ensures.0) in
    let stands : StandsFor c.policy.result.now (journal ++ c.in-Ok.told ∷ []) =
    subst (StandsFor c.policy.result.now) (all ∙ ap (λ (x : Entry). journal ++ x ∷ []) (sym told)) c.policy.ensures in
    pass (record {}) (record {
      acceptance = record { entry = c.in-Ok.told; list = c.prefix.result; session = c.session_made.result };
      answered = refl;
      entry_is = told;
      list_is = c.prefix.ensures ∙ (all ∙ sym c.in-Ok-push.ensures);
      session_is =
          c.session_made.ensures journal stands
          ∙ (ap (λ (x : Entry). session_made journal x) told
          ∙ ap (λ (l : List Entry). session_made l e) c.self.view_is);
      appended = c.in-Ok-push.ensures ∙ ap (λ (l : List Entry). l ++ e ∷ []) c.self.view_is;
    })
