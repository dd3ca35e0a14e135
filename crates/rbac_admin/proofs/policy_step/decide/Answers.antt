use Rattle.std.proofs.Common.{ap}
use Rattle.std.specs.Prelude.{Ok}
use Rattle.std.proofs.lemmas.Result.{err_from_is_err_and}
use Rattle.refusal_rules.proofs.RuleLemmas.{accepted}
use Rattle.rbac_admin.specs.PolicyStep.{session_rules, permission_rules, existence_rules, condition_rules}
use Rattle.rbac_admin.specs.PolicyStep.{separation_rules, table_rules}
use Rattle.rbac_admin.proofs.Answering.{checked, mapped, skip, stop, giver_of, after_giver}
use Rattle.rbac_admin.proofs.policy_step.decide.Goals as goal

pub returns-in_err-session : goal.returns-in_err-session
returns-in_err-session c =
    let p = err_from_is_err_and c.from_residual.result c.from_residual.ensures.1 in
    rw (p.1, p.2)
    (λ L st. stop (session_rules L c.args.session c.args.command) _ _ _ _ _ (λ refusal is. cc)
    (λ found. let is = found.0 in absurd cc)
    (c.in_err-session.ensures L st))

pub returns-in_err-check_permission : goal.returns-in_err-check_permission
returns-in_err-check_permission c =
    let p = err_from_is_err_and c.from_residual-in_err-check_permission.result
    c.from_residual-in_err-check_permission.ensures.1 in
    rw (p.1, p.2) (λ L st.
    let s = c.args.session in
    let x = c.in_ok-session.session in
    let k = c.args.command in
    let g = giver_of L s x k (c.in_ok-session.ensures L st) in
    after_giver L s x k _ _ g
    (stop (permission_rules L x k) _ _ _ _ _ (λ refusal is. cc) (λ is. absurd cc)
    (c.in_err-check_permission.ensures L st g.given)))

pub returns-in_err-check_existence : goal.returns-in_err-check_existence
returns-in_err-check_existence c =
    let p = err_from_is_err_and c.from_residual-in_err-check_existence.result
    c.from_residual-in_err-check_existence.ensures.1 in
    rw (p.1, p.2) (λ L st.
    let s = c.args.session in
    let x = c.in_ok-session.session in
    let k = c.args.command in
    let g = giver_of L s x k (c.in_ok-session.ensures L st) in
    let right = checked (permission_rules L x k) (c.in_ok-check_permission.ensures L st g.given) in
    after_giver L s x k _ _ g (skip (permission_rules L x k) _ _ _ right
    (stop (existence_rules L k) _ _ _ _ _ (λ refusal is. cc) (λ is. absurd cc)
    (c.in_err-check_existence.ensures L st))))

pub returns-in_err-check_conditions : goal.returns-in_err-check_conditions
returns-in_err-check_conditions c =
    let p = err_from_is_err_and c.from_residual-in_err-check_conditions.result
    c.from_residual-in_err-check_conditions.ensures.1 in
    rw (p.1, p.2) (λ L st.
    let s = c.args.session in
    let x = c.in_ok-session.session in
    let k = c.args.command in
    let g = giver_of L s x k (c.in_ok-session.ensures L st) in
    let right = checked (permission_rules L x k) (c.in_ok-check_permission.ensures L st g.given) in
    let names = checked (existence_rules L k) (c.in_ok-check_existence.ensures L st) in
    after_giver L s x k _ _ g (skip (permission_rules L x k) _ _ _ right (skip (existence_rules L k) _ _ _ names
    (stop (condition_rules L x k) _ _ _ _ _ (λ refusal is. cc) (λ is. absurd cc)
    (c.in_err-check_conditions.ensures L st g.given)))))

pub returns-in_err-check_separation : goal.returns-in_err-check_separation
returns-in_err-check_separation c =
    let p = err_from_is_err_and c.from_residual-in_err-check_separation.result
    c.from_residual-in_err-check_separation.ensures.1 in
    rw (p.1, p.2) (λ L st.
    let s = c.args.session in
    let x = c.in_ok-session.session in
    let k = c.args.command in
    let g = giver_of L s x k (c.in_ok-session.ensures L st) in
    let right = checked (permission_rules L x k) (c.in_ok-check_permission.ensures L st g.given) in
    let names = checked (existence_rules L k) (c.in_ok-check_existence.ensures L st) in
    let conditions = checked (condition_rules L x k) (c.in_ok-check_conditions.ensures L st g.given) in
    after_giver L s x k _ _ g
    (skip (permission_rules L x k) _ _ _ right
    (skip (existence_rules L k) _ _ _ names (skip (condition_rules L x k) _ _ _ conditions
    (stop (separation_rules L x k) _ _ _ _ _ (λ refusal is. cc) (λ is. absurd cc)
    (c.in_err-check_separation.ensures L st g.given names conditions))))))

pub returns-in_err-check_tables : goal.returns-in_err-check_tables
returns-in_err-check_tables c =
    let p = err_from_is_err_and c.from_residual-in_err-check_tables.result
    c.from_residual-in_err-check_tables.ensures.1 in
    rw (p.1, p.2) (λ L st.
    let s = c.args.session in
    let x = c.in_ok-session.session in
    let k = c.args.command in
    let g = giver_of L s x k (c.in_ok-session.ensures L st) in
    let right = checked (permission_rules L x k) (c.in_ok-check_permission.ensures L st g.given) in
    let names = checked (existence_rules L k) (c.in_ok-check_existence.ensures L st) in
    let conditions = checked (condition_rules L x k) (c.in_ok-check_conditions.ensures L st g.given) in
    let separation =
    checked (separation_rules L x k) (c.in_ok-check_separation.ensures L st g.given names conditions) in
    after_giver L s x k _ _ g
    (skip (permission_rules L x k) _ _ _ right
    (skip (existence_rules L k) _ _ _ names
    (skip (condition_rules L x k) _ _ _ conditions (skip (separation_rules L x k) _ _ _ separation
    (mapped (table_rules L k) _ _ _ _ (λ refusal is. cc) (λ is. absurd cc) (c.in_err-check_tables.ensures L st)))))))

pub returns : goal.returns
returns c = λ L st.
    let s = c.args.session in
    let x = c.in_ok-session.session in
    let k = c.args.command in
    let g = giver_of L s x k (c.in_ok-session.ensures L st) in
    let right = checked (permission_rules L x k) (c.in_ok-check_permission.ensures L st g.given) in
    let names = checked (existence_rules L k) (c.in_ok-check_existence.ensures L st) in
    let conditions = checked (condition_rules L x k) (c.in_ok-check_conditions.ensures L st g.given) in
    let separation =
    checked (separation_rules L x k) (c.in_ok-check_separation.ensures L st g.given names conditions) in
    let tables = checked (table_rules L k) (c.in_ok-check_tables.ensures L st) in
    after_giver L s x k _ _ g
    (skip (permission_rules L x k) _ _ _ right
    (skip (existence_rules L k) _ _ _ names
    (skip (condition_rules L x k) _ _ _ conditions (skip (separation_rules L x k) _ _ _ separation
    (accepted (table_rules L k) _ _ tables (ap (λ by. Ok (record { session = by; command = k })) g.same))))))
