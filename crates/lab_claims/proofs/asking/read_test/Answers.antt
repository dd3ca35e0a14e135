use Rattle.std.proofs.Common.{◌≡◌, ◌∙◌, codes, true, false, rules}
use Rattle.std.proofs.lemmas.Result.{err_from_is_err_and}
use Rattle.reactor_core.specs.Loading.{Gives}
use Rattle.reactor_core.specs.Standing.{given_by}
use Rattle.lab_claims.specs.Claims.{asking_text}
use Rattle.lab_claims.specs.Refused.{more_than_asked, other_signals, other_tokens}
use Rattle.lab_claims.proofs.asking.read_test.Goals as goal

pub returns-in_err-check_tokens-clause-fault : goal.returns-in_err-check_tokens-clause-fault
returns-in_err-check_tokens-clause-fault c =
    let p = err_from_is_err_and c.from_residual.result c.from_residual.ensures.1 in
    rw (p.1, p.2) (other_tokens c.in_err-check_tokens.ensures)

pub returns-then-not-are_same-clause-fault : goal.returns-then-not-are_same-clause-fault
returns-then-not-are_same-clause-fault c =
    let gives : Gives (codes "M") (asking_text c.args.interface.now c.args.text.now) (given_by c.in_ok-asking.asking) =
    search rules in
    let other : c.are_same.result ≡ false = search rules in
    other_signals c.in_ok-check_tokens.ensures (given_by c.in_ok-asking.asking) gives
    (λ e. let same : c.are_same.result ≡ true = c.are_same.ensures.1 (c.interface.ensures ∙ e) in cc) c.at_start.ensures

pub returns-clause-fault : goal.returns-clause-fault
returns-clause-fault c =
    let gives : Gives (codes "M") (asking_text c.args.interface.now c.args.text.now) (given_by c.in_ok-asking.asking) =
    search rules in
    more_than_asked c.in_ok-check_tokens.ensures (given_by c.in_ok-asking.asking) gives c.in-None.ensures
    c.at_start-in-None.ensures
