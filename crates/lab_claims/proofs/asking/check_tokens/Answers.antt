use Rattle.std.proofs.Common.{◌≡◌, Some, ap, refl, rules}
use Rattle.std.proofs.lemmas.Result.{err_from_is_err_and}
use Rattle.est_text.specs.declared.place.Place.{Place}
use Rattle.reactor_core.specs.Loading.{IsCutOf}
use Rattle.reactor_core.specs.declared.refusal.ModuleRefusal.TheVariants.{Syntax}
use Rattle.reactor_core.specs.declared.refusal.ReactorRefusal.TheVariants.{Module}
use Rattle.lab_claims.specs.Claims.{first_other}
use Rattle.lab_claims.specs.Refused.{no_tokens, other_token}
use Rattle.lab_claims.proofs.asking.check_tokens.Goals as goal

pub returns-in_err-tokens : goal.returns-in_err-tokens
returns-in_err-tokens c =
    let p = err_from_is_err_and c.from_residual.result c.from_residual.ensures.1 in
    rw (p.1, p.2) (no_tokens c.in_err-tokens.field-0.0 c.in_err-tokens.ensures.fault refl)

pub returns : goal.returns
returns c =
    let e = c.in_ok-tokens.ensures in
    let cut : IsCutOf c.args.text.now c.in_ok-tokens.tokens = record { source = e.source; cut = e.tokens } in
    let first : first_other c.in_ok-tokens.tokens.located ≡ Some c.in-Some.at = search rules in
    other_token c.in_ok-tokens.tokens cut c.in-Some.at first (ap (λ (p : Place). Module (Syntax p)) c.place.ensures)
